use Rattle.std.proofs.Common.{◌≡◌, ◌∙◌, ◌++◌, ℕ, List, true, false, sym, ap, arith}
use Rattle.vsi_syntax.specs.Lines.{breaks}
use Rattle.vsi.proofs.Lines.{all_short, cut_short, cut_shown}
use Rattle.vsi.proofs.shortening.shortened.Goals as goal
use Rattle.vsi.proofs.shortening.shortened.Goals.{then-is_whole-via-then-is_whole, then-is_whole-via-else-is_whole+then-line_feeds-lt-MOST}

pub returns-then-is_whole-clause-short : goal.returns-then-is_whole-clause-short
returns-then-is_whole-clause-short c = λ cut. elim c.then-is_whole.branch [
  | then-is_whole-via-then-is_whole w ↦ let both : false ≡ true = sym cut ∙ w.if-is_whole.true in absurd (cc)
  | then-is_whole-via-else-is_whole+then-line_feeds-lt-MOST w ↦
      all_short c.args.lines.now c.extend_from_slice.new.self.items c.put_page.new.text.items c.args.code
      (omega (arith, w.line_feeds.ensures, w.if-line_feeds-lt-MOST.true)) c.put_page.ensures.one_line
      (c.in_ok-extend_from_slice.ensures.items ∙ ap (λ (l : List ℕ). l ++ c.args.lines.now) c.new-text.ensures.items)
      c.in_ok-put_page.ensures.put
]

pub returns-clause-shown : goal.returns-clause-shown
returns-clause-shown c =
    cut_shown c.args.lines.now c.split_at.result.0.now c.split_at-2.result.0.now c.split_at-2.result.1.now
    c.split_at.result.1.now c.extend_from_slice-2.new.self.items c.put.new.text.items
    c.extend_from_slice-3.new.self.items _ c.args.code c.head_length.result c.tail_place.result
    c.line_feeds-left.result c.split_at.ensures.front c.split_at.ensures.back c.split_at-2.ensures.front
    c.split_at-2.ensures.back c.line_feeds-left.ensures
    (c.in_ok-extend_from_slice-2.ensures.items
    ∙ ap (λ (l : List ℕ). l ++ c.split_at-2.result.0.now) c.new-text.ensures.items)
    c.in_ok-put.ensures.put c.in_ok-extend_from_slice-3.ensures.items c.in_ok-put_page-2.ensures.put

pub returns-clause-short : goal.returns-clause-short
returns-clause-short c = λ cut.
    cut_short c.split_at-2.result.0.now c.split_at.result.1.now c.extend_from_slice-2.new.self.items
    c.put.new.text.items c.extend_from_slice-3.new.self.items _ c.args.code c.line_feeds-left.result
    (omega (
      arith,
      ap breaks c.split_at-2.ensures.front,
      c.head_length.ensures.short,
      c.line_feeds-2.ensures,
      ap breaks c.split_at.ensures.back,
      c.tail_place.ensures.short,
    ))
    c.put_page-2.ensures.one_line c.put.ensures.one_line
    (c.in_ok-extend_from_slice-2.ensures.items
    ∙ ap (λ (l : List ℕ). l ++ c.split_at-2.result.0.now) c.new-text.ensures.items)
    c.in_ok-put.ensures.put c.in_ok-extend_from_slice-3.ensures.items c.in_ok-put_page-2.ensures.put
