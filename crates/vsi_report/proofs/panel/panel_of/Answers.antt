use Rattle.std.proofs.Common.{◌≡◌, [], ◌++◌, length, take, ap, sym, subst, ◌∙◌, arith}
use Rattle.std.specs.Prelude.{codes}
use Rattle.std.proofs.lemmas.List.{take_more}
use Rattle.std.proofs.Math.Seq.{take-length}
use Rattle.vsi_report.specs.Reading.{Shows}
use Rattle.vsi_report.specs.Panel.{line_tag}
use Rattle.vsi_report.proofs.EscapeLemmas.{end_shows, line_shows, more_shows}
use Rattle.vsi_report.proofs.panel.panel_of.Goals as goal

pub loop-at-init : goal.loop-at-init
loop-at-init c =
    subst (λ x. Shows x [])
    (sym (c.in_ok-put_line.ensures ∙ ap (λ x. x ++ line_tag 1) c.new-page.ensures.items)) (line_shows 1)

pub loop-at-preserved : goal.loop-at-preserved
loop-at-preserved c =
    let s = c.args.source.now in
    subst (Shows c.put_at.new.page.items) (sym (take_more s c.loop-at.at 0 (omega (arith, c.loop-at-test.true))))
    (c.in_ok-place.ensures (take c.loop-at.at s) c.loop-at.invariant)

pub returns : goal.returns
returns c =
    let s = c.args.source.now in
    let p = c.put_end.new.page.items in
    let all : c.loop-at.at ≡ length s = omega (arith, c.loop-at-test.false) in
    let whole : take c.loop-at.at s ≡ s = ap (λ n. take n s) all ∙ take-length s in
    subst (λ x. Shows x s) (sym c.in_ok-extend_from_slice.ensures.items)
    (more_shows p (codes "</span>") s
    (subst (Shows p) whole (c.in_ok-put_end.ensures (take c.loop-at.at s) c.loop-at.invariant)) end_shows)
