use Rattle.std.proofs.Common.{rules, ◌≡◌, ℕ, ◌+◌, ◌*◌, get_or, set, ◌/◌, ◌==◌, ◌||◌, ◌&&◌, arith, ap, ◌∙◌, refl}
use Rattle.std.specs.Prelude.{nat_lt, bit_or}
use Rattle.vsi_infer.specs.FlowRows.{flow_has}
use Rattle.vsi_infer.proofs.RowLemmas.{or_word, row_more, row_whole, row_none}
use Rattle.vsi_infer.proofs.flows.note_row.Goals as goal

pub loop-i-preserved : goal.loop-i-preserved
loop-i-preserved c = record {
  len = search rules;
  bits = λ a b. or_word c.loop-i.rows _ c.args.words.now c.args.row c.args.from c.loop-i.i (omega arith)
      (omega (arith, c.loop-i.invariant.len))
      (ap (λ (w : ℕ). set c.loop-i.rows (c.args.row * 16 + c.loop-i.i)
      (bit_or (get_or c.loop-i.rows (c.args.row * 16 + c.loop-i.i) 0) w)) c.word_at.ensures) a b
      ∙ ap (λ x. x || ((b == c.args.row) && ((a / 64 == c.loop-i.i) && flow_has c.args.words.now c.args.from a)))
      (c.loop-i.invariant.bits a b)
      ∙ row_more (flow_has c.args.rows.now b a) (b == c.args.row) (flow_has c.args.words.now c.args.from a) (a / 64)
      c.loop-i.i;
}

pub loop-i-init : goal.loop-i-init
loop-i-init c = record {
  len = refl;
  bits = λ a b. row_none (flow_has c.args.rows.now b a) (b == c.args.row)
      (flow_has c.args.words.now c.args.from a) (a / 64);
}

pub returns-clause-bits : goal.returns-clause-bits
returns-clause-bits c a b =
    let e : c.loop-i.i ≡ 16 = omega arith in
    c.loop-i.invariant.bits a b ∙ ap (λ (i : ℕ). flow_has c.args.rows.now b a ||
    ((b == c.args.row) && (nat_lt (a / 64) i && flow_has c.args.words.now c.args.from a))) e
    ∙ row_whole c.args.words.now c.args.from (flow_has c.args.rows.now b a) (b == c.args.row) a
