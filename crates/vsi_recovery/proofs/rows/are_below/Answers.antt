use Rattle.std.proofs.Common.{ℕ, ◌<◌, sym, subst, arith}
use Rattle.std.proofs.lemmas.List.{take_more, take_all}
use Rattle.std.proofs.lemmas.List.Elements.{All-push}
use Rattle.vsi_lattice.specs.Pairs.{ArePairsBelow}
use Rattle.vsi_recovery.proofs.rows.are_below.Goals as goal

pub loop-i-preserved : goal.loop-i-preserved
loop-i-preserved c =
    subst (ArePairsBelow c.args.count) (sym (take_more c.args.pairs.now c.loop-i.i (0, 0) c.loop-i-test.true))
    (All-push (λ (p : ℕ × ℕ). (p.0 < c.args.count) × (p.1 < c.args.count)) _ _ c.loop-i.invariant (omega arith, omega arith))

pub returns : goal.returns
returns c t =
    subst (ArePairsBelow c.args.count) (take_all c.loop-i.i c.args.pairs.now (omega (arith, c.loop-i-test.false)))
    c.loop-i.invariant
