use Rattle.std.proofs.Common.{arith, ◌<◌, ℕ, below_more}
use Rattle.vsi_lattice.specs.Order.{HasJoin}
use Rattle.vsi_lattice.specs.Pairs.{Says}
use Rattle.vsi_lattice.specs.Tables.{table_has}
use Rattle.vsi_lattice.proofs.table.first_unjoined.Goals as goal

pub loop-b-preserved : goal.loop-b-preserved
loop-b-preserved c =
    below_more (λ y. HasJoin c.args.count (Says (table_has c.args.table.now)) c.loop-a.a y) c.loop-b.b
    c.loop-b.invariant
    (c.in-Some.field-0, c.in-Some.ensures.some)

pub loop-a-preserved : goal.loop-a-preserved
loop-a-preserved c x y hx hy =
    below_more (λ x. (y : ℕ) → y < c.args.count →
    HasJoin c.args.count (Says (table_has c.args.table.now)) x y) c.loop-a.a
    (λ x p y q. c.loop-a.invariant x y p q) (λ y q. c.loop-b.invariant y (omega (arith, q))) x hx y hy
