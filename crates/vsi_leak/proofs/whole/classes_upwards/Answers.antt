use Rattle.std.proofs.Common.{rules, ℕ, All}
use Rattle.std.proofs.lemmas.List.Sorted.{All-permutation}
use Rattle.vsi_lattice.specs.LatticeView.{order}
use Rattle.vsi_lattice.specs.Order.{IsClass}
use Rattle.vsi_leak.proofs.whole.classes_upwards.Goals as goal

pub loop-class-preserved : goal.loop-class-preserved
loop-class-preserved c =
    let within : All (λ (ranked : ℕ × ℕ). IsClass (order c.args.lattice.now) ranked.1) c.sort_by_key.new.self.items =
    All-permutation (λ (ranked : ℕ × ℕ). IsClass (order c.args.lattice.now) ranked.1) c.loop-number.ranked.items
    c.sort_by_key.new.self.items c.sort_by_key.ensures.permutation c.loop-number.invariant.0 in
    search (rules, within)
