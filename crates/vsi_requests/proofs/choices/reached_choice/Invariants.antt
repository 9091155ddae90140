use Rattle.std.proofs.Common.{map, take, All}
use Rattle.std.specs.List.{AllZip}
use Rattle.vsi_lattice.specs.LatticeView.{order}
use Rattle.vsi_lattice.specs.Order.{IsClass}
use Rattle.vsi_types.specs.Security.{Keeps}
use Rattle.vsi_requests.proofs.choices.reached_choice.Given as goal

-- The choice has a class for each letvar so far, and keeps the declared ones.
abbrev pub invariant-loop-entry : goal.invariant-loop-entry
invariant-loop-entry l =
    record {
      kept : AllZip Keeps (map (λ e. e.class) (take l.entry-index l.entry-items)) l.choice.items;
      classes : All (IsClass (order l.lattice)) l.choice.items;
    }
