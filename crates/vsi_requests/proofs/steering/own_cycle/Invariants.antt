use Rattle.std.proofs.Common.{◌≡◌, length, map}
use Rattle.std.specs.Vec.Iter.{into_iter_items, into_iter_len}
use Rattle.vsi_conform.specs.Reading.{cycle}
use Rattle.vsi_subject.specs.Boundaries.{table_of}
use Rattle.vsi_requests.proofs.steering.own_cycle.Given as goal

-- The first table of the class is the first one among those that are left.
abbrev pub invariant-loop-cycle : goal.invariant-loop-cycle
invariant-loop-cycle l = record {
  whole : into_iter_len l.cycle-iterator ≡ length (into_iter_items l.cycle-iterator);
  same :
      table_of (map cycle (into_iter_items l.cycle-iterator)) l.class ≡ table_of (map cycle l.fn.cycles.items) l.class;
}
