use Rattle.std.proofs.Common.{◌≡◌, ℕ, ◌+◌, ◌-◌, ◌*◌, length}
use Rattle.vsi_scope.specs.Language.{letvars}
use Rattle.vsi_scope.specs.View.{sequence}
use Rattle.vsi_audit.specs.Reading.{Readable, IsRead, Leaves}
use Rattle.vsi_audit.proofs.lasting.+lasting.Given as goal

abbrev pub decreases-read_all : goal.decreases-read_all
decreases-read_all l = 2 * (l.room.blocks + (l.room.limit - l.room.scope)) + 1

abbrev pub decreases-read_one : goal.decreases-read_one
decreases-read_one l = 2 * (l.room.blocks + (l.room.limit - l.room.scope))

abbrev pub invariant-read_all-loop-place : goal.invariant-read_all-loop-place
invariant-read_all-loop-place l = record {
  read : IsRead l.code l.room.limit l.room.scope l.from l.place (sequence l.body.items);
  count : length l.starts.items ≡ length l.initial.starts.items + letvars (sequence l.body.items);
  rest : (n : ℕ) → Readable l.code l.room.limit l.from l.to l.room.scope l.room.blocks n →
      Leaves l.code l.room.limit l.place l.to l.room.scope l.room.blocks n (letvars (sequence l.body.items));
}

abbrev pub decreases-read_all-loop-place : goal.decreases-read_all-loop-place
decreases-read_all-loop-place l = l.to - l.place
