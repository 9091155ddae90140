-- Pieces of a stream of messages.
use Rattle.std.specs.Prelude.{ℕ, ◌+◌, ◌≤◌}
use Rattle.vsi_client.specs.declared.pieces.Piece.{Piece}
use Rattle.vsi_client.specs.declared.pieces.Piece.TheVariants.{Unfinished, Message, Faulty}

-- A message and its header lie within so many bytes.
abbrev pub IsWithin : ℕ → Piece → Type 0
IsWithin size Unfinished = Unit {0}
IsWithin size (Message header length) = header + length ≤ size
IsWithin size Faulty = Unit {0}
