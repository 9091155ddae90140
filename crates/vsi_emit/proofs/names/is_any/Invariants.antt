use Rattle.std.proofs.Common.{◌≡◌, drop}
use Rattle.vsi_emit.specs.Names.{is_any}
use Rattle.vsi_emit.proofs.names.is_any.Given as goal

abbrev pub invariant-loop-word : goal.invariant-loop-word
invariant-loop-word l = is_any (drop l.word-index l.words) l.name ≡ is_any l.words l.name
