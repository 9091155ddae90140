use Rattle.std.proofs.Common.{rules}
use Rattle.std.proofs.KnownBytes.{Consumes-trans}
use Rattle.std.proofs.lemmas.List.{places}
use Rattle.vsi_drive.proofs.Bytes.{first_bytes, all_bytes, took_nothing}
use Rattle.vsi_drive.proofs.engine.read_all.Goals as goal
use Rattle.vsi_drive.proofs.engine.read_all.Goals.{else-loop-chunk-test, then-loop-chunk-test+in-Ok-eq0}

pub returns-in_err-map_err-in-Ok-clause-bound : goal.returns-in_err-map_err-in-Ok-clause-bound
returns-in_err-map_err-in-Ok-clause-bound g c =
    (_, Consumes-trans _ _ _ _ _ c.loop-chunk.invariant.taken c.in-Ok.ensures.bytes.0, search (rules, places))

pub returns-clause-bytes : goal.returns-clause-bytes
returns-clause-bytes g c = elim c.loop-chunk-test.branch [
  | else-loop-chunk-test w ↦ first_bytes _ _ _ 1048577 c.loop-chunk.invariant.taken
      (search (rules, w.loop-chunk-test))
  | then-loop-chunk-test+in-Ok-eq0 w ↦
      all_bytes _ _ _ 1048577
      (took_nothing _ _ _ _ _ w.in-Ok-eq0.field-0 c.loop-chunk.invariant.taken (search rules)
      w.in-Ok-eq0.ensures.bytes.0)
      (w.in-Ok-eq0.ensures.bytes.1 (search rules) (search (rules, places))) c.loop-chunk.invariant.bound
]
