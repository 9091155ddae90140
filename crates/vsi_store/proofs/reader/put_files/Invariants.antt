use Rattle.std.proofs.Common.{◌≡◌, ◌++◌, drop, map}
use Rattle.std.specs.List.{flat_map}
use Rattle.vsi_store.specs.Evidence.{filed, sum_line}
use Rattle.vsi_store.proofs.reader.put_files.Given as goal

-- The lines so far are followed by those of the remaining files.
abbrev pub invariant-loop-file : goal.invariant-loop-file
invariant-loop-file l =
    l.text.items ++ flat_map sum_line (map filed (drop l.file-index l.files))
    ≡ l.initial.text.items ++ flat_map sum_line (map filed l.files)
