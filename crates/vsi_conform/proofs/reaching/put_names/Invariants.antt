use Rattle.std.proofs.Common.{◌≡◌, ◌++◌, drop}
use Rattle.vsi_conform.specs.Reading.{bytes_of}
use Rattle.vsi_conform.specs.ReachedLines as spec
use Rattle.vsi_conform.proofs.reaching.put_names.Given as goal

-- The names so far are followed by the remaining ones.
abbrev pub invariant-loop-name : goal.invariant-loop-name
invariant-loop-name l =
    l.text.items ++ spec.spaced (bytes_of (drop l.name-index l.names)) ≡ l.initial.text.items ++ spec.spaced (bytes_of l.names)
