use Rattle.std.proofs.Common.{◌≡◌, ◌++◌, drop, map}
use Rattle.serde_json.specs.View.{view}
use Rattle.vsi_conform.specs.Conformity.{strings}
use Rattle.vsi_conform.specs.Reading.{bytes_of}
use Rattle.vsi_conform.proofs.conformity.names_of.Given as goal

-- The strings so far and those of the remaining names are all strings.
abbrev pub invariant-loop-name : goal.invariant-loop-name
invariant-loop-name l =
    map view l.made ++ strings (bytes_of (drop l.name-index l.names)) ≡ strings (bytes_of l.names)
