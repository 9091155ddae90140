use Rattle.std.proofs.Common.{◌≡◌, ◌++◌, take}
use Rattle.vsi_report.specs.Escape.{escaped}
use Rattle.vsi_report.proofs.page.put_escaped.Given as goal

abbrev pub invariant-loop-byte : goal.invariant-loop-byte
invariant-loop-byte l = l.page.items ≡ l.initial.page.items ++ escaped (take l.byte-index l.text)
