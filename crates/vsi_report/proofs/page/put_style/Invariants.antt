use Rattle.std.proofs.Common.{◌≡◌, ◌++◌, take}
use Rattle.vsi_report.specs.Banner.{untagged}
use Rattle.vsi_report.proofs.page.put_style.Given as goal

abbrev pub invariant-loop-byte : goal.invariant-loop-byte
invariant-loop-byte l = l.page.items ≡ l.initial.page.items ++ untagged (take l.byte-index l.style)
