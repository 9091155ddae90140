use Rattle.std.proofs.Common.{◌≡◌, ◌++◌, drop, true}
use Rattle.vsi_report.specs.Filled.{fill, filled}
use Rattle.vsi_report.specs.Parts.{are_stated, texts_of}
use Rattle.vsi_report.proofs.page.fill.Given as goal

abbrev pub invariant-loop-byte : goal.invariant-loop-byte
invariant-loop-byte l =
    are_stated l.parts ≡ true →
    l.page.items ++ filled (texts_of l.parts) l.is_hole (drop l.byte-index l.markup)
    ≡ l.initial.page.items ++ fill l.markup (texts_of l.parts)
