use Rattle.std.proofs.Common.{take}
use Rattle.vsi_report.specs.Reading.{Shows}
use Rattle.vsi_report.proofs.panel.panel_of.Given as goal

-- The page shows the text so far.
abbrev pub invariant-loop-at : goal.invariant-loop-at
invariant-loop-at l = Shows l.page.items (take l.at l.source)
