use Rattle.std.proofs.Common.{◌≡◌, drop}
use Rattle.vsi_image.specs.Fields.{globals}
use Rattle.vsi_drive.specs.Reaches.{settable}
use Rattle.vsi_drive.specs.Settings as spec
use Rattle.vsi_drive.proofs.settings.setting.Given as goal

-- The target among the remaining globals is the target among all.
abbrev pub invariant-loop-i : goal.invariant-loop-i
invariant-loop-i l =
    spec.target_from (settable l.reach) l.number l.i (globals (drop l.i (settable l.reach).image.globals.items)) l.name
    ≡ spec.target_from (settable l.reach) l.number 0 (globals (settable l.reach).image.globals.items) l.name
