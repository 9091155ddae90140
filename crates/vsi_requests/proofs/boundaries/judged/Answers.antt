use Rattle.std.proofs.Common.{◌∙◌, Some, sym, ap}
use Rattle.vsi_drive.specs.Control.{control}
use Rattle.vsi_drive.specs.Settings.{settings_of}
use Rattle.vsi_requests.proofs.Fed.{refused_fault}
use Rattle.vsi_requests.proofs.boundaries.judged.Goals as goal

pub returns-in-Refused : goal.returns-in-Refused
returns-in-Refused c =
    ap Some c.numbered.ensures
    ∙ sym (refused_fault (control c.args.controller.now) _ c.args.number
    (settings_of (control c.args.controller.now) c.args.setting.now) c.in-Refused.fault
    (sym c.in-Ok.ensures.ending ∙ c.in-Refused.is))
