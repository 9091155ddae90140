-- The refusals of settings and of runs that don't begin, as values.
use Rattle.std.specs.Prelude.{codes}
use Rattle.vsi_drive.specs.declared.boundary.BoundaryFault.{BoundaryFault}
use Rattle.vsi_drive.specs.declared.boundary.BoundaryFault.TheVariants as boundary
use Rattle.vsi_drive.specs.declared.settings.LineFault.{LineFault}
use Rattle.vsi_drive.specs.declared.settings.LineFault.TheVariants.{TooLong, BadSetting, UnknownGlobal, AboveClass, NotAnInput, NotANumber}
use Rattle.vsi_drive.specs.declared.boundary.StartFault.{StartFault}
use Rattle.vsi_drive.specs.declared.boundary.StartFault.TheVariants as start
use Rattle.vsi_answers.specs.Diagnostic.{Diagnostic, nothing, number, refusal}

-- The diagnostic of a wrong setting.
abbrev pub setting_diagnostic : LineFault → Diagnostic
setting_diagnostic TooLong = refusal 44 (codes "LineTooLong") nothing
setting_diagnostic (BadSetting n) = refusal 45 (codes "BadSetting") (number n)
setting_diagnostic (UnknownGlobal n) = refusal 46 (codes "NoGlobal") (number n)
setting_diagnostic (AboveClass n) = refusal 47 (codes "AboveClass") (number n)
setting_diagnostic (NotAnInput n) = refusal 60 (codes "NotAnInput") (number n)
setting_diagnostic (NotANumber n) = refusal 48 (codes "NoNumber") (number n)

-- The diagnostic of a faulty boundary.
abbrev pub boundary_diagnostic : BoundaryFault → Diagnostic
boundary_diagnostic (boundary.UnknownInput n) = refusal 61 (codes "UnknownInput") (number n)
boundary_diagnostic (boundary.InputAboveClass n) = refusal 62 (codes "InputAboveClass") (number n)
boundary_diagnostic (boundary.UnknownOutput n) = refusal 63 (codes "UnknownOutput") (number n)
boundary_diagnostic (boundary.OutputAboveClass n) = refusal 64 (codes "OutputAboveClass") (number n)
boundary_diagnostic (boundary.NotAnOutput n) = refusal 65 (codes "NotAnOutput") (number n)

-- The diagnostic of a run that doesn't begin.
abbrev pub start_diagnostic : StartFault → Diagnostic
start_diagnostic (start.Setting f) = setting_diagnostic f
start_diagnostic (start.Boundary f) = boundary_diagnostic f
start_diagnostic (start.Unnamed i) = refusal 56 (codes "GlobalNotNamed") (number i)
