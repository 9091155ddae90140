-- The meaning of a refusal for an image.
use Rattle.std.specs.Prelude.{◌≡◌, ℕ, List, slice_get, Some, None}
use Rattle.vsi_lattice.specs.Order.{Lattice}
use Rattle.vsi_image.specs.declared.instr.Image.{Image}
use Rattle.vsi_image.specs.Fields.{Global, globals}
use Rattle.vsi_scope.specs.Program.{Resolved}
use Rattle.vsi_types.specs.declared.rules.Profile.{Profile}
use Rattle.vsi_types.specs.declared.rules.Step.{Step}
use Rattle.vsi_types.specs.Security.{program}
use Rattle.vsi_infer.specs.Inference.{IsShortest}
use Rattle.vsi_lattice.specs.Known.{Known}
use Rattle.vsi_audit.specs.Standing.{HaveClasses, StandsFor}
use Rattle.vsi_audit.specs.Structure.{HasCommands}
use Rattle.vsi_audit.specs.declared.flow.AuditError.{AuditError}
use Rattle.vsi_audit.specs.declared.flow.AuditError.TheVariants.{UnknownClass, Unstructured, WrongFields, NoText, Flow, Memory}
use Rattle.vsi_audit.specs.declared.flow.Unread.{Unread}
use Rattle.vsi_audit.specs.declared.flow.Unread.TheVariants as unread

-- The error for code that wasn't read back.
abbrev pub unread_as : Unread → AuditError
unread_as (unread.At place) = Unstructured place
unread_as unread.Fields = WrongFields
unread_as unread.Memory = Memory

-- The class name of this global is unknown.
abbrev pub IsUnknownAt : Known → List Global → ℕ → Type 0
IsUnknownAt known gs i = (g : Global) × (slice_get gs i ≡ Some g) × (known g.1 ≡ None)

-- The image is that of a program, these steps are a bad walk of the program, and no bad walk has fewer.
pub record IsBadWalkOfImage (known : Known) (L : Lattice) (P : Profile) (im : Image) (steps : List Step) : Type 0 where
  pub read : Resolved
  pub classes : HaveClasses known read.globals
  pub stands : StandsFor read im
  pub shortest : IsShortest L P (program read) steps

-- The refusal is for a class name that the lattice lacks, for code that isn't that of commands within the limits of
-- texts, or for a bad walk of the image's program.
abbrev pub Refuses : Known → Lattice → Profile → Image → AuditError → Type 0
Refuses known L P im (UnknownClass i) = IsUnknownAt known (globals im.globals.items) i
Refuses known L P im (Unstructured place) = HasCommands im → ⊥
Refuses known L P im WrongFields = Unit {0}
Refuses known L P im NoText = ⊥
Refuses known L P im (Flow walk) = IsBadWalkOfImage known L P im walk.steps.items
Refuses known L P im Memory = Unit {0}
