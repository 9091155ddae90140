-- When an image conforms to an interface, and what is reported of one that doesn't.
use Rattle.std.specs.Prelude.{◌≡◌, ◌≢◌, Bool, ◌&&◌, not, Option, Some, None, is_some}
use Rattle.vsi_lattice.specs.Order.{Lattice}
use Rattle.vsi_lattice.specs.declared.lattice.Lattice as named
use Rattle.vsi_lattice.specs.LatticeView.{class_named, order}
use Rattle.vsi_lattice.specs.Known.{Known}
use Rattle.vsi_types.specs.declared.rules.Profile.{Profile}
use Rattle.vsi_types.specs.declared.rules.Profile.TheVariants as profile
use Rattle.vsi_image.specs.declared.instr.Image.{Image}
use Rattle.vsi_compiler.specs.Observation.{IsNoninterfering, EndsAlike}
use Rattle.vsi_audit.specs.Refusal as audit
use Rattle.vsi_audit.specs.Standing.{HasKnownClasses}
use Rattle.vsi_audit.specs.declared.flow.AuditError.{AuditError}
use Rattle.vsi_audit.specs.declared.flow.AuditError.TheVariants as error
use Rattle.vsi_steady.specs.Steady.{IsSteady}
use Rattle.vsi_steady.specs.Refusal as steady
use Rattle.vsi_steady.specs.declared.check.SteadyError.TheVariants as unsteady
use Rattle.vsi_conform.specs.declared.interface.Interface.{Interface}
use Rattle.vsi_conform.specs.declared.interface.Judgement.{Judgement}
use Rattle.vsi_conform.specs.declared.interface.Judgement.TheVariants.{Base, Strict, Steady}
use Rattle.vsi_conform.specs.Bounded.{ReportsBound}
use Rattle.vsi_conform.specs.Conforms.{Fits}
use Rattle.vsi_conform.specs.Points.{is_none_told, points_of}
use Rattle.vsi_conform.specs.declared.images.Answer.{Answer}
use Rattle.vsi_conform.specs.declared.images.Refusal.{Refusal}
use Rattle.vsi_conform.specs.declared.images.Refusal.TheVariants as refusal

-- An image is noninterfering, and its runs end alike where the strict profile judges it.
pub record IsAudited (known : Known) (L : Lattice) (P : Profile) (image : Image) : Type 0 where
  pub classes : HasKnownClasses known image
  pub noninterfering : IsNoninterfering known L image
  pub endings : P ≡ profile.Strict → EndsAlike known L image

-- An image is as the profile of an interface requires.
abbrev pub IsAcceptedAs : Known → Lattice → Judgement → Image → Type 0
IsAcceptedAs known L Base image = IsAudited known L profile.Base image
IsAcceptedAs known L Strict image = IsAudited known L profile.Strict image
IsAcceptedAs known L Steady image = IsSteady known L image

-- The image conforms to the interface: it is as the profile requires, and has the globals, the runs and the bound.
pub record Conforms (l : named.Lattice) (image : Image) (i : Interface) : Type 0 where
  pub accepted : IsAcceptedAs (class_named l) (order l) i.judgement image
  pub fits : Fits i image

-- ---- the answer.

-- The audit under a profile refuses the image for this reason, which isn't memory.
pub record IsUnaudited (known : Known) (L : Lattice) (P : Profile) (image : Image) (e : AuditError) : Type 0 where
  pub other : e ≢ error.Memory
  pub told : audit.Refuses known L P image e

-- The audit under a profile refuses the image.
abbrev pub IsRefused : Known → Lattice → Profile → Image → Refusal → Type 0
IsRefused known L P image (refusal.Audit e) = IsUnaudited known L P image e
IsRefused known L P image (refusal.Steady e) = ⊥

-- The image isn't steady, for this reason, which isn't memory.
abbrev pub IsUnsteady : Known → Lattice → Image → Refusal → Type 0
IsUnsteady known L image (refusal.Audit e) = ⊥
IsUnsteady known L image (refusal.Steady e) = (e ≢ unsteady.Memory) × steady.Refuses known L image e

-- The audit under a profile accepts the image, or refuses it for this reason.
abbrev pub IsAuditedAs : Known → Lattice → Profile → Image → Option Refusal → Type 0
IsAuditedAs known L P image None = IsAudited known L P image
IsAuditedAs known L P image (Some e) = IsRefused known L P image e

-- The image is steady, or it isn't for this reason.
abbrev pub IsSteadied : Known → Lattice → Image → Option Refusal → Type 0
IsSteadied known L image None = IsSteady known L image
IsSteadied known L image (Some e) = IsUnsteady known L image e

-- The image is as the profile of an interface requires, or it is refused for this reason.
abbrev pub IsJudged : Known → Lattice → Judgement → Image → Option Refusal → Type 0
IsJudged known L Base image = IsAuditedAs known L profile.Base image
IsJudged known L Strict image = IsAuditedAs known L profile.Strict image
IsJudged known L Steady image = IsSteadied known L image

-- The answer is correct: the verdict, the points of the globals and the runs, and the report about the bound.
pub record Tells (l : named.Lattice) (image : Image) (i : Interface) (a : Answer) : Type 0 where
  pub judged : IsJudged (class_named l) (order l) i.judgement image a.refusal
  pub points : a.points.items ≡ points_of image i
  pub bound : ReportsBound i.bounded image a.unbounded

-- Nothing differs.
abbrev pub is_conforming : Answer → Bool
is_conforming a = not (is_some a.refusal) && is_none_told a.points.items && not (is_some a.unbounded)
