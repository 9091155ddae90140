-- The lines of a refusal, and the rows of an answer.
use Rattle.std.specs.Prelude.{◌≡◌, ℕ, List, Option, Some, None}
use Rattle.std.specs.Global.{Vec}
use Rattle.vsi_lattice.specs.declared.lattice.Lattice.{Lattice}
use Rattle.vsi_image.specs.declared.instr.Image.{Image}
use Rattle.vsi_audit.specs.Telling.{IsAuditText}
use Rattle.vsi_steady.specs.Telling.{IsUnsteadyText}
use Rattle.vsi_lattice.specs.LatticeView.{class_named, order}
use Rattle.vsi_answers.specs.Diagnostic.{Diagnostic}
use Rattle.vsi_conform.specs.declared.interface.Interface.{Interface}
use Rattle.vsi_conform.specs.declared.interface.Judgement.{Judgement}
use Rattle.vsi_conform.specs.Checking.{audit_diagnostic, steady_diagnostic}
use Rattle.vsi_conform.specs.ImageConforms.{IsJudged}
use Rattle.vsi_conform.specs.Rows.{Row, numbered_held, rows_of}
use Rattle.vsi_conform.specs.declared.images.Answer.{Answer}
use Rattle.vsi_conform.specs.declared.images.Refusal.{Refusal}
use Rattle.vsi_conform.specs.declared.images.Refusal.TheVariants.{Audit, Steady}

-- The lines of a refusal are those of `audit`.
abbrev pub IsRefusalLines : Lattice → Image → Refusal → List ℕ → Type 0
IsRefusalLines l image (Audit e) out = IsAuditText l image e out
IsRefusalLines l image (Steady e) out = IsUnsteadyText l image e out

-- A refusal as a value; none if memory ran out.
abbrev pub diagnostic : Refusal → Option Diagnostic
diagnostic (Audit e) = audit_diagnostic e
diagnostic (Steady e) = steady_diagnostic e

-- The image isn't as a profile requires, and this is its refusal with its lines.
pub record IsRefusedAs (l : Lattice) (j : Judgement) (image : Image) (d : Diagnostic) (lines : List ℕ) : Type 0 where
  pub refusal : Refusal
  pub refused : IsJudged (class_named l) (order l) j image (Some refusal)
  pub is : diagnostic refusal ≡ Some d
  pub printed : IsRefusalLines l image refusal lines

-- The image is as a profile requires, or this is its refusal with its lines.
abbrev pub TellsRefusal : Lattice → Judgement → Image → Option (Diagnostic × List ℕ) → Type 0
TellsRefusal l j image None = IsJudged (class_named l) (order l) j image None
TellsRefusal l j image (Some told) = IsRefusedAs l j image told.0 told.1

-- The lines of the refusal, if there is one.
abbrev pub AreFirst : Lattice → Image → Option Refusal → Option (Vec ℕ) → Type 0
AreFirst l image None None = Unit {0}
AreFirst l image None (Some lines) = ⊥
AreFirst l image (Some e) None = ⊥
AreFirst l image (Some e) (Some lines) = IsRefusalLines l image e lines.items

-- These are the rows of an answer: of the refusal, of each point, with the globals of the image, and of the bound. There
-- are none exactly if nothing differs.
pub record AreImageRows (l : Lattice) (image : Image) (i : Interface) (a : Answer) (rows : List Row) : Type 0 where
  pub first : Option (Vec ℕ)
  pub refusal : AreFirst l image a.refusal first
  pub are : rows ≡ rows_of i (numbered_held image) first a.points.items a.unbounded
