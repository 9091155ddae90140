-- The answer of a check as a line of JSON.
use Rattle.std.specs.Prelude.{◌≡◌, ℕ, ◌++◌, Bool, true, false, List, Option, Some, None, codes}
use Rattle.vsi_lattice.specs.declared.lattice.Lattice.{Lattice}
use Rattle.vsi_lattice.specs.LatticeView.{class_named, order}
use Rattle.vsi_image.specs.declared.instr.Image.{Image}
use Rattle.vsi_types.specs.declared.rules.Profile.{Profile}
use Rattle.vsi_types.specs.declared.rules.Profile.TheVariants as profile
use Rattle.vsi_steady.specs.declared.check.SteadyError.{SteadyError}
use Rattle.vsi_steady.specs.declared.check.SteadyError.TheVariants as steady
use Rattle.vsi_steady.specs.declared.source.UnsteadyError.{UnsteadyError}
use Rattle.vsi_steady.specs.declared.source.UnsteadyError.TheVariants as unsteady
use Rattle.vsi_audit.specs.declared.flow.AuditError.{AuditError}
use Rattle.vsi_audit.specs.declared.flow.AuditError.TheVariants as audit
use Rattle.vsi_answers.specs.Diagnostic.{Diagnostic, nothing, number}
use Rattle.vsi_answers.specs.Json.{IsRefusalJson, accepted_line, refused_begin}
use Rattle.vsi_answers.specs.Source.{refusal_diagnostic, refused}
use Rattle.vsi_conform.specs.declared.interface.Judgement.{Judgement}
use Rattle.vsi_conform.specs.declared.interface.Judgement.TheVariants as judgement
use Rattle.vsi_conform.specs.Conforms.{IsAcceptedAs, IsRefusedAs}
use Rattle.vsi_conform.specs.Lines.{IsRefusalLines, is_steady}

-- The refusal of an image that isn't steady; none if memory ran out.
abbrev pub steady_diagnostic : SteadyError → Option Diagnostic
steady_diagnostic (steady.UnknownClass i) = refused 43 (codes "ClassNotInLattice") (number i)
steady_diagnostic (steady.Flow place) = refused 25 (codes "Refused") nothing
steady_diagnostic steady.Memory = None

-- The refusal of an image by an audit; none if memory ran out. Its steps have no position in a text.
abbrev pub audit_diagnostic : AuditError → Option Diagnostic
audit_diagnostic (audit.UnknownClass n) = refused 43 (codes "ClassNotInLattice") (number n)
audit_diagnostic (audit.Unstructured n) = refused 49 (codes "NoCommands") (number n)
audit_diagnostic audit.WrongFields = refused 50 (codes "WrongFields") nothing
audit_diagnostic audit.NoText = refused 51 (codes "NoText") nothing
audit_diagnostic (audit.Flow walk) = refused 25 (codes "Refused") nothing
audit_diagnostic audit.Memory = None

-- The refusal of a source text, with or without a demand for a steady image; none if memory ran out.
abbrev pub unsteady_diagnostic : List ℕ → UnsteadyError → Option Diagnostic
unsteady_diagnostic text (unsteady.Compile e) = refusal_diagnostic text e
unsteady_diagnostic text (unsteady.Image e) = steady_diagnostic e
unsteady_diagnostic text unsteady.Memory = None

-- The judgement by a profile.
abbrev pub judgement_by : Profile → Judgement
judgement_by profile.Base = judgement.Base
judgement_by profile.Strict = judgement.Strict

-- The text has an image as required, and the line says so.
pub record TellsAccepted (l : Lattice) (j : Judgement) (text out : List ℕ) : Type 0 where
  pub image : Image
  pub accepted : IsAcceptedAs (class_named l) (order l) j text image
  pub line : out ≡ accepted_line

-- The line is that of a refusal, with the lines that `check` prints for it.
pub record WritesRefusal (l : Lattice) (j : Judgement) (text : List ℕ) (e : UnsteadyError) (out : List ℕ) : Type 0 where
  pub diagnostic : Diagnostic
  pub is : unsteady_diagnostic text e ≡ Some diagnostic
  pub lines : List ℕ
  pub printed : IsRefusalLines l text (is_steady j) e lines
  pub json : IsRefusalJson l text diagnostic lines out

-- The text is refused, and the line is that of its refusal, with the fixed beginning.
pub record TellsRefused (l : Lattice) (j : Judgement) (text out : List ℕ) : Type 0 where
  pub error : UnsteadyError
  pub refused : IsRefusedAs (class_named l) (order l) j text error
  pub writes : WritesRefusal l j text error out
  pub rest : List ℕ
  pub line : out ≡ refused_begin ++ rest

-- The line is the answer for a text that is accepted or refused.
abbrev pub TellsAnswer : Lattice → Judgement → List ℕ → Bool → List ℕ → Type 0
TellsAnswer l j text true out = TellsAccepted l j text out
TellsAnswer l j text false out = TellsRefused l j text out

-- A line that begins like that of a refused text isn't the line of an accepted one.
abbrev pub BeginApart : Type 0
BeginApart = (rest : List ℕ) → ¬ (accepted_line ≡ refused_begin ++ rest)
