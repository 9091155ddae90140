-- The answer of a check as a document.
use Rattle.std.specs.Prelude.{◌≡◌, ℕ, Bool, true, false, List, [], Some}
use Rattle.vsi_lattice.specs.declared.lattice.Lattice.{Lattice}
use Rattle.vsi_lattice.specs.LatticeView.{class_named, order}
use Rattle.vsi_image.specs.declared.instr.Image.{Image}
use Rattle.vsi_steady.specs.declared.source.UnsteadyError.{UnsteadyError}
use Rattle.vsi_answers.specs.Diagnostic.{Diagnostic}
use Rattle.vsi_conform.specs.declared.interface.Judgement.{Judgement}
use Rattle.vsi_conform.specs.Checking.{unsteady_diagnostic}
use Rattle.vsi_conform.specs.Conforms.{IsAcceptedAs, IsRefusedAs}
use Rattle.vsi_conform.specs.Lines.{IsRefusalLines, is_steady}
use Rattle.vsi_documents.specs.Document.{document_text}
use Rattle.vsi_documents.specs.Location.{uri_of}
use Rattle.vsi_documents.specs.Refusals.{IsRefusalDocument}

-- The text has an image as required, and the document has no result.
pub record TellsAccepted (l : Lattice) (j : Judgement) (text out : List ℕ) : Type 0 where
  pub image : Image
  pub accepted : IsAcceptedAs (class_named l) (order l) j text image
  pub document : out ≡ document_text [] []

-- The document is that of a refusal, with the lines that `check` prints for it.
pub record WritesRefusal (l : Lattice) (j : Judgement) (path text : List ℕ) (e : UnsteadyError) (out : List ℕ)
    : Type 0 where
  pub diagnostic : Diagnostic
  pub is : unsteady_diagnostic text e ≡ Some diagnostic
  pub lines : List ℕ
  pub printed : IsRefusalLines l text (is_steady j) e lines
  pub document : IsRefusalDocument l (uri_of path) text diagnostic lines out

-- The text is refused, and the document is that of its refusal.
pub record TellsRefused (l : Lattice) (j : Judgement) (path text out : List ℕ) : Type 0 where
  pub error : UnsteadyError
  pub refused : IsRefusedAs (class_named l) (order l) j text error
  pub writes : WritesRefusal l j path text error out

-- The document is the answer for the text of the file at a path, which is accepted or refused.
abbrev pub TellsDocument : Lattice → Judgement → List ℕ → List ℕ → Bool → List ℕ → Type 0
TellsDocument l j path text true out = TellsAccepted l j text out
TellsDocument l j path text false out = TellsRefused l j path text out
