-- The answer of an audit as a document.
use Rattle.std.specs.Prelude.{◌≡◌, ℕ, Bool, true, false, List, [], None}
use Rattle.vsi_lattice.specs.LatticeView.{class_named, order}
use Rattle.vsi_lattice.specs.declared.lattice.Lattice.{Lattice}
use Rattle.vsi_image.specs.declared.instr.Image.{Image}
use Rattle.vsi_answers.specs.Diagnostic.{Diagnostic}
use Rattle.vsi_conform.specs.declared.interface.Judgement.{Judgement}
use Rattle.vsi_conform.specs.ImageConforms.{IsJudged}
use Rattle.vsi_conform.specs.ImageLines.{IsRefusedAs}
use Rattle.vsi_documents.specs.Document.{document_text}
use Rattle.vsi_documents.specs.Location.{uri_of}
use Rattle.vsi_documents.specs.Refusals.{IsRefusalDocument}

-- The image is refused, and the document is that of its refusal, with the lines of `audit`.
pub record TellsRefused (l : Lattice) (j : Judgement) (path : List ℕ) (image : Image) (out : List ℕ) : Type 0 where
  pub diagnostic : Diagnostic
  pub lines : List ℕ
  pub refused : IsRefusedAs l j image diagnostic lines
  pub document : IsRefusalDocument l (uri_of path) [] diagnostic lines out

-- The document about the image of the file at a path, which is as a judgement requires, and then has no result, or
-- is refused.
abbrev pub TellsJudged : Lattice → Judgement → List ℕ → Image → Bool → List ℕ → Type 0
TellsJudged l j path image true out = IsJudged (class_named l) (order l) j image None × (out ≡ document_text [] [])
TellsJudged l j path image false out = TellsRefused l j path image out
