-- The judgement of an image as a line of JSON.
use Rattle.std.specs.Prelude.{◌≡◌, ℕ, Bool, true, false, List, [], None}
use Rattle.vsi_lattice.specs.LatticeView.{class_named, order}
use Rattle.vsi_lattice.specs.declared.lattice.Lattice.{Lattice}
use Rattle.vsi_image.specs.declared.instr.Image.{Image}
use Rattle.vsi_answers.specs.Diagnostic.{Diagnostic}
use Rattle.vsi_answers.specs.Json.{IsRefusalJson, accepted_line}
use Rattle.vsi_conform.specs.declared.interface.Judgement.{Judgement}
use Rattle.vsi_conform.specs.ImageConforms.{IsJudged}
use Rattle.vsi_conform.specs.ImageLines.{IsRefusedAs}

-- The image is refused, and the line is that of its refusal, with the lines of `audit`.
pub record TellsRefused (l : Lattice) (j : Judgement) (image : Image) (out : List ℕ) : Type 0 where
  pub diagnostic : Diagnostic
  pub lines : List ℕ
  pub refused : IsRefusedAs l j image diagnostic lines
  pub json : IsRefusalJson l [] diagnostic lines out

-- The line about an image, which is as a judgement requires or is refused.
abbrev pub TellsJudged : Lattice → Judgement → Image → Bool → List ℕ → Type 0
TellsJudged l j image true out = IsJudged (class_named l) (order l) j image None × (out ≡ accepted_line)
TellsJudged l j image false out = TellsRefused l j image out
