-- The released outputs in the answer about a text or an image beside an interface.
use Rattle.std.specs.Prelude.{◌≡◌, ℕ, Bool, true, false, List, map, Option, Some, None}
use Rattle.std.specs.Global.{Vec}
use Rattle.vsi_lattice.specs.declared.lattice.Lattice.{Lattice}
use Rattle.vsi_image.specs.declared.instr.Image.{Image}
use Rattle.vsi_answers.specs.Judged.{AreImage}
use Rattle.vsi_arguments.specs.declared.request.AnswerForm.{AnswerForm}
use Rattle.vsi_arguments.specs.declared.request.AnswerForm.TheVariants.{Lines, Json, Sarif}
use Rattle.vsi_conform.specs.Reaching.{AreTextReleased, Released, are_within}
use Rattle.vsi_conform.specs.Conformity.{Said, Trial, conforms, json, lines}
use Rattle.vsi_conform.specs.Reading.{cycle}
use Rattle.vsi_conform.specs.declared.reader.InterfaceFile.{InterfaceFile}
use Rattle.vsi_conform.specs.ImageReaching.{AreImageReleased}
use Rattle.vsi_documents.specs.Findings.{rows_sarif}
use Rattle.vsi_subject.specs.Supplied.{JudgesImage}

-- The released outputs of an interface, by the flows of the image with these bytes or of this source text.
abbrev pub AreReleasedIn : Bool → Lattice → List ℕ → InterfaceFile → List Released → Type 0
AreReleasedIn true l bytes asked found =
    (image : Image) × AreImage bytes image
    × AreImageReleased l asked.interface.judgement image (map cycle asked.cycles.items) found
AreReleasedIn false l source asked found =
    AreTextReleased l asked.interface.judgement source (map cycle asked.cycles.items) found

-- The interface allows each global that reaches a released output in an image.
pub record AllowsReleases (l : Lattice) (image : Image) (asked : InterfaceFile) : Type 0 where
  pub found : List Released
  pub released : AreImageReleased l asked.interface.judgement image (map cycle asked.cycles.items) found
  pub within : are_within found ≡ true

-- The text has the lines of an image that doesn't conform to an interface: those of its points and those of the
-- released outputs.
pub record TellsDifference (l : Lattice) (image : Image) (asked : InterfaceFile) (text : List ℕ) : Type 0 where
  pub said : Said
  pub judges : JudgesImage l image asked.interface said.fits said.rows
  pub released : AreImageReleased l asked.interface.judgement image (map cycle asked.cycles.items) said.found
  pub untried : said.tried ≡ None
  pub differs : conforms said ≡ false
  pub is : text ≡ lines said

-- There is a trial exactly if the interface names a reference. Its result is only tested.
abbrev pub IsTried : Option (Vec ℕ) → Option Trial → Type 0
IsTried None None = Unit {0}
IsTried None (Some t) = ⊥
IsTried (Some path) None = ⊥
IsTried (Some path) (Some t) = Unit {0}

-- The answer about the file at a path, as it is written: as lines, as a line of JSON or as a document of SARIF, which has
-- the points alone.
abbrev pub written_as : AnswerForm → List ℕ → Said → List ℕ
written_as Lines path s = lines s
written_as Json path s = json s
written_as Sarif path s = rows_sarif path s.rows
