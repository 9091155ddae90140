-- Source texts, each judged by itself under one lattice.
use Rattle.std.specs.Prelude.{◌≡◌, ◌==◌, ℕ, ◌+◌, ◌++◌, ◌∷◌, Bool, true, false, List, [], codes, decimal, if◌then◌else◌}
use Rattle.std.specs.Borrow.{Bor}
use Rattle.std.specs.Global.{Vec}
use Rattle.serde_json.specs.Data.{Members, boolean, put}
use Rattle.vsi_lattice.specs.LatticeView.{class_named, order}
use Rattle.vsi_lattice.specs.declared.lattice.Lattice.{Lattice}
use Rattle.vsi_image.specs.declared.instr.Image.{Image}
use Rattle.vsi_steady.specs.declared.source.UnsteadyError.{UnsteadyError}
use Rattle.vsi_answers.specs.Members.{object_line}
use Rattle.vsi_conform.specs.Conforms.{IsAcceptedAs, IsRefusedAs}
use Rattle.vsi_conform.specs.declared.interface.Judgement.{Judgement}
use Rattle.vsi_arguments.specs.declared.request.AnswerForm.{AnswerForm}
use Rattle.vsi_arguments.specs.declared.request.AnswerForm.TheVariants as form
use Rattle.vsi_arguments.specs.declared.request.Survey.{Survey}
use Rattle.vsi_documents.specs.Document.{IsReport}
use Rattle.vsi_subject.specs.Documents.{judgement_of}
use Rattle.vsi_subject.specs.Holding.{Holding, IsLatticeAt, IsReadAt}

-- A source text has an image as the judgement requires, or it is refused for this reason.
abbrev pub IsVerdict : Judgement → Lattice → List ℕ → Bool → Type 0
IsVerdict j l source true = (image : Image) × IsAcceptedAs (class_named l) (order l) j source image
IsVerdict j l source false = (error : UnsteadyError) × IsRefusedAs (class_named l) (order l) j source error

-- The file at the path holds a source text that is accepted or refused.
pub record HasVerdict (holds : Holding) (j : Judgement) (l : Lattice) (path : List ℕ) (accepted : Bool) : Type 0 where
  pub source : List ℕ
  pub read : IsReadAt holds path source
  pub is : IsVerdict j l source accepted

-- Each of these files has one verdict, in their order: so many texts are accepted, and so many are refused.
pub data Tally (holds : Holding) (j : Judgement) (l : Lattice) : List (Bor (List ℕ)) → ℕ → ℕ → Type 0 where
  NONE : Tally holds j l [] 0 0
  ACCEPTED : (before : List (Bor (List ℕ))) (path : Bor (List ℕ)) (a r : ℕ) → Tally holds j l before a r →
      HasVerdict holds j l path.now true → Tally holds j l (before ++ path ∷ []) (a + 1) r
  REFUSED : (before : List (Bor (List ℕ))) (path : Bor (List ℕ)) (a r : ℕ) → Tally holds j l before a r →
      HasVerdict holds j l path.now false → Tally holds j l (before ++ path ∷ []) a (r + 1)

-- The ending of a noun after a number.
abbrev pub ending : ℕ → List ℕ
ending n = if n == 1 then [] else codes "s"

-- The line that counts things of which each is good or bad, in these words.
abbrev pub summary : List ℕ → List ℕ → List ℕ → ℕ → ℕ → List ℕ
summary noun good bad g b =
    decimal (g + b) ++ codes " " ++ noun ++ ending (g + b) ++ codes ": " ++ decimal g ++ codes " " ++ good
    ++ codes ", " ++ decimal b ++ codes " " ++ bad ++ codes "\n"

-- Lines end with the one that counts things, a line of JSON says whether all are good, and a document of SARIF has some
-- number of results.
abbrev pub Concludes : AnswerForm → List ℕ → List ℕ → List ℕ → ℕ → ℕ → List ℕ → Type 0
Concludes form.Lines noun good bad g b text = (lines : List ℕ) × (text ≡ lines ++ summary noun good bad g b)
Concludes form.Json noun good bad g b text =
    (rest : Members) × (text ≡ object_line (put (codes "accepted") (boolean (b == 0)) rest))
Concludes form.Sarif noun good bad g b text = (results : ℕ) × IsReport results text

-- The answer for the files of a survey, which is good exactly if no text is refused.
pub record SurveysFiles (holds : Holding) (s : Survey) (good : Bool) (text : Vec ℕ) : Type 0 where
  pub lattice : Lattice
  pub declared : IsLatticeAt holds s.lattice.now lattice
  pub accepted : ℕ
  pub refused : ℕ
  pub tally : Tally holds (judgement_of s.is_steady s.is_strict) lattice s.sources.items accepted refused
  pub good_is : good ≡ (refused == 0)
  pub concludes :
      Concludes s.form (codes "text") (codes "accepted") (codes "refused") accepted refused text.items
