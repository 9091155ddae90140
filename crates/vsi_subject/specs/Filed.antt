-- The evidence of a judgement by an interface: its profile, its bound and its files.
use Rattle.std.specs.Prelude.{◌≡◌, ◌≤◌, ℕ, ◌∷◌, Bool, true, false, List, [], ◌++◌, Option, None, IsSomeAnd}
use Rattle.vsi_lattice.specs.LatticeView.{class_named}
use Rattle.vsi_lattice.specs.declared.lattice.Lattice.{Lattice}
use Rattle.vsi_image.specs.declared.instr.Image.{Image}
use Rattle.vsi_compiler.specs.Headline.{IsImageOf}
use Rattle.vsi_answers.specs.Bounds.{IsBound}
use Rattle.vsi_answers.specs.Judged.{AreImage}
use Rattle.vsi_conform.specs.declared.interface.Bounded.{Bounded}
use Rattle.vsi_conform.specs.declared.interface.Bounded.TheVariants.{No, Yes, AtMost}
use Rattle.vsi_conform.specs.declared.interface.Judgement.{Judgement}
use Rattle.vsi_conform.specs.declared.interface.Judgement.TheVariants.{Base, Strict, Steady}
use Rattle.vsi_conform.specs.declared.reader.Policy.{Policy}
use Rattle.vsi_conform.specs.declared.reader.Policy.TheVariants.{File, Tables}
use Rattle.vsi_store.specs.Evidence.{Filed}
use Rattle.vsi_store.specs.declared.reader.AuditProfile.{AuditProfile}
use Rattle.vsi_store.specs.declared.reader.AuditProfile.TheVariants as by
use Rattle.vsi_subject.specs.Holding.{Holding}
use Rattle.vsi_subject.specs.Interfaces.{IsPolicyAt, named_path}

-- How an interface judges, as evidence names it.
abbrev pub filed_profile : Judgement → AuditProfile
filed_profile Base = by.Base
filed_profile Strict = by.Strict
filed_profile Steady = by.Steady

-- The judged image: the one with these bytes, or the one of the source text.
abbrev pub IsJudged : Bool → Lattice → List ℕ → Image → Type 0
IsJudged true l bytes image = AreImage bytes image
IsJudged false l source image = IsImageOf (class_named l) source image

-- An image of this kind halts from every store within this number of instructions.
abbrev pub HasBound : (Image → Type 0) → ℕ → Type 0
HasBound Kind most = (image : Image) × Kind image × IsBound image most

-- The bound that evidence names: none if the interface requires none, else one of the judged image, as is required.
abbrev pub IsFiledBound : Bounded → (Image → Type 0) → Option ℕ → Type 0
IsFiledBound No Kind most = most ≡ None
IsFiledBound Yes Kind most = IsSomeAnd most (HasBound Kind)
IsFiledBound (AtMost maximum) Kind most = IsSomeAnd most (λ n. HasBound Kind n × (n ≤ maximum))

-- The bytes of an interface's lattice: those of its file, or of its own tables.
abbrev pub policy_bytes : (holds : Holding) → (interface : List ℕ) → (p : Policy) → (l : Lattice) →
    IsPolicyAt holds interface p l → List ℕ
policy_bytes holds interface (File path) l at = at.policy
policy_bytes holds interface (Tables text) l at = text.items

-- The lattice file that an interface names, with these bytes, if it names one.
abbrev pub lattice_file : List ℕ → Policy → List ℕ → List Filed
lattice_file interface (File path) bytes = (named_path interface path, bytes) ∷ []
lattice_file interface (Tables text) bytes = []

-- The lines that follow an answer: this kind of evidence if it is requested of a file that conforms, else none.
abbrev pub Follows : Bool → Bool → (List ℕ → Type 0) → List ℕ → Type 0
Follows true true Is lines = Is lines
Follows true false Is lines = lines ≡ []
Follows false conforms Is lines = lines ≡ []

-- The text is the answer and, after it, the lines that follow it.
pub record IsFollowed (is_requested conforms : Bool) (Is : List ℕ → Type 0) (answer text : List ℕ) : Type 0 where
  pub evidence : List ℕ
  pub follows : Follows is_requested conforms Is evidence
  pub is : text ≡ answer ++ evidence
