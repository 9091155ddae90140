-- The relations between the answers to several requests.
use Rattle.std.specs.Prelude.{◌≡◌, ◌≤◌, ℕ, ℤ, List, Ok, Err, true}
use Rattle.std.specs.Global.{Vec}
use Rattle.vsi_lattice.specs.Known.{Known}
use Rattle.vsi_lattice.specs.LatticeView.{class_named, order}
use Rattle.vsi_lattice.specs.Order as orders
use Rattle.vsi_lattice.specs.Order.{IsClass}
use Rattle.vsi_lattice.specs.declared.lattice.Lattice.{Lattice}
use Rattle.vsi_types.specs.declared.rules.Profile.{Profile}
use Rattle.vsi_types.specs.declared.rules.Profile.TheVariants.{Base, Strict}
use Rattle.vsi_image.specs.declared.instr.Image.{Image}
use Rattle.vsi_compiler.specs.Acceptance.{IsAccepted}
use Rattle.vsi_compiler.specs.Observation.{AgreeAt, Ends, IsStoreOf}
use Rattle.vsi_answers.specs.declared.bounds.BoundAnswer.{BoundAnswer}
use Rattle.vsi_answers.specs.declared.unanswered.Cause.{Cause}
use Rattle.vsi_answers.specs.declared.unanswered.Unanswered.TheVariants.{Refused}
use Rattle.vsi_answers.specs.Bounds.{HaltsWithin, TellsBound, halts_line}
use Rattle.vsi_answers.specs.Judged.{AreImage, Declares}
use Rattle.vsi_answers.specs.Requests.{BuildsTo, ChecksFilesTo, ChecksTo, ViewsTo}

-- If `check` answers a text, the bytes of the lattice file declare a lattice, and the source is accepted under it.
abbrev pub AcceptedIsAccepted : Type 0
AcceptedIsAccepted =
    (P : Profile) (policy source : List ℕ) (text : Vec ℕ) → ChecksFilesTo P policy source (Ok text) →
    (l : Lattice) × Declares policy l × IsAccepted (class_named l) (order l) P source

-- If one of `check` and `build` answers a text, the other doesn't refuse it.
abbrev pub BuiltIsAccepted : Type 0
BuiltIsAccepted =
    (l : Lattice) (P : Profile) (source : List ℕ) (answer text : Vec ℕ) (cause : Cause) →
    (ChecksTo l P source (Ok answer) → ¬ (BuildsTo l P source (Err (Refused text cause))))
    × (BuildsTo l P source (Ok answer) → ¬ (ChecksTo l P source (Err (Refused text cause))))

-- If `check --strict` answers a text, `check` doesn't refuse it.
abbrev pub StrictIsBase : Type 0
StrictIsBase =
    (l : Lattice) (source : List ℕ) (answer text : Vec ℕ) (cause : Cause) →
    ChecksTo l Strict source (Ok answer) → ¬ (ChecksTo l Base source (Err (Refused text cause)))

-- For two stores that agree at and below a class, `view` gives one text for the image whose bytes `build` answers, if
-- both runs halt.
abbrev pub SameView : Type 0
SameView =
    (l : Lattice) (P : Profile) (source : List ℕ) (bytes : Vec ℕ) (image : Image) (a : ℕ) →
    BuildsTo l P source (Ok bytes) → AreImage bytes.items image → IsClass (order l) a →
    (m₁ m₂ : List ℤ) (b₁ b₂ : ℕ) (t₁ t₂ : Vec ℕ) → IsStoreOf image m₁ → IsStoreOf image m₂ →
    AgreeAt (class_named l) (order l) image a m₁ m₂ → ViewsTo l a image m₁ b₁ (Ok t₁) →
    ViewsTo l a image m₂ b₂ (Ok t₂) → t₁.items ≡ t₂.items

-- Where `bound` finds a bound, its line says a number, and with a budget of at least so many instructions the run from
-- every store halts.
abbrev pub BoundIsKept : Type 0
BoundIsKept =
    (image : Image) (told : BoundAnswer) → TellsBound image told → told.is_bounded ≡ true →
    HaltsWithin image told.text.items

-- Runs from two stores within these budgets halt, and end in agreement at and below a class.
pub record EndAlike (known : Known) (L : orders.Lattice) (image : Image) (a : ℕ) (m₁ m₂ : List ℤ) (b₁ b₂ : ℕ)
    : Type 0 where
  pub first : List ℤ
  pub second : List ℤ
  pub ends_first : Ends image m₁ b₁ first
  pub ends_second : Ends image m₂ b₂ second
  pub agree : AgreeAt known L image a first second

-- From every two stores that agree at and below a class, runs with budgets of at least this number end alike.
abbrev pub AlwaysEndAlike : Lattice → Image → ℕ → ℕ → Type 0
AlwaysEndAlike l image a most =
    (m₁ m₂ : List ℤ) (b₁ b₂ : ℕ) → IsStoreOf image m₁ → IsStoreOf image m₂ →
    AgreeAt (class_named l) (order l) image a m₁ m₂ → most ≤ b₁ → most ≤ b₂ →
    EndAlike (class_named l) (order l) image a m₁ m₂ b₁ b₂

-- Where `build` answers the bytes of an image and `bound` finds a bound for it, its line says a number, and with
-- budgets of at least so many instructions the runs from two stores that agree at and below a class both halt, and end
-- in agreement there.
abbrev pub BoundedIsNoninterfering : Type 0
BoundedIsNoninterfering =
    (l : Lattice) (P : Profile) (source : List ℕ) (bytes : Vec ℕ) (image : Image) (told : BoundAnswer) (a : ℕ) →
    BuildsTo l P source (Ok bytes) → AreImage bytes.items image → TellsBound image told → told.is_bounded ≡ true →
    IsClass (order l) a → (most : ℕ) × (told.text.items ≡ halts_line most) × AlwaysEndAlike l image a most
