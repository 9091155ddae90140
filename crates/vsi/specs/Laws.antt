-- The joint promises of the arguments of a command line and the files.
use Rattle.std.specs.Prelude.{◌≡◌, ◌≢◌, ℕ, ℤ, List, Option, IsSome, String}
use Rattle.std.specs.Borrow.{Bor}
use Rattle.std.specs.Global.{Vec}
use Rattle.std.specs.Io.KnownBytes.{Appends}
use Rattle.std.specs.declared.alloc.Global.{Global}
use Rattle.vsi_lattice.specs.LatticeView.{class_named, order}
use Rattle.vsi_lattice.specs.declared.lattice.Lattice.{Lattice}
use Rattle.vsi_types.specs.declared.rules.Profile.TheVariants.{Base}
use Rattle.vsi_image.specs.declared.instr.Image.{Image}
use Rattle.vsi_compiler.specs.Acceptance.{IsAccepted}
use Rattle.vsi_compiler.specs.Observation.{AgreeAt}
use Rattle.vsi_answers.specs.Judged.{AreImage, Declares}
use Rattle.vsi_arguments.specs.declared.request.Compilation.{Compilation}
use Rattle.vsi_arguments.specs.declared.request.Execution.{Execution}
use Rattle.vsi_arguments.specs.declared.request.InitialStore.{InitialStore}
use Rattle.vsi_arguments.specs.declared.request.Request.{Request}
use Rattle.vsi_arguments.specs.declared.request.Request.TheVariants.{Build, View}
use Rattle.vsi_arguments.specs.Asked.{AsksFor}
use Rattle.vsi_arguments.specs.Help.{AsksHelp}
use Rattle.vsi_arguments.specs.Laws.{ArePlainCheck}
use Rattle.vsi_subject.specs.Done.{Done}
use Rattle.vsi_subject.specs.Holding.{Delivers, Holding, IsReadAt}
use Rattle.vsi_subject.specs.Files.{BeginsAt, LooksAt, OfFiles, shown}
use Rattle.vsi_subject.specs.Performed.{ToldImage, ViewsFiles}

-- The file at one path declares a lattice, and the source text at the other is accepted under it.
pub record IsAcceptedAt (holds : Holding) (lattice source : List ℕ) : Type 0 where
  pub policy : List ℕ
  pub lattice_read : IsReadAt holds lattice policy
  pub text : List ℕ
  pub source_read : IsReadAt holds source text
  pub declared : Lattice
  pub declares : Declares policy declared
  pub accepted : IsAccepted (class_named declared) (order declared) Base text

-- If the arguments `check`, a lattice file and a source text are carried out to the end, the text is accepted under the
-- lattice.
abbrev pub CheckedIsAccepted : Type 0
CheckedIsAccepted =
    (holds : Holding) (given : Option (List ℕ)) (words : List (String Global)) (lattice source : List ℕ)
    (left : Holding) (old new : Option (List ℕ)) →
    ArePlainCheck words lattice source → Done holds given words left old new → IsAcceptedAt holds lattice source

-- `build` has made these bytes, and `view` shows a class two runs of the image in them, under the same lattice: if the
-- stores that the runs begin with agree at and below the class, both texts are the same.
abbrev pub BuiltIsSeenAlike : Type 0
BuiltIsSeenAlike =
    (built holds : Holding) (c : Compilation) (bytes : Vec ℕ) (build : OfFiles built c (ToldImage c.is_strict) bytes)
    (path class : List ℕ) (e₁ e₂ : Execution) (o₁ o₂ : InitialStore) (t₁ t₂ : Vec ℕ)
    (first : ViewsFiles holds path class e₁ o₁ t₁) (second : ViewsFiles holds path class e₂ o₂ t₂) →
    first.lattice ≡ build.lattice → second.lattice ≡ build.lattice → AreImage bytes.items first.image →
    second.image ≡ first.image →
    AgreeAt (class_named build.lattice) (order build.lattice) first.image first.viewer first.words second.words →
    t₁.items ≡ t₂.items

-- Arguments that ask for this request, and for no help, have been carried out to the end.
pub record AreCarriedOut (holds : Holding) (input : Option (List ℕ)) (words : List (String Global)) (request : Request)
    (left : Holding) (old new : Option (List ℕ)) : Type 0 where
  pub asked : AsksFor words request
  pub unhelped : ¬ (AsksHelp words)
  pub done : Done holds input words left old new

-- This text has been shown: written to the output, or put into the requested file.
pub record Shows (holds : Holding) (o : InitialStore) (text : List ℕ) (left : Holding) (old new : Option (List ℕ))
    : Type 0 where
  pub written : Appends old new (shown o.out text)
  pub delivered : Delivers o.out text holds left

-- The words that two runs begin with, as the files give them, agree at and below a class.
abbrev pub BeginAlike : Holding → List ℕ → List ℕ → Execution → InitialStore → Execution → InitialStore → Type 0
BeginAlike holds path class e₁ o₁ e₂ o₂ =
    (l : Lattice) (a : ℕ) (i₁ i₂ : Image) (m₁ m₂ : List ℤ) → LooksAt holds path class l a →
    BeginsAt holds e₁ o₁ i₁ m₁ → BeginsAt holds e₂ o₂ i₂ m₂ → AgreeAt (class_named l) (order l) i₁ a m₁ m₂

-- `build` has been done, and `view` shows a class two runs of the image in the file that was filled, under the lattice
-- of the file that was read, with the files as `build` has left them: if the contents of these two are known, and the
-- first words of the runs agree at and below the class, both runs have shown the same text.
abbrev pub LeftIsSeenAlike : Type 0
LeftIsSeenAlike =
    (holds left left₁ left₂ : Holding) (input input₁ input₂ old old₁ old₂ new new₁ new₂ : Option (List ℕ))
    (building first second : List (String Global)) (c : Compilation) (image class : Bor (List ℕ))
    (e₁ e₂ : Execution) (o₁ o₂ : InitialStore) →
    AreCarriedOut holds input building (Build c image) left old new →
    AreCarriedOut left input₁ first (View c.lattice class e₁ o₁) left₁ old₁ new₁ →
    AreCarriedOut left input₂ second (View c.lattice class e₂ o₂) left₂ old₂ new₂ →
    e₁.image.now ≡ image.now → e₂.image.now ≡ image.now → c.lattice.now ≢ image.now →
    IsSome (left c.lattice.now) → IsSome (left image.now) →
    BeginAlike left c.lattice.now class.now e₁ o₁ e₂ o₂ →
    (text : List ℕ) × Shows left o₁ text left₁ old₁ new₁ × Shows left o₂ text left₂ old₂ new₂
