-- The views that a class has of two runs of an image, with the files as `build` has left them.
use Rattle.std.proofs.Common.{◌≡◌, ◌≢◌, ◌∙◌, ℕ, ℤ, ◌++◌, true, List, length, Option, Some, None, inl, inr, refl, sym, ap, subst, unwrap_or}
use Rattle.std.specs.Prelude.{Ok, String, IsSome, codes}
use Rattle.std.specs.Borrow.{Bor}
use Rattle.std.specs.Global.{Vec}
use Rattle.std.specs.Io.KnownBytes.{Appends}
use Rattle.std.specs.declared.alloc.Global.{Global}
use Rattle.std.proofs.lemmas.List.{length-map}
use Rattle.vsi_lattice.specs.LatticeView.{class_named, order}
use Rattle.vsi_lattice.specs.NamePlaces.{place_in, texts}
use Rattle.vsi_lattice.specs.Order.{IsClass}
use Rattle.vsi_lattice.specs.declared.lattice.Lattice.{Lattice}
use Rattle.vsi_types.specs.declared.rules.Profile.{Profile}
use Rattle.vsi_image.specs.declared.instr.Image.{Image}
use Rattle.vsi_image.specs.Fields.{Fields, fields, global}
use Rattle.vsi_store.specs.View.{Views}
use Rattle.vsi_store.specs.declared.views.View.TheVariants.{Text}
use Rattle.vsi_compiler.specs.Observation.{AgreeAt, IsStoreOf}
use Rattle.vsi_drive.specs.Starts.{Begins}
use Rattle.vsi_drive.specs.Building.{IsBuilt}
use Rattle.vsi_drive.specs.Engine.{IsReadFrom}
use Rattle.vsi_answers.specs.Judged.{AreImage, Declares}
use Rattle.vsi_answers.specs.Requests.{BuildsTo, ViewsTo}
use Rattle.vsi_answers.proofs.Agreement as answers
use Rattle.vsi_answers.proofs.Views.{same_fields, view_moved}
use Rattle.vsi_store.specs.Seal.{is_whole}
use Rattle.vsi_arguments.specs.declared.request.Compilation.{Compilation}
use Rattle.vsi_arguments.specs.declared.request.Execution.{Execution}
use Rattle.vsi_arguments.specs.declared.request.InitialStore.{InitialStore}
use Rattle.vsi_arguments.specs.declared.request.Request.{Request}
use Rattle.vsi_arguments.specs.declared.request.Request.TheVariants.{Build, View}
use Rattle.vsi_arguments.specs.Asked.{AsksFor, given}
use Rattle.vsi_arguments.specs.Help.{AsksHelp}
use Rattle.vsi_subject.specs.Done.{Done}
use Rattle.vsi_subject.specs.Holding.{Delivers, Holding, HoldsAt, IsImageAt, IsLatticeAt, IsReadAt, IsStoreAt, KeepsOthers}
use Rattle.vsi.specs.Laws.{BeginAlike, LeftIsSeenAlike, Shows}
use Rattle.vsi_subject.specs.Files.{BeginsAt, LooksAt, shown}
use Rattle.vsi_subject.specs.Performed.{Performs, PutsAnswer, profile_of}
use Rattle.vsi.proofs.Declared.{AreAlike, declared_alike}
use Rattle.vsi.proofs.Once.{SameBuild, SameView, one_build, one_view}
use Rattle.vsi.proofs.Short.{built_short, read_again, read_whole}

-- ---- the files left, and the views of them.

-- An image has been built under the lattice of one file, and is in another.
record Leaves (holds : Holding) (path image : List ℕ) (left : Holding) : Type 0 where
  lattice : Lattice
  declared : IsLatticeAt holds path lattice
  profile : Profile
  source : List ℕ
  bytes : Vec ℕ
  built : BuildsTo lattice profile source (Ok bytes)
  filled : HoldsAt left image bytes.items
  others : KeepsOthers image holds left

-- A class has been shown a text, of a run that begins so, within some budget.
record Sees (holds : Holding) (path class : List ℕ) (e : Execution) (o : InitialStore) (text : Vec ℕ) : Type 0 where
  lattice : Lattice
  viewer : ℕ
  looks : LooksAt holds path class lattice viewer
  image : Image
  words : List ℤ
  begins : BeginsAt holds e o image words
  budget : ℕ
  views : ViewsTo lattice viewer image words budget (Ok text)

-- ---- of one lattice and one image.

-- An image built under a lattice is also built under an agreeing one.
built_alike : (l m : Lattice) (P : Profile) (source : List ℕ) (bytes : Vec ℕ) → AreAlike l m →
    BuildsTo l P source (Ok bytes) → BuildsTo m P source (Ok bytes)
built_alike l m P source bytes alike built =
    subst (λ L. IsBuilt (class_named m) L P source bytes.items) alike.ordered
    (subst (λ ns. IsBuilt (place_in ns) (order l) P source bytes.items) alike.named built)

-- A class sees the same text under an agreeing lattice.
seen_alike : (l m : Lattice) (a : ℕ) (im : Image) (words : List ℤ) (budget : ℕ) (text : Vec ℕ) → AreAlike l m →
    ViewsTo l a im words budget (Ok text) → ViewsTo m a im words budget (Ok text)
seen_alike l m a im words budget text alike views =
    subst (λ L. Views (class_named m) L a im words budget (Text text)) alike.ordered
    (subst (λ ns. Views (place_in ns) (order l) a im words budget (Text text)) alike.named views)

-- Two images of the same bytes have the same fields.
fields_alike : (bytes : List ℕ) (i j : Image) → AreImage bytes i → AreImage bytes j → fields j ≡ fields i
fields_alike bytes i j first second = same_fields (fields j) (fields i) (sym second.0 ∙ first.0)

-- So a store of the one is a store of the other.
store_alike : (i j : Image) (words : List ℤ) → fields j ≡ fields i → IsStoreOf j words → IsStoreOf i words
store_alike i j words same whole =
    whole ∙ sym (length-map j.globals.items global) ∙ ap (λ (f : Fields). length f.globals) same
    ∙ length-map i.globals.items global

-- Two views under lattices that are alike, of images of the bytes that were built, are the same where the stores agree.
one_text : (l₀ l₁ l₂ : Lattice) (P : Profile) (source : List ℕ) (bytes : Vec ℕ) (i₁ i₂ : Image) (a₁ a₂ : ℕ)
    (class : List ℕ) (m₁ m₂ : List ℤ) (b₁ b₂ : ℕ) (t₁ t₂ : Vec ℕ) → BuildsTo l₀ P source (Ok bytes) →
    AreAlike l₀ l₁ → AreAlike l₂ l₁ → AreImage bytes.items i₁ → AreImage bytes.items i₂ →
    class_named l₁ class ≡ Some a₁ → class_named l₂ class ≡ Some a₂ → IsClass (order l₁) a₁ → IsStoreOf i₁ m₁ →
    IsStoreOf i₂ m₂ → AgreeAt (class_named l₁) (order l₁) i₁ a₁ m₁ m₂ → ViewsTo l₁ a₁ i₁ m₁ b₁ (Ok t₁) →
    ViewsTo l₂ a₂ i₂ m₂ b₂ (Ok t₂) → t₁.items ≡ t₂.items
one_text l₀ l₁ l₂ P source bytes i₁ i₂ a₁ a₂ class m₁ m₂ b₁ b₂ t₁ t₂ built alike alike₂ are₁ are₂ n₁ n₂ is s₁ s₂
    agree v₁ v₂ =
    let same = fields_alike bytes.items i₁ i₂ are₁ are₂ in
    let at : a₂ ≡ a₁ = ap (λ o. unwrap_or o a₁) (sym n₂ ∙ (ap (λ ns. place_in ns class) alike₂.named ∙ n₁)) in
    let seen : ViewsTo l₁ a₁ i₂ m₂ b₂ (Ok t₂) =
    seen_alike l₂ l₁ a₁ i₂ m₂ b₂ t₂ alike₂ (subst (λ a. ViewsTo l₂ a i₂ m₂ b₂ (Ok t₂)) at v₂) in
    answers.same_view l₁ P source bytes i₁ a₁ (built_alike l₀ l₁ P source bytes alike built) are₁ is m₁ m₂ b₁ b₂ t₁ t₂
    s₁ (store_alike i₁ i₂ m₂ same s₂) agree v₁ (view_moved (class_named l₁) (order l₁) a₁ i₂ i₁ same m₂ b₂ t₂ seen)

-- ---- of the files.

-- Lattices read from one file agree, if its contents are known.
alike_at : (holds : Holding) (path policy : List ℕ) (l m : Lattice) → holds path ≡ Some policy →
    IsLatticeAt holds path l → IsLatticeAt holds path m → AreAlike l m
alike_at holds path policy l m tells first second =
    declared_alike first.policy l m first.declared
    (subst (λ p. Declares p m) (read_again holds path policy second.policy first.policy tells second.read first.read)
    second.declared)

-- A lattice file that hasn't changed declares the same lattice.
lattice_left : (old new : Holding) (path : List ℕ) (l : Lattice) → new path ≡ old path → IsLatticeAt old path l →
    IsLatticeAt new path l
lattice_left old new path l same at = record {
  policy = at.policy;
  read = subst (λ o. IsReadFrom o at.policy) (sym same) at.read;
  declared = at.declared;
}

-- The image read from the file that holds built bytes is the image of those bytes.
image_left : (holds left : Holding) (path image held asked : List ℕ) (leaves : Leaves holds path image left)
    (im : Image) → left image ≡ Some held → asked ≡ image → IsImageAt left asked im → AreImage leaves.bytes.items im
image_left holds left path image held asked leaves im tells same at =
    subst (λ bs. AreImage bs im)
    (read_whole left image leaves.bytes.items held at.bytes tells leaves.filled
    (subst (λ p. IsReadAt left p at.bytes) same at.read)
    (built_short (class_named leaves.lattice) (order leaves.lattice) leaves.profile leaves.source leaves.bytes.items
    leaves.built))
    at.are

-- If the stores agree, two texts of the left files that a class has been shown are equal.
left_alike : (holds left : Holding) (path image class policy held : List ℕ) (e₁ e₂ : Execution) (o₁ o₂ : InitialStore)
    (t₁ t₂ : Vec ℕ) → Leaves holds path image left → path ≢ image → left path ≡ Some policy →
    left image ≡ Some held → e₁.image.now ≡ image → e₂.image.now ≡ image →
    BeginAlike left path class e₁ o₁ e₂ o₂ → Sees left path class e₁ o₁ t₁ → Sees left path class e₂ o₂ t₂ →
    t₁.items ≡ t₂.items
left_alike holds left path image class policy held e₁ e₂ o₁ o₂ t₁ t₂ leaves apart of_path of_image at₁ at₂ agree
    first second =
    let before = lattice_left holds left path leaves.lattice (leaves.others path apart) leaves.declared in
    one_text leaves.lattice first.lattice second.lattice leaves.profile leaves.source leaves.bytes first.image
    second.image first.viewer second.viewer class first.words second.words first.budget second.budget t₁ t₂ leaves.built
    (alike_at left path policy leaves.lattice first.lattice of_path before first.looks.lattice)
    (alike_at left path policy second.lattice first.lattice of_path second.looks.lattice first.looks.lattice)
    (image_left holds left path image held e₁.image.now leaves first.image of_image at₁ first.begins.image)
    (image_left holds left path image held e₂.image.now leaves second.image of_image at₂ second.begins.image)
    first.looks.named second.looks.named first.looks.is first.begins.whole second.begins.whole
    (agree first.lattice first.viewer first.image second.image first.words second.words first.looks first.begins
    second.begins)
    first.views second.views

-- ---- of the words.

-- Bytes of a store file at one path are such bytes at the same path.
store_at : (holds : Holding) (old new : Option (Bor (List ℕ))) (file : List ℕ) → given old ≡ given new →
    IsStoreAt holds old file → IsStoreAt holds new file
store_at holds None None file same is = is
store_at holds None (Some p) file same is = absurd cc
store_at holds (Some p) None file same is = absurd cc
store_at holds (Some p) (Some q) file same is =
    let path : p.now ≡ q.now = cc in subst (λ n. IsReadAt holds n file × (is_whole file ≡ true)) path is

-- The part of a text that goes to the output.
shown_at : (old new : Option (Bor (List ℕ))) (text : List ℕ) → given old ≡ given new → shown old text ≡ shown new text
shown_at None None text same = refl
shown_at None (Some p) text same = absurd cc
shown_at (Some p) None text same = absurd cc
shown_at (Some p) (Some q) text same = refl

-- A text that has been put into the file at one path has been put into that at the same path.
delivered_at : (old new : Option (Bor (List ℕ))) (text : List ℕ) (before after : Holding) → given old ≡ given new →
    Delivers old text before after → Delivers new text before after
delivered_at None None text before after same is = is
delivered_at None (Some p) text before after same is = absurd cc
delivered_at (Some p) None text before after same is = absurd cc
delivered_at (Some p) (Some q) text before after same is =
    let path : p.now ≡ q.now = cc in
    record {
      filled = subst (λ n. HoldsAt after n text) path is.filled;
      others = λ other apart beside. is.others other
          (λ e. apart (e ∙ path)) (λ e. beside (e ∙ ap (λ n. n ++ codes ".new") path));
    }

-- A build that the arguments request leaves an image.
leaves_of : (holds : Holding) (c d : Compilation) (i j : Bor (List ℕ)) (left : Holding) (old new : Option (List ℕ)) →
    SameBuild c d i j → PutsAnswer holds (Build d j) left old new → Leaves holds c.lattice.now i.now left
leaves_of holds c d i j left old new same done =
    let is = done.is in
    record {
      lattice = is.lattice;
      declared = subst (λ p. IsLatticeAt holds p is.lattice) same.lattice is.files.lattice;
      profile = profile_of d.is_strict;
      source = is.source;
      bytes = done.text;
      built = is.is;
      filled = subst (λ p. HoldsAt left p done.text.items) same.image done.put.0.filled;
      others = subst (λ p. KeepsOthers p holds left) same.image done.put.0.others;
    }

-- A run begins with the words that one of the same paths and settings begins with.
begins_of : (holds : Holding) (l m x y : Bor (List ℕ)) (e f : Execution) (o p : InitialStore) (im : Image)
    (words : List ℤ) → SameView l m x y e f o p → BeginsAt holds f p im words → BeginsAt holds e o im words
begins_of holds l m x y e f o p im words same at = record {
  image = subst (λ n. IsImageAt holds n im) same.image at.image;
  file = at.file;
  read = store_at holds f.store e.store at.file same.store at.read;
  begins = subst (λ b. Begins im at.file (texts o.settings.items) b words) same.is_full
      (subst (λ ts. Begins im at.file ts p.is_full words) same.settings at.begins);
  whole = at.whole;
}

-- A view that the arguments request sees a run, and shows it.
record Shown (holds : Holding) (path class : List ℕ) (e : Execution) (o : InitialStore) (left : Holding)
    (old new : Option (List ℕ)) : Type 0 where
  text : Vec ℕ
  sees : Sees holds path class e o text
  shows : Shows holds o text.items left old new

-- It is the one that has been performed.
shown_of : (holds : Holding) (l m x y : Bor (List ℕ)) (e f : Execution) (o p : InitialStore) (left : Holding)
    (old new : Option (List ℕ)) → SameView l m x y e f o p → PutsAnswer holds (View m y f p) left old new →
    Shown holds l.now x.now e o left old new
shown_of holds l m x y e f o p left old new same done =
    let is = done.is in
    record {
      text = done.text;
      sees = record {
        lattice = is.lattice;
        viewer = is.viewer;
        looks = subst (λ n. LooksAt holds l.now n is.lattice is.viewer) same.class
            (subst (λ n. LooksAt holds n y.now is.lattice is.viewer) same.lattice is.looks);
        image = is.image;
        words = is.words;
        begins = begins_of holds l m x y e f o p is.image is.words same is.begins;
        budget = is.budget;
        views = is.views;
      };
      shows = record {
        written = subst (Appends old new) (shown_at p.out o.out done.text.items same.out) done.put.1;
        delivered = delivered_at p.out o.out done.text.items holds left same.out done.put.0;
      };
    }

-- A build that the arguments request without help leaves an image if they are carried out to the end.
build_done : (holds : Holding) (input : Option (List ℕ)) (words : List (String Global)) (c : Compilation)
    (image : Bor (List ℕ)) (left : Holding) (old new : Option (List ℕ)) → AsksFor words (Build c image) →
    ¬ (AsksHelp words) → Done holds input words left old new → Leaves holds c.lattice.now image.now left
build_done holds input words c image left old new asked unhelped (inl help) = absurd (unhelped help.1)
build_done holds input words c image left old new asked unhelped (inr (request, asks, performed)) =
    let one = one_build words c image asked request asks in
    leaves_of holds c one.compilation image one.image left old new one.same
    (subst (λ (r : Request). Performs holds input r left old new) one.is performed)

-- A view that they ask for sees a run and shows it.
view_done : (holds : Holding) (input : Option (List ℕ)) (words : List (String Global)) (l x : Bor (List ℕ))
    (e : Execution) (o : InitialStore) (left : Holding) (old new : Option (List ℕ)) → AsksFor words (View l x e o) →
    ¬ (AsksHelp words) → Done holds input words left old new → Shown holds l.now x.now e o left old new
view_done holds input words l x e o left old new asked unhelped (inl help) = absurd (unhelped help.1)
view_done holds input words l x e o left old new asked unhelped (inr (request, asks, performed)) =
    let one = one_view words l x e o asked request asks in
    shown_of holds l one.lattice x one.class e one.execution o one.initial_store left old new one.same
    (subst (λ (r : Request). Performs holds input r left old new) one.is performed)

-- The contents of a file that are known.
held_by : (o : Option (List ℕ)) → IsSome o → (bytes : List ℕ) × (o ≡ Some bytes)
held_by None some = absurd cc
held_by (Some bytes) some = (bytes, refl)

-- The law.
pub left_is_seen_alike : LeftIsSeenAlike
left_is_seen_alike holds left left₁ left₂ input input₁ input₂ old old₁ old₂ new new₁ new₂ building first second c
    image class e₁ e₂ o₁ o₂ built seen₁ seen₂ at₁ at₂ apart of_path of_image agree =
    let leaves = build_done holds input building c image left old new built.asked built.unhelped built.done in
    let one = view_done left input₁ first c.lattice class e₁ o₁ left₁ old₁ new₁ seen₁.asked seen₁.unhelped seen₁.done in
    let two = view_done left input₂ second c.lattice class e₂ o₂ left₂ old₂ new₂ seen₂.asked seen₂.unhelped
    seen₂.done in
    let policy = held_by (left c.lattice.now) of_path in
    let bytes = held_by (left image.now) of_image in
    let same : one.text.items ≡ two.text.items =
    left_alike holds left c.lattice.now image.now class.now policy.0 bytes.0 e₁ e₂ o₁ o₂ one.text two.text leaves apart
    policy.1 bytes.1 at₁ at₂ agree one.sees two.sees in
    (one.text.items, one.shows, subst (λ t. Shows left o₂ t left₂ old₂ new₂) (sym same) two.shows)
