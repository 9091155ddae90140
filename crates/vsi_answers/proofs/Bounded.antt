-- Runs within a bound.
use Rattle.std.proofs.Common.{◌≡◌, ℕ, ◌-◌, ◌++◌, ℤ, pos, List, [], true, Option, Some, None, length, replicate, take, refl, sym, subst, ap, ◌∙◌}
use Rattle.std.specs.Prelude.{IsSomeAnd, IsTrue, Ok, slice_get}
use Rattle.std.proofs.lemmas.List.{length-map}
use Rattle.vsi_lattice.specs.Known.{Known}
use Rattle.vsi_lattice.specs.LatticeView.{class_named, order}
use Rattle.vsi_lattice.specs.Order as orders
use Rattle.vsi_lattice.specs.declared.lattice.Lattice.{Lattice}
use Rattle.vsi_image.specs.declared.instr.Image.{Image}
use Rattle.vsi_image.specs.Fields.{Fields, fields, global, globals}
use Rattle.vsi_image.specs.Meaning.{State, after, going}
use Rattle.vsi_image.specs.Reading.{image_of}
use Rattle.vsi_image.proofs.Images.{spelled-is_read}
use Rattle.vsi_machine.specs.Runs.{run_of}
use Rattle.vsi_machine.specs.Bound.{AlwaysHalts, Answers}
use Rattle.vsi_machine.specs.declared.bound.Bound.{Bound}
use Rattle.vsi_machine.specs.declared.bound.Bound.TheVariants.{Halts, Endless, Unstructured, TooLarge}
use Rattle.vsi_machine.proofs.Ending as bounds
use Rattle.vsi_compiler.specs.Observation.{AgreeAt, Ends, IsNoninterfering}
use Rattle.vsi_answers.specs.declared.bounds.Place.{Place}
use Rattle.vsi_answers.specs.Bounds.{bound_line, halts_line, is_bounded}
use Rattle.vsi_answers.specs.Laws.{AlwaysEndAlike, BoundIsKept, BoundedIsNoninterfering}
use Rattle.vsi_answers.proofs.Views.{same_fields}

-- The number of an answer that has one.
record HasMost (image : Image) (place : Option Place) (answer : Bound) : Type 0 where
  least : ℕ
  most : ℕ
  line : bound_line place answer ≡ halts_line most
  always : AlwaysHalts image least most

-- An answer that has a number is right about it.
has_most : (image : Image) (place : Option Place) (answer : Bound) → Answers image answer →
    is_bounded answer ≡ true → HasMost image place answer
has_most image place (Halts least most) is bounded =
    record { least = least; most = most; line = refl; always = is }
has_most image place (Endless test reason) is bounded = absurd cc
has_most image place (Unstructured at) is bounded = absurd cc
has_most image place TooLarge is bounded = absurd cc

-- With a budget of at least the number that the line says every run halts.
pub bound_is_kept : BoundIsKept
bound_is_kept image told tells bounded =
    let h = has_most image tells.place tells.answer tells.is (sym tells.bounded ∙ bounded) in
    record {
      most = h.most;
      says = tells.line ∙ h.line;
      halts = λ m budget full le. bounds.enough_budget image h.least h.most budget m h.always le full;
    }

-- A run that has halted ends with some words in the globals.
ends_of : (image : Image) (m : List ℤ) (budget : ℕ) (o : Option State) → run_of image m budget ≡ o →
    IsSomeAnd o (λ s. IsTrue s.halted) → (m' : List ℤ) × Ends image m budget m'
ends_of image m budget (Some s) at halts = (
  take (length image.globals.items) s.slots,
  record { state = s; reached = at; halted = halts; words = refl },
)
ends_of image m budget None at halts = absurd halts

-- The end of a run of an image with these fields.
record StopsWith (f : Fields) (m : List ℤ) (budget : ℕ) (last : List ℤ) : Type 0 where
  state : State
  reached : after f.code budget (going 0 [] (m ++ replicate (f.slots - length m) (pos 0))) ≡ Some state
  halted : state.halted ≡ true
  words : take (length f.globals) state.slots ≡ last

-- The end of a run of an image is one of its fields.
stops : (im : Image) (m : List ℤ) (budget : ℕ) (last : List ℤ) → Ends im m budget last →
    StopsWith (fields im) m budget last
stops im m budget last e =
    let many : length (globals im.globals.items) ≡ length im.globals.items = length-map im.globals.items global in
    record {
      state = e.state;
      reached = e.reached;
      halted = e.halted;
      words = ap (λ n. take n e.state.slots) many ∙ e.words;
    }

-- An end of an image's fields is an end of a run of the image.
ends : (im : Image) (m : List ℤ) (budget : ℕ) (last : List ℤ) → StopsWith (fields im) m budget last →
    Ends im m budget last
ends im m budget last s =
    let many : length (globals im.globals.items) ≡ length im.globals.items = length-map im.globals.items global in
    record {
      state = s.state;
      reached = s.reached;
      halted = s.halted;
      words = ap (λ n. take n s.state.slots) (sym many) ∙ s.words;
    }

-- Images with the same fields end alike.
ends_moved : (im image : Image) (m : List ℤ) (budget : ℕ) (last : List ℤ) → fields im ≡ fields image →
    Ends im m budget last → Ends image m budget last
ends_moved im image m budget last same e =
    ends image m budget last (subst (λ f. StopsWith f m budget last) same (stops im m budget last e))

-- Stores that agree for an image agree for one with the same fields.
agree_moved : (known : Known) (L : orders.Lattice) (im image : Image) (a : ℕ) (m₁ m₂ : List ℤ) →
    fields im ≡ fields image → AgreeAt known L im a m₁ m₂ → AgreeAt known L image a m₁ m₂
agree_moved known L im image a m₁ m₂ same agree =
    λ i g c at is below. agree i g c (ap (λ (f : Fields). slice_get f.globals i) same ∙ at) is below

-- An image with the fields of a noninterfering one, for which every run halts within a number of instructions.
end_alike : (l : Lattice) (im image : Image) (a least most : ℕ) → fields im ≡ fields image →
    IsNoninterfering (class_named l) (order l) image → orders.IsClass (order l) a → AlwaysHalts im least most →
    AlwaysEndAlike l im a most
end_alike l im image a least most same apart class always m₁ m₂ b₁ b₂ full₁ full₂ agree le₁ le₂ =
    let known = class_named l in
    let L = order l in
    let many : length im.globals.items ≡ length image.globals.items =
    sym (length-map im.globals.items global) ∙ ap (λ (f : Fields). length f.globals) same
    ∙ length-map image.globals.items global in
    let one = ends_of im m₁ b₁ (run_of im m₁ b₁) refl (bounds.enough_budget im least most b₁ m₁ always le₁ full₁) in
    let two = ends_of im m₂ b₂ (run_of im m₂ b₂) refl (bounds.enough_budget im least most b₂ m₂ always le₂ full₂) in
    record {
      first = one.0;
      second = two.0;
      ends_first = one.1;
      ends_second = two.1;
      agree = agree_moved known L image im a one.0 two.0 (sym same)
          (apart a class m₁ m₂ one.0 two.0 b₁ b₂ (full₁ ∙ many) (full₂ ∙ many)
          (agree_moved known L im image a m₁ m₂ same agree) (ends_moved im image m₁ b₁ one.0 same one.1)
          (ends_moved im image m₂ b₂ two.0 same two.1));
    }

-- A built image whose bound is known is noninterfering, without a premise on the ends of runs.
pub bounded_is_noninterfering : BoundedIsNoninterfering
bounded_is_noninterfering l P source bytes im told a built are tells bounded class =
    let image = built.image in
    let read : image_of bytes.items ≡ Ok (fields image) =
    ap image_of built.spelled ∙ spelled-is_read _ (fields image) built.compiled.coded.spelled in
    let same : fields im ≡ fields image = same_fields (fields im) (fields image) (sym are.0 ∙ read) in
    let h = has_most im tells.place tells.answer tells.is (sym tells.bounded ∙ bounded) in (
      h.most,
      tells.line ∙ h.line,
      end_alike l im image a h.least h.most same built.compiled.noninterference class h.always,
    )
