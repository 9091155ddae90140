-- Stores that agree look the same to the class.
use Rattle.std.proofs.Common.{◌≡◌, ℕ, zero, suc, List, [], ◌∷◌, ◌++◌, length, Option, Some, None, true, false, refl, sym, ap, ◌∙◌, arith}
use Rattle.std.specs.Prelude.{ℤ, pos, slice_get, slice_index_or, if◌then◌else◌}
use Rattle.std.specs.Option.{option_map_or}
use Rattle.vsi_lattice.specs.Order.{Lattice, Below}
use Rattle.vsi_image.specs.Fields.{Global, globals}
use Rattle.vsi_machine.specs.Runs.{globals_of}
use Rattle.vsi_store.specs.Text.{line_of}
use Rattle.vsi_lattice.specs.Known.{Known}
use Rattle.vsi_store.specs.View.{line_seen, view_text_of}
use Rattle.vsi_compiler.specs.Observation.{Ends}
use Rattle.vsi_compiler.proofs.Coded.{coded_valid}
use Rattle.vsi_drive.specs.ViewLaws.{SameView}
use Rattle.vsi_store.proofs.Slots.{words_last}

-- The lines of a global are equal if its words are equal whenever the class sees it.
same_line_at : (L : Lattice) (a : ℕ) (g : Global) (w w' : ℤ) (o : Option ℕ) →
    ((c : ℕ) → o ≡ Some c → Below L c a → w ≡ w') →
    (if option_map_or (λ c. L.leq c a) o false then line_of g.0 w else [])
    ≡ (if option_map_or (λ c. L.leq c a) o false then line_of g.0 w' else [])
same_line_at L a g w w' None h = refl
same_line_at L a g w w' (Some c) h =
    elim (L.leq c a) as (λ v. L.leq c a ≡ v → (if v then line_of g.0 w else []) ≡ (if v then line_of g.0 w' else [])) [
      | true ↦ λ e. ap (line_of g.0) (h c refl e)
      | false ↦ λ e. refl
    ] refl

-- Words that are equal for each global that the class sees give one text.
same_text : (known : Known) (L : Lattice) (a : ℕ) (gs : List Global) (m m' : List ℤ) → length m ≡ length m' →
    ((i : ℕ) (g : Global) (c : ℕ) → slice_get gs i ≡ Some g → known g.1 ≡ Some c → Below L c a →
    slice_index_or m i (pos 0) ≡ slice_index_or m' i (pos 0)) →
    view_text_of known L a gs m ≡ view_text_of known L a gs m'
same_text known L a [] m m' same agree = refl
same_text known L a (g ∷ gs) [] [] same agree = refl
same_text known L a (g ∷ gs) [] (w' ∷ ws') same agree = absurd (omega (arith, same))
same_text known L a (g ∷ gs) (w ∷ ws) [] same agree = absurd (omega (arith, same))
same_text known L a (g ∷ gs) (w ∷ ws) (w' ∷ ws') same agree =
    let rest = same_text known L a gs ws ws' (omega (arith, same)) (λ i h c at. agree (suc i) h c at) in
    let line : line_seen known L a g w ≡ line_seen known L a g w' =
    same_line_at L a g w w' (known g.1) (λ c is below. agree zero g c refl is below) in
    ap (λ l. line_seen known L a g w ++ l) rest ∙ ap (λ l. l ++ view_text_of known L a gs ws') line

-- The law that stores that agree look the same to the class.
pub same_view : SameView
same_view known L P text image a compiled class m₁ m₂ b₁ b₂ t₁ t₂ full₁ full₂ agree v₁ v₂ =
    let ends₁ : Ends image m₁ b₁ (globals_of image v₁.0) =
    record { state = v₁.0; reached = v₁.1; halted = v₁.2.0; words = refl } in
    let ends₂ : Ends image m₂ b₂ (globals_of image v₂.0) =
    record { state = v₂.0; reached = v₂.1; halted = v₂.2.0; words = refl } in
    let later = compiled.noninterference a class m₁ m₂ _ _ b₁ b₂ full₁ full₂ agree ends₁ ends₂ in
    let valid = coded_valid image compiled.coded in
    let many₁ = words_last image m₁ b₁ v₁.0 valid full₁ v₁.1 in
    let many₂ = words_last image m₂ b₂ v₂.0 valid full₂ v₂.1 in
    v₁.2.1
    ∙ same_text known L a (globals image.globals.items) (globals_of image v₁.0) (globals_of image v₂.0)
    (many₁ ∙ sym many₂) later
    ∙ sym v₂.2.1
