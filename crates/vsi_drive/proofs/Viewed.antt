-- Views of stores that agree are alike.
use Rattle.std.proofs.Common.{◌≡◌, ℕ, zero, suc, List, [], ◌∷◌, ◌++◌, length, Option, Some, None, true, false, refl, sym, ap, ◌∙◌, arith}
use Rattle.std.specs.Prelude.{ℤ, pos, Bool, ◌&&◌, ◌||◌, option_map, slice_get, slice_index_or, if◌then◌else◌}
use Rattle.vsi_lattice.specs.Order.{Below, IsClass}
use Rattle.vsi_image.specs.Fields.{Global, globals}
use Rattle.vsi_image.specs.Valid.{IsValid}
use Rattle.vsi_image.specs.Meaning.{State}
use Rattle.vsi_machine.specs.Runs.{globals_of, run_of}
use Rattle.vsi_compiler.specs.Observation.{Ends, IsNoninterfering}
use Rattle.vsi_compiler.proofs.Coded.{coded_valid}
use Rattle.vsi_store.specs.Text.{line_of}
use Rattle.vsi_store.specs.View.{view_text_of}
use Rattle.vsi_store.proofs.Slots.{words_last}
use Rattle.vsi_drive.specs.Boundary.{is_among, is_listed, no_boundary}
use Rattle.vsi_drive.specs.Control.{Control, is_released, is_written, sees}
use Rattle.vsi_drive.specs.Views.{halted_words, last_words, written_line, written_lines, written_text}
use Rattle.vsi_drive.specs.Laws.{AgreeFor, ReleasedViewsAlike, SameCompiledViews, SameReleasedCompiledViews, SameReleasedViews, ViewsPlainly, released_words}
use Rattle.vsi_drive.proofs.Alike.{first_released, later_released, no_words, same_word, seen_below}

-- ---- one text.

-- Words that are equal in each global that the class sees, and in each that is released, have the same lines.
same_lines : (c : Control) (gs : List Global) (m m' : List ℤ) → length m ≡ length m' →
    ((i : ℕ) (g : Global) (k : ℕ) → slice_get gs i ≡ Some g → c.known g.1 ≡ Some k → Below c.order k c.class →
    slice_index_or m i (pos 0) ≡ slice_index_or m' i (pos 0)) → released_words c gs m ≡ released_words c gs m' →
    written_lines c gs m ≡ written_lines c gs m'
same_lines c [] m m' same agree released = refl
same_lines c (g ∷ gs) [] [] same agree released = refl
same_lines c (g ∷ gs) [] (w' ∷ ws') same agree released = absurd (omega (arith, same))
same_lines c (g ∷ gs) (w ∷ ws) [] same agree released = absurd (omega (arith, same))
same_lines c (g ∷ gs) (w ∷ ws) (w' ∷ ws') same agree released =
    let rest = same_lines c gs ws ws' (omega (arith, same)) (λ i h k at. agree (suc i) h k at)
    (later_released (is_released c g) w w' _ _ released) in
    let first : written_line c g w ≡ written_line c g w' =
    same_word (is_listed c.boundary.outputs g.0) (is_among c.boundary.released g.0) (sees c g.1) (line_of g.0) w w'
    (seen_below c.order c.class (c.known g.1) w w' (λ k is below. agree zero g k refl is below))
    (first_released (is_released c g) w w' _ _ released) in
    ap (λ l. written_line c g w ++ l) rest ∙ ap (λ l. l ++ written_lines c gs ws') first

-- ---- two runs.

-- A run that has last words has ended with them.
ends_with : (c : Control) (m last : List ℤ) (budget : ℕ) (o : Option State) → run_of c.image m budget ≡ o →
    halted_words c.image o ≡ Some last → Ends c.image m budget last
ends_with c m last budget None reached is = absurd (cc)
ends_with c m last budget (Some s) reached is =
    elim s.halted as (λ v. s.halted ≡ v → (if v then Some (globals_of c.image s) else None) ≡ Some last →
    Ends c.image m budget last) [
      | true ↦ λ on e. record { state = s; reached = reached; halted = on; words = cc }
      | false ↦ λ off e. absurd (cc)
    ] refl is

-- If a mapped option has a value, so has the option, and the one is made of the other.
made_of : {A B : Type 0} (f : A → B) (o : Option A) (b : B) → option_map f o ≡ Some b →
    (a : A) × (o ≡ Some a) × (b ≡ f a)
made_of f None b is = absurd (cc)
made_of f (Some a) b is = (a, refl, cc)

-- If two options are mapped to one, the values that they have are mapped to one value.
both : {A B : Type 0} (f : A → B) (o o' : Option A) (a a' : A) → o ≡ Some a → o' ≡ Some a' →
    option_map f o ≡ option_map f o' → f a ≡ f a'
both f None o' a a' is is' same = absurd (cc)
both f (Some x) None a a' is is' same = absurd (cc)
both f (Some x) (Some x') a a' is is' same = cc

-- Views that release the same are alike.
views_alike : (c : Control) → IsClass c.order c.class → IsValid c.image → IsNoninterfering c.known c.order c.image →
    ReleasedViewsAlike c
views_alike c class valid secure m m' budget budget' text text' alike seen seen' released =
    let one = made_of (written_text c) (last_words c budget m) text seen in
    let other = made_of (written_text c) (last_words c budget' m') text' seen' in
    let ends = ends_with c m one.0 budget (run_of c.image m budget) refl one.1 in
    let ends' = ends_with c m' other.0 budget' (run_of c.image m' budget') refl other.1 in
    let full = words_last c.image m budget ends.state valid alike.full ends.reached in
    let full' = words_last c.image m' budget' ends'.state valid alike.full' ends'.reached in
    let lengths : length one.0 ≡ length other.0 =
    sym (ap length ends.words) ∙ full ∙ sym full' ∙ ap length ends'.words in
    let agree =
    secure c.class class m m' one.0 other.0 budget budget' alike.full alike.full' alike.agree ends ends' in
    let same =
    both (released_words c (globals c.image.globals.items)) (last_words c budget m) (last_words c budget' m') one.0
    other.0 one.1 other.1 released in
    one.2 ∙ same_lines c (globals c.image.globals.items) one.0 other.0 lengths agree same ∙ sym other.2

-- The law of views that release the same.
pub same_released_views : SameReleasedViews
same_released_views c class valid secure = views_alike c class valid secure

-- The law of such views of a compiled image.
pub same_released_compiled_views : SameReleasedCompiledViews
same_released_compiled_views c P text class compiled =
    views_alike c class (coded_valid c.image compiled.coded) compiled.noninterference

-- If a function maps every value to nothing, it maps two options that have values to one.
nothing_of : {A B : Type 0} (f : A → List B) → ((a : A) → f a ≡ []) → (o o' : Option A) (a a' : A) →
    o ≡ Some a → o' ≡ Some a' → option_map f o ≡ option_map f o'
nothing_of f none o o' a a' is is' =
    ap (option_map f) is ∙ ap Some (none a) ∙ sym (ap Some (none a')) ∙ sym (ap (option_map f) is')

-- The law of views that release nothing.
pub same_compiled_views : SameCompiledViews
same_compiled_views c P text none class compiled m m' budget budget' t t' alike seen seen' =
    let one = made_of (written_text c) (last_words c budget m) t seen in
    let other = made_of (written_text c) (last_words c budget' m') t' seen' in
    same_released_compiled_views c P text class compiled m m' budget budget' t t' alike seen seen'
    (nothing_of (released_words c (globals c.image.globals.items)) (no_words c none (globals c.image.globals.items))
    (last_words c budget m) (last_words c budget' m') one.0 other.0 one.1 other.1)

-- ---- without lists.

-- A disjunction with nothing.
or_nothing : (b : Bool) → (true && (b || false)) ≡ b
or_nothing true = refl
or_nothing false = refl

-- Without lists a global is written if the class sees it.
written_seen : (c : Control) (g : Global) → c.boundary ≡ no_boundary → is_written c g ≡ sees c g.1
written_seen c g plain =
    ap (λ b. is_listed b.outputs g.0 && (sees c g.1 || is_among b.released g.0)) plain ∙ or_nothing (sees c g.1)

-- So the lines are those that the class sees.
plain_lines : (c : Control) (gs : List Global) (words : List ℤ) → c.boundary ≡ no_boundary →
    written_lines c gs words ≡ view_text_of c.known c.order c.class gs words
plain_lines c [] words plain = refl
plain_lines c (g ∷ gs) [] plain = refl
plain_lines c (g ∷ gs) (w ∷ ws) plain =
    ap (λ l. written_line c g w ++ l) (plain_lines c gs ws plain)
    ∙ ap (λ b. (if b then line_of g.0 w else []) ++ view_text_of c.known c.order c.class gs ws) (written_seen c g plain)

-- The law of views without lists.
pub plain_view : ViewsPlainly
plain_view c words plain = plain_lines c (globals c.image.globals.items) words plain
