-- The view that a class has of two runs of a steady image.
use Rattle.std.proofs.Common.{◌≡◌, ℕ, zero, suc, List, [], ◌∷◌, ◌++◌, length, take, min, Option, Some, None, true, false, refl, sym, ap, subst, ◌∙◌, arith, if◌then◌else◌}
use Rattle.std.specs.Prelude.{slice_get, slice_index_or, ℤ, pos}
use Rattle.std.specs.Option.{option_map_or}
use Rattle.std.proofs.lemmas.Bool.{false≢true}
use Rattle.std.proofs.lemmas.List.{length-take}
use Rattle.std.proofs.lemmas.Option.{same_Some}
use Rattle.vsi_lattice.specs.Order.{Lattice, Below, IsLattice}
use Rattle.vsi_image.specs.declared.instr.Image.{Image}
use Rattle.vsi_image.specs.Fields.{Global, globals}
use Rattle.vsi_image.specs.Valid.{IsValid}
use Rattle.vsi_image.specs.Meaning.{State}
use Rattle.vsi_machine.specs.Runs.{globals_of, run_of}
use Rattle.vsi_machine.proofs.Progress.{never_stuck}
use Rattle.vsi_store.specs.Text.{line_of}
use Rattle.vsi_lattice.specs.Known.{Known}
use Rattle.vsi_store.specs.View.{ViewsState, line_seen, view_text_of}
use Rattle.vsi_store.specs.declared.views.View.{View}
use Rattle.vsi_store.specs.declared.views.View.TheVariants.{Text, OutOfBudget}
use Rattle.vsi_compiler.specs.Observation.{AgreeAt}
use Rattle.vsi_steady.specs.Laws.{seen, RunsAlike, SteadyViewsAlike, ViewsAlike}
use Rattle.vsi_steady.specs.Steady.{IsSteady}
use Rattle.vsi_steady.proofs.Together.{stand_alike, steady_runs_alike}

-- The line of a global is the same if its words are equal whenever its class is seen.
same_line : (L : Lattice) (a : ℕ) (g : Global) (w w' : ℤ) (o : Option ℕ)
    → ((c : ℕ) → o ≡ Some c → Below L c a → w ≡ w')
    → (if option_map_or (λ c. L.leq c a) o false then line_of g.0 w else [])
    ≡ (if option_map_or (λ c. L.leq c a) o false then line_of g.0 w' else [])
same_line L a g w w' None h = refl
same_line L a g w w' (Some c) h =
    elim (L.leq c a) as (λ v. L.leq c a ≡ v → (if v then line_of g.0 w else []) ≡ (if v then line_of g.0 w' else [])) [
      | true ↦ λ e. ap (line_of g.0) (h c refl e)
      | false ↦ λ e. refl
    ] refl

-- If the words of each seen global are equal, the lines are the same.
same_lines : (known : Known) (L : Lattice) (a : ℕ) (gs : List Global) (m m' : List ℤ) → length m ≡ length m'
    → ((i : ℕ) (g : Global) (c : ℕ) → slice_get gs i ≡ Some g → known g.1 ≡ Some c → Below L c a
    → slice_index_or m i (pos 0) ≡ slice_index_or m' i (pos 0))
    → view_text_of known L a gs m ≡ view_text_of known L a gs m'
same_lines known L a [] m m' same agree = refl
same_lines known L a (g ∷ gs) [] [] same agree = refl
same_lines known L a (g ∷ gs) [] (w' ∷ ws') same agree = absurd (omega (arith, same))
same_lines known L a (g ∷ gs) (w ∷ ws) [] same agree = absurd (omega (arith, same))
same_lines known L a (g ∷ gs) (w ∷ ws) (w' ∷ ws') same agree =
    let rest = same_lines known L a gs ws ws' (omega (arith, same)) (λ i h c at. agree (suc i) h c at) in
    let first : line_seen known L a g w ≡ line_seen known L a g w' =
    same_line L a g w w' (known g.1) (λ c is below. agree zero g c refl is below) in
    ap (λ l. line_seen known L a g w ++ l) rest ∙ ap (λ l. l ++ view_text_of known L a gs ws') first

-- Two states have the same view if both have halted or neither has, and their globals agree.
seen_same : (known : Known) (L : Lattice) (a : ℕ) (image : Image) (s s' : State) (view view' : View)
    → s.halted ≡ s'.halted → length s.slots ≡ length s'.slots
    → AgreeAt known L image a (globals_of image s) (globals_of image s')
    → ViewsState known L a image s view → ViewsState known L a image s' view' → seen view ≡ seen view'
seen_same known L a image s s' (Text text) (Text text') halted full agree v v' =
    let count = length image.globals.items in
    let same : length (take count s.slots) ≡ length (take count s'.slots) =
    length-take count s.slots ∙ ap (λ n. min count n) full ∙ sym (length-take count s'.slots) in
    ap Some (v.1 ∙ same_lines known L a (globals image.globals.items) (globals_of image s)
    (globals_of image s') same agree
    ∙ sym v'.1)
seen_same known L a image s s' (Text text) OutOfBudget halted full agree v v' =
    absurd (false≢true (sym v' ∙ sym halted ∙ v.0))
seen_same known L a image s s' OutOfBudget (Text text) halted full agree v v' =
    absurd (false≢true (sym v ∙ halted ∙ v'.0))
seen_same known L a image s s' OutOfBudget OutOfBudget halted full agree v v' = refl

-- A run has a slot for each of the image's.
all_slots : (image : Image) (m : List ℤ) (n : ℕ) (s : State) → IsValid image → length m ≡ length image.globals.items
    → run_of image m n ≡ Some s → length s.slots ≡ image.slots
all_slots image m n s valid full e =
    let end = never_stuck image m n valid full in
    subst (λ t. length t.slots ≡ image.slots) (same_Some end.0 s (sym end.1.reached ∙ e)) end.1.slots

-- The law of views.
pub steady_views_alike : SteadyViewsAlike
steady_views_alike known L image laws valid steady a m m' n view view' h v v' =
    let x = stand_alike known L image laws valid steady a h.class m m' n h in
    let is : x.state ≡ v.0 = same_Some x.state v.0 (sym x.reached ∙ v.1) in
    let is' : x.state' ≡ v'.0 = same_Some x.state' v'.0 (sym x.reached' ∙ v'.1) in
    let full = all_slots image m n x.state valid h.full x.reached
    ∙ sym (all_slots image m' n x.state' valid h.full' x.reached') in
    seen_same known L a image x.state x.state' view view' x.halted full x.agree
    (subst (λ s. ViewsState known L a image s view) (sym is) v.2)
    (subst (λ s. ViewsState known L a image s view') (sym is') v'.2)

-- Runs and views of a steady image are alike, also if another name of the image is known to be steady.
pub both_alike : (known : Known) (L : Lattice) (image held : Image) → held ≡ image → IsLattice L → IsValid image →
    IsSteady known L held → RunsAlike known L image × ViewsAlike known L image
both_alike known L image held same laws valid steady =
    let is = subst (IsSteady known L) same steady in
    (steady_runs_alike known L image laws valid is, steady_views_alike known L image laws valid is)
