-- An image that fits has no points, and an image with the same fields has the same points.
use Rattle.std.proofs.Common.{◌≡◌, ℕ, ◌+◌, ◌-◌, ℤ, pos, true, List, [], ◌∷◌, ◌++◌, Option, Some, None, is_some, not, ◌&&◌, if◌then◌else◌, length, take, replicate, refl, sym, ap, ◌∙◌, inl, inr}
use Rattle.std.proofs.lemmas.List.{length-map}
use Rattle.std.specs.Global.{Vec}
use Rattle.vsi_lattice.specs.Order.{Lattice}
use Rattle.vsi_lattice.specs.declared.lattice.Lattice as named
use Rattle.vsi_lattice.specs.LatticeView.{class_named, order}
use Rattle.vsi_lattice.specs.Known.{Known}
use Rattle.vsi_types.specs.declared.rules.Profile.{Profile}
use Rattle.vsi_types.specs.declared.rules.Profile.TheVariants as profile
use Rattle.vsi_compiler.specs.Headline as compiler
use Rattle.vsi_steady.specs.declared.source.UnsteadyError.{UnsteadyError}
use Rattle.vsi_steady.specs.declared.source.UnsteadyError.TheVariants as unsteady
use Rattle.vsi_image.specs.declared.instr.Image.{Image}
use Rattle.vsi_image.specs.Fields.{Fields, global, globals, fields}
use Rattle.vsi_image.specs.Meaning.{State, after, going}
use Rattle.vsi_machine.specs.Runs.{globals_of, run_of}
use Rattle.vsi_conform.specs.declared.interface.Interface.{Interface}
use Rattle.vsi_conform.specs.declared.interface.Judgement.{Judgement}
use Rattle.vsi_conform.specs.declared.interface.Judgement.TheVariants.{Base, Strict, Steady}
use Rattle.vsi_conform.specs.declared.interface.Trial.{Trial}
use Rattle.vsi_conform.specs.declared.interface.Point.{Point}
use Rattle.vsi_conform.specs.declared.interface.Point.TheVariants.{OutOfBudget}
use Rattle.vsi_conform.specs.Conforms.{EndsAsAsked, AllEndAsAsked, Fits, IsAcceptedAs, IsRefusedAs, TellsReadable, Conforms}
use Rattle.vsi_conform.specs.Points.{entries, given_words, is_none_told, word_points, words_of, state_points, trial_points, trials_points, global_points, points_of}
use Rattle.vsi_conform.proofs.Points.{empty_both, globals_told, words_told}

-- A run that ends as required has no points.
trial_told : (image : Image) (n : ℕ) (t : Trial) → EndsAsAsked image t → trial_points image n t ≡ []
trial_told image n t e =
    ap (state_points image n t) e.reached
    ∙ ap (λ b. if b then word_points n 0 (entries t.expect.items) (globals image.globals.items)
    (globals_of image e.last) else OutOfBudget n ∷ []) e.halted
    ∙ words_told n 0 (entries t.expect.items) (globals image.globals.items) (globals_of image e.last) e.words

-- Runs that all end as required have no points.
trials_told : (image : Image) (n : ℕ) (ts : List Trial) → AllEndAsAsked image ts → trials_points image n ts ≡ []
trials_told image n [] h = refl
trials_told image n (t ∷ ts) h =
    empty_both (trial_points image n t) (trials_points image (n + 1) ts) (trial_told image n t h.0)
    (trials_told image (n + 1) ts h.1)

-- An image that fits has no points.
pub fitting_told : (image : Image) (i : Interface) → Fits i image → points_of image i ≡ []
fitting_told image i f =
    empty_both (global_points i.is_ordered (globals i.globals.items) (globals image.globals.items))
    (trials_points image 0 i.trials.items)
    (globals_told i.is_ordered (globals i.globals.items) (globals image.globals.items) f.globals)
    (trials_told image 0 i.trials.items f.trials)

-- The points of the state in which a run ends, from the fields alone.
abbrev state_in : Fields → ℕ → Trial → Option State → List Point
state_in f n t None = OutOfBudget n ∷ []
state_in f n t (Some s) =
    if s.halted then word_points n 0 (entries t.expect.items) f.globals (take (length f.globals) s.slots)
    else OutOfBudget n ∷ []

-- They are the points of the image.
state_is : (image : Image) (n : ℕ) (t : Trial) (o : Option State) →
    state_points image n t o ≡ state_in (fields image) n t o
state_is image n t None = refl
state_is image n t (Some s) =
    ap (λ k. if s.halted
    then word_points n 0 (entries t.expect.items) (globals image.globals.items) (take k s.slots)
    else OutOfBudget n ∷ []) (sym (length-map image.globals.items global))

-- The words at the start of a run, from the fields alone.
abbrev words_in : Fields → Trial → List ℤ
words_in f t = given_words (entries t.store.items) f.globals

-- The state that a run reaches, from the fields alone.
abbrev run_in : Fields → Trial → Option State
run_in f t =
    after f.code t.budget (going 0 [] (words_in f t ++ replicate (f.slots - length (words_in f t)) (pos 0)))

-- The points of runs, from the fields alone.
abbrev trials_in : Fields → ℕ → List Trial → List Point
trials_in f n [] = []
trials_in f n (t ∷ ts) = state_in f n t (run_in f t) ++ trials_in f (n + 1) ts

-- They are the points of the image.
trials_are : (image : Image) (n : ℕ) (ts : List Trial) →
    trials_points image n ts ≡ trials_in (fields image) n ts
trials_are image n [] = refl
trials_are image n (t ∷ ts) =
    ap (λ ps. ps ++ trials_points image (n + 1) ts) (state_is image n t (run_of image (words_of image t) t.budget))
    ∙ ap (λ ps. state_in (fields image) n t (run_in (fields image) t) ++ ps) (trials_are image (n + 1) ts)

-- All points, from the fields alone.
abbrev points_in : Interface → Fields → List Point
points_in i f = global_points i.is_ordered (globals i.globals.items) f.globals ++ trials_in f 0 i.trials.items

-- They are the points of the image.
points_are : (image : Image) (i : Interface) → points_of image i ≡ points_in i (fields image)
points_are image i =
    ap (λ ps. global_points i.is_ordered (globals i.globals.items) (globals image.globals.items) ++ ps)
    (trials_are image 0 i.trials.items)

-- An image with the same fields as one that fits has no points.
same_told : (a b : Image) (i : Interface) → fields a ≡ fields b → Fits i b → points_of a i ≡ []
same_told a b i same fits =
    points_are a i ∙ ap (points_in i) same ∙ sym (points_are b i) ∙ fitting_told b i fits

-- ---- texts.

-- The image of a text that is accepted as required was compiled under some profile.
compiled_so : (known : Known) (L : Lattice) (j : Judgement) (text : List ℕ) (image : Image) →
    IsAcceptedAs known L j text image → (P : Profile) × compiler.IsCompiled known L P text image
compiled_so known L Base text image h = (profile.Base, h)
compiled_so known L Strict text image h = (profile.Strict, h)
compiled_so known L Steady text image h = (profile.Strict, h.compiled)

-- The image of a text that is accepted as required is the text's.
pub accepted_image : (l : named.Lattice) (text : List ℕ) (j : Judgement) (a : Image) →
    IsAcceptedAs (class_named l) (order l) j text a → compiler.IsImageOf (class_named l) text a
accepted_image l text j a h = (compiled_so (class_named l) (order l) j text a h).1.image

-- All images of an accepted text have the same fields.
pub one_fields : (known : Known) (L : Lattice) (j : Judgement) (text : List ℕ) (a b : Image) →
    compiler.IsImageOf known text a → IsAcceptedAs known L j text b → fields a ≡ fields b
one_fields known L j text a b code h =
    let p = compiled_so known L j text b h in
    let is = p.1.accepted in
    code is.tree is.commands is.reads is.resolution ∙ sym (p.1.image is.tree is.commands is.reads is.resolution)

-- The image of a text that conforms has no points.
pub conforming_told : (l : named.Lattice) (text : List ℕ) (i : Interface) (a : Image) →
    compiler.IsImageOf (class_named l) text a → Conforms l text i → points_of a i ≡ []
conforming_told l text i a code c =
    same_told a c.image i (one_fields (class_named l) (order l) i.judgement text a c.image code c.accepted) c.fits

-- The same holds of the image of a text that is accepted as required.
pub accepted_told : (l : named.Lattice) (text : List ℕ) (i : Interface) (a : Image) →
    IsAcceptedAs (class_named l) (order l) i.judgement text a → Conforms l text i → points_of a i ≡ []
accepted_told l text i a h =
    conforming_told l text i a (accepted_image l text i.judgement a h)

-- If a text conforms, there are no points even in the answer for a refused text.
pub readable_told : (l : named.Lattice) (text : List ℕ) (i : Interface) (ps : List Point) (line : Option (Vec ℕ)) →
    TellsReadable (class_named l) text i ps line → Conforms l text i → ps ≡ []
readable_told l text i ps line (inl t) c = t.points ∙ conforming_told l text i t.image t.code c
readable_told l text i ps line (inr t) c = t.nothing

-- A text that is accepted as required isn't refused.
pub never_refused : (known : Known) (L : Lattice) (j : Judgement) (text : List ℕ) (image : Image)
    (e : UnsteadyError) → IsAcceptedAs known L j text image → ¬ (IsRefusedAs known L j text e)
never_refused known L Base text image (unsteady.Compile e) h told = told.unaccepted h.accepted
never_refused known L Base text image (unsteady.Image e) h told = told
never_refused known L Base text image unsteady.Memory h told = told
never_refused known L Strict text image (unsteady.Compile e) h told = told.unaccepted h.accepted
never_refused known L Strict text image (unsteady.Image e) h told = told
never_refused known L Strict text image unsteady.Memory h told = told
never_refused known L Steady text image e h told =
    told.unaccepted (record { flows = h.flows; image = image; compiled = h.compiled; steady = h.steady })

-- If nothing is reported, the test for that holds.
pub none_told_so : (ps : List Point) (line : Option (Vec ℕ)) → ps ≡ [] → line ≡ None →
    (is_none_told ps && not (is_some line)) ≡ true
none_told_so ps line h none = ap (λ qs. is_none_told qs && not (is_some line)) h ∙ ap (λ o. not (is_some o)) none
