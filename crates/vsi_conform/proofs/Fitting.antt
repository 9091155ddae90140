-- An image without points fits.
use Rattle.std.proofs.Common.{◌≡◌, ℕ, ◌+◌, Bool, true, false, List, [], ◌∷◌, Option, Some, None, is_some, not, ◌&&◌, if◌then◌else◌, refl, sym, ◌∙◌}
use Rattle.std.specs.Global.{Vec}
use Rattle.vsi_lattice.specs.declared.lattice.Lattice.{Lattice}
use Rattle.vsi_lattice.specs.LatticeView.{class_named, order}
use Rattle.vsi_image.specs.declared.instr.Image.{Image}
use Rattle.vsi_image.specs.Fields.{globals}
use Rattle.vsi_image.specs.Meaning.{State}
use Rattle.vsi_machine.specs.Runs.{globals_of, run_of}
use Rattle.vsi_conform.specs.declared.interface.Interface.{Interface}
use Rattle.vsi_conform.specs.declared.interface.Trial.{Trial}
use Rattle.vsi_conform.specs.declared.interface.Point.{Point}
use Rattle.vsi_conform.specs.declared.interface.Point.TheVariants.{OutOfBudget}
use Rattle.vsi_conform.specs.Asked.{HasWords}
use Rattle.vsi_conform.specs.Bounded.{IsBoundedAs, ReportsBound}
use Rattle.vsi_conform.specs.Conforms.{EndsAsAsked, AllEndAsAsked, Fits, IsAcceptedAs, Conforms}
use Rattle.vsi_conform.specs.Points.{entries, word_points, words_of, state_points, trial_points, trials_points, global_points, points_of, is_none_told}
use Rattle.vsi_conform.proofs.BoundLines.{bounded_so}
use Rattle.vsi_conform.proofs.Points.{both_empty, globals_kept, words_kept}

-- If a test and its points add up to no point, the test holds and the points are empty.
halts : (b : Bool) (n : ℕ) (ps : List Point) → (if b then ps else OutOfBudget n ∷ []) ≡ [] → (b ≡ true) × (ps ≡ [])
halts true n ps h = (refl, h)
halts false n ps h = absurd cc

-- A final state without points has halted with the expected words.
state_kept : (image : Image) (n : ℕ) (t : Trial) (o : Option State) → state_points image n t o ≡ [] →
    (s : State) × (o ≡ Some s) × (s.halted ≡ true)
    × HasWords (globals image.globals.items) (globals_of image s) (entries t.expect.items)
state_kept image n t None h = absurd cc
state_kept image n t (Some s) h =
    let p = halts s.halted n
    (word_points n 0 (entries t.expect.items) (globals image.globals.items) (globals_of image s)) h in (
      s,
      refl,
      p.0,
      words_kept n 0 (entries t.expect.items) (globals image.globals.items) (globals_of image s) p.1,
    )

-- A run without points ends as required.
trial_kept : (image : Image) (n : ℕ) (t : Trial) → trial_points image n t ≡ [] → EndsAsAsked image t
trial_kept image n t h =
    let p = state_kept image n t (run_of image (words_of image t) t.budget) h in
    record { last = p.0; reached = p.1; halted = p.2; words = p.3 }

-- Runs without points all end as required.
trials_kept : (image : Image) (n : ℕ) (ts : List Trial) → trials_points image n ts ≡ [] → AllEndAsAsked image ts
trials_kept image n [] h = tt
trials_kept image n (t ∷ ts) h =
    let p = both_empty (trial_points image n t) (trials_points image (n + 1) ts) h in
    (trial_kept image n t p.0, trials_kept image (n + 1) ts p.1)

-- An image without points fits.
pub image_fits : (image : Image) (i : Interface) → points_of image i ≡ [] → IsBoundedAs i.bounded image →
    Fits i image
image_fits image i h bound =
    let p = both_empty (global_points i.is_ordered (globals i.globals.items) (globals image.globals.items))
    (trials_points image 0 i.trials.items) h in
    record {
      globals = globals_kept i.is_ordered (globals i.globals.items) (globals image.globals.items) p.0;
      trials = trials_kept image 0 i.trials.items p.1;
      bound = bound;
    }

-- If the test says that nothing is reported, there are no points and no line about the bound.
nothing_told : (ps : List Point) (line : Option (Vec ℕ)) → (is_none_told ps && not (is_some line)) ≡ true →
    (ps ≡ []) × (line ≡ None)
nothing_told [] None h = (refl, refl)
nothing_told [] (Some line) h = absurd cc
nothing_told (p ∷ ps) line h = absurd cc

-- A text conforms if its image is accepted, and nothing is reported of it.
pub conforms_so : (l : Lattice) (text : List ℕ) (i : Interface) (image : Image) (ps : List Point)
    (line : Option (Vec ℕ)) → IsAcceptedAs (class_named l) (order l) i.judgement text image → ps ≡ points_of image i →
    ReportsBound i.bounded image line → (is_none_told ps && not (is_some line)) ≡ true → Conforms l text i
conforms_so l text i image ps line accepted points bound h =
    let p = nothing_told ps line h in
    record {
      image = image;
      accepted = accepted;
      fits = image_fits image i (sym points ∙ p.0) (bounded_so i.bounded image line bound p.1);
    }
