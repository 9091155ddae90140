-- Drives whose cycles always halt.
use Rattle.std.proofs.Common.{◌≡◌, ◌≢◌, ℕ, List, [], ◌∷◌, length, Option, Some, None, Ok, Err, refl, sym, subst, ◌∙◌}
use Rattle.std.specs.Prelude.{ℤ, Result, slice_set}
use Rattle.std.proofs.lemmas.List.{length-set}
use Rattle.vsi_image.specs.Meaning.{State}
use Rattle.vsi_machine.specs.Counting.{Halts}
use Rattle.vsi_machine.specs.Runs.{globals_of, run_of}
use Rattle.vsi_machine.proofs.Ending.{enough_budget}
use Rattle.vsi_compiler.specs.Observation.{IsStoreOf}
use Rattle.vsi_store.proofs.Slots.{words_last}
use Rattle.vsi_drive.specs.declared.settings.LineFault.{LineFault}
use Rattle.vsi_drive.specs.declared.controller.CycleEnding.TheVariants.{Halted, OutOfBudget, Refused}
use Rattle.vsi_drive.specs.Control.{Control}
use Rattle.vsi_drive.specs.Settings.{Setting, settings_of, applied}
use Rattle.vsi_drive.specs.Cycles.{Cycle, cycle, cycle_of, run_to}
use Rattle.vsi_drive.proofs.Alike.{halts_with, same_drives, same_released_drives}
use Rattle.vsi_drive.specs.Drives.{IsBounded, BoundedDrivesHalt, SameBoundedDrives, SameReleasedBoundedDrives}

-- A cycle isn't out of budget, and leads to a store of the image.
abbrev GoesOn : Control → Cycle → Type 0
GoesOn c x = (x.ending ≢ OutOfBudget) × IsStoreOf c.image x.store

-- Settings keep the number of words.
applied_full : (ss : List Setting) (m : List ℤ) → length (applied ss m) ≡ length m
applied_full [] m = refl
applied_full (s ∷ ss) m = applied_full ss (slice_set m s.0 s.1) ∙ length-set m s.0 s.1

-- A cycle whose run halts goes on.
ran : (c : Control) (m words : List ℤ) (o : Option State) → IsBounded c → IsStoreOf c.image words
    → run_of c.image words c.budget ≡ o → Halts o → GoesOn c (run_to c m o)
ran c m words None is full e h = absurd h
ran c m words (Some s) is full e h =
    subst (GoesOn c) (sym (halts_with c m s h))
    ((λ same. absurd (cc)), words_last c.image words c.budget s is.valid full e)

-- A cycle with any settings, or with a fault, goes on.
goes_on : (c : Control) (m : List ℤ) (r : Result (List Setting) LineFault) → IsBounded c → IsStoreOf c.image m
    → GoesOn c (cycle_of c m r)
goes_on c m (Err fault) is full = ((λ same. absurd (cc)), full)
goes_on c m (Ok ss) is full =
    let words = applied ss m in
    let there : IsStoreOf c.image words = applied_full ss m ∙ full in
    ran c m words (run_of c.image words c.budget) is there refl
    (enough_budget c.image is.least is.most c.budget words is.halts is.enough there)

-- The law of cycles.
pub bounded_drives_halt : BoundedDrivesHalt
bounded_drives_halt c m [] is full = tt
bounded_drives_halt c m (line ∷ lines) is full =
    let first = goes_on c m (settings_of c line) is full in
    (first.0, bounded_drives_halt c (cycle c m line).store lines is first.1)

-- The law of drives.
pub same_bounded_drives : SameBoundedDrives
same_bounded_drives c none class secure is lines lines' m m' agree same =
    same_drives c none class is.valid secure lines lines' m m' agree same
    (bounded_drives_halt c m lines is agree.full) (bounded_drives_halt c m' lines' is agree.full')

-- The law of drives that release the same.
pub same_released_bounded_drives : SameReleasedBoundedDrives
same_released_bounded_drives c class secure is lines lines' m m' agree same released =
    same_released_drives c class is.valid secure lines lines' m m' agree same
    (bounded_drives_halt c m lines is agree.full) (bounded_drives_halt c m' lines' is agree.full') released
