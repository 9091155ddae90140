-- Drives of a steady image are alike, whatever the budget.
use Rattle.std.proofs.Common.{◌≡◌, List, Some, Ok, Err, Bool, true, false, refl, sym, ap, subst, ◌∙◌}
use Rattle.std.specs.Prelude.{ℤ, Result, if◌then◌else◌}
use Rattle.vsi_lattice.specs.Order.{IsClass}
use Rattle.vsi_image.specs.Valid.{IsValid}
use Rattle.vsi_image.specs.Meaning.{State}
use Rattle.vsi_machine.specs.Runs.{globals_of}
use Rattle.vsi_steady.specs.Laws.{AgreeBelow, RunsAlike}
use Rattle.vsi_store.proofs.Slots.{words_last}
use Rattle.vsi_drive.specs.declared.settings.LineFault.{LineFault}
use Rattle.vsi_drive.specs.Control.{Control}
use Rattle.vsi_drive.specs.Settings.{Setting, settings_of, applied}
use Rattle.vsi_drive.specs.Cycles.{cycle, cycle_from, cycle_of, run_to, spent, halted}
use Rattle.vsi_drive.specs.Laws.{AgreeFor, SameReleasedSteadyDrives, SameSteadyDrives, released_in}
use Rattle.vsi_drive.proofs.Alike.{CycleAlike, EachAlike, agree_applied, drives_alike, halts_with, none_released, same_line}

-- A cycle whose state hasn't halted is out of budget.
spends_with : (c : Control) (m : List ℤ) (s : State) → s.halted ≡ false → run_to c m (Some s) ≡ spent m
spends_with c m s h = ap (λ v. if v then halted c (globals_of c.image s) else spent m) h

-- Two states whose words agree, both halted or both not, end cycles that are alike if they release the same.
ended_alike : (c : Control) (m m' : List ℤ) (s s' : State) (h : Bool) → s.halted ≡ h → s'.halted ≡ h →
    AgreeFor c m m' → AgreeFor c (globals_of c.image s) (globals_of c.image s') →
    released_in c (run_to c m (Some s)) ≡ released_in c (run_to c m' (Some s')) →
    CycleAlike c (run_to c m (Some s)) (run_to c m' (Some s'))
ended_alike c m m' s s' true is is' before last released =
    let on = halts_with c m s is in
    let on' = halts_with c m' s' is' in
    let same = sym (ap (released_in c) on) ∙ released ∙ ap (released_in c) on' in
    rw (on, on') (record { line = same_line c _ _ last same; stores = last })
ended_alike c m m' s s' false is is' before last released =
    rw (spends_with c m s is, spends_with c m' s' is') (record { line = refl; stores = before })

module _ (c : Control) (class : IsClass c.order c.class) (valid : IsValid c.image)
    (alike : RunsAlike c.known c.order c.image) where
  -- Two cycles from words that agree are alike if they release the same.
  from_alike : (m m' words words' : List ℤ) → AgreeFor c m m' → AgreeFor c words words' →
      released_in c (cycle_from c m words) ≡ released_in c (cycle_from c m' words') →
      CycleAlike c (cycle_from c m words) (cycle_from c m' words')
  from_alike m m' words words' before first released =
      let both : AgreeBelow c.known c.order c.image c.class words words' =
      record { class = class; full = first.full; full' = first.full'; agree = first.agree } in
      let x = alike c.class words words' c.budget both in
      let last : AgreeFor c (globals_of c.image x.state) (globals_of c.image x.state') =
      record {
        full = words_last c.image words c.budget x.state valid first.full x.reached;
        full' = words_last c.image words' c.budget x.state' valid first.full' x.reached';
        agree = x.agree;
      } in
      let to : released_in c (run_to c m (Some x.state)) ≡ released_in c (run_to c m' (Some x.state')) =
      sym (ap (λ o. released_in c (run_to c m o)) x.reached) ∙ released
      ∙ ap (λ o. released_in c (run_to c m' o)) x.reached' in
      rw (x.reached, x.reached') (ended_alike c m m' x.state x.state' x.state'.halted x.halted refl before last to)

  -- Two cycles with the same settings, or with one fault, are alike if they release the same.
  of_alike : (r : Result (List Setting) LineFault) (m m' : List ℤ) → AgreeFor c m m' →
      released_in c (cycle_of c m r) ≡ released_in c (cycle_of c m' r) → CycleAlike c (cycle_of c m r) (cycle_of c m' r)
  of_alike (Err fault) m m' first released = record { line = refl; stores = first }
  of_alike (Ok ss) m m' first released =
      from_alike m m' (applied ss m) (applied ss m') first (agree_applied c ss m m' first) released

  -- The first cycles of any lines are alike if they release the same.
  pub each_steady : EachAlike c (λ m lines. Unit {0})
  each_steady m m' l l' ls ls' first sets released h h' = (
    subst (λ r. released_in c (cycle c m l) ≡ released_in c (cycle_of c m' r) →
        CycleAlike c (cycle c m l) (cycle_of c m' r)) sets (of_alike (settings_of c l) m m' first) released,
    tt,
    tt,
  )

-- The law of drives of a steady image that release the same.
pub same_released_steady_drives : SameReleasedSteadyDrives
same_released_steady_drives c class valid alike lines lines' m m' first same released =
    drives_alike c (λ m lines. Unit {0}) (each_steady c class valid alike) lines lines' m m' first same tt tt released

-- The law of drives of a steady image.
pub same_steady_drives : SameSteadyDrives
same_steady_drives c none class valid alike lines lines' m m' first same =
    same_released_steady_drives c class valid alike lines lines' m m' first same
    (none_released c none lines lines' m m' same)
