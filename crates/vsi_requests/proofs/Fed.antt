-- The settings of a view by an interface.
use Rattle.std.proofs.Common.{◌≡◌, ◌+◌, ℕ, zero, suc, ℤ, Bool, true, false, List, [], ◌∷◌, IsOk, Option, Some, None, Result, Ok, Err, refl, sym, ap, arith}
use Rattle.std.specs.Prelude.{if◌then◌else◌}
use Rattle.std.specs.Option.{option_or}
use Rattle.vsi_image.specs.Meaning.{State}
use Rattle.vsi_machine.specs.Runs.{globals_of, run_of}
use Rattle.vsi_drive.specs.Control.{Control}
use Rattle.vsi_drive.specs.Cycles.{cycle_of, halted, run_to, spent}
use Rattle.vsi_drive.specs.Settings.{Setting, applied, settings_of}
use Rattle.vsi_drive.specs.declared.controller.CycleEnding.TheVariants.{Refused}
use Rattle.vsi_drive.specs.declared.settings.LineFault.{LineFault}
use Rattle.vsi_drive.specs.declared.boundary.StartFault.TheVariants as start
use Rattle.vsi_answers.specs.Answers.{Because}
use Rattle.vsi_answers.specs.Judged.{TellsStartFault}
use Rattle.vsi_subject.specs.declared.failure.Failure.{Failure}
use Rattle.vsi_subject.specs.Feeding.{AreInputs, IsUnfed, at_number, fault_of, unfed}
use Rattle.vsi_subject.specs.Refusals.{NoOther, FailsBy}
use Rattle.vsi_subject.proofs.Reasons.{fails_by}
use Rattle.vsi_requests.proofs.Undriven.{start_told}

-- The first of two faults is none only if both are.
none_first : (n : ℕ) (r : Result (List Setting) LineFault) (rest : Option LineFault) →
    option_or (fault_of n r) rest ≡ None → IsOk r × (rest ≡ None)
none_first n (Ok settings) rest none = (refl, none)
none_first n (Err fault) rest none = absurd (cc)

-- Settings without a first fault are all made.
pub fed_all : (c : Control) (n : ℕ) (ss : List (List ℕ)) → unfed c n ss ≡ None → AreInputs c ss
fed_all c n [] none k d within = absurd (omega arith)
fed_all c n (s ∷ ss) none zero d within = (none_first n (settings_of c s) (unfed c (n + 1) ss) none).0
fed_all c n (s ∷ ss) none (suc k) d within =
    fed_all c (n + 1) ss (none_first n (settings_of c s) (unfed c (n + 1) ss) none).1 k d (omega (arith, within))

-- The failure for the first fault of settings claims that they aren't all made.
pub unfed_fails : (c : Control) (ss : List (List ℕ)) (f : LineFault) (failure : Failure) → Some f ≡ unfed c 0 ss →
    FailsBy (Because (TellsStartFault (λ g. g ≡ start.Setting f)) ⊥) NoOther failure →
    FailsBy (Because (TellsStartFault (IsUnfed c ss)) ⊥) NoOther failure
unfed_fails c ss f failure is told =
    fails_by (Because (TellsStartFault (λ g. g ≡ start.Setting f)) ⊥) (Because (TellsStartFault (IsUnfed c ss)) ⊥) NoOther
    (λ reason why. start_told (IsUnfed c ss) (start.Setting f) (f, refl, sym is) reason why) failure told

-- A run's cycle isn't refused.
run_unrefused : (c : Control) (m : List ℤ) (s : Option State) (fault : LineFault) →
    (run_to c m s).ending ≡ Refused fault → ⊥
run_unrefused c m None fault refused = absurd (cc)
run_unrefused c m (Some s) fault refused = by s.halted refused
  where
    by : (b : Bool) → (if b then halted c (globals_of c.image s) else spent m).ending ≡ Refused fault → ⊥
    by true e = absurd (cc)
    by false e = absurd (cc)

-- If the cycle of a line is refused, its fault is that of the line's settings.
pub refused_fault : (c : Control) (m : List ℤ) (n : ℕ) (r : Result (List Setting) LineFault) (fault : LineFault) →
    (cycle_of c m r).ending ≡ Refused fault → fault_of n r ≡ Some (at_number n fault)
refused_fault c m n (Ok settings) fault refused =
    absurd (run_unrefused c m (run_of c.image (applied settings m) c.budget) fault refused)
refused_fault c m n (Err found) fault refused = let same : found ≡ fault = cc in ap (λ f. Some (at_number n f)) same
