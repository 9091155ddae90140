-- Pairs of runs that halt.
use Rattle.std.proofs.Common.{◌≡◌, ℕ, ◌≤◌, Option, Some, None, refl, sym, ◌∙◌, subst, arith}
use Rattle.vsi_image.specs.declared.instr.Image.{Image}
use Rattle.vsi_image.specs.Meaning.{State, start}
use Rattle.vsi_machine.specs.Counting.{Halts}
use Rattle.vsi_machine.specs.Runs.{globals_of, run_of}
use Rattle.vsi_machine.proofs.Counts.{halts_longer}
use Rattle.vsi_machine.specs.Bound.{AlwaysHalts}
use Rattle.vsi_scope.specs.Meaning.{Store}
use Rattle.vsi_compiler.specs.Observation.{Ends, IsStoreOf}
use Rattle.vsi_steady.specs.Laws.{SteadyRunsAlike}
use Rattle.vsi_drive.specs.Settled.{SettledCount, SettledNoninterference}

-- A run that halts ends in a store.
ends : (image : Image) (m : Store) (budget : ℕ) → Halts (run_of image m budget)
    → (last : Store) × Ends image m budget last
ends image m budget h = go (run_of image m budget) refl h
  where
    go : (o : Option State) → run_of image m budget ≡ o → Halts o → (last : Store) × Ends image m budget last
    go None e h = absurd h
    go (Some s) e h = (globals_of image s, record { state = s; reached = e; halted = h; words = refl })

-- A run of an image that always halts ends in a store.
settled : (image : Image) (least most : ℕ) (m : Store) (budget : ℕ) → AlwaysHalts image least most
    → IsStoreOf image m → most ≤ budget → (last : Store) × Ends image m budget last
settled image least most m budget always full enough =
    let h = always m full in
    ends image m budget
    (halts_longer image.code.items h.count budget (start image m) h.exact.halts (omega (arith, h.few, enough)))

-- The law of noninterference without budgets.
pub settled_noninterference : SettledNoninterference
settled_noninterference known L image least most secret always a m m' budget budget' class full full' agree enough
    enough' =
    let one = settled image least most m budget always full enough in
    let other = settled image least most m' budget' always full' enough' in
    record {
      last = one.0;
      last' = other.0;
      ends = one.1;
      ends' = other.1;
      agree = secret a class m m' one.0 other.0 budget budget' full full' agree one.1 other.1;
    }

-- If one of two runs halts, and both have halted or neither has, the other halts too.
halts_too : (o o' : Option State) (s s' : State) → o ≡ Some s → o' ≡ Some s' → s.halted ≡ s'.halted → Halts o
    → Halts o'
halts_too o o' s s' e e' same h =
    let there : Halts (Some s) = subst Halts e h in
    let other : Halts (Some s') = sym same ∙ there in
    subst Halts (sym e') other

-- The law of counts, from the positions that the runs of steady images share.
pub settled_count : SteadyRunsAlike → SettledCount
settled_count runs_alike known L image least most lattice valid steady always m m' agree =
    let h = always m agree.full in
    let alike = λ (n : ℕ). runs_alike known L image lattice valid steady L.bottom m m' n agree in
    let c = alike h.count in
    record {
      count = h.count;
      exact = h.exact;
      exact' = record {
        halts = halts_too (run_of image m h.count) (run_of image m' h.count) c.state c.state' c.reached c.reached'
            c.halted h.exact.halts;
        least = λ budget k.
            let s = alike budget in
            h.exact.least budget (halts_too (run_of image m' budget) (run_of image m budget) s.state' s.state s.reached'
            s.reached (sym s.halted) k);
      };
      enough = h.enough;
      few = h.few;
    }
