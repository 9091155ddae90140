-- The image behaves like the body.
use Rattle.std.proofs.Common.{◌≡◌, ℕ, zero, suc, ◌+◌, ◌-◌, ◌≤◌, List, [], ◌∷◌, ◌++◌, length, take, replicate, Option, Some, None, true, false, refl, sym, ap, ◌∙◌, subst, arith, pos, if◌then◌else◌, option_and_then}
use Rattle.std.specs.Prelude.{slice_get}
use Rattle.std.proofs.lemmas.Option.{none-some, same_Some}
use Rattle.std.proofs.lemmas.List.{take_at, length-replicate}
use Rattle.vsi_image.specs.declared.instr.Instr.{Instr}
use Rattle.vsi_image.specs.declared.instr.Instr.TheVariants.{Halt}
use Rattle.vsi_image.specs.declared.instr.Image.{Image}
use Rattle.vsi_image.specs.Meaning.{State, acted, stepped, after, start, ended}
use Rattle.vsi_scope.specs.Language.{Command, HasPlaces, size, nesting}
use Rattle.vsi_scope.specs.Meaning.{Store as Words, runs, Evaluates}
use Rattle.vsi_scope.proofs.Evaluation.{length_kept}
use Rattle.vsi_code.specs.Layout.{code_at, whole_code}
use Rattle.vsi_code.specs.Behaves.{Halts, Behaves}
use Rattle.vsi_code.proofs.Placed.{HasAt, has_front, has_back, has_all, command_long}
use Rattle.vsi_code.proofs.Stretches.{Runs, StretchEnds, GoesOn}
use Rattle.vsi_code.proofs.Runs.{command_runs}

-- A halted machine stays as it is.
after_halted : (code : List Instr) (n : ℕ) (s : State) → s.halted ≡ true → after code n s ≡ Some s
after_halted code zero s h = refl
after_halted code (suc n) s h =
    let going = option_and_then (λ i. acted i s.pc s.operands s.slots) (slice_get code s.pc) in
    ap (λ b. option_and_then (after code n) (if b then Some s else going)) h ∙ after_halted code n s h

-- If one function goes on to a state wherever another does, it does so from an optional state too.
then_stays : (f f' : State → Option State) (t : State) (o : Option State) →
    ((u : State) → f u ≡ Some t → f' u ≡ Some t) → option_and_then f o ≡ Some t → option_and_then f' o ≡ Some t
then_stays f f' t None h e = absurd (none-some _ e)
then_stays f f' t (Some u) h e = h u e

-- A run that is over stays over for more instructions.
after_stays : (code : List Instr) (a d : ℕ) (s t : State) →
    t.halted ≡ true → after code a s ≡ Some t → after code (a + d) s ≡ Some t
after_stays code zero d s t h e =
    let z : 0 + d ≡ d = omega arith in
    let over = ap (λ x. x.halted) (same_Some _ _ e) ∙ h in
    ap (λ n. after code n s) z ∙ after_halted code d s over ∙ e
after_stays code (suc a) d s t h e =
    let z : suc a + d ≡ suc (a + d) = omega arith in
    let rest = then_stays (after code a) (after code (a + d)) t (stepped code s) in
    ap (λ n. after code n s) z ∙ rest (λ u e. after_stays code a d u t h e) e

-- A run that is over stays over with each larger budget.
stays : (code : List Instr) (a b : ℕ) (s t : State) →
    a ≤ b → t.halted ≡ true → after code a s ≡ Some t → after code b s ≡ Some t
stays code a b s t le h e =
    let z : b ≡ a + (b - a) = omega arith in
    ap (λ n. after code n s) z ∙ after_stays code a (b - a) s t h e

module _
    (g : ℕ)
    (c : Command)
    (image : Image)
    (places : HasPlaces g c)
    (is : image.code.items ≡ whole_code g c)
    (slots : image.slots ≡ g + nesting c) where
  -- The whole code is at the beginning.
  has_whole : HasAt image.code.items 0 (whole_code g c)
  has_whole = subst (λ l. HasAt image.code.items 0 l) is (has_all image.code.items)

  -- The body's code is at the beginning.
  has_body : HasAt image.code.items 0 (code_at 0 g c)
  has_body = has_front image.code.items 0 (code_at 0 g c) (Halt ∷ []) has_whole

  -- A HALT follows the body's code.
  has_halt : slice_get image.code.items (0 + size c) ≡ Some Halt
  has_halt = (has_back image.code.items 0 (code_at 0 g c) (Halt ∷ []) (size c) (command_long c 0 g) has_whole).0

  -- The number of slots after the words of a store.
  behind : Words → ℕ
  behind m = length (replicate (image.slots - length m) (pos 0))

  -- The run from a store follows the body.
  run_of : (n : ℕ) (m : Words) → length m ≡ g →
      Runs image.code.items n (start image m) (0 + size c) (behind m) (runs n c m)
  unfolding behind
  run_of n m l =
      let zeros = replicate (image.slots - length m) (pos 0) in
      let room : nesting c ≤ behind m =
      omega (arith, l, slots, length-replicate (image.slots - length m) (pos 0)) in
      command_runs image.code.items c n 0 g places has_body m zeros l room

  -- A run that reaches the end halts.
  halts_at : (m m' : Words) (r : ℕ) → length m' ≡ g →
      StretchEnds image.code.items (start image m) (0 + size c) r m' → (b : ℕ) × Halts image g m b m'
  halts_at m m' r l e =
      let x = e.comes.by 1 in
      let t = ended (0 + size c) true [] (m' ++ e.rest) in
      let halt = ap (option_and_then (λ i. acted i (0 + size c) [] (m' ++ e.rest))) has_halt in
      let last = ap (option_and_then (λ s. Some s)) halt in
      (x.0, record { state = t; reached = x.2 ∙ last; halted = refl; words = take_at m' e.rest g l })

  -- A run that has halted has halted with every larger budget, in the same store.
  stays_halted : (m m' : Words) (a b : ℕ) → a ≤ b → Halts image g m a m' → Halts image g m b m'
  stays_halted m m' a b le h = record {
    state = h.state;
    reached = stays image.code.items a b (start image m) h.state le h.halted h.reached;
    halted = h.halted;
    words = h.words;
  }

  -- A run halts in one store.
  same_end : (m m1 m2 : Words) (a b : ℕ) → Halts image g m a m1 → Halts image g m b m2 → m1 ≡ m2
  same_end m m1 m2 a b h k =
      let x = stays_halted m m1 a (a + b) (omega arith) h in
      let y = stays_halted m m2 b (a + b) (omega arith) k in
      let same = same_Some _ _ (sym x.reached ∙ y.reached) in
      sym x.words ∙ ap (λ s. take g s.slots) same ∙ y.words

  -- A run that has halted doesn't run on past its budget.
  never_both : (m m' : Words) (b n : ℕ) → b ≤ n → Halts image g m b m' → GoesOn image.code.items n (start image m) → ⊥
  never_both m m' b n le h o =
      let x = stays_halted m m' b o.steps (omega (arith, le, o.many)) h in
      let same = same_Some _ _ (sym x.reached ∙ o.reached) in
      let both : true ≡ false = sym x.halted ∙ ap (λ s. s.halted) same ∙ o.running in
      cc

  -- A run that halts ends in the store in which the body ends after equally many turns.
  only : (m m' : Words) (b : ℕ) (o : Option Words) → length m ≡ g → Halts image g m b m' → runs b c m ≡ o →
      Runs image.code.items b (start image m) (0 + size c) (behind m) o → Evaluates c m m'
  only m m' b None l h e r = absurd (never_both m m' b b (omega arith) h r)
  only m m' b (Some m1) l h e r =
      let k = halts_at m m1 _ (length_kept c b m m1 e ∙ l) r in
      (b, e ∙ ap Some (same_end m m1 m' k.0 b k.1 h))

  -- Some budget and every larger one reach the store of an evaluation.
  reaches : (m m' : Words) → length m ≡ g → Evaluates c m m' →
      (b : ℕ) × ((budget : ℕ) → b ≤ budget → Halts image g m budget m')
  reaches m m' l e =
      let run = Runs image.code.items e.0 (start image m) (0 + size c) (behind m) in
      let r = subst run e.1 (run_of e.0 m l) in
      let k = halts_at m m' _ (length_kept c e.0 m m' e.1 ∙ l) r in
      (k.0, λ b le. stays_halted m m' k.0 b le k.1)

  -- The image behaves like the body.
  pub behaves : Behaves g c image
  behaves = record {
    sound = λ m m' b l h. only m m' b (runs b c m) l h refl (run_of b m l);
    complete = reaches;
  }
