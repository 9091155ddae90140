-- Combining answers for parts into an answer for the whole.
use Rattle.std.proofs.Common.{◌≡◌, ℕ, zero, suc, ◌+◌, ◌<◌, ◌≤◌, true, false, List, [], ◌∷◌, ◌++◌, map, take, length, get_or, refl, sym, ap, ◌∙◌, subst, arith, append_assoc}
use Rattle.std.specs.Prelude.{⊤, Result, Ok, Err, IsErrAnd}
use Rattle.std.proofs.lemmas.List.{take_more, map-append, append-nil}
use Rattle.std.proofs.lemmas.List.Elements.{All-push, All-append}
use Rattle.std.proofs.lemmas.Bool.{false≢true}
use Rattle.vsi_lattice.specs.Order.{Lattice}
use Rattle.vsi_syntax.specs.declared.token.Span.{Span}
use Rattle.vsi_scope.specs.declared.program.Cmd.{Cmd}
use Rattle.vsi_scope.specs.Language.{letvars, HasPlaces}
use Rattle.vsi_scope.specs.View.{command, sequence}
use Rattle.vsi_types.specs.declared.rules.CheckError.{CheckError}
use Rattle.vsi_types.specs.declared.rules.CheckError.TheVariants.{Memory, WrongChoice, Flow}
use Rattle.vsi_types.specs.declared.rules.Profile.{Profile}
use Rattle.vsi_types.specs.declared.rules.Profile.TheVariants.{Strict}
use Rattle.vsi_types.specs.declared.rules.Rule.TheVariants.{Loop}
use Rattle.vsi_types.specs.declared.rules.Read.{Read}
use Rattle.vsi_types.specs.declared.rules.Step.{Step}
use Rattle.vsi_types.specs.declared.rules.Guard.{Guard}
use Rattle.vsi_types.specs.declared.rules.FlowFault.{FlowFault}
use Rattle.vsi_types.specs.Steps.{sink, guarded, ending, endings, steps, IsInOrder, AreInOrder, IsFirstFault}
use Rattle.vsi_types.specs.Checking.{TellsFault, StepsJudged, step_at, FlowsJudged}

-- The flow of a guard into a target, as an error reports it.
abbrev pub fault_at : ℕ → Guard → FlowFault
fault_at target g = record { rule = g.rule; span = g.read.place; source = g.read.variable; target = target }

-- The guards before and after one of them.
guards_split : (gs : List Guard) (i : ℕ) (g : Guard) → i < length gs → g ≡ get_or gs i g →
    (rest : List Guard) × (gs ≡ take i gs ++ g ∷ rest)
guards_split [] i g lt is = absurd (omega arith)
guards_split (x ∷ gs) zero g lt is = (gs, ap (λ y. y ∷ gs) (sym is))
guards_split (x ∷ gs) (suc i) g lt is =
    let r = guards_split gs i g (omega arith) is in (r.0, ap (λ l. x ∷ l) r.1)

module _ (L : Lattice) (classes : ℕ → ℕ) where
  -- Two lists in order are in order when joined.
  pub order_append : (xs ys : List Step) → AreInOrder L classes xs → AreInOrder L classes ys →
      AreInOrder L classes (xs ++ ys)
  order_append xs ys h k = All-append (IsInOrder L classes) xs ys h k

  -- The first fault of a list is still the first if more steps follow.
  pub fault_left : (xs ys : List Step) (f : FlowFault) → IsFirstFault L classes xs f →
      IsFirstFault L classes (xs ++ ys) f
  fault_left xs ys f h = record {
    before = h.before;
    step = h.step;
    after = h.after ++ ys;
    whole = ap (λ l. l ++ ys) h.whole ∙ append_assoc h.before (h.step ∷ h.after) ys;
    earlier = h.earlier;
    fault = h.fault;
    down = h.down;
  }

  -- The first fault of a list is still the first after steps that are in order.
  pub fault_right : (xs ys : List Step) (f : FlowFault) → AreInOrder L classes xs → IsFirstFault L classes ys f →
      IsFirstFault L classes (xs ++ ys) f
  fault_right xs ys f up h = record {
    before = xs ++ h.before;
    step = h.step;
    after = h.after;
    whole = ap (λ l. xs ++ l) h.whole ∙ sym (append_assoc xs h.before (h.step ∷ h.after));
    earlier = order_append xs h.before up h.earlier;
    fault = h.fault;
    down = h.down;
  }

  -- An error means the same if more steps follow.
  pub tells_left : (xs ys : List Step) (e : CheckError) → TellsFault L classes xs e →
      TellsFault L classes (xs ++ ys) e
  tells_left xs ys Memory h = tt
  tells_left xs ys WrongChoice h = h
  tells_left xs ys (Flow f) h = fault_left xs ys f h

  -- An error means the same after steps that are in order.
  pub tells_right : (xs ys : List Step) (e : CheckError) → AreInOrder L classes xs → TellsFault L classes ys e →
      TellsFault L classes (xs ++ ys) e
  tells_right xs ys Memory up h = tt
  tells_right xs ys WrongChoice up h = h
  tells_right xs ys (Flow f) up h = fault_right xs ys f up h

  -- A guard after guards whose flows are in order.
  pub guards_more : (target : ℕ) (gs : List Guard) (i : ℕ) (g : Guard) → i < length gs → g ≡ get_or gs i g →
      L.leq (classes g.read.variable) (classes target) ≡ true →
      ((written : Guard → Span) → AreInOrder L classes (map (step_at target written) (take i gs))) →
      (written : Guard → Span) → AreInOrder L classes (map (step_at target written) (take (i + 1) gs))
  guards_more target gs i g lt is up h written =
      let step = step_at target written in
      let e : map step (take i gs) ++ step g ∷ [] ≡ map step (take (i + 1) gs) =
      sym (ap (map step) (take_more gs i g lt) ∙ map-append step (take i gs) (get_or gs i g ∷ [])
      ∙ ap (λ x. map step (take i gs) ++ step x ∷ []) (sym is)) in
      subst (AreInOrder L classes) e
      (All-push (IsInOrder L classes) (map step (take i gs)) (step g) (h written) up)

  -- A guard that is the first whose flow is not in order.
  pub guards_fault : (target : ℕ) (gs : List Guard) (i : ℕ) (g : Guard) → i < length gs → g ≡ get_or gs i g →
      L.leq (classes g.read.variable) (classes target) ≡ false →
      ((written : Guard → Span) → AreInOrder L classes (map (step_at target written) (take i gs))) →
      FlowsJudged {U = ⊤} L classes target gs (Err (fault_at target g))
  guards_fault target gs i g lt is down h written =
      let step = step_at target written in
      let split = guards_split gs i g lt is in record {
        before = map step (take i gs);
        step = step g;
        after = map step split.0;
        whole = ap (map step) split.1 ∙ map-append step (take i gs) (g ∷ split.0);
        earlier = h written;
        fault = refl;
        down = λ up. false≢true (sym down ∙ up);
      }

  -- An error for the first of two joined lists of steps.
  steps_err : (xs ys : List Step) (f : FlowFault) → StepsJudged {U = ⊤} L classes xs (Err f) →
      StepsJudged {U = ⊤} L classes (xs ++ ys) (Err f)
  steps_err xs ys f h = fault_left xs ys f h

  -- An answer for a list after steps that are in order.
  steps_both : (xs ys : List Step) (u : ⊤) (r : Result ⊤ FlowFault) → StepsJudged L classes xs (Ok u) →
      StepsJudged L classes ys r → StepsJudged L classes (xs ++ ys) r
  steps_both xs ys u (Ok v) h k = order_append xs ys h k
  steps_both xs ys u (Err f) h k = fault_right xs ys f h k

  -- A fault of guards is a fault if more guards follow.
  pub judged_err : (target : ℕ) (xs ys : List Guard) (f : FlowFault) →
      FlowsJudged {U = ⊤} L classes target xs (Err f) → FlowsJudged {U = ⊤} L classes target (xs ++ ys) (Err f)
  judged_err target xs ys f h = λ written.
      let step = step_at target written in
      subst (λ l. IsFirstFault L classes l f) (sym (map-append step xs ys))
      (steps_err (map step xs) (map step ys) f (h written))

  -- An answer for guards after guards whose flows are in order.
  pub judged_both : (target : ℕ) (xs ys : List Guard) (u : ⊤) (r : Result ⊤ FlowFault) →
      FlowsJudged L classes target xs (Ok u) → FlowsJudged L classes target ys r →
      FlowsJudged L classes target (xs ++ ys) r
  judged_both target xs ys u r h k = λ written.
      let step = step_at target written in
      subst (λ l. StepsJudged L classes l r) (sym (map-append step xs ys))
      (steps_both (map step xs) (map step ys) u r (h written) (k written))

  -- The answer that a `?` passes on.
  pub judged_from : (target : ℕ) (gs : List Guard) (f : FlowFault) (r : Result ⊤ FlowFault) →
      IsErrAnd r (λ e. e ≡ f) → FlowsJudged {U = ⊤} L classes target gs (Err f) → FlowsJudged L classes target gs r
  judged_from target gs f (Ok u) is h = absurd is
  judged_from target gs f (Err e) is h = subst (λ x. FlowsJudged {U = ⊤} L classes target gs (Err x)) (sym is) h

  -- The endings of loops are the flows of the reads into the sink, each written where it is read.
  endings_flows : (rs : List Read) →
      map (step_at sink (λ g. g.read.place)) (guarded Loop rs) ≡ endings Strict true rs
  endings_flows [] = refl
  endings_flows (x ∷ rs) = ap (λ l. ending x ∷ l) (endings_flows rs)

  -- An answer for the flows into the sink is one for the endings of loops.
  pub endings_judged : (rs : List Read) (r : Result ⊤ FlowFault) →
      FlowsJudged L classes sink (guarded Loop rs) r → StepsJudged L classes (endings Strict true rs) r
  endings_judged rs r h = subst (λ l. StepsJudged L classes l r) (endings_flows rs) (h (λ g. g.read.place))

module _ (P : Profile) (names : ℕ → Span) (gs : List Guard) (scope : List ℕ) where
  -- The steps of a list of commands, split at a position in it.
  pub steps_at : (n : ℕ) (cs : List Cmd) (i : ℕ) (c : Cmd) → i < length cs → c ≡ get_or cs i c →
      (rest : List Step) × (steps P names gs scope n (sequence cs) ≡ steps P names gs scope n (sequence (take i cs))
      ++ (steps P names gs scope (n + letvars (sequence (take i cs))) (command c) ++ rest))
  steps_at n [] i c lt is = absurd (omega arith)
  steps_at n (x ∷ cs) zero c lt is =
      let e : n ≡ n + 0 = omega arith in (
        steps P names gs scope (n + letvars (command x)) (sequence cs),
        ap (λ l. l ++ steps P names gs scope (n + letvars (command x)) (sequence cs))
            (ap (λ k. steps P names gs scope k (command x)) e
            ∙ ap (λ y. steps P names gs scope (n + 0) (command y)) (sym is)),
      )
  steps_at n (x ∷ cs) (suc i) c lt is =
      let r = steps_at (n + letvars (command x)) cs i c (omega arith) is in
      let e : n + letvars (command x) + letvars (sequence (take i cs)) ≡ n +
      (letvars (command x) + letvars (sequence (take i cs))) = omega arith in (
        r.0,
        ap (λ l. steps P names gs scope n (command x) ++ l) r.1
            ∙ sym (append_assoc (steps P names gs scope n (command x))
            (steps P names gs scope (n + letvars (command x)) (sequence (take i cs))) _)
            ∙ ap (λ k. (steps P names gs scope n (command x) ++ steps P names gs scope (n + letvars (command x))
            (sequence (take i cs))) ++ (steps P names gs scope k (command c) ++ r.0)) e,
      )

  -- The steps of a list with one more command.
  pub steps_push : (n : ℕ) (cs : List Cmd) (c : Cmd) →
      steps P names gs scope n (sequence (cs ++ c ∷ [])) ≡ steps P names gs scope n (sequence cs)
      ++ steps P names gs scope (n + letvars (sequence cs)) (command c)
  steps_push n [] c =
      let e : n ≡ n + 0 = omega arith in
      append-nil (steps P names gs scope n (command c)) ∙ ap (λ k. steps P names gs scope k (command c)) e
  steps_push n (x ∷ cs) c =
      let r = steps_push (n + letvars (command x)) cs c in
      let e : n + letvars (command x) + letvars (sequence cs) ≡ n + (letvars (command x) + letvars (sequence cs)) =
      omega arith in
      ap (λ l. steps P names gs scope n (command x) ++ l) r
      ∙ sym (append_assoc (steps P names gs scope n (command x))
      (steps P names gs scope (n + letvars (command x)) (sequence cs)) _)
      ∙ ap (λ k. (steps P names gs scope n (command x) ++ steps P names gs scope (n + letvars (command x))
      (sequence cs)) ++ steps P names gs scope k (command c)) e

  -- The steps of a list up to the next position.
  pub steps_more : (n : ℕ) (cs : List Cmd) (i : ℕ) (c : Cmd) → i < length cs → c ≡ get_or cs i c →
      steps P names gs scope n (sequence (take (i + 1) cs)) ≡ steps P names gs scope n (sequence (take i cs))
      ++ steps P names gs scope (n + letvars (sequence (take i cs))) (command c)
  steps_more n cs i c lt is =
      ap (λ l. steps P names gs scope n (sequence l)) (take_more cs i c lt)
      ∙ steps_push n (take i cs) (get_or cs i c)
      ∙ ap (λ y. steps P names gs scope n (sequence (take i cs)) ++ steps P names gs scope
      (n + letvars (sequence (take i cs))) (command y)) (sym is)

-- The locations of a command exist if those of its list do.
pub places_at : (k : ℕ) (cs : List Cmd) (i : ℕ) (c : Cmd) → i < length cs → c ≡ get_or cs i c →
    HasPlaces k (sequence cs) → HasPlaces k (command c)
places_at k [] i c lt is h = absurd (omega arith)
places_at k (x ∷ cs) zero c lt is h = subst (λ y. HasPlaces k (command y)) (sym is) h.0
places_at k (x ∷ cs) (suc i) c lt is h = places_at k cs i c (omega arith) is h.1

-- The letvars before a command and in it are among those of the list.
pub letvars_at : (cs : List Cmd) (i : ℕ) (c : Cmd) → i < length cs → c ≡ get_or cs i c →
    letvars (sequence (take i cs)) + letvars (command c) ≤ letvars (sequence cs)
letvars_at [] i c lt is = absurd (omega arith)
letvars_at (x ∷ cs) zero c lt is = let e = ap (λ y. letvars (command y)) is in omega arith
letvars_at (x ∷ cs) (suc i) c lt is = let r = letvars_at cs i c (omega arith) is in omega arith
