-- Combining answers for a command's parts into the answer for the command.
use Rattle.std.proofs.Common.{◌≡◌, ℕ, ◌+◌, ◌<◌, ◌≤◌, Bool, List, [], ◌∷◌, ◌++◌, take, length, get_or, refl, sym, ap, ◌∙◌, subst, arith}
use Rattle.std.specs.Prelude.{slice_index, ◌||◌, true, ⊤, Result, Ok, Err, IsErrAnd}
use Rattle.std.proofs.lemmas.List.{take_all}
use Rattle.std.proofs.Math.Seq.{take-append_seam}
use Rattle.vsi_lattice.specs.Order.{Lattice}
use Rattle.vsi_syntax.specs.declared.token.Span.{Span}
use Rattle.vsi_scope.specs.declared.program.Cmd.{Cmd}
use Rattle.vsi_scope.specs.Language.{Expression, Command, Assign, Sequence, If, While, Letvar, letvars, has_loop, HasPlaces}
use Rattle.vsi_scope.specs.View.{command, sequence}
use Rattle.vsi_scope.proofs.Views.{letvars_more}
use Rattle.vsi_types.specs.declared.rules.CheckError.{CheckError}
use Rattle.vsi_types.specs.declared.rules.CheckError.TheVariants.{Flow}
use Rattle.vsi_types.specs.declared.rules.Profile.{Profile}
use Rattle.vsi_types.specs.declared.rules.Rule.{Rule}
use Rattle.vsi_types.specs.declared.rules.Rule.TheVariants as typing
use Rattle.vsi_types.specs.declared.rules.Guard.{Guard}
use Rattle.vsi_types.specs.declared.rules.Step.{Step}
use Rattle.vsi_types.specs.declared.rules.FlowFault.{FlowFault}
use Rattle.vsi_types.specs.Steps.{reads, guarded, flows, endings, steps, AreInOrder, IsFirstFault}
use Rattle.vsi_types.specs.Checking.{TellsFault, StepsJudged, FlowsJudged, Judged}
use Rattle.vsi_types.specs.Walker.{Place}
use Rattle.vsi_types.proofs.Judging.{fault_left, tells_left, tells_right, order_append, judged_err, judged_both, steps_at, steps_more, places_at, letvars_at}

-- A position given by its parts.
abbrev pub place : List ℕ → List Guard → ℕ → Place
place s g n = record { scope = s; guards = g; next = n }

-- The position under a guard.
abbrev pub inside : Rule → Expression → Place → Place
inside rule x a = record { scope = a.scope; guards = a.guards ++ guarded rule (reads a.scope x); next = a.next }

-- The position inside a letvar.
abbrev pub within_letvar : Place → Place
within_letvar a = record { scope = a.scope ++ a.next ∷ []; guards = a.guards; next = a.next + 1 }

-- Positions with equal parts are equal.
pub same_place : (s s' : List ℕ) (g g' : List Guard) (n n' : ℕ) → s ≡ s' → g ≡ g' → n ≡ n' →
    place s g n ≡ place s' g' n'
same_place s s' g g' n n' a b c = ap (λ x. place x g n) a ∙ ap (λ x. place s' x n) b ∙ ap (λ x. place s' g' x) c

module _ (L : Lattice) (P : Profile) (classes : ℕ → ℕ) where
  -- The answer that a `?` passes on.
  pub judged_error : (a b : Place) (k : Command) (e : CheckError) (r : Result ⊤ CheckError) →
      IsErrAnd r (λ x. x ≡ e) →
      ((names : ℕ → Span) → TellsFault L classes (steps P names a.guards a.scope a.next k) e) →
      Judged L P classes a k b r
  judged_error a b k e (Ok u) is h = absurd is
  judged_error a b k e (Err x) is h =
      subst (λ y. (names : ℕ → Span) → TellsFault L classes (steps P names a.guards a.scope a.next k) y) (sym is) h

  module _ (a b : Place) (l : ℕ) (s : Span) (x : Expression) (target : ℕ) (at : target ≡ slice_index a.scope l) where
    -- A fault of the value is a fault of the assignment.
    pub assign_reads : (f : FlowFault) (r : Result ⊤ CheckError) → IsErrAnd r (λ e. e ≡ Flow f) →
        FlowsJudged {U = ⊤} L classes target (guarded typing.Assign (reads a.scope x)) (Err f) →
        Judged L P classes a (Assign l s x) b r
    assign_reads f r is h =
        judged_error a b (Assign l s x) (Flow f) r is (λ names.
        subst (λ t. IsFirstFault L classes (flows t s (guarded typing.Assign (reads a.scope x) ++ a.guards)) f) at
        (judged_err L classes target (guarded typing.Assign (reads a.scope x)) a.guards f h (λ g. s)))

    -- A fault of the guards is a fault of an assignment whose value is in order.
    pub assign_guards : (f : FlowFault) (r : Result ⊤ CheckError) → IsErrAnd r (λ e. e ≡ Flow f) →
        FlowsJudged {U = ⊤} L classes target (guarded typing.Assign (reads a.scope x)) (Ok tt) →
        FlowsJudged {U = ⊤} L classes target a.guards (Err f) → Judged L P classes a (Assign l s x) b r
    assign_guards f r is h k =
        judged_error a b (Assign l s x) (Flow f) r is (λ names.
        subst (λ t. IsFirstFault L classes (flows t s (guarded typing.Assign (reads a.scope x) ++ a.guards)) f) at
        (judged_both L classes target (guarded typing.Assign (reads a.scope x)) a.guards tt (Err f) h k (λ g. s)))

    -- An assignment is in order if its value and its guards are.
    pub assign_ok : FlowsJudged {U = ⊤} L classes target (guarded typing.Assign (reads a.scope x)) (Ok tt) →
        FlowsJudged {U = ⊤} L classes target a.guards (Ok tt) →
        (names : ℕ → Span) → AreInOrder L classes (steps P names a.guards a.scope a.next (Assign l s x))
    assign_ok h k names =
        subst (λ t. AreInOrder L classes (flows t s (guarded typing.Assign (reads a.scope x) ++ a.guards))) at
        (judged_both L classes target (guarded typing.Assign (reads a.scope x)) a.guards tt (Ok tt) h k (λ g. s))

  -- The parts of a position may be replaced by equal ones.
  pub at_place : (s s' : List ℕ) (g g' : List Guard) (n n' : ℕ) (b : Place) (k : Command) (r : Result ⊤ CheckError) →
      s ≡ s' → g ≡ g' → n ≡ n' → Judged L P classes (place s g n) k b r → Judged L P classes (place s' g' n') k b r
  at_place s s' g g' n n' b k r d e f h =
      subst (λ p. Judged L P classes p k b r) (same_place s s' g g' n n' d e f) h

  -- The position under a guard that was added.
  pub under_guard : (a b : Place) (rule : Rule) (x : Expression) (scope : List ℕ) (gs : List Guard) → scope ≡ a.scope →
      gs ≡ a.guards ++ guarded rule (reads scope x) → (k : Command) (r : Result ⊤ CheckError) →
      Judged L P classes (place a.scope gs a.next) k b r → Judged L P classes (inside rule x a) k b r
  under_guard a b rule x scope gs same pushed k r h =
      at_place a.scope a.scope gs (a.guards ++ guarded rule (reads a.scope x)) a.next a.next b k r refl
      (pushed ∙ ap (λ s. a.guards ++ guarded rule (reads s x)) same) refl h

  -- The scope in an answer for the endings of loops may be replaced by an equal one.
  pub endings_at : (looping : Bool) (x : Expression) (scope scope' : List ℕ) → scope ≡ scope' →
      (r : Result ⊤ FlowFault) →
      StepsJudged L classes (endings P looping (reads scope x)) r →
      StepsJudged L classes (endings P looping (reads scope' x)) r
  endings_at looping x scope scope' same r h =
      subst (λ s. StepsJudged L classes (endings P looping (reads s x)) r) same h

  -- The scope in an answer for reads may be replaced by an equal one.
  pub reads_at : (target : ℕ) (rule : Rule) (x : Expression) (scope scope' : List ℕ) → scope ≡ scope' →
      (r : Result ⊤ FlowFault) → FlowsJudged L classes target (guarded rule (reads scope x)) r →
      FlowsJudged L classes target (guarded rule (reads scope' x)) r
  reads_at target rule x scope scope' same r h =
      subst (λ s. FlowsJudged L classes target (guarded rule (reads s x)) r) same h

  -- The steps of the first of two commands.
  abbrev first_steps : Place → Command → (ℕ → Span) → List Step
  first_steps a k names = steps P names a.guards a.scope a.next k

  -- The steps of the second of two commands.
  abbrev later_steps : Place → Command → Command → (ℕ → Span) → List Step
  later_steps a k₁ k₂ names = steps P names a.guards a.scope (a.next + letvars k₁) k₂

  -- One command after another.
  pub judged_then : (a b d : Place) (k₁ k₂ : Command) (r : Result ⊤ CheckError) →
      Judged {U = ⊤} L P classes a k₁ b (Ok tt) → Judged L P classes b k₂ d r →
      Judged L P classes a (Sequence k₁ k₂) d r
  judged_then a b d k₁ k₂ (Ok u) h k =
      let k' = at_place b.scope a.scope b.guards a.guards b.next (a.next + letvars k₁) d k₂ (Ok u) h.0 h.1 h.2 k in (
        k'.0,
        k'.1,
        omega (arith, k'.2),
        λ names. order_append L classes (first_steps a k₁ names) (later_steps a k₁ k₂ names) (h.3 names) (k'.3 names),
      )
  judged_then a b d k₁ k₂ (Err e) h k =
      let k' = at_place b.scope a.scope b.guards a.guards b.next (a.next + letvars k₁) d k₂ (Err e) h.0 h.1 h.2 k in
      λ names. tells_right L classes (first_steps a k₁ names) (later_steps a k₁ k₂ names) e (h.3 names) (k' names)

  -- An error of the first of two commands.
  pub judged_first : (a b d : Place) (k₁ k₂ : Command) (e : CheckError) →
      Judged {U = ⊤} L P classes a k₁ b (Err e) →
      (names : ℕ → Span) → TellsFault L classes (steps P names a.guards a.scope a.next (Sequence k₁ k₂)) e
  judged_first a b d k₁ k₂ e h names =
      tells_left L classes (first_steps a k₁ names) (later_steps a k₁ k₂ names) e (h names)

  -- The flows of the guard of a choice into the ending of its loops.
  abbrev pub choice_endings : Place → Expression → Command → Command → List Step
  choice_endings a x k₁ k₂ = endings P (has_loop k₁ || has_loop k₂) (reads a.scope x)

  -- A fault of the guard of a choice that contains loops.
  pub if_endings : (a b : Place) (x : Expression) (k₁ k₂ : Command) (f : FlowFault) (r : Result ⊤ CheckError) →
      IsErrAnd r (λ e. e ≡ Flow f) → StepsJudged {U = ⊤} L classes (choice_endings a x k₁ k₂) (Err f) →
      Judged L P classes a (If x k₁ k₂) b r
  if_endings a b x k₁ k₂ f r is h =
      judged_error a b (If x k₁ k₂) (Flow f) r is (λ names. fault_left L classes (choice_endings a x k₁ k₂) _ f h)

  -- An error in the branches of a choice.
  pub if_branches : (a b : Place) (x : Expression) (k₁ k₂ : Command) (e : CheckError) (r : Result ⊤ CheckError) →
      IsErrAnd r (λ y. y ≡ e) → StepsJudged {U = ⊤} L classes (choice_endings a x k₁ k₂) (Ok tt) →
      ((names : ℕ → Span) → TellsFault L classes (first_steps (inside typing.If x a) (Sequence k₁ k₂) names) e) →
      Judged L P classes a (If x k₁ k₂) b r
  if_branches a b x k₁ k₂ e r is up h =
      judged_error a b (If x k₁ k₂) e r is (λ names.
      tells_right L classes (choice_endings a x k₁ k₂) (first_steps (inside typing.If x a) (Sequence k₁ k₂) names) e up
      (h names))

  -- A choice is judged as its branches, one after the other, under its guard.
  pub judged_if : (a b d : Place) (x : Expression) (k₁ k₂ : Command) →
      StepsJudged {U = ⊤} L classes (choice_endings a x k₁ k₂) (Ok tt) →
      Judged {U = ⊤} L P classes (inside typing.If x a) (Sequence k₁ k₂) b (Ok tt) →
      d.scope ≡ b.scope → d.guards ≡ take (length a.guards) b.guards → d.next ≡ b.next →
      Judged {U = ⊤} L P classes a (If x k₁ k₂) d (Ok tt)
  judged_if a b d x k₁ k₂ up h s g n = (
    s ∙ h.0,
    g ∙ ap (take (length a.guards)) h.1 ∙ take-append_seam a.guards (guarded typing.If (reads a.scope x)),
    n ∙ h.2,
    λ names. order_append L classes (choice_endings a x k₁ k₂) _ up (h.3 names),
  )

  -- A fault of the guard of a loop.
  pub while_endings : (a b : Place) (x : Expression) (k : Command) (f : FlowFault) (r : Result ⊤ CheckError) →
      IsErrAnd r (λ e. e ≡ Flow f) → StepsJudged {U = ⊤} L classes (endings P true (reads a.scope x)) (Err f) →
      Judged L P classes a (While x k) b r
  while_endings a b x k f r is h =
      judged_error a b (While x k) (Flow f) r is (λ names.
      fault_left L classes (endings P true (reads a.scope x)) _ f h)

  -- An error in the body of a loop.
  pub while_body : (a b d : Place) (x : Expression) (k : Command) (e : CheckError) (r : Result ⊤ CheckError) →
      IsErrAnd r (λ y. y ≡ e) → StepsJudged {U = ⊤} L classes (endings P true (reads a.scope x)) (Ok tt) →
      Judged {U = ⊤} L P classes (inside typing.While x a) k d (Err e) → Judged L P classes a (While x k) b r
  while_body a b d x k e r is up h =
      judged_error a b (While x k) e r is (λ names.
      tells_right L classes (endings P true (reads a.scope x)) (first_steps (inside typing.While x a) k names) e up
      (h names))

  -- A loop is judged as its body under its guard.
  pub judged_while : (a b d : Place) (x : Expression) (k : Command) →
      StepsJudged {U = ⊤} L classes (endings P true (reads a.scope x)) (Ok tt) →
      Judged {U = ⊤} L P classes (inside typing.While x a) k b (Ok tt) →
      d.scope ≡ b.scope → d.guards ≡ take (length a.guards) b.guards → d.next ≡ b.next →
      Judged {U = ⊤} L P classes a (While x k) d (Ok tt)
  judged_while a b d x k up h s g n = (
    s ∙ h.0,
    g ∙ ap (take (length a.guards)) h.1 ∙ take-append_seam a.guards (guarded typing.While (reads a.scope x)),
    n ∙ h.2,
    λ names. order_append L classes (endings P true (reads a.scope x)) _ up (h.3 names),
  )

  -- The flows of an initial value.
  abbrev initial_steps : Place → Expression → (ℕ → Span) → List Step
  initial_steps a x names = flows a.next (names a.next) (guarded typing.Letvar (reads a.scope x))

  -- A fault of an initial value.
  pub letvar_reads : (a b : Place) (x : Expression) (k : Command) (f : FlowFault) (r : Result ⊤ CheckError) →
      IsErrAnd r (λ e. e ≡ Flow f) →
      FlowsJudged {U = ⊤} L classes a.next (guarded typing.Letvar (reads a.scope x)) (Err f) →
      Judged L P classes a (Letvar x k) b r
  letvar_reads a b x k f r is h =
      judged_error a b (Letvar x k) (Flow f) r is (λ names.
      fault_left L classes (initial_steps a x names) _ f (h (λ g. names a.next)))

  -- An error in the body of a letvar.
  pub letvar_body : (a b d : Place) (x : Expression) (k : Command) (e : CheckError) (r : Result ⊤ CheckError) →
      IsErrAnd r (λ y. y ≡ e) → FlowsJudged {U = ⊤} L classes a.next (guarded typing.Letvar (reads a.scope x)) (Ok tt) →
      Judged {U = ⊤} L P classes (within_letvar a) k d (Err e) → Judged L P classes a (Letvar x k) b r
  letvar_body a b d x k e r is up h =
      judged_error a b (Letvar x k) e r is (λ names.
      tells_right L classes (initial_steps a x names) _ e (up (λ g. names a.next)) (h names))

  -- A letvar is in order if its initial value and its body are.
  pub letvar_ok : (a b d : Place) (x : Expression) (k : Command) →
      FlowsJudged {U = ⊤} L classes a.next (guarded typing.Letvar (reads a.scope x)) (Ok tt) →
      Judged {U = ⊤} L P classes (within_letvar a) k b (Ok tt) →
      d.scope ≡ take (length a.scope) b.scope → d.guards ≡ b.guards → d.next ≡ b.next →
      Judged {U = ⊤} L P classes a (Letvar x k) d (Ok tt)
  letvar_ok a b d x k f h s g n = (
    s ∙ ap (take (length a.scope)) h.0 ∙ take-append_seam a.scope (a.next ∷ []),
    g ∙ h.1,
    omega (arith, n, h.2),
    λ names. order_append L classes (initial_steps a x names) _ (f (λ g. names a.next)) (h.3 names),
  )

  -- A list of commands is judged, without a fault, up to a position in it.
  abbrev pub Reached : Place → List Cmd → ℕ → Place → Type 0
  Reached a cs i b = Judged {U = ⊤} L P classes a (sequence (take i cs)) b (Ok tt)

  -- One more command is judged.
  pub reached_more : (a b d : Place) (cs : List Cmd) (i : ℕ) (c : Cmd) → i < length cs → c ≡ get_or cs i c →
      Reached a cs i b → Judged {U = ⊤} L P classes b (command c) d (Ok tt) → Reached a cs (i + 1) d
  reached_more a b d cs i c lt is h k =
      let both = judged_then a b d (sequence (take i cs)) (command c) (Ok tt) h k in (
        both.0,
        both.1,
        omega (arith, both.2, letvars_more cs i c lt is),
        λ names. subst (AreInOrder L classes) (sym (steps_more P names a.guards a.scope a.next cs i c lt is))
            (both.3 names),
      )

  -- The requirements of the next command, if a list is judged up to it.
  pub reached_asks : (a b : Place) (cs : List Cmd) (i : ℕ) (c : Cmd) → i < length cs → c ≡ get_or cs i c →
      Reached a cs i b → HasPlaces (length a.scope) (sequence cs) → a.next + letvars (sequence cs) ≤ 1024 →
      HasPlaces (length b.scope) (command c) × (b.next + letvars (command c) ≤ 1024)
  reached_asks a b cs i c lt is h p l = (
    subst (λ s. HasPlaces (length s) (command c)) (sym h.0) (places_at (length a.scope) cs i c lt is p),
    omega (arith, letvars_at cs i c lt is, h.2, l),
  )

  -- An error of the next command is an error of the list.
  pub reached_fault : (a b d : Place) (cs : List Cmd) (i : ℕ) (c : Cmd) → i < length cs → c ≡ get_or cs i c →
      Reached a cs i b → (e : CheckError) (r : Result ⊤ CheckError) → IsErrAnd r (λ y. y ≡ e) →
      Judged {U = ⊤} L P classes b (command c) d (Err e) → Judged L P classes a (sequence cs) d r
  reached_fault a b d cs i c lt is h e r err k =
      let next = a.next + letvars (sequence (take i cs)) in
      let k' = at_place b.scope a.scope b.guards a.guards b.next next d (command c) (Err e) h.0 h.1 h.2 k in
      judged_error a d (sequence cs) e r err (λ names.
      let s = steps_at P names a.guards a.scope a.next cs i c lt is in
      subst (λ l. TellsFault L classes l e) (sym s.1)
      (tells_right L classes (steps P names a.guards a.scope a.next (sequence (take i cs))) _ e (h.3 names)
      (tells_left L classes (steps P names a.guards a.scope next (command c)) s.0 e (k' names))))

  -- A list is judged if its end is reached.
  pub reached_all : (a b : Place) (cs : List Cmd) (i : ℕ) → length cs ≤ i → Reached a cs i b →
      Judged {U = ⊤} L P classes a (sequence cs) b (Ok tt)
  reached_all a b cs i le h = subst (λ l. Judged {U = ⊤} L P classes a (sequence l) b (Ok tt)) (take_all i cs le) h
