-- The steps kept of a command are those kept of its parts.
use Rattle.std.proofs.Common.{◌≡◌, ℕ, ◌+◌, ◌<◌, Bool, true, false, ◌||◌, inl, inr, List, [], ◌∷◌, ◌++◌, take, length, length-append, get_or, refl, sym, ap, ◌∙◌, subst, arith}
use Rattle.std.specs.Prelude.{◌≤◌, ◌⊎◌, Option, Some, None, IfSome}
use Rattle.std.specs.List.{All, Contains, list_any}
use Rattle.std.proofs.lemmas.List.{take_all, take_more, get_or-map, length-map, map-append}
use Rattle.std.proofs.lemmas.List.Elements.{Contains-get_or, Contains-append_left, Contains-append_right, Contains-append_cases, Contains-push, Contains-push_cases, All-contains}
use Rattle.std.proofs.lemmas.List.Folds.{list_any_at}
use Rattle.std.proofs.Math.Seq.{take-append_seam}
use Rattle.vsi_syntax.specs.declared.token.Span.{Span}
use Rattle.vsi_scope.specs.declared.program.Cmd.{Cmd}
use Rattle.vsi_scope.specs.Language.{Expression, Command, Assign, If, While, Letvar, letvars, has_loop}
use Rattle.vsi_scope.specs.View.{command, sequence}
use Rattle.vsi_scope.proofs.Views.{letvars_more}
use Rattle.vsi_types.specs.declared.rules.Profile.{Profile}
use Rattle.vsi_types.specs.declared.rules.Profile.TheVariants.{Base, Strict}
use Rattle.vsi_types.specs.declared.rules.Rule.{Rule}
use Rattle.vsi_types.specs.declared.rules.Rule.TheVariants as typing
use Rattle.vsi_types.specs.declared.rules.Guard.{Guard}
use Rattle.vsi_types.specs.declared.rules.Read.{Read}
use Rattle.vsi_types.specs.declared.rules.Step.{Step}
use Rattle.vsi_types.specs.Steps.{reads, guarded, flow, flows, ending, endings, steps}
use Rattle.vsi_types.proofs.Judging.{steps_more}
use Rattle.vsi_types.specs.Walker.{Place}
use Rattle.vsi_types.proofs.Places.{place, inside, within_letvar}
use Rattle.std.proofs.lemmas.Bool.{false≢true}
use Rattle.vsi_infer.specs.Leading.{observes_ending}
use Rattle.vsi_infer.specs.FirstSteps.{Kept, MayKeep, IsAmong, IsFrom, IsGathered}
use Rattle.vsi_infer.specs.Membership.{same_step}

-- The flows from two operands are the flows from each.
pub flows_both : (target : ℕ) (written : Span) (rule : Rule) (xs ys : List Read)
    → flows target written (guarded rule (xs ++ ys)) ≡ flows target written (guarded rule xs)
    ++ flows target written (guarded rule ys)
flows_both target written rule xs ys = ap (flows target written) (map-append _ xs ys)
    ∙ map-append (flow target written) (guarded rule xs) (guarded rule ys)

-- The endings of two lists of reads are the endings of each.
pub endings_both : (xs ys : List Read) → endings Strict true (xs ++ ys) ≡ endings Strict true xs
    ++ endings Strict true ys
endings_both xs ys = map-append ending xs ys

-- One more guard adds its flow.
pub flows_more : (target : ℕ) (written : Span) (gs : List Guard) (i : ℕ) (g : Guard) → i < length gs
    → g ≡ get_or gs i g → flows target written (take (i + 1) gs)
    ≡ flows target written (take i gs) ++ flow target written g ∷ []
flows_more target written gs i g lt is =
    ap (flows target written) (take_more gs i g lt) ∙ map-append _ (take i gs) (get_or gs i g ∷ [])
    ∙ ap (λ x. flows target written (take i gs) ++ flows target written (x ∷ [])) (sym is)

-- A list of one step has no other step.
alone : (s x : Step) → Contains (s ∷ []) x → s ≡ x
alone s x c = elim (Contains-push_cases [] s x c) [
  | inl l ↦ absurd (omega (arith, l.1))
  | inr r ↦ r
]

module _ (wants : Step → Bool) where
  -- Keeping nothing more is allowed.
  pub among_none : (ss : List Step) (k : Kept) → IsAmong wants ss k k
  among_none ss k = record { each = λ x c. inl c; more = omega arith; every = refl }

  -- Steps kept from a list are kept from any list that contains it.
  pub among_some : (xs ys : List Step) (a b : Kept) → ((x : Step) → Contains xs x → Contains ys x)
      → IsAmong wants xs a b → IsAmong wants ys a b
  among_some xs ys a b f h = record {
    each = λ x c. elim (h.each x c) [ inl l ↦ inl l | inr r ↦ inr (f x r.0, r.1) ];
    more = h.more;
    every = h.every;
  }

  -- Keeping twice from the same steps is like keeping once.
  pub among_again : (ss : List Step) (a b c : Kept) → IsAmong wants ss a b → IsAmong wants ss b c
      → IsAmong wants ss a c
  among_again ss a b c f g = record {
    each = λ x h. elim (g.each x h) [ inl l ↦ f.each x l | inr r ↦ inr r ];
    more = omega (arith, f.more, g.more);
    every = g.every ∙ f.every;
  }

  -- Keeping from one list and then from another is keeping from both, in whatever order their steps come.
  among_then : (xs ys ss : List Step) (a b c : Kept) → ((x : Step) → Contains xs x → Contains ss x)
      → ((x : Step) → Contains ys x → Contains ss x) → IsAmong wants xs a b → IsAmong wants ys b c
      → IsAmong wants ss a c
  among_then xs ys ss a b c i j f g =
      among_again ss a b c (among_some xs ss a b i f) (among_some ys ss b c j g)

  -- Nothing is kept from an empty list.
  pub from_none : (k : Kept) → IsFrom wants [] k k
  from_none k = record { among = among_none [] k; some = λ e x c t. absurd (omega (arith, c.1)) }

  -- If not every step is looked at, it is enough that each kept step is one of the wanted ones.
  pub from_quick : (ss : List Step) (a b : Kept) → a.every ≡ false → IsAmong wants ss a b → IsFrom wants ss a b
  from_quick ss a b not h = record { among = h; some = λ e x c t. absurd (false≢true (sym not ∙ e)) }

  -- A step may be left out if not every step is looked at.
  pub from_left_out : (ss : List Step) (a b : Kept) (out : Bool) → b ≡ a → (a.every ≡ true → out ≡ false)
      → out ≡ true → IsFrom wants ss a b
  from_left_out ss a b out same every is =
      subst (λ (k : Kept). IsFrom wants ss a k) (sym same)
      (record { among = among_none ss a; some = λ e x c t. absurd (false≢true (sym (every e) ∙ is)) })

  -- An unwanted step changes nothing.
  pub from_unwanted : (s : Step) (k : Kept) → wants s ≡ false → IsFrom wants (s ∷ []) k k
  from_unwanted s k not = record {
    among = among_none (s ∷ []) k;
    some = λ e x c t. absurd (false≢true (sym not ∙ ap wants (alone s x c) ∙ t));
  }

  -- Each kept step was kept before or is the new one.
  each_kept : (s x : Step) (old new : List Step) → MayKeep s old new → wants s ≡ true → Contains new x
      → Contains old x ⊎ (Contains (s ∷ []) x × (wants x ≡ true))
  each_kept s x old new (inl e) t c = inl (subst (λ l. Contains l x) e c)
  each_kept s x old new (inr e) t c = elim (Contains-push_cases old s x (subst (λ l. Contains l x) e c)) [
    | inl l ↦ inl l
    | inr r ↦ inr (subst (Contains (s ∷ [])) r (Contains-push [] s), ap wants (sym r) ∙ t)
  ]

  -- No kept step is lost.
  more_kept : (s : Step) (old new : List Step) → MayKeep s old new → length old ≤ length new
  more_kept s old new (inl e) = let l = ap length e in omega (arith, l)
  more_kept s old new (inr e) = let l = ap length e ∙ length-append old (s ∷ []) in omega (arith, l)

  -- A wanted step is kept.
  pub from_kept : (s : Step) (a b : Kept) → wants s ≡ true → b.every ≡ a.every → MayKeep s a.steps b.steps
      → (a.every ≡ true → 1 ≤ length b.steps) → IsFrom wants (s ∷ []) a b
  from_kept s a b t same k one = record {
    among = record {
      each = λ x c. each_kept s x a.steps b.steps k t c;
      more = more_kept s a.steps b.steps k;
      every = same;
    };
    some = λ e x c h. one e;
  }

  -- Steps are kept from one list and then from another.
  pub from_then : (xs ys : List Step) (a b c : Kept) → IsFrom wants xs a b → IsFrom wants ys b c
      → IsFrom wants (xs ++ ys) a c
  from_then xs ys a b c f g = record {
    among = among_then xs ys (xs ++ ys) a b c (λ x. Contains-append_left xs ys x) (λ x. Contains-append_right xs ys x)
        f.among g.among;
    some = λ e x h t. elim (Contains-append_cases xs ys x h) [
      | inl l ↦ (let k = f.some e x l t in omega (arith, k, g.among.more))
      | inr r ↦ g.some (f.among.every ∙ e) x r t
    ];
  }

  -- The same holds in the other order.
  pub from_before : (xs ys : List Step) (a b c : Kept) → IsFrom wants ys a b → IsFrom wants xs b c
      → IsFrom wants (xs ++ ys) a c
  from_before xs ys a b c f g = record {
    among = among_then ys xs (xs ++ ys) a b c (λ x. Contains-append_right xs ys x) (λ x. Contains-append_left xs ys x)
        f.among g.among;
    some = λ e x h t. elim (Contains-append_cases xs ys x h) [
      | inl l ↦ g.some (f.among.every ∙ e) x l t
      | inr r ↦ (let k = f.some e x r t in omega (arith, k, g.among.more))
    ];
  }

  -- Steps kept from an empty start come from the list alone.
  pub from_start : (ss tt' : List Step) (a b : Kept) (every : Bool) → ss ≡ tt' → a.steps ≡ [] → a.every ≡ every
      → IsFrom wants ss a b
      → IsFrom wants tt' (record { steps = []; every = every }) (record { steps = b.steps; every = every })
  from_start ss tt' a b every e z same h =
      subst (λ l. IsFrom wants l (record { steps = []; every = every }) (record { steps = b.steps; every = every })) e
      (record {
        among = record {
          each = λ x c. elim (h.among.each x c) [ inl l ↦ inl (subst (λ o. Contains o x) z l) | inr r ↦ inr r ];
          more = omega arith;
          every = refl;
        };
        some = λ f. h.some (same ∙ f);
      })

  -- A step kept from an empty start is in the list and wanted.
  pub kept_there : (ss new : List Step) (every : Bool)
      → IsFrom wants ss (record { steps = []; every = every }) (record { steps = new; every = every })
      → (x : Step) → Contains new x → Contains ss x × (wants x ≡ true)
  kept_there ss new every h x c = elim (h.among.each x c) [
    | inl l ↦ absurd (omega (arith, l.1))
    | inr r ↦ r
  ]

  -- All steps kept from an empty start are in the list.
  pub all_kept : (ss new : List Step) (every : Bool)
      → IsFrom wants ss (record { steps = []; every = every }) (record { steps = new; every = every })
      → All (Contains ss) new
  all_kept ss new every h k d lt = (kept_there ss new every h (get_or new k d) (Contains-get_or new k d lt)).0

  -- The flows of an assignment are those of its value and those of the guards.
  pub put_from : (target target' : ℕ) → target ≡ target' → (written : Span) (xs xs' : List Guard) → xs ≡ xs'
      → (gs gs' : List Guard) → gs ≡ gs' → (a b c : Kept) → IsFrom wants (flows target written xs) a b
      → IsFrom wants (flows target written gs) b c → IsFrom wants (flows target' written (xs' ++ gs')) a c
  put_from target target' at written xs xs' same gs gs' same' a b c f g =
      subst (λ l. IsFrom wants l a c) (sym (map-append (flow target' written) xs' gs'))
      (from_then (flows target' written xs') (flows target' written gs') a b c
      (subst (λ l. IsFrom wants (flows target' written l) a b) same
      (subst (λ (t : ℕ). IsFrom wants (flows t written xs) a b) at f))
      (subst (λ l. IsFrom wants (flows target' written l) b c) same'
      (subst (λ (t : ℕ). IsFrom wants (flows t written gs) b c) at g)))

-- The flow of a guard is among the flows of the guards.
pub guard_there : (target : ℕ) (written : Span) (gs : List Guard) (g : Guard) → Contains gs g
    → (x : Step) → Contains (flow target written g ∷ []) x → Contains (flows target written gs) x
guard_there target written gs g c x h = there gs g c (alone (flow target written g) x h)
  where
    there : (gs : List Guard) (g : Guard) → Contains gs g → flow target written g ≡ x
        → Contains (flows target written gs) x
    there gs g (k, lt, is) e = (
      k,
      omega (arith, lt, length-map gs (flow target written)),
      get_or-map (flow target written) gs k g x lt ∙ ap (flow target written) is ∙ e,
    )

-- If the profile observes the ending of a loop, there is a flow from each read to the ending.
pub endings_asked : (P : Profile) (looping : Bool) (rs : List Read) → observes_ending P looping ≡ true
    → endings Strict true rs ≡ endings P looping rs
endings_asked Base looping rs e = absurd (false≢true e)
endings_asked Strict false rs e = absurd (false≢true e)
endings_asked Strict true rs e = refl

-- If the profile doesn't observe it, there is none.
pub endings_unasked : (P : Profile) (looping : Bool) (rs : List Read) → observes_ending P looping ≡ false
    → endings P looping rs ≡ []
endings_unasked Base looping rs e = refl
endings_unasked Strict false rs e = refl
endings_unasked Strict true rs e = absurd (false≢true (sym e))

-- A step found among known steps of a list is in the list.
pub some_known : (ss known : List Step) (o : Option Step) → All (Contains ss) known → IfSome o (Contains known)
    → IfSome o (Contains ss)
some_known ss known None all h = tt
some_known ss known (Some x) all h = All-contains (Contains ss) known x all h

-- A step equal to one of a list's steps is in the list.
pub proposed_there : (ss : List Step) (x : Step) (o : Option Step) → IfSome o (Contains ss)
    → (y : Step) × (o ≡ Some y) × (same_step x y ≡ true) → list_any (same_step x) ss ≡ true
proposed_there ss x o h (y, e, t) =
    let c = subst (λ p. IfSome p (Contains ss)) e h in
    list_any_at (same_step x) ss c.0 y c.1 (subst (λ z. same_step x z ≡ true) (sym c.2) t)

module _ (wants : Step → Bool) (P : Profile) (names : ℕ → Span) where
  -- The steps of a command, from a place on.
  abbrev here : Place → Command → List Step
  here a c = steps P names a.guards a.scope a.next c

  -- Steps at an equal place are the same.
  pub moved : (a b : Place) (c : Command) (n : ℕ) (x y : Kept) → b.scope ≡ a.scope → b.guards ≡ a.guards
      → b.next ≡ n → IsFrom wants (here b c) x y → IsFrom wants (steps P names a.guards a.scope n c) x y
  moved a b c n x y s g e h =
      subst (λ t. IsFrom wants (steps P names a.guards t n c) x y) s
      (subst (λ t. IsFrom wants (steps P names t b.scope n c) x y) g
      (subst (λ (t : ℕ). IsFrom wants (steps P names b.guards b.scope t c) x y) e h))

  -- A place with known parts is the place of the command.
  pub gathered_at : (t t' : List ℕ) (g g' : List Guard) (n : ℕ) (b : Place) (c : Command) (x y : Kept) → t ≡ t'
      → g ≡ g' → IsGathered wants P names (place t g n) x c b y → IsGathered wants P names (place t' g' n) x c b y
  gathered_at t t' g g' n b c x y e f h =
      subst (λ u. IsGathered wants P names (place u g' n) x c b y) e
      (subst (λ u. IsGathered wants P names (place t u n) x c b y) f h)

  -- Nothing is gathered from no commands.
  pub gathered_none : (a : Place) (x : Kept) (cs : List Cmd) → IsGathered wants P names a x (sequence (take 0 cs)) a x
  gathered_none a x cs = record {
    kept = from_none wants x;
    scope = refl;
    guards = refl;
    next = omega arith;
  }

  -- An assignment's steps are gathered.
  pub gathered_put : (a : Place) (x y : Kept) (l : ℕ) (s : Span) (e : Expression)
      → IsFrom wants (here a (Assign l s e)) x y → IsGathered wants P names a x (Assign l s e) a y
  gathered_put a x y l s e h = record { kept = h; scope = refl; guards = refl; next = omega arith }

  -- A choice's steps are gathered; those of its ending come first in the program.
  pub gathered_choose : (a b d z : Place) (e : Expression) (c k : Command) (w x y v : Kept)
      → IsGathered wants P names (inside typing.If e a) w c b x → IsGathered wants P names b x k d y
      → IsFrom wants (endings P (has_loop c || has_loop k) (reads a.scope e)) y v
      → z.scope ≡ d.scope → z.guards ≡ take (length a.guards) d.guards → z.next ≡ d.next
      → IsGathered wants P names a w (If e c k) z v
  gathered_choose a b d z e c k w x y v i j h s g n = record {
    kept =
        from_before wants (endings P (has_loop c || has_loop k) (reads a.scope e)) _ w y v
        (from_then wants (here (inside typing.If e a) c)
        (steps P names (inside typing.If e a).guards a.scope (a.next + letvars c) k) w x y
        i.kept (moved (inside typing.If e a) b k (a.next + letvars c) x y i.scope i.guards i.next j.kept)) h;
    scope = s ∙ j.scope ∙ i.scope;
    guards = g ∙ ap (take (length a.guards)) (j.guards ∙ i.guards)
        ∙ take-append_seam a.guards (guarded typing.If (reads a.scope e));
    next = omega (arith, n, j.next, i.next);
  }

  -- A loop's steps are gathered.
  pub gathered_repeat : (a b z : Place) (e : Expression) (c : Command) (w x y : Kept)
      → IsFrom wants (endings P true (reads a.scope e)) w x
      → IsGathered wants P names (inside typing.While e a) x c b y
      → z.scope ≡ b.scope → z.guards ≡ take (length a.guards) b.guards → z.next ≡ b.next
      → IsGathered wants P names a w (While e c) z y
  gathered_repeat a b z e c w x y h i s g n = record {
    kept = from_then wants (endings P true (reads a.scope e)) (here (inside typing.While e a) c) w x y h i.kept;
    scope = s ∙ i.scope;
    guards = g ∙ ap (take (length a.guards)) i.guards
        ∙ take-append_seam a.guards (guarded typing.While (reads a.scope e));
    next = n ∙ i.next;
  }

  -- A letvar's steps are gathered.
  pub gathered_allocate : (a b z : Place) (e : Expression) (c : Command) (w x y : Kept)
      → IsFrom wants (flows a.next (names a.next) (guarded typing.Letvar (reads a.scope e))) w x
      → IsGathered wants P names (within_letvar a) x c b y → z.scope ≡ take (length a.scope) b.scope
      → z.guards ≡ b.guards → z.next ≡ b.next → IsGathered wants P names a w (Letvar e c) z y
  gathered_allocate a b z e c w x y h i s g n = record {
    kept = from_then wants (flows a.next (names a.next) (guarded typing.Letvar (reads a.scope e)))
        (here (within_letvar a) c) w x y
        h i.kept;
    scope = s ∙ ap (take (length a.scope)) i.scope ∙ take-append_seam a.scope (a.next ∷ []);
    guards = g ∙ i.guards;
    next = omega (arith, n, i.next);
  }

  -- The commands of a list, up to a place in it.
  module _ (a b : Place) (w x : Kept) (cs : List Cmd) (i : ℕ) (c : Cmd) (lt : i < length cs)
      (is : c ≡ get_or cs i c) (h : IsGathered wants P names a w (sequence (take i cs)) b x) where
    -- After the next command, one more command of the list has been gathered.
    pub gathered_more : (d : Place) (y : Kept) → IsGathered wants P names b x (command c) d y
        → IsGathered wants P names a w (sequence (take (i + 1) cs)) d y
    gathered_more d y j = record {
      kept =
          subst (λ l. IsFrom wants l w y) (sym (steps_more P names a.guards a.scope a.next cs i c lt is))
          (from_then wants (here a (sequence (take i cs))) _ w x y h.kept
          (moved a b (command c) (a.next + letvars (sequence (take i cs))) x y h.scope h.guards h.next j.kept));
      scope = j.scope ∙ h.scope;
      guards = j.guards ∙ h.guards;
      next = (let e = letvars_more cs i c lt is in omega (arith, j.next, h.next, e));
    }

  -- At the end the whole list has been gathered.
  pub gathered_all : (a b : Place) (w x : Kept) (cs : List Cmd) (i : ℕ) → length cs ≤ i
      → IsGathered wants P names a w (sequence (take i cs)) b x → IsGathered wants P names a w (sequence cs) b x
  gathered_all a b w x cs i le h = subst (λ l. IsGathered wants P names a w (sequence l) b x) (take_all i cs le) h
