-- The rows of a command are made from the rows of its parts.
use Rattle.std.proofs.Common.{◌≡◌, ℕ, ◌+◌, ◌<◌, ◌≤◌, ◌==◌, Bool, true, false, ◌&&◌, ◌||◌, List, [], ◌∷◌, ◌++◌, take, length, get_or, refl, sym, ap, ◌∙◌, subst, arith}
use Rattle.std.specs.Prelude.{slice_index}
use Rattle.std.specs.List.{All}
use Rattle.std.proofs.lemmas.List.{take_more, take_all, length_push}
use Rattle.std.proofs.lemmas.List.Elements.{All-push}
use Rattle.std.proofs.Math.Bool.{or-false, or_assoc}
use Rattle.std.proofs.Math.Seq.{take-append_seam}
use Rattle.vsi_syntax.specs.declared.token.Span.{Span}
use Rattle.vsi_scope.specs.declared.program.Cmd.{Cmd}
use Rattle.vsi_scope.specs.Language.{Expression, Command, Skip, Assign, Sequence, If, While, Letvar, letvars, has_loop, HasPlaces}
use Rattle.vsi_scope.specs.View.{command, sequence}
use Rattle.vsi_types.specs.declared.rules.Profile.{Profile}
use Rattle.vsi_types.specs.declared.rules.Rule.TheVariants as typing
use Rattle.vsi_infer.specs.FlowRows.{flow_has}
use Rattle.vsi_infer.specs.declared.flows.RuleFilter.{RuleFilter}
use Rattle.vsi_infer.specs.Leading.{leads, inside, reads_by, observes_ending, Position, IsReady, IsNoted}

-- The order of two added facts doesn't matter.
or_swap : (x y z : Bool) → ((x || y) || z) ≡ (x || (z || y))
or_swap true y z = refl
or_swap false true true = refl
or_swap false true false = refl
or_swap false false true = refl
or_swap false false false = refl

-- Two facts added under one condition can be added together.
both_to : (x t r g : Bool) → ((x || (t && r)) || (t && g)) ≡ (x || (t && (r || g)))
both_to true t r g = refl
both_to false true r g = refl
both_to false false r g = refl

-- Guards that read the same lead the same.
pub leads_same : (F : RuleFilter) (P : Profile) (k : ℕ) (f g : ℕ → Bool) → ((v : ℕ) → f v ≡ g v)
    → (scope : List ℕ) (n : ℕ) (c : Command) (a b : ℕ) → leads F P k f scope n c a b
    ≡ leads F P k g scope n c a b
leads_same F P k f g h scope n Skip a b = refl
leads_same F P k f g h scope n (Assign l s e) a b =
    ap (λ x. (b == slice_index scope l) && (reads_by F typing.Assign scope e a || x)) (h a)
leads_same F P k f g h scope n (Sequence c d) a b =
    ap (λ x. x || leads F P k f scope (n + letvars c) d a b) (leads_same F P k f g h scope n c a b)
    ∙ ap (λ x. leads F P k g scope n c a b || x) (leads_same F P k f g h scope (n + letvars c) d a b)
leads_same F P k f g h scope n (If e c d) a b =
    let more : (v : ℕ) → inside F typing.If f scope e v ≡ inside F typing.If g scope e v = λ v. ap
    (λ x. x || reads_by F typing.If scope e v) (h v) in
    ap (λ x. (observes_ending P (has_loop c || has_loop d) && ((b == k) && reads_by F typing.Loop scope e a)) ||
    (x || leads F P k (inside F typing.If f scope e) scope (n + letvars c) d a b))
    (leads_same F P k (inside F typing.If f scope e) (inside F typing.If g scope e) more scope n c a b)
    ∙ ap (λ x. (observes_ending P (has_loop c || has_loop d) && ((b == k) && reads_by F typing.Loop scope e a)) ||
    (leads F P k (inside F typing.If g scope e) scope n c a b || x)) (leads_same F P k
    (inside F typing.If f scope e)
    (inside F typing.If g scope e) more scope (n + letvars c) d a b)
leads_same F P k f g h scope n (While e c) a b =
    let more : (v : ℕ) → inside F typing.While f scope e v ≡ inside F typing.While g scope e v = λ v. ap
    (λ x. x || reads_by F typing.While scope e v) (h v) in
    ap (λ x. (observes_ending P true && ((b == k) && reads_by F typing.Loop scope e a)) || x)
    (leads_same F P k (inside F typing.While f scope e) (inside F typing.While g scope e) more scope n c a b)
leads_same F P k f g h scope n (Letvar e c) a b =
    ap (λ x. ((b == n) && reads_by F typing.Letvar scope e a) || x) (leads_same F P k f g h (scope ++ n ∷ [])
    (n + 1) c a b)

-- One more command of a list.
module _ (F : RuleFilter) (P : Profile) (k : ℕ) (around : ℕ → Bool) (scope : List ℕ) (a b : ℕ) where
  -- A sequence leads by a rule if one of its commands does.
  leads_push : (n : ℕ) (cs : List Cmd) (c : Cmd) → leads F P k around scope n (sequence (cs ++ c ∷ [])) a b ≡
      (leads F P k around scope n (sequence cs) a b || leads F P k around scope (n + letvars (sequence cs))
      (command c) a b)
  leads_push n [] c =
      let e : n ≡ n + 0 = omega arith in
      or-false (leads F P k around scope n (command c) a b)
      ∙ ap (λ m. leads F P k around scope m (command c) a b) e
  leads_push n (x ∷ cs) c =
      let e : n + letvars (command x) + letvars (sequence cs) ≡ n + (letvars (command x) + letvars (sequence cs)) =
      omega arith in
      ap (λ t. leads F P k around scope n (command x) a b || t) (leads_push (n + letvars (command x)) cs c)
      ∙ sym (or_assoc (leads F P k around scope n (command x) a b)
      (leads F P k around scope (n + letvars (command x)) (sequence cs) a b) _)
      ∙ ap (λ m. (leads F P k around scope n (command x) a b || leads F P k around scope (n + letvars
      (command x))
      (sequence cs) a b) || leads F P k around scope m (command c) a b) e

  -- With one more command, the list leads where that command does by the rule.
  pub leads_more : (n : ℕ) (cs : List Cmd) (i : ℕ) (c : Cmd) → i < length cs → c ≡ get_or cs i c
      → leads F P k around scope n (sequence (take (i + 1) cs)) a b ≡
      (leads F P k around scope n (sequence (take i cs)) a b || leads F P k around scope
      (n + letvars (sequence (take i cs))) (command c) a b)
  leads_more n cs i c lt is =
      ap (λ l. leads F P k around scope n (sequence l) a b) (take_more cs i c lt)
      ∙ leads_push n (take i cs) (get_or cs i c)
      ∙ ap (λ y. leads F P k around scope n (sequence (take i cs)) a b || leads F P k around scope
      (n + letvars (sequence (take i cs))) (command y) a b) (sym is)

-- A position: rows, the variable of each location, the next declaration.
abbrev pub position : List ℕ → List ℕ → ℕ → Position
position r s n = record { rows = r; scope = s; next = n }

module _ (F : RuleFilter) (P : Profile) (k : ℕ) (around : ℕ → Bool) where
  -- Equal places lead to the same flows by the rule.
  moved : (s s' : List ℕ) (n n' : ℕ) (c : Command) (x y : ℕ) → s ≡ s' → n ≡ n'
      → leads F P k around s n c x y ≡ leads F P k around s' n' c x y
  moved s s' n n' c x y p q = ap (λ z. leads F P k around z n c x y) p ∙ ap
      (λ m. leads F P k around s' m c x y) q

  -- Before the first command nothing is noted.
  pub noted_none : (a : Position) → IsNoted F P k around a Skip a
  noted_none a = record {
    scope = refl;
    next = omega arith;
    room = refl;
    rows =
        λ x y. sym (or-false (flow_has a.rows y x));
  }

  -- Two commands in a row are noted as one sequence.
  pub noted_then : (a b d : Position) (c₁ c₂ : Command) → IsNoted F P k around a c₁ b → IsNoted F P k around b c₂ d
      → IsNoted F P k around a (Sequence c₁ c₂) d
  noted_then a b d c₁ c₂ h g = record {
    scope = g.scope ∙ h.scope;
    next = omega (arith, g.next, h.next);
    room = g.room ∙ h.room;
    rows = λ x y.
        g.rows x y ∙ ap (λ t. t || leads F P k around b.scope b.next c₂ x y) (h.rows x y)
        ∙ ap (λ t. (flow_has a.rows y x || leads F P k around a.scope a.next c₁ x y) || t)
        (moved b.scope a.scope b.next (a.next + letvars c₁) c₂ x y h.scope h.next)
        ∙ or_assoc (flow_has a.rows y x) (leads F P k around a.scope a.next c₁ x y) _;
  }

  -- The first commands of a list are noted, and one more.
  pub noted_more : (a b d : Position) (cs : List Cmd) (i : ℕ) (c : Cmd) → i < length cs → c ≡ get_or cs i c
      → letvars (sequence (take (i + 1) cs)) ≡ letvars (sequence (take i cs)) + letvars (command c)
      → IsNoted F P k around a (sequence (take i cs)) b → IsNoted F P k around b (command c) d
      → IsNoted F P k around a (sequence (take (i + 1) cs)) d
  noted_more a b d cs i c lt is count h g =
      let both = noted_then a b d (sequence (take i cs)) (command c) h g in
      record {
        scope = both.scope;
        next = omega (arith, both.next, count);
        room = both.room;
        rows = λ x y. both.rows x y ∙ ap (λ t. flow_has a.rows y x || t)
            (sym (leads_more F P k around a.scope x y a.next cs i c lt is));
      }

  -- At the end the whole sequence is noted by the rule.
  pub noted_all : (a b : Position) (cs : List Cmd) (i : ℕ) → length cs ≤ i
      → IsNoted F P k around a (sequence (take i cs)) b → IsNoted F P k around a (sequence cs) b
  noted_all a b cs i le h = subst (λ l. IsNoted F P k around a (sequence l) b) (take_all i cs le) h

  -- An assignment is noted.
  pub noted_put : (a b : Position) (mid : List ℕ) (l : ℕ) (s : Span) (e : Expression) (to : ℕ) → to
      ≡ slice_index a.scope l
      → b.scope ≡ a.scope → b.next ≡ a.next → length b.rows ≡ length a.rows
      → ((x y : ℕ) → flow_has mid y x ≡ (flow_has a.rows y x || ((y == to) && reads_by F typing.Assign a.scope e x)))
      → ((x y : ℕ) → flow_has b.rows y x ≡ (flow_has mid y x || ((y == to) && around x)))
      → IsNoted F P k around a (Assign l s e) b
  noted_put a b mid l s e to at sc ne len f g = record {
    scope = sc;
    next = omega (arith, ne);
    room = len;
    rows = λ x y. g x y ∙ ap (λ t. t || ((y == to) && around x)) (f x y)
        ∙ both_to (flow_has a.rows y x) (y == to) (reads_by F typing.Assign a.scope e x) (around x)
        ∙ ap (λ (t : ℕ). flow_has a.rows y x || ((y == t) && (reads_by F typing.Assign a.scope e x || around x))) at;
  }

  -- A choice is noted: both branches under its guard, and then its ending.
  pub noted_if : (inner : ℕ → Bool) (a b d : Position) (e : Expression) (c₁ c₂ : Command) (looping : Bool)
      → ((v : ℕ) → inner v ≡ inside F typing.If around a.scope e v) → looping ≡ (has_loop c₁ || has_loop c₂)
      → IsNoted F P k inner a (Sequence c₁ c₂) b → d.scope ≡ b.scope → d.next ≡ b.next → length d.rows
      ≡ length b.rows
      → ((x y : ℕ) → flow_has d.rows y x ≡ (flow_has b.rows y x ||
      (observes_ending P looping && ((y == k) && reads_by F typing.Loop b.scope e x)))) → IsNoted F P k around a
      (If e c₁ c₂) d
  noted_if inner a b d e c₁ c₂ looping same loops h sc ne len f = record {
    scope = sc ∙ h.scope;
    next = omega (arith, ne, h.next);
    room = len ∙ h.room;
    rows = λ x y.
        f x y ∙ ap (λ t. t || (observes_ending P looping && ((y == k) && reads_by F typing.Loop b.scope e x)))
        (h.rows x y)
        ∙ ap (λ s. (flow_has a.rows y x || leads F P k inner a.scope a.next (Sequence c₁ c₂) x y) ||
        (observes_ending P looping && ((y == k) && reads_by F typing.Loop s e x))) h.scope
        ∙ ap (λ t. (flow_has a.rows y x || leads F P k inner a.scope a.next (Sequence c₁ c₂) x y) ||
        (observes_ending P t && ((y == k) && reads_by F typing.Loop a.scope e x))) loops
        ∙ or_swap (flow_has a.rows y x) (leads F P k inner a.scope a.next (Sequence c₁ c₂) x y)
        (observes_ending P (has_loop c₁ || has_loop c₂) && ((y == k) && reads_by F typing.Loop a.scope e x))
        ∙ ap (λ t. flow_has a.rows y x || ((observes_ending P (has_loop c₁ || has_loop c₂)
        && ((y == k) && reads_by F typing.Loop a.scope e x)) || t)) (leads_same F P k inner
        (inside F typing.If around a.scope e) same a.scope a.next (Sequence c₁ c₂) x y);
  }

  -- A loop is noted: its ending, and then its body under its guard.
  pub noted_while : (inner : ℕ → Bool) (a b d : Position) (e : Expression) (c : Command)
      → ((v : ℕ) → inner v ≡ inside F typing.While around b.scope e v) → b.scope ≡ a.scope → b.next ≡ a.next
      → length b.rows ≡ length a.rows
      → ((x y : ℕ) → flow_has b.rows y x ≡ (flow_has a.rows y x ||
      (observes_ending P true && ((y == k) && reads_by F typing.Loop a.scope e x)))) → IsNoted F P k inner b c d
      → IsNoted F P k around a (While e c) d
  noted_while inner a b d e c same sc ne len f h = record {
    scope = h.scope ∙ sc;
    next = omega (arith, ne, h.next);
    room = h.room ∙ len;
    rows = λ x y.
        h.rows x y ∙ ap (λ t. t || leads F P k inner b.scope b.next c x y) (f x y)
        ∙ ap (λ t. (flow_has a.rows y x || (observes_ending P true &&
        ((y == k) && reads_by F typing.Loop a.scope e x))) || t)
        (leads_same F P k inner (inside F typing.While around b.scope e) same b.scope b.next c x y
        ∙ ap (λ s. leads F P k (inside F typing.While around s e) s b.next c x y) sc
        ∙ ap (λ n. leads F P k (inside F typing.While around a.scope e) a.scope n c x y) ne)
        ∙ or_assoc (flow_has a.rows y x) _ _;
  }

  -- A letvar is noted: its initial value, and then its body in a longer scope.
  pub noted_letvar : (a b d f : Position) (e : Expression) (c : Command) → b.scope ≡ a.scope ++ a.next ∷ []
      → b.next ≡ a.next + 1 → length b.rows ≡ length a.rows
      → ((x y : ℕ) → flow_has b.rows y x ≡ (flow_has a.rows y x ||
      ((y == a.next) && reads_by F typing.Letvar a.scope e x)))
      → IsNoted F P k around b c d → f.scope ≡ take (length a.scope) d.scope → f.next ≡ d.next → f.rows ≡ d.rows
      → IsNoted F P k around a (Letvar e c) f
  noted_letvar a b d f e c sc ne len bits h fs fn fr = record {
    scope = fs ∙ ap (take (length a.scope)) (h.scope ∙ sc) ∙ take-append_seam a.scope (a.next ∷ []);
    next = omega (arith, fn, ne, h.next);
    room = ap length fr ∙ h.room ∙ len;
    rows = λ x y.
        ap (λ r. flow_has r y x) fr ∙ h.rows x y ∙ ap (λ t. t || leads F P k around b.scope b.next c x y)
        (bits x y)
        ∙ ap (λ t. (flow_has a.rows y x || ((y == a.next) && reads_by F typing.Letvar a.scope e x)) || t)
        (moved b.scope (a.scope ++ a.next ∷ []) b.next (a.next + 1) c x y sc ne)
        ∙ or_assoc (flow_has a.rows y x) _ _;
  }

-- Rows with room for a command have room for its parts.
module _ (k : ℕ) where
  -- A position with the same places is ready for a command with fewer declarations.
  pub ready_same : (a b : Position) (c d : Command) → HasPlaces (length a.scope) d → letvars d ≤ letvars c
      → IsReady k a c → b.scope ≡ a.scope → b.next ≡ a.next → length b.rows ≡ length a.rows → IsReady k b d
  ready_same a b c d places le r sc ne len = record {
    places = subst (λ s. HasPlaces (length s) d) (sym sc) places;
    limit = omega (arith, r.limit, le, ne);
    scope = subst (All (λ v. v < k)) (sym sc) r.scope;
    small = r.small;
    room = omega (arith, r.room, len);
  }

  -- After one command a position is ready for the next.
  pub ready_after : (F : RuleFilter) (P : Profile) (around : ℕ → Bool) (a b : Position) (c c₁ d : Command) → HasPlaces
      (length a.scope) d
      → letvars c₁ + letvars d ≤ letvars c → IsReady k a c → IsNoted F P k around a c₁ b → IsReady k b d
  ready_after F P around a b c c₁ d places le r h = record {
    places = subst (λ s. HasPlaces (length s) d) (sym h.scope) places;
    limit = omega (arith, r.limit, le, h.next);
    scope = subst (All (λ v. v < k)) (sym h.scope) r.scope;
    small = r.small;
    room = omega (arith, r.room, h.room);
  }

  -- Inside a `letvar` a position is ready for its body.
  pub ready_letvar : (a b : Position) (e : Expression) (c : Command) → IsReady k a (Letvar e c) → b.scope ≡ a.scope
      ++ a.next ∷ [] → b.next ≡ a.next + 1 → length b.rows ≡ length a.rows → IsReady k b c
  ready_letvar a b e c r sc ne len =
      let lt : a.next < k = omega (arith, r.limit) in
      let size : length b.scope ≡ length a.scope + 1 = ap length sc ∙ length_push a.scope a.next in
      record {
        places = subst (λ n. HasPlaces n c) (sym size) r.places.1;
        limit = omega (arith, r.limit, ne);
        scope = subst (All (λ v. v < k)) (sym sc) (All-push (λ v. v < k) a.scope a.next r.scope lt);
        small = r.small;
        room = omega (arith, r.room, len);
      }
