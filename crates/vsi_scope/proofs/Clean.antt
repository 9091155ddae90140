-- The consequences of having no fault, and the conditions that imply it.
use Rattle.std.proofs.Common.{◌≡◌, ◌≢◌, ℕ, suc, ◌+◌, ◌<◌, ◌≤◌, nat_lt, List, [], ◌∷◌, ◌++◌, length, refl, sym, ap, ◌∙◌, arith, Option, Some, None, IsSome, Bool, true, false, bytes_eq, if◌then◌else◌, length-append}
use Rattle.std.specs.Option.{option_or}
use Rattle.std.specs.List.{IsDistinct, AllByRecursion}
use Rattle.std.proofs.lemmas.Map.Keys.{IsDistinct-head, IsDistinct-tail, IsDistinct-cons}
use Rattle.std.proofs.lemmas.Slice.Eq.{bytes_eq-Decides}
use Rattle.std.proofs.lemmas.Bool.{ltb-true, lt-ltb}
use Rattle.vsi_syntax.specs.Tree as tree
use Rattle.vsi_scope.specs.declared.resolution.ScopeError.{ScopeError}
use Rattle.vsi_scope.specs.declared.resolution.ScopeError.TheVariants as errors
use Rattle.vsi_scope.specs.Language.{Command}
use Rattle.vsi_scope.specs.Scopes.{Text, Scope, IsAbsent, Does, DoesAll}
use Rattle.vsi_scope.specs.Places.{place_of}
use Rattle.vsi_lattice.specs.Known.{Known}
use Rattle.vsi_scope.specs.Faults.{Mark, Local, Class, Use, class_marks, uses, marks, all_marks, locals, all_locals, global_marks, global_names, first_fault, fault_at, if_absent, if_there}
use Rattle.vsi_scope.specs.Faults as marked
use Rattle.vsi_scope.specs.Resolving.{HasClass, HasClasses, HasAllClasses, HasGlobalClasses}
use Rattle.vsi_scope.proofs.Faulty.{none_in_both}
use Rattle.vsi_scope.proofs.Forms.{choose_none, loop_none, local_none}
use Rattle.vsi_scope.proofs.Meaning.{left_of, right_of, none_left, none_right, not_none, not_true, absent}
use Rattle.vsi_scope.proofs.Complete.{gone, place_is, means_clean}

-- ---- one mark.

-- Two parts without a fault have none together.
both : {a b : Option ScopeError} → a ≡ None → b ≡ None → option_or a b ≡ None
both {a} {b} p q = ap (λ o. option_or o b) p ∙ q

-- A number that passes its test is below the limit, by cases on the test.
below_if : (n k : ℕ) (b : Bool) → nat_lt n k ≡ b → (e : ScopeError) → (if b then None else Some e) ≡ None → n < k
below_if n k true q e p = ltb-true n k q
below_if n k false q e p = not_none e p

-- A number that passes its test is below the limit.
below_from : (n k : ℕ) (e : ScopeError) → (if nat_lt n k then None else Some e) ≡ None → n < k
below_from n k e p = below_if n k (nat_lt n k) refl e p

-- A number below the limit passes its test.
below_clean : (n k : ℕ) (e : ScopeError) → n < k → (if nat_lt n k then None else Some e) ≡ None
below_clean n k e lt = ap (λ b. if b then None else Some e) (lt-ltb n k lt)

-- A class without a fault is known.
class_there : (o : Option ℕ) (e : ScopeError) → if_absent o e ≡ None → IsSome o
class_there (Some l) e p = refl
class_there None e p = not_none e p

-- A class that is known has no fault.
there_clean : (o : Option ℕ) (e : ScopeError) → IsSome o → if_absent o e ≡ None
there_clean (Some l) e p = refl
there_clean None e p = not_true p

-- A written class without a fault is known.
class_known : (k : Known) (c : Option tree.Named) → first_fault k (class_marks c) ≡ None → HasClass k c
class_known k None p = tt
class_known k (Some x) p = class_there (k x.text) _ (none_left _ _ p)

-- A written class that is known has no fault.
class_clean : (k : Known) (c : Option tree.Named) → HasClass k c → first_fault k (class_marks c) ≡ None
class_clean k None p = refl
class_clean k (Some x) p = both (there_clean (k x.text) (errors.UnknownClass x.span) p) refl

-- A name that must be absent and has no fault is absent.
not_there : (o : Option ℕ) (e : ScopeError) (q : Option ScopeError) → if_there o e q ≡ None → o ≡ None
not_there None e q p = refl
not_there (Some l) e q p = not_none e p

-- If a name must be absent and there is no fault, there is no other fault either.
otherwise_none : (o : Option ℕ) (e : ScopeError) (q : Option ScopeError) → if_there o e q ≡ None → q ≡ None
otherwise_none None e q p = p
otherwise_none (Some l) e q p = not_none e p

-- ---- globals.

-- No name of one list is in the other.
abbrev AreAbsent : Scope → List Text → Type 0
AreAbsent s [] = Unit {0}
AreAbsent s (x ∷ xs) = IsAbsent s x × AreAbsent s xs

-- A name that differs from the last one is absent from a list if it is absent from those before.
absent-append : (s : Scope) (y x : Text) → IsAbsent s x → y ≢ x → IsAbsent (s ++ y ∷ []) x
absent-append [] y x a n = (n, tt)
absent-append (z ∷ s) y x a n = (a.0, absent-append s y x a.1 n)

-- A name that is absent from a list with one more name is absent from the list.
absent_before : (s : Scope) (y x : Text) → IsAbsent (s ++ y ∷ []) x → IsAbsent s x
absent_before [] y x a = tt
absent_before (z ∷ s) y x a = (a.0, absent_before s y x a.1)

-- A name that is absent from a list with one more name differs from that name.
absent_last : (s : Scope) (y x : Text) → IsAbsent (s ++ y ∷ []) x → y ≢ x
absent_last [] y x a = a.0
absent_last (z ∷ s) y x a = absent_last s y x a.1

-- Names that differ don't compare as equal, by cases on the comparison.
differs_if : (y x : Text) (b : Bool) → bytes_eq y x ≡ b → y ≢ x → b ≡ false
differs_if y x true p n = absurd (n ((bytes_eq-Decides y x).0 p))
differs_if y x false p n = refl

-- Names that differ don't compare as equal.
differs : (y x : Text) → y ≢ x → bytes_eq y x ≡ false
differs y x n = differs_if y x (bytes_eq y x) refl n

-- Names that are absent from a list with one more name are absent from the list.
are_before : (s : Scope) (y : Text) (xs : List Text) → AreAbsent (s ++ y ∷ []) xs → AreAbsent s xs
are_before s y [] a = tt
are_before s y (x ∷ xs) a = (absent_before s y x a.0, are_before s y xs a.1)

-- Names that are absent from a list with one more name don't compare as equal to that name.
are_apart : (s : Scope) (y : Text) (xs : List Text) → AreAbsent (s ++ y ∷ []) xs →
    AllByRecursion (λ z. bytes_eq y z ≡ false) xs
are_apart s y [] a = tt
are_apart s y (x ∷ xs) a = (differs y x (absent_last s y x a.0), are_apart s y xs a.1)

-- Names that are absent from a list and don't compare as equal to one more name are absent from both.
are_absent : (s : Scope) (y : Text) (xs : List Text) → AreAbsent s xs →
    AllByRecursion (λ z. bytes_eq y z ≡ false) xs → AreAbsent (s ++ y ∷ []) xs
are_absent s y [] a d = tt
are_absent s y (x ∷ xs) a d =
    (absent-append s y x a.0 (λ q. not_true (sym d.0 ∙ (bytes_eq-Decides y x).1 q)), are_absent s y xs a.1 d.1)

-- The empty list of names is distinct.
distinct_none : IsDistinct bytes_eq []
unfolding IsDistinct
distinct_none = tt

-- All names are absent from the empty list.
nothing_absent : (xs : List Text) → AreAbsent [] xs
nothing_absent [] = tt
nothing_absent (x ∷ xs) = (tt, nothing_absent xs)

module _ (k : Known) where
  -- The names of globals without a fault are not among those above.
  names_absent : (above : Scope) (gs : List tree.Declared) → first_fault k (global_marks above gs) ≡ None →
      AreAbsent above (global_names gs)
  names_absent above [] p = tt
  names_absent above (g ∷ gs) p =
      let rest = names_absent (above ++ g.name.text ∷ []) gs (none_right _ _ (none_right _ _ p)) in (
        absent above g.name.text (not_there (place_of above g.name.text) _ _ (none_left _ _ p)),
        are_before above g.name.text (global_names gs) rest,
      )

  -- The names of globals without a fault are distinct.
  pub names_distinct : (above : Scope) (gs : List tree.Declared) → first_fault k (global_marks above gs) ≡ None →
      IsDistinct bytes_eq (global_names gs)
  names_distinct above [] p = distinct_none
  names_distinct above (g ∷ gs) p =
      let q = none_right _ _ (none_right _ _ p) in
      IsDistinct-cons bytes_eq g.name.text (global_names gs)
      (are_apart above g.name.text (global_names gs) (names_absent (above ++ g.name.text ∷ []) gs q))
      (names_distinct (above ++ g.name.text ∷ []) gs q)

  -- The number of globals without a fault is within the limit.
  pub globals_few : (above : Scope) (gs : List tree.Declared) → length above ≤ 256 →
      first_fault k (global_marks above gs) ≡ None → length above + length gs ≤ 256
  globals_few above [] le p = omega (arith, le)
  globals_few above (g ∷ gs) le p =
      let lt = below_from (length above) 256 _ (otherwise_none (place_of above g.name.text) _ _ (none_left _ _ p)) in
      let n = length-append above (g.name.text ∷ []) in
      omega (
        arith,
        n,
        globals_few (above ++ g.name.text ∷ []) gs (omega (arith, n, lt))
            (none_right _ _ (none_right _ _ p)),
      )

  -- The lattice has the classes of globals without a fault.
  pub globals_known : (above : Scope) (gs : List tree.Declared) → first_fault k (global_marks above gs) ≡ None →
      HasGlobalClasses k gs
  globals_known above [] p = tt
  globals_known above (g ∷ gs) p = (
    class_there (k g.class.text) _ (none_left _ _ (none_right _ _ p)),
    globals_known (above ++ g.name.text ∷ []) gs (none_right _ _ (none_right _ _ p)),
  )

  -- Globals after others have no fault if their names are distinct and absent above.
  globals_clean_below : (above : Scope) (gs : List tree.Declared) → AreAbsent above (global_names gs) →
      IsDistinct bytes_eq (global_names gs) → length above + length gs ≤ 256 → HasGlobalClasses k gs →
      first_fault k (global_marks above gs) ≡ None
  globals_clean_below above [] a d le h = refl
  globals_clean_below above (g ∷ gs) a d le h =
      let x = g.name.text in
      let apart = IsDistinct-head bytes_eq x (global_names gs) d in
      let few : Option ScopeError =
      if nat_lt (length above) 256 then None else Some (errors.TooManyGlobals g.name.span) in
      let below : length above < 256 = omega (arith, le) in
      let name : fault_at k (marked.Global above g.name) ≡ None =
      ap (λ o. if_there o (errors.Duplicate g.name.span) few) (gone above x a.0)
      ∙ below_clean (length above) 256 (errors.TooManyGlobals g.name.span) below in
      both name (both (there_clean (k g.class.text) (errors.UnknownClass g.class.span) h.0)
      (globals_clean_below (above ++ x ∷ []) gs (are_absent above x (global_names gs) a.1 apart)
      (IsDistinct-tail bytes_eq x (global_names gs) d) (omega (arith, le, length-append above (x ∷ []))) h.1))

  -- Globals have no fault if their names are distinct, their number is within the limit and the lattice has their
  -- classes.
  pub globals_clean : (gs : List tree.Declared) → IsDistinct bytes_eq (global_names gs) → length gs ≤ 256 →
      HasGlobalClasses k gs → first_fault k (global_marks [] gs) ≡ None
  globals_clean gs d le h = globals_clean_below [] gs (nothing_absent (global_names gs)) d (omega (arith, le)) h

  -- ---- commands.

  -- The consequences for a command without a fault after n declarations.
  pub record Kept (n m : ℕ) (classes : Type 0) : Type 0 where
    pub known : classes
    pub few : n ≤ 1024 → n + m ≤ 1024

  mutual
    -- For a command without a fault, the lattice has its classes, and the number of its letvars is within the limit.
    keeps : (s : Scope) (n : ℕ) (c : tree.Command) → first_fault k (marks s n c) ≡ None →
        Kept n (locals c) (HasClasses k c)
    keeps s n (tree.Assign x e) p = record { known = tt; few = λ le. omega (arith, le) }
    keeps s n (tree.If e c d) p =
        let q = right_of k (uses s e) (marks s n c ++ marks s (n + locals c) d) p in
        let first = keeps s n c (left_of k (marks s n c) (marks s (n + locals c) d) q) in
        let second = keeps s (n + locals c) d (right_of k (marks s n c) (marks s (n + locals c) d) q) in
        record {
          known = (first.known, second.known);
          few = λ le. omega (arith, second.few (first.few le));
        }
    keeps s n (tree.While e c) p = keeps s n c (right_of k (uses s e) (marks s n c) p)
    keeps s n (tree.Letvar x class e c) p =
        let inner = s ++ x.text ∷ [] in
        let behind = none_right (fault_at k (Local n x))
        (first_fault k (class_marks class ++ (uses s e ++ marks inner (suc n) c))) p in
        let lt = below_from n 1024 _ (none_left _ _ p) in
        let q = right_of k (class_marks class) (uses s e ++ marks inner (suc n) c) behind in
        let body = keeps inner (suc n) c (right_of k (uses s e) (marks inner (suc n) c) q) in
        record {
          known = (
            class_known k class (left_of k (class_marks class) (uses s e ++ marks inner (suc n) c) behind),
            body.known,
          );
          few = λ le. omega (arith, body.few lt);
        }
    keeps s n (tree.Block b) p = all_keep s n b p

    -- For a sequence without a fault, the lattice has its classes, and the number of its letvars is within the limit.
    pub all_keep : (s : Scope) (n : ℕ) (b : tree.Body) → first_fault k (all_marks s n b) ≡ None →
        Kept n (all_locals b) (HasAllClasses k b)
    all_keep s n tree.Done p = record { known = tt; few = λ le. omega (arith, le) }
    all_keep s n (tree.Then c rest) p =
        let first = keeps s n c (left_of k (marks s n c) (all_marks s (n + locals c) rest) p) in
        let others = all_keep s (n + locals c) rest (right_of k (marks s n c) (all_marks s (n + locals c) rest) p) in
        record {
          known = (first.known, others.known);
          few = λ le. omega (arith, others.few (first.few le));
        }

  mutual
    -- A resolved command has no fault if the lattice has its classes and the number of its letvars is within the limit.
    command_clean : (s : Scope) (n : ℕ) (c : tree.Command) (cs : List Command) → Does s c cs → HasClasses k c →
        n + locals c ≤ 1024 → first_fault k (marks s n c) ≡ None
    command_clean s n (tree.Assign x e) cs m h le =
        both (ap (λ o. if_absent o (errors.Unbound x.span)) (place_is s x.text m.0 m.2)) (means_clean k s e m.1 m.3)
    command_clean s n (tree.If e c d) cs m h le =
        choose_none k s n e c d (means_clean k s e m.0 m.3)
        (command_clean s n c m.1 m.4 h.0 (omega (arith, le)))
        (command_clean s (n + locals c) d m.2 m.5 h.1 (omega (arith, le)))
    command_clean s n (tree.While e c) cs m h le =
        loop_none k s n e c (means_clean k s e m.0 m.2) (command_clean s n c m.1 m.3 h le)
    command_clean s n (tree.Letvar x class e c) cs m h le =
        local_none k s n e c x class (omega (arith, le)) (class_clean k class h.0) (means_clean k s e m.0 m.2)
        (command_clean (s ++ x.text ∷ []) (suc n) c m.1 m.3 h.1 (omega (arith, le)))
    command_clean s n (tree.Block b) cs m h le = body_clean s n b cs m h le

    -- A resolved sequence has no fault if the lattice has its classes and the number of its letvars is within the
    -- limit.
    pub body_clean : (s : Scope) (n : ℕ) (b : tree.Body) (cs : List Command) → DoesAll s b cs → HasAllClasses k b →
        n + all_locals b ≤ 1024 → first_fault k (all_marks s n b) ≡ None
    body_clean s n tree.Done cs m h le = refl
    body_clean s n (tree.Then c rest) cs m h le =
        none_in_both k (marks s n c) (all_marks s (n + locals c) rest)
        (command_clean s n c m.0 m.2 h.0 (omega (arith, le)))
        (body_clean s (n + locals c) rest m.1 m.3 h.1 (omega (arith, le)))
