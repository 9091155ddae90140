-- The last position of a name.
use Rattle.std.proofs.Common.{◌≡◌, ℕ, suc, ◌+◌, ◌-◌, ◌<◌, ◌≤◌, List, [], ◌∷◌, ◌++◌, length, map, take, get_or, Bor, refl, ap, ◌∙◌, arith, Option, Some, None, bytes_eq, if◌then◌else◌, Bool, true, false, ◌||◌, zero, sym, true≢false, is_some}
use Rattle.std.specs.List.{IsDistinct, AllByRecursion, list_any, position}
use Rattle.std.proofs.lemmas.List.Quantifiers.{position-Some}
use Rattle.std.proofs.lemmas.Map.Keys.{IsDistinct-head, IsDistinct-tail}
use Rattle.std.proofs.lemmas.Slice.Eq.{bytes_eq-Decides}
use Rattle.std.proofs.lemmas.List.{take_more, map-append, length-map, length-take-le}
use Rattle.vsi_scope.specs.Scopes.{Text, Scope}
use Rattle.vsi_scope.specs.Places.{place_of, next_place}

-- The position of a name in a list with one more name at the end.
abbrev pub behind : ℕ → Bool → Option ℕ → Option ℕ
behind n true o = Some n
behind n false o = o

-- One more name in front moves the position by one.
next_behind : (b : Bool) (n : ℕ) (o h : Option ℕ) → next_place (behind n b o) h ≡ behind (suc n) b (next_place o h)
next_behind true n o h = refl
next_behind false n o h = refl

-- A name alone is at the first position.
last_behind : (b : Bool) → next_place None (if b then Some 0 else None) ≡ behind 0 b None
last_behind true = refl
last_behind false = refl

-- The last position in a list with one more name at the end.
pub place_more : (xs : Scope) (y x : Text) →
    place_of (xs ++ y ∷ []) x ≡ behind (length xs) (bytes_eq y x) (place_of xs x)
place_more [] y x = last_behind (bytes_eq y x)
place_more (z ∷ zs) y x =
    ap (λ o. next_place o (if bytes_eq z x then Some 0 else None)) (place_more zs y x)
    ∙ next_behind (bytes_eq y x) (length zs) (place_of zs x) (if bytes_eq z x then Some 0 else None)

-- A name that equals the last has that position.
pub place_there : (xs : Scope) (y x : Text) → bytes_eq y x ≡ true → place_of (xs ++ y ∷ []) x ≡ Some (length xs)
place_there xs y x e = place_more xs y x ∙ ap (λ b. behind (length xs) b (place_of xs x)) e

-- A name that differs from the last has its position before it.
pub place_before : (xs : Scope) (y x : Text) → bytes_eq y x ≡ false → place_of (xs ++ y ∷ []) x ≡ place_of xs x
place_before xs y x e = place_more xs y x ∙ ap (λ b. behind (length xs) b (place_of xs x)) e

-- The names up to one more position.
names_more : (ns : List (Bor (List ℕ))) (i : ℕ) (d : Bor (List ℕ)) → i < length ns →
    map (λ x. x.now) (take (i + 1) ns) ≡ map (λ x. x.now) (take i ns) ++ (get_or ns i d).now ∷ []
names_more ns i d lt =
    ap (map (λ (x : Bor (List ℕ)). x.now)) (take_more ns i d lt) ∙ map-append (λ (x : Bor (List ℕ)). x.now)
    (take i ns) (get_or ns i d ∷ [])

-- The names up to a position are those before it and the one there.
names_up_to : (ns : List (Bor (List ℕ))) (n : ℕ) (d : Bor (List ℕ)) → 0 < n → n ≤ length ns →
    map (λ x. x.now) (take n ns) ≡ map (λ x. x.now) (take (n - 1) ns) ++ (get_or ns (n - 1) d).now ∷ []
names_up_to ns n d some le =
    let e : n ≡ n - 1 + 1 = omega (arith, some) in
    ap (λ k. map (λ (x : Bor (List ℕ)). x.now) (take k ns)) e ∙ names_more ns (n - 1) d (omega (arith, some, le))

-- A name that is found at a position has it as its last.
pub found_at : (ns : List (Bor (List ℕ))) (n : ℕ) (d : Bor (List ℕ)) (x : Text) → 0 < n → n ≤ length ns →
    bytes_eq (get_or ns (n - 1) d).now x ≡ true → place_of (map (λ x. x.now) (take n ns)) x ≡ Some (n - 1)
found_at ns n d x some le e =
    let l : length (map (λ (x : Bor (List ℕ)). x.now) (take (n - 1) ns)) ≡ n - 1 = length-map (take (n - 1) ns)
    (λ x. x.now) ∙ length-take-le (n - 1) ns (omega (arith, some, le)) in
    ap (λ s. place_of s x) (names_up_to ns n d some le) ∙ place_there (map (λ x. x.now) (take (n - 1) ns))
    (get_or ns (n - 1) d).now x e ∙ ap Some l

-- A name that isn't at a position has its last position before it.
pub not_at : (ns : List (Bor (List ℕ))) (n : ℕ) (d : Bor (List ℕ)) (x : Text) → 0 < n → n ≤ length ns →
    bytes_eq (get_or ns (n - 1) d).now x ≡ false →
    place_of (map (λ x. x.now) (take n ns)) x ≡ place_of (map (λ x. x.now) (take (n - 1) ns)) x
not_at ns n d x some le e =
    ap (λ s. place_of s x) (names_up_to ns n d some le) ∙ place_before (map (λ x. x.now) (take (n - 1) ns))
    (get_or ns (n - 1) d).now x e

-- ---- the position of a name among globals and letvars.

-- The position in two lists, the first with n names: the one in the second list if it is there, else the one in the
-- first.
abbrev pub in_both : ℕ → Option ℕ → Option ℕ → Option ℕ
in_both n (Some l) o = Some (n + l)
in_both n None o = o

-- One more name in front of two lists.
next_both : (n : ℕ) (o p h : Option ℕ) → next_place (in_both n o p) h ≡ in_both (suc n) o (next_place p h)
next_both n (Some l) p h = ap Some (omega arith)
next_both n None p h = refl

-- An empty list in front of a list.
none_before : (o : Option ℕ) → o ≡ in_both 0 o None
none_before (Some l) = ap Some (omega arith)
none_before None = refl

-- The last position of a name in two lists is that in the second, else that in the first.
pub place_append : (xs ys : Scope) (x : Text) →
    place_of (xs ++ ys) x ≡ in_both (length xs) (place_of ys x) (place_of xs x)
place_append [] ys x = none_before (place_of ys x)
place_append (z ∷ zs) ys x =
    ap (λ o. next_place o (if bytes_eq z x then Some 0 else None)) (place_append zs ys x)
    ∙ next_both (length zs) (place_of ys x) (place_of zs x) (if bytes_eq z x then Some 0 else None)

-- ---- the position of a name by key.

-- A lookup compares the bytes of the names.
abbrev pub same_name : Bor (List ℕ) → Bor (List ℕ) → Bool
same_name a b = bytes_eq a.now b.now

-- A comparison that holds doesn't fail.
both_ways : (b : Bool) → b ≡ true → b ≡ false → ⊥
both_ways b t f = true≢false (sym t ∙ f)

-- A comparison that can't hold fails.
fails : (b : Bool) → (b ≡ true → ⊥) → b ≡ false
fails true n = absurd (n refl)
fails false n = refl

-- Inequality of texts is symmetric.
turned : (x y : Text) → bytes_eq x y ≡ false → bytes_eq y x ≡ false
turned x y e =
    fails (bytes_eq y x) (λ t. both_ways (bytes_eq x y)
    ((bytes_eq-Decides x y).1 (sym ((bytes_eq-Decides y x).0 t))) e)

-- If a disjunction fails, its first part fails.
left_fails : (a b : Bool) → (a || b) ≡ false → a ≡ false
left_fails true b e = e
left_fails false b e = refl

-- If a disjunction fails, its second part fails.
right_fails : (a b : Bool) → (a || b) ≡ false → b ≡ false
right_fails true b e = absurd (true≢false e)
right_fails false b e = e

-- A position that exists is not none.
some_none : {l : ℕ} → Some l ≡ None → ⊥
some_none e = true≢false (ap is_some e)

-- The first position if a test succeeds.
abbrev first_if : Bool → Option ℕ
first_if b = if b then Some 0 else None

-- A test that gives no position fails.
not_here : (b : Bool) → first_if b ≡ None → b ≡ false
not_here true e = absurd (some_none e)
not_here false e = refl

-- If there is no position in a longer list, there is none in the rest and none at its front.
next_none : (o h : Option ℕ) → next_place o h ≡ None → (o ≡ None) × (h ≡ None)
next_none (Some l) h e = absurd (some_none e)
next_none None h e = (refl, e)

-- A name that differs from the first and has no position after it has no position.
none_more : (ks : Scope) (y x : Text) → bytes_eq y x ≡ false → place_of ks x ≡ None → place_of (y ∷ ks) x ≡ None
none_more ks y x d e =
    ap (λ o. next_place o (if bytes_eq y x then Some 0 else None)) e ∙ ap (λ b. if b then Some 0 else None) d

-- A name that no key equals has no position.
pub none_found : (ks : List (Bor (List ℕ))) (x : Text) → list_any (λ k. bytes_eq x k.now) ks ≡ false →
    place_of (map (λ k. k.now) ks) x ≡ None
none_found [] x e = refl
none_found (k ∷ ks) x e =
    none_more (map (λ k. k.now) ks) k.now x (turned x k.now (left_fails (bytes_eq x k.now) _ e))
    (none_found ks x (right_fails (bytes_eq x k.now) _ e))

-- A name that has no position equals no key.
pub none_there : (ks : List (Bor (List ℕ))) (x : Text) → place_of (map (λ k. k.now) ks) x ≡ None →
    list_any (λ k. bytes_eq x k.now) ks ≡ false
none_there [] x e = refl
none_there (k ∷ ks) x e =
    let first = next_none (place_of (map (λ k. k.now) ks) x) _ e in
    ap (λ b. b || list_any (λ k. bytes_eq x k.now) ks) (turned k.now x (not_here (bytes_eq k.now x) first.1))
    ∙ none_there ks x first.0

-- A key that differs from those after it has no position there.
none_behind : (k : Bor (List ℕ)) (ks : List (Bor (List ℕ))) (x : Text) → x ≡ k.now →
    AllByRecursion (λ z. same_name k z ≡ false) ks → place_of (map (λ k. k.now) ks) x ≡ None
none_behind k [] x e a = refl
none_behind k (z ∷ zs) x e a =
    none_more (map (λ k. k.now) zs) z.now x (turned x z.now (ap (λ y. bytes_eq y z.now) e ∙ a.0))
    (none_behind k zs x e a.1)

-- If keys are distinct, the one that a name equals is at the name's last position.
pub found_by_key : (ks : List (Bor (List ℕ))) (i : ℕ) (d : Bor (List ℕ)) (x : Text) → IsDistinct same_name ks →
    i < length ks → bytes_eq x (get_or ks i d).now ≡ true → place_of (map (λ k. k.now) ks) x ≡ Some i
found_by_key [] i d x u lt e = absurd (omega (arith, lt))
found_by_key (k ∷ ks) zero d x u lt e =
    let same : x ≡ k.now = (bytes_eq-Decides x k.now).0 e in
    ap (λ o. next_place o (if bytes_eq k.now x then Some 0 else None))
    (none_behind k ks x same (IsDistinct-head same_name k ks u))
    ∙ ap (λ b. if b then Some 0 else None) ((bytes_eq-Decides k.now x).1 (sym same))
found_by_key (k ∷ ks) (suc i) d x u lt e =
    ap (λ o. next_place o (if bytes_eq k.now x then Some 0 else None))
    (found_by_key ks i d x (IsDistinct-tail same_name k ks u) (omega (arith, lt)) e)

-- ---- the two together.

-- A name among the letvars has its position after the globals.
pub place_local : (gs ls : List (Bor (List ℕ))) (x : Text) (n l : ℕ) → n ≡ length gs →
    Some l ≡ place_of (map (λ k. k.now) ls) x →
    Some (n + l) ≡ place_of (map (λ k. k.now) gs ++ map (λ k. k.now) ls) x
place_local gs ls x n l e p =
    let globals = map (λ (k : Bor (List ℕ)). k.now) gs in
    ap (λ m. Some (m + l)) (e ∙ sym (length-map gs (λ (k : Bor (List ℕ)). k.now)))
    ∙ ap (λ o. in_both (length globals) o (place_of globals x)) p
    ∙ sym (place_append globals (map (λ k. k.now) ls) x)

-- A name that isn't among the letvars has the position of the global.
place_outer : (gs ls : List (Bor (List ℕ))) (x : Text) → None ≡ place_of (map (λ k. k.now) ls) x →
    place_of (map (λ k. k.now) gs) x ≡ place_of (map (λ k. k.now) gs ++ map (λ k. k.now) ls) x
place_outer gs ls x none =
    let globals = map (λ (k : Bor (List ℕ)). k.now) gs in
    ap (λ o. in_both (length globals) o (place_of globals x)) none
    ∙ sym (place_append globals (map (λ k. k.now) ls) x)

-- A name that isn't among the letvars and equals a key has the position of the key.
pub place_by_key : (gs ls : List (Bor (List ℕ))) (x : Bor (List ℕ)) (i : ℕ) →
    None ≡ place_of (map (λ k. k.now) ls) x.now → IsDistinct same_name gs → Some i ≡ position (same_name x) gs →
    Some i ≡ place_of (map (λ k. k.now) gs ++ map (λ k. k.now) ls) x.now
place_by_key gs ls x i none u e =
    let at = position-Some (same_name x) gs i x (sym e) in
    sym (found_by_key gs i x x.now u at.0 at.1) ∙ place_outer gs ls x.now none

-- A name that isn't among the letvars and equals no key has no position.
pub no_place : (gs ls : List (Bor (List ℕ))) (x : Bor (List ℕ)) → None ≡ place_of (map (λ k. k.now) ls) x.now →
    list_any (same_name x) gs ≡ false → None ≡ place_of (map (λ k. k.now) gs ++ map (λ k. k.now) ls) x.now
no_place gs ls x none e = sym (none_found gs x.now e) ∙ place_outer gs ls x.now none
