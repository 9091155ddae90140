-- The pairs of a table that remain when the allowed ones are removed.
use Rattle.std.proofs.Common.{◌≡◌, ℕ, ◌+◌, ◌<◌, Bool, true, false, List, [], ◌∷◌, ◌++◌, length, Option, Some, refl, sym, ap, ◌∙◌, subst, arith, inl, inr}
use Rattle.std.specs.Prelude.{if◌then◌else◌, Result, Ok, Err, IfOk}
use Rattle.std.specs.List.{All, Contains}
use Rattle.std.proofs.lemmas.Bool.{false≢true}
use Rattle.std.proofs.lemmas.List.Elements.{All-nil, All-cons, All-head, All-tail, All-contains, All-weaker, Contains-append_right, All-contains_itself}
use Rattle.vsi_lattice.specs.Order.{Lattice, Below}
use Rattle.vsi_types.specs.declared.rules.Profile.{Profile}
use Rattle.vsi_types.specs.Security.{Program}
use Rattle.vsi_types.specs.Walks.{declared_class}
use Rattle.vsi_types.proofs.Walking.{some_same}
use Rattle.vsi_flows.specs.declared.table.Pair.{Pair}
use Rattle.vsi_flows.specs.Table.{IsJoined, IsTold, IsTable, HasPair, Precedes, AreSorted}
use Rattle.vsi_flows.specs.Refused.{IsRefused, refused_of, AreRefused}

-- One more pair is kept if it is refused.
pub refused_push : (pairs : List Pair) (r : Pair)
    → refused_of (pairs ++ r ∷ []) ≡ refused_of pairs ++ (if r.allowed then [] else r ∷ [])
refused_push [] r = refl
refused_push (q ∷ pairs) r = by q.allowed (refused_push pairs r)
  where
    by : (b : Bool) → refused_of (pairs ++ r ∷ []) ≡ refused_of pairs ++ (if r.allowed then [] else r ∷ [])
        → (if b then refused_of (pairs ++ r ∷ []) else q ∷ refused_of (pairs ++ r ∷ []))
        ≡ (if b then refused_of pairs else q ∷ refused_of pairs) ++ (if r.allowed then [] else r ∷ [])
    by true h = h
    by false h = ap (λ l. q ∷ l) h

-- A property of each pair is a property of each refused pair.
all_refused : (Q : Pair → Type 0) (pairs : List Pair) → All Q pairs → All Q (refused_of pairs)
all_refused Q [] h = h
all_refused Q (r ∷ pairs) h = by r.allowed (all_refused Q pairs (All-tail Q r pairs h))
  where
    by : (b : Bool) → All Q (refused_of pairs) → All Q (if b then refused_of pairs else r ∷ refused_of pairs)
    by true rest = rest
    by false rest = All-cons Q r (refused_of pairs) (All-head Q r pairs h) rest

-- Each refused pair is refused.
are_down : (pairs : List Pair) → All (λ r. r.allowed ≡ false) (refused_of pairs)
are_down [] = All-nil (λ r. r.allowed ≡ false)
are_down (r ∷ pairs) = by r.allowed refl (are_down pairs)
  where
    by : (b : Bool) → r.allowed ≡ b → All (λ q. q.allowed ≡ false) (refused_of pairs)
        → All (λ q. q.allowed ≡ false) (if b then refused_of pairs else r ∷ refused_of pairs)
    by true e h = h
    by false e h = All-cons (λ q. q.allowed ≡ false) r (refused_of pairs) e h

-- The refused pairs are sorted if all pairs are.
sorted_refused : (pairs : List Pair) → AreSorted pairs → AreSorted (refused_of pairs)
sorted_refused [] s = s
sorted_refused (r ∷ pairs) s = by r.allowed (sorted_refused pairs s.1)
  where
    by : (b : Bool) → AreSorted (refused_of pairs) → AreSorted (if b then refused_of pairs else r ∷ refused_of pairs)
    by true h = h
    by false h = (all_refused (Precedes r) pairs s.0, h)

-- The head of a list is in the list.
pub head_there : (r : Pair) (l : List Pair) → Contains (r ∷ l) r
head_there r l = All-head (Contains (r ∷ l)) r l (All-contains_itself (r ∷ l))

-- An element of a list is in a longer list.
rest_there : (r q : Pair) (l : List Pair) → Contains l q → Contains (r ∷ l) q
rest_there r q l h = Contains-append_right (r ∷ []) l q h

-- A refused pair of the list is kept.
kept : (pairs : List Pair) → All (λ r. r.allowed ≡ false → Contains (refused_of pairs) r) pairs
kept [] = All-nil (λ r. r.allowed ≡ false → Contains (refused_of []) r)
kept (r ∷ pairs) = by r.allowed refl (kept pairs)
  where
    by : (b : Bool) → r.allowed ≡ b → All (λ q. q.allowed ≡ false → Contains (refused_of pairs) q) pairs → All (λ q. q.allowed ≡ false
        → Contains (if b then refused_of pairs else r ∷ refused_of pairs) q) (r ∷ pairs)
    by true e h =
        All-cons (λ q. q.allowed ≡ false → Contains (refused_of pairs) q) r pairs
        (λ d. absurd (false≢true (sym d ∙ e))) h
    by false e h =
        All-cons (λ q. q.allowed ≡ false → Contains (r ∷ refused_of pairs) q) r pairs (λ d. head_there r (refused_of pairs))
        (All-weaker (λ q. q.allowed ≡ false → Contains (refused_of pairs) q)
        (λ q. q.allowed ≡ false → Contains (r ∷ refused_of pairs) q)
        (λ q k d. rest_there r q (refused_of pairs) (k d)) pairs h)

module _ (L : Lattice) (P : Profile) (p : Program) where
  -- A pair of the table that isn't allowed is refused.
  pub refused_told : (r : Pair) → IsTold L P p r → r.allowed ≡ false → IsRefused L P p r.source r.target
  refused_told r t e = record {
    joined = record {
      apart = t.apart;
      low = t.low;
      high = t.high;
      source = t.source;
      target = t.target;
      walk = t.steps.walk;
      path = t.steps.path;
    };
    down = λ below. false≢true (sym (sym t.verdict ∙ e) ∙ below);
  }

  -- A pair of the table with two variables that are refused isn't allowed.
  not_allowed : (a b : ℕ) → IsRefused L P p a b → (r : Pair) → IsTold L P p r → r.source ≡ a → r.target ≡ b
      → r.allowed ≡ false
  not_allowed a b d r t ea eb = by r.allowed refl
    where
      by : (v : Bool) → r.allowed ≡ v → r.allowed ≡ false
      by false e = e
      by true e =
          let low : t.low ≡ d.joined.low =
          some_same t.low d.joined.low (sym t.source ∙ ap (declared_class L p) ea ∙ d.joined.source) in
          let high : t.high ≡ d.joined.high =
          some_same t.high d.joined.high (sym t.target ∙ ap (declared_class L p) eb ∙ d.joined.target) in
          let below : Below L t.low t.high = sym t.verdict ∙ e in
          absurd (d.down (subst (λ (x : ℕ). Below L x d.joined.high) low
          (subst (λ (x : ℕ). Below L t.low x) high below)))

  -- The pairs of a table that aren't allowed are its refused pairs.
  pub are_refused : (pairs : List Pair) → IsTable L P p pairs → AreRefused L P p (refused_of pairs)
  are_refused pairs table = record {
    told = told;
    refused = each (refused_of pairs) told (are_down pairs);
    sorted = sorted_refused pairs table.sorted;
    whole = λ a b d.
        let h = table.whole a b d.joined in
        let t : IsTold L P p h.0 = All-contains (IsTold L P p) pairs h.0 table.told h.1 in
        let e = not_allowed a b d h.0 t h.2 h.3 in (
          h.0,
          All-contains (λ r. r.allowed ≡ false → Contains (refused_of pairs) r) pairs h.0 (kept pairs) h.1 e,
          h.2,
          h.3,
        );
  }
    where
      told : All (IsTold L P p) (refused_of pairs)
      told = all_refused (IsTold L P p) pairs table.told

      each : (l : List Pair) → All (IsTold L P p) l → All (λ r. r.allowed ≡ false) l
          → All (λ r. IsRefused L P p r.source r.target) l
      each [] t d = All-nil (λ r. IsRefused L P p r.source r.target)
      each (r ∷ l) t d =
          All-cons (λ q. IsRefused L P p q.source q.target) r l
          (refused_told r (All-head (IsTold L P p) r l t) (All-head (λ q. q.allowed ≡ false) r l d))
          (each l (All-tail (IsTold L P p) r l t) (All-tail (λ q. q.allowed ≡ false) r l d))

  -- The remaining pairs of a table are its refused pairs.
  pub refused_table : {V E : Type 0} (pairs : List Pair) → IsTable L P p pairs → (f : V → List Pair) (o : Result V E)
      → IfOk o (λ v. f v ≡ refused_of pairs) → IfOk o (λ v. AreRefused L P p (f v))
  refused_table pairs table f (Ok v) h = subst (AreRefused L P p) (sym h) (are_refused pairs table)
  refused_table pairs table f (Err e) h = tt
