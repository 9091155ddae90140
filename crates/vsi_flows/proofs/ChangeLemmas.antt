-- The raises of the first declarations, one by one.
use Rattle.std.proofs.Common.{◌≡◌, ℕ, zero, suc, ◌+◌, ◌<◌, ◌≤◌, inl, inr, Bool, List, [], ◌∷◌, ◌++◌, map, length, get_or, Option, Some, None, refl, sym, ap, ◌∙◌, subst, arith}
use Rattle.std.specs.List.{All}
use Rattle.std.proofs.lemmas.Bool.{cases_lt}
use Rattle.std.proofs.lemmas.List.{get_or_append_left, get_or_at, append-nil, map_push, length_push}
use Rattle.std.proofs.lemmas.List.Elements.{All-nil, All-push}
use Rattle.vsi_lattice.specs.Order.{Lattice, IsLattice}
use Rattle.vsi_types.specs.declared.rules.Profile.{Profile}
use Rattle.vsi_types.specs.Security.{Program, IsWellFormed}
use Rattle.vsi_types.specs.Walks.{declared_class}
use Rattle.vsi_infer.specs.Flowing.{size_of, AreFlowsOf}
use Rattle.vsi_infer.specs.Inference.{AreClasses}
use Rattle.vsi_flows.specs.declared.least.Raise.{Raise}
use Rattle.vsi_flows.specs.Raising.{change_at, changes, change_of, IsForced, AreLeastRaises}
use Rattle.vsi_flows.specs.Reaching.{IsReached, IsSettled, IsQuiet}
use Rattle.vsi_flows.proofs.PolicyLemmas.{is_least}
use Rattle.vsi_flows.proofs.RaiseRowLemmas.{floor_within}

-- The classes of the first n declarations and their raises.
pub record AreSettled (L : Lattice) (P : Profile) (p : Program) (n : ℕ) (policy : List ℕ) (raises : List Raise)
    : Type 0 where
  pub len : length policy ≡ n
  pub reached : (b : ℕ) → b < n → IsReached L P p b (get_or policy b 0)
  pub listed : map change_of raises ≡ changes L p policy n
  pub forced : All (IsForced L P p) raises

module _ (L : Lattice) (P : Profile) (p : Program) where
  -- One more class at the end changes nothing before it.
  changes_push : (policy : List ℕ) (c n : ℕ) → n ≤ length policy
      → changes L p (policy ++ c ∷ []) n ≡ changes L p policy n
  changes_push policy c zero le = refl
  changes_push policy c (suc n) le =
      ap (λ l. l ++ change_at n (declared_class L p n) (get_or (policy ++ c ∷ []) n 0))
      (changes_push policy c n (omega (arith, le)))
      ∙ ap (λ (x : ℕ). changes L p policy n ++ change_at n (declared_class L p n) x)
      (get_or_append_left policy (c ∷ []) 0 n (omega (arith, le)))

  -- The changes of one more declaration.
  changes_more : (policy : List ℕ) (c n : ℕ) → length policy ≡ n
      → changes L p (policy ++ c ∷ []) (suc n) ≡ changes L p policy n ++ change_at n (declared_class L p n) c
  changes_more policy c n len =
      ap (λ l. l ++ change_at n (declared_class L p n) (get_or (policy ++ c ∷ []) n 0))
      (changes_push policy c n (omega (arith, len)))
      ∙ ap (λ (x : ℕ). changes L p policy n ++ change_at n (declared_class L p n) x)
      (get_or_at policy c [] 0 n len)

  -- One more class that reaches its variable.
  reached_more : (policy : List ℕ) (c n : ℕ) → length policy ≡ n
      → ((b : ℕ) → b < n → IsReached L P p b (get_or policy b 0)) → IsReached L P p n c
      → (b : ℕ) → b < suc n → IsReached L P p b (get_or (policy ++ c ∷ []) b 0)
  reached_more policy c n len all one b lt = elim (cases_lt b n) [
    | inl l ↦ subst (IsReached L P p b) (sym (get_or_append_left policy (c ∷ []) 0 b (omega (arith, l, len)))) (all b l)
    | inr ge ↦ (let e : b ≡ n = omega (arith, lt, ge) in
        subst (IsReached L P p b) (sym (get_or_at policy c [] 0 b (len ∙ sym e)))
        (subst (λ (x : ℕ). IsReached L P p x c) (sym e) one))
  ]

  -- The state before the first declaration.
  pub settled_start : (policy : List ℕ) (raises : List Raise) → policy ≡ [] → raises ≡ []
      → AreSettled L P p 0 policy raises
  settled_start policy raises e f = record {
    len = ap length e;
    reached = λ b lt. absurd (omega (arith, lt));
    listed = ap (map change_of) f;
    forced = subst (All (IsForced L P p)) (sym f) (All-nil (IsForced L P p));
  }

  module _ (n c : ℕ) (policy after : List ℕ) (raises : List Raise) (s : AreSettled L P p n policy raises)
      (is : after ≡ policy ++ c ∷ []) where
    -- One more declaration, given the rest.
    more : (raise : Option Raise) (now : List Raise) → IsSettled L P p n c raise
        → map change_of now ≡ map change_of raises ++ change_at n (declared_class L p n) c
        → All (IsForced L P p) now → AreSettled L P p (suc n) after now
    more raise now one e all = subst (λ l. AreSettled L P p (suc n) l now) (sym is) (record {
      len = omega (arith, length_push policy c, s.len);
      reached = reached_more policy c n s.len s.reached one.reached;
      listed = e ∙ ap (λ l. l ++ change_at n (declared_class L p n) c) s.listed
          ∙ sym (changes_more policy c n s.len);
      forced = all;
    })

    -- One more declaration whose class stays.
    pub settled_none : IsSettled L P p n c None → AreSettled L P p (n + 1) after raises
    settled_none one =
        let k : suc n ≡ n + 1 = omega arith in
        subst (λ (m : ℕ). AreSettled L P p m after raises) k
        (more None raises one (sym (ap (λ l. map change_of raises ++ l) one.changed ∙ append-nil (map change_of raises)))
        s.forced)

    -- One more declaration whose class rises.
    pub settled_some : (r : Raise) (now : List Raise) → IsSettled L P p n c (Some r) → now ≡ raises ++ r ∷ []
        → AreSettled L P p (n + 1) after now
    settled_some r now one e =
        let k : suc n ≡ n + 1 = omega arith in
        subst (λ (m : ℕ). AreSettled L P p m after now) k
        (more (Some r) now one (ap (map change_of) e ∙ map_push change_of raises r
        ∙ ap (λ l. map change_of raises ++ l) (sym one.changed.0))
        (subst (All (IsForced L P p)) (sym e) (All-push (IsForced L P p) raises r s.forced one.changed.1)))

-- When all declarations are settled, the raises are those to the least policy.
pub settled_all : (L : Lattice) (laws : IsLattice L) (P : Profile) (p : Program) (res : IsWellFormed L p)
    (ds : AreClasses L p.declared) (flows : ℕ → ℕ → Bool) → AreFlowsOf P p flows → (n : ℕ) → n ≡ size_of p
    → (policy : List ℕ) (raises : List Raise) → AreSettled L P p n policy raises → IsQuiet L P p
    → AreLeastRaises L P p raises
settled_all L laws P p res ds flows are n e policy raises s quiet =
    let whole = subst (λ (m : ℕ). AreSettled L P p m policy raises) e s in
    record {
      policy = policy;
      least = is_least L laws P p res ds flows are (λ x lt. floor_within L laws p res.classes ds x) policy whole.len
          whole.reached quiet;
      listed = whole.listed;
      forced = whole.forced;
    }
