-- The pairs of a table that are listed.
use Rattle.std.proofs.Common.{◌≡◌, ℕ, zero, suc, ◌≤◌, Bool, true, false, cond, List, [], ◌∷◌, ◌++◌, map, length, take, refl, sym, ap, ◌∙◌, subst, arith, eqb, eq-eqb, length-take-le}
use Rattle.std.specs.Prelude.{if◌then◌else◌, ◌&&◌, nat_le, min, Result, Ok, Err, IfOk}
use Rattle.std.specs.List.{All, filter}
use Rattle.std.proofs.lemmas.Bool.{false≢true}
use Rattle.std.proofs.lemmas.List.{map_push, length-map}
use Rattle.std.proofs.lemmas.List.Elements.{All-nil, All-cons, All-head, All-tail, All-take, All-push, All-filter, filter_passes}
use Rattle.vsi_lattice.specs.declared.lattice.Lattice as policy
use Rattle.vsi_lattice.specs.LatticeView.{order}
use Rattle.vsi_types.specs.declared.rules.Profile.{Profile}
use Rattle.vsi_types.specs.declared.rules.Step.{Step}
use Rattle.vsi_scope.specs.Program.{Resolved}
use Rattle.vsi_types.specs.Security.{program, steps_of}
use Rattle.vsi_compiler.specs.SourceView.{Source}
use Rattle.vsi_flows.specs.declared.table.Pair.{Pair}
use Rattle.vsi_flows.specs.Table.{IsTold, IsTable, Precedes, AreSorted}
use Rattle.vsi_flows.specs.Text.{IsWalkOf}
use Rattle.vsi_flows.specs.Refused.{IsRefused, AreWalked}
use Rattle.vsi_flows.specs.declared.walked.WalkedPair.{WalkedPair}
use Rattle.vsi_flows.proofs.RefusedLemmas.{refused_told}
use Rattle.vsi_flows.specs.Further.{has_ends, is_further, further_of, most_flows, first_of, is_small, IsRefusedFlow, HasOtherEnds, AreFurther, AreFirst, AreListed}

-- A part of a sorted list is sorted.
sorted_filter : (test : Pair → Bool) (pairs : List Pair) → AreSorted pairs → AreSorted (filter test pairs)
sorted_filter test [] s = s
sorted_filter test (r ∷ pairs) s = by (test r) (sorted_filter test pairs s.1)
  where
    by : (b : Bool) → AreSorted (filter test pairs) → AreSorted (cond b (r ∷ filter test pairs) (filter test pairs))
    by true h = (All-filter test (Precedes r) pairs s.0, h)
    by false h = h

sorted_take : (n : ℕ) (pairs : List Pair) → AreSorted pairs → AreSorted (take n pairs)
sorted_take zero pairs s = tt
sorted_take (suc n) [] s = tt
sorted_take (suc n) (r ∷ pairs) s = (All-take (Precedes r) n pairs s.0, sorted_take n pairs s.1)

-- A property of the pairs of flows is a property of the flows.
of_pairs : (Q : Pair → Type 0) (flows : List WalkedPair) → All Q (map (λ f. f.pair) flows)
    → All (λ f. Q f.pair) flows
of_pairs Q [] h = All-nil (λ f. Q f.pair)
of_pairs Q (f ∷ flows) h =
    All-cons (λ g. Q g.pair) f flows (All-head Q f.pair (map (λ g. g.pair) flows) h)
    (of_pairs Q flows (All-tail Q f.pair (map (λ g. g.pair) flows) h))

-- Two properties of each element.
both_all : {X : Type 0} (Q R S : X → Type 0) → ((x : X) → Q x → R x → S x) → (xs : List X) → All Q xs → All R xs
    → All S xs
both_all Q R S f [] q r = All-nil S
both_all Q R S f (x ∷ xs) q r =
    All-cons S x xs (f x (All-head Q x xs q) (All-head R x xs r))
    (both_all Q R S f xs (All-tail Q x xs q) (All-tail R x xs r))

-- The facts that the test of a listed pair finds.
passed : (v e f : Bool) → (if v then false else if e then false else f) ≡ true → (v ≡ false) × (e ≡ false)
passed true e f h = absurd (false≢true h)
passed false true f h = absurd (false≢true h)
passed false false f h = (refl, refl)

-- A pair that doesn't lead from a to b has another source or another target.
apart_ends : (a b : ℕ) (r : Pair) → has_ends a b r ≡ false → r.source ≡ a → r.target ≡ b → ⊥
apart_ends a b r h s t =
    false≢true (sym h ∙ ap (λ (x : Bool). x && eqb r.target b) (eq-eqb r.source a s) ∙ eq-eqb r.target b t)

-- At most 19 flows are listed for any text.
most_few : (n : ℕ) → most_flows n ≤ 19
most_few n = by (nat_le n 32768)
  where
    by : (b : Bool) → (if b then 19 else 7) ≤ 19
    by true = omega arith
    by false = omega arith

-- The first pairs are at most 19.
pub first_few : (n : ℕ) (pairs : List Pair) → length (first_of n pairs) ≤ 19
first_few n pairs =
    by (min (length pairs) (most_flows n)) (omega arith) (omega arith) (most_few n)
  where
    by : (m : ℕ) → m ≤ length pairs → m ≤ most_flows n → most_flows n ≤ 19 → length (take m pairs) ≤ 19
    by m within less few = omega (arith, length-take-le m pairs within, less, few)

-- A property of each pair is a property of each of the first ones that are listed.
pub all_first : (Q : Pair → Type 0) (n a b : ℕ) (pairs : List Pair) → All Q pairs
    → All Q (first_of n (further_of a b pairs))
all_first Q n a b pairs h =
    All-take Q (min (length (further_of a b pairs)) (most_flows n)) (further_of a b pairs)
    (All-filter (is_further a b) Q pairs h)

-- Each listed pair passes the test.
first_pass : (n a b : ℕ) (pairs : List Pair)
    → All (λ r. is_further a b r ≡ true) (first_of n (further_of a b pairs))
first_pass n a b pairs =
    All-take (λ r. is_further a b r ≡ true) (min (length (further_of a b pairs)) (most_flows n))
    (further_of a b pairs) (filter_passes (is_further a b) pairs)

module _ (s : Source) (P : Profile) (a b : ℕ) (flows : List WalkedPair) (first : AreFirst s P a b flows) where
  abbrev listed : List Pair
  listed = first_of (length s.text) (further_of a b first.pairs)

  -- A property of the listed pairs is a property of the flows.
  of_listed : (Q : Pair → Type 0) → All Q listed → All (λ f. Q f.pair) flows
  of_listed Q h = of_pairs Q flows (subst (All Q) (sym first.walks.kept) h)

  -- They are at most 19.
  pub are_few : length flows ≤ 19
  are_few =
      subst (λ (n : ℕ). n ≤ 19) (sym (ap length first.walks.kept) ∙ length-map flows (λ f. f.pair))
      (first_few (length s.text) (further_of a b first.pairs))

  -- Each is refused, and its steps are a walk.
  pub are_refused_flows : All (IsRefusedFlow (order s.lattice) P (program s.resolved)) flows
  are_refused_flows =
      both_all (λ f. IsRefused (order s.lattice) P (program s.resolved) f.pair.source f.pair.target)
      (λ f. IsWalkOf (steps_of P (program s.resolved)) f.pair f.steps.items)
      (IsRefusedFlow (order s.lattice) P (program s.resolved))
      (λ f r w. record { refused = r; walk = w }) flows
      (of_listed (λ r. IsRefused (order s.lattice) P (program s.resolved) r.source r.target)
      (both_all (IsTold (order s.lattice) P (program s.resolved)) (λ r. is_further a b r ≡ true)
      (λ r. IsRefused (order s.lattice) P (program s.resolved) r.source r.target)
      (λ r t e. refused_told (order s.lattice) P (program s.resolved) r t
      (passed r.allowed (has_ends a b r) _ e).0)
      listed (all_first (IsTold (order s.lattice) P (program s.resolved)) (length s.text) a b first.pairs first.table.told)
      (first_pass (length s.text) a b first.pairs)))
      first.walks.walks

  -- None leads from a to b.
  pub have_other_ends : All (HasOtherEnds a b) flows
  have_other_ends =
      of_listed (λ r. r.source ≡ a → r.target ≡ b → ⊥)
      (both_all (λ r. is_further a b r ≡ true) (λ r. is_further a b r ≡ true) (λ r. r.source ≡ a → r.target ≡ b → ⊥)
      (λ r e _. apart_ends a b r (passed r.allowed (has_ends a b r) _ e).1) listed
      (first_pass (length s.text) a b first.pairs) (first_pass (length s.text) a b first.pairs))

  -- They are sorted.
  pub are_sorted : AreSorted (map (λ f. f.pair) flows)
  are_sorted =
      subst AreSorted (sym first.walks.kept)
      (sorted_take (min (length (further_of a b first.pairs)) (most_flows (length s.text))) (further_of a b first.pairs)
      (sorted_filter (is_further a b) first.pairs first.table.sorted))

-- The listed pairs of a table, where the parts of the source are given by equations.
pub further_made : {V E : Type 0} (s : Source) (P : Profile) (a b : ℕ) (l : policy.Lattice) (r : Resolved)
    → l ≡ s.lattice → r ≡ s.resolved → (pairs items : List Pair) → items ≡ pairs → IsTable (order l) P (program r) pairs
    → (f : V → List Pair) (o : Result V E) → IfOk o (λ v. f v ≡ further_of a b items)
    → IfOk o (λ v. AreFurther s P a b (f v))
further_made s P a b l r same is pairs items read table f (Ok v) h = record {
  pairs = pairs;
  table =
      subst (λ (m : policy.Lattice). IsTable (order m) P (program s.resolved) pairs) same
      (subst (λ (q : Resolved). IsTable (order l) P (program q) pairs) is table);
  same = h ∙ ap (further_of a b) read;
}
further_made s P a b l r same is pairs items read table f (Err e) h = tt

-- The pairs of the table that are listed are true.
pub further_told : (s : Source) (P : Profile) (a b : ℕ) (further : List Pair) → AreFurther s P a b further
    → All (IsTold (order s.lattice) P (program s.resolved)) further
further_told s P a b further x =
    subst (All (IsTold (order s.lattice) P (program s.resolved))) (sym x.same)
    (All-filter (is_further a b) (IsTold (order s.lattice) P (program s.resolved)) x.pairs x.table.told)

-- The first of the pairs are true if all are.
pub first_told : (Q : Pair → Type 0) (n : ℕ) (further items first : List Pair) → items ≡ further
    → first ≡ first_of n items → All Q further → All Q first
first_told Q n further items first same cut h =
    subst (All Q) (sym cut) (All-take Q (min (length items) (most_flows n)) items (subst (All Q) (sym same) h))

-- The walks of the first pairs are those of the first listed ones.
pub first_walks : {V E : Type 0} (s : Source) (P : Profile) (a b : ℕ) (r : Resolved) → r ≡ s.resolved
    → (text : List ℕ) → text ≡ s.text → (further items first : List Pair) → items ≡ further
    → first ≡ first_of (length text) items → AreFurther s P a b further → (f : V → List WalkedPair) (o : Result V E)
    → IfOk o (λ v. AreWalked (steps_of P (program r)) first (f v)) → IfOk o (λ v. AreFirst s P a b (f v))
first_walks s P a b r is text read further items first same cut x f (Ok v) h = record {
  pairs = x.pairs;
  table = x.table;
  walks =
      subst (λ (ps : List Pair). AreWalked (steps_of P (program s.resolved)) ps (f v))
      (cut ∙ ap (λ t. first_of (length t) items) read ∙ ap (first_of (length s.text)) same
      ∙ ap (first_of (length s.text)) x.same)
      (subst (λ (q : Resolved). AreWalked (steps_of P (program q)) first (f v)) is h);
}
first_walks s P a b r is text read further items first same cut x f (Err e) h = tt

-- If a property holds of no flow and of the first ones, it holds of the listed ones.
of_listing : (Q : List WalkedPair → Type 0) (s : Source) (P : Profile) (a b : ℕ) (flows : List WalkedPair)
    → AreListed s P a b flows → Q [] → (AreFirst s P a b flows → Q flows) → Q flows
of_listing Q s P a b flows x none some = by (is_small (program s.resolved) (length s.text)) x.small x.large
  where
    by : (b' : Bool) → (b' ≡ true → AreFirst s P a b flows) → (b' ≡ false → flows ≡ []) → Q flows
    by true small large = some (small refl)
    by false small large = subst Q (sym (large refl)) none

-- The test of a source's program and text answers the same for parts that are equal to these.
small_same : (s : Source) (r : Resolved) (text : List ℕ) (b : Bool) → r ≡ s.resolved → text ≡ s.text
    → b ≡ is_small (program r) (length text) → is_small (program s.resolved) (length s.text) ≡ b
small_same s r text b is read e =
    sym (e ∙ ap (λ (q : Resolved). is_small (program q) (length text)) is
    ∙ ap (λ (t : List ℕ). is_small (program s.resolved) (length t)) read)

-- The first flows are listed where the program and its text are small.
pub listed_first : {V E : Type 0} (s : Source) (P : Profile) (a b : ℕ) (r : Resolved) (text : List ℕ) (b' : Bool)
    → r ≡ s.resolved → text ≡ s.text → b' ≡ is_small (program r) (length text) → b' ≡ true
    → (f : V → List WalkedPair) (o : Result V E) → IfOk o (λ v. AreFirst s P a b (f v))
    → IfOk o (λ v. AreListed s P a b (f v))
listed_first s P a b r text b' is read e holds f (Ok v) h = record {
  small = λ _. h;
  large = λ other. absurd (false≢true (sym other ∙ small_same s r text b' is read e ∙ holds));
}
listed_first s P a b r text b' is read e holds f (Err _) h = tt

-- None is where one of them is large.
pub listed_none : (s : Source) (P : Profile) (a b : ℕ) (r : Resolved) (text : List ℕ) (b' : Bool) → r ≡ s.resolved
    → text ≡ s.text → b' ≡ is_small (program r) (length text) → b' ≡ false → (flows : List WalkedPair)
    → flows ≡ [] → AreListed s P a b flows
listed_none s P a b r text b' is read e fails flows none = record {
  small = λ other. absurd (false≢true (sym fails ∙ sym (small_same s r text b' is read e) ∙ other));
  large = λ _. none;
}

-- The four facts about the listed flows of an answer.
pub listed_few : {V E : Type 0} (s : Source) (P : Profile) (a b : ℕ) (f : V → List WalkedPair) (o : Result V E)
    → IfOk o (λ v. AreListed s P a b (f v)) → IfOk o (λ v. length (f v) ≤ 19)
listed_few s P a b f (Ok v) h =
    of_listing (λ flows. length flows ≤ 19) s P a b (f v) h (omega arith) (are_few s P a b (f v))
listed_few s P a b f (Err e) h = tt

pub listed_refused : {V E : Type 0} (s : Source) (P : Profile) (a b : ℕ) (f : V → List WalkedPair) (o : Result V E)
    → IfOk o (λ v. AreListed s P a b (f v))
    → IfOk o (λ v. All (IsRefusedFlow (order s.lattice) P (program s.resolved)) (f v))
listed_refused s P a b f (Ok v) h =
    of_listing (All (IsRefusedFlow (order s.lattice) P (program s.resolved))) s P a b (f v) h
    (All-nil (IsRefusedFlow (order s.lattice) P (program s.resolved))) (are_refused_flows s P a b (f v))
listed_refused s P a b f (Err e) h = tt

pub listed_others : {V E : Type 0} (s : Source) (P : Profile) (a b : ℕ) (f : V → List WalkedPair) (o : Result V E)
    → IfOk o (λ v. AreListed s P a b (f v)) → IfOk o (λ v. All (HasOtherEnds a b) (f v))
listed_others s P a b f (Ok v) h =
    of_listing (All (HasOtherEnds a b)) s P a b (f v) h (All-nil (HasOtherEnds a b)) (have_other_ends s P a b (f v))
listed_others s P a b f (Err e) h = tt

pub listed_sorted : {V E : Type 0} (s : Source) (P : Profile) (a b : ℕ) (f : V → List WalkedPair) (o : Result V E)
    → IfOk o (λ v. AreListed s P a b (f v)) → IfOk o (λ v. AreSorted (map (λ g. g.pair) (f v)))
listed_sorted s P a b f (Ok v) h =
    of_listing (λ flows. AreSorted (map (λ g. g.pair) flows)) s P a b (f v) h tt (are_sorted s P a b (f v))
listed_sorted s P a b f (Err e) h = tt
