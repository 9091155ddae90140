-- Tests that represent the order of pairs, upwards and downwards.
use Rattle.std.proofs.Common.{◌≡◌, ℕ, ◌<◌, Bool, List, refl, sym, ◌∙◌, inl, inr}
use Rattle.std.proofs.lemmas.Bool.{cases_eq}
use Rattle.vsi_lattice.specs.Order.{HasJoin, HasMeet}
use Rattle.vsi_lattice.specs.Pairs.{Leq, Says, IsCycle, IsFirstPair, MakesLattice, IsDeclared}
use Rattle.vsi_lattice.specs.Laws.{IsLawful, meet_of_join, join_of_meet}
use Rattle.vsi_lattice.specs.Rows.{IsClosureOf, IsTransposed}
use Rattle.vsi_lattice.specs.OrderFaults.{NamesFault, IsAcyclic, AllJoin}
use Rattle.vsi_lattice.specs.declared.order.OrderError.{OrderError}
use Rattle.vsi_lattice.specs.declared.order.OrderError.TheVariants as errors
use Rattle.vsi_lattice.proofs.ClosureLemmas.{complete}
use Rattle.vsi_lattice.proofs.OrderLemmas.{join_along, first_along}

-- A lattice has no fault.
pub refuted : {count : ℕ} {pairs : List (ℕ × ℕ)} (e : OrderError) → NamesFault count pairs e →
    MakesLattice count (Leq pairs) →
    e ≡ errors.Memory
refuted errors.Memory h l = refl
refuted (errors.Cycle a b) h l = absurd (l.acyclic a b h.a_within h.b_within h.holds)
refuted (errors.NoJoin a b) h l = absurd (h.1.holds (l.joins a b h.1.a_within h.1.b_within))
refuted (errors.NoMeet a b) h l = absurd (h.2.holds (l.meets a b h.2.a_within h.2.b_within))

-- A join of the reversed order is a meet.
pub meet_from : {count : ℕ} {up down : ℕ → ℕ → Bool} {a b : ℕ} → IsTransposed up down →
    HasJoin count (Says down) a b →
    HasMeet count (Says up) a b
meet_from {a = a} {b = b} t (c, j) = (
  c,
  record {
    within = j.within;
    left = sym (t c a) ∙ j.left;
    right = sym (t c b) ∙ j.right;
    greatest = λ d hd p q. sym (t d c) ∙ j.least d hd (t d a ∙ p) (t d b ∙ q);
  },
)

-- The converse.
pub join_from_meet : {count : ℕ} {up down : ℕ → ℕ → Bool} {a b : ℕ} → IsTransposed up down →
    HasMeet count (Says up) a b →
    HasJoin count (Says down) a b
join_from_meet {a = a} {b = b} t (c, m) = (
  c,
  record {
    within = m.within;
    left = t c a ∙ m.left;
    right = t c b ∙ m.right;
    least = λ d hd p q. t d c ∙ m.greatest d hd (sym (t d a) ∙ p) (sym (t d b) ∙ q);
  },
)

module _ {count : ℕ} {pairs : List (ℕ × ℕ)} {up down : ℕ → ℕ → Bool} (w : IsClosureOf count pairs up)
    (t : IsTransposed up down) where
  -- If the test holds, the order is declared.
  declared_up : (x y : ℕ) → x < count → y < count → Says up x y → Leq pairs x y
  declared_up x y hx hy h = w.sound x y h

  -- The converse.
  says_up : (x y : ℕ) → x < count → y < count → Leq pairs x y → Says up x y
  says_up x y hx hy h = complete w hx h

  -- If the reversed test holds, the reversed order is declared.
  declared_down : (x y : ℕ) → x < count → y < count → Says down x y → Leq pairs y x
  declared_down x y hx hy h = w.sound y x (sym (t y x) ∙ h)

  -- The converse.
  says_down : (x y : ℕ) → x < count → y < count → Leq pairs y x → Says down x y
  says_down x y hx hy h = t y x ∙ complete w hy h

  -- A join by the test is a declared one.
  join_up : (a b : ℕ) → a < count → b < count → HasJoin count (Says up) a b → HasJoin count (Leq pairs) a b
  join_up a b ha hb h = (h.0, join_along declared_up says_up ha hb h.1)

  -- The converse.
  up_join : (a b : ℕ) → a < count → b < count → HasJoin count (Leq pairs) a b → HasJoin count (Says up) a b
  up_join a b ha hb h = (h.0, join_along says_up declared_up ha hb h.1)

  -- A join by the reversed test is a declared meet.
  meet_down : (a b : ℕ) → a < count → b < count → HasJoin count (Says down) a b → HasMeet count (Leq pairs) a b
  meet_down a b ha hb h = meet_of_join (h.0, join_along declared_down says_down ha hb h.1)

  -- The converse.
  down_meet : (a b : ℕ) → a < count → b < count → HasMeet count (Leq pairs) a b → HasJoin count (Says down) a b
  down_meet a b ha hb h = let j = join_of_meet h in (j.0, join_along says_down declared_down ha hb j.1)

  -- The first cycle by the test is the first declared one.
  pub first_declared_cycle : {a b : ℕ} → IsFirstPair count (IsCycle count (Says up)) a b →
      IsFirstPair count (IsCycle count (Leq pairs)) a b
  first_declared_cycle h = first_along (λ x y hx hy c. (c.0, declared_up x y hx hy c.1, declared_up y x hy hx c.2))
      (λ x y hx hy c. (c.0, says_up x y hx hy c.1, says_up y x hy hx c.2)) h

  -- The first classes without a join by the test are the first declared ones.
  pub first_declared_no_join : {a b : ℕ} → IsFirstPair count (λ x y. ¬ (HasJoin count (Says up) x y)) a b
      → IsFirstPair count (λ x y. ¬ (HasJoin count (Leq pairs) x y)) a b
  first_declared_no_join h =
      first_along (λ x y hx hy n j. n (up_join x y hx hy j)) (λ x y hx hy n j. n (join_up x y hx hy j)) h

  -- The first classes without a meet by the test are the first declared ones.
  pub first_declared_no_meet : {a b : ℕ} → IsFirstPair count (λ x y. ¬ (HasJoin count (Says down) x y)) a b
      → IsFirstPair count (λ x y. ¬ (HasMeet count (Leq pairs) x y)) a b
  first_declared_no_meet h =
      first_along (λ x y hx hy n j. n (down_meet x y hx hy j)) (λ x y hx hy n j. n (meet_down x y hx hy j)) h

  -- If the test has no cycle, there is no declared one.
  pub no_declared_cycle : ((x y : ℕ) → x < count → y < count → ¬ (IsCycle count (Says up) x y)) →
      IsAcyclic count pairs
  no_declared_cycle h x y hx hy c = h x y hx hy (c.0, says_up x y hx hy c.1, says_up y x hy hx c.2)

  -- All joins by the test are declared.
  pub all_declared_joins : ((x y : ℕ) → x < count → y < count → HasJoin count (Says up) x y) → AllJoin count pairs
  all_declared_joins h x y hx hy = join_up x y hx hy (h x y hx hy)

  -- The pairs make a lattice.
  pub makes_lattice : ((x y : ℕ) → x < count → y < count → ¬ (IsCycle count (Says up) x y))
      → ((x y : ℕ) → x < count → y < count → HasJoin count (Says up) x y) → ((x y : ℕ) → x < count → y < count →
      HasJoin count (Says down) x y)
      → MakesLattice count (Leq pairs)
  makes_lattice f g h = record {
    acyclic = no_declared_cycle f;
    joins = all_declared_joins g;
    meets = λ x y hx hy. meet_down x y hx hy (h x y hx hy);
  }

  -- The test is the declared order.
  pub is_declared_by : (bottom top : ℕ) → IsDeclared count pairs (record {
    count = count;
    leq = up;
    bottom =
        bottom;
    top = top;
  })
  is_declared_by bottom top = record { count_is = refl; sound = declared_up; complete = says_up }

  -- The order of the test is lawful.
  pub lawful_by : {bottom top : ℕ} → ((x y : ℕ) → x < count → y < count → ¬ (IsCycle count (Says up) x y))
      → ((x y : ℕ) → x < count → y < count → HasJoin count (Says up) x y) → ((x y : ℕ) → x < count → y < count →
      HasJoin count (Says down) x y)
      → bottom < count → ((a : ℕ) → a < count → Says down a bottom) → top < count →
      ((a : ℕ) → a < count → Says up a top)
      → IsLawful (record { count = count; leq = up; bottom = bottom; top = top })
  lawful_by {bottom} f g h bw bl tw tg = record {
    reflexive = w.reflexive;
    antisymmetric = λ a b ha hb p q. elim (cases_eq a b) [ inl same ↦ same | inr n ↦ absurd (f a b ha hb (n, p, q)) ];
    transitive = λ a b c _ _ _ p q. w.transitive a b c p q;
    joins = λ a b ha hb none. none (g a b ha hb);
    meets = λ a b ha hb none. none (meet_from t (h a b ha hb));
    bottom_within = bw;
    bottom_least = λ a ha. sym (t bottom a) ∙ bl a ha;
    top_within = tw;
    top_greatest = tg;
  }
