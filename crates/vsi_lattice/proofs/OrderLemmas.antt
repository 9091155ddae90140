-- Rows that represent the order of pairs, and the consequences of their intersections.
use Rattle.std.proofs.Common.{◌≡◌, ℕ, ◌<◌, ◌≤◌, Bool, true, List, length, sym, ◌∙◌, subst, arith, inl, inr}
use Rattle.std.proofs.lemmas.Bool.{cases_eq}
use Rattle.vsi_lattice.specs.Order.{IsJoin, IsMeet, HasJoin, HasMeet}
use Rattle.vsi_lattice.specs.Laws.{IsLawful, meet_of_join, join_of_meet}
use Rattle.vsi_lattice.specs.Pairs.{Leq, Says, IsCycle, IsFirstPair, MakesLattice, IsDeclared}
use Rattle.vsi_lattice.specs.Rows.{row_has, row_lattice, IsPreorder, IsClosureOf, IsTransposed, IsCommon, LacksCommon, HasCommon, AllHaveCommon, AreTied, IsMaskOrder}
use Rattle.vsi_lattice.specs.OrderFaults.{IsAcyclic}
use Rattle.vsi_lattice.proofs.ClosureLemmas.{complete}
use Rattle.vsi_lattice.proofs.JoinLemmas.{common_is_join, join_is_common}

-- A closure is a preorder.
pub closure_preorder : {count : ℕ} {pairs : List (ℕ × ℕ)} {has : ℕ → ℕ → Bool} → IsClosureOf count pairs has →
    IsPreorder count has
closure_preorder w = record { within = w.within; reflexive = w.reflexive; transitive = w.transitive }

-- The reverse of a preorder is a preorder.
pub dual_preorder : {count : ℕ} {up down : ℕ → ℕ → Bool} → IsTransposed up down → IsPreorder count up →
    IsPreorder count down
dual_preorder t w = record {
  within = λ a b h. let p = w.within b a (sym (t b a) ∙ h) in (p.1, p.0);
  reflexive = λ a h. t a a ∙ w.reflexive a h;
  transitive = λ a b c h k. t c a ∙ w.transitive c b a (sym (t c b) ∙ k) (sym (t b a) ∙ h);
}

-- A join of an equivalent relation.
pub join_along : {count : ℕ} {R S : ℕ → ℕ → Type 0} {a b c : ℕ} → ((x y : ℕ) → x < count → y < count → R x y →
    S x y) → ((x y : ℕ) → x < count → y < count → S x y → R x y)
    → a < count → b < count → IsJoin count R a b c → IsJoin count S a b c
join_along f g ha hb j = record {
  within = j.within;
  left = f _ _ ha j.within j.left;
  right = f _ _ hb j.within j.right;
  least = λ d hd p q. f _ _ j.within hd (j.least d hd (g _ _ ha hd p) (g _ _ hb hd q));
}

-- A first pair of an equivalent fault.
pub first_along : {count : ℕ} {F G : ℕ → ℕ → Type 0} {a b : ℕ} → ((x y : ℕ) → x < count → y < count → F x y →
    G x y) → ((x y : ℕ) → x < count → y < count → G x y → F x y)
    → IsFirstPair count F a b → IsFirstPair count G a b
first_along f g w = record {
  a_within = w.a_within;
  b_within = w.b_within;
  holds = f _ _ w.a_within w.b_within w.holds;
  earlier = λ x y hx hy h. w.earlier x y hx hy (g x y (omega (arith, hx, w.a_within)) hy h);
  before = λ y hy h. w.before y hy (g _ y w.a_within (omega (arith, hy, w.b_within)) h);
}

-- The rows represent a relation on the classes.
pub record Hold (count : ℕ) (rows : List ℕ) (R : ℕ → ℕ → Type 0) : Type 0 where
  pub len : length rows ≡ count
  pub preorder : IsPreorder count (row_has rows)
  pub to : (x y : ℕ) → x < count → y < count → row_has rows x y ≡ true → R x y
  pub from : (x y : ℕ) → x < count → y < count → R x y → row_has rows x y ≡ true

-- A common row gives a join.
pub join_from : {count : ℕ} {rows : List ℕ} {R : ℕ → ℕ → Type 0} {a b : ℕ} → Hold count rows R → a < count →
    b < count → HasCommon rows a b → HasJoin count R a b
join_from {count} {rows} {R} {a} {b} w ha hb h = (
  h.0,
  join_along w.to w.from ha hb (common_is_join count rows a b h.0 w.preorder
      (subst (λ n. h.0 < n) w.len h.1) h.2),
)

-- The converse.
pub from_join : {count : ℕ} {rows : List ℕ} {R : ℕ → ℕ → Type 0} {a b : ℕ} → Hold count rows R → a < count →
    b < count → HasJoin count R a b → HasCommon rows a b
from_join {count} {rows} {R} {a} {b} w ha hb h = (
  h.0,
  subst (λ n. h.0 < n) (sym w.len) h.1.within,
  join_is_common count rows a b h.0 w.preorder
      (join_along w.from w.to ha hb h.1),
)

-- The first two classes without a common row are the first without a join.
pub first_no_join : {count : ℕ} {rows : List ℕ} {R : ℕ → ℕ → Type 0} {a b : ℕ} → Hold count rows R →
    IsFirstPair (length rows) (LacksCommon rows) a b → IsFirstPair count (λ x y. ¬ (HasJoin count R x y)) a b
first_no_join {count} {rows} {R} {a} {b} w p =
    first_along (λ x y hx hy none j. let h = from_join w hx hy j in
    none h.0 h.1 h.2) (λ x y hx hy none c lt e. none (join_from w hx hy (c, lt, e)))
    (subst (λ n. IsFirstPair n (LacksCommon rows) a b) w.len p)

-- If all have common rows, all have joins.
pub all_joins : {count : ℕ} {rows : List ℕ} {R : ℕ → ℕ → Type 0} → Hold count rows R →
    ((a b : ℕ) → a < length rows → b < length rows → HasCommon rows a b) → (a b : ℕ) → a < count → b < count →
    HasJoin count R a b
all_joins w h a b ha hb =
    join_from w ha hb (h a b (subst (λ n. a < n) (sym w.len) ha) (subst (λ n. b < n) (sym w.len) hb))

module _ (count : ℕ) (pairs : List (ℕ × ℕ)) (up down : List ℕ) (w : IsClosureOf count pairs (row_has up))
    (t : IsTransposed (row_has up) (row_has down)) (eu : length up ≡ count) (ed : length down ≡ count) where
  -- The rows represent the declared order.
  pub up_holds : Hold count up (Leq pairs)
  up_holds = record {
    len = eu;
    preorder = closure_preorder w;
    to = λ x y _ _ h. w.sound x y h;
    from =
        λ x y hx _ h. complete w hx h;
  }

  -- The reversed rows represent the reversed order.
  pub down_holds : Hold count down (λ x y. Leq pairs y x)
  down_holds = record {
    len = ed;
    preorder = dual_preorder t (closure_preorder w);
    to = λ x y _ _ h. w.sound y x (sym (t y x) ∙ h);
    from = λ x y _ hy h. t y x ∙ complete w hy h;
  }

  -- Tied classes are a cycle.
  cycle_from : (a b : ℕ) → AreTied up down a b → IsCycle count (Leq pairs) a b
  cycle_from a b h = (h.0, w.sound a b h.1, w.sound b a (sym (t b a) ∙ h.2))

  -- The converse.
  from_cycle : (a b : ℕ) → a < count → b < count → IsCycle count (Leq pairs) a b → AreTied up down a b
  from_cycle a b ha hb h = (h.0, complete w ha h.1, t b a ∙ complete w hb h.2)

  -- The first tied classes are the first cycle.
  pub first_cycle : (a b : ℕ) → IsFirstPair (length up) (AreTied up down) a b →
      IsFirstPair count (IsCycle count (Leq pairs)) a b
  first_cycle a b p = first_along (λ x y hx hy h. cycle_from x y h) (λ x y hx hy h. from_cycle x y hx hy h)
      (subst (λ n. IsFirstPair n (AreTied up down) a b) eu p)

  -- Without tied classes there is no cycle.
  pub acyclic : ((a b : ℕ) → a < length up → b < length up → ¬ (AreTied up down a b)) → IsAcyclic count pairs
  acyclic h a b ha hb c = h a b (subst (λ n. a < n) (sym eu) ha) (subst (λ n. b < n) (sym eu) hb)
      (from_cycle a b ha hb c)

  -- The first two classes without a common row downwards are the first without a meet.
  pub no_meet : (a b : ℕ) → IsFirstPair (length down) (LacksCommon down) a b →
      IsFirstPair count (λ x y. ¬ (HasMeet count (Leq pairs) x y)) a b
  no_meet a b p = first_along {F = λ x y. ¬ (HasJoin count (λ x y. Leq pairs y x) x y)}
      (λ x y _ _ none j. none (join_of_meet j)) (λ x y _ _ none j. none (meet_of_join j)) (first_no_join down_holds p)

  -- The pairs make a lattice.
  pub is_lattice : ((a b : ℕ) → a < length up → b < length up → ¬ (AreTied up down a b)) →
      ((a b : ℕ) → a < length up → b < length up → HasCommon up a b) →
      ((a b : ℕ) → a < length down → b < length down → HasCommon down a b) → MakesLattice count (Leq pairs)
  is_lattice f g h = record {
    acyclic = acyclic f;
    joins = all_joins up_holds g;
    meets =
        λ a b ha hb. meet_of_join (all_joins down_holds h a b ha hb);
  }

  -- The rows represent the declared order.
  pub is_declared : (bottom top : ℕ) → IsDeclared count pairs (row_lattice up bottom top)
  is_declared bottom top = record {
    count_is = eu;
    sound = λ a b _ _ h. w.sound a b h;
    complete =
        λ a b ha _ h. complete w ha h;
  }

  -- The classes keep the order that the pairs declare upwards and downwards.
  pub mask_order : 0 < count → count ≤ 64 → AllHaveCommon up → AllHaveCommon down → IsMaskOrder up down
  mask_order pos small joins meets =
      let e : length down ≡ length up = ed ∙ sym eu in
      record {
        some = subst (λ n. 0 < n) (sym eu) pos;
        small = subst (λ n. n ≤ 64) (sym eu) small;
        len = e;
        preorder = subst (λ n. IsPreorder n (row_has up)) (sym eu) (closure_preorder w);
        dual = t;
        joins = λ a b ha hb none. let h = joins a b ha hb in none h.0 h.1 h.2;
        meets = λ a b ha hb none.
            let h = meets a b (subst (λ n. a < n) (sym e) ha) (subst (λ n. b < n) (sym e) hb) in none h.0 h.1 h.2;
      }

  -- The order of the rows is lawful.
  pub mask_lawful : {bottom top : ℕ} → ((a b : ℕ) → a < length up → b < length up → ¬ (AreTied up down a b))
      → AllHaveCommon up → AllHaveCommon down → bottom < length down
      → ((a : ℕ) → a < length down → row_has down a bottom ≡ true) → top < length up
      → ((a : ℕ) → a < length up → row_has up a top ≡ true) → IsLawful (row_lattice up bottom top)
  mask_lawful {bottom} tied joins meets bw bl tw tg =
      let e : length down ≡ length up = ed ∙ sym eu in
      let p : IsPreorder (length up) (row_has up) =
      subst (λ n. IsPreorder n (row_has up)) (sym eu) (closure_preorder w) in
      let q : IsPreorder (length down) (row_has down) =
      subst (λ n. IsPreorder n (row_has down)) (sym e) (dual_preorder t p) in
      record {
        reflexive = p.reflexive;
        antisymmetric = λ a b ha hb f g. elim (cases_eq a b) [
          | inl same ↦ same
          | inr n ↦
              absurd (tied a b ha hb (n, f, t b a ∙ g))
        ];
        transitive = λ a b c _ _ _ f g. p.transitive a b c f g;
        joins = λ a b ha hb none. let h = joins a b ha hb in
            none (h.0, common_is_join (length up) up a b h.0 p h.1 h.2);
        meets = λ a b ha hb none.
            let h = meets a b (subst (λ n. a < n) (sym e) ha) (subst (λ n. b < n) (sym e) hb) in
            let j = common_is_join (length down) down a b h.0 q h.1 h.2 in
            none (
              h.0,
              record {
                within = subst (λ n. h.0 < n) e j.within;
                left = sym (t h.0 a) ∙ j.left;
                right = sym (t h.0 b) ∙ j.right;
                greatest = λ d hd f g. sym (t d h.0) ∙ j.least d (subst (λ n. d < n) (sym e) hd) (t d a ∙ f) (t d b
                    ∙ g);
              },
            );
        bottom_within = subst (λ n. bottom < n) e bw;
        bottom_least = λ a h. sym (t bottom a) ∙ bl a (subst (λ n. a < n) (sym e) h);
        top_within = tw;
        top_greatest = tg;
      }

module _ (above below : List ℕ) (w : IsMaskOrder above below) where
  -- The class that the code finds is the join.
  pub mask_join : (now : List ℕ) (a b a' b' c r : ℕ) → now ≡ above → a' ≡ a → b' ≡ b → r ≡ c → c < length now →
      IsCommon now a' b' c → IsJoin (length above) (Says (row_has above)) a b r
  mask_join now a b a' b' c r en ea eb er lt h =
      let lt' : c < length above = subst (λ l. c < length l) en lt in
      let h' : IsCommon above a b c =
      subst (λ l. IsCommon l a b c) en (subst (λ x. IsCommon now a x c) eb
      (subst (λ x. IsCommon now x b' c) ea h)) in
      subst (λ x. IsJoin (length above) (Says (row_has above)) a b x) (sym er)
      (common_is_join (length above) above a b c w.preorder lt' h')

  -- The class that the code finds downwards is the meet.
  pub mask_meet : (now : List ℕ) (a b a' b' c r : ℕ) → now ≡ below → a' ≡ a → b' ≡ b → r ≡ c → c < length now →
      IsCommon now a' b' c → IsMeet (length above) (Says (row_has above)) a b r
  mask_meet now a b a' b' c r en ea eb er lt h =
      let lt' : c < length above = subst (λ n. c < n) w.len (subst (λ l. c < length l) en lt) in
      let h' : IsCommon below a b c =
      subst (λ l. IsCommon l a b c) en (subst (λ x. IsCommon now a x c) eb
      (subst (λ x. IsCommon now x b' c) ea h)) in
      let j = common_is_join (length above) below a b c (dual_preorder w.dual w.preorder) lt' h' in
      subst (λ x. IsMeet (length above) (Says (row_has above)) a b x) (sym er) (record {
        within = lt';
        left = sym (w.dual c a) ∙ j.left;
        right = sym (w.dual c b) ∙ j.right;
        greatest = λ d hd p q. sym (w.dual d c) ∙ j.least d hd (w.dual d a ∙ p) (w.dual d b ∙ q);
      })

-- A fact about two classes holds for classes equal to them.
pub at_pair : (P : ℕ → ℕ → Type 0) {a b a' b' : ℕ} → a' ≡ a → b' ≡ b → P a b → P a' b'
at_pair P {a} {b} {a'} {b'} e f h = subst (λ x. P x b') (sym e) (subst (λ y. P a y) (sym f) h)
