-- The lattice with a mark above all classes, and the words that have it.
use Rattle.std.proofs.Common.{◌≡◌, ℕ, ◌<◌, refl, sym, ap, ◌∙◌, subst, ⊎_elim, arith}
use Rattle.std.specs.Prelude.{◌⊎◌, ◌==◌, cond, true, false, slice_index}
use Rattle.std.proofs.lemmas.Bool.{cases_lt, false≢true}
use Rattle.vsi_lattice.specs.Order.{Lattice, IsLattice, IsClass, Below, IsJoin, HasJoin, HasMeet}
use Rattle.vsi_scope.specs.Language.{Expression, Number, Location, Operator}
use Rattle.vsi_types.specs.Typing.{Locations}
use Rattle.vsi_steps.specs.declared.labels.Rule.{Rule}
use Rattle.vsi_steps.specs.declared.labels.Rule.TheVariants.{NoSensitiveUpgrade, PermissiveUpgrade}
use Rattle.vsi_steps.specs.Labels.{HasLabel, IsStored, with_mark, labelling, IsMark, ReadsNoMark}

-- A number is equal to itself.
same_number : (n : ℕ) → (n == n) ≡ true
same_number n = grind arith

-- A smaller number isn't equal.
smaller_number : (a n : ℕ) → a < n → (a == n) ≡ false
smaller_number a n lt = grind arith

module _ (L : Lattice) where
  -- Below the mark is every label.
  below_mark : (a : ℕ) → Below (with_mark L) a L.count
  below_mark a = ap (λ x. cond x true (cond (a == L.count) false (L.leq a L.count))) (same_number L.count)

  -- The order of classes is the same as before.
  order_same : (a b : ℕ) → IsClass L a → IsClass L b → (with_mark L).leq a b ≡ L.leq a b
  order_same a b ka kb =
      ap (λ x. cond x true (cond (a == L.count) false (L.leq a b))) (smaller_number b L.count kb)
      ∙ ap (λ x. cond x false (L.leq a b)) (smaller_number a L.count ka)

  -- A class that is at or below another is so among the labels.
  pub below_more : (a b : ℕ) → IsClass L a → IsClass L b → Below L a b → Below (with_mark L) a b
  below_more a b ka kb le = order_same a b ka kb ∙ le

  -- The same, the other way round.
  below_back : (a b : ℕ) → IsClass L a → IsClass L b → Below (with_mark L) a b → Below L a b
  below_back a b ka kb le = sym (order_same a b ka kb) ∙ le

  -- The mark isn't at or below a class.
  mark_over : {A : Type 0} (b : ℕ) → IsClass L b → Below (with_mark L) L.count b → A
  mark_over b kb le =
      absurd (false≢true (sym (ap (λ x. cond x true (cond (L.count == L.count) false (L.leq L.count b)))
      (smaller_number b L.count kb)
      ∙ ap (λ x. cond x false (L.leq L.count b)) (same_number L.count)) ∙ le))

  -- A label is a class or the mark.
  label_cases : {A : Type 0} (a : ℕ) → IsClass (with_mark L) a → (IsClass L a → A) → (a ≡ L.count → A) → A
  label_cases a w f g = ⊎_elim f (λ le. g (omega (arith, w, le))) (cases_lt a L.count)

  -- A class is a label.
  pub class_label : (a : ℕ) → IsClass L a → IsClass (with_mark L) a
  class_label a w = omega (arith, w)

  -- The mark is a label.
  mark_label : IsClass (with_mark L) L.count
  mark_label = omega arith

  module _ (laws : IsLattice L) where
    -- A label is at or below itself.
    label_reflexive : (a : ℕ) → IsClass (with_mark L) a → Below (with_mark L) a a
    label_reflexive a w =
        label_cases a w (λ ka. below_more a a ka ka (laws.reflexive a ka))
        (λ is. subst (λ x. Below (with_mark L) a x) (sym is) (below_mark a))

    -- A label at or below a class is a class.
    class_below : {A : Type 0} (a b : ℕ) → IsClass (with_mark L) a → IsClass L b → Below (with_mark L) a b →
        (IsClass L a → Below L a b → A) → A
    class_below a b w kb le f =
        label_cases a w (λ ka. f ka (below_back a b ka kb le))
        (λ is. mark_over b kb (subst (λ x. Below (with_mark L) x b) is le))

    -- Labels at or below each other are the same.
    label_antisymmetric : (a b : ℕ) → IsClass (with_mark L) a → IsClass (with_mark L) b →
        Below (with_mark L) a b → Below (with_mark L) b a → a ≡ b
    label_antisymmetric a b w w' le le' =
        label_cases a w
        (λ ka. class_below b a w' ka le' (λ kb back. laws.antisymmetric a b ka kb (below_back a b ka kb le) back))
        (λ is. label_cases b w' (λ kb. mark_over b kb (subst (λ x. Below (with_mark L) x b) is le)) (λ is'. is ∙ sym
        is'))

    -- The order of labels passes on.
    label_transitive : (a b c : ℕ) → IsClass (with_mark L) a → IsClass (with_mark L) b → IsClass (with_mark L) c →
        Below (with_mark L) a b → Below (with_mark L) b c → Below (with_mark L) a c
    label_transitive a b c w w' w'' le le' =
        label_cases c w''
        (λ kc. class_below b c w' kc le' (λ kb up. class_below a b w kb le
        (λ ka up'. below_more a c ka kc (laws.transitive a b c ka kb kc up' up))))
        (λ is. subst (λ x. Below (with_mark L) a x) (sym is) (below_mark a))

    -- The join of two classes is their join among the labels.
    pub join_more : (a b c : ℕ) → IsClass L a → IsClass L b → IsJoin L.count (Below L) a b c →
        IsJoin (with_mark L).count (Below (with_mark L)) a b c
    join_more a b c ka kb j = record {
      within = class_label c j.within;
      left = below_more a c ka j.within j.left;
      right = below_more b c kb j.within j.right;
      least = λ d kd h k. label_cases d kd
          (λ kd'. below_more c d j.within kd' (j.least d kd' (below_back a d ka kd' h) (below_back b d kb kd' k)))
          (λ is. subst (λ x. Below (with_mark L) c x) (sym is) (below_mark c));
    }

    -- The label of what is stored is the same among the labels.
    pub stored_more : (t pc class v : ℕ) → IsClass L t → IsClass L pc → IsClass L class →
        IsStored L t pc class v → IsStored (with_mark L) t pc class v
    stored_more t pc class v kt kp kc st = record {
      within = class_label v st.within;
      value = below_more t v kt st.within st.value;
      counter = below_more pc v kp st.within st.counter;
      variable = below_more class v kc st.within st.variable;
      least = λ d kd h k g. label_cases d kd
          (λ kd'. below_more v d st.within kd' (st.least d kd' (below_back t d kt kd' h) (below_back pc d kp kd' k)
          (below_back class d kc kd' g)))
          (λ is. subst (λ x. Below (with_mark L) v x) (sym is) (below_mark v));
    }

    -- Labels have a join.
    label_joins : (a b : ℕ) → IsClass (with_mark L) a → IsClass (with_mark L) b →
        HasJoin (with_mark L).count (Below (with_mark L)) a b
    label_joins a b w w' =
        label_cases a w
        (λ ka. label_cases b w'
        (λ kb. let j = laws.joins a b ka kb in (j.0, join_more a b j.0 ka kb j.1))
        (λ is. (
          L.count,
          record {
            within = mark_label;
            left = below_mark a;
            right = below_mark b;
            least = λ d kd h k. subst (λ x. Below (with_mark L) x d) is k;
          },
        )))
        (λ is. (
          L.count,
          record {
            within = mark_label;
            left = below_mark a;
            right = below_mark b;
            least = λ d kd h k. subst (λ x. Below (with_mark L) x d) is h;
          },
        ))

    -- Labels have a meet.
    label_meets : (a b : ℕ) → IsClass (with_mark L) a → IsClass (with_mark L) b →
        HasMeet (with_mark L).count (Below (with_mark L)) a b
    label_meets a b w w' =
        label_cases a w
        (λ ka. label_cases b w'
        (λ kb. let j = laws.meets a b ka kb in (
          j.0,
          record {
            within = class_label j.0 j.1.within;
            left = below_more j.0 a j.1.within ka j.1.left;
            right = below_more j.0 b j.1.within kb j.1.right;
            greatest = λ d kd h k. class_below d a kd ka h
                (λ kd' h'. below_more d j.0 kd' j.1.within (j.1.greatest d kd' h' (below_back d b kd' kb k)));
          },
        ))
        (λ is. (
          a,
          record {
            within = w;
            left = label_reflexive a w;
            right = subst (λ x. Below (with_mark L) a x) (sym is) (below_mark a);
            greatest = λ d kd h k. h;
          },
        )))
        (λ is. (
          b,
          record {
            within = w';
            left = subst (λ x. Below (with_mark L) b x) (sym is) (below_mark b);
            right = label_reflexive b w';
            greatest = λ d kd h k. k;
          },
        ))

    -- The classes with the mark are a lattice.
    marked_lattice : IsLattice (with_mark L)
    marked_lattice = record {
      reflexive = label_reflexive;
      antisymmetric = label_antisymmetric;
      transitive = label_transitive;
      joins = label_joins;
      meets = label_meets;
      bottom_within = class_label L.bottom laws.bottom_within;
      bottom_least = λ a w. label_cases a w
          (λ ka. below_more L.bottom a laws.bottom_within ka (laws.bottom_least a ka))
          (λ is. subst (λ x. Below (with_mark L) L.bottom x) (sym is) (below_mark L.bottom));
      top_within = mark_label;
      top_greatest = λ a w. below_mark a;
    }

-- The labels by either rule are a lattice.
pub labels_lattice : (R : Rule) (L : Lattice) → IsLattice L → IsLattice (labelling R L)
labels_lattice NoSensitiveUpgrade L laws = laws
labels_lattice PermissiveUpgrade L laws = marked_lattice L laws

-- A class is a label by either rule.
pub labels_class : (R : Rule) (L : Lattice) (a : ℕ) → IsClass L a → IsClass (labelling R L) a
labels_class NoSensitiveUpgrade L a w = w
labels_class PermissiveUpgrade L a w = class_label L a w

-- The order of classes is kept by either rule.
pub labels_below : (R : Rule) (L : Lattice) (a b : ℕ) → IsClass L a → IsClass L b → Below L a b →
    Below (labelling R L) a b
labels_below NoSensitiveUpgrade L a b ka kb le = le
labels_below PermissiveUpgrade L a b ka kb le = below_more L a b ka kb le

-- The bottom class is the bottom label.
pub labels_bottom : (R : Rule) (L : Lattice) → (labelling R L).bottom ≡ L.bottom
labels_bottom NoSensitiveUpgrade L = refl
labels_bottom PermissiveUpgrade L = refl

-- A class isn't the mark.
pub class_clean : (R : Rule) (L : Lattice) (a : ℕ) → IsClass L a → IsMark R (labelling R L) a → ⊥
class_clean NoSensitiveUpgrade L a w mark = mark
class_clean PermissiveUpgrade L a w mark = absurd (omega (arith, w, mark))

-- The topmost label is the mark by permissive upgrade.
pub top_mark : (R : Rule) (L : Lattice) → R ≡ PermissiveUpgrade → IsMark R L L.top
top_mark R L is = subst (λ x. IsMark x L L.top) (sym is) refl

-- A label at or above the mark is the mark.
pub mark_up : (R : Rule) (L : Lattice) → IsLattice L → (t v : ℕ) → IsClass L v → IsMark R L t → Below L t v →
    IsMark R L v
mark_up NoSensitiveUpgrade L laws t v w mark le = mark
mark_up PermissiveUpgrade L laws t v w mark le =
    laws.antisymmetric v L.top w laws.top_within (laws.top_greatest v w) (subst (λ x. Below L x v) mark le)

-- An expression whose label isn't the mark reads no word with the mark.
pub label_clean : (R : Rule) (L : Lattice) → IsLattice L → (q : Locations) (e : Expression) (t : ℕ) →
    HasLabel L q e t → (IsMark R L t → ⊥) → ReadsNoMark R L q e
label_clean R L laws q (Number z) t has clean = λ l read mark. absurd read
label_clean R L laws q (Location k s) t has clean =
    λ l read mark. clean (subst (IsMark R L) (sym has) (subst (λ i. IsMark R L (slice_index q i)) read mark))
label_clean R L laws q (Operator o a b) t has clean =
    λ l read mark.
    ⊎_elim
    (λ r. label_clean R L laws q a has.0 has.2 (λ m. clean (mark_up R L laws has.0 t has.4.within m has.4.left)) l r
    mark)
    (λ r. label_clean R L laws q b has.1 has.3 (λ m. clean (mark_up R L laws has.1 t has.4.within m has.4.right)) l r
    mark)
    read

-- Two joins give the label of what is stored.
pub joined : (L : Lattice) → IsLattice L → (t pc class u v : ℕ) → IsClass L t → IsClass L pc →
    IsJoin L.count (Below L) t pc u → IsJoin L.count (Below L) u class v → IsStored L t pc class v
joined L laws t pc class u v kt kp h k = record {
  within = k.within;
  value = laws.transitive t u v kt h.within k.within h.left k.left;
  counter = laws.transitive pc u v kp h.within k.within h.right k.left;
  variable = k.right;
  least = λ d kd a b c. k.least d kd (h.least d kd a b) c;
}
