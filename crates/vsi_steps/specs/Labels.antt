-- The labels of words and expressions.
use Rattle.std.specs.Prelude.{◌≡◌, ℕ, ◌+◌, ◌<◌, ◌==◌, cond, true, false, ◌⊎◌, length, slice_index, slice_index_or, ℤ, pos}
use Rattle.vsi_lattice.specs.Order.{Lattice, IsClass, Below, IsJoin}
use Rattle.vsi_syntax.specs.declared.token.Span.{Span}
use Rattle.vsi_scope.specs.Language.{Expression, Number, Location, Operator}
use Rattle.vsi_scope.specs.Meaning.{Store}
use Rattle.vsi_types.specs.Typing.{Locations}
use Rattle.vsi_types.specs.Security.{IsReadIn}
use Rattle.vsi_steps.specs.declared.labels.Rule.{Rule}
use Rattle.vsi_steps.specs.declared.labels.Rule.TheVariants.{NoSensitiveUpgrade, PermissiveUpgrade}

-- The label of an expression, where q gives the label of each location: that of a number is the bottom class, and that
-- of an operator the join of those of its operands.
abbrev pub HasLabel : Lattice → Locations → Expression → ℕ → Type 0
HasLabel L q (Number z) t = t ≡ L.bottom
HasLabel L q (Location l s) t = t ≡ slice_index q l
HasLabel L q (Operator o a b) t =
    (u : ℕ) × (v : ℕ) × HasLabel L q a u × HasLabel L q b v × IsJoin L.count (Below L) u v t

-- The label v of a word that is stored: the least class at or above the label t of its expression, the counter pc, and
-- the class of its variable.
pub record IsStored (L : Lattice) (t pc class v : ℕ) : Type 0 where
  pub within : IsClass L v
  pub value : Below L t v
  pub counter : Below L pc v
  pub variable : Below L class v
  pub least : (d : ℕ) → IsClass L d → Below L t d → Below L pc d → Below L class d → Below L v d

-- The store m with the labels q has a word and a label for each of k locations, and each label is a class.
pub record IsLabelled (L : Lattice) (k : ℕ) (m : Store) (q : Locations) : Type 0 where
  pub words : length m ≡ k
  pub labels : length q ≡ k
  pub classes : (l : ℕ) → l < k → IsClass L (slice_index q l)

-- The lattice with one label more, above all classes: the mark of words that are partly leaked.
abbrev pub with_mark : Lattice → Lattice
with_mark L =
    record {
      count = L.count + 1;
      leq = λ a b. cond (b == L.count) true (cond (a == L.count) false (L.leq a b));
      bottom = L.bottom;
      top = L.count;
    }

-- The labels that words have by a rule: the classes, and by permissive upgrade the mark too.
abbrev pub labelling : Rule → Lattice → Lattice
labelling NoSensitiveUpgrade L = L
labelling PermissiveUpgrade L = with_mark L

-- The label is the mark, which is the topmost one of the labels by permissive upgrade.
abbrev pub IsMark : Rule → Lattice → ℕ → Type 0
IsMark NoSensitiveUpgrade L t = ⊥
IsMark PermissiveUpgrade L t = t ≡ L.top

-- The expression reads no word with the mark.
abbrev pub ReadsNoMark : Rule → Lattice → Locations → Expression → Type 0
ReadsNoMark R L q e = (l : ℕ) → IsReadIn e l → IsMark R L (slice_index q l) → ⊥

-- The first word with the mark that the expression reads has its name at s.
abbrev pub ReadsMarkAt : Rule → Lattice → Locations → Expression → Span → Type 0
ReadsMarkAt R L q (Number z) s = ⊥
ReadsMarkAt R L q (Location l p) s = IsMark R L (slice_index q l) × (s ≡ p)
ReadsMarkAt R L q (Operator o a b) s = ReadsMarkAt R L q a s ⊎ (ReadsNoMark R L q a × ReadsMarkAt R L q b s)

-- Two labelled words agree at a: if neither has the mark, and one of the labels is at or below a, then the labels are
-- the same, and so are the words.
abbrev pub WordsAgree : Rule → Lattice → ℕ → ℕ → ℤ → ℕ → ℤ → Type 0
WordsAgree R L a t x t' x' =
    (IsMark R L t → ⊥) → (IsMark R L t' → ⊥) → Below L t a ⊎ Below L t' a → (t ≡ t') × (x ≡ x')

-- Two labelled stores agree at a: the words of each location do.
abbrev pub StoresAgree : Rule → Lattice → ℕ → ℕ → Store → Locations → Store → Locations → Type 0
StoresAgree R L k a m q m' q' =
    (l : ℕ) → l < k →
    WordsAgree R L a (slice_index q l) (slice_index_or m l (pos 0)) (slice_index q' l) (slice_index_or m' l (pos 0))
