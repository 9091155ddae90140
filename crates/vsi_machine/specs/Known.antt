-- The meaning of facts about words.
use Rattle.std.specs.Prelude.{◌≡◌, ℕ, ℤ, pos, List, [], ◌∷◌, length, slice_get, slice_index_or, Some}
use Rattle.vsi_syntax.specs.Operators.{sum_of, less_of}
use Rattle.vsi_machine.specs.declared.loops.Known.{Known}
use Rattle.vsi_machine.specs.declared.loops.Known.TheVariants.{Number, Same, Moved, Below, Above, Any}

-- The word of a slot.
abbrev pub word : List ℤ → ℕ → ℤ
word m k = slice_index_or m k (pos 0)

-- A fact holds of a word, given these words in the slots of an earlier store.
abbrev pub Means : List ℤ → Known → ℤ → Type 0
Means m (Number n) v = v ≡ n
Means m (Same k) v = v ≡ word m k
Means m (Moved k d) v = v ≡ sum_of (word m k) d
Means m (Below k n) v = v ≡ less_of (word m k) n
Means m (Above k n) v = v ≡ less_of n (word m k)
Means m Any v = Unit {0}

-- Each fact of a list holds of the word at its position.
abbrev pub AllMean : List ℤ → List Known → List ℤ → Type 0
AllMean m [] [] = Unit {0}
AllMean m [] (v ∷ vs) = ⊥
AllMean m (f ∷ fs) [] = ⊥
AllMean m (f ∷ fs) (v ∷ vs) = Means m f v × AllMean m fs vs

-- There is a fact for each slot, and it holds of the slot's current word.
pub record Hold (m : List ℤ) (facts : List Known) (now : List ℤ) : Type 0 where
  pub count : length facts ≡ length now
  pub each : (k : ℕ) (f : Known) → slice_get facts k ≡ Some f → Means m f (word now k)
