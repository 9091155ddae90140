-- Texts for showing two runs side by side.
use Rattle.std.specs.Prelude.{ℕ, ℤ, List, ◌++◌, codes, decimal}
use Rattle.std.specs.Fmt.{signed_decimal}

-- The name of a global and its word.
abbrev pub word_cell : List ℕ → ℤ → List ℕ
word_cell name word = name ++ codes " = " ++ signed_decimal word

-- The number of instructions after which a run halts.
abbrev pub halted_cell : ℕ → List ℕ
halted_cell n = codes "after " ++ decimal n ++ codes " instructions"
