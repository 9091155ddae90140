-- The operators on words, the 64-bit numbers of the machine; the optimiser, the code and the machine share them.
use Rattle.std.specs.Prelude.{ℤ, pos, ◌+ℤ◌, ◌-ℤ◌, ◌*ℤ◌, if◌then◌else◌, int_lt}
use Rattle.std.specs.Ordering.{int_eq}
use Rattle.std.specs.Int.{w64, int_wrap}
use Rattle.vsi_syntax.specs.declared.tree.Op.{Op}
use Rattle.vsi_syntax.specs.declared.tree.Op.TheVariants.{Add, Sub, Mul, Eq, Lt}

-- The word that equals the sum modulo 2 ^ 64.
abbrev pub sum_of : ℤ → ℤ → ℤ
sum_of a b = int_wrap w64 (a +ℤ b)

-- The word that equals the difference modulo 2 ^ 64.
abbrev pub difference_of : ℤ → ℤ → ℤ
difference_of a b = int_wrap w64 (a -ℤ b)

-- The word that equals the product modulo 2 ^ 64.
abbrev pub product_of : ℤ → ℤ → ℤ
product_of a b = int_wrap w64 (a *ℤ b)

-- 1 if both words are equal, else 0.
abbrev pub equal_of : ℤ → ℤ → ℤ
equal_of a b = if int_eq a b then pos 1 else pos 0

-- 1 if the first word is less as a signed number, else 0.
abbrev pub less_of : ℤ → ℤ → ℤ
less_of a b = if int_lt a b then pos 1 else pos 0

-- The result of an operator on two words.
abbrev pub apply : Op → ℤ → ℤ → ℤ
apply Add a b = sum_of a b
apply Sub a b = difference_of a b
apply Mul a b = product_of a b
apply Eq a b = equal_of a b
apply Lt a b = less_of a b
