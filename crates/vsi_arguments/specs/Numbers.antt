-- The numbers among arguments.
use Rattle.std.specs.Prelude.{◌≡◌, ◌⊎◌, ℕ, ◌+◌, ◌*◌, ◌-◌, List, [], ◌∷◌, Option, Some, None, codes, if◌then◌else◌}
use Rattle.std.specs.Char.{is_ascii_digit}
use Rattle.vsi_arguments.specs.declared.request.Budget.{Budget}
use Rattle.vsi_arguments.specs.declared.request.Budget.TheVariants.{Number, Auto}

-- The number spelled by the digits of a number followed by these decimal digits.
abbrev pub read_on : ℕ → List ℕ → Option ℕ
read_on number [] = Some number
read_on number (byte ∷ rest) = if is_ascii_digit byte then read_on (number * 10 + (byte - 48)) rest else None

-- The number that an argument spells, in decimal digits alone.
abbrev pub number_in : List ℕ → Option ℕ
number_in [] = None
number_in (byte ∷ rest) = read_on 0 (byte ∷ rest)

-- These values of an option give the number: the only value spells it, or there is no value and the number is the
-- default.
abbrev pub Gives : List (List ℕ) → Option ℕ → ℕ → Type 0
Gives [] otherwise number = otherwise ≡ Some number
Gives (value ∷ []) otherwise number = number_in value ≡ Some number
Gives (value ∷ next ∷ rest) otherwise number = ⊥

-- The number that a default is.
abbrev pub default_number : Option Budget → Option ℕ
default_number None = None
default_number (Some (Number number)) = Some number
default_number (Some Auto) = None

-- These values of an option give `auto`: it is the one value, or there is none and it is the default.
abbrev pub GivesAuto : List (List ℕ) → Option Budget → Type 0
GivesAuto values None = values ≡ codes "auto" ∷ []
GivesAuto values (Some (Number number)) = values ≡ codes "auto" ∷ []
GivesAuto values (Some Auto) = (values ≡ codes "auto" ∷ []) ⊎ (values ≡ [])

-- These values of an option give the budget, a number or `auto`.
abbrev pub GivesBudget : List (List ℕ) → Option Budget → Budget → Type 0
GivesBudget values otherwise (Number number) = Gives values (default_number otherwise) number
GivesBudget values otherwise Auto = GivesAuto values otherwise
