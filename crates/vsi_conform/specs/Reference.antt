-- The results of a trial beside a reference, and the beginning of an answer to which its line is added.
use Rattle.std.specs.Prelude.{◌≡◌, ◌≢◌, ℕ, ◌-◌, Bool, true, false, List, ◌++◌, length, take}
use Rattle.vsi_conform.specs.declared.reference.Comparison.{Comparison}
use Rattle.vsi_conform.specs.declared.reference.Comparison.TheVariants.{Alike, Apart, Lacking, Extra, Untried}
use Rattle.vsi_conform.specs.declared.reference.Contrast.{Contrast}
use Rattle.vsi_conform.specs.declared.reference.Contrast.TheVariants.{Word, Endless, Halts}

-- A contrast of words is one of different words.
abbrev pub IsContrast : Contrast → Type 0
IsContrast (Word global word expected) = word ≢ expected
IsContrast (Endless budget) = Unit {0}
IsContrast (Halts budget) = Unit {0}

-- A reported difference of words is one of different words.
abbrev pub IsFound : Comparison → Type 0
IsFound (Alike runs cycles) = Unit {0}
IsFound (Apart difference) = IsContrast difference.contrast
IsFound (Lacking number) = Unit {0}
IsFound (Extra place) = Unit {0}
IsFound Untried = Unit {0}

-- No difference was found.
abbrev pub is_alike : Comparison → Bool
is_alike (Alike runs cycles) = true
is_alike _ = false
