-- Globals and words that are as an interface requires.
use Rattle.std.specs.Prelude.{◌≡◌, ℕ, ℤ, Bool, true, false, List, [], ◌∷◌, Option, Some, None, bytes_eq, if◌then◌else◌}
use Rattle.vsi_image.specs.Fields.{Global, is_taken}
use Rattle.vsi_conform.specs.Points.{Entry, word_of}

-- The class name of the global with a name.
abbrev pub class_of : List Global → List ℕ → Option (List ℕ)
class_of [] name = None
class_of (g ∷ gs) name = if bytes_eq g.0 name then Some g.1 else class_of gs name

-- Each required global is there, with its class.
abbrev pub HasEach : List Global → List Global → Type 0
HasEach gs [] = Unit {0}
HasEach gs (w ∷ ws) = (class_of gs w.0 ≡ Some w.1) × HasEach gs ws

-- Each global has the name of a required one.
abbrev pub AreAskedFor : List Global → List Global → Type 0
AreAskedFor ws [] = Unit {0}
AreAskedFor ws (g ∷ gs) = (is_taken ws g.0 ≡ true) × AreAskedFor ws gs

-- The globals are the required ones: these in this order, or each of them in any order and no other.
abbrev pub HasGlobals : Bool → List Global → List Global → Type 0
HasGlobals true ws gs = gs ≡ ws
HasGlobals false ws gs = HasEach gs ws × AreAskedFor ws gs

-- The globals with these names have these words.
abbrev pub HasWords : List Global → List ℤ → List Entry → Type 0
HasWords gs ws [] = Unit {0}
HasWords gs ws (e ∷ es) = (word_of gs ws e.0 ≡ Some e.1) × HasWords gs ws es
