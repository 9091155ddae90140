-- The settings of a line, and the faults of a line that sets nothing.
use Rattle.std.specs.Prelude.{ℕ, ◌+◌, nat_lt, ℤ, List, [], ◌∷◌, ◌++◌, length, Bool, true, Option, Some, None, Result, Ok, Err, if◌then◌else◌, bytes_eq, codes, decimal, slice_set}
use Rattle.vsi_image.specs.declared.instr.Image.{Image}
use Rattle.vsi_image.specs.Fields.{Global, globals}
use Rattle.vsi_drive.specs.declared.settings.LineFault.{LineFault}
use Rattle.vsi_drive.specs.declared.settings.LineFault.TheVariants.{TooLong, BadSetting, UnknownGlobal, AboveClass, NotAnInput, NotANumber}
use Rattle.vsi_drive.specs.Control.{Control, is_input, sees}
use Rattle.vsi_drive.specs.Fields.{fields_of, word_of}

-- The number of a global, and the word that it is set to.
abbrev pub Setting : Type 0
Setting = ℕ × ℤ

-- Which globals of an image may be set: those whose class name passes a test, and whose own name passes another.
pub record Settable : Type 0 where
  pub may : List ℕ → Bool
  pub takes : List ℕ → Bool
  pub image : Image

-- A class may set the inputs at or below it.
abbrev pub at_or_below : Control → Settable
at_or_below c = record { may = λ name. sees c name; takes = λ name. is_input c name; image = c.image }

-- A user who starts a run may set every global.
abbrev pub any_of : Image → Settable
any_of image = record { may = λ name. true; takes = λ name. true; image = image }

-- The number of a global that a setting names, if it may be set.
abbrev pub place_of : Settable → ℕ → ℕ → Global → Result ℕ LineFault
place_of s n i g = if s.may g.1 then (if s.takes g.0 then Ok i else Err (NotAnInput n)) else Err (AboveClass n)

-- The number of the global that a setting names, which may be set; these globals have numbers from i on.
abbrev pub target_from : Settable → ℕ → ℕ → List Global → List ℕ → Result ℕ LineFault
target_from s n i [] name = Err (UnknownGlobal n)
target_from s n i (g ∷ gs) name =
    if bytes_eq g.0 name then place_of s n i g else target_from s n (i + 1) gs name

-- The setting of a global to the word that a field spells.
abbrev pub with_word : ℕ → Result ℕ LineFault → Option ℤ → Result Setting LineFault
with_word n (Err fault) w = Err fault
with_word n (Ok i) None = Err (NotANumber n)
with_word n (Ok i) (Some w) = Ok (i, w)

-- The setting that three fields form: the name of a global, `=`, and a number.
abbrev pub setting : Settable → ℕ → List ℕ → List ℕ → List ℕ → Result Setting LineFault
setting s n name equal number =
    if bytes_eq equal (codes "=")
    then with_word n (target_from s n 0 (globals s.image.globals.items) name) (word_of number)
    else Err (BadSetting n)

-- A setting before others; the first fault is the fault of all.
abbrev pub in_front : Result Setting LineFault → Result (List Setting) LineFault → Result (List Setting) LineFault
in_front (Err fault) others = Err fault
in_front (Ok s) (Err fault) = Err fault
in_front (Ok s) (Ok ss) = Ok (s ∷ ss)

-- The settings that fields form, three by three, the first of which has this number.
abbrev pub settings_from : Settable → ℕ → List (List ℕ) → Result (List Setting) LineFault
settings_from s n [] = Ok []
settings_from s n (x ∷ []) = Err (BadSetting n)
settings_from s n (x ∷ y ∷ []) = Err (BadSetting n)
settings_from s n (x ∷ y ∷ z ∷ fields) = in_front (setting s n x y z) (settings_from s (n + 1) fields)

-- The most bytes of a line.
abbrev pub max_line_length : ℕ
max_line_length = 65536

-- The settings of a line that isn't too long.
abbrev pub settings_of : Control → List ℕ → Result (List Setting) LineFault
settings_of c line =
    if nat_lt max_line_length (length line) then Err TooLong else settings_from (at_or_below c) 0 (fields_of line)

-- The store after these settings, made in order.
abbrev pub applied : List Setting → List ℤ → List ℤ
applied [] m = m
applied (s ∷ ss) m = applied ss (slice_set m s.0 s.1)

-- A faulty setting, with its number, from 0.
abbrev pub numbered : List ℕ → ℕ → List ℕ
numbered name n = name ++ codes " " ++ decimal n

-- The number, the name and the field of a fault.
abbrev pub fault_name : LineFault → List ℕ
fault_name TooLong = codes "44 LineTooLong"
fault_name (BadSetting n) = numbered (codes "45 BadSetting") n
fault_name (UnknownGlobal n) = numbered (codes "46 NoGlobal") n
fault_name (AboveClass n) = numbered (codes "47 AboveClass") n
fault_name (NotAnInput n) = numbered (codes "60 NotAnInput") n
fault_name (NotANumber n) = numbered (codes "48 NoNumber") n

-- The line of a fault.
abbrev pub fault_line : LineFault → List ℕ
fault_line fault = codes "refused: " ++ fault_name fault ++ codes "\n"

-- The store after settings are made, or their fault.
abbrev pub written : Result (List Setting) LineFault → List ℤ → Result (List ℤ) LineFault
written (Err fault) m = Err fault
written (Ok ss) m = Ok (applied ss m)
