-- Made-up names for the locals of an image.
use Rattle.std.specs.Prelude.{◌≡◌, ◌⊎◌, ℕ, ◌-◌, ◌<◌, ◌≤◌, ◌==◌, if◌then◌else◌, Bool, true, false, ◌||◌, List, [], ◌∷◌, ◌++◌, replicate, decimal}
use Rattle.vsi_syntax.specs.Words.{is_digit}
use Rattle.vsi_image.specs.Fields.{Global}
use Rattle.vsi_audit.specs.declared.names.Form.{Form}

-- The made-up name with a number: a letter, some `_`, and the number.
abbrev pub made : Form → ℕ → List ℕ
made f n = (f.letter ∷ replicate f.bars 95) ++ decimal n

-- The text is `bars` times `_`, followed by digits.
abbrev pub is_numbered : ℕ → List ℕ → Bool
is_numbered bars [] = bars == 0
is_numbered bars (b ∷ bs) =
    if bars == 0 then (if is_digit b then is_numbered 0 bs else false)
    else if b == 95 then is_numbered (bars - 1) bs else false

-- The name has this form: its letter, its `_`, and digits.
abbrev pub is_made : Form → List ℕ → Bool
is_made f [] = false
is_made f (b ∷ bs) = if b == f.letter then is_numbered f.bars bs else false

-- A global has a name of this form.
abbrev pub is_taken : Form → List Global → Bool
is_taken f [] = false
is_taken f (g ∷ gs) = is_made f g.0 || is_taken f gs

-- The form with a letter and a number of `_`.
abbrev pub form : ℕ → ℕ → Form
form letter bars = record { letter = letter; bars = bars }

-- Globals have all forms of this letter with fewer `_`.
abbrev pub AreTaken : List Global → ℕ → ℕ → Type 0
AreTaken gs letter bars = (b : ℕ) → b < bars → is_taken (form letter b) gs ≡ true

-- Globals have all forms of the letters from `a` up to this one, without it, with at most nine `_`.
abbrev pub AreLettersTaken : List Global → ℕ → Type 0
AreLettersTaken gs letter = (x : ℕ) → x < letter → 97 ≤ x → AreTaken gs x 10

-- No global has the form, and globals have all forms of its letter with fewer `_`.
pub record IsFreeAt (gs : List Global) (letter bars : ℕ) : Type 0 where
  pub bars_within : bars < 10
  pub before : AreTaken gs letter bars
  pub free : is_taken (form letter bars) gs ≡ false

-- The form is the first that no global has, with the letters from `a` to `z` in order and at most nine `_`.
pub record IsFirstFree (gs : List Global) (f : Form) : Type 0 where
  pub from : 97 ≤ f.letter
  pub to : f.letter < 123
  pub letters : AreLettersTaken gs f.letter
  pub here : IsFreeAt gs f.letter f.bars

-- Globals have all those forms, and the form is `t` with ten `_`.
pub record IsLast (gs : List Global) (f : Form) : Type 0 where
  pub taken : AreLettersTaken gs 123
  pub is : f ≡ form 116 10

-- No global has the form `t` with no `_`, and that is the form.
pub record IsPlain (gs : List Global) (f : Form) : Type 0 where
  pub free : is_taken (form 116 0) gs ≡ false
  pub is : f ≡ form 116 0

-- A global has the form `t` with no `_`, and the form is the first that no global has.
pub record IsOther (gs : List Global) (f : Form) : Type 0 where
  pub taken : is_taken (form 116 0) gs ≡ true
  pub searched : IsFirstFree gs f ⊎ IsLast gs f

-- The form of the made-up names for an image with these globals.
abbrev pub IsForm : List Global → Form → Type 0
IsForm gs f = IsPlain gs f ⊎ IsOther gs f
