-- Bytes that control no terminal, except that they may turn its colours on and off.
use Rattle.std.specs.Prelude.{ℕ, ◌-◌, zero, suc, Bool, true, ◌==◌, ◌&&◌, nat_eq, if◌then◌else◌, List, [], ◌∷◌}
use Rattle.std.specs.List.{starts_with}
use Rattle.vsi_telling.specs.declared.place.ColourMode.TheVariants.{Coloured}
use Rattle.vsi_telling.specs.Colours.{turned_on, turned_off}
use Rattle.vsi_telling.specs.Safe.{is_plain}

-- The number of bytes of the sequence for colours that bytes begin with; 0 if they begin with none.
abbrev pub colour_length : List ℕ → ℕ
colour_length bytes =
    if starts_with nat_eq bytes (turned_on Coloured) then 7
    else if starts_with nat_eq bytes (turned_off Coloured) then 4 else 0

-- Whether bytes that begin with the last n bytes of such a sequence are tame.
abbrev pub is_tame_after : ℕ → List ℕ → Bool
is_tame_after n [] = true
is_tame_after zero (b ∷ rest) =
    if colour_length (b ∷ rest) == 0 then is_plain b && is_tame_after 0 rest
    else is_tame_after (colour_length (b ∷ rest) - 1) rest
is_tame_after (suc n) (b ∷ rest) = is_tame_after n rest

-- Whether each byte is printable ASCII, a line feed, or part of a sequence that turns a colour on or all colours off.
abbrev pub is_tame : List ℕ → Bool
is_tame bytes = is_tame_after 0 bytes

-- The bytes if they are tame, and none otherwise.
abbrev pub tamed : List ℕ → List ℕ
tamed bytes = if is_tame bytes then bytes else []
