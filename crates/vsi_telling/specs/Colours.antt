-- The fixed byte sequences for colours.
use Rattle.std.specs.Prelude.{ℕ, List, [], ◌∷◌, codes}
use Rattle.vsi_telling.specs.declared.place.ColourMode.{ColourMode}
use Rattle.vsi_telling.specs.declared.place.ColourMode.TheVariants.{Plain, Coloured}

-- The sequence that turns a colour on.
abbrev pub turned_on : ColourMode → List ℕ
turned_on Plain = []
turned_on Coloured = 27 ∷ codes "[1;31m"

-- The sequence that turns all colours off.
abbrev pub turned_off : ColourMode → List ℕ
turned_off Plain = []
turned_off Coloured = 27 ∷ codes "[0m"
