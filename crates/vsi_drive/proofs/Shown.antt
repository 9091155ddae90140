-- The globals of a store that are written, with a space or a line end after each.
use Rattle.std.proofs.Common.{◌≡◌, List, [], ◌∷◌, ◌++◌, refl, ap}
use Rattle.std.specs.Prelude.{ℤ}
use Rattle.vsi_image.specs.Fields.{Global}
use Rattle.vsi_drive.specs.Control.{Control}
use Rattle.vsi_drive.specs.Cycles.{global_seen, globals_seen}
use Rattle.vsi_drive.specs.Views.{globals_written, written_line, written_lines}

-- With a space they are the text of a cycle.
pub shown_seen : (c : Control) (gs : List Global) (ws : List ℤ) → globals_written c 32 gs ws ≡ globals_seen c gs ws
shown_seen c [] ws = refl
shown_seen c (g ∷ gs) [] = refl
shown_seen c (g ∷ gs) (w ∷ ws) = ap (λ t. global_seen c g w ++ t) (shown_seen c gs ws)

-- With a line end they are the text of a view.
pub shown_lines : (c : Control) (gs : List Global) (ws : List ℤ) → globals_written c 10 gs ws ≡ written_lines c gs ws
shown_lines c [] ws = refl
shown_lines c (g ∷ gs) [] = refl
shown_lines c (g ∷ gs) (w ∷ ws) = ap (λ t. written_line c g w ++ t) (shown_lines c gs ws)
