-- The view that a class has of an image's run.
use Rattle.std.specs.Prelude.{◌≡◌, ℕ, ◌+◌, ℤ, List, [], ◌∷◌, ◌++◌, Bool, true, false, Option, Some, None, is_some, if◌then◌else◌}
use Rattle.std.specs.Option.{option_map_or}
use Rattle.vsi_lattice.specs.Known.{Known}
use Rattle.vsi_lattice.specs.Order.{Lattice}
use Rattle.vsi_image.specs.declared.instr.Image.{Image}
use Rattle.vsi_image.specs.Fields.{Global, globals}
use Rattle.vsi_image.specs.Meaning.{State}
use Rattle.vsi_machine.specs.Runs.{globals_of, run_of}
use Rattle.vsi_store.specs.Text.{line_of}
use Rattle.vsi_store.specs.declared.views.View.{View}
use Rattle.vsi_store.specs.declared.views.View.TheVariants.{Text, OutOfBudget}

-- The number of the first of these globals whose class name denotes no class, where they have numbers from n on.
abbrev pub first_unknown : Known → ℕ → List Global → Option ℕ
first_unknown known n [] = None
first_unknown known n (g ∷ gs) = if is_some (known g.1) then first_unknown known (n + 1) gs else Some n

-- A class sees a global whose class name denotes a class at or below it.
abbrev pub is_seen : Known → Lattice → ℕ → List ℕ → Bool
is_seen known L a name = option_map_or (λ c. L.leq c a) (known name) false

-- The line of a global that the class sees, and nothing for any other.
abbrev pub line_seen : Known → Lattice → ℕ → Global → ℤ → List ℕ
line_seen known L a g w = if is_seen known L a g.1 then line_of g.0 w else []

-- A line for each global that the class sees, in order.
abbrev pub view_text_of : Known → Lattice → ℕ → List Global → List ℤ → List ℕ
view_text_of known L a [] words = []
view_text_of known L a (g ∷ gs) [] = []
view_text_of known L a (g ∷ gs) (w ∷ ws) = line_seen known L a g w ++ view_text_of known L a gs ws

-- The class's view of a run that ends in this state: its lines of the store if the run has halted.
abbrev pub ViewsState : Known → Lattice → ℕ → Image → State → View → Type 0
ViewsState known L a image last (Text text) =
    (last.halted ≡ true) × (text.items ≡ view_text_of known L a (globals image.globals.items) (globals_of image last))
ViewsState known L a image last OutOfBudget = last.halted ≡ false

-- The class's view of the image's run from these words with this budget.
abbrev pub Views : Known → Lattice → ℕ → Image → List ℤ → ℕ → View → Type 0
Views known L a image words budget view =
    (last : State) × (run_of image words budget ≡ Some last) × ViewsState known L a image last view
