-- The laws of two drives of one controller, and of two of its views.
use Rattle.std.specs.Prelude.{◌≡◌, ◌≢◌, ℕ, ℤ, List, [], ◌∷◌, map, Option, Some, option_map, if◌then◌else◌}
use Rattle.vsi_image.specs.Fields.{Global, globals}
use Rattle.vsi_image.specs.Valid.{IsValid}
use Rattle.vsi_lattice.specs.Order.{IsClass}
use Rattle.vsi_types.specs.declared.rules.Profile.{Profile}
use Rattle.vsi_compiler.specs.Headline.{IsCompiled}
use Rattle.vsi_compiler.specs.Observation.{AgreeAt, IsNoninterfering, IsStoreOf}
use Rattle.vsi_steady.specs.Laws.{RunsAlike}
use Rattle.vsi_drive.specs.declared.controller.CycleEnding.{CycleEnding}
use Rattle.vsi_drive.specs.declared.controller.CycleEnding.TheVariants.{Halted, OutOfBudget, Refused}
use Rattle.vsi_store.specs.View.{view_text_of}
use Rattle.vsi_drive.specs.Boundary.{no_boundary}
use Rattle.vsi_drive.specs.Control.{Control, is_released}
use Rattle.vsi_drive.specs.Settings.{settings_of}
use Rattle.vsi_drive.specs.Cycles.{Cycle, cycle, store_behind, text_of}
use Rattle.vsi_drive.specs.Views.{last_words, view_of, written_text}

-- No cycle of these lines is out of budget.
abbrev pub AllHalt : Control → List ℤ → List (List ℕ) → Type 0
AllHalt c m [] = Unit {0}
AllHalt c m (line ∷ lines) = ((cycle c m line).ending ≢ OutOfBudget) × AllHalt c (cycle c m line).store lines

-- ---- what is released.

-- The words of the released globals of a store.
abbrev pub released_words : Control → List Global → List ℤ → List ℤ
released_words c [] words = []
released_words c (g ∷ gs) [] = []
released_words c (g ∷ gs) (w ∷ ws) =
    if is_released c g then w ∷ released_words c gs ws else released_words c gs ws

-- A cycle that ends in this way with this store releases its released words if it has halted, and else nothing.
abbrev pub released_at : Control → CycleEnding → List ℤ → List ℤ
released_at c Halted m = released_words c (globals c.image.globals.items) m
released_at c OutOfBudget m = []
released_at c (Refused fault) m = []

-- The words that a cycle releases.
abbrev pub released_in : Control → Cycle → List ℤ
released_in c x = released_at c x.ending x.store

-- The words that the cycles of these lines release, cycle by cycle.
abbrev pub released_of : Control → List ℤ → List (List ℕ) → List (List ℤ)
released_of c m [] = []
released_of c m (line ∷ lines) = released_in c (cycle c m line) ∷ released_of c (cycle c m line).store lines

-- No global is named as released.
abbrev pub ReleasesNothing : Control → Type 0
ReleasesNothing c = c.boundary.released ≡ []

-- ---- what two drives have in common.

-- Two stores of the image that agree at and below the class.
pub record AgreeFor (c : Control) (m m' : List ℤ) : Type 0 where
  pub full : IsStoreOf c.image m
  pub full' : IsStoreOf c.image m'
  pub agree : AgreeAt c.known c.order c.image c.class m m'

-- Two drives write the same output, and end in stores that agree.
pub record DriveAlike (c : Control) (m m' : List ℤ) (lines lines' : List (List ℕ)) : Type 0 where
  pub text : text_of c m lines ≡ text_of c m' lines'
  pub stores : AgreeFor c (store_behind c m lines) (store_behind c m' lines')

-- From stores that agree at and below the class, lines that set the same write the same output and lead to stores that
-- agree, as long as no cycle is out of budget.
abbrev pub DrivesAlike : Control → Type 0
DrivesAlike c =
    (lines lines' : List (List ℕ)) (m m' : List ℤ) → AgreeFor c m m' →
    map (settings_of c) lines ≡ map (settings_of c) lines' → AllHalt c m lines → AllHalt c m' lines' →
    DriveAlike c m m' lines lines'

-- The same if the cycles also release the same words, one by one.
abbrev pub ReleasedDrivesAlike : Control → Type 0
ReleasedDrivesAlike c =
    (lines lines' : List (List ℕ)) (m m' : List ℤ) → AgreeFor c m m' →
    map (settings_of c) lines ≡ map (settings_of c) lines' → AllHalt c m lines → AllHalt c m' lines' →
    released_of c m lines ≡ released_of c m' lines' → DriveAlike c m m' lines lines'

-- Lines that set the same give drives that are alike whatever the budget: cycles may be out of budget.
abbrev pub AlwaysAlike : Control → Type 0
AlwaysAlike c =
    (lines lines' : List (List ℕ)) (m m' : List ℤ) → AgreeFor c m m' →
    map (settings_of c) lines ≡ map (settings_of c) lines' → DriveAlike c m m' lines lines'

-- The same if the cycles also release the same words, one by one.
abbrev pub ReleasedAlwaysAlike : Control → Type 0
ReleasedAlwaysAlike c =
    (lines lines' : List (List ℕ)) (m m' : List ℤ) → AgreeFor c m m' →
    map (settings_of c) lines ≡ map (settings_of c) lines' →
    released_of c m lines ≡ released_of c m' lines' → DriveAlike c m m' lines lines'

-- ---- the laws, where nothing is released.

-- Drives are alike for a valid image that is noninterfering.
abbrev pub SameDrives : Type 0
SameDrives =
    (c : Control) → ReleasesNothing c → IsClass c.order c.class → IsValid c.image →
    IsNoninterfering c.known c.order c.image → DrivesAlike c

-- Drives are alike for an image that was compiled over the same classes.
abbrev pub SameCompiledDrives : Type 0
SameCompiledDrives =
    (c : Control) (P : Profile) (text : List ℕ) → ReleasesNothing c → IsClass c.order c.class →
    IsCompiled c.known c.order P text c.image → DrivesAlike c

-- For a valid image whose runs agree in every step, such as a steady one, drives are alike whatever the budget.
abbrev pub SameSteadyDrives : Type 0
SameSteadyDrives =
    (c : Control) → ReleasesNothing c → IsClass c.order c.class → IsValid c.image →
    RunsAlike c.known c.order c.image → AlwaysAlike c

-- ---- the laws, where something is released: two drives differ in nothing else.

-- Drives that release the same are alike for a valid image that is noninterfering.
abbrev pub SameReleasedDrives : Type 0
SameReleasedDrives =
    (c : Control) → IsClass c.order c.class → IsValid c.image → IsNoninterfering c.known c.order c.image →
    ReleasedDrivesAlike c

-- Drives that release the same are alike for an image that was compiled over the same classes.
abbrev pub SameReleasedCompiledDrives : Type 0
SameReleasedCompiledDrives =
    (c : Control) (P : Profile) (text : List ℕ) → IsClass c.order c.class →
    IsCompiled c.known c.order P text c.image → ReleasedDrivesAlike c

-- Drives that release the same are alike for a valid image whose runs agree in every step, whatever the budget.
abbrev pub SameReleasedSteadyDrives : Type 0
SameReleasedSteadyDrives =
    (c : Control) → IsClass c.order c.class → IsValid c.image → RunsAlike c.known c.order c.image →
    ReleasedAlwaysAlike c

-- ---- the laws of views.

-- The words that the run from these words releases, if it halts within this budget.
abbrev pub released_by : Control → ℕ → List ℤ → Option (List ℤ)
released_by c budget m = option_map (released_words c (globals c.image.globals.items)) (last_words c budget m)

-- From stores that agree at and below the class, two runs that halt and release the same words have one view.
abbrev pub ReleasedViewsAlike : Control → Type 0
ReleasedViewsAlike c =
    (m m' : List ℤ) (budget budget' : ℕ) (text text' : List ℕ) → AgreeFor c m m' → view_of c budget m ≡ Some text →
    view_of c budget' m' ≡ Some text' → released_by c budget m ≡ released_by c budget' m' → text ≡ text'

-- From stores that agree at and below the class, two runs that halt have one view.
abbrev pub ViewsAlike : Control → Type 0
ViewsAlike c =
    (m m' : List ℤ) (budget budget' : ℕ) (text text' : List ℕ) → AgreeFor c m m' → view_of c budget m ≡ Some text →
    view_of c budget' m' ≡ Some text' → text ≡ text'

-- Views that release the same are alike for a valid image that is noninterfering.
abbrev pub SameReleasedViews : Type 0
SameReleasedViews =
    (c : Control) → IsClass c.order c.class → IsValid c.image → IsNoninterfering c.known c.order c.image →
    ReleasedViewsAlike c

-- Views that release the same are alike for an image that was compiled over the same classes.
abbrev pub SameReleasedCompiledViews : Type 0
SameReleasedCompiledViews =
    (c : Control) (P : Profile) (text : List ℕ) → IsClass c.order c.class →
    IsCompiled c.known c.order P text c.image → ReleasedViewsAlike c

-- Where nothing is released, views are alike for an image that was compiled over the same classes.
abbrev pub SameCompiledViews : Type 0
SameCompiledViews =
    (c : Control) (P : Profile) (text : List ℕ) → ReleasesNothing c → IsClass c.order c.class →
    IsCompiled c.known c.order P text c.image → ViewsAlike c

-- Without lists the text of a store is the view that a class has of it.
abbrev pub ViewsPlainly : Type 0
ViewsPlainly =
    (c : Control) (words : List ℤ) → c.boundary ≡ no_boundary →
    written_text c words ≡ view_text_of c.known c.order c.class (globals c.image.globals.items) words
