-- The file that receives the store of a drive.
use Rattle.std.specs.Prelude.{◌≡◌, ◌≢◌, ◌++◌, ℕ, ℤ, List, Option, Some, None, codes}
use Rattle.std.specs.Borrow.{Bor}
use Rattle.vsi_image.specs.Fields.{globals}
use Rattle.vsi_image.specs.declared.instr.Image.{Image}
use Rattle.vsi_store.specs.Seal.{sealed}
use Rattle.vsi_store.specs.Text.{store_text_of}
use Rattle.vsi_subject.specs.Holding.{Holding, HoldsAt}

-- The text that is saved of a store, after the line with its checksum.
abbrev pub state_text : Image → List ℤ → List ℕ
state_text image words = sealed (store_text_of (globals image.globals.items) words)

-- The requested file holds the text, if its contents are known.
abbrev pub HoldsState : Option (Bor (List ℕ)) → List ℕ → Holding → Type 0
HoldsState None text left = Unit {0}
HoldsState (Some path) text left = HoldsAt left path.now text

-- The requested file is as it was.
abbrev pub StaysAt : Option (Bor (List ℕ)) → Holding → Holding → Type 0
StaysAt None old new = Unit {0}
StaysAt (Some path) old new = new path.now ≡ old path.now

-- No file has changed but the requested one, and the one that is filled beside it.
abbrev pub Touches : Option (Bor (List ℕ)) → Holding → Holding → Type 0
Touches None old new = new ≡ old
Touches (Some path) old new =
    (other : List ℕ) → other ≢ path.now → other ≢ path.now ++ codes ".new" → new other ≡ old other

-- The requested file is as it was, and so is each other one but the one that is filled beside it.
abbrev pub StaysBeside : Option (Bor (List ℕ)) → Holding → Holding → Type 0
StaysBeside path old new = StaysAt path old new × Touches path old new
