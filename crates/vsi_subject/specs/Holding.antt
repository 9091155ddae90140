-- The contents of files, and the bytes read from them.
use Rattle.std.specs.Prelude.{◌≡◌, ◌≢◌, ◌++◌, ℕ, true, List, [], Option, Some, None, IfSome, codes}
use Rattle.std.specs.Borrow.{Bor}
use Rattle.vsi_lattice.specs.declared.lattice.Lattice.{Lattice}
use Rattle.vsi_image.specs.declared.instr.Image.{Image}
use Rattle.vsi_drive.specs.Engine.{IsReadFrom}
use Rattle.vsi_answers.specs.Judged.{AreImage, Declares}
use Rattle.vsi_store.specs.Seal.{is_whole}

-- The bytes of the file at each path, if they are known.
abbrev pub Holding : Type 0
Holding = List ℕ → Option (List ℕ)

-- These bytes are read from the file at a path: all of its bytes, or as many as the limit, if they are known.
abbrev pub IsReadAt : Holding → List ℕ → List ℕ → Type 0
IsReadAt holds path bytes = IsReadFrom (holds path) bytes

-- The file at the path declares the lattice.
pub record IsLatticeAt (holds : Holding) (path : List ℕ) (lattice : Lattice) : Type 0 where
  pub policy : List ℕ
  pub read : IsReadAt holds path policy
  pub declared : Declares policy lattice

-- The file at the path is that of the valid image.
pub record IsImageAt (holds : Holding) (path : List ℕ) (image : Image) : Type 0 where
  pub bytes : List ℕ
  pub read : IsReadAt holds path bytes
  pub are : AreImage bytes image

-- These are the bytes of a store file, which is whole: its first line, if it is a checksum, is that of the rest.
-- Without a path there are none.
abbrev pub IsStoreAt : Holding → Option (Bor (List ℕ)) → List ℕ → Type 0
IsStoreAt holds None bytes = bytes ≡ []
IsStoreAt holds (Some path) bytes = IsReadAt holds path.now bytes × (is_whole bytes ≡ true)

-- ---- what is put into them.

-- The file at the path holds these bytes, if its contents are known.
abbrev pub HoldsAt : Holding → List ℕ → List ℕ → Type 0
HoldsAt holds path bytes = IfSome (holds path) (λ held. held ≡ bytes)

-- Each file but the one at the path is unchanged.
abbrev pub KeepsOthers : List ℕ → Holding → Holding → Type 0
KeepsOthers path old new = (other : List ℕ) → other ≢ path → new other ≡ old other

-- The file at the path has been filled with these bytes.
pub record Fills (path bytes : List ℕ) (old new : Holding) : Type 0 where
  pub filled : HoldsAt new path bytes
  pub others : KeepsOthers path old new

-- The file at the path has been replaced by one of these bytes, which was filled beside it under its name with `.new`
-- appended.
pub record Replaces (path bytes : List ℕ) (old new : Holding) : Type 0 where
  pub filled : HoldsAt new path bytes
  pub others : (other : List ℕ) → other ≢ path → other ≢ path ++ codes ".new" → new other ≡ old other

-- A text has been put into the requested file, and no file has been touched if none is requested.
abbrev pub Delivers : Option (Bor (List ℕ)) → List ℕ → Holding → Holding → Type 0
Delivers None text old new = new ≡ old
Delivers (Some path) text old new = Replaces path.now text old new
