-- The store that a drive begins with.
use Rattle.std.specs.Prelude.{◌≡◌, ◌⊎◌, ℕ, ℤ, true, List, Option, None, is_some, IsSomeAnd}
use Rattle.std.specs.Borrow.{Bor}
use Rattle.vsi_image.specs.declared.instr.Image.{Image}
use Rattle.vsi_arguments.specs.declared.request.Driving.{Driving}
use Rattle.vsi_subject.specs.Files.{IsFullAt, IsStoredAt}
use Rattle.vsi_subject.specs.Holding.{Holding}

-- A first start: the path is that of the start store, which is given, and at the path of the store no file is known.
pub record IsFirstStart (holds : Holding) (d : Driving) (path : Option (Bor (List ℕ))) : Type 0 where
  pub given : is_some d.start ≡ true
  pub is : path ≡ d.start
  pub lacks : IsSomeAnd d.execution.store (λ store. holds store.now ≡ None)

-- A drive begins with the store file at this path: that of its store, or at a first start that of its start store.
abbrev pub IsBegunFrom : Holding → Driving → Option (Bor (List ℕ)) → Type 0
IsBegunFrom holds d path = (path ≡ d.execution.store) ⊎ IsFirstStart holds d path

-- A drive of an image begins with the numbers of its store file, or at a first start with those of its start store. The
-- file has a key for each global, if this is required.
pub record IsBegun (holds : Holding) (d : Driving) (im : Image) (words : List ℤ) : Type 0 where
  pub path : Option (Bor (List ℕ))
  pub from : IsBegunFrom holds d path
  pub stored : IsStoredAt holds path im words
  pub full : IsFullAt holds path im d.is_full
