-- The output of `policy`, with or without `--json`, given the contents of its files.
use Rattle.std.specs.Prelude.{◌≡◌, ◌&&◌, ℕ, Bool, true, false, not, List, Option, Some, None}
use Rattle.std.specs.Borrow.{Bor}
use Rattle.std.specs.Global.{Vec}
use Rattle.vsi_lattice.specs.declared.lattice.Lattice.{Lattice}
use Rattle.vsi_documents.specs.Changes.{lattice_sees_more, seen_changes}
use Rattle.vsi_documents.specs.Rows.{seen_table}
use Rattle.vsi_arguments.specs.declared.request.Looking.{Looking}
use Rattle.vsi_subject.specs.Holding.{Holding, IsLatticeAt}

-- The answer has these lines, if it isn't a line of JSON.
abbrev pub IsInLines : Bool → List ℕ → List ℕ → Type 0
IsInLines is_json lines text = is_json ≡ false → text ≡ lines

-- The differences of a lattice from that of an older file: they are good, unless with `--deny` some class sees more.
pub record TellsPolicyChanges (is_json : Bool) (holds : Holding) (path : List ℕ) (is_denying : Bool) (l : Lattice) (good : Bool)
    (text : List ℕ) : Type 0 where
  pub old : Lattice
  pub declared : IsLatticeAt holds path old
  pub verdict : good ≡ not (is_denying && lattice_sees_more l old)
  pub is : IsInLines is_json (seen_changes l old) text

-- The table of a lattice, which is good, or its differences from the lattice of an older file.
abbrev pub ToldPolicy : Bool → Holding → Option (Bor (List ℕ)) → Bool → Lattice → Bool → List ℕ → Type 0
ToldPolicy is_json holds None is_denying l good text = (good ≡ true) × IsInLines is_json (seen_table l) text
ToldPolicy is_json holds (Some path) is_denying l good text = TellsPolicyChanges is_json holds path.now is_denying l good text

-- The text says which classes each class sees under the lattice of a file.
pub record SeesFiles (is_json : Bool) (holds : Holding) (p : Looking) (good : Bool) (text : Vec ℕ) : Type 0 where
  pub lattice : Lattice
  pub declared : IsLatticeAt holds p.lattice.now lattice
  pub told : ToldPolicy is_json holds p.old p.is_denying lattice good text.items
