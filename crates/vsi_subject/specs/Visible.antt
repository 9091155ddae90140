-- The output of `policy --interface`, with or without `--json`, given the contents of its files.
use Rattle.std.specs.Prelude.{◌≡◌, ◌&&◌, ℕ, Bool, true, not, List, Option, Some, None}
use Rattle.std.specs.Borrow.{Bor}
use Rattle.std.specs.Global.{Vec}
use Rattle.vsi_lattice.specs.declared.lattice.Lattice.{Lattice}
use Rattle.vsi_conform.specs.declared.reader.InterfaceFile.{InterfaceFile}
use Rattle.vsi_documents.specs.Changes.{interface_sees_more, visible_changes}
use Rattle.vsi_documents.specs.Rows.{visible_table}
use Rattle.vsi_arguments.specs.declared.request.Visibility.{Visibility}
use Rattle.vsi_subject.specs.Holding.{Holding}
use Rattle.vsi_subject.specs.Interfaces.{IsAskedAt, IsPolicyAt}
use Rattle.vsi_subject.specs.Seeing.{IsInLines}

-- The differences of an interface from that of an older file, each with its lattice: they are good, unless with `--deny`
-- some class sees more.
pub record DiffersFrom (is_json : Bool) (holds : Holding) (path : List ℕ) (is_denying : Bool) (a : InterfaceFile)
    (l : Lattice) (good : Bool) (text : List ℕ) : Type 0 where
  pub old : InterfaceFile
  pub asked : IsAskedAt holds path old
  pub lattice : Lattice
  pub declared : IsPolicyAt holds path old.policy lattice
  pub verdict : good ≡ not (is_denying && interface_sees_more l a lattice old)
  pub is : IsInLines is_json (visible_changes l a lattice old) text

-- The table of an interface with its lattice, which is good, or its differences from the interface of an older file.
abbrev pub ToldVisible : Bool → Holding → Option (Bor (List ℕ)) → Bool → InterfaceFile → Lattice → Bool → List ℕ → Type 0
ToldVisible is_json holds None is_denying a l good text = (good ≡ true) × IsInLines is_json (visible_table l a) text
ToldVisible is_json holds (Some path) is_denying a l good text =
    DiffersFrom is_json holds path.now is_denying a l good text

-- The text says which globals each class sees, sets, reads and releases under the interface of a file.
pub record ShowsFiles (is_json : Bool) (holds : Holding) (v : Visibility) (good : Bool) (text : Vec ℕ) : Type 0 where
  pub asked : InterfaceFile
  pub interface : IsAskedAt holds v.interface.now asked
  pub lattice : Lattice
  pub declared : IsPolicyAt holds v.interface.now asked.policy lattice
  pub told : ToldVisible is_json holds v.old v.is_denying asked lattice good text.items
