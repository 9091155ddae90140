-- The interface that a file holds, and its lattice.
use Rattle.std.specs.Prelude.{◌≡◌, ℕ, List}
use Rattle.std.specs.Global.{Vec}
use Rattle.std.specs.Str.Lossy.{utf8_lossy}
use Rattle.vsi_lattice.specs.declared.lattice.Lattice.{Lattice}
use Rattle.vsi_conform.specs.Beside.{IsInside, beside}
use Rattle.vsi_conform.specs.Reading.{IsReadAs}
use Rattle.vsi_conform.specs.declared.reader.InterfaceFile.{InterfaceFile}
use Rattle.vsi_conform.specs.declared.reader.Policy.{Policy}
use Rattle.vsi_conform.specs.declared.reader.Policy.TheVariants.{File, Tables}
use Rattle.vsi_answers.specs.Judged.{Declares}
use Rattle.vsi_subject.specs.Holding.{Holding, IsLatticeAt, IsReadAt}

-- The request that the interface in a file makes, whose lattice file, if there is one, isn't outside its folder.
pub record IsAskedAt (holds : Holding) (path : List ℕ) (asked : InterfaceFile) : Type 0 where
  pub bytes : List ℕ
  pub read : IsReadAt holds path bytes
  pub is : IsReadAs bytes asked
  pub inside : IsInside asked.policy

-- The path of a file that an interface names, as it is opened.
abbrev pub named_path : List ℕ → Vec ℕ → List ℕ
named_path interface path = utf8_lossy (beside interface path.items)

-- The lattice of an interface: that of the file that it names, or of its own tables.
abbrev pub IsPolicyAt : Holding → List ℕ → Policy → Lattice → Type 0
IsPolicyAt holds interface (File path) l = IsLatticeAt holds (named_path interface path) l
IsPolicyAt holds interface (Tables text) l = Declares text.items l

-- The bytes of an interface's lattice: those of the file that it names, or of its own tables.
abbrev pub ArePolicyBytes : Holding → List ℕ → Policy → List ℕ → Type 0
ArePolicyBytes holds interface (File path) bytes = IsReadAt holds (named_path interface path) bytes
ArePolicyBytes holds interface (Tables text) bytes = bytes ≡ text.items
