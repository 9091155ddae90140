-- The globals that a class sees, sets, reads and releases.
use Rattle.std.specs.Prelude.{ℕ, Bool, true, false, not, ◌&&◌, ◌||◌, List, [], ◌∷◌, Option, Some, None, is_some, map, codes, bytes_eq, if◌then◌else◌}
use Rattle.std.specs.Option.{option_map_or}
use Rattle.vsi_lattice.specs.LatticeView.{class_named, order}
use Rattle.vsi_lattice.specs.declared.lattice.Lattice.{Lattice}
use Rattle.vsi_image.specs.Fields.{Global, globals}
use Rattle.vsi_conform.specs.Asked.{class_of}
use Rattle.vsi_conform.specs.Reading.{ClassBoundary, cycle, is_among}
use Rattle.vsi_conform.specs.declared.reader.InterfaceFile.{InterfaceFile}
use Rattle.vsi_documents.specs.declared.roles.Role.{Role}
use Rattle.vsi_documents.specs.declared.roles.Side.{Side}
use Rattle.vsi_documents.specs.declared.roles.Role.TheVariants.{Sees, Sets, Reads, Releases}

-- A lattice, globals with their classes, and the tables of `cycle` of an interface.
pub record Boundaries : Type 0 where
  pub lattice : Lattice
  pub globals : List Global
  pub tables : List ClassBoundary

-- The boundaries of an interface file.
abbrev pub boundaries : Lattice → InterfaceFile → Boundaries
boundaries l a =
    record { lattice = l; globals = globals a.interface.globals.items; tables = map cycle a.cycles.items }

-- A lattice alone, with these globals and without tables.
abbrev pub alone : Lattice → List Global → Boundaries
alone l gs = record { lattice = l; globals = gs; tables = [] }

-- Those of the code, as a value of these definitions.
abbrev pub view : Side → Boundaries
view s = record { lattice = s.lattice.now; globals = globals s.globals.now; tables = map cycle s.cycles.now }

-- The class of one name sees that of another, which is at or below it; a name without a class sees nothing and isn't
-- seen.
abbrev pub sees_class : Lattice → List ℕ → List ℕ → Bool
sees_class l viewer seen =
    option_map_or (λ a. option_map_or (λ b. (order l).leq b a) (class_named l seen) false) (class_named l viewer) false

-- A class sees the globals whose class it sees; a name without a global isn't seen.
abbrev pub sees : Boundaries → List ℕ → List ℕ → Bool
sees b class name = option_map_or (λ found. sees_class b.lattice class found) (class_of b.globals name) false

-- The table of a class.
abbrev pub table_of : List ClassBoundary → List ℕ → Option ClassBoundary
table_of [] class = None
table_of (t ∷ ts) class = if bytes_eq t.class class then Some t else table_of ts class

-- There are tables.
abbrev pub has_tables : List ClassBoundary → Bool
has_tables [] = false
has_tables (t ∷ ts) = true

-- A class may drive if it has a table; where there are no tables, each class of the lattice may.
abbrev pub may_drive : Boundaries → List ℕ → Bool
may_drive b class =
    if has_tables b.tables then is_some (table_of b.tables class) else is_some (class_named b.lattice class)

-- A name is in a list; without a list, if it is one of those that are meant.
abbrev pub is_listed : Option (List (List ℕ)) → Bool → List ℕ → Bool
is_listed None is_meant name = is_meant
is_listed (Some names) is_meant name = is_among names name

-- The class of a table sets its inputs, without a list all globals that it sees; it reads its outputs, without a list
-- those that it sees or that are released; and it releases the released.
abbrev pub allows : Role → ClassBoundary → Bool → List ℕ → Bool
allows Sees t is_seen name = is_seen
allows Sets t is_seen name = is_listed t.inputs is_seen name
allows Reads t is_seen name = is_listed t.outputs (is_seen || is_among t.released name) name
allows Releases t is_seen name = is_among t.released name

-- A role is one of those that a class has without tables: it sets and reads the globals that it sees, and none is released.
abbrev pub needs_table : Role → Bool
needs_table Sees = false
needs_table Sets = false
needs_table Reads = false
needs_table Releases = true

-- If there are tables, they rule what a class does with a global; a class without one does nothing.
abbrev pub is_allowed : Role → List ClassBoundary → List ℕ → Bool → List ℕ → Bool
is_allowed role tables class is_seen name =
    if has_tables tables then option_map_or (λ t. allows role t is_seen name) (table_of tables class) false
    else is_seen && not (needs_table role)

-- A class may do this with a global. No table changes what a class sees.
abbrev pub may : Role → Boundaries → List ℕ → List ℕ → Bool
may Sees b class name = sees b class name
may Sets b class name = is_allowed Sets b.tables class (sees b class name) name
may Reads b class name = is_allowed Reads b.tables class (sees b class name) name
may Releases b class name = is_allowed Releases b.tables class (sees b class name) name

-- The verb of a role.
abbrev pub verb : Role → List ℕ
verb Sees = codes "sees"
verb Sets = codes "sets"
verb Reads = codes "reads"
verb Releases = codes "releases"
