-- The tables of what each class sees, sets, reads and releases.
use Rattle.std.specs.Prelude.{ℕ, zero, suc, ◌++◌, Bool, false, ◌||◌, List, [], ◌∷◌, is_some, get_or, codes, bytes_eq, if◌then◌else◌}
use Rattle.vsi_lattice.specs.LatticeView.{names, order}
use Rattle.vsi_lattice.specs.declared.lattice.Lattice.{Lattice}
use Rattle.vsi_image.specs.Fields.{Global, globals}
use Rattle.vsi_conform.specs.declared.interface.Interface.{Interface}
use Rattle.vsi_conform.specs.declared.reader.InterfaceFile.{InterfaceFile}
use Rattle.vsi_documents.specs.Roles.{Boundaries, alone, boundaries, may, table_of, verb}
use Rattle.vsi_documents.specs.declared.roles.Role.{Role}
use Rattle.vsi_documents.specs.declared.roles.Role.TheVariants.{Sees, Sets, Reads, Releases}

-- The texts of the numbers below a count, in order.
abbrev pub each_below : (ℕ → List ℕ) → ℕ → List ℕ
each_below text zero = []
each_below text (suc n) = each_below text n ++ text n

-- The texts of some globals, in their order.
abbrev pub each_global : (Global → List ℕ) → List Global → List ℕ
each_global text [] = []
each_global text (g ∷ gs) = text g ++ each_global text gs

-- The name of the class with this number.
abbrev pub name_at : Lattice → ℕ → List ℕ
name_at l class = get_or (names l) class []

-- ---- the rows.

-- The name of a global, after a space, if the class may do this with it.
abbrev pub role_part : Role → Boundaries → List ℕ → Global → List ℕ
role_part role b class g = if may role b class g.0 then codes " " ++ g.0 else []

-- The row of a class and a role: the names of exactly the globals with which the class may do this.
abbrev pub role_row : Role → Boundaries → List ℕ → List ℕ
role_row role b class =
    (class ++ codes " " ++ verb role) ++ (each_global (role_part role b class) b.globals ++ codes "\n")

-- The row of the class with a number: what it sees.
abbrev pub seen_row : Boundaries → ℕ → List ℕ
seen_row b class = role_row Sees b (name_at b.lattice class)

-- A row for each class, in the order of the lattice: what it sees.
abbrev pub seen_rows : Boundaries → List ℕ
seen_rows b = each_below (seen_row b) (order b.lattice).count

-- The rows of a class, if it has a table.
abbrev pub class_rows : Boundaries → List ℕ → List ℕ
class_rows b class =
    if is_some (table_of b.tables class) then
    (role_row Sets b class ++ role_row Reads b class) ++ role_row Releases b class else []

-- The rows of the class with a number, if it has a table.
abbrev pub numbered_rows : Boundaries → ℕ → List ℕ
numbered_rows b class = class_rows b (name_at b.lattice class)

-- The rows of all classes with tables, in the order of the lattice.
abbrev pub cycle_rows : Boundaries → List ℕ
cycle_rows b = each_below (numbered_rows b) (order b.lattice).count

-- ---- the tables.

-- The table of an interface: what each class sees, and then the rows of the tables of `cycle`.
abbrev pub visible_table : Lattice → InterfaceFile → List ℕ
visible_table l a = seen_rows (boundaries l a) ++ cycle_rows (boundaries l a)

-- The classes with the numbers below a count as globals, each of the class that it is.
abbrev pub globals_below : Lattice → ℕ → List Global
globals_below l zero = []
globals_below l (suc n) = globals_below l n ++ (name_at l n, name_at l n) ∷ []

-- A lattice alone: its classes as globals, and no tables.
abbrev pub classes_alone : Lattice → Boundaries
classes_alone l = alone l (globals_below l (order l).count)

-- The table of a lattice: for each class, in the order of the file, the names of exactly the classes that it sees.
abbrev pub seen_table : Lattice → List ℕ
seen_table l = seen_rows (classes_alone l)

-- ---- the warnings.

-- One of the globals has the class of this name.
abbrev pub is_used : List Global → List ℕ → Bool
is_used [] class = false
is_used (g ∷ gs) class = bytes_eq g.1 class || is_used gs class

-- The warning about a class, if no global has it.
abbrev pub unused_line : List Global → List ℕ → List ℕ
unused_line gs class =
    if is_used gs class then [] else codes "warning: no global has the class " ++ class ++ codes "\n"

-- The warning about the class with a number.
abbrev pub numbered_warning : Lattice → List Global → ℕ → List ℕ
numbered_warning l gs class = unused_line gs (name_at l class)

-- The warnings, in the order of the lattice.
abbrev pub unused_warnings : Lattice → Interface → List ℕ
unused_warnings l i = each_below (numbered_warning l (globals i.globals.items)) (order l).count
