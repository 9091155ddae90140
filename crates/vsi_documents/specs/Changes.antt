-- The differences of two lattices, or of two interfaces, by what each class sees and may do.
use Rattle.std.specs.Prelude.{ℕ, zero, suc, Bool, false, ◌++◌, ◌&&◌, ◌||◌, not, List, [], ◌∷◌, codes, if◌then◌else◌}
use Rattle.vsi_lattice.specs.LatticeView.{order}
use Rattle.vsi_lattice.specs.declared.lattice.Lattice.{Lattice}
use Rattle.vsi_image.specs.Fields.{Global}
use Rattle.vsi_conform.specs.declared.reader.InterfaceFile.{InterfaceFile}
use Rattle.vsi_documents.specs.Roles.{Boundaries, boundaries, has_tables, may, may_drive, verb}
use Rattle.vsi_documents.specs.Rows.{classes_alone, each_below, each_global, name_at}
use Rattle.vsi_documents.specs.declared.roles.Role.{Role}
use Rattle.vsi_documents.specs.declared.roles.Role.TheVariants.{Sees, Sets, Reads, Releases}

-- The line of a global with which a class may do this on one side and not on the other.
abbrev pub role_line : Role → List ℕ → Boundaries → Boundaries → List ℕ → Global → List ℕ
role_line role adverb b other class g =
    if may role b class g.0 && not (may role other class g.0) then
    class ++ adverb ++ verb role ++ codes " " ++ g.0 ++ codes "\n" else []

-- The lines of a class and a role.
abbrev pub role_lines : Role → List ℕ → Boundaries → Boundaries → List ℕ → List ℕ
role_lines role adverb b other class = each_global (role_line role adverb b other class) b.globals

-- The lines of what the class with a number sees.
abbrev pub numbered_seen : List ℕ → Boundaries → Boundaries → ℕ → List ℕ
numbered_seen adverb b other class = role_lines Sees adverb b other (name_at b.lattice class)

-- A line for each class, in the order of the lattice, and each global that it sees on one side and not on the other.
abbrev pub seen_lines : List ℕ → Boundaries → Boundaries → List ℕ
seen_lines adverb b other = each_below (numbered_seen adverb b other) (order b.lattice).count

-- The line of a class that may drive on one side and not on the other.
abbrev pub drive_line : List ℕ → Boundaries → Boundaries → List ℕ → List ℕ
drive_line adverb b other class =
    if may_drive b class && not (may_drive other class) then
    class ++ codes " may" ++ adverb ++ codes "drive\n" else []

-- The lines of a class: whether it may drive, and what it may do.
abbrev pub class_lines : List ℕ → Boundaries → Boundaries → List ℕ → List ℕ
class_lines adverb b other class =
    ((drive_line adverb b other class ++ role_lines Sets adverb b other class)
    ++ role_lines Reads adverb b other class) ++ role_lines Releases adverb b other class

-- The lines of the class with a number.
abbrev pub numbered_lines : List ℕ → Boundaries → Boundaries → ℕ → List ℕ
numbered_lines adverb b other class = class_lines adverb b other (name_at b.lattice class)

-- The lines of all classes, in the order of the lattice.
abbrev pub all_lines : List ℕ → Boundaries → Boundaries → List ℕ
all_lines adverb b other = each_below (numbered_lines adverb b other) (order b.lattice).count

-- The line that says who may drive at all, if only one of the sides has tables.
abbrev pub who_drives : Boundaries → Boundaries → List ℕ
who_drives b old =
    if has_tables b.tables then
    (if has_tables old.tables then [] else codes "only classes with a table may now drive\n")
    else codes "every class may now drive\n"

-- The differences in what classes may do: none if neither side has tables, because then each class sets and reads what it
-- sees.
abbrev pub cycle_changes : Boundaries → Boundaries → List ℕ
cycle_changes b old =
    if has_tables b.tables || has_tables old.tables then
    (who_drives b old ++ all_lines (codes " now ") b old) ++ all_lines (codes " no longer ") old b else []

-- The lines, or a line that says that there are none.
abbrev pub or_unchanged : List ℕ → List ℕ
or_unchanged [] = codes "no class sees more or less than before\n"
or_unchanged (byte ∷ lines) = byte ∷ lines

-- The differences from an older side: in what classes see, new and gone, and then in what they may do.
abbrev pub changes : Boundaries → Boundaries → List ℕ
changes b old =
    or_unchanged
    ((seen_lines (codes " now ") b old ++ seen_lines (codes " no longer ") old b) ++ cycle_changes b old)

-- The differences of an interface from an older one, each with its lattice.
abbrev pub visible_changes : Lattice → InterfaceFile → Lattice → InterfaceFile → List ℕ
visible_changes l a old before = changes (boundaries l a) (boundaries old before)

-- The differences of a lattice from an older one.
abbrev pub seen_changes : Lattice → Lattice → List ℕ
seen_changes l old = changes (classes_alone l) (classes_alone old)

-- ---- whether somebody sees more.

-- The class sees the global, or reads it as an output of its table.
abbrev pub is_shown : Boundaries → List ℕ → List ℕ → Bool
is_shown b class name = may Sees b class name || may Reads b class name

-- The class sees or reads one of these globals, and neither saw nor read it on the older side.
abbrev pub gains : Boundaries → Boundaries → List ℕ → List Global → Bool
gains b old class [] = false
gains b old class (g ∷ gs) = (is_shown b class g.0 && not (is_shown old class g.0)) || gains b old class gs

-- One of the classes with the numbers below a count does so.
abbrev pub some_gains : Boundaries → Boundaries → ℕ → Bool
some_gains b old zero = false
some_gains b old (suc n) = some_gains b old n || gains b old (name_at b.lattice n) b.globals

-- Some class sees more: it sees or reads a global that it neither saw nor read on the older side.
abbrev pub sees_more : Boundaries → Boundaries → Bool
sees_more b old = some_gains b old (order b.lattice).count

-- The same of an interface and an older one, each with its lattice.
abbrev pub interface_sees_more : Lattice → InterfaceFile → Lattice → InterfaceFile → Bool
interface_sees_more l a old before = sees_more (boundaries l a) (boundaries old before)

-- The same of a lattice and an older one: some class sees another that it didn't see.
abbrev pub lattice_sees_more : Lattice → Lattice → Bool
lattice_sees_more l old = sees_more (classes_alone l) (classes_alone old)
