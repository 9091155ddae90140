-- Raises as lines of text.
use Rattle.std.specs.Prelude.{ℕ, ◌-◌, nat_lt, if◌then◌else◌, List, [], ◌++◌, map, length, codes, slice_get, slice_index_or, unwrap_or}
use Rattle.vsi_syntax.specs.Lines.{place_text}
use Rattle.vsi_syntax.specs.Tree.{Declared}
use Rattle.vsi_lattice.specs.declared.lattice.Lattice.{Lattice}
use Rattle.vsi_lattice.specs.LatticeView.{names}
use Rattle.vsi_scope.specs.declared.resolved.Entry.{Entry}
use Rattle.vsi_scope.specs.Program.{Resolved}
use Rattle.vsi_infer.specs.Explanation.{name_of, variable_text}
use Rattle.vsi_flows.specs.declared.least.Raise.{Raise}

-- The name of a class.
abbrev pub class_name : Lattice → ℕ → List ℕ
class_name l c = unwrap_or (slice_get (names l) c) []

-- Where the name of a declaration begins: a global's, or a letvar's.
abbrev pub name_start : List Declared → List Entry → ℕ → ℕ
name_start globals letvars v =
    if nat_lt v (length globals) then slice_index_or (map (λ g. g.name.span.start) globals) v 0
    else slice_index_or (map (λ e. e.span.start) letvars) (v - length globals) 0

-- The beginning of the line of a raise: where the variable is declared, its name and its declared class, and the new one.
abbrev pub change_text : Lattice → List ℕ → ℕ → Resolved → Raise → List ℕ
change_text l source start r raise =
    place_text source start ++ codes " " ++ variable_text l r raise.variable ++ codes " -> " ++ class_name l raise.new

-- The line of a raise: the change, and the variable that forces it.
abbrev pub raise_line : Lattice → List ℕ → List Declared → Resolved → Raise → List ℕ
raise_line l source globals r raise =
    change_text l source (name_start globals r.letvars raise.variable) r raise ++ codes ", since " ++ name_of r raise.cause
    ++ codes " reaches it\n"
