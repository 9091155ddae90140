-- The text of a walk.
use Rattle.std.specs.Prelude.{ℕ, ◌-◌, ◌==◌, nat_lt, if◌then◌else◌, List, [], ◌∷◌, ◌++◌, map, length, Option, Some, None, codes, slice_index_or}
use Rattle.std.specs.List.{flat_map}
use Rattle.vsi_syntax.specs.Lines.{place_text}
use Rattle.vsi_lattice.specs.declared.lattice.Lattice.{Lattice}
use Rattle.vsi_lattice.specs.LatticeView.{names, order}
use Rattle.vsi_scope.specs.Program.{Resolved}
use Rattle.vsi_types.specs.declared.rules.Rule.{Rule}
use Rattle.vsi_types.specs.declared.rules.Rule.TheVariants.{Assign, If, While, Letvar, Loop}
use Rattle.vsi_types.specs.declared.rules.Step.{Step}
use Rattle.vsi_types.specs.Steps.{sink}
use Rattle.vsi_types.specs.Security.{program}
use Rattle.vsi_types.specs.Walks.{declared_class, last_target}

-- The name of a rule.
abbrev pub rule_text : Rule → List ℕ
rule_text Assign = codes "ASSIGN"
rule_text If = codes "IF"
rule_text While = codes "WHILE"
rule_text Letvar = codes "LETVAR"
rule_text Loop = codes "LOOP"

-- The name of a variable; the ending of a loop has none, and a fixed text is used.
abbrev pub name_of : Resolved → ℕ → List ℕ
name_of r v =
    if v == sink then codes "(loop)"
    else if nat_lt v (length r.globals) then slice_index_or (map (λ g. g.name.now) r.globals) v []
    else slice_index_or (map (λ e. e.name.now) r.letvars) (v - length r.globals) []

-- The name of a declared class.
abbrev pub class_text : Lattice → Option ℕ → List ℕ
class_text l None = []
class_text l (Some c) = slice_index_or (names l) c []

-- The name of a variable, and the name of its declared class.
abbrev pub variable_text : Lattice → Resolved → ℕ → List ℕ
variable_text l r v = name_of r v ++ codes " : " ++ class_text l (declared_class (order l) (program r) v)

-- The line of a step.
abbrev pub step_line : List ℕ → Resolved → Step → List ℕ
step_line source r s =
    place_text source s.read.start ++ codes " " ++ name_of r s.source ++ codes " flows to " ++ name_of r s.target
    ++ codes " by " ++ rule_text s.rule ++ codes " at " ++ place_text source s.written.start ++ codes "\n"

-- The last line: the first and the last variable of a walk.
abbrev pub last_text : Lattice → Resolved → ℕ → ℕ → List ℕ
last_text l r v w = variable_text l r v ++ codes " may not flow to " ++ variable_text l r w ++ codes "\n"

-- The lines of a walk.
abbrev pub explanation : Lattice → List ℕ → Resolved → List Step → List ℕ
explanation l source r [] = []
explanation l source r (s ∷ rest) =
    flat_map (step_line source r) (s ∷ rest) ++ last_text l r s.source (last_target s rest)
