-- The texts about a refused flow.
use Rattle.std.specs.Prelude.{ℕ, List, ◌++◌, codes, decimal}
use Rattle.vsi_lattice.specs.declared.lattice.Lattice.{Lattice}
use Rattle.vsi_scope.specs.Program.{Resolved}
use Rattle.vsi_types.specs.declared.rules.Step.{Step}
use Rattle.vsi_infer.specs.Explanation.{name_of, rule_text, variable_text}

-- The message of a step that writes at a line and a column: its two variables, its rule and that position.
abbrev pub step_text : Resolved → Step → ℕ → ℕ → List ℕ
step_text r s line column =
    name_of r s.source ++ codes " flows to " ++ name_of r s.target ++ codes " by " ++ rule_text s.rule ++ codes " at "
    ++ decimal line ++ codes ":" ++ decimal column

-- The message of a refused flow: the variables at its ends with their declared classes.
abbrev pub ends_text : Lattice → Resolved → ℕ → ℕ → List ℕ
ends_text l r a b = variable_text l r a ++ codes " may not flow to " ++ variable_text l r b
