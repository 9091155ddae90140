-- The flows of a program by each of the rules, as rows.
use Rattle.std.specs.Prelude.{ℕ, Bool}
use Rattle.vsi_types.specs.declared.rules.Profile.{Profile}
use Rattle.vsi_types.specs.declared.rules.Rule.{Rule}
use Rattle.vsi_types.specs.declared.rules.Rule.TheVariants as typing
use Rattle.vsi_types.specs.Security.{Program}
use Rattle.vsi_infer.specs.declared.flows.FlowRows.{FlowRows}
use Rattle.vsi_infer.specs.Flowing.{AreFlowsBy}
use Rattle.vsi_infer.specs.FlowRows.{flow_has}
use Rattle.vsi_report.specs.declared.facts.Flows.{Flows}

-- The rows of a rule.
abbrev pub rows_of : Flows → Rule → FlowRows
rows_of f typing.Assign = f.assignments
rows_of f typing.If = f.choices
rows_of f typing.While = f.loops
rows_of f typing.Letvar = f.letvars
rows_of f typing.Loop = f.endings

-- The rows of the rule have a flow from a to b.
abbrev pub flows_in_rows : Flows → Rule → ℕ → ℕ → Bool
flows_in_rows f R a b = flow_has (rows_of f R).rows.items b a

-- These are the flows of the program by each rule.
abbrev pub HasFlows : Profile → Program → Flows → Type 0
HasFlows P p f = (R : Rule) → AreFlowsBy R P p (flows_in_rows f R)
