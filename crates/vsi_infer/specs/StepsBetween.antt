-- The steps of a list that lead from one variable to another, by any rule and by one.
use Rattle.std.specs.Prelude.{ℕ, ◌==◌, ◌&&◌, Bool, true, false, List}
use Rattle.std.specs.List.{list_any}
use Rattle.vsi_types.specs.declared.rules.Rule.{Rule}
use Rattle.vsi_types.specs.declared.rules.Rule.TheVariants as typing
use Rattle.vsi_types.specs.declared.rules.Step.{Step}

-- The step goes from a to b.
abbrev pub leads_between : ℕ → ℕ → Step → Bool
leads_between a b s = (s.source == a) && (s.target == b)

-- Some step of the list goes from a to b.
abbrev pub has_step : List Step → ℕ → ℕ → Bool
has_step ss a b = list_any (leads_between a b) ss

-- Two rules are equal.
abbrev pub same_rule : Rule → Rule → Bool
same_rule typing.Assign typing.Assign = true
same_rule typing.If typing.If = true
same_rule typing.While typing.While = true
same_rule typing.Letvar typing.Letvar = true
same_rule typing.Loop typing.Loop = true
same_rule _ _ = false

-- The step goes from a to b by the rule.
abbrev pub leads_by : Rule → ℕ → ℕ → Step → Bool
leads_by R a b s = same_rule R s.rule && leads_between a b s

-- Some step of the list goes from a to b by the rule.
abbrev pub has_step_by : List Step → Rule → ℕ → ℕ → Bool
has_step_by ss R a b = list_any (leads_by R a b) ss
