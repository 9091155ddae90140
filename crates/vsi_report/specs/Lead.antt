-- The first sentences of a banner: the ends and the steps of a refused walk, and the counts of the pairs.
use Rattle.std.specs.Prelude.{◌≡◌, ℕ, ◌+◌, ◌%◌, ◌==◌, if◌then◌else◌, cond, List, [], ◌∷◌, ◌++◌, length, Some, codes, decimal}
use Rattle.vsi_lattice.specs.declared.lattice.Lattice.{Lattice}
use Rattle.vsi_lattice.specs.LatticeView.{class_named, names, order}
use Rattle.vsi_scope.specs.Program.{Resolved}
use Rattle.vsi_types.specs.declared.rules.Profile.{Profile}
use Rattle.vsi_types.specs.declared.rules.Step.{Step}
use Rattle.vsi_types.specs.Security.{program}
use Rattle.vsi_types.specs.Steps.{sink}
use Rattle.vsi_types.specs.Walks.{declared_class, last_target}
use Rattle.vsi_infer.specs.Explanation.{name_of}
use Rattle.vsi_compiler.specs.Refusal.{HasShortestBadWalk}
use Rattle.vsi_compiler.specs.Stands.{Stands}
use Rattle.vsi_flows.specs.declared.table.Pair.{Pair}
use Rattle.vsi_flows.specs.Table.{IsTable}
use Rattle.vsi_report.specs.declared.banner.Lead.{Lead}
use Rattle.vsi_report.specs.declared.facts.Variable.{Variable}
use Rattle.vsi_report.specs.declared.page.Verdict.TheVariants as verdicts
use Rattle.vsi_report.specs.Banner.{HasLead}
use Rattle.vsi_report.specs.Escape.{escaped}
use Rattle.vsi_report.specs.Filled.{fill}
use Rattle.vsi_report.specs.Graph.{name_at}

-- The first text for one thing, the second for several.
abbrev pub plural : ℕ → List ℕ → List ℕ → List ℕ
plural n one more = if n == 1 then one else more

-- The first sentence about a refused text: the ends of the walk, each with its class, and the number of its steps.
abbrev pub ends_words : Lead → List ℕ
ends_words l =
    fill
    (codes "<p class=\"lead\"><b class=\"k%0\">%1</b> <span class=\"chip k%0\">%2</span> "
    ++ codes "reaches <b class=\"k%3\">%4</b> <span class=\"chip k%3\">%5</span> in %6%7")
    (decimal (l.source.class % 8) ∷ escaped l.source.name.now ∷ escaped l.source.class_name.now
    ∷ decimal (l.target.class % 8) ∷ escaped l.target.name.now ∷ escaped l.target.class_name.now
    ∷ decimal l.steps ∷ plural l.steps (codes " step.\n") (codes " steps.\n") ∷ [])

-- The second sentence: the counts of the pairs.
abbrev pub counts_words : Lead → List ℕ
counts_words l =
    fill (codes "%0 of %1 %2 %3 refused.</p>\n")
    (decimal l.refused ∷ decimal l.pairs ∷ plural l.pairs (codes "flow") (codes "flows")
    ∷ plural l.refused (codes "is") (codes "are") ∷ [])

-- The first sentences about a refused text.
abbrev pub lead_words : Lead → List ℕ
lead_words l = ends_words l ++ counts_words l

-- The sentence about the pairs of an accepted text.
abbrev pub allowed_words : ℕ → List ℕ
allowed_words n =
    if n == 0 then
    codes "<p class=\"lead\">No declared variable flows to another: if runs halt, no global depends on another.</p>\n"
    else if n == 1 then
    codes "<p class=\"lead\">The only flow is allowed.</p>\n"
    else fill (codes "<p class=\"lead\">All %0 flows are allowed.</p>\n") (decimal n ∷ [])

-- The first variable of a walk.
abbrev pub first_of : List Step → ℕ
first_of [] = sink
first_of (s ∷ rest) = s.source

-- The last variable of a walk.
abbrev pub last_of : List Step → ℕ
last_of [] = sink
last_of (s ∷ rest) = last_target s rest

-- The number of refused pairs.
abbrev pub refused_of : List Pair → ℕ
refused_of [] = 0
refused_of (r ∷ rest) = cond r.allowed 0 1 + refused_of rest

-- The end has the name of the variable and, if the program declares a class for it, that class with its name.
pub record IsEnd (l : Lattice) (r : Resolved) (v : ℕ) (e : Variable) : Type 0 where
  pub named : e.name.now ≡ name_of r v
  pub class : (c : ℕ) → declared_class (order l) (program r) v ≡ Some c → e.class ≡ c
  pub class_named : e.class_name.now ≡ name_at (names l) e.class

-- The ends and the number of steps are those of the walk, and the counts are those of the pairs.
pub record IsLead (l : Lattice) (r : Resolved) (steps : List Step) (pairs : List Pair) (lead : Lead) : Type 0 where
  pub source : IsEnd l r (first_of steps) lead.source
  pub target : IsEnd l r (last_of steps) lead.target
  pub long : lead.steps ≡ length steps
  pub refused : lead.refused ≡ refused_of pairs
  pub all : lead.pairs ≡ length pairs

-- The page of a refused text begins with these facts of a program.
pub record HasTrueLead (l : Lattice) (r : Resolved) (steps : List Step) (pairs : List Pair) (page : List ℕ) :
    Type 0 where
  pub lead : Lead
  pub is : IsLead l r steps pairs lead
  pub shown : HasLead verdicts.Refused (lead_words lead) page

-- The banner begins with the ends and the steps of a shortest walk for which the text is refused, and with the counts
-- of the pairs of its table of flows.
pub record TellsRefusal (l : Lattice) (P : Profile) (text page : List ℕ) : Type 0 where
  pub steps : List Step
  pub walk : HasShortestBadWalk (class_named l) (order l) P text steps
  pub resolved : Resolved
  pub stands : Stands (class_named l) text resolved
  pub pairs : List Pair
  pub table : IsTable (order l) P (program resolved) pairs
  pub lead : HasTrueLead l resolved steps pairs page

-- The banner begins with the count of the pairs of the text's table of flows.
pub record TellsAllowed (l : Lattice) (P : Profile) (text page : List ℕ) : Type 0 where
  pub resolved : Resolved
  pub stands : Stands (class_named l) text resolved
  pub pairs : List Pair
  pub table : IsTable (order l) P (program resolved) pairs
  pub shown : HasLead verdicts.Accepted (allowed_words (length pairs)) page
