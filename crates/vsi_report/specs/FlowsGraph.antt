-- The flows of a text in the language of Graphviz.
use Rattle.std.specs.Prelude.{◌≡◌, ◌⊎◌, ℕ, suc, ◌+◌, ◌-◌, cond, nat_lt, Bool, true, false, List, [], ◌∷◌, ◌++◌, length, Option, Some, None, codes, decimal, slice_get}
use Rattle.std.specs.List.{flat_map}
use Rattle.vsi_lattice.specs.Order.{Lattice}
use Rattle.vsi_lattice.specs.declared.lattice.Lattice.{Lattice as Declared}
use Rattle.vsi_lattice.specs.LatticeView.{class_named, names, order}
use Rattle.vsi_scope.specs.Program.{Resolved}
use Rattle.vsi_types.specs.declared.rules.Profile.{Profile}
use Rattle.vsi_types.specs.declared.rules.Profile.TheVariants.{Base, Strict}
use Rattle.vsi_types.specs.declared.rules.Rule.{Rule}
use Rattle.vsi_types.specs.declared.rules.Rule.TheVariants.{Assign, If, While, Letvar, Loop}
use Rattle.vsi_types.specs.declared.rules.Step.{Step}
use Rattle.vsi_types.specs.Security.{Program, program, count_from, steps_of}
use Rattle.vsi_types.specs.Walks.{declared_class}
use Rattle.vsi_infer.specs.Explanation.{name_of, rule_text}
use Rattle.vsi_infer.specs.Flowing.{size_of, variable_at}
use Rattle.vsi_infer.specs.Inference.{IsLeast, IsShortest}
use Rattle.vsi_infer.specs.StepsBetween.{has_step_by, leads_by}
use Rattle.vsi_compiler.specs.Stands.{Stands}
use Rattle.vsi_report.specs.Covering.{HasJust, IsCoveringPair}
use Rattle.vsi_report.specs.Filled.{fill, prefix}
use Rattle.vsi_report.specs.Graph.{AreLatticeLines, colour, graph, name_at}

-- The classes of the letvars are the least typable choice, or the program is refused: then they have none, and the
-- walk is a bad one such that no bad walk has fewer steps.
abbrev pub AreShown : Lattice → Profile → Program → List ℕ → List Step → Type 0
AreShown L P p chosen walk = (IsLeast L P p chosen × (walk ≡ [])) ⊎ ((chosen ≡ []) × IsShortest L P p walk)

-- The contents of a graph of flows: a program over a lattice whose classes have these names, the chosen classes of its
-- letvars, and the steps of a refused walk.
pub record Shown : Type 0 where
  pub names : List (List ℕ)
  pub lattice : Lattice
  pub resolved : Resolved
  pub chosen : List ℕ
  pub walk : List Step

-- The contents of the graph of a program over a declared lattice.
abbrev pub shown_in : Declared → Resolved → List ℕ → List Step → Shown
shown_in l r chosen walk =
    record { names = names l; lattice = order l; resolved = r; chosen = chosen; walk = walk }

-- The number of declarations.
abbrev pub size : Shown → ℕ
size s = size_of (program s.resolved)

-- The first of two classes, if there is one, otherwise the second.
abbrev pub either_class : Option ℕ → Option ℕ → Option ℕ
either_class (Some c) other = Some c
either_class None other = other

-- The declared class of a variable.
abbrev pub class_declared : Shown → ℕ → Option ℕ
class_declared s v = declared_class s.lattice (program s.resolved) v

-- The class of a variable: the declared one, otherwise the chosen one.
abbrev pub class_shown : Shown → ℕ → Option ℕ
class_shown s v = either_class (class_declared s v) (slice_get s.chosen (v - length (program s.resolved).globals))

-- The attribute of a node whose variable has this declared class; if it has none, its box is dashed.
abbrev pub box_words : Option ℕ → List ℕ
box_words None = codes ", style=\"rounded,dashed\""
box_words (Some c) = []

-- The line of a numbered node with this name, these attributes of its box, and this class, of classes with these names.
abbrev pub node_line : List (List ℕ) → ℕ → List ℕ → List ℕ → Option ℕ → List ℕ
node_line ns b name dashes None =
    fill (codes "  \"v.%0\" [label=\"%1\"%2];\n") (decimal b ∷ name ∷ dashes ∷ [])
node_line ns b name dashes (Some c) =
    fill (codes "  \"v.%0\" [label=\"%1 : %3\", color=\"%4\", fontcolor=\"%4\"%2];\n")
    (decimal b ∷ name ∷ dashes ∷ name_at ns c ∷ colour c ∷ [])

-- The line of a variable: its label is its name and, if it has one, its class.
abbrev pub variable_line : Shown → ℕ → List ℕ
variable_line s b =
    let v = variable_at (size s) b in
    node_line s.names b (name_of s.resolved v) (box_words (class_declared s v)) (class_shown s v)

-- The number of nodes; the ending of loops has one under the strict profile only.
abbrev pub nodes_shown : Profile → ℕ → ℕ
nodes_shown Base k = k
nodes_shown Strict k = k + 1

-- The line of a class's two points, below and above its variables.
abbrev pub points_line : ℕ → List ℕ
points_line c = fill (codes "  \"below.%0\" -> \"above.%0\";\n") (decimal c ∷ [])

-- The line that keeps a class above another one.
abbrev pub above_line : ℕ × ℕ → List ℕ
above_line p =
    fill (codes "  \"above.%0\" -> \"below.%1\" [minlen=0];\n") (decimal p.0 ∷ decimal p.1 ∷ [])

-- The line that keeps a numbered node between the points of its class.
abbrev pub between_line : Option ℕ → ℕ → List ℕ
between_line None b = []
between_line (Some c) b =
    fill (codes "  \"below.%0\" -> \"v.%1\" -> \"above.%0\";\n") (decimal c ∷ decimal b ∷ [])

-- The line that keeps a numbered node above the lower classes and below the higher ones.
abbrev pub kept_line : Shown → ℕ → List ℕ
kept_line s b = between_line (class_shown s (variable_at (size s) b)) b

-- The lines that keep the first n nodes above the lower classes and below the higher ones.
abbrev pub kept_lines : Shown → ℕ → List ℕ
kept_lines s n = flat_map (kept_line s) (count_from 0 n)

-- The invisible lines that keep the first n variables of higher classes above those of lower ones.
abbrev pub frame_lines : Shown → ℕ → List (ℕ × ℕ) → List ℕ
frame_lines s n pairs =
    codes "  {\n  node [shape=point, style=invis];\n  edge [style=invis];\n"
    ++ flat_map points_line (count_from 0 (length s.names)) ++ flat_map above_line pairs
    ++ kept_lines s n ++ codes "  }\n"

-- The style of an edge.
abbrev pub style_text : Rule → List ℕ
style_text Assign = codes "solid"
style_text If = codes "dashed"
style_text While = codes "dotted"
style_text Letvar = codes "bold"
style_text Loop = codes "\"dashed,bold\""

-- Both are classes of the lattice, and the first is at or below the second.
abbrev pub is_ordered : Lattice → ℕ → ℕ → Bool
is_ordered L low high = cond (nat_lt low L.count) (cond (nat_lt high L.count) (L.leq low high) false) false

-- Whether a flow from one class to another keeps the order, if both are known.
abbrev pub keeps_order : Lattice → Option ℕ → Option ℕ → Option Bool
keeps_order L None high = None
keeps_order L (Some low) None = None
keeps_order L (Some low) (Some high) = Some (is_ordered L low high)

-- Whether the flow from a number to another keeps the order, if the classes of both are known.
abbrev pub is_upward : Shown → ℕ → ℕ → Option Bool
is_upward s a b =
    keeps_order s.lattice (class_shown s (variable_at (size s) a)) (class_shown s (variable_at (size s) b))

-- The number of the first step from a to b by the rule, if the first step of the list has the number n.
abbrev pub number_from : ℕ → List Step → Rule → ℕ → ℕ → Option ℕ
number_from n [] R a b = None
number_from n (s ∷ rest) R a b = cond (leads_by R a b s) (Some n) (number_from (suc n) rest R a b)

-- The number of the step of the refused walk from a number to another by the rule.
abbrev pub step_number : Shown → Rule → ℕ → ℕ → Option ℕ
step_number s R a b = number_from 1 s.walk R (variable_at (size s) a) (variable_at (size s) b)

-- The attributes of an edge: a step of the refused walk is thick and red, any other flow against the order red, and
-- only flows upwards place the nodes.
abbrev pub edge_words : Option ℕ → Option Bool → List ℕ
edge_words None (Some true) = []
edge_words None (Some false) = codes ", color=\"#b01e1e\", fontcolor=\"#b01e1e\", constraint=false"
edge_words None None = codes ", constraint=false"
edge_words (Some n) (Some true) = codes ", color=\"#b01e1e\", fontcolor=\"#b01e1e\", penwidth=4"
edge_words (Some n) (Some false) =
    codes ", color=\"#b01e1e\", fontcolor=\"#b01e1e\", penwidth=4, constraint=false"
edge_words (Some n) None = codes ", color=\"#b01e1e\", fontcolor=\"#b01e1e\", penwidth=4, constraint=false"

-- The line of an edge; a step of the refused walk has its number before its rule.
abbrev pub flow_line : Shown → ℕ → ℕ → Rule → List ℕ
flow_line s a b R =
    fill (codes "  \"v.%0\" -> \"v.%1\" [label=\"  %2%3\", style=%4%5];\n")
    (decimal a ∷ decimal b ∷ prefix (step_number s R a b) ∷ rule_text R ∷ style_text R
    ∷ edge_words (step_number s R a b) (is_upward s a b) ∷ [])

-- The flows, each by a rule from one number to another.
abbrev pub Flowing : Type 0
Flowing = Rule → ℕ → ℕ → Bool

-- The line of an edge, if there is such a flow.
abbrev pub line_by : Shown → Flowing → ℕ → ℕ → Rule → List ℕ
line_by s has a b R = cond (has R a b) (flow_line s a b R) []

-- The lines of the edges from one number to another, one for each rule.
abbrev pub lines_between : Shown → Flowing → ℕ → ℕ → List ℕ
lines_between s has a b =
    line_by s has a b Assign ++ line_by s has a b If ++ line_by s has a b While ++ line_by s has a b Letvar
    ++ line_by s has a b Loop

-- The lines of the edges from each of the first n numbers to each of them.
abbrev pub edge_lines : Shown → Flowing → ℕ → List ℕ
edge_lines s has n = flat_map (λ a. flat_map (lines_between s has a) (count_from 0 n)) (count_from 0 n)

-- The flows of a program in one step; the ending of its loops has the last number.
abbrev pub flows_by_step : Profile → Program → Flowing
flows_by_step P p R a b = has_step_by (steps_of P p) R a (variable_at (size_of p) b)

-- The count of numbers with edges; it is 0 if there are more than 200 declarations.
abbrev pub numbers_drawn : ℕ → ℕ
numbers_drawn k = cond (nat_lt 200 k) 0 (k + 1)

-- The lines of a program: its variables with their classes, and an edge for each pair of them and each rule by which
-- the program has a step from one to the other.
abbrev pub flows_lines : Profile → Shown → List (ℕ × ℕ) → List ℕ
flows_lines P s pairs =
    flat_map (variable_line s) (count_from 0 (nodes_shown P (size s))) ++ frame_lines s (nodes_shown P (size s)) pairs
    ++ edge_lines s (flows_by_step P (program s.resolved)) (numbers_drawn (size s))

-- The lines are those of the program.
pub record AreProgramLines (l : Declared) (P : Profile) (resolved : Resolved) (lines : List ℕ) : Type 0 where
  pub chosen : List ℕ
  pub walk : List Step
  pub judged : AreShown (order l) P (program resolved) chosen walk
  pub pairs : List (ℕ × ℕ)
  pub covering : HasJust (IsCoveringPair (order l)) pairs
  pub are : lines ≡ flows_lines P (shown_in l resolved chosen walk) pairs

-- The lines are those of the text's program.
pub record AreFlowsLines (l : Declared) (P : Profile) (text lines : List ℕ) : Type 0 where
  pub resolved : Resolved
  pub stands : Stands (class_named l) text resolved
  pub told : AreProgramLines l P resolved lines

-- The graph is that of the text's flows.
pub record IsFlowsGraph (l : Declared) (P : Profile) (text out : List ℕ) : Type 0 where
  pub lines : List ℕ
  pub of_flows : AreFlowsLines l P text lines
  pub whole : out ≡ graph (codes "flows") lines

-- The graph with the lines of a lattice in one box and those of flows in another, each box under its name.
abbrev pub joined : List ℕ → List ℕ → List ℕ
joined classes flows =
    graph (codes "policy") (fill
    (codes "subgraph cluster_lattice {\n  label=\"lattice\";\n  labelloc=b;\n  color=\"#d3dae1\";\n%0}\n"
    ++ codes "subgraph cluster_flows {\n  label=\"flows\";\n  labelloc=b;\n  color=\"#d3dae1\";\n%1}\n")
    (classes ∷ flows ∷ []))

-- The graph has the lattice in one box and the text's flows in another.
pub record IsPolicyGraph (l : Declared) (P : Profile) (text out : List ℕ) : Type 0 where
  pub classes : List ℕ
  pub of_classes : AreLatticeLines l classes
  pub flows : List ℕ
  pub of_flows : AreFlowsLines l P text flows
  pub whole : out ≡ joined classes flows
