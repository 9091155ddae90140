-- Flows as a line of JSON, whose verdict is defined.
use Rattle.std.specs.Prelude.{◌≡◌, ℕ, Bool, true, false, List, codes}
use Rattle.std.specs.List.{list_all}
use Rattle.serde_json.specs.Data.{Data}
use Rattle.vsi_lattice.specs.LatticeView.{class_named, order}
use Rattle.vsi_lattice.specs.declared.lattice.Lattice.{Lattice}
use Rattle.vsi_scope.specs.Program.{Resolved}
use Rattle.vsi_types.specs.declared.rules.Profile.{Profile}
use Rattle.vsi_types.specs.Security.{program}
use Rattle.vsi_compiler.specs.Readable.{HasProgram}
use Rattle.vsi_compiler.specs.Stands.{Stands}
use Rattle.vsi_flows.specs.declared.table.Pair.{Pair}
use Rattle.vsi_flows.specs.Table.{IsTable}
use Rattle.vsi_flows.specs.Text.{DecideAcceptance}
use Rattle.vsi_conform.specs.Checking.{judgement_by, TellsRefused}
use Rattle.vsi_documents.specs.Objects.{verdict_line}

-- Each pair is allowed.
abbrev pub are_allowed : List Pair → Bool
are_allowed pairs = list_all (λ pair. pair.allowed) pairs

-- The line has the verdict of the table of the text's program, which decides acceptance, beside some objects.
pub record IsFlowsJson (l : Lattice) (P : Profile) (text out : List ℕ) : Type 0 where
  pub resolved : Resolved
  pub stands : Stands (class_named l) text resolved
  pub pairs : List Pair
  pub table : IsTable (order l) P (program resolved) pairs
  pub objects : List Data
  pub line : out ≡ verdict_line (are_allowed pairs) (codes "flows") objects
  pub verdict : DecideAcceptance l P text pairs

-- The text has no program.
abbrev pub HasNoProgram : Lattice → List ℕ → Type 0
HasNoProgram l text = ¬ (HasProgram (class_named l) text)

-- The text has no program, and the line is that of `check`.
pub record TellsUnread (l : Lattice) (P : Profile) (text out : List ℕ) : Type 0 where
  pub unread : HasNoProgram l text
  pub refused : TellsRefused l (judgement_by P) text out

-- The line of a text with its flows, or that of `check` for a text without a program.
abbrev pub TellsFlows : Lattice → Profile → List ℕ → Bool → List ℕ → Type 0
TellsFlows l P text true out = IsFlowsJson l P text out
TellsFlows l P text false out = TellsUnread l P text out
