-- The report about a refused image.
use Rattle.std.specs.Prelude.{◌≡◌, ℕ, ◌+◌, ◌-◌, ◌==◌, nat_lt, if◌then◌else◌, List, [], ◌∷◌, ◌++◌, map, length, Some, codes, decimal, slice_index_or}
use Rattle.std.specs.List.{flat_map}
use Rattle.vsi_lattice.specs.declared.lattice.Lattice.{Lattice}
use Rattle.vsi_lattice.specs.LatticeView.{order}
use Rattle.vsi_image.specs.declared.instr.Image.{Image}
use Rattle.vsi_image.specs.Fields.{Global, globals}
use Rattle.vsi_types.specs.declared.rules.Step.{Step}
use Rattle.vsi_types.specs.Steps.{sink}
use Rattle.vsi_types.specs.Walks.{last_target}
use Rattle.vsi_infer.specs.Explanation.{rule_text, class_text}
use Rattle.vsi_audit.specs.declared.flow.AuditError.{AuditError}
use Rattle.vsi_audit.specs.declared.flow.AuditError.TheVariants.{UnknownClass, Unstructured, WrongFields, NoText, Flow, Memory}
use Rattle.vsi_audit.specs.declared.names.Form.{Form}
use Rattle.vsi_audit.specs.MadeNames.{made, IsForm}

-- The name of a global or of a local; globals come first, and locals are numbered from 1.
abbrev pub local_name : List Global → Form → ℕ → List ℕ
local_name gs f v =
    if nat_lt v (length gs) then slice_index_or (map (λ g. g.0) gs) v [] else made f (v - length gs + 1)

-- The name of a variable; the ending of a loop has none, and a fixed text is used.
abbrev pub name_of : List Global → Form → ℕ → List ℕ
name_of gs f v = if v == sink then codes "(loop)" else local_name gs f v

-- The class name of a global; a local has none.
abbrev pub class_name : List Global → ℕ → List ℕ
class_name gs v = slice_index_or (map (λ g. g.1) gs) v []

-- The class name of a variable; the ending of a loop has the name of the bottom class.
abbrev pub class_of : Lattice → List Global → ℕ → List ℕ
class_of l gs v = if v == sink then class_text l (Some (order l).bottom) else class_name gs v

-- The name of a variable, and the name of its class.
abbrev pub variable_text : Lattice → List Global → Form → ℕ → List ℕ
variable_text l gs f v = name_of gs f v ++ codes " : " ++ class_of l gs v

-- The line of a step, with the numbers of the instructions that read and write.
abbrev pub step_line : List Global → Form → Step → List ℕ
step_line gs f s =
    decimal s.read.start ++ codes " " ++ name_of gs f s.source ++ codes " flows to " ++ name_of gs f s.target
    ++ codes " by " ++ rule_text s.rule ++ codes " at " ++ decimal s.written.start ++ codes "\n"

-- The last line: the first and the last variable of a walk.
abbrev pub last_text : Lattice → List Global → Form → ℕ → ℕ → List ℕ
last_text l gs f v w = variable_text l gs f v ++ codes " may not flow to " ++ variable_text l gs f w ++ codes "\n"

-- The lines of a walk.
abbrev pub walk_text : Lattice → List Global → Form → List Step → List ℕ
walk_text l gs f [] = []
walk_text l gs f (s ∷ rest) =
    flat_map (step_line gs f) (s ∷ rest) ++ last_text l gs f s.source (last_target s rest)

-- The text of a refused flow: its number and its name, and the lines of its walk.
pub record IsFlowText (l : Lattice) (gs : List Global) (steps : List Step) (out : List ℕ) : Type 0 where
  pub form : Form
  pub free : IsForm gs form
  pub lines : out ≡ codes "refused: 25 Refused\n" ++ walk_text l gs form steps

-- The text of a refusal.
abbrev pub IsAuditText : Lattice → Image → AuditError → List ℕ → Type 0
IsAuditText l im (UnknownClass n) out = out ≡ codes "refused: 43 ClassNotInLattice " ++ decimal n ++ codes "\n"
IsAuditText l im (Unstructured n) out = out ≡ codes "refused: 49 NoCommands " ++ decimal n ++ codes "\n"
IsAuditText l im WrongFields out = out ≡ codes "refused: 50 WrongFields\n"
IsAuditText l im NoText out = out ≡ codes "refused: 51 NoText\n"
IsAuditText l im (Flow walk) out = IsFlowText l (globals im.globals.items) walk.steps.items out
IsAuditText l im Memory out = out ≡ codes "out of memory\n"
