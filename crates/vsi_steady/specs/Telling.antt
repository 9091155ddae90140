-- The report about a refused image: a chain of steps that brings something where it may not flow, and its text.
use Rattle.std.specs.Prelude.{◌≡◌, ℕ, zero, suc, ◌+◌, ◌-◌, ◌<◌, ◌≤◌, List, [], ◌∷◌, ◌++◌, length, slice_get, slice_range, false, Option, Some, None, IsSomeAnd, codes, decimal}
use Rattle.std.specs.List.{flat_map}
use Rattle.std.specs.Option.{option_and_then}
use Rattle.vsi_lattice.specs.Order.{Lattice}
use Rattle.vsi_lattice.specs.LatticeView.{names, order, class_named}
use Rattle.vsi_lattice.specs.declared.lattice.Lattice as named
use Rattle.vsi_image.specs.declared.instr.Instr.{Instr}
use Rattle.vsi_image.specs.declared.instr.Instr.TheVariants.{Push, Load, Store, Add, Sub, Mul, Eq, Lt, Jz, Jmp, Halt}
use Rattle.vsi_image.specs.declared.instr.Image.{Image}
use Rattle.vsi_image.specs.Fields.{Global, globals}
use Rattle.vsi_lattice.specs.Known.{Known}
use Rattle.vsi_steady.specs.declared.chain.Step.{Step}
use Rattle.vsi_steady.specs.declared.check.SteadyError.{SteadyError}
use Rattle.vsi_steady.specs.declared.check.SteadyError.TheVariants.{UnknownClass, Flow, Memory}

-- ---- the steps.

-- One operand fewer is above an operand; none if the operand itself is taken.
abbrev pub lowered : ℕ → Option ℕ
lowered zero = None
lowered (suc n) = Some n

-- The number of operands above an operand after an instruction, or above the result that contains it, given the number
-- before; none if it is taken.
abbrev pub above_after : Instr → ℕ → Option ℕ
above_after (Push n) k = Some (k + 1)
above_after (Load s) k = Some (k + 1)
above_after (Store s) k = lowered k
above_after Add k = Some (k - 1)
above_after Sub k = Some (k - 1)
above_after Mul k = Some (k - 1)
above_after Eq k = Some (k - 1)
above_after Lt k = Some (k - 1)
above_after (Jz t) k = lowered k
above_after (Jmp t) k = Some k
above_after Halt k = Some k

-- The same number after a list of instructions.
abbrev pub above_all : List Instr → ℕ → Option ℕ
above_all [] k = Some k
above_all (i ∷ is) k = option_and_then (above_all is) (above_after i k)

-- A STORE takes an operand into its slot, and a JZ into no slot.
abbrev pub Takes : Option ℕ → Instr → Type 0
Takes target (Store k) = target ≡ Some k
Takes target (Jz t) = target ≡ None
Takes target _ = ⊥

-- A LOAD reads the source, and the word is part of the operand that a later STORE or JZ takes.
pub record IsStep (code : List Instr) (s : Step) : Type 0 where
  pub reads : slice_get code s.read ≡ Some (Load s.source)
  pub behind : s.read < s.written
  pub carried : above_all (slice_range code (s.read + 1) s.written) 0 ≡ Some 0
  pub taken : IsSomeAnd (slice_get code s.written) (Takes s.target)

-- A step ends in a slot above the globals, and the next one begins there.
pub record IsJoined (globals : ℕ) (s next : Step) : Type 0 where
  pub slot : s.target ≡ Some next.source
  pub above : globals ≤ next.source

-- The steps are steps of the code, each joined to the next, and the last one ends at the place.
abbrev pub LeadTo : List Instr → ℕ → ℕ → List Step → Type 0
LeadTo code globals place [] = ⊥
LeadTo code globals place (s ∷ []) = IsStep code s × (s.written ≡ place)
LeadTo code globals place (s ∷ next ∷ steps) =
    IsStep code s × IsJoined globals s next × LeadTo code globals place (next ∷ steps)

-- ---- the ends of a chain.

-- The target of the last of these steps.
abbrev pub end_of : Step → List Step → Option ℕ
end_of s [] = s.target
end_of s (next ∷ steps) = end_of next steps

-- The class of a global.
abbrev pub global_class : Known → List Global → ℕ → Option ℕ
global_class known gs k = option_and_then (λ g. known g.1) (slice_get gs k)

-- The class of a global, or the bottom class for the jump.
abbrev pub target_class : Known → Lattice → List Global → Option ℕ → Option ℕ
target_class known L gs None = Some L.bottom
target_class known L gs (Some k) = global_class known gs k

-- The class of the global isn't at or below that of the target, which is a global or the jump.
pub record MayNotFlow (known : Known) (L : Lattice) (gs : List Global) (source : ℕ) (target : Option ℕ) : Type 0 where
  pub high : ℕ
  pub low : ℕ
  pub from : global_class known gs source ≡ Some high
  pub to : target_class known L gs target ≡ Some low
  pub not_below : L.leq high low ≡ false

-- There are no steps, or they lead to the place and nothing may flow between their ends.
abbrev pub IsChain : Known → Lattice → Image → ℕ → List Step → Type 0
IsChain known L image place [] = Unit {0}
IsChain known L image place (s ∷ steps) =
    let gs = globals image.globals.items in
    LeadTo image.code.items (length gs) place (s ∷ steps)
    × MayNotFlow known L gs s.source (end_of s steps)

-- The source of the first of these steps.
abbrev pub first_source : List Step → Option ℕ
first_source [] = None
first_source (s ∷ steps) = Some s.source

-- A chain to the place begins at the source, or has no steps and there is no source.
pub record IsChainSource (known : Known) (L : Lattice) (image : Image) (place : ℕ) (source : Option ℕ) : Type 0 where
  pub steps : List Step
  pub chain : IsChain known L image place steps
  pub first : source ≡ first_source steps

-- ---- the text.

-- The name of a global, or the number of any other slot.
abbrev pub slot_name : ℕ → Option Global → List ℕ
slot_name k (Some g) = g.0
slot_name k None = codes "slot " ++ decimal k

-- The name of a slot, or of the jump.
abbrev pub end_name : List Global → Option ℕ → List ℕ
end_name gs (Some k) = slot_name k (slice_get gs k)
end_name gs None = codes "(jump)"

-- The class name of a global; any other slot has none.
abbrev pub slot_class : Option Global → List ℕ
slot_class (Some g) = g.1
slot_class None = []

-- The class name of a global, or the name of the bottom class for the jump.
abbrev pub end_class : List ℕ → List Global → Option ℕ → List ℕ
end_class bottom gs (Some k) = slot_class (slice_get gs k)
end_class bottom gs None = bottom

-- The name of an end and the name of its class.
abbrev pub end_text : List ℕ → List Global → Option ℕ → List ℕ
end_text bottom gs target = end_name gs target ++ codes " : " ++ end_class bottom gs target

-- The instruction that takes a step's operand.
abbrev pub taker : Option ℕ → List ℕ
taker (Some k) = codes " by STORE at "
taker None = codes " by JZ at "

-- The line of a step: where it reads what, and which instruction takes it where.
abbrev pub step_line : List Global → Step → List ℕ
step_line gs s =
    decimal s.read ++ codes " " ++ end_name gs (Some s.source) ++ codes " flows to " ++ end_name gs s.target
    ++ taker s.target ++ decimal s.written ++ codes "\n"

-- The line of the ends of a chain.
abbrev pub ends_line : List ℕ → List Global → ℕ → Option ℕ → List ℕ
ends_line bottom gs source target =
    end_text bottom gs (Some source) ++ codes " may not flow to " ++ end_text bottom gs target ++ codes "\n"

-- A line for each step, and one for the ends; none if there are no steps.
abbrev pub chain_lines : List ℕ → List Global → List Step → List ℕ
chain_lines bottom gs [] = []
chain_lines bottom gs (s ∷ steps) =
    flat_map (step_line gs) (s ∷ steps) ++ ends_line bottom gs s.source (end_of s steps)

-- The text for a class name that the lattice lacks gives the number of its global.
abbrev pub unknown_text : ℕ → List ℕ
unknown_text n = codes "refused: 43 ClassNotInLattice " ++ decimal n ++ codes "\n"

-- The text for a flow gives a chain to the refused instruction.
pub record IsFlowText (l : named.Lattice) (image : Image) (place : ℕ) (text : List ℕ) : Type 0 where
  pub steps : List Step
  pub chain : IsChain (class_named l) (order l) image place steps
  pub bottom : List ℕ
  pub is_bottom : slice_get (names l) (order l).bottom ≡ Some bottom
  pub lines : text ≡ codes "refused: 25 Refused\n" ++ chain_lines bottom (globals image.globals.items) steps

-- The text of a refused image.
abbrev pub IsUnsteadyText : named.Lattice → Image → SteadyError → List ℕ → Type 0
IsUnsteadyText l image (UnknownClass n) text = text ≡ unknown_text n
IsUnsteadyText l image (Flow place) text = IsFlowText l image place text
IsUnsteadyText l image Memory text = text ≡ codes "out of memory\n"
