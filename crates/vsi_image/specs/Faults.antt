-- The first fault of an image, in the order in which an error reports them.
use Rattle.std.specs.Prelude.{◌+◌, ◌-◌, ℕ, List, [], ◌∷◌, length, Option, Some, None, true, false, if◌then◌else◌, ◌&&◌, nat_lt, nat_le, nat_eq, slice_get}
use Rattle.std.specs.Option.{option_map_or, option_map}
use Rattle.vsi_image.specs.declared.instr.Instr.{Instr}
use Rattle.vsi_image.specs.declared.instr.Image.{Image}
use Rattle.vsi_image.specs.declared.verifier.VerifyError.{VerifyError}
use Rattle.vsi_image.specs.declared.verifier.VerifyError.TheVariants.{Unencodable, BadSlot, BadTarget, Underflow, Overflow, NotEmpty, RunsOff}
use Rattle.vsi_image.specs.Fields.{fields}
use Rattle.vsi_image.specs.Limits.{first_limit}
use Rattle.vsi_image.specs.Effects.{takes, slot_of, target_of, left, leaves_none, goes_off, depth_at}

-- The first of two faults if there is one, else the second.
infixr 5 ◌orelse◌
abbrev pub ◌orelse◌ : {X : Type 0} → Option X → Option X → Option X
(Some x) orelse o = Some x
None orelse o = o

-- The first fault that a check of single instructions finds, with instructions numbered from pc on.
abbrev pub first_from : (ℕ → Instr → Option VerifyError) → ℕ → List Instr → Option VerifyError
first_from judge pc [] = None
first_from judge pc (i ∷ is) = judge pc i orelse first_from judge (pc + 1) is

-- The first fault of an instruction that is reached with this depth, apart from the depth at its target.
abbrev pub fault_at : Image → ℕ → ℕ → Instr → Option VerifyError
fault_at image pc depth i =
    if option_map_or (nat_le image.slots) (slot_of i) false then Some (BadSlot pc)
    else if option_map_or (nat_le (length image.code.items)) (target_of i) false then Some (BadTarget pc)
    else if nat_lt depth (takes i) then Some (Underflow pc)
    else if nat_lt image.stack (left i depth) then Some (Overflow pc)
    else if leaves_none i && nat_lt 0 (left i depth) then Some (NotEmpty pc)
    else None

-- The fault of the instruction with this number, which is reached with the depth of its position in the code.
abbrev pub own_fault : Image → ℕ → Instr → Option VerifyError
own_fault image pc i = fault_at image pc (depth_at image.code.items pc) i

-- The code has no end: it has no instruction, or the last one continues.
abbrev pub end_fault : List Instr → Option VerifyError
end_fault code =
    if option_map_or goes_off (slice_get code (length code - 1)) false then None else Some RunsOff

-- The fault of a jump to an instruction that is reached with operands.
abbrev pub target_fault : List Instr → ℕ → Instr → Option VerifyError
target_fault code pc i =
    if option_map_or (λ t. nat_eq (depth_at code t) 0) (target_of i) true then None else Some (NotEmpty pc)

-- The first fault of an image: a limit, an instruction's own fault, a missing end, a jump's target.
abbrev pub first_fault : Image → Option VerifyError
first_fault image =
    option_map Unencodable (first_limit (fields image))
    orelse (first_from (own_fault image) 0 image.code.items
    orelse (end_fault image.code.items
    orelse first_from (target_fault image.code.items) 0 image.code.items))
