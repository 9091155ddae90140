-- The first limit that an image exceeds.
use Rattle.std.specs.Prelude.{ℕ, ◌+◌, List, [], ◌∷◌, ◌++◌, length, Option, Some, None, true, false, if◌then◌else◌, ◌&&◌, nat_lt}
use Rattle.vsi_image.specs.declared.encoder.Limit.{Limit}
use Rattle.vsi_image.specs.declared.encoder.Limit.TheVariants.{Globals, Slots, Stack, Count, Name, Class}
use Rattle.vsi_syntax.specs.Words.{is_name}
use Rattle.vsi_image.specs.Fields.{Global, Fields, is_taken, max_globals, max_slots, max_operands, max_instructions}

-- The first limit that one of these globals exceeds; they are numbered from n on and follow those before.
abbrev pub globals_limit : ℕ → List Global → List Global → Option Limit
globals_limit n before [] = None
globals_limit n before (g ∷ gs) =
    if is_name g.0 && (if is_taken before g.0 then false else true)
    then (if is_name g.1 then globals_limit (n + 1) (before ++ g ∷ []) gs else Some (Class n))
    else Some (Name n)

-- The first limit that an image exceeds: its numbers first, then its globals.
abbrev pub first_limit : Fields → Option Limit
first_limit f =
    if nat_lt max_globals (length f.globals) then Some Globals
    else if nat_lt f.slots (length f.globals) then Some Slots
    else if nat_lt max_slots f.slots then Some Slots
    else if nat_lt max_operands f.stack then Some Stack
    else if nat_lt max_instructions (length f.code) then Some Count
    else globals_limit 0 [] f.globals
