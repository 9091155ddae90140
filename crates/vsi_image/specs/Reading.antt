-- Reading an image field by field, up to the first field that is missing or not allowed.
use Rattle.std.specs.Prelude.{◌≡◌, ◌≢◌, ℕ, zero, suc, ◌-◌, List, [], ◌∷◌, ◌++◌, length, take, drop, Bool, true, false, ◌&&◌, nat_lt, nat_le, ◌==◌, if◌then◌else◌, bytes_eq, Result, Ok, Err}
use Rattle.std.specs.Int.{Width, w16, w32, w64, byte_len, from_be_bytes, cast_signed}
use Rattle.vsi_image.specs.declared.instr.Instr.{Instr}
use Rattle.vsi_image.specs.declared.instr.Instr.TheVariants.{Push, Load, Store, Add, Sub, Mul, Eq, Lt, Jz, Jmp, Halt}
use Rattle.vsi_image.specs.declared.decoder.DecodeError.{DecodeError}
use Rattle.vsi_image.specs.declared.decoder.DecodeError.TheVariants.{Memory, BadMagic, BadVersion, BadField, BadOpcode, Truncated, Trailing}
use Rattle.vsi_image.specs.declared.decoder.Head as made
use Rattle.vsi_syntax.specs.Words.{is_name}
use Rattle.vsi_image.specs.Fields.{Global, Fields, is_taken, max_globals, max_slots, max_operands, max_instructions, newest_version}

-- The next reader continues if nothing was refused so far.
infixl 10 ◌>>=◌
abbrev pub ◌>>=◌ : {A B : Type 0} → Result A DecodeError → (A → Result B DecodeError) → Result B DecodeError
(Ok x) >>= f = f x
(Err e) >>= f = Err e

-- The returned value, seen by `view`, is the result of reading, unless memory ran out.
abbrev pub Gives : {X Y : Type 0} → (X → Y) → Result X DecodeError → Result Y DecodeError → Type 0
Gives view (Ok x) read = read ≡ Ok (view x)
Gives view (Err e) read = e ≢ Memory → read ≡ Err e

-- The position at which the rest begins, in a text of `whole` bytes.
abbrev pub place : ℕ → List ℕ → ℕ
place whole rest = whole - length rest

-- A field is read as a value and the bytes after it, or refused.
abbrev pub Field : Type 0 → Type 0
Field A = Result (A × List ℕ) DecodeError

-- Reads one byte.
abbrev pub byte_at : ℕ → List ℕ → Field ℕ
byte_at whole [] = Err (Truncated (place whole []))
byte_at whole (b ∷ rest) = Ok (b, rest)

-- Reads this many bytes.
abbrev pub text_at : ℕ → ℕ → List ℕ → Field (List ℕ)
text_at n whole bytes =
    if nat_lt (length bytes) n then Err (Truncated (place whole bytes)) else Ok (take n bytes, drop n bytes)

-- Reads a big endian number of a width.
abbrev pub number_at : Width → ℕ → List ℕ → Field ℕ
number_at w whole bytes =
    if nat_lt (length bytes) (byte_len w) then Err (Truncated (place whole bytes))
    else Ok (from_be_bytes w (take (byte_len w) bytes), drop (byte_len w) bytes)

-- A value that is allowed, else a bad field at this position.
abbrev pub allowed : {A : Type 0} → Bool → ℕ → A → Result A DecodeError
allowed test at x = if test then Ok x else Err (BadField at)

-- The number is within these bounds.
abbrev pub is_within : ℕ → ℕ → ℕ → Bool
is_within low high n = nat_le low n && nat_le n high

-- Reads a number of a width, within these bounds.
unfoldable pub field_at : Width → ℕ → ℕ → ℕ → List ℕ → Field ℕ
field_at w low high whole bytes = do
  n ← number_at w whole bytes
  allowed (is_within low high n.0) (place whole bytes) n

-- Reads the magic bytes, `VSI`.
unfoldable pub magic_at : ℕ → List ℕ → Field (List ℕ)
magic_at whole bytes = do
  magic ← text_at 3 whole bytes
  if bytes_eq magic.0 (86 ∷ 83 ∷ 73 ∷ []) then Ok magic else Err BadMagic

-- Reads the version, 1 or 2.
unfoldable pub version_at : ℕ → List ℕ → Field ℕ
version_at whole bytes = do
  version ← byte_at whole bytes
  if is_within 1 newest_version version.0 then Ok version else Err BadVersion

-- Reads a length from 1 to 32, and a name that none of these globals has.
unfoldable pub name_at : List Global → ℕ → List ℕ → Field (List ℕ)
name_at before whole bytes = do
  n ← byte_at whole bytes
  len ← allowed (is_within 1 32 n.0) (place whole bytes) n
  name ← text_at len.0 whole len.1
  allowed (is_name name.0 && (if is_taken before name.0 then false else true)) (place whole len.1) name

-- Reads a global after these: its name, and its class name, which others may have.
unfoldable pub global_at : List Global → ℕ → List ℕ → Field Global
global_at before whole bytes = do
  name ← name_at before whole bytes
  class ← name_at [] whole name.1
  Ok ((name.0, class.0), class.1)

-- Reads this many globals after these.
unfoldable pub globals_at : ℕ → List Global → ℕ → List ℕ → Field (List Global)
globals_at zero before whole bytes = Ok ([], bytes)
globals_at (suc n) before whole bytes = do
  g ← global_at before whole bytes
  gs ← globals_at n (before ++ g.0 ∷ []) whole g.1
  Ok (g.0 ∷ gs.0, gs.1)

-- Reads the operand of an opcode at a position, and gives the instruction.
unfoldable pub operand_at : ℕ → ℕ → ℕ → ℕ → List ℕ → Field Instr
operand_at version op at whole bytes =
    if op == 1 then (number_at w64 whole bytes >>= λ n. Ok (Push (cast_signed w64 n.0), n.1)) else
    if op == 2 then (number_at w16 whole bytes >>= λ n. Ok (Load n.0, n.1)) else
    if op == 3 then (number_at w16 whole bytes >>= λ n. Ok (Store n.0, n.1)) else
    if op == 4 then Ok (Add, bytes) else
    if op == 5 then Ok (Sub, bytes) else
    if op == 6 then Ok (Eq, bytes) else
    if op == 7 then Ok (Lt, bytes) else
    if op == 8 then (number_at w32 whole bytes >>= λ n. Ok (Jz n.0, n.1)) else
    if op == 9 then (number_at w32 whole bytes >>= λ n. Ok (Jmp n.0, n.1)) else
    if op == 10 then Ok (Halt, bytes) else
    if op == 11 && version == 2 then Ok (Mul, bytes) else
    Err (BadOpcode at)

-- Reads an instruction of a version.
unfoldable pub instr_at : ℕ → ℕ → List ℕ → Field Instr
instr_at version whole bytes = do
  op ← byte_at whole bytes
  operand_at version op.0 (place whole bytes) whole op.1

-- Reads this many instructions of a version.
unfoldable pub code_at : ℕ → ℕ → ℕ → List ℕ → Field (List Instr)
code_at zero version whole bytes = Ok ([], bytes)
code_at (suc n) version whole bytes = do
  i ← instr_at version whole bytes
  is ← code_at n version whole i.1
  Ok (i.0 ∷ is.0, is.1)

-- The fields before the globals.
pub record Head : Type 0 where
  pub version : ℕ
  pub globals : ℕ
  pub slots : ℕ
  pub stack : ℕ
  pub count : ℕ

-- The head in memory.
abbrev pub head : made.Head → Head
head h =
    record { version = h.version; globals = h.globals; slots = h.slots; stack = h.stack; count = h.count }

-- Reads the head, field by field.
unfoldable pub head_at : ℕ → List ℕ → Field Head
head_at whole bytes = do
  magic ← magic_at whole bytes
  version ← version_at whole magic.1
  globals ← field_at w16 0 max_globals whole version.1
  slots ← field_at w16 globals.0 max_slots whole globals.1
  stack ← field_at w16 0 max_operands whole slots.1
  count ← field_at w32 0 max_instructions whole stack.1
  Ok (
    record {
      version = version.0;
      globals = globals.0;
      slots = slots.0;
      stack = stack.0;
      count = count.0;
    },
    count.1,
  )

-- Reads the fields of an image that nothing follows.
unfoldable pub image_at : ℕ → List ℕ → Result Fields DecodeError
image_at whole bytes = do
  head ← head_at whole bytes
  globals ← globals_at head.0.globals [] whole head.1
  code ← code_at head.0.count head.0.version whole globals.1
  if length code.1 == 0
      then Ok (record { globals = globals.0; slots = head.0.slots; stack = head.0.stack; code = code.0 })
      else Err (Trailing (place whole code.1))

-- Reads all the bytes as an image, or refuses them for the first field that is missing or not allowed.
abbrev pub image_of : List ℕ → Result Fields DecodeError
image_of bytes = image_at (length bytes) bytes

-- Any byte after these is left over.
abbrev pub EndsThere : List ℕ → Type 0
EndsThere bytes = (next : ℕ) (rest : List ℕ) → image_of (bytes ++ next ∷ rest) ≡ Err (Trailing (length bytes))
