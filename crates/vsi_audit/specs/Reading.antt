-- Code that can be read back as commands whose letvars last to the end of their branch or body; used only in proofs.
use Rattle.std.specs.Prelude.{◌≡◌, ℕ, ◌+◌, ◌-◌, ◌<◌, ◌≤◌, List, length, slice_get, Option, Some, None, Bool, true, false, ℤ, ◌==◌}
use Rattle.vsi_image.specs.declared.instr.Instr.{Instr}
use Rattle.vsi_image.specs.declared.instr.Instr.TheVariants as i
use Rattle.vsi_syntax.specs.declared.tree.Op.{Op}
use Rattle.vsi_scope.specs.Language.{Command, HasPlaces, size, nesting, expressions_depth, letvars}
use Rattle.vsi_code.specs.Layout.{op_code, code_at}
use Rattle.vsi_audit.specs.Coding.{StandsAt}

-- The instruction makes an operand.
abbrev pub is_operand : Option Instr → Bool
is_operand (Some (i.Push n)) = true
is_operand (Some (i.Load l)) = true
is_operand (Some i.Add) = true
is_operand (Some i.Sub) = true
is_operand (Some i.Mul) = true
is_operand (Some i.Eq) = true
is_operand (Some i.Lt) = true
is_operand (Some (i.Store l)) = false
is_operand (Some (i.Jz t)) = false
is_operand (Some (i.Jmp t)) = false
is_operand (Some i.Halt) = false
is_operand None = false

-- The code has an expression between two places: it reads locations below scope, and is no deeper than the room.
pub data IsValue (code : List Instr) (scope : ℕ) : ℕ → ℕ → ℕ → Type 0 where
  number : {start end room : ℕ} (n : ℤ) → slice_get code start ≡ Some (i.Push n) → end ≡ start + 1 →
      IsValue code scope start end room
  location : {start end room : ℕ} (l : ℕ) → slice_get code start ≡ Some (i.Load l) → l < scope → end ≡ start + 1 →
      IsValue code scope start end room
  operator : {start end room : ℕ} (o : Op) (middle last below : ℕ) → IsValue code scope start middle below →
      IsValue code scope middle last below → slice_get code last ≡ Some (op_code o) → end ≡ last + 1 →
      room ≡ below + 1 → IsValue code scope start end room

-- From a place on, no instruction before `stop` ends an expression, and that at `stop` does.
pub record IsStop (code : List Instr) (place stop : ℕ) : Type 0 where
  pub from : place ≤ stop
  pub before : (k : ℕ) → place ≤ k → k < stop → is_operand (slice_get code k) ≡ true
  pub here : is_operand (slice_get code stop) ≡ false

mutual
  -- The code has commands between two places, with at most n letvars and nested in at most `blocks` choices and
  -- loops; a letvar is a store to the next slot, which is below the limit.
  pub data Readable (code : List Instr) (limit : ℕ) : ℕ → ℕ → ℕ → ℕ → ℕ → Type 0 where
    nothing : {from to scope blocks n : ℕ} → from ≡ to → Readable code limit from to scope blocks n
    more : {from to scope blocks n : ℕ} → Begins code limit from to scope blocks n →
        Readable code limit from to scope blocks n

  -- The same for commands of which there is one at least: first comes an expression.
  pub data Begins (code : List Instr) (limit : ℕ) : ℕ → ℕ → ℕ → ℕ → ℕ → Type 0 where
    begins : {from to scope blocks n : ℕ} (stop : ℕ) → IsValue code scope from stop 200 →
        Goes code limit from stop to scope blocks n → Begins code limit from to scope blocks n

  -- After an expression between `from` and `stop` the code has the rest of a command, and further commands.
  pub data Goes (code : List Instr) (limit : ℕ) : ℕ → ℕ → ℕ → ℕ → ℕ → ℕ → Type 0 where
    assign : {from stop to scope blocks n : ℕ} (l m : ℕ) → slice_get code stop ≡ Some (i.Store l) → l < scope →
        Readable code limit (stop + 1) to scope blocks m → m ≤ n → Goes code limit from stop to scope blocks n
    letvar : {from stop to scope blocks n : ℕ} (m : ℕ) → slice_get code stop ≡ Some (i.Store scope) → scope < limit →
        Readable code limit (stop + 1) to (scope + 1) blocks m → m < n → Goes code limit from stop to scope blocks n
    choice : {from stop to scope blocks n : ℕ} (jump join a b m : ℕ) → slice_get code stop ≡ Some (i.Jz (jump + 1)) →
        slice_get code jump ≡ Some (i.Jmp join) → from < join → 0 < blocks →
        Readable code limit (stop + 1) jump scope (blocks - 1) a →
        Readable code limit (jump + 1) join scope (blocks - 1) b →
        Readable code limit join to scope blocks m → a + b + m ≤ n → Goes code limit from stop to scope blocks n
    loop : {from stop to scope blocks n : ℕ} (jump a m : ℕ) → slice_get code stop ≡ Some (i.Jz (jump + 1)) →
        slice_get code jump ≡ Some (i.Jmp from) → 0 < blocks →
        Readable code limit (stop + 1) jump scope (blocks - 1) a →
        Readable code limit (jump + 1) to scope blocks m → a + m ≤ n → Goes code limit from stop to scope blocks n

-- A command with this code was read between two places.
pub record IsRead (code : List Instr) (limit scope from to : ℕ) (c : Command) : Type 0 where
  pub stands : StandsAt code (code_at from scope c) from (size c) to
  pub places : HasPlaces scope c
  pub shallow : expressions_depth c ≤ 200
  pub nested : scope + nesting c ≤ limit

-- Further commands can be read, with at most n letvars together with k that were read.
pub record Leaves (code : List Instr) (limit from to scope blocks n k : ℕ) : Type 0 where
  pub m : ℕ
  pub rest : Readable code limit from to scope blocks m
  pub few : k + m ≤ n
