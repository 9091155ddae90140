-- Images whose code has commands can be read back.
use Rattle.std.proofs.Common.{◌≡◌, ℕ, ◌+◌, ◌≤◌, List, [], ◌∷◌, length, Some, slice_get, Result, Ok, Err, IsErrAnd, IfErr, sym, ap, subst, ◌∙◌, arith}
use Rattle.vsi_image.specs.declared.instr.Instr.{Instr}
use Rattle.vsi_image.specs.declared.instr.Instr.TheVariants.{Halt}
use Rattle.vsi_image.specs.declared.instr.Image.{Image}
use Rattle.vsi_scope.specs.declared.program.Cmd.{Cmd}
use Rattle.vsi_scope.specs.declared.resolved.Entry.{Entry}
use Rattle.vsi_scope.specs.Language.{size, letvars}
use Rattle.vsi_scope.specs.Program.{Resolved, IsResolved, resolved_of}
use Rattle.vsi_scope.specs.View.{sequence}
use Rattle.vsi_code.specs.Layout.{code_at, whole_code}
use Rattle.vsi_code.proofs.Placed.{HasAt, has_all, has_front, has_back, command_long, whole_long}
use Rattle.vsi_audit.specs.Reading.{IsRead, Readable, nothing}
use Rattle.vsi_audit.specs.Structure.{HasCommands}
use Rattle.vsi_audit.specs.Unread.{IsUnread}
use Rattle.vsi_audit.specs.Refusal.{Refuses, unread_as}
use Rattle.vsi_audit.specs.declared.flow.Unread.{Unread}
use Rattle.vsi_audit.specs.declared.flow.Unread.TheVariants as unread
use Rattle.vsi_lattice.specs.Known.{Known}
use Rattle.vsi_lattice.specs.Order.{Lattice}
use Rattle.vsi_types.specs.declared.rules.Profile.{Profile}
use Rattle.vsi_audit.proofs.Readable.{readable}
use Rattle.vsi_audit.proofs.Sound.{in_room}

-- The image has the whole code of its commands at its beginning.
has_code : (im : Image) (h : HasCommands im) → HasAt im.code.items 0 (whole_code (length im.globals.items) h.commands)
has_code im h =
    let code = whole_code (length im.globals.items) h.commands in
    subst (λ is. HasAt is 0 code) (sym h.code) (has_all code)

-- The code ends where the commands do.
pub commands_end : (im : Image) (h : HasCommands im) → length im.code.items ≡ size h.commands + 1
commands_end im h = ap length h.code ∙ whole_long (length im.globals.items) h.commands

-- The last instruction of the code is a HALT.
pub commands_halt : (im : Image) (halt : ℕ) → HasCommands im → halt + 1 ≡ length im.code.items →
    slice_get im.code.items halt ≡ Some Halt
commands_halt im halt h last =
    let g = length im.globals.items in
    let c = h.commands in
    let at = has_back im.code.items 0 (code_at 0 g c) (Halt ∷ []) (size c) (command_long c 0 g) (has_code im h) in
    let n : 0 + size c ≡ halt = omega (arith, last, commands_end im h) in
    subst (λ p. slice_get im.code.items p ≡ Some Halt) n at.0

-- The code of commands within the limits of texts can be read back.
pub commands_readable : (im : Image) (halt : ℕ) (h : HasCommands im) → halt + 1 ≡ length im.code.items →
    Readable im.code.items (length im.globals.items + 200) 0 halt (length im.globals.items) 200 (letvars h.commands + 0)
commands_readable im halt h last =
    let g = length im.globals.items in
    let c = h.commands in
    readable c im.code.items (g + 200) g g 0 halt 200 0
    (has_front im.code.items 0 (code_at 0 g c) (Halt ∷ []) (has_code im h)) h.places (omega arith) h.shallow (omega arith)
    (omega (arith, h.shallow)) (λ s le. nothing (omega (arith, last, commands_end im h)))

-- A program stays within its limits if its commands are replaced by commands that were read back.
pub read_resolved : (p : Resolved) (ys : List Entry) (cs : List Cmd) (code : List Instr) (halt : ℕ) → IsResolved p →
    IsRead code (length p.globals + 200) (length p.globals) 0 halt (sequence cs) → length ys ≡ letvars (sequence cs) →
    length p.globals + letvars (sequence cs) ≤ 1024 → halt ≤ 65534 → IsResolved (resolved_of p.globals ys cs)
read_resolved p ys cs code halt kept read same few small =
    record {
      entries = same;
      places = read.places;
      few_globals = kept.few_globals;
      few_declarations = few;
      small = omega (arith, small, read.stands.long);
      nested = omega (arith, read.nested);
      shallow = read.shallow;
      distinct = kept.distinct;
      named = kept.named;
    }

-- If an image has no such commands, every reason for reading none back is right.
pub any_unread : (im : Image) (u : Unread) → (HasCommands im → ⊥) → IsUnread im u
any_unread im (unread.At place) h = h
any_unread im unread.Fields h = tt
any_unread im unread.Memory h = tt

-- The refusal of code that wasn't read back is right.
pub refuses_unread : (known : Known) (L : Lattice) (P : Profile) (im : Image) (u : Unread) → IsUnread im u →
    Refuses known L P im (unread_as u)
refuses_unread known L P im (unread.At place) h = h
refuses_unread known L P im unread.Fields h = tt
refuses_unread known L P im unread.Memory h = tt

-- The same in a room of the whole program.
pub commands_in_room : (im : Image) (halt : ℕ) (h : HasCommands im) (code : List Instr) (l s b : ℕ) →
    halt + 1 ≡ length im.code.items → code ≡ im.code.items → l ≡ length im.globals.items + 200 →
    s ≡ length im.globals.items → b ≡ 200 → Readable code l 0 halt s b (letvars h.commands + 0)
commands_in_room im halt h code l s b last same p q r =
    let g = length im.globals.items in
    subst (λ is. Readable is l 0 halt s b (letvars h.commands + 0)) (sym same)
    (in_room im.code.items 0 halt (letvars h.commands + 0) (g + 200) g 200 l s b p q r (commands_readable im halt h last))

-- A reason is right if it is the lack of memory for every image that has commands.
pub unread_if : (im : Image) (u : Unread) → (HasCommands im → u ≡ unread.Memory) → IsUnread im u
unread_if im (unread.At place) h = λ commands. let e = h commands in absurd cc
unread_if im unread.Fields h = tt
unread_if im unread.Memory h = tt

-- A reason that is passed on is still right.
pub passed_unread : {X : Type 0} (im : Image) (r : Result X Unread) (u : Unread) → IsErrAnd r (λ y. y ≡ u) →
    IsUnread im u → IfErr r (IsUnread im)
passed_unread im (Ok x) u h p = tt
passed_unread im (Err y) u h p = subst (IsUnread im) (sym h) p
