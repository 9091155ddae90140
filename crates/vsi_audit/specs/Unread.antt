-- Commands that were read back from an image, and the reason why they weren't; used only in proofs.
use Rattle.std.specs.Prelude.{◌≡◌, ℕ, ◌+◌, ◌≤◌, length}
use Rattle.vsi_image.specs.declared.instr.Image.{Image}
use Rattle.vsi_scope.specs.Language.{letvars}
use Rattle.vsi_scope.specs.View.{sequence}
use Rattle.vsi_audit.specs.declared.builder.Commands.{Commands}
use Rattle.vsi_audit.specs.declared.flow.Unread.{Unread}
use Rattle.vsi_audit.specs.declared.flow.Unread.TheVariants as unread
use Rattle.vsi_audit.specs.Reading.{IsRead}
use Rattle.vsi_audit.specs.Structure.{HasCommands}

-- If code wasn't read back for a reason that names a place, it isn't the code of such commands.
abbrev pub IsUnread : Image → Unread → Type 0
IsUnread im (unread.At place) = HasCommands im → ⊥
IsUnread im unread.Fields = Unit {0}
IsUnread im unread.Memory = Unit {0}

-- These commands were read back from the image's code.
pub record AreRead (im : Image) (c : Commands) : Type 0 where
  pub halt : ℕ
  pub last : halt + 1 ≡ length im.code.items
  pub read :
      IsRead im.code.items (length im.globals.items + 200) (length im.globals.items) 0 halt (sequence c.body.items)
  pub count : length c.letvars.items ≡ letvars (sequence c.body.items)
  pub few : length im.globals.items + letvars (sequence c.body.items) ≤ 1024
