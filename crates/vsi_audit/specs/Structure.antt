-- Images whose code has commands.
use Rattle.std.specs.Prelude.{◌≡◌, ℕ, ◌+◌, ◌≤◌, length}
use Rattle.vsi_image.specs.declared.instr.Image.{Image}
use Rattle.vsi_scope.specs.Language.{Command, HasPlaces, depth, letvars}
use Rattle.vsi_code.specs.Layout.{whole_code}

-- The image has the code of commands within the limits of texts: their locations exist, there are at most 1,024 globals
-- and letvars, and nothing is more than 200 levels deep.
pub record HasCommands (im : Image) : Type 0 where
  pub commands : Command
  pub code : im.code.items ≡ whole_code (length im.globals.items) commands
  pub places : HasPlaces (length im.globals.items) commands
  pub few : length im.globals.items + letvars commands ≤ 1024
  pub shallow : depth commands ≤ 200
