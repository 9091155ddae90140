-- The image of a program, as a function of the program.
use Rattle.std.specs.Prelude.{◌+◌, List, length}
use Rattle.vsi_image.specs.Fields as image
use Rattle.vsi_scope.specs.Language.{Command, nesting}
use Rattle.vsi_code.specs.Layout.{whole_code}
use Rattle.vsi_code.specs.Needs.{height}

-- The image of a body over these globals: a slot for each global and for each letvar of the deepest nesting, room for
-- the greatest number of operands, and the whole code.
abbrev pub image_of : List image.Global → Command → image.Fields
image_of globals body =
    record {
      globals = globals;
      slots = length globals + nesting body;
      stack = height body;
      code = whole_code (length globals) body;
    }
