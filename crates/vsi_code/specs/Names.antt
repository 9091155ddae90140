-- The globals of an image of a resolved program.
use Rattle.std.specs.Prelude.{List, map}
use Rattle.vsi_scope.specs.declared.resolved.Global.{Global}
use Rattle.vsi_image.specs.Fields as image

-- The name and the class name of a global.
abbrev pub named_global : Global → image.Global
named_global g = (g.name.now, g.class_name.now)

-- The names and class names of globals, in order.
abbrev pub all_named : List Global → List image.Global
all_named gs = map named_global gs
