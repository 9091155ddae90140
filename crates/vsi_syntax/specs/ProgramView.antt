-- A program, independent of its location in memory.
use Rattle.vsi_syntax.specs.declared.tree.Program.{Program}
use Rattle.vsi_syntax.specs.Tree.{Whole}
use Rattle.vsi_syntax.specs.CommandView.{whole_of}

-- The globals and the body of a program, seen as a tree.
abbrev pub whole : Program → Whole
whole p = whole_of p.globals.items p.body.items
