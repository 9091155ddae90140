use Rattle.std.specs.Prelude.{codes}
use Rattle.vsi_hints.specs.Hints.{quoted}
use Rattle.vsi_hints.proofs.Appends.{four_pieces}
use Rattle.vsi_hints.proofs.drafts.put_replacing.Goals as goal

pub returns : goal.returns
returns c =
    four_pieces c.args.words.now.items (codes "write ") (quoted c.args.new.now) (codes " in place of ")
    (quoted c.args.old.now) _ _ _ _ c.in_ok-extend_from_slice.ensures.items c.in_ok-put_quoted.ensures
    c.in_ok-extend_from_slice-2.ensures.items c.in_ok-put_quoted-2.ensures
