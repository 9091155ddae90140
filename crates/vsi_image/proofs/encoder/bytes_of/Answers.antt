use Rattle.std.proofs.Common.{All, subst, sym, arith}
use Rattle.std.proofs.lemmas.List.Elements.{recursion_from_All}
use Rattle.vsi_image.specs.Fields.{HasOpcode}
use Rattle.vsi_image.proofs.Limited.{IsShort, all_short}
use Rattle.vsi_image.proofs.encoder.bytes_of.Goals as goal

pub put_globals-requires : goal.put_globals-requires
put_globals-requires c =
    subst (All IsShort) (sym c.deref-2.ensures.value) (all_short c.args.image.now.globals.items c.requires.names)

pub returns-clause-fits : goal.returns-clause-fits
returns-clause-fits c = record {
  low = omega arith;
  high = omega arith;
  allowed = c.requires;
  code = recursion_from_All (HasOpcode 2) c.args.image.now.code.items (
      subst (All (HasOpcode 2)) c.deref.ensures.value c.known_all.ensures);
}
