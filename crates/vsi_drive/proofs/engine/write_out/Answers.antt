use Rattle.std.proofs.Common.{rules}
use Rattle.std.proofs.lemmas.List.{places, take_all}
use Rattle.vsi_drive.proofs.Bytes.{wrote_more}
use Rattle.vsi_drive.proofs.engine.write_out.Goals as goal

pub loop-done-preserved : goal.loop-done-preserved
loop-done-preserved g c =
    record {
      written = wrote_more _ _ _ c.args.text.now _ c.loop-done.done c.in-Ok.count c.loop-done.invariant.written
          (take_all _ _ (search (rules, places))) c.in-Ok.ensures.bytes;
      room = search (rules, places);
      count = search (rules, places);
    }
