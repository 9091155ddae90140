use Rattle.vsi_conform.proofs.Tables.{put_entry}
use Rattle.vsi_conform.proofs.reader.put_copy.Goals as goal

pub returns : goal.returns
returns c =
    let put = put_entry c.args.tables.now.entries c.in_ok-name.name c.in_ok-copy.copy in
    rw (c.in_ok-insert.ensures.entries, put, c.in_ok-name.ensures.ok, c.in_ok-copy.ensures.cases, ← c.in-Some.ensures)
