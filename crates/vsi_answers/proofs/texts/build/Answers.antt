use Rattle.vsi_answers.proofs.Told.{unread_told}
use Rattle.vsi_answers.proofs.texts.build.Goals as goal

pub returns-in-Ok : goal.returns-in-Ok
returns-in-Ok g c =
    let s = c.in-Ok.ensures in
    record { builds = rw (← s.lattice, ← s.text) c.build_source.ensures }

pub returns-in-Err : goal.returns-in-Err
returns-in-Err g c =
    let e = c.in-Err.ensures in
    record {
      builds = unread_told c.args.lattice.now c.args.profile c.args.source.now c.in-Err.error e.refused e.exact
          c.refused_source.result c.refused_source.ensures;
    }
