use Rattle.vsi_subject.proofs.Conforming.{policy_at}
use Rattle.vsi_requests.proofs.projects.Judging.asked.Goals as goal

pub returns-in-Ok-clause-told : goal.returns-in-Ok-clause-told
returns-in-Ok-clause-told g c =
    let holds = g.F.Files.holds c.args.subject.now.files.now in
    let read = c.in-Ok.read in
    record {
      interface = record {
        bytes = read.bytes.items;
        read = c.in-Ok.ensures.read;
        is = c.in-Ok.ensures.is;
        inside = c.in-Ok.ensures.inside;
      };
      lattice = policy_at holds c.args.path.now read.found.policy read.lattice read.policy.items c.in-Ok.ensures.policy
          c.in-Ok.ensures.declared;
      within = c.in-Ok.ensures.within;
    }
