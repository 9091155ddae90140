use Rattle.vsi_subject.proofs.Conforming.{policy_at}
use Rattle.vsi_subject.proofs.subject.Subject.asked_in.Goals as goal

pub returns-clause-asked : goal.returns-clause-asked
returns-clause-asked g c =
    record {
      bytes = c.in_ok-asked.asked.bytes.items;
      read = c.in_ok-asked.ensures.read;
      is = c.in_ok-asked.ensures.is;
      inside = c.in_ok-asked.ensures.inside;
    }

pub returns-clause-declared : goal.returns-clause-declared
returns-clause-declared g c =
    policy_at (g.F.Files.holds c.args.self.now.files.now) c.args.path.now c.in_ok-asked.asked.found.policy
    c.in_ok-asked.asked.lattice c.in_ok-asked.asked.policy.items c.in_ok-asked.ensures.policy
    c.in_ok-asked.ensures.declared
