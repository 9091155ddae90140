use Rattle.vsi_subject.proofs.RefusalLemmas.{refuses_declared}
use Rattle.vsi_requests.proofs.projects.lattice_at.Goals as goal

pub returns-clause-failed : goal.returns-clause-failed
returns-clause-failed g c =
    refuses_declared (g.F.Files.holds c.args.subject.now.files.now) c.args.path.now c.in_ok-bytes.bytes.items
    c.as_slice.result.now c.declared_lattice.result c.in_ok-bytes.ensures.read c.as_slice.ensures.value
    c.declared_lattice.ensures.failed
