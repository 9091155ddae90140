use Rattle.vsi_subject.proofs.RefusalLemmas.{refuses_tree}
use Rattle.vsi_requests.proofs.texts.format.Goals as goal

pub returns-clause-failed : goal.returns-clause-failed
returns-clause-failed g c =
    refuses_tree (g.F.Files.holds c.args.subject.now.files.now) c.args.source.now c.in_ok-bytes.bytes.items c.as_slice.result.now
    c.in_ok-classes.classes c.format.result c.answered.result c.in_ok-bytes.ensures.read c.as_slice.ensures.value
    c.in_ok-classes.ensures.declared c.answered.ensures c.format.ensures.formats
