use Rattle.std.proofs.Common.{◌∙◌, sym, subst}
use Rattle.vsi_conform.specs.Conformity.{said as said_of}
use Rattle.vsi_subject.specs.Projects.{ConformsIn}
use Rattle.vsi_requests.proofs.projects.Judging.conforms.Goals as goal

pub returns-clause-told : goal.returns-clause-told
returns-clause-told g c = λ well. rw c.in-Some.is (
    subst (λ p. ConformsIn (g.F.Files.holds c.args.subject.now.files.now) c.args.self.now.budget p c.args.self.now.text.now)
    c.as_str-path.ensures.value
    (record {
      asked = c.in-Some-2.read.found;
      lattice = c.in-Some-2.read.lattice;
      required = rw c.in-Some-2.is at c.in_ok-read.ensures.told;
      said = said_of c.in-Some-3.said;
      is = rw c.in-Some-3.is at c.in_ok-said.ensures.told;
      well = sym c.conforms-is_well.ensures.verdict ∙ well;
    }))
