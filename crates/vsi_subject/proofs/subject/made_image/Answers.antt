use Rattle.std.proofs.Common.{Ok, subst}
use Rattle.vsi_types.specs.declared.rules.Profile.TheVariants.{Base}
use Rattle.vsi_answers.specs.Judged.{AreImage}
use Rattle.vsi_answers.specs.Requests.{BuildsTo}
use Rattle.vsi_subject.proofs.AnswerLemmas.{answered_told}
use Rattle.vsi_subject.proofs.subject.made_image.Goals as goal

pub returns-in-Ok-clause-made : goal.returns-in-Ok-clause-made
returns-in-Ok-clause-made c =
    record {
      bytes = c.in_ok-bytes.bytes;
      built =
          answered_told (BuildsTo c.args.lattice.now Base c.args.text.now) c.build.result (Ok c.in_ok-bytes.bytes)
          c.in_ok-bytes.ensures c.build.ensures.builds;
      are = subst (λ b. AreImage b c.in-Ok.verified) c.as_slice-image.ensures.value c.in-Ok.ensures.image;
    }
