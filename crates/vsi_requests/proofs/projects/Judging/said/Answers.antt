use Rattle.std.proofs.Common.{◌∙◌, sym}
use Rattle.vsi_requests.proofs.projects.Judging.said.Goals as goal

pub returns-in-Ok-clause-told : goal.returns-in-Ok-clause-told
returns-in-Ok-clause-told g c = record {
  fits = λ is. c.in_ok-answer.ensures.conforms (sym c.conforms-fits.ensures ∙ is);
  released = c.in_ok-reaches.ensures.reaches;
  tried = c.in-Ok.ensures.tried;
}
