use Rattle.std.proofs.Common.{ap, ◌∙◌}
use Rattle.vsi_answers.specs.Members.{object_line}
use Rattle.vsi_answers.specs.Bounds.{bound_line}
use Rattle.vsi_documents.specs.Bounds.{bound_members}
use Rattle.vsi_documents.proofs.images.document_of.Goals as goal

pub returns : goal.returns
returns c =
    let told = c.args.answer in
    record {
      answer = c.requires.answer;
      is = c.requires.is;
      says = c.requires.bounded;
      place = c.requires.place;
      line = c.in_ok-text.ensures
          ∙ ap (λ t. object_line (bound_members told.is_bounded told.found t)) (c.deref.ensures.value ∙ c.requires.line)
          ∙ ap (λ f. object_line (bound_members told.is_bounded f (bound_line c.requires.place c.requires.answer)))
          c.requires.found;
    }
