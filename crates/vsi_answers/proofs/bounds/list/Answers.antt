use Rattle.std.proofs.Common.{ap, ◌∙◌}
use Rattle.vsi_image.specs.Fields.{fields}
use Rattle.vsi_image.specs.Listing.{listing}
use Rattle.vsi_answers.proofs.bounds.list.Goals as goal

pub returns : goal.returns
returns c =
    record {
      lists = (
        c.in_ok-verified.verified,
        c.in_ok-verified.ensures.image,
        c.in_ok-listing.ensures ∙ ap (λ i. listing (fields i)) c.image.ensures.same,
      );
    }
