use Rattle.std.proofs.Common.{◌∙◌, sym}
use Rattle.std.proofs.lemmas.Option.{none-some}
use Rattle.vsi_image.proofs.VerifyLemmas.{valid_from, none_from}
use Rattle.vsi_image.proofs.verifier.verify.Goals as goal

pub of-requires : goal.of-requires
of-requires c = valid_from c.args.image (sym c.fault_of.ensures ∙ c.in-None.is)

pub returns-in-Some-clause-valid : goal.returns-in-Some-clause-valid
returns-in-Some-clause-valid c =
    let none = none_from c.args.image in
    (λ h. absurd (cc), λ v. absurd (none-some _ (sym (none v) ∙ sym c.fault_of.ensures ∙ c.in-Some.is)))
