use Rattle.std.proofs.Common.{◌∙◌, sym, ap, is_some}
use Rattle.vsi_image.specs.Marks.{marked}
use Rattle.vsi_image.proofs.VerifyLemmas.{targets-marked}
use Rattle.vsi_image.proofs.verifier.fault_of.Goals as goal

pub check_targets-requires : goal.check_targets-requires
check_targets-requires c =
    let no_limit = sym c.limit_of.ensures ∙ c.in_default.is in
    let no_fault = sym c.check_each.ensures.fault ∙ c.in_default-check_each.is in
    let marks = c.check_each.ensures.marks (ap is_some c.in_default-check_each.is) in
    targets-marked c.args.image.now _ (marked c.check_each.new.marks) c.deref-2.ensures.value no_limit no_fault marks
