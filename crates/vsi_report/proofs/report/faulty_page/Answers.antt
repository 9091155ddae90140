use Rattle.std.proofs.Common.{[], subst}
use Rattle.std.specs.Prelude.{IfOk}
use Rattle.vsi_report.specs.Banner.{HasLead}
use Rattle.vsi_report.proofs.BannerLemmas.{fault_shown}
use Rattle.vsi_report.proofs.report.faulty_page.Goals as goal

pub returns-clause-verdict : goal.returns-clause-verdict
returns-clause-verdict c = λ reason.
    let e = c.args.error.now in
    let v = c.args.blank.now in
    fault_shown v.lattice.now v.profile v.source.now e c.joined.result
    (λ same. c.before.before.in_default.not-Memory same) reason
    (subst (λ v. IfOk c.joined.result (λ page. HasLead v [] page.items)) c.verdict_for.ensures
    (subst (λ x. IfOk c.joined.result (λ page. HasLead c.verdict_for.result x page.items)) c.new-lead.ensures
    c.joined.ensures.led))
