use Rattle.std.proofs.Common.{subst, sym}
use Rattle.std.specs.Prelude.{IfOk}
use Rattle.vsi_lattice.specs.LatticeView.{class_named, order}
use Rattle.vsi_compiler.specs.Refusal.{HasShortestBadWalk}
use Rattle.vsi_compiler.specs.SourceView.{IsSource, source_of}
use Rattle.vsi_compiler.proofs.Held.{of_parts, globals_at, declared_at}
use Rattle.vsi_report.specs.Lead.{IsLead}
use Rattle.vsi_report.specs.Page.{HasPanel}
use Rattle.vsi_report.specs.Verdict.{HasVerdict}
use Rattle.vsi_report.proofs.BannerLemmas.{refused_shown, true_lead}
use Rattle.vsi_report.proofs.report.refused_page.Goals as goal

pub reached_classes-requires-clause-globals : goal.reached_classes-requires-clause-globals
reached_classes-requires-clause-globals c =
    globals_at _ c.resolved-program.ensures.kept _ _ c.requires.lattice c.resolved-program.ensures.value

pub reached_classes-requires-clause-declared : goal.reached_classes-requires-clause-declared
reached_classes-requires-clause-declared c =
    declared_at _ c.resolved-program.ensures.kept _ _ c.requires.lattice c.resolved-program.ensures.value

pub facts_of-requires-clause-globals : goal.facts_of-requires-clause-globals
facts_of-requires-clause-globals c =
    globals_at _ c.resolved-program.ensures.kept _ _ c.requires.lattice c.resolved-program.ensures.value

pub facts_of-requires-clause-declared : goal.facts_of-requires-clause-declared
facts_of-requires-clause-declared c =
    declared_at _ c.resolved-program.ensures.kept _ _ c.requires.lattice c.resolved-program.ensures.value

pub returns-clause-panel : goal.returns-clause-panel
returns-clause-panel c =
    subst (λ t. IfOk c.joined.result (λ page. HasPanel page.items t)) c.requires.text c.joined.ensures.panel

pub returns-clause-verdict : goal.returns-clause-verdict
returns-clause-verdict c = λ given.
    let s = c.args.read.now in
    let P = c.args.blank.now.profile in
    let w = c.args.walk.now in
    let l = c.args.blank.now.lattice.now in
    let t = c.args.blank.now.source.now in
    let p = c.resolved-program.result.now in
    let pairs = c.in_ok-facts.facts.pairs.items in
    let told = c.lead_of-told.result in
    let res = c.joined.result in
    let is : IsSource (source_of l t p) =
    of_parts s c.resolved-program.ensures.kept l t p c.requires.lattice c.requires.text
    c.resolved-program.ensures.value in
    let walk : HasShortestBadWalk (class_named l) (order l) P t w =
    subst (λ x. HasShortestBadWalk (class_named x) (order x) P t w) (sym c.requires.lattice)
    (subst (λ x. HasShortestBadWalk (class_named s.lattice) (order s.lattice) P x w) (sym c.requires.text) given) in
    subst (λ x. IfOk res (λ page. HasVerdict x P s.text page.items)) c.requires.lattice
    (subst (λ x. IfOk res (λ page. HasVerdict l P x page.items)) c.requires.text
    (refused_shown l P t p w pairs res is.stands c.in_ok-facts.ensures walk
    (true_lead l p w pairs told c.in_ok-lead.lead.text.items res
    (subst (λ ps. IsLead l p w ps told) c.deref-2.ensures.value c.lead_of-told.ensures)
    c.in_ok-lead.ensures c.joined.ensures.led)))
