use Rattle.std.proofs.Common.{◌≡◌, length, ap, ◌∙◌, subst, arith}
use Rattle.std.specs.Prelude.{IfOk}
use Rattle.vsi_compiler.proofs.Held.{globals_at, declared_at}
use Rattle.vsi_lattice.specs.LatticeView.{order}
use Rattle.vsi_types.specs.Security.{program}
use Rattle.vsi_flows.specs.Table.{IsTable}
use Rattle.vsi_report.specs.Banner.{HasLead}
use Rattle.vsi_report.specs.Lead.{allowed_words}
use Rattle.vsi_report.specs.Page.{HasPanel}
use Rattle.vsi_report.specs.declared.page.Verdict.TheVariants.{Accepted}
use Rattle.vsi_report.proofs.BannerLemmas.{accepted_shown}
use Rattle.vsi_report.proofs.report.accepted_page.Goals as goal

pub facts_of-requires-clause-globals : goal.facts_of-requires-clause-globals
facts_of-requires-clause-globals c =
    globals_at _ c.resolved-program.ensures.kept _ _ c.requires.lattice c.resolved-program.ensures.value

pub facts_of-requires-clause-declared : goal.facts_of-requires-clause-declared
facts_of-requires-clause-declared c =
    declared_at _ c.resolved-program.ensures.kept _ _ c.requires.lattice c.resolved-program.ensures.value

pub returns-clause-panel : goal.returns-clause-panel
returns-clause-panel c =
    subst (λ t. IfOk c.joined.result (λ page. HasPanel page.items t)) c.requires.text c.joined.ensures.panel

pub returns-clause-verdict : goal.returns-clause-verdict
returns-clause-verdict c =
    let s = c.args.read.now in
    let P = c.args.blank.now.profile in
    let facts = c.in_ok-facts.facts in
    let pairs = facts.pairs.items in
    let p = c.resolved-program.result.now in
    let table : IsTable (order s.lattice) P (program s.resolved) pairs =
    subst (λ r. IsTable (order s.lattice) P (program r) pairs) c.resolved-program.ensures.value
    (subst (λ x. IsTable (order x) P (program p) pairs) c.requires.lattice c.in_ok-facts.ensures) in
    let count : c.len.result ≡ facts.pairs.len = c.len.ensures in
    let all = facts.pairs.ok in
    let same : c.len.result ≡ length pairs = omega arith in
    accepted_shown s.lattice P s.text pairs c.joined.result c.requires.accepted
    (record { resolved = s.resolved; stands = c.resolved-program.ensures.kept.stands; table = table })
    (subst (λ words. IfOk c.joined.result (λ page. HasLead Accepted words page.items))
    (c.in_ok-lead.ensures ∙ ap allowed_words same) c.joined.ensures.led)
