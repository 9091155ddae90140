use Rattle.std.proofs.Common.{sym, subst}
use Rattle.vsi_report.specs.Reading.{Shows}
use Rattle.vsi_report.proofs.report.joined.Goals as goal

pub returns-clause-panel : goal.returns-clause-panel
returns-clause-panel c =
    let s = c.args.view.now.source.now in
    c.whole_page.ensures.panel s (subst (λ x. Shows x s) (sym c.deref.ensures.value) c.in_ok-panel.ensures)

pub returns-clause-led : goal.returns-clause-led
returns-clause-led c = c.whole_page.ensures.led
