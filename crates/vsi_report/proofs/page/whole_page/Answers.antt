use Rattle.std.proofs.Common.{refl}
use Rattle.vsi_report.proofs.BannerLemmas.{page_led, page_shows}
use Rattle.vsi_report.proofs.page.whole_page.Goals as goal

pub returns-clause-panel : goal.returns-clause-panel
returns-clause-panel c = λ source shows.
    page_shows c.args.verdict c.fill.new.page.items c.new-page.result.items c.title.result.now c.args.name.now
    c.deref.result.now c.heading.result.now c.args.lead.now.text.items c.args.before.now.text.items c.args.panel.now
    c.args.after.now.text.items source (c.in_ok-fill.ensures refl) c.new-page.ensures.items c.title.ensures
    c.heading.ensures shows

pub returns-clause-led : goal.returns-clause-led
returns-clause-led c =
    page_led c.args.verdict c.fill.new.page.items c.new-page.result.items c.title.result.now c.args.name.now
    c.deref.result.now c.heading.result.now c.args.lead.now.text.items c.args.before.now.text.items c.args.panel.now
    c.args.after.now.text.items (c.in_ok-fill.ensures refl) c.new-page.ensures.items c.title.ensures c.heading.ensures
