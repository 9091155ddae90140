use Rattle.std.proofs.Common.{sym, subst}
use Rattle.vsi_report.specs.Reading.{Shows}
use Rattle.vsi_report.specs.Panel.{close_tag}
use Rattle.vsi_report.proofs.EscapeLemmas.{close_shows, more_shows}
use Rattle.vsi_report.proofs.panel.put_end.Goals as goal

pub returns : goal.returns
returns c = λ t h.
    subst (λ x. Shows x t) (sym c.in_ok-extend_from_slice.ensures.items)
    (more_shows c.args.page.now.items close_tag t h close_shows)
