use Rattle.std.proofs.Common.{sym, subst}
use Rattle.vsi_lattice.specs.LatticeView.{order}
use Rattle.vsi_types.specs.Security.{program}
use Rattle.vsi_flows.specs.Raising.{Answers}
use Rattle.vsi_flows.specs.Answers.{HasClassesIn}
use Rattle.vsi_flows.proofs.RaiseLemmas.{classes_in}
use Rattle.vsi_lsp.specs.Titles.{HasOldClassesIn}
use Rattle.vsi_lsp.proofs.TitleLemmas.{old_classes_in}
use Rattle.vsi_lsp.proofs.repairs.raising_title.Goals as goal

pub title_of-requires-clause-old : goal.title_of-requires-clause-old
title_of-requires-clause-old c =
    let s = c.args.source.now in
    let least = subst (Answers (order s.lattice) c.args.document.profile (program s.resolved)) c.in-Raised.is
    c.in_ok-raising.ensures.answer in
    subst (λ l. HasOldClassesIn (order l) c.deref.result.now) (sym c.lattice-lattice.ensures)
    (subst (HasOldClassesIn (order s.lattice)) (sym c.deref.ensures.value)
    (old_classes_in s c.resolved-program.ensures.kept c.args.document.profile c.in-Raised.raises.items least))

pub title_of-requires-clause-new : goal.title_of-requires-clause-new
title_of-requires-clause-new c =
    let s = c.args.source.now in
    let least = subst (Answers (order s.lattice) c.args.document.profile (program s.resolved)) c.in-Raised.is
    c.in_ok-raising.ensures.answer in
    subst (λ l. HasClassesIn (order l) c.deref.result.now) (sym c.lattice-lattice.ensures)
    (subst (HasClassesIn (order s.lattice)) (sym c.deref.ensures.value)
    (classes_in (order s.lattice) c.args.document.profile (program s.resolved) c.in-Raised.raises.items least))
