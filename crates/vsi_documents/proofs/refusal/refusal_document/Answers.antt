use Rattle.std.proofs.Common.{None, option_map, sym, subst}
use Rattle.vsi_documents.specs.Steps.{LocatesFlow}
use Rattle.vsi_documents.proofs.refusal.refusal_document.Goals as goal

pub returns : goal.returns
returns c = λ l. c.in_ok-written.ensures l
    (subst (λ steps. LocatesFlow l c.args.uri.now c.args.text.now (option_map (λ s. s.now) steps) None)
    (sym c.in-None.is) record {})
