use Rattle.std.proofs.Common.{sym, ◌∙◌}
use Rattle.vsi_audit.proofs.Standing.{same_bytes}
use Rattle.vsi_audit.proofs.Declared.{same_pair}
use Rattle.vsi_audit.proofs.names.is_declared.Goals as goal

pub returns-then-eq : goal.returns-then-eq
returns-then-eq c = λ holds.
    same_pair c.args.declared.now.name.text.now c.args.declared.now.class.text.now c.args.global.now.0.items
    c.args.global.now.1.items
    (same_bytes _ _ (sym c.eq.ensures ∙ c.if-eq.true) ∙ c.as_slice.ensures.value)
    (same_bytes _ _ (sym c.eq-then-eq.ensures ∙ holds) ∙ c.as_slice-then-eq.ensures.value)
