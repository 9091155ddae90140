use Rattle.std.proofs.Common.{map, below_more, ap, sym, ◌∙◌, true≢false}
use Rattle.std.proofs.Math.ListN.{get_or-map}
use Rattle.vsi_syntax.specs.Words.{is_name}
use Rattle.vsi_lattice.specs.NamePlaces.{IsBadName}
use Rattle.vsi_lattice.proofs.reader.first_bad.Goals as goal

pub loop-i-preserved : goal.loop-i-preserved
loop-i-preserved c =
    below_more (λ k. ¬ (IsBadName (map (λ r. r.now) c.args.names.now) k)) c.loop-i.i c.loop-i.invariant
    (λ h. true≢false (sym (ap is_name (get_or-map (λ r. r.now) c.args.names.now c.loop-i.i _
    ∙ sym c.as_bytes.ensures.value)
    ∙ (sym c.is_name.ensures ∙ c.if-not-is_name.false)) ∙ h.1))
