use Rattle.vsi_flows.proofs.FurtherLemmas.{listed_first, listed_none}
use Rattle.vsi_flows.proofs.listing.listed_flows.Goals as goal

pub returns-then-is_short : goal.returns-then-is_short
returns-then-is_short c =
    listed_first c.args.source.now c.args.profile c.args.from c.args.to c.resolved-resolved.result.now
    c.text.result.now c.is_small-is_short.result c.resolved-resolved.ensures.value c.text.ensures
    c.is_small-is_short.ensures c.if-is_short.true (λ v. v.items) c.first_flows.result c.first_flows.ensures

pub returns-else-is_short : goal.returns-else-is_short
returns-else-is_short c =
    listed_none c.args.source.now c.args.profile c.args.from c.args.to c.resolved-resolved.result.now
    c.text.result.now c.is_small-is_short.result c.resolved-resolved.ensures.value c.text.ensures
    c.is_small-is_short.ensures c.if-is_short.false _ c.new.ensures.items
