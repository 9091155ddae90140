use Rattle.vsi_flows.proofs.FurtherLemmas.{listed_few, listed_refused, listed_others, listed_sorted}
use Rattle.vsi_flows.proofs.listing.further_flows.Goals as goal

pub returns-clause-few : goal.returns-clause-few
returns-clause-few c =
    listed_few c.args.source.now c.args.profile c.args.from c.args.to (λ v. v.items) c.listed_flows.result
    c.listed_flows.ensures

pub returns-clause-refused : goal.returns-clause-refused
returns-clause-refused c =
    listed_refused c.args.source.now c.args.profile c.args.from c.args.to (λ v. v.items) c.listed_flows.result
    c.listed_flows.ensures

pub returns-clause-others : goal.returns-clause-others
returns-clause-others c =
    listed_others c.args.source.now c.args.profile c.args.from c.args.to (λ v. v.items) c.listed_flows.result
    c.listed_flows.ensures

pub returns-clause-sorted : goal.returns-clause-sorted
returns-clause-sorted c =
    listed_sorted c.args.source.now c.args.profile c.args.from c.args.to (λ v. v.items) c.listed_flows.result
    c.listed_flows.ensures
