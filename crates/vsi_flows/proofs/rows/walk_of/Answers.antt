use Rattle.vsi_types.specs.Security.{program, steps_of}
use Rattle.vsi_flows.proofs.WalkLemmas.{finds_there, arrived_walk}
use Rattle.vsi_flows.proofs.rows.walk_of.Goals as goal

pub walk_from-requires-clause-known : goal.walk_from-requires-clause-known
walk_from-requires-clause-known c =
    (finds_there (steps_of c.args.profile (program c.args.program.now)) c.args.last c.args.found.now c.args.pair
    c.requires c.row_of.result c.row_of.ensures c.in-Some-Some.field-0.now c.in-Some-Some.walks
    c.in-Some-Some.field-0-is c.in-Some-Some.ensures.lookup.3.0 c.in-Some-Some.ensures.lookup.1).known

pub walk_from-requires-clause-down : goal.walk_from-requires-clause-down
walk_from-requires-clause-down c =
    (finds_there (steps_of c.args.profile (program c.args.program.now)) c.args.last c.args.found.now c.args.pair
    c.requires c.row_of.result c.row_of.ensures c.in-Some-Some.field-0.now c.in-Some-Some.walks
    c.in-Some-Some.field-0-is c.in-Some-Some.ensures.lookup.3.0 c.in-Some-Some.ensures.lookup.1).down

pub walk_from-requires-clause-at : goal.walk_from-requires-clause-at
walk_from-requires-clause-at c =
    (finds_there (steps_of c.args.profile (program c.args.program.now)) c.args.last c.args.found.now c.args.pair
    c.requires c.row_of.result c.row_of.ensures c.in-Some-Some.field-0.now c.in-Some-Some.walks
    c.in-Some-Some.field-0-is c.in-Some-Some.ensures.lookup.3.0 c.in-Some-Some.ensures.lookup.1).away

pub returns : goal.returns
returns c =
    arrived_walk (steps_of c.args.profile (program c.args.program.now)) c.args.pair c.in-Some-Some.walks
    (finds_there (steps_of c.args.profile (program c.args.program.now)) c.args.last c.args.found.now c.args.pair
    c.requires c.row_of.result c.row_of.ensures c.in-Some-Some.field-0.now c.in-Some-Some.walks
    c.in-Some-Some.field-0-is c.in-Some-Some.ensures.lookup.3.0 c.in-Some-Some.ensures.lookup.1)
    (λ v. v.items) c.walk_from.result c.walk_from.ensures
