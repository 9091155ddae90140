use Rattle.std.proofs.Common.{◌≡◌, min, arith}
use Rattle.std.proofs.lemmas.Result.{err_from_is_err_and}
use Rattle.vsi_syntax.specs.ProgramView.{whole}
use Rattle.vsi_lattice.specs.LatticeView.{class_named}
use Rattle.vsi_scope.specs.Language.{size}
use Rattle.vsi_scope.specs.View.{sequence}
use Rattle.vsi_scope.proofs.Top.{Begun, Over, begun_within, body_refuses, globals_refuse, too_large, is_resolved, no_deeper, resolves, exact, resolution_small}
use Rattle.vsi_scope.proofs.Classes.{classes_below}
use Rattle.vsi_scope.proofs.resolution.whole.resolve.Goals as goal
use Rattle.vsi_scope.proofs.resolution.whole.resolve.Goals.{After-body, After-size}

-- The globals are read before the walk.
begun : (c : After-body) →
    Begun (class_named c.args.lattice.now) (whole c.args.program.now) c.in_ok-list.field-0.list.items
    (record { names = c.in_ok-list.field-0.names; letvars = c.new.result })
begun c = record {
  outer = c.in_ok-list.ensures.read.outer;
  named = rw (c.globals.ensures.globals) at c.in_ok-list.ensures.read.names;
  listed = rw (c.globals.ensures.globals) at c.in_ok-list.ensures.read.list;
  letvars = c.new.ensures.items;
  faultless = rw (c.globals.ensures.globals) at c.in_ok-list.ensures.fault;
  spelled = rw (c.globals.ensures.globals) at c.globals.ensures.spelled;
  shallow = rw (c.body.ensures.body) at c.body.ensures.keeps.1;
}

-- The walk has passed the body without a fault before its size is judged.
over : (c : After-size) →
    Over (class_named c.args.lattice.now) (whole c.args.program.now)
    (record { names = c.in_ok-list.field-0.names; letvars = c.new.result }) c.sequence.new.resolver
    c.sequence.new.out.items
over c = record {
  walked = rw (c.new-body.ensures.items, c.body.ensures.body) at c.in_ok-sequence.ensures.value;
  none = rw (c.body.ensures.body) at c.in_ok-sequence.ensures.fault;
}

-- The size that is judged is that of the commands.
measured : (c : After-size) → c.size.result ≡ min (size (sequence c.sequence.new.out.items)) 4294967295
measured c = rw (c.deref.ensures.value) at c.size.ensures

pub returns-in_err-list-clause-refused : goal.returns-in_err-list-clause-refused
returns-in_err-list-clause-refused c =
    let known = class_named c.args.lattice.now in
    let p = err_from_is_err_and c.from_residual.result c.from_residual.ensures.1 in
    let fault = rw (c.globals.ensures.globals) at c.in_err-list.ensures.fault in
    rw (p.1, p.2) (globals_refuse known (whole c.args.program.now) c.in_err-list.field-0.0 fault)

pub returns-in_err-list-clause-exact : goal.returns-in_err-list-clause-exact
returns-in_err-list-clause-exact c =
    exact (class_named c.args.lattice.now) (whole c.args.program.now) _ (returns-in_err-list-clause-refused c)

pub sequence-requires : goal.sequence-requires
sequence-requires c = begun_within _ _ _ _ (begun c)

pub returns-in_err-sequence-clause-refused : goal.returns-in_err-sequence-clause-refused
returns-in_err-sequence-clause-refused c =
    let b = begun (goal.at.returns-in_err-sequence-clause-refused c).After-body in
    let q = err_from_is_err_and c.from_residual-in_err-sequence.result c.from_residual-in_err-sequence.ensures.1 in
    let fault = rw (c.body.ensures.body) at c.in_err-sequence.ensures.fault in
    rw (q.1, q.2) (body_refuses _ _ _ _ b c.in_err-sequence.field-0.0 fault)

pub returns-in_err-sequence-clause-exact : goal.returns-in_err-sequence-clause-exact
returns-in_err-sequence-clause-exact c =
    exact (class_named c.args.lattice.now) (whole c.args.program.now) _ (returns-in_err-sequence-clause-refused c)

pub returns-then-size-gt-MAX_SIZE-clause-refused : goal.returns-then-size-gt-MAX_SIZE-clause-refused
returns-then-size-gt-MAX_SIZE-clause-refused c =
    let at = goal.at.returns-then-size-gt-MAX_SIZE-clause-refused c in
    too_large _ _ _ _ (begun at.After-body) _ _ (over at.After-size)
    (omega (arith, c.if-size-gt-MAX_SIZE.true, measured at.After-size))

pub returns-then-size-gt-MAX_SIZE-clause-exact : goal.returns-then-size-gt-MAX_SIZE-clause-exact
returns-then-size-gt-MAX_SIZE-clause-exact c cs r =
    absurd
    (resolution_small (class_named c.args.lattice.now) (whole c.args.program.now) cs r
    (returns-then-size-gt-MAX_SIZE-clause-refused c))

pub new-requires-2 : goal.new-requires-2
new-requires-2 c =
    let at = goal.at.new-requires-2 c in
    is_resolved _ _ _ _ (begun at.After-body) _ _ (over at.After-size)
    (omega (arith, c.if-size-gt-MAX_SIZE.false, measured at.After-size))

pub returns-clause-resolved : goal.returns-clause-resolved
returns-clause-resolved c =
    let at = goal.at.returns-clause-resolved c in
    rw (c.new-2.ensures) (resolves _ _ _ _ (begun at.After-body) _ _ (over at.After-size)
    (omega (arith, c.if-size-gt-MAX_SIZE.false, measured at.After-size)))

pub returns-clause-shallow : goal.returns-clause-shallow
returns-clause-shallow c =
    let at = goal.at.returns-clause-shallow c in
    rw (c.new-2.ensures) (no_deeper _ _ _ _ (begun at.After-body) _ _ (over at.After-size))

pub returns-clause-classes : goal.returns-clause-classes
returns-clause-classes c n below =
    let known = class_named c.args.lattice.now in
    classes_below known n below (whole c.args.program.now) _ (returns-clause-resolved c)
