use Rattle.std.proofs.lemmas.Result.{err_from_is_err_and}
use Rattle.vsi_lattice.specs.LatticeView.{class_named}
use Rattle.std.proofs.Common.{refl, rules}
use Rattle.vsi_scope.specs.declared.resolution.whole.Globals.{Globals}
use Rattle.vsi_scope.specs.declared.resolution.whole.Names.{Names}
use Rattle.vsi_scope.proofs.Declaring.{halfway_none, halfway_more, halfway_refuses, halfway_done, halfway_clean, from_declaration, from_end, put_global, declared_name}
use Rattle.vsi_scope.proofs.resolution.whole.read_globals.Goals as goal

pub loop-d-init : goal.loop-d-init
loop-d-init c =
    halfway_none (class_named c.args.lattice.now) _ _
    (record { list = c.new.ensures.items; globals = search rules; outer = c.new-3.ensures.items })

pub returns-in_err-class-clause-fault : goal.returns-in_err-class-clause-fault
returns-in_err-class-clause-fault c =
    let p = err_from_is_err_and c.from_residual.result c.from_residual.ensures.1 in
    rw (p.1, p.2) (halfway_refuses (class_named c.args.lattice.now) c.loop-d.globals _ _ _ _ c.in_err-class.field-0.0
    (from_declaration c.args.declarations.now c.loop-d.d-index _ c.loop-d-test.true) c.loop-d.invariant
    c.in_err-class.ensures.fault)

pub loop-d-preserved : goal.loop-d-preserved
loop-d-preserved c =
    let known = class_named c.args.lattice.now in
    let old = c.loop-d.globals.names in
    let names : Names = record { globals = c.insert.new.self; locals = old.locals } in
    let new : Globals = record { list = c.push.new.self; names = names } in
    let named = declared_name old names _ c.loop-d.invariant.outer refl c.in_ok-class.ensures.fresh
    c.in_ok-insert.ensures.keys in
    halfway_more known c.loop-d.globals new _ _ _ _
    (from_declaration c.args.declarations.now c.loop-d.d-index _ c.loop-d-test.true) c.loop-d.invariant
    c.loop-d.invariant.outer named
    (put_global known _ _ _ _ c.in_ok-class.class c.in_ok-class.ensures.class c.in-Ok.ensures.items)
    c.in_ok-class.ensures.few c.in_ok-class.ensures.fault

pub returns-clause-read : goal.returns-clause-read
returns-clause-read c =
    halfway_done (class_named c.args.lattice.now) c.loop-d.globals _ _
    (from_end c.args.declarations.now c.loop-d.d-index c.loop-d-test.false) c.loop-d.invariant

pub returns-clause-fault : goal.returns-clause-fault
returns-clause-fault c =
    halfway_clean (class_named c.args.lattice.now) c.loop-d.globals _ _
    (from_end c.args.declarations.now c.loop-d.d-index c.loop-d-test.false) c.loop-d.invariant
