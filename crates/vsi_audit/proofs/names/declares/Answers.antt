use Rattle.std.proofs.Common.{arith}
use Rattle.vsi_audit.proofs.Declared.{declared_more, declared_all}
use Rattle.vsi_audit.proofs.names.declares.Goals as goal

pub loop-global-preserved : goal.loop-global-preserved
loop-global-preserved c = record {
  place = omega (arith, c.loop-global.invariant.place);
  declared = declared_more c.args.declared.now c.args.globals.now c.loop-global.place c.loop-global.global-index _
      c.global-item.result c.loop-global.invariant.place c.loop-global-test.true c.if-declared-globals.false
      c.global-item.is (c.is_declared.ensures c.if-not-is_declared.false) c.loop-global.invariant.declared;
}

pub returns : goal.returns
returns c = λ holds.
    declared_all c.args.declared.now c.args.globals.now c.loop-global.global-index c.loop-global-test.false
    c.if-declared-globals.false c.loop-global.invariant.declared
