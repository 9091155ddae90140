use Rattle.std.proofs.Common.{◌≡◌, ◌+◌, ◌<◌, [], true, false, ◌||◌, length, reverse, take, get_or, Some, refl, sym, ap, subst, arith}
use Rattle.std.specs.Prelude.{slice_get, pos}
use Rattle.std.proofs.lemmas.Bool.{both_ways}
use Rattle.std.proofs.lemmas.List.Elements.{All-replicate}
use Rattle.vsi_image.specs.declared.instr.Instr.TheVariants.{Push}
use Rattle.vsi_lattice.specs.LatticeView.{class_named, order}
use Rattle.vsi_lattice.specs.Laws.{lawful_is_lattice}
use Rattle.vsi_lattice.specs.Order.{IsClass}
use Rattle.vsi_machine.proofs.Steps.{read}
use Rattle.vsi_steady.specs.Least.{Leads}
use Rattle.vsi_steady.specs.Steady.{Passes}
use Rattle.vsi_steady.proofs.Sweeping.{Sweeping, sweep_on}
use Rattle.vsi_steady.proofs.Walking.{fine_read}
use Rattle.vsi_steady.proofs.check.sweep.Goals as goal

pub loop-pc-init : goal.loop-pc-init
loop-pc-init c =
    let l = c.args.lattice.now in
    record {
      standing = record {
        at_depth = refl;
        room = omega arith;
        classes = All-replicate (IsClass (order l)) 256 c.bottom-held.result (subst (λ x. IsClass (order l) x) (sym c.bottom-held.ensures)
            (lawful_is_lattice (order l) l.order.lawful).bottom_within);
      };
      have = c.requires.classes;
      through = λ quiet clear on. on;
      below = c.requires.least;
      follows = λ s. record { held = []; below = tt; code = s.code };
      clear = λ s. refl;
      same = λ quiet. refl;
      nearer = λ loud. absurd (both_ways false refl loud);
    }

pub raise_by-is_raised-requires-clause-fine : goal.raise_by-is_raised-requires-clause-fine
raise_by-is_raised-requires-clause-fine c =
    fine_read (order c.args.lattice.now) c.args.image.now c.deref-instr-items.result.now c.loop-pc.pc c.loop-pc.depth
    c.loop-pc.held (Push (pos 0)) c.requires.valid c.loop-pc.invariant.standing c.deref-instr-items.ensures.value
    (omega (arith, c.loop-pc-test.true, ap length c.deref-instr-items.ensures.value))

pub pass-after-requires-clause-fine : goal.pass-after-requires-clause-fine
pass-after-requires-clause-fine c =
    fine_read (order c.args.lattice.now) c.args.image.now c.deref-instr-items.result.now c.loop-pc.pc c.loop-pc.depth
    c.loop-pc.held (Push (pos 0)) c.requires.valid c.loop-pc.invariant.standing c.deref-instr-items.ensures.value
    (omega (arith, c.loop-pc-test.true, ap length c.deref-instr-items.ensures.value))

pub loop-pc-preserved : goal.loop-pc-preserved
loop-pc-preserved c =
    let l = c.args.lattice.now in
    let image = c.args.image.now in
    let L = order l in
    let list = c.deref-instr-items.result.now in
    let w = c.loop-pc in
    let i = get_or list w.pc (Push (pos 0)) in
    let lt : w.pc < length image.code.items =
    omega (arith, c.loop-pc-test.true, ap length c.deref-instr-items.ensures.value) in
    let e : slice_get image.code.items w.pc ≡ Some i =
    read image.code.items list w.pc (Push (pos 0)) c.deref-instr-items.ensures.value lt in
    let raised = c.raise_by-is_raised in
    let passed = c.pass-after in
    subst (λ n. Sweeping (class_named l) L image c.args.classes.now raised.new.classes (w.pc + 1) n passed.new.held
    (w.has_risen || raised.result) c.noted-flow.result) (sym passed.ensures.depth)
    (sweep_on (class_named l) L (lawful_is_lattice L l.order.lawful) image c.requires.valid c.args.classes.now w.classes
    raised.new.classes w.pc w.depth w.held passed.new.held w.has_risen raised.result passed.result.is_met w.flow
    c.noted-flow.result i w.invariant e lt
    (record {
      have = raised.ensures.classes;
      first = raised.ensures.found;
      same = raised.ensures.same;
      risen = raised.ensures.risen;
      passes = subst (λ n. passed.result.is_met ≡ true → Passes L raised.new.classes i (reverse (take w.depth w.held))
          (reverse (take n passed.new.held))) passed.ensures.depth passed.ensures.passes;
      leads = subst (λ n. Leads L raised.new.classes i (reverse (take w.depth w.held))
          (reverse (take n passed.new.held))) passed.ensures.depth passed.ensures.leads;
      found = passed.ensures.found;
    }) passed.ensures.held c.noted-flow.ensures.met c.noted-flow.ensures.all)
