use Rattle.std.proofs.Common.{◌≡◌, ◌∙◌, ◌+◌, ◌≤◌, get_or, length, sym, ap, subst, arith}
use Rattle.std.proofs.lemmas.List.{length-map}
use Rattle.vsi_image.specs.Fields.{global}
use Rattle.vsi_lattice.specs.LatticeView.{class_named, order}
use Rattle.vsi_lattice.specs.Laws.{lawful_is_lattice}
use Rattle.vsi_lattice.specs.Order.{IsClass}
use Rattle.vsi_steady.specs.Least.{AreLeast}
use Rattle.vsi_steady.specs.Steady.{HaveClasses}
use Rattle.vsi_steady.proofs.First.{FirstClasses, first_all, first_more, first_resized}
use Rattle.vsi_steady.proofs.check.first_classes.Goals as goal

pub loop-i-preserved : goal.loop-i-preserved
loop-i-preserved c =
    let l = c.args.lattice.now in
    let gs = c.as_slice-globals.result.now in
    let i = c.loop-i.i in
    let d = c.index-globals-i.result in
    let v : c.as_slice.result.now ≡ (get_or gs i d).1.items = cc (c.as_slice.ensures.value, c.index-globals-i.is) in
    subst (λ cs. FirstClasses (class_named l) (order l) gs (i + 1) cs) (sym c.in_ok-push-in-Some.ensures.items)
    (first_more (class_named l) (order l) gs i c.loop-i.classes.items c.in-Some.class d c.loop-i.invariant
    c.loop-i-test.true (sym (c.class_named.ensures.class ∙ ap (class_named l) v) ∙ c.in-Some.is)
    c.in-Some.ensures.within)

pub returns-clause-classes : goal.returns-clause-classes
returns-clause-classes c =
    let l = c.args.lattice.now in
    let room = c.requires.allowed.slots_above in
    let all : c.loop-i.i ≡ length c.as_slice-globals.result.now = omega arith in
    subst (λ cs. HaveClasses (class_named l) (order l) c.args.image.now cs) (sym c.in_ok-resize.ensures.items)
    (first_all (class_named l) (order l) c.args.image.now c.as_slice-globals.result.now c.loop-i.i c.bottom.result
    c.loop-i.classes.len c.loop-i.classes.items c.loop-i.invariant c.as_slice-globals.ensures.value all
    (omega (arith, room, length-map c.args.image.now.globals.items global))
    (subst (λ x. IsClass (order l) x) (sym c.bottom.ensures) (lawful_is_lattice (order l) l.order.lawful).bottom_within)
    (omega (arith, c.loop-i.classes.ok)))

pub returns-clause-least : goal.returns-clause-least
returns-clause-least c =
    let l = c.args.lattice.now in
    let room = c.requires.allowed.slots_above in
    let laws = lawful_is_lattice (order l) l.order.lawful in
    let all : c.loop-i.i ≡ length c.as_slice-globals.result.now = omega arith in
    let few : length c.args.image.now.globals.items ≤ c.args.image.now.slots =
    omega (arith, room, length-map c.args.image.now.globals.items global) in
    subst (λ cs. AreLeast (class_named l) (order l) c.args.image.now cs) (sym c.in_ok-resize.ensures.items)
    (first_resized (class_named l) (order l) c.args.image.now c.as_slice-globals.result.now c.loop-i.i c.bottom.result
    c.loop-i.classes.len c.loop-i.classes.items laws c.loop-i.invariant c.as_slice-globals.ensures.value all few
    c.bottom.ensures
    (first_all (class_named l) (order l) c.args.image.now c.as_slice-globals.result.now c.loop-i.i c.bottom.result
    c.loop-i.classes.len c.loop-i.classes.items c.loop-i.invariant c.as_slice-globals.ensures.value all few
    (subst (λ x. IsClass (order l) x) (sym c.bottom.ensures) laws.bottom_within) (omega (arith, c.loop-i.classes.ok))))
