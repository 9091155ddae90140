use Rattle.std.proofs.Common.{rules, ◌+◌, sym, ap, ◌∙◌, subst, arith}
use Rattle.std.proofs.lemmas.Grind.{common_steps}
use Rattle.vsi_scope.specs.declared.program.Cmd.{the_lemmas}
use Rattle.vsi_scope.specs.Language.{letvars}
use Rattle.vsi_scope.specs.View.{command, sequence}
use Rattle.vsi_opt.specs.Liveness.{all_reads}
use Rattle.vsi_opt.specs.Loops.{AddFits}
use Rattle.vsi_opt.specs.Ranges.{Fits, bits}
use Rattle.vsi_opt.proofs.LoopCases.{of_list, adds_list, add_fits_one, add_fits_rest, add_fits_if, add_fits_while, add_fits_letvar, adds_assign, adds_if, adds_while, adds_letvar, adds_more, adds_end, put_back, left_out}
use Rattle.vsi_opt.proofs.ReadingCases.{fits_if, fits_while, fits_letvar}
use Rattle.vsi_opt.proofs.liveness.+adding.Goals as goal

pub add_all-loop-c-init : goal.add_all-loop-c-init
add_all-loop-c-init t c = (c.requires, λ all every m a. a)

pub add_all-add_one-requires : goal.add_all-add_one-requires
add_all-add_one-requires t c = (
  first_of (search (rules, the_lemmas), grind (arith, the_lemmas, common_steps)),
  add_fits_one c.args.scope c.loop-c.next c.args.body.now c.loop-c.c-index c.c-item.result c.loop-c-test.true
      c.c-item.is c.loop-c.invariant.0,
)

pub add_all-loop-c-preserved : goal.add_all-loop-c-preserved
add_all-loop-c-preserved t c = (
  add_fits_rest c.args.scope c.loop-c.next _ c.args.body.now c.loop-c.c-index c.c-item.result c.loop-c-test.true
      c.c-item.is
      c.add_one.ensures.2 c.loop-c.invariant.0,
  λ all every m a. c.loop-c.invariant.1 all every m
      (adds_more c.args.scope c.loop-c.next _ m c.args.body.now c.loop-c.c-index c.c-item.result _ _ all _ _ every
      c.loop-c-test.true c.c-item.is c.add_one.ensures a),
)

pub add_all-returns : goal.add_all-returns
add_all-returns t c =
    c.loop-c.invariant.1 _ _ _
    (adds_end c.args.scope c.loop-c.next c.args.body.now c.loop-c.c-index (bits c.loop-c.live) (bits c.loop-c.own)
    c.loop-c-test.false)

pub add_one-add_reads-requires : goal.add_one-add_reads-requires
add_one-add_reads-requires t c = (subst (λ x. Fits c.args.scope (command x)) c.in-Assign.is c.requires.0).1

pub add_one-add_reads-requires-in-If : goal.add_one-add_reads-requires-in-If
add_one-add_reads-requires-in-If t c =
    (fits_if c.args.scope c.args.c.now c.in-If.guard c.in-If.yes c.in-If.no c.in-If.is c.requires.0).0

pub add_one-add_reads-requires-in-While : goal.add_one-add_reads-requires-in-While
add_one-add_reads-requires-in-While t c =
    (fits_while c.args.scope c.args.c.now c.in-While.guard c.in-While.body c.in-While.is c.requires.0).0

pub add_one-add_reads-requires-in-Letvar : goal.add_one-add_reads-requires-in-Letvar
add_one-add_reads-requires-in-Letvar t c =
    (fits_letvar c.args.scope c.args.c.now c.in-Letvar.value c.in-Letvar.body c.in-Letvar.is c.requires.0).1

pub add_one-add_all-requires : goal.add_one-add_all-requires
add_one-add_all-requires t c = (
  first_of (search (rules, the_lemmas), grind (arith, the_lemmas, common_steps)),
  of_list (AddFits c.args.scope c.args.next.now) _ _ c.deref.ensures.value
      (add_fits_if c.args.scope c.args.next.now c.args.c.now c.in-If.guard c.in-If.yes c.in-If.no c.in-If.is
      c.requires).0,
)

pub add_one-add_all-requires-in-If : goal.add_one-add_all-requires-in-If
add_one-add_all-requires-in-If t c = (
  first_of (search (rules, the_lemmas), grind (arith, the_lemmas, common_steps)),
  of_list (AddFits c.args.scope c.add_all.new.next) _ _ c.deref-in-If.ensures.value
      (subst (λ n. AddFits c.args.scope n (sequence c.in-If.no.items))
      (sym (c.add_all.ensures.2 ∙ ap (λ l. c.args.next.now + letvars (sequence l)) c.deref.ensures.value))
      (add_fits_if c.args.scope c.args.next.now c.args.c.now c.in-If.guard c.in-If.yes c.in-If.no c.in-If.is
      c.requires).1),
)

pub add_one-add_all-requires-in-While : goal.add_one-add_all-requires-in-While
add_one-add_all-requires-in-While t c = (
  first_of (search (rules, the_lemmas), grind (arith, the_lemmas, common_steps)),
  of_list (AddFits c.args.scope c.args.next.now) _ _ c.deref-in-While.ensures.value
      (add_fits_while c.args.scope c.args.next.now c.args.c.now c.in-While.guard c.in-While.body c.in-While.is
      c.requires),
)

pub add_one-contains-was_read-requires : goal.add_one-contains-was_read-requires
add_one-contains-was_read-requires t c =
    (add_fits_letvar c.args.scope c.args.next.now c.args.c.now c.in-Letvar.value c.in-Letvar.body c.in-Letvar.is
    c.requires).0

pub add_one-remove-requires : goal.add_one-remove-requires
add_one-remove-requires t c =
    (add_fits_letvar c.args.scope c.args.next.now c.args.c.now c.in-Letvar.value c.in-Letvar.body c.in-Letvar.is
    c.requires).0

pub add_one-overflow_add-scope : goal.add_one-overflow_add-scope
add_one-overflow_add-scope t c =
    omega (
      arith,
      (add_fits_letvar c.args.scope c.args.next.now c.args.c.now c.in-Letvar.value c.in-Letvar.body
          c.in-Letvar.is c.requires).0,
    )

pub add_one-add_all-requires-in-Letvar : goal.add_one-add_all-requires-in-Letvar
add_one-add_all-requires-in-Letvar t c = (
  first_of (search (rules, the_lemmas), grind (arith, the_lemmas, common_steps)),
  of_list (AddFits (c.args.scope + 1) (c.args.next.now + 1)) _ _ c.deref-in-Letvar.ensures.value
      (add_fits_letvar c.args.scope c.args.next.now c.args.c.now c.in-Letvar.value c.in-Letvar.body c.in-Letvar.is
      c.requires).2,
)

pub add_one-contains-requires : goal.add_one-contains-requires
add_one-contains-requires t c =
    (add_fits_letvar c.args.scope c.args.next.now c.args.c.now c.in-Letvar.value c.in-Letvar.body c.in-Letvar.is
    c.requires).0

pub add_one-set-requires : goal.add_one-set-requires
add_one-set-requires t c =
    (add_fits_letvar c.args.scope c.args.next.now c.args.c.now c.in-Letvar.value c.in-Letvar.body c.in-Letvar.is
    c.requires).1

pub add_one-insert-requires : goal.add_one-insert-requires
add_one-insert-requires t c =
    (add_fits_letvar c.args.scope c.args.next.now c.args.c.now c.in-Letvar.value c.in-Letvar.body c.in-Letvar.is
    c.requires).0

pub add_one-returns-in-Assign : goal.add_one-returns-in-Assign
add_one-returns-in-Assign t c =
    adds_assign c.args.scope c.args.next.now c.args.c.now _ _ c.in-Assign.value _ _ _ c.in-Assign.is
    c.add_reads.ensures

pub add_one-returns-in-If : goal.add_one-returns-in-If
add_one-returns-in-If t c =
    adds_if c.args.scope c.args.next.now c.add_all.new.next c.add_all-in-If.new.next c.args.c.now c.in-If.guard
    c.in-If.yes
    c.in-If.no (bits c.args.live.now) (bits c.add_reads-in-If.new.live) (bits c.add_all.new.live)
    (bits c.add_all-in-If.new.live) (bits c.args.own.now) (bits c.add_all.new.own) (bits c.add_all-in-If.new.own)
    c.in-If.is c.add_reads-in-If.ensures
    (adds_list c.args.scope c.args.next.now c.add_all.new.next c.in-If.yes.items _ (bits c.add_reads-in-If.new.live)
    (bits c.add_all.new.live) (bits c.args.own.now) (bits c.add_all.new.own) c.deref.ensures.value c.add_all.ensures)
    (adds_list c.args.scope c.add_all.new.next c.add_all-in-If.new.next c.in-If.no.items _ (bits c.add_all.new.live)
    (bits c.add_all-in-If.new.live) (bits c.add_all.new.own) (bits c.add_all-in-If.new.own)
    c.deref-in-If.ensures.value
    c.add_all-in-If.ensures)

pub add_one-returns-in-While : goal.add_one-returns-in-While
add_one-returns-in-While t c =
    adds_while c.args.scope c.args.next.now c.add_all-in-While.new.next c.args.c.now c.in-While.guard c.in-While.body
    (bits c.args.live.now) (bits c.add_reads-in-While.new.live) (bits c.add_all-in-While.new.live)
    (bits c.args.own.now)
    (bits c.add_all-in-While.new.own)
    c.in-While.is c.add_reads-in-While.ensures
    (adds_list c.args.scope c.args.next.now c.add_all-in-While.new.next c.in-While.body.items _
    (bits c.add_reads-in-While.new.live) (bits c.add_all-in-While.new.live) (bits c.args.own.now)
    (bits c.add_all-in-While.new.own) c.deref-in-While.ensures.value c.add_all-in-While.ensures)

pub add_one-returns-then-was_read : goal.add_one-returns-then-was_read
add_one-returns-then-was_read t c =
    adds_letvar c.args.scope c.args.next.now c.add_all-in-Letvar.new.next c.args.c.now c.in-Letvar.value
    c.in-Letvar.body
    (bits c.args.live.now) (bits c.add_reads-in-Letvar.new.live) (bits c.remove.new.self)
    (bits c.add_all-in-Letvar.new.live) (bits c.insert.new.self) (bits c.args.own.now)
    (bits c.add_all-in-Letvar.new.own)
    (bits c.set.new.self) c.contains.result
    c.in-Letvar.is c.add_reads-in-Letvar.ensures c.remove.ensures
    (adds_list (c.args.scope + 1) (c.args.next.now + 1) c.add_all-in-Letvar.new.next c.in-Letvar.body.items _
    (bits c.remove.new.self) (bits c.add_all-in-Letvar.new.live) (bits c.args.own.now)
    (bits c.add_all-in-Letvar.new.own)
    c.deref-in-Letvar.ensures.value c.add_all-in-Letvar.ensures)
    c.contains.ensures c.set.ensures
    (λ e. put_back _ (all_reads (sequence c.in-Letvar.body.items)) _ _ c.args.scope
    (sym c.contains-was_read.ensures ∙ c.if-was_read.true) e c.insert.ensures)

pub add_one-returns-else-was_read : goal.add_one-returns-else-was_read
add_one-returns-else-was_read t c =
    adds_letvar c.args.scope c.args.next.now c.add_all-in-Letvar.new.next c.args.c.now c.in-Letvar.value
    c.in-Letvar.body
    (bits c.args.live.now) (bits c.add_reads-in-Letvar.new.live) (bits c.remove.new.self)
    (bits c.add_all-in-Letvar.new.live) (bits c.add_all-in-Letvar.new.live) (bits c.args.own.now)
    (bits c.add_all-in-Letvar.new.own)
    (bits c.set.new.self) c.contains.result
    c.in-Letvar.is c.add_reads-in-Letvar.ensures c.remove.ensures
    (adds_list (c.args.scope + 1) (c.args.next.now + 1) c.add_all-in-Letvar.new.next c.in-Letvar.body.items _
    (bits c.remove.new.self) (bits c.add_all-in-Letvar.new.live) (bits c.args.own.now)
    (bits c.add_all-in-Letvar.new.own)
    c.deref-in-Letvar.ensures.value c.add_all-in-Letvar.ensures)
    c.contains.ensures c.set.ensures
    (λ e. left_out _ (all_reads (sequence c.in-Letvar.body.items)) _ c.args.scope
    (sym c.contains-was_read.ensures ∙ c.if-was_read.false) e)
