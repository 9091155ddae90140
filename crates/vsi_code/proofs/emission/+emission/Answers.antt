use Rattle.std.proofs.Common.{rules, ◌≡◌, ◌+◌, ◌++◌, ◌∙◌, append_assoc, arith, ap, sym, subst, refl, length-append, length, take}
use Rattle.std.proofs.lemmas.Grind.{common_steps}
use Rattle.vsi_scope.specs.declared.program.Cmd.{the_lemmas}
use Rattle.vsi_scope.specs.Language.{If, While, expression_size, size}
use Rattle.vsi_scope.specs.View.{expression, command, sequence}
use Rattle.vsi_code.specs.Layout.{Fits, expression_code, code_at}
use Rattle.vsi_code.proofs.Placed.{expression_long}
use Rattle.vsi_code.proofs.Patched.{guard_long, part_long, one_long, jump_long, set_long, choice_patched, loop_patched, letvar_joined}
use Rattle.vsi_code.proofs.Parts.{code_more, fits_next, choice_is, loop_is, letvar_is, fits_as, fits_first, fits_second, fits_loop, fits_letvar}
use Rattle.vsi_code.proofs.emission.+emission.Goals as goal

pub emit_all-emit_one-requires : goal.emit_all-emit_one-requires
emit_all-emit_one-requires t c =
    let cs = c.args.body.now in
    let i = c.loop-c.c-index in
    let old = c.args.code.now.items in
    let n = part_long old c.loop-c.code.items (sequence (take i cs)) (length old) c.args.scope c.loop-c.invariant in
    let next = fits_next cs i (length old) c.args.scope c.c-item.result c.loop-c-test.true c.c-item.is c.requires in (
      first_of (search (rules, the_lemmas), grind (arith, the_lemmas, common_steps), omega (arith, c.decreases)),
      subst (λ m. Fits m c.args.scope (command c.c-item.result)) (sym n) next,
    )

pub emit_all-loop-c-preserved : goal.emit_all-loop-c-preserved
emit_all-loop-c-preserved t c =
    let cs = c.args.body.now in
    let i = c.loop-c.c-index in
    let old = c.args.code.now.items in
    let k = c.args.scope in
    let front = code_at (length old) k (sequence (take i cs)) in
    let at = length old + size (sequence (take i cs)) in
    let n = part_long old c.loop-c.code.items (sequence (take i cs)) (length old) k c.loop-c.invariant in
    let next = code_at at k (command c.c-item.result) in
    c.in_ok-emit_one.ensures
    ∙ ap (λ m. c.loop-c.code.items ++ code_at m k (command c.c-item.result)) n
    ∙ ap (λ l. l ++ next) c.loop-c.invariant
    ∙ append_assoc old front next
    ∙ ap (λ d. old ++ (front ++ code_at at k (command d))) c.c-item.is
    ∙ ap (λ l. old ++ l) (sym (code_more cs i (length old) k c.c-item.result c.loop-c-test.true))

pub emit_one-emit_all-requires : goal.emit_one-emit_all-requires
emit_one-emit_all-requires t c =
    let old = c.args.code.now.items in
    let e = expression c.in-If.guard in
    let a = sequence c.as_slice.result.now in
    let b = sequence c.in-If.no.items in
    let is = choice_is c.args.c.now c.in-If.guard c.in-If.yes c.in-If.no _ _
    c.in-If.is c.as_slice.ensures.value refl in
    let n1 = guard_long old c.emit_guard.new.code.items e _ c.in_ok-test-in-If.ensures.code in (
      first_of (search (rules, the_lemmas), grind (arith, the_lemmas, common_steps), omega (arith, c.decreases)),
      fits_first (length old) c.args.scope (command c.args.c.now) c.requires e a b is _ n1,
    )

pub emit_one-aim_test-requires-clause-within : goal.emit_one-aim_test-requires-clause-within
emit_one-aim_test-requires-clause-within t c =
    let old = c.args.code.now.items in
    let e = expression c.in-If.guard in
    let a = sequence c.as_slice.result.now in
    let n3 = jump_long old _ _ _ e _ _ a _ _ c.in_ok-test-in-If.ensures.code c.in_ok-emit_all-in-If.ensures
    c.in_ok-put-in-If.ensures in
    omega (arith, n3, c.in_ok-test-in-If.ensures.place)

pub emit_one-aim_test-requires-clause-small : goal.emit_one-aim_test-requires-clause-small
emit_one-aim_test-requires-clause-small t c =
    let old = c.args.code.now.items in
    let e = expression c.in-If.guard in
    let a = sequence c.as_slice.result.now in
    let b = sequence c.in-If.no.items in
    let is = choice_is c.args.c.now c.in-If.guard c.in-If.yes c.in-If.no _ _
    c.in-If.is c.as_slice.ensures.value refl in
    let fits = fits_as (length old) c.args.scope (command c.args.c.now) c.requires (If e a b) is in
    let n3 = jump_long old _ _ _ e _ _ a _ _ c.in_ok-test-in-If.ensures.code c.in_ok-emit_all-in-If.ensures
    c.in_ok-put-in-If.ensures in
    omega (arith, n3, fits.size)

pub emit_one-emit_all-requires-in-If : goal.emit_one-emit_all-requires-in-If
emit_one-emit_all-requires-in-If t c =
    let old = c.args.code.now.items in
    let e = expression c.in-If.guard in
    let a = sequence c.as_slice.result.now in
    let b = sequence c.as_slice-in-If.result.now in
    let is = choice_is c.args.c.now c.in-If.guard c.in-If.yes c.in-If.no _ _
    c.in-If.is c.as_slice.ensures.value c.as_slice-in-If.ensures.value in
    let n3 = jump_long old _ _ _ e _ _ a _ _ c.in_ok-test-in-If.ensures.code c.in_ok-emit_all-in-If.ensures
    c.in_ok-put-in-If.ensures in
    let n4 = set_long c.put-in-If.new.code.items c.aim_test.new.code.items _ _ c.aim_test.ensures in
    let at : length c.aim_test.new.code.items ≡ length old + expression_size e + 1 + size a + 1 =
    omega (arith, n3, n4) in (
      first_of (search (rules, the_lemmas), grind (arith, the_lemmas, common_steps), omega (arith, c.decreases)),
      fits_second (length old) c.args.scope (command c.args.c.now) c.requires e a b is _ at,
    )

pub emit_one-aim_jump-requires-clause-small : goal.emit_one-aim_jump-requires-clause-small
emit_one-aim_jump-requires-clause-small t c =
    let old = c.args.code.now.items in
    let e = expression c.in-If.guard in
    let a = sequence c.as_slice.result.now in
    let b = sequence c.as_slice-in-If.result.now in
    let is = choice_is c.args.c.now c.in-If.guard c.in-If.yes c.in-If.no _ _
    c.in-If.is c.as_slice.ensures.value c.as_slice-in-If.ensures.value in
    let fits = fits_as (length old) c.args.scope (command c.args.c.now) c.requires (If e a b) is in
    let n3 = jump_long old _ _ _ e _ _ a _ _ c.in_ok-test-in-If.ensures.code c.in_ok-emit_all-in-If.ensures
    c.in_ok-put-in-If.ensures in
    let n4 = set_long c.put-in-If.new.code.items c.aim_test.new.code.items _ _ c.aim_test.ensures in
    let c5 = c.emit_all-in-If.new.code.items in
    let n5 = part_long c.aim_test.new.code.items c5 b _ _ c.in_ok-emit_all-in-If-2.ensures in
    omega (arith, n3, n4, n5, fits.size)

pub emit_one-returns-in_ok-emit_all-in-If-2 : goal.emit_one-returns-in_ok-emit_all-in-If-2
emit_one-returns-in_ok-emit_all-in-If-2 t c =
    let old = c.args.code.now.items in
    let k = c.args.scope in
    let e = expression c.in-If.guard in
    let a = sequence c.as_slice.result.now in
    let b = sequence c.as_slice-in-If.result.now in
    let is = choice_is c.args.c.now c.in-If.guard c.in-If.yes c.in-If.no _ _
    c.in-If.is c.as_slice.ensures.value c.as_slice-in-If.ensures.value in
    let jump : c.len-jump.result ≡ length c.emit_all.new.code.items =
    omega (arith, c.len-jump.ensures, c.emit_all.new.code.ok.0) in
    choice_patched old k e a b _ _ _ _ _ _ _ _ c.in_ok-test-in-If.ensures.code c.in_ok-test-in-If.ensures.place
    c.in_ok-emit_all-in-If.ensures jump c.in_ok-put-in-If.ensures c.aim_test.ensures
    c.in_ok-emit_all-in-If-2.ensures c.aim_jump.ensures
    ∙ ap (λ x. old ++ code_at (length old) k x) (sym is)

pub emit_one-emit_all-requires-in-While : goal.emit_one-emit_all-requires-in-While
emit_one-emit_all-requires-in-While t c =
    let old = c.args.code.now.items in
    let e = expression c.in-While.guard in
    let a = sequence c.as_slice-in-While.result.now in
    let is = loop_is c.args.c.now c.in-While.guard c.in-While.body _ c.in-While.is c.as_slice-in-While.ensures.value
    in
    let n1 = guard_long old c.emit_guard-in-While.new.code.items e _ c.in_ok-test-in-While.ensures.code in (
      first_of (search (rules, the_lemmas), grind (arith, the_lemmas, common_steps), omega (arith, c.decreases)),
      fits_loop (length old) c.args.scope (command c.args.c.now) c.requires e a is _ n1,
    )

pub emit_one-aim_test-requires-in-While-clause-within : goal.emit_one-aim_test-requires-in-While-clause-within
emit_one-aim_test-requires-in-While-clause-within t c =
    let old = c.args.code.now.items in
    let e = expression c.in-While.guard in
    let a = sequence c.as_slice-in-While.result.now in
    let n3 = jump_long old _ _ _ e _ _ a _ _ c.in_ok-test-in-While.ensures.code c.in_ok-emit_all-in-While.ensures
    c.in_ok-put-in-While.ensures in
    omega (arith, n3, c.in_ok-test-in-While.ensures.place)

pub emit_one-aim_test-requires-in-While-clause-small : goal.emit_one-aim_test-requires-in-While-clause-small
emit_one-aim_test-requires-in-While-clause-small t c =
    let old = c.args.code.now.items in
    let e = expression c.in-While.guard in
    let a = sequence c.as_slice-in-While.result.now in
    let is = loop_is c.args.c.now c.in-While.guard c.in-While.body _ c.in-While.is c.as_slice-in-While.ensures.value
    in
    let fits = fits_as (length old) c.args.scope (command c.args.c.now) c.requires (While e a) is in
    let n3 = jump_long old _ _ _ e _ _ a _ _ c.in_ok-test-in-While.ensures.code c.in_ok-emit_all-in-While.ensures
    c.in_ok-put-in-While.ensures in
    omega (arith, n3, fits.size)

pub emit_one-returns-in_ok-put-in-While : goal.emit_one-returns-in_ok-put-in-While
emit_one-returns-in_ok-put-in-While t c =
    let old = c.args.code.now.items in
    let k = c.args.scope in
    let e = expression c.in-While.guard in
    let a = sequence c.as_slice-in-While.result.now in
    let is = loop_is c.args.c.now c.in-While.guard c.in-While.body _ c.in-While.is c.as_slice-in-While.ensures.value
    in
    let start : c.len-start.result ≡ length old = omega (arith, c.len-start.ensures, c.args.code.now.ok.0) in
    loop_patched old k e a _ _ _ _ _ _ start c.in_ok-test-in-While.ensures.code c.in_ok-test-in-While.ensures.place
    c.in_ok-emit_all-in-While.ensures c.in_ok-put-in-While.ensures c.aim_test-in-While.ensures
    ∙ ap (λ x. old ++ code_at (length old) k x) (sym is)

pub emit_one-emit_all-requires-in-Letvar : goal.emit_one-emit_all-requires-in-Letvar
emit_one-emit_all-requires-in-Letvar t c =
    let old = c.args.code.now.items in
    let e = expression c.in-Letvar.value in
    let a = sequence c.as_slice-in-Letvar.result.now in
    let c1 = c.emit_expression-in-Letvar.new.code.items in
    let c2 = c.put-in-Letvar.new.code.items in
    let is = letvar_is c.args.c.now c.in-Letvar.value c.in-Letvar.body _
    c.in-Letvar.is c.as_slice-in-Letvar.ensures.value in
    let n1 = ap length c.in_ok-emit_expression-in-Letvar.ensures ∙ length-append old (expression_code e) in
    let n2 = one_long c1 c2 _ c.in_ok-put-in-Letvar.ensures in
    let at : length c2 ≡ length old + expression_size e + 1 = omega (arith, n1, n2, expression_long e) in (
      first_of (search (rules, the_lemmas), grind (arith, the_lemmas, common_steps), omega (arith, c.decreases)),
      fits_letvar (length old) c.args.scope (command c.args.c.now) c.requires e a is _ at,
    )

pub emit_one-returns-in_ok-emit_all-in-Letvar : goal.emit_one-returns-in_ok-emit_all-in-Letvar
emit_one-returns-in_ok-emit_all-in-Letvar t c =
    let old = c.args.code.now.items in
    let k = c.args.scope in
    let e = expression c.in-Letvar.value in
    let a = sequence c.as_slice-in-Letvar.result.now in
    let is = letvar_is c.args.c.now c.in-Letvar.value c.in-Letvar.body _
    c.in-Letvar.is c.as_slice-in-Letvar.ensures.value in
    letvar_joined old k e a _ _ _ c.in_ok-emit_expression-in-Letvar.ensures c.in_ok-put-in-Letvar.ensures
    c.in_ok-emit_all-in-Letvar.ensures
    ∙ ap (λ x. old ++ code_at (length old) k x) (sym is)
