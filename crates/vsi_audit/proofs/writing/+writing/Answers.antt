use Rattle.std.proofs.Common.{rules, arith, ◌≡◌, ℕ, ◌<◌, List, Bor, length, get_or, option_map, refl, ap, sym, subst, ◌∙◌}
use Rattle.vsi_syntax.specs.declared.tree.Stmt.{the_lemmas}
use Rattle.vsi_syntax.specs.Tree as tree
use Rattle.vsi_syntax.specs.View as view
use Rattle.vsi_syntax.specs.CommandView as syntax
use Rattle.vsi_scope.specs.View.{expression, command, sequence}
use Rattle.vsi_scope.proofs.Views.{command_If, command_While, command_Letvar}
use Rattle.vsi_audit.specs.Written.{names_of}
use Rattle.vsi_audit.specs.Writing.{WritesCommand, assign, WritesPart, block, single, some, more, done}
use Rattle.vsi_audit.proofs.Returned.{on_ok, on_any}
use Rattle.vsi_audit.proofs.TreeParts.{command_written, choice_written, loop_written, local_written, written_more, rest_written, is_absent, is_nil, is_single, names_kept, names_entered, first_all}
use Rattle.vsi_audit.proofs.writing.+writing.Goals as goal

pub check_all-loop-c-preserved : goal.check_all-loop-c-preserved
check_all-loop-c-preserved t c =
    let names = names_of c.args.names.now in
    let statement = c.index-written-place.result in
    let within : c.loop-c.c-index < length c.args.written.now = omega (arith, c.loop-c-test.true, c.if-body-written.false)
    in
    record {
      kept = ◌∙◌ {A = List (Bor (List ℕ))} c.in_ok-check_one.ensures.kept c.loop-c.invariant.kept;
      place = omega (arith, c.loop-c.invariant.place);
      written = written_more names c.args.body.now c.args.written.now c.loop-c.c-index c.c-item.result statement
          c.loop-c-test.true within c.c-item.is
          (c.index-written-place.is ∙ ap (λ n. get_or c.args.written.now n statement) c.loop-c.invariant.place)
          c.loop-c.invariant.written
          (subst (λ n. WritesCommand n (command c.c-item.result) (syntax.command statement))
          (names_kept c.loop-c.names c.args.names.now c.loop-c.invariant.kept) c.in_ok-check_one.ensures.written);
    }

pub check_all-returns-clause-written : goal.check_all-returns-clause-written
check_all-returns-clause-written t c =
    some (rest_written (names_of c.args.names.now) c.args.body.now c.args.written.now
    (first_all (names_of c.args.names.now) c.args.body.now c.args.written.now c.loop-c.c-index c.loop-c-test.false
    c.if-body-written.false c.loop-c.invariant.written))

pub check_one-returns-in_ok-check_name-in-Assign-clause-written : goal.check_one-returns-in_ok-check_name-in-Assign-clause-written
check_one-returns-in_ok-check_name-in-Assign-clause-written t c =
    let names = names_of c.args.names.now in
    let whole : syntax.command c.args.written.now ≡ tree.Assign (view.named c.in-Assign-written.name)
    (view.tree c.in-Assign-written.e) = search (rules, the_lemmas) in
    on_ok c.check_expression.result _ _ (λ value. command_written names (command c.args.c.now) _
    (syntax.command c.args.written.now) _ (ap command c.in-Assign.is) whole
    (assign c.in_ok-check_name-in-Assign.ensures value)) c.check_expression.ensures

pub check_one-returns-in_ok-check_part-in-If-clause-written : goal.check_one-returns-in_ok-check_part-in-If-clause-written
check_one-returns-in_ok-check_part-in-If-clause-written t c =
    let names = names_of c.args.names.now in
    let other = names_of c.check_part.new.names in
    let whole : syntax.command c.args.written.now ≡ tree.If (view.tree c.in-If-written.e)
    (syntax.command c.deref-in-If.result.now) (syntax.command c.deref-in-If-3.result.now) = search (rules, the_lemmas)
    in
    on_ok c.check_part-in-If.result _ _ (λ second. choice_written names other (command c.args.c.now)
    (syntax.command c.args.written.now) (expression c.in-If.guard) (view.tree c.in-If-written.e) c.in-If.yes.items
    c.in-If.no.items c.deref.result.now c.deref-in-If-2.result.now _ _
    (ap command c.in-If.is ∙ command_If c.in-If.guard c.in-If.yes c.in-If.no) whole c.deref.ensures.value
    c.deref-in-If-2.ensures.value
    (names_kept c.check_part.new.names c.args.names.now c.in_ok-check_part-in-If.ensures.kept)
    c.in_ok-check_expression-in-If.ensures c.in_ok-check_part-in-If.ensures.written second)
    c.check_part-in-If.ensures.written

pub check_one-returns-in_ok-check_expression-in-While-clause-written : goal.check_one-returns-in_ok-check_expression-in-While-clause-written
check_one-returns-in_ok-check_expression-in-While-clause-written t c =
    let names = names_of c.args.names.now in
    let whole : syntax.command c.args.written.now ≡ tree.While (view.tree c.in-While-written.e)
    (syntax.command c.deref-in-While-2.result.now) = search (rules, the_lemmas) in
    on_ok c.check_part-in-While.result _ _ (λ body. loop_written names (command c.args.c.now)
    (syntax.command c.args.written.now) (expression c.in-While.guard) (view.tree c.in-While-written.e)
    c.in-While.body.items c.deref-in-While.result.now _
    (ap command c.in-While.is ∙ command_While c.in-While.guard c.in-While.body) whole c.deref-in-While.ensures.value
    c.in_ok-check_expression-in-While.ensures body) c.check_part-in-While.ensures.written

pub check_one-returns-in_ok-check_part-in-Letvar-clause-written : goal.check_one-returns-in_ok-check_part-in-Letvar-clause-written
check_one-returns-in_ok-check_part-in-Letvar-clause-written t c =
    let names = names_of c.args.names.now in
    let whole : syntax.command c.args.written.now ≡ tree.Letvar (view.named c.in-Letvar-written.name)
    (option_map view.named c.in-Letvar-written.class) (view.tree c.in-Letvar-written.e)
    (syntax.command c.deref-in-Letvar-2.result.now) = search (rules, the_lemmas) in
    local_written names (names_of c.enter.new.self) (command c.args.c.now) (syntax.command c.args.written.now)
    (expression c.in-Letvar.value) (view.tree c.in-Letvar-written.e) c.in-Letvar.body.items
    c.deref-in-Letvar.result.now (view.named c.in-Letvar-written.name)
    (option_map view.named c.in-Letvar-written.class) _
    (ap command c.in-Letvar.is ∙ command_Letvar c.in-Letvar.value c.in-Letvar.body) whole
    (ap (option_map view.named) (is_absent c.in-Letvar-written.class (sym c.is_some.ensures ∙ c.if-is_some.false)))
    c.deref-in-Letvar.ensures.value
    (names_entered c.enter.new.self c.args.names.now c.in-Letvar-written.name.text c.in_ok-enter-in-Letvar.ensures)
    c.in_ok-check_expression-in-Letvar.ensures c.in_ok-check_part-in-Letvar.ensures.written

pub check_part-returns-in-Block-clause-written : goal.check_part-returns-in-Block-clause-written
check_part-returns-in-Block-clause-written t c =
    let names = names_of c.args.names.now in
    let whole : syntax.command c.args.written.now ≡ tree.Block (syntax.body_of c.deref.result.now) = search
    (rules, the_lemmas) in
    on_ok c.check_all.result _ _ (λ inner. subst (WritesPart names (sequence c.args.body.now)) (sym whole) (block inner))
    c.check_all.ensures.written

pub check_part-returns-in-empty : goal.check_part-returns-in-empty
check_part-returns-in-empty t c =
    let names = names_of c.args.names.now in
    let statement = syntax.command c.args.written.now in
    record {
      kept = on_any c.check_idle.result _ refl;
      written = on_ok c.check_idle.result _ _ (λ idle. subst (λ l. WritesPart names (sequence l) statement)
          (sym (is_nil c.args.body.now c.in-empty.len_below)) (single idle)) (c.check_idle.ensures names);
    }

pub check_part-returns-in-len1 : goal.check_part-returns-in-len1
check_part-returns-in-len1 t c =
    let names = names_of c.args.names.now in
    let statement = syntax.command c.args.written.now in
    let one = is_single c.args.body.now c.c-item.result c.in-len1.len_at_least c.in-len1.len_below c.c-item.is in
    record {
      kept = c.check_one.ensures.kept;
      written = on_ok c.check_one.result _ _ (λ only. subst (λ l. WritesPart names (sequence l) statement) (sym one)
          (single (some (more only done)))) c.check_one.ensures.written;
    }
