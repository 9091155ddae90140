use Rattle.std.proofs.Common.{◌≡◌, ◌+◌, ◌-◌, [], ◌∷◌, ◌++◌, length, Some, slice_get, sym, ap, subst, ◌∙◌, arith, refl, length-append}
use Rattle.std.proofs.lemmas.Option.{slice_get_within}
use Rattle.vsi_image.specs.declared.instr.Instr.TheVariants.{Jmp}
use Rattle.vsi_scope.specs.Language.{letvars}
use Rattle.vsi_scope.specs.View.{expression, command, sequence}
use Rattle.vsi_scope.proofs.Views.{command_If, command_While, command_Letvar, letvars_push}
use Rattle.vsi_audit.specs.Reading.{nothing, IsRead}
use Rattle.vsi_audit.proofs.Found.{passed_on, begun, readable_begins, readable_ordered}
use Rattle.vsi_audit.proofs.Going.{goes_assign, goes_letvar, goes_part}
use Rattle.vsi_audit.proofs.Sound.{assign_read, letvar_read, loop_read, choice_read, push_read}
use Rattle.vsi_audit.proofs.lasting.+lasting.Goals as goal

pub read_all-returns-in_err-c-clause-found : goal.read_all-returns-in_err-c-clause-found
read_all-returns-in_err-c-clause-found t c = λ n d.
    let r = c.args.room in
    let l = c.loop-place.invariant.rest n d in
    passed_on c.from_residual.result c.in_err-c.field-0.0 c.from_residual.ensures.1
    (c.in_err-c.ensures.found l.m
    (readable_begins c.args.code.now r.limit c.loop-place.place c.args.to r.scope r.blocks l.m c.loop-place-test.true
    l.rest))

pub read_all-loop-place-preserved : goal.read_all-loop-place-preserved
read_all-loop-place-preserved t c =
    let code = c.args.code.now in
    let r = c.args.room in
    let cs = c.loop-place.body.items in
    let d = c.in_ok-c.c in
    let items : c.push.new.self.items ≡ cs ++ d ∷ [] = c.in_ok-push.ensures.items in
    let more : letvars (sequence c.push.new.self.items) ≡ letvars (sequence cs) + letvars (command d) =
    ap (λ l. letvars (sequence l)) items ∙ letvars_push cs d in
    record {
      read = subst (λ l. IsRead code r.limit r.scope c.args.from c.in_ok-c.next (sequence l)) (sym items)
          (push_read code r.limit r.scope c.args.from c.loop-place.place c.in_ok-c.next cs d c.loop-place.invariant.read
          c.in_ok-c.ensures.read);
      count = omega (arith, more, c.loop-place.invariant.count, c.in_ok-c.ensures.count);
      rest = λ n v.
          let l = c.loop-place.invariant.rest n v in
          let after = c.in_ok-c.ensures.rest l.m
          (readable_begins code r.limit c.loop-place.place c.args.to r.scope r.blocks l.m c.loop-place-test.true l.rest)
          in
          record { m = after.m; rest = after.rest; few = omega (arith, l.few, after.few, more) };
    }

pub read_all-returns-else-place-to-clause-found : goal.read_all-returns-else-place-to-clause-found
read_all-returns-else-place-to-clause-found t c = λ n d.
    let r = c.args.room in
    let l = c.loop-place.invariant.rest n d in
    let ordered = readable_ordered c.args.code.now r.limit c.loop-place.place c.args.to r.scope r.blocks l.m l.rest in
    absurd (omega (arith, ordered, c.loop-place-test.false, c.if-place-to.false))

pub read_one-returns-in_err-value-clause-found : goal.read_one-returns-in_err-value-clause-found
read_one-returns-in_err-value-clause-found t c = λ n d.
    let r = c.args.room in
    let g = begun c.args.code.now r.limit c.args.from c.args.to r.scope r.blocks n c.stop_of-stop.result d
    c.stop_of-stop.ensures in
    passed_on c.from_residual.result c.in_err-value.field-0.0 c.from_residual.ensures.1
    (c.in_err-value.ensures.read g.0)

pub read_one-overflow_add-result : goal.read_one-overflow_add-result
read_one-overflow_add-result t c =
    omega (arith, slice_get_within c.args.code.now c.stop_of-stop.result _ c.in-Assign.ensures.0)

pub read_one-overflow_add-stop : goal.read_one-overflow_add-stop
read_one-overflow_add-stop t c =
    omega (arith, slice_get_within c.args.code.now c.stop_of-stop.result _ c.in-Letvar.ensures.0)

pub read_one-overflow_add-stop-in-Part : goal.read_one-overflow_add-stop-in-Part
read_one-overflow_add-stop-in-Part t c =
    omega (arith, slice_get_within c.args.code.now c.stop_of-stop.result _ c.in-Part.ensures.0)

pub read_one-overflow_add-result-then-join-from : goal.read_one-overflow_add-result-then-join-from
read_one-overflow_add-result-then-join-from t c =
    omega (arith, slice_get_within c.args.code.now c.in-Part.jump _ c.in-Part.ensures.1)

pub read_one-overflow_add-jump : goal.read_one-overflow_add-jump
read_one-overflow_add-jump t c =
    omega (arith, slice_get_within c.args.code.now c.in-Part.jump _ c.in-Part.ensures.1)

pub read_one-returns-in-Assign-clause-read : goal.read_one-returns-in-Assign-clause-read
read_one-returns-in-Assign-clause-read t c =
    let r = c.args.room in
    let v = c.in_ok-value.ensures in
    assign_read c.args.code.now r.limit r.scope c.args.from c.stop_of-stop.result c.in-Assign.loc _
    (expression c.in_ok-value.value) v.stands v.fits c.in-Assign.ensures.0 c.in-Assign.ensures.1 (omega arith)

pub read_one-returns-in-Assign-clause-rest : goal.read_one-returns-in-Assign-clause-rest
read_one-returns-in-Assign-clause-rest t c = λ n d.
    let r = c.args.room in
    let stop = c.stop_of-stop.result in
    let g = begun c.args.code.now r.limit c.args.from c.args.to r.scope r.blocks n stop d c.stop_of-stop.ensures in
    goes_assign c.args.code.now r.limit c.args.from stop c.args.to r.scope r.blocks n c.in-Assign.loc g.1
    c.in-Assign.ensures.0 c.in-Assign.ensures.1

pub read_one-returns-in_err-body-in-Letvar-clause-found : goal.read_one-returns-in_err-body-in-Letvar-clause-found
read_one-returns-in_err-body-in-Letvar-clause-found t c = λ n d.
    let code = c.args.code.now in
    let r = c.args.room in
    let stop = c.stop_of-stop.result in
    let g = begun code r.limit c.args.from c.args.to r.scope r.blocks n stop d c.stop_of-stop.ensures in
    let v = goes_letvar code r.limit c.args.from stop c.args.to r.scope r.blocks n g.1 c.in-Letvar.ensures.0 in
    passed_on c.from_residual-in_err-body-in-Letvar.result c.in_err-body-in-Letvar.field-0.0
    c.from_residual-in_err-body-in-Letvar.ensures.1
    (c.in_err-body-in-Letvar.ensures.found v.0 v.1)

pub read_one-returns-in_ok-body-in-Letvar-clause-read : goal.read_one-returns-in_ok-body-in-Letvar-clause-read
read_one-returns-in_ok-body-in-Letvar-clause-read t c =
    let code = c.args.code.now in
    let r = c.args.room in
    let stop = c.stop_of-stop.result in
    let v = c.in_ok-value.ensures in
    let b = c.in_ok-body-in-Letvar.body in
    subst (λ x. IsRead code r.limit r.scope c.args.from c.args.to x) (sym (command_Letvar c.in_ok-value.value b))
    (letvar_read code r.limit r.scope c.args.from stop c.args.to (expression c.in_ok-value.value) (sequence b.items)
    v.stands v.fits c.in-Letvar.ensures.0
    c.in_ok-body-in-Letvar.ensures.read)

pub read_one-returns-in_ok-body-in-Letvar-clause-count : goal.read_one-returns-in_ok-body-in-Letvar-clause-count
read_one-returns-in_ok-body-in-Letvar-clause-count t c =
    let pushed = ap length c.in_ok-push-in-Letvar.ensures.items in
    omega (
      arith,
      ap letvars (command_Letvar c.in_ok-value.value c.in_ok-body-in-Letvar.body),
      c.in_ok-body-in-Letvar.ensures.count,
      pushed,
      length-append c.args.starts.now.items (c.stop_of-stop.result ∷ []),
    )

pub read_one-returns-in_ok-body-in-Letvar-clause-rest : goal.read_one-returns-in_ok-body-in-Letvar-clause-rest
read_one-returns-in_ok-body-in-Letvar-clause-rest t c = λ n d.
    let code = c.args.code.now in
    let r = c.args.room in
    let stop = c.stop_of-stop.result in
    let g = begun code r.limit c.args.from c.args.to r.scope r.blocks n stop d c.stop_of-stop.ensures in
    let v = goes_letvar code r.limit c.args.from stop c.args.to r.scope r.blocks n g.1 c.in-Letvar.ensures.0 in
    let few = c.in_ok-body-in-Letvar.ensures.few v.0 v.1 in
    let all = ap letvars (command_Letvar c.in_ok-value.value c.in_ok-body-in-Letvar.body) in
    record { m = 0; rest = nothing refl; few = omega (arith, few, v.2, all) }

pub read_one-returns-in_err-body-in-Part-clause-found : goal.read_one-returns-in_err-body-in-Part-clause-found
read_one-returns-in_err-body-in-Part-clause-found t c = λ n d.
    let code = c.args.code.now in
    let r = c.args.room in
    let stop = c.stop_of-stop.result in
    let at = c.in-Part.ensures in
    let g = begun code r.limit c.args.from c.args.to r.scope r.blocks n stop d c.stop_of-stop.ensures in
    let p = goes_part code r.limit c.args.from stop c.args.to r.scope r.blocks n c.in-Part.jump c.in-Part.join g.1 at.0
    at.1 in
    passed_on c.from_residual-in_err-body-in-Part.result c.in_err-body-in-Part.field-0.0
    c.from_residual-in_err-body-in-Part.ensures.1
    (c.in_err-body-in-Part.ensures.found p.a p.first)

pub read_one-returns-then-join-from-clause-read : goal.read_one-returns-then-join-from-clause-read
read_one-returns-then-join-from-clause-read t c =
    let code = c.args.code.now in
    let r = c.args.room in
    let stop = c.stop_of-stop.result in
    let at = c.in-Part.ensures in
    let jump = c.in-Part.jump in
    let v = c.in_ok-value.ensures in
    let b = c.in_ok-body-in-Part.body in
    let back : slice_get code jump ≡ Some (Jmp c.args.from) =
    at.1 ∙ ap (λ k. Some (Jmp k)) c.if-join-from.true in
    subst (λ x. IsRead code r.limit r.scope c.args.from (jump + 1) x) (sym (command_While c.in_ok-value.value b))
    (loop_read code r.limit r.scope c.args.from stop jump (expression c.in_ok-value.value) (sequence b.items)
    v.stands v.fits at.0 back
    c.in_ok-body-in-Part.ensures.read)

pub read_one-returns-then-join-from-clause-count : goal.read_one-returns-then-join-from-clause-count
read_one-returns-then-join-from-clause-count t c =
    omega (
      arith,
      ap letvars (command_While c.in_ok-value.value c.in_ok-body-in-Part.body),
      c.in_ok-body-in-Part.ensures.count,
    )

pub read_one-returns-then-join-from-clause-rest : goal.read_one-returns-then-join-from-clause-rest
read_one-returns-then-join-from-clause-rest t c = λ n d.
    let code = c.args.code.now in
    let r = c.args.room in
    let stop = c.stop_of-stop.result in
    let at = c.in-Part.ensures in
    let g = begun code r.limit c.args.from c.args.to r.scope r.blocks n stop d c.stop_of-stop.ensures in
    let p = goes_part code r.limit c.args.from stop c.args.to r.scope r.blocks n c.in-Part.jump c.in-Part.join g.1 at.0
    at.1 in
    let few = c.in_ok-body-in-Part.ensures.few p.a p.first in
    let all = ap letvars (command_While c.in_ok-value.value c.in_ok-body-in-Part.body) in
    let l = p.again c.if-join-from.true in
    record { m = l.m; rest = l.rest; few = omega (arith, l.few, few, all) }

pub read_one-returns-in_err-no-in-Part-clause-found : goal.read_one-returns-in_err-no-in-Part-clause-found
read_one-returns-in_err-no-in-Part-clause-found t c = λ n d.
    let code = c.args.code.now in
    let r = c.args.room in
    let stop = c.stop_of-stop.result in
    let at = c.in-Part.ensures in
    let g = begun code r.limit c.args.from c.args.to r.scope r.blocks n stop d c.stop_of-stop.ensures in
    let p = goes_part code r.limit c.args.from stop c.args.to r.scope r.blocks n c.in-Part.jump c.in-Part.join g.1 at.0
    at.1 in
    let s = p.second c.if-join-from.false in
    passed_on c.from_residual-in_err-no-in-Part.result c.in_err-no-in-Part.field-0.0
    c.from_residual-in_err-no-in-Part.ensures.1
    (c.in_err-no-in-Part.ensures.found s.b s.branch)

pub read_one-returns-in_ok-no-in-Part-clause-read : goal.read_one-returns-in_ok-no-in-Part-clause-read
read_one-returns-in_ok-no-in-Part-clause-read t c =
    let code = c.args.code.now in
    let r = c.args.room in
    let stop = c.stop_of-stop.result in
    let at = c.in-Part.ensures in
    let jump = c.in-Part.jump in
    let join = c.in-Part.join in
    let v = c.in_ok-value.ensures in
    let a = c.in_ok-body-in-Part.body in
    let b = c.in_ok-no-in-Part.no in
    subst (λ x. IsRead code r.limit r.scope c.args.from join x) (sym (command_If c.in_ok-value.value a b))
    (choice_read code r.limit r.scope c.args.from stop jump join (expression c.in_ok-value.value) (sequence a.items)
    (sequence b.items) v.stands v.fits at.0 at.1
    c.in_ok-body-in-Part.ensures.read c.in_ok-no-in-Part.ensures.read)

pub read_one-returns-in_ok-no-in-Part-clause-count : goal.read_one-returns-in_ok-no-in-Part-clause-count
read_one-returns-in_ok-no-in-Part-clause-count t c =
    omega (
      arith,
      ap letvars (command_If c.in_ok-value.value c.in_ok-body-in-Part.body c.in_ok-no-in-Part.no),
      c.in_ok-body-in-Part.ensures.count,
      c.in_ok-no-in-Part.ensures.count,
    )

pub read_one-returns-in_ok-no-in-Part-clause-rest : goal.read_one-returns-in_ok-no-in-Part-clause-rest
read_one-returns-in_ok-no-in-Part-clause-rest t c = λ n d.
    let code = c.args.code.now in
    let r = c.args.room in
    let stop = c.stop_of-stop.result in
    let at = c.in-Part.ensures in
    let g = begun code r.limit c.args.from c.args.to r.scope r.blocks n stop d c.stop_of-stop.ensures in
    let p = goes_part code r.limit c.args.from stop c.args.to r.scope r.blocks n c.in-Part.jump c.in-Part.join g.1 at.0
    at.1 in
    let s = p.second c.if-join-from.false in
    let few = c.in_ok-body-in-Part.ensures.few p.a p.first in
    let fewer = c.in_ok-no-in-Part.ensures.few s.b s.branch in
    let all = ap letvars (command_If c.in_ok-value.value c.in_ok-body-in-Part.body c.in_ok-no-in-Part.no) in
    record { m = s.m; rest = s.rest; few = omega (arith, s.few, few, fewer, all) }

pub read_one-returns-in-Stuck-clause-found : goal.read_one-returns-in-Stuck-clause-found
read_one-returns-in-Stuck-clause-found t c = λ n d.
    let r = c.args.room in
    let stop = c.stop_of-stop.result in
    let g = begun c.args.code.now r.limit c.args.from c.args.to r.scope r.blocks n stop d c.stop_of-stop.ensures in
    absurd (c.in-Stuck.ensures c.args.from c.args.to n g.1)
