use Rattle.std.proofs.Common.{rules, ◌≡◌, ◌∙◌, ◌++◌, ◌∷◌, [], ◌||◌, sym, ap, subst, arith, refl, ◌+◌, ◌≤◌, length, take, true}
use Rattle.std.proofs.lemmas.Grind.{common_steps}
use Rattle.std.specs.Prelude.{slice_index}
use Rattle.std.proofs.lemmas.List.{take_all, get_or_read}
use Rattle.vsi_scope.specs.declared.program.Cmd.{the_lemmas}
use Rattle.vsi_scope.specs.Language.{Assign, has_loop}
use Rattle.vsi_scope.specs.View.{expression, command, sequence}
use Rattle.vsi_types.specs.declared.rules.Rule.TheVariants as typing
use Rattle.vsi_types.specs.Steps.{reads, guarded, flows, endings}
use Rattle.vsi_types.specs.Security.{name_place}
use Rattle.vsi_types.specs.Walker.{walker_place}
use Rattle.vsi_types.proofs.Looping.{loop_more}
use Rattle.vsi_types.proofs.Places.{place}
use Rattle.vsi_infer.specs.FirstSteps.{HasRoom, IsFrom, IsGathered, Gathers, kept_of}
use Rattle.vsi_infer.proofs.CommandLemmas.{choice_read, loop_read, letvar_read, name_at, room_next}
use Rattle.vsi_infer.proofs.KeptLemmas.{gathered_put, put_from, gathered_at, gathered_none, gathered_choose, gathered_repeat, gathered_allocate, gathered_more, gathered_all}
use Rattle.vsi_infer.proofs.gathering.+walk.Goals as goal

pub gather_command-gather_if-requires : goal.gather_command-gather_if-requires
gather_command-gather_if-requires g t c κs within = (
  first_of (search (rules, the_lemmas), grind (arith, the_lemmas, common_steps), omega (arith, c.decreases)),
  search (
    rules,
    subst (HasRoom c.args.first (length c.args.entries.now) (walker_place c.args.walk.now))
        (choice_read c.args.c.now c.in-If.guard c.in-If.yes c.in-If.no c.deref-in-If.result.now
        c.deref-in-If-2.result.now
        c.in-If.is c.deref-in-If.ensures.value c.deref-in-If-2.ensures.value) c.requires,
  ),
)

pub gather_command-gather_while-requires : goal.gather_command-gather_while-requires
gather_command-gather_while-requires g t c κs within = (
  first_of (search (rules, the_lemmas), grind (arith, the_lemmas, common_steps), omega (arith, c.decreases)),
  search (
    rules,
    subst (HasRoom c.args.first (length c.args.entries.now) (walker_place c.args.walk.now))
        (loop_read c.args.c.now c.in-While.guard c.in-While.body c.deref-in-While.result.now c.in-While.is
        c.deref-in-While.ensures.value) c.requires,
  ),
)

pub gather_command-gather_letvar-requires : goal.gather_command-gather_letvar-requires
gather_command-gather_letvar-requires g t c κs within = (
  first_of (search (rules, the_lemmas), grind (arith, the_lemmas, common_steps), omega (arith, c.decreases)),
  search (
    rules,
    subst (HasRoom c.args.first (length c.args.entries.now) (walker_place c.args.walk.now))
        (letvar_read c.args.c.now c.in-Letvar.value c.in-Letvar.body c.deref-in-Letvar.result.now c.in-Letvar.is
        c.deref-in-Letvar.ensures.value) c.requires,
  ),
)

pub gather_command-returns-in_ok-look_guards-in-Assign : goal.gather_command-returns-in_ok-look_guards-in-Assign
gather_command-returns-in_ok-look_guards-in-Assign g t c =
    let P = c.args.profile in
    let N = name_place c.args.entries.now c.args.first in
    let W = g.W.Wanted.wants c.args.wanted.now in
    let l = c.in-Assign.loc in
    let x = expression c.in-Assign.value in
    let here = walker_place c.args.walk.now in
    let scope = c.args.walk.now.scope.items in
    let w = kept_of c.args.log.now in
    let u = kept_of c.look_reads.new.log in
    let v = kept_of c.look_guards.new.log in
    let e : command c.args.c.now ≡ Assign l c.in-Assign.span x = ap command c.in-Assign.is in
    let room = subst (HasRoom c.args.first (length c.args.entries.now) here) e c.requires in
    let at : c.index-target.result.now ≡ slice_index scope l =
    get_or_read scope l c.index-target.result.now room.places.0 c.index-target.ensures 0 in (
      sym (ap has_loop e),
      subst (λ k. IsGathered W P N here w k here v) (sym e)
          (gathered_put W P N here w v l c.in-Assign.span x
          (put_from W _ _ at c.in-Assign.span _ _
          (ap (λ s. guarded typing.Assign (reads s x)) c.deref.ensures.value) _ _ c.deref-in-Assign.ensures.value
          w u v c.in_ok-look_reads-in-Assign.ensures c.in_ok-look_guards-in-Assign.ensures)),
    )

pub gather_command-returns-in-If : goal.gather_command-returns-in-If
gather_command-returns-in-If g t c =
    subst (λ k. Gathers (g.W.Wanted.wants c.args.wanted.now) c.args.profile
    (name_place c.args.entries.now c.args.first) (walker_place c.args.walk.now)
    (kept_of c.args.log.now) k (walker_place c.gather_if.new.walk) (kept_of c.gather_if.new.log)
    c.gather_if.result)
    (sym (choice_read c.args.c.now c.in-If.guard c.in-If.yes c.in-If.no c.deref-in-If.result.now
    c.deref-in-If-2.result.now
    c.in-If.is c.deref-in-If.ensures.value c.deref-in-If-2.ensures.value)) c.gather_if.ensures

pub gather_command-returns-in-While : goal.gather_command-returns-in-While
gather_command-returns-in-While g t c =
    subst (λ k. Gathers (g.W.Wanted.wants c.args.wanted.now) c.args.profile
    (name_place c.args.entries.now c.args.first) (walker_place c.args.walk.now)
    (kept_of c.args.log.now) k (walker_place c.gather_while.new.walk) (kept_of c.gather_while.new.log)
    c.gather_while.result)
    (sym (loop_read c.args.c.now c.in-While.guard c.in-While.body c.deref-in-While.result.now c.in-While.is
    c.deref-in-While.ensures.value)) c.gather_while.ensures

pub gather_command-returns-in-Letvar : goal.gather_command-returns-in-Letvar
gather_command-returns-in-Letvar g t c =
    subst (λ k. Gathers (g.W.Wanted.wants c.args.wanted.now) c.args.profile
    (name_place c.args.entries.now c.args.first) (walker_place c.args.walk.now)
    (kept_of c.args.log.now) k (walker_place c.gather_letvar.new.walk) (kept_of c.gather_letvar.new.log)
    c.gather_letvar.result)
    (sym (letvar_read c.args.c.now c.in-Letvar.value c.in-Letvar.body c.deref-in-Letvar.result.now c.in-Letvar.is
    c.deref-in-Letvar.ensures.value)) c.gather_letvar.ensures

pub gather_commands-gather_command-requires : goal.gather_commands-gather_command-requires
gather_commands-gather_command-requires g t c κs within = (
  first_of (search (rules, the_lemmas), grind (arith, the_lemmas, common_steps), omega (arith, c.decreases)),
  search (
    rules,
    room_next (walker_place c.args.walk.now) (walker_place c.loop-c.walk) c.args.body.now c.loop-c.c-index
        c.c-item.result c.loop-c-test.true c.c-item.is c.loop-c.invariant.gathered.scope
        c.loop-c.invariant.gathered.next c.args.first (length c.args.entries.now) c.requires,
  ),
)

pub gather_commands-loop-c-init : goal.gather_commands-loop-c-init
gather_commands-loop-c-init g t c = record {
  loops = refl;
  gathered = gathered_none (g.W.Wanted.wants c.args.wanted.now) c.args.profile
      (name_place c.args.entries.now c.args.first) (walker_place c.args.walk.now)
      (kept_of c.args.log.now) c.args.body.now;
}

pub gather_commands-loop-c-preserved : goal.gather_commands-loop-c-preserved
gather_commands-loop-c-preserved g t c = record {
  loops = ap (λ x. x || c.in_ok-one.one) c.loop-c.invariant.loops
      ∙ ap (λ x. has_loop (sequence (take c.loop-c.c-index c.args.body.now)) || x) c.in_ok-one.ensures.0
      ∙ sym (loop_more c.args.body.now c.loop-c.c-index c.c-item.result c.loop-c-test.true c.c-item.is);
  gathered = gathered_more (g.W.Wanted.wants c.args.wanted.now) c.args.profile
      (name_place c.args.entries.now c.args.first) (walker_place c.args.walk.now)
      (walker_place c.loop-c.walk) (kept_of c.args.log.now) (kept_of c.loop-c.log) c.args.body.now
      c.loop-c.c-index c.c-item.result c.loop-c-test.true c.c-item.is c.loop-c.invariant.gathered
      (walker_place c.gather_command.new.walk) (kept_of c.gather_command.new.log) c.in_ok-one.ensures.1;
}

pub gather_commands-returns : goal.gather_commands-returns
gather_commands-returns g t c =
    let le : length c.args.body.now ≤ c.loop-c.c-index = omega arith in (
      c.loop-c.invariant.loops
          ∙ ap (λ l. has_loop (sequence l)) (take_all c.loop-c.c-index c.args.body.now le),
      gathered_all (g.W.Wanted.wants c.args.wanted.now) c.args.profile
          (name_place c.args.entries.now c.args.first) (walker_place c.args.walk.now)
          (walker_place c.loop-c.walk) (kept_of c.args.log.now) (kept_of c.loop-c.log) c.args.body.now
          c.loop-c.c-index le c.loop-c.invariant.gathered,
    )

pub gather_if-returns : goal.gather_if-returns
gather_if-returns g t c =
    let N = name_place c.args.entries.now c.args.first in
    let P = c.args.profile in
    let W = g.W.Wanted.wants c.args.wanted.now in
    let a = walker_place c.args.walk.now in
    let x = expression c.args.guard.now in
    let then_branch = sequence c.args.then_branch.now in
    let else_branch = sequence c.args.else_branch.now in
    let w = kept_of c.args.log.now in
    let gs : c.put_reads.new.guards.items ≡ c.args.walk.now.guards.items
    ++ guarded typing.If (reads c.args.walk.now.scope.items x) =
    c.in_ok-put_reads.ensures ∙ ap (λ s. c.args.walk.now.guards.items ++ guarded typing.If (reads s x))
    c.deref.ensures.value in
    let b = walker_place c.gather_commands.new.walk in
    let d = walker_place c.gather_commands-2.new.walk in
    let u = kept_of c.gather_commands.new.log in
    let v = kept_of c.gather_commands-2.new.log in
    let one = gathered_at W P N c.args.walk.now.scope.items c.args.walk.now.scope.items
    c.put_reads.new.guards.items _ c.args.walk.now.next b then_branch w u refl gs
    (subst (λ l. IsGathered W P N (place c.args.walk.now.scope.items c.put_reads.new.guards.items
    c.args.walk.now.next) l then_branch b u) c.enter.ensures c.in_ok-one.ensures.1) in
    let two = c.in_ok-two.ensures.1 in
    let loops : (c.in_ok-one.one || c.in_ok-two.two) ≡ (has_loop then_branch || has_loop else_branch) =
    ap (λ z. z || c.in_ok-two.two) c.in_ok-one.ensures.0 ∙ ap (λ z. has_loop then_branch || z) c.in_ok-two.ensures.0 in
    let scope : c.deref-3.result.now ≡ c.args.walk.now.scope.items =
    c.deref-3.ensures.value ∙ two.scope ∙ one.scope in
    let last = kept_of c.look_ending.new.log in
    let h = subst (λ s. IsFrom W (endings P (has_loop then_branch || has_loop else_branch) (reads s x)) v last) scope
    (subst (λ l. IsFrom W (endings P l (reads c.deref-3.result.now x)) v last) loops
    c.in_ok-look_ending.ensures) in
    let n : c.len-outside.result ≡ length c.args.walk.now.guards.items = search rules in
    let back = c.truncate.ensures.items ∙ ap (λ k. take k c.gather_commands-2.new.walk.guards.items) n in (
      loops,
      gathered_choose W P N a b d (place d.scope c.truncate.new.self.items d.next) x then_branch else_branch w u v last
          one two h refl
          back refl,
    )

pub gather_while-returns : goal.gather_while-returns
gather_while-returns g t c =
    let N = name_place c.args.entries.now c.args.first in
    let P = c.args.profile in
    let W = g.W.Wanted.wants c.args.wanted.now in
    let a = walker_place c.args.walk.now in
    let x = expression c.args.guard.now in
    let body = sequence c.args.body.now in
    let w = kept_of c.args.log.now in
    let u = kept_of c.look_ending.new.log in
    let v = kept_of c.gather_commands.new.log in
    let h = subst (λ s. IsFrom W (endings P true (reads s x)) w u) c.deref.ensures.value
    c.in_ok-look_ending.ensures in
    let gs : c.put_reads.new.guards.items ≡ c.args.walk.now.guards.items
    ++ guarded typing.While (reads c.args.walk.now.scope.items x) =
    c.in_ok-put_reads.ensures ∙ ap (λ s. c.args.walk.now.guards.items ++ guarded typing.While (reads s x))
    c.deref-2.ensures.value in
    let b = walker_place c.gather_commands.new.walk in
    let one = gathered_at W P N c.args.walk.now.scope.items c.args.walk.now.scope.items
    c.put_reads.new.guards.items _ c.args.walk.now.next b body u v refl gs
    (subst (λ l. IsGathered W P N (place c.args.walk.now.scope.items c.put_reads.new.guards.items
    c.args.walk.now.next) l body b v) c.enter.ensures c.in_ok-gather_commands.ensures.1) in
    let n : c.len-outside.result ≡ length c.args.walk.now.guards.items = search rules in
    let back = c.truncate.ensures.items ∙ ap (λ k. take k c.gather_commands.new.walk.guards.items) n in (
      refl,
      gathered_repeat W P N a b (place b.scope c.truncate.new.self.items b.next) x body w u v h one refl back refl,
    )

pub gather_letvar-returns : goal.gather_letvar-returns
gather_letvar-returns g t c =
    let N = name_place c.args.entries.now c.args.first in
    let P = c.args.profile in
    let W = g.W.Wanted.wants c.args.wanted.now in
    let a = walker_place c.args.walk.now in
    let x = expression c.args.value.now in
    let body = sequence c.args.body.now in
    let w = kept_of c.args.log.now in
    let u = kept_of c.look_reads.new.log in
    let v = kept_of c.gather_commands.new.log in
    let at = name_at c.args.entries.now c.args.first a x body c.index-entries-walk.result c.requires in
    let h = subst (λ s. IsFrom W (flows c.args.walk.now.next (N c.args.walk.now.next)
    (guarded typing.Letvar (reads s x))) w u)
    c.deref.ensures.value
    (subst (λ s. IsFrom W (flows c.args.walk.now.next s (guarded typing.Letvar (reads c.deref.result.now x))) w u) at
    c.in_ok-look_reads.ensures) in
    let b = walker_place c.gather_commands.new.walk in
    let one = gathered_at W P N c.push.new.self.items (c.args.walk.now.scope.items ++ c.args.walk.now.next ∷ [])
    c.args.walk.now.guards.items c.args.walk.now.guards.items (c.args.walk.now.next + 1) b body u v
    c.in_ok-push.ensures.items refl c.in_ok-looping.ensures.1 in
    let n : c.len-outside.result ≡ length c.args.walk.now.scope.items = search rules in
    let back = c.truncate.ensures.items ∙ ap (λ k. take k c.gather_commands.new.walk.scope.items) n in (
      c.in_ok-looping.ensures.0,
      gathered_allocate W P N a b (place c.truncate.new.self.items b.guards b.next) x body w u v h one back refl refl,
    )
