use Rattle.std.proofs.Common.{◌≡◌, ◌∙◌, ℕ, Some, slice_get, sym, ap, subst}
use Rattle.std.proofs.lemmas.Bool.{false≢true}
use Rattle.std.proofs.lemmas.Option.{none-some}
use Rattle.vsi_types.specs.Security.{program, steps_of}
use Rattle.vsi_types.specs.Walks.{declared_class}
use Rattle.vsi_types.proofs.Walking.{some_same}
use Rattle.vsi_infer.specs.Paths.{IsPath}
use Rattle.vsi_infer.proofs.PathLemmas.{bad_steps, bad_parts, path_end, not_true, true_not}
use Rattle.vsi_infer.proofs.walk.check_known.Goals as goal

pub returns-in_default-path_end : goal.returns-in_default-path_end
returns-in_default-path_end g c =
    let L = g.C.Classes.lattice c.args.lattice.now in
    let p = program c.args.program.now in
    let at : slice_get c.args.walk.now.steps.items 0 ≡ Some c.in-Some.first.now =
    sym (c.in-Some.ensures.value ∙ ap (λ l. slice_get l 0) c.as_slice-steps.ensures.value) in (
      λ e. absurd (false≢true e),
      λ bad. let q = bad_parts L c.args.profile p c.args.walk.now.steps.items c.in-Some.first.now at bad in
          absurd (c.in_default-path_end.ensures.none q.end (subst
          (λ l. IsPath (steps_of c.args.profile p) c.in-Some.first.now.source l q.end)
          (sym c.as_slice-steps.ensures.value) q.path)),
    )

pub returns-in_default-declared_class-2 : goal.returns-in_default-declared_class-2
returns-in_default-declared_class-2 g c =
    let L = g.C.Classes.lattice c.args.lattice.now in
    let p = program c.args.program.now in
    let at : slice_get c.args.walk.now.steps.items 0 ≡ Some c.in-Some.first.now =
    sym (c.in-Some.ensures.value ∙ ap (λ l. slice_get l 0) c.as_slice-steps.ensures.value) in (
      λ e. absurd (false≢true e),
      λ bad. let q = bad_parts L c.args.profile p c.args.walk.now.steps.items c.in-Some.first.now at bad in
          let w = subst (λ l. IsPath (steps_of c.args.profile p) c.in-Some.first.now.source l q.end)
          (sym c.as_slice-steps.ensures.value) q.path in
          let e = path_end (steps_of c.args.profile p) c.in-Some.first.now.source q.end c.in-Some-path_end.last
          c.as_slice-steps.result.now w c.in-Some-path_end.ensures.some in
          absurd (none-some q.high (sym c.in_default-declared_class-2.is ∙ c.declared_class-2.ensures
          ∙ ap (declared_class L p) (sym e) ∙ q.target)),
    )

pub returns : goal.returns
returns g c =
    let L = g.C.Classes.lattice c.args.lattice.now in
    let p = program c.args.program.now in
    let at : slice_get c.args.walk.now.steps.items 0 ≡ Some c.in-Some.first.now =
    sym (c.in-Some.ensures.value ∙ ap (λ l. slice_get l 0) c.as_slice-steps.ensures.value) in
    let low = sym c.declared_class.ensures ∙ c.in-Some-declared_class.is in
    let high = sym c.declared_class-2.ensures ∙ c.in-Some-declared_class-2.is in (
      λ n. bad_steps L c.args.profile p c.args.walk.now.steps.items c.in-Some.first.now c.in-Some-path_end.last
          c.in-Some-declared_class.low c.in-Some-declared_class-2.high at
          (subst (λ l. IsPath (steps_of c.args.profile p) c.in-Some.first.now.source l c.in-Some-path_end.last)
          c.as_slice-steps.ensures.value c.in-Some-path_end.ensures.some)
          low high (λ t. not_true c.leq.result (L.leq c.in-Some-declared_class.low c.in-Some-declared_class-2.high)
          c.leq.ensures n t),
      λ bad. let q = bad_parts L c.args.profile p c.args.walk.now.steps.items c.in-Some.first.now at bad in
          let w = subst (λ l. IsPath (steps_of c.args.profile p) c.in-Some.first.now.source l q.end)
          (sym c.as_slice-steps.ensures.value) q.path in
          let e = path_end (steps_of c.args.profile p) c.in-Some.first.now.source q.end c.in-Some-path_end.last
          c.as_slice-steps.result.now w c.in-Some-path_end.ensures.some in
          let a = some_same q.low c.in-Some-declared_class.low (sym q.source ∙ low) in
          let d = some_same q.high c.in-Some-declared_class-2.high
          (sym q.target ∙ ap (declared_class L p) e ∙ high) in
          true_not c.leq.result (L.leq c.in-Some-declared_class.low c.in-Some-declared_class-2.high) c.leq.ensures
          (λ t. q.down (ap (λ (x : ℕ). L.leq x q.high) a ∙ ap (L.leq c.in-Some-declared_class.low) d ∙ t)),
    )
