use Rattle.std.proofs.Common.{◌≡◌, ◌∙◌, sym, ap, subst, arith, refl, ℕ, ◌+◌, ◌≤◌, length, replicate}
use Rattle.std.proofs.lemmas.List.{length-map}
use Rattle.vsi_scope.specs.Language.{HasPlaces}
use Rattle.vsi_scope.specs.View.{sequence}
use Rattle.vsi_types.specs.Security.{program, count_from}
use Rattle.vsi_infer.specs.Leading.{IsReady, IsNoted, position_of, row_reads}
use Rattle.vsi_infer.specs.Flowing.{size_of}
use Rattle.vsi_infer.proofs.FlowMatrixLemmas.{position}
use Rattle.vsi_infer.proofs.RowsOf.{ready, rows_of, all_zero}
use Rattle.vsi_infer.proofs.flows.taken_rows.Goals as goal

pub note_commands-requires : goal.note_commands-requires
note_commands-requires c =
    let r = c.body-body.ensures.resolved in
    let p = program c.args.program.now in
    let gs : length c.globals.result.now ≡ length p.globals =
    ap length c.globals.ensures ∙ sym (length-map c.args.program.now.globals (λ g. g.class)) in
    let n = length-map c.args.program.now.globals (λ g. g.class) in
    let ls = ap length c.letvars.ensures in
    let size : size_of p ≡ length c.globals.result.now + length c.letvars.result.now =
    omega (arith, gs, ls, r.entries) in
    let small : length c.globals.result.now + length c.letvars.result.now ≤ 1024 =
    omega (arith, size, r.few_declarations, n) in
    let places = subst (λ k. HasPlaces k p.body) (sym n) r.places in
    subst (λ l. IsReady (length c.globals.result.now + length c.letvars.result.now)
    (position c.in_ok-vec.field-0.items c.in_ok-first_variables.field-0.items (length c.globals.result.now))
    (sequence l)) (sym c.body-body.ensures.value)
    (ready c.args.profile p (length c.globals.result.now + length c.letvars.result.now) size small places
    (position c.in_ok-vec.field-0.items c.in_ok-first_variables.field-0.items (length c.globals.result.now))
    (c.in_ok-first_variables.ensures ∙ ap (count_from 0) gs) gs (omega (arith, c.in_ok-vec.ensures.len)))

pub returns : goal.returns
returns c =
    let r = c.body-body.ensures.resolved in
    let p = program c.args.program.now in
    let gs : length c.globals.result.now ≡ length p.globals =
    ap length c.globals.ensures ∙ sym (length-map c.args.program.now.globals (λ g. g.class)) in
    let n = length-map c.args.program.now.globals (λ g. g.class) in
    let ls = ap length c.letvars.ensures in
    let size : size_of p ≡ length c.globals.result.now + length c.letvars.result.now =
    omega (arith, gs, ls, r.entries) in
    let small : length c.globals.result.now + length c.letvars.result.now ≤ 1024 =
    omega (arith, size, r.few_declarations, n) in
    let places = subst (λ k. HasPlaces k p.body) (sym n) r.places in
    rows_of c.args.profile p (length c.globals.result.now + length c.letvars.result.now) size small places c.args.filter
    (position c.in_ok-vec.field-0.items c.in_ok-first_variables.field-0.items (length c.globals.result.now))
    (position_of c.note_commands.new.walk)
    (c.in_ok-first_variables.ensures ∙ ap (count_from 0) gs) gs (omega (arith, c.in_ok-vec.ensures.len))
    (all_zero _ c.in_ok-vec.field-0.items (c.in_ok-vec.ensures.items_if_clones_equal (λ y h. h)))
    (row_reads (replicate {A = ℕ} 16 0)) (λ v. all_zero 16 (replicate {A = ℕ} 16 0) refl v 0)
    (subst (λ l. IsNoted c.args.filter c.args.profile (length c.globals.result.now + length c.letvars.result.now)
    (row_reads (replicate {A = ℕ} 16 0)) (position c.in_ok-vec.field-0.items c.in_ok-first_variables.field-0.items
    (length c.globals.result.now)) (sequence l) (position_of c.note_commands.new.walk)) c.body-body.ensures.value
    c.in_ok-note_commands.ensures.1)
