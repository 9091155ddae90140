use Rattle.std.proofs.Common.{rules, ap, length, refl}
use Rattle.vsi_steps.specs.declared.watch.Watched as watch
use Rattle.vsi_steps.specs.Watched.{Held, held}
use Rattle.vsi_steps.proofs.Whole.{whole_stop, whole_halts, not_stopped}
use Rattle.vsi_steps.proofs.watch.monitored.Goals as goal

pub returns-in_err-run_all-clause-typable : goal.returns-in_err-run_all-clause-typable
returns-in_err-run_all-clause-typable g c =
    λ P s is typed.
    let L = g.C.Classes.lattice c.args.lattice.now in
    let laws = g.met.C.Classes.laws c.args.lattice.now in
    let kept = c.body-body.ensures.resolved in
    let a : Held = record {
      words = c.in_ok-to_vec.field-0.items;
      labels = c.in_ok-from_slice.field-0.items;
      variables = c.in_ok-from_slice-2.field-0.items;
      left = c.args.limit;
    } in
    not_stopped c.args.rule L laws c.args.classes.now c.args.program.now kept c.requires.classes c.requires.each
    c.args.words.now
    c.from_residual-in_err-run_all.result
    (whole_stop c.args.rule L laws c.args.classes.now c.args.program.now kept c.requires.classes c.requires.each
    c.body-body.result.now c.body-body.ensures.value _ (ap length c.globals-globals.ensures) _ c.bottom-bottom.ensures
    c.args.words.now c.requires.words a (c.in_ok-to_vec.ensures.items_if_clones_equal (λ x y h. h)) (search rules)
    (search rules) (held c.run_all.new.state) c.from_residual-in_err-run_all.result _
    c.from_residual-in_err-run_all.ensures.1 c.in_err-run_all.ensures)
    P s is typed

pub returns-in_err-run_all-clause-ends : goal.returns-in_err-run_all-clause-ends
returns-in_err-run_all-clause-ends g c =
    let L = g.C.Classes.lattice c.args.lattice.now in
    let laws = g.met.C.Classes.laws c.args.lattice.now in
    let kept = c.body-body.ensures.resolved in
    let a : Held = record {
      words = c.in_ok-to_vec.field-0.items;
      labels = c.in_ok-from_slice.field-0.items;
      variables = c.in_ok-from_slice-2.field-0.items;
      left = c.args.limit;
    } in
    whole_stop c.args.rule L laws c.args.classes.now c.args.program.now kept c.requires.classes c.requires.each
    c.body-body.result.now c.body-body.ensures.value _ (ap length c.globals-globals.ensures) _ c.bottom-bottom.ensures
    c.args.words.now c.requires.words a (c.in_ok-to_vec.ensures.items_if_clones_equal (λ x y h. h)) (search rules)
    (search rules) (held c.run_all.new.state) c.from_residual-in_err-run_all.result _
    c.from_residual-in_err-run_all.ensures.1 c.in_err-run_all.ensures

pub returns-clause-ends : goal.returns-clause-ends
returns-clause-ends g c =
    let L = g.C.Classes.lattice c.args.lattice.now in
    let laws = g.met.C.Classes.laws c.args.lattice.now in
    let kept = c.body-body.ensures.resolved in
    let a : Held = record {
      words = c.in_ok-to_vec.field-0.items;
      labels = c.in_ok-from_slice.field-0.items;
      variables = c.in_ok-from_slice-2.field-0.items;
      left = c.args.limit;
    } in
    let w : watch.Watched = record { words = c.run_all.new.state.words; labels = c.run_all.new.state.labels } in
    whole_halts c.args.rule L laws c.args.classes.now c.args.program.now kept c.requires.classes c.requires.each
    c.body-body.result.now c.body-body.ensures.value _ (ap length c.globals-globals.ensures) _ c.bottom-bottom.ensures
    c.args.words.now c.requires.words a (c.in_ok-to_vec.ensures.items_if_clones_equal (λ x y h. h)) (search rules)
    (search rules) (held c.run_all.new.state) w tt refl refl c.in_ok-run_all.ensures
