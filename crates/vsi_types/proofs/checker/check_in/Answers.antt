use Rattle.std.proofs.Common.{◌≡◌, ◌++◌, List, sym, ap, ◌∙◌, subst, length, arith, map}
use Rattle.std.specs.List.{AllZip}
use Rattle.vsi_scope.specs.declared.resolved.Entry.{Entry}
use Rattle.std.proofs.lemmas.List.{length-map}
use Rattle.vsi_lattice.specs.Order.{IsLattice}
use Rattle.vsi_scope.specs.Language.{HasPlaces}
use Rattle.vsi_scope.specs.View.{sequence}
use Rattle.vsi_types.specs.Checking.{Judged}
use Rattle.vsi_types.specs.Walker.{walker_place}
use Rattle.vsi_types.specs.Security.{class_of, count_from, program, IsChoice, Keeps}
use Rattle.vsi_types.proofs.Places.{place}
use Rattle.vsi_types.proofs.Programs.{length_count}
use Rattle.vsi_types.proofs.Tables.{resolved_program, program_answer, tells_why}
use Rattle.vsi_types.proofs.checker.check_in.Goals as goal

pub check_commands-requires-clause-places : goal.check_commands-requires-clause-places
check_commands-requires-clause-places g c =
    let few = c.body-body.ensures.resolved.few_globals in
    let n : length c.in_ok-first_variables.field-0.items ≡ length c.args.program.now.globals =
    ap length c.in_ok-first_variables.ensures
    ∙ length_count 0 _
    ∙ omega (arith, few, ap length c.globals-globals.ensures) in
    let p = subst (λ l. HasPlaces (length c.args.program.now.globals) (sequence l)) (sym c.body-body.ensures.value)
    c.body-body.ensures.resolved.places in
    subst (λ k. HasPlaces k (sequence c.body-body.result.now)) (sym n) p

pub returns : goal.returns
returns g c =
    let L = g.C.Classes.lattice c.args.lattice.now in
    let laws : IsLattice L = g.met.C.Classes.laws c.args.lattice.now in
    let size = ap length c.globals-globals.ensures ∙ sym (length-map c.args.program.now.globals (λ g. g.class)) in
    let t = c.deref.ensures.value ∙ c.in_ok-table.ensures
    ∙ ap (λ gs. map (λ g. g.class) gs ++ c.args.choice.now) c.globals-globals.ensures in
    let a = place c.in_ok-first_variables.field-0.items c.new.result.items (length c.globals-globals.result.now) in
    let b = walker_place c.check_commands.new.walk in
    let h = subst
    (λ l. Judged L c.args.profile (class_of L c.deref.result.now) a (sequence l) b c.check_commands.result)
    c.body-body.ensures.value c.check_commands.ensures in
    let res = resolved_program L c.args.program.now c.requires.globals c.body-body.ensures.resolved in
    let kept : IsChoice (program c.args.program.now) c.args.choice.now =
    subst (λ (es : List Entry). AllZip Keeps (map (λ e. e.class) es) c.args.choice.now) c.letvars.ensures
    (c.is_choice.ensures.chosen c.if-not-is_choice.false) in
    let told = program_answer L laws c.args.profile (program c.args.program.now) c.args.choice.now res
    c.requires.choice c.deref.result.now t a b (c.in_ok-first_variables.ensures ∙ ap (count_from 0) size) c.new.ensures.items size
    kept c.check_commands.result h in
    record {
      typable = told.0;
      complete = told.1;
      wrong = λ no. absurd (no kept);
      refused = tells_why L c.args.profile (program c.args.program.now) c.args.choice.now kept c.check_commands.result
          told.2;
    }
