use Rattle.std.proofs.Common.{◌≡◌, ◌++◌, ◌∙◌, sym, ap, subst, arith, refl, [], ◌∷◌, length}
use Rattle.std.specs.Prelude.{⊤, Ok, Err, slice_index}
use Rattle.vsi_types.specs.declared.rules.Read.{Read}
use Rattle.vsi_types.specs.declared.rules.Guard.{Guard}
use Rattle.std.proofs.lemmas.List.{map-append, get_or_read}
use Rattle.std.proofs.lemmas.List.Elements.{All-nil}
use Rattle.vsi_scope.specs.Language.{HasLocations}
use Rattle.vsi_scope.specs.View.{expression}
use Rattle.vsi_types.specs.Steps.{reads, guarded}
use Rattle.vsi_types.specs.Checking.{FlowsJudged}
use Rattle.vsi_types.specs.Security.{class_of}
use Rattle.vsi_types.proofs.Judging.{guards_fault, judged_err, judged_from, judged_both, fault_at}
use Rattle.vsi_types.proofs.walker.+check_reads.Goals as goal

pub returns-in_err-check_reads-in-Op : goal.returns-in_err-check_reads-in-Op
returns-in_err-check_reads-in-Op g t c =
    let L = g.C.Classes.lattice c.args.lattice.now in
    let cls = class_of L c.args.table.now in
    let A = guarded c.args.rule (reads c.args.scope.now (expression c.in-Op.a.value)) in
    let B = guarded c.args.rule (reads c.args.scope.now (expression c.in-Op.b.value)) in
    let e : guarded c.args.rule (reads c.args.scope.now (expression c.args.e.now)) ≡ A ++ B =
    ap (λ x. guarded c.args.rule (reads c.args.scope.now (expression x))) c.in-Op.is
    ∙ map-append (λ r. record { rule = c.args.rule; read = r })
    (reads c.args.scope.now (expression c.in-Op.a.value)) (reads c.args.scope.now (expression c.in-Op.b.value)) in
    subst (λ gs. FlowsJudged L cls c.args.target gs c.from_residual.result) (sym e)
    (judged_from L cls c.args.target (A ++ B)
    c.in_err-check_reads-in-Op.field-0.0 c.from_residual.result c.from_residual.ensures.1
    (judged_err L cls c.args.target A B c.in_err-check_reads-in-Op.field-0.0
    (subst (λ x. FlowsJudged {U = ⊤} L cls c.args.target (guarded c.args.rule (reads c.args.scope.now (expression x)))
    (Err c.in_err-check_reads-in-Op.field-0.0)) c.deref.ensures (c.in_err-check_reads-in-Op.ensures))))

pub returns-else-may_flow : goal.returns-else-may_flow
returns-else-may_flow g t c =
    let L = g.C.Classes.lattice c.args.lattice.now in
    let cls = class_of L c.args.table.now in
    let r : Read = record { variable = c.index-scope-l.result; place = c.in-Loc.place } in
    let one : Guard = record { rule = c.args.rule; read = r } in
    let at : slice_index c.args.scope.now c.in-Loc.l ≡ c.index-scope-l.result =
    sym (get_or_read c.args.scope.now c.in-Loc.l c.index-scope-l.result
    (subst (λ x. HasLocations (length c.args.scope.now) (expression x)) c.in-Loc.is c.requires.places)
    c.index-scope-l.is 0) in
    let e : guarded c.args.rule (reads c.args.scope.now (expression c.args.e.now)) ≡ one ∷ [] =
    ap (λ x. guarded c.args.rule (reads c.args.scope.now (expression x))) c.in-Loc.is
    ∙ ap (λ v. record { rule = c.args.rule; read = record { variable = v; place = c.in-Loc.place } } ∷ []) at in
    subst (λ gs. FlowsJudged {U = ⊤} L cls c.args.target gs (Err (fault_at c.args.target one))) (sym e)
    (guards_fault L cls c.args.target (one ∷ []) 0 one (omega arith) refl
    (sym c.may_flow.ensures ∙ c.if-may_flow.false) (λ written. All-nil _))

pub returns-in_ok-check_reads-in-Op : goal.returns-in_ok-check_reads-in-Op
returns-in_ok-check_reads-in-Op g t c =
    let L = g.C.Classes.lattice c.args.lattice.now in
    let cls = class_of L c.args.table.now in
    let A = guarded c.args.rule (reads c.args.scope.now (expression c.in-Op.a.value)) in
    let B = guarded c.args.rule (reads c.args.scope.now (expression c.in-Op.b.value)) in
    let e : guarded c.args.rule (reads c.args.scope.now (expression c.args.e.now)) ≡ A ++ B =
    ap (λ x. guarded c.args.rule (reads c.args.scope.now (expression x))) c.in-Op.is
    ∙ map-append (λ r. record { rule = c.args.rule; read = r })
    (reads c.args.scope.now (expression c.in-Op.a.value)) (reads c.args.scope.now (expression c.in-Op.b.value)) in
    subst (λ gs. FlowsJudged L cls c.args.target gs c.check_reads-in-Op.result) (sym e)
    (judged_both L cls c.args.target A B tt c.check_reads-in-Op.result
    (subst (λ x. FlowsJudged {U = ⊤} L cls c.args.target (guarded c.args.rule (reads c.args.scope.now (expression x)))
    (Ok tt)) c.deref.ensures c.in_ok-check_reads-in-Op.ensures)
    (subst (λ x. FlowsJudged L cls c.args.target (guarded c.args.rule (reads c.args.scope.now (expression x)))
    c.check_reads-in-Op.result) c.deref-in-Op.ensures c.check_reads-in-Op.ensures))
