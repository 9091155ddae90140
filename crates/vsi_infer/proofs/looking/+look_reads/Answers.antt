use Rattle.std.proofs.Common.{◌≡◌, ℕ, ◌∷◌, [], length, List, sym, subst}
use Rattle.std.specs.Prelude.{slice_index}
use Rattle.std.proofs.lemmas.List.{get_or_read}
use Rattle.vsi_scope.specs.declared.program.Ex.{Ex}
use Rattle.vsi_scope.specs.Language.{HasLocations}
use Rattle.vsi_scope.specs.View.{expression}
use Rattle.vsi_types.specs.declared.rules.Step.{Step}
use Rattle.vsi_types.specs.Steps.{reads, guarded, flow, flows}
use Rattle.vsi_infer.specs.FirstSteps.{IsFrom, kept_of}
use Rattle.vsi_infer.proofs.KeptLemmas.{from_none, from_then, flows_both}
use Rattle.vsi_infer.proofs.looking.+look_reads.Goals as goal

pub returns-in-Num : goal.returns-in-Num
returns-in-Num g t c =
    let W = g.W.Wanted.wants c.args.wanted.now in
    let old = kept_of c.args.log.now in
    let F : Ex → List Step = λ e. flows c.args.target c.args.written
    (guarded c.args.rule (reads c.args.scope.now (expression e))) in
    subst (λ e. IsFrom W (F e) old old) (sym c.in-Num.is) (from_none W old)

pub returns-in_ok-look-in-Loc : goal.returns-in_ok-look-in-Loc
returns-in_ok-look-in-Loc g t c =
    let W = g.W.Wanted.wants c.args.wanted.now in
    let scope = c.args.scope.now in
    let old = kept_of c.args.log.now in
    let new = kept_of c.look.new.log in
    let F : Ex → List Step = λ e. flows c.args.target c.args.written
    (guarded c.args.rule (reads scope (expression e))) in
    let lt = subst (λ e. HasLocations (length scope) (expression e)) c.in-Loc.is c.requires in
    let at : c.index-scope-l.result ≡ slice_index scope c.in-Loc.l =
    get_or_read scope c.in-Loc.l c.index-scope-l.result lt c.index-scope-l.is 0 in
    subst (λ e. IsFrom W (F e) old new) (sym c.in-Loc.is)
    (subst (λ (v : ℕ). IsFrom W (flow c.args.target c.args.written (record {
      rule = c.args.rule;
      read = record { variable = v; place = c.in-Loc.place };
    }) ∷ []) old new) at c.in_ok-look-in-Loc.ensures)

pub returns-in_ok-look_reads-in-Op-2 : goal.returns-in_ok-look_reads-in-Op-2
returns-in_ok-look_reads-in-Op-2 g t c =
    let W = g.W.Wanted.wants c.args.wanted.now in
    let scope = c.args.scope.now in
    let old = kept_of c.args.log.now in
    let mid = kept_of c.look_reads.new.log in
    let new = kept_of c.look_reads-in-Op.new.log in
    let F : Ex → List Step = λ e. flows c.args.target c.args.written
    (guarded c.args.rule (reads scope (expression e))) in
    subst (λ e. IsFrom W (F e) old new) (sym c.in-Op.is)
    (subst (λ l. IsFrom W l old new) (sym (flows_both c.args.target c.args.written c.args.rule
    (reads scope (expression c.in-Op.a.value)) (reads scope (expression c.in-Op.b.value))))
    (from_then W (F c.in-Op.a.value) (F c.in-Op.b.value) old mid new
    (subst (λ e. IsFrom W (F e) old mid) c.deref.ensures c.in_ok-look_reads-in-Op.ensures)
    (subst (λ e. IsFrom W (F e) mid new) c.deref-in-Op.ensures c.in_ok-look_reads-in-Op-2.ensures)))
