use Rattle.std.proofs.Common.{◌≡◌, ℕ, ◌∷◌, [], true, length, List, sym, subst}
use Rattle.std.specs.Prelude.{slice_index}
use Rattle.std.proofs.lemmas.List.{get_or_read}
use Rattle.vsi_scope.specs.declared.program.Ex.{Ex}
use Rattle.vsi_scope.specs.Language.{HasLocations}
use Rattle.vsi_scope.specs.View.{expression}
use Rattle.vsi_types.specs.declared.rules.Step.{Step}
use Rattle.vsi_types.specs.declared.rules.Profile.TheVariants.{Strict}
use Rattle.vsi_types.specs.Steps.{reads, ending, endings}
use Rattle.vsi_infer.specs.FirstSteps.{IsFrom, kept_of}
use Rattle.vsi_infer.proofs.KeptLemmas.{from_none, from_then, endings_both}
use Rattle.vsi_infer.proofs.looking.+look_endings.Goals as goal

pub returns-in-Num : goal.returns-in-Num
returns-in-Num g t c =
    let W = g.W.Wanted.wants c.args.wanted.now in
    let old = kept_of c.args.log.now in
    let F : Ex → List Step = λ e. endings Strict true (reads c.args.scope.now (expression e)) in
    subst (λ e. IsFrom W (F e) old old) (sym c.in-Num.is) (from_none W old)

pub returns-in_ok-keep_wanted-in-Loc : goal.returns-in_ok-keep_wanted-in-Loc
returns-in_ok-keep_wanted-in-Loc g t c =
    let W = g.W.Wanted.wants c.args.wanted.now in
    let scope = c.args.scope.now in
    let old = kept_of c.args.log.now in
    let new = kept_of c.keep_wanted.new.log in
    let F : Ex → List Step = λ e. endings Strict true (reads scope (expression e)) in
    let lt = subst (λ e. HasLocations (length scope) (expression e)) c.in-Loc.is c.requires in
    let at : c.index-scope-l.result ≡ slice_index scope c.in-Loc.l =
    get_or_read scope c.in-Loc.l c.index-scope-l.result lt c.index-scope-l.is 0 in
    subst (λ e. IsFrom W (F e) old new) (sym c.in-Loc.is)
    (subst (λ (v : ℕ). IsFrom W (ending (record { variable = v; place = c.in-Loc.place }) ∷ []) old new) at
    c.in_ok-keep_wanted-in-Loc.ensures)

pub returns-in_ok-look_endings-in-Op-2 : goal.returns-in_ok-look_endings-in-Op-2
returns-in_ok-look_endings-in-Op-2 g t c =
    let W = g.W.Wanted.wants c.args.wanted.now in
    let scope = c.args.scope.now in
    let old = kept_of c.args.log.now in
    let mid = kept_of c.look_endings.new.log in
    let new = kept_of c.look_endings-in-Op.new.log in
    let F : Ex → List Step = λ e. endings Strict true (reads scope (expression e)) in
    subst (λ e. IsFrom W (F e) old new) (sym c.in-Op.is)
    (subst (λ l. IsFrom W l old new) (sym (endings_both (reads scope (expression c.in-Op.a.value))
    (reads scope (expression c.in-Op.b.value))))
    (from_then W (F c.in-Op.a.value) (F c.in-Op.b.value) old mid new
    (subst (λ e. IsFrom W (F e) old mid) c.deref.ensures c.in_ok-look_endings-in-Op.ensures)
    (subst (λ e. IsFrom W (F e) mid new) c.deref-in-Op.ensures c.in_ok-look_endings-in-Op-2.ensures)))
