use Rattle.std.proofs.Common.{◌≡◌, ℕ, Option, Result, Ok, Err, IfSome, subst, sym}
use Rattle.std.specs.Global.{Vec}
use Rattle.std.specs.Prelude.{IfOk, IsErrAnd, MatchResult}
use Rattle.std.specs.Result.{result_ok}
use Rattle.std.proofs.lemmas.Result.{IfOk-weaker}
use Rattle.vsi_answers.specs.Bounds.{IsBound}
use Rattle.vsi_image.specs.declared.instr.Image.{Image}
use Rattle.vsi_subject.specs.Performed.{IsBoundedC, IsWrittenInC}
use Rattle.vsi_requests.proofs.c_code.in_c.Goals as goal
use Rattle.vsi_requests.proofs.c_code.in_c.Goals.{else-is_header, else-is_header-2, then-is_header, then-is_header-2}

-- A fact of an answer holds where only its error has been changed.
ok_kept : {A E F : Type 0} (P : A → Type 0) (Post : E → F → Type 0) (answer : Result A E) (result : Result A F) →
    MatchResult answer (λ x. result ≡ Ok x) (λ e. IsErrAnd result (Post e)) → IfOk answer P → IfOk result P
ok_kept P Post (Ok x) result is told = subst (λ r. IfOk r P) (sym is) told
ok_kept P Post (Err e) (Ok x) is told = absurd is
ok_kept P Post (Err e) (Err f) is told = tt

-- A bound that was found is a bound.
known : {E : Type 0} (image : Image) (Lacks : E → Type 0) (answer : Result ℕ E) (bound : Option ℕ) →
    bound ≡ result_ok answer → MatchResult answer (IsBound image) Lacks → IfSome bound (IsBound image)
known image Lacks (Ok most) bound is told = subst (λ b. IfSome b (IsBound image)) (sym is) told
known image Lacks (Err line) bound is told = subst (λ b. IfSome b (IsBound image)) (sym is) tt

pub emit_header-answer-requires : goal.emit_header-answer-requires
emit_header-answer-requires c =
    known c.args.verified.now _ c.in_ok-enough_budget.field-0 c.ok-bound.result c.ok-bound.ensures.value
    c.in_ok-enough_budget.ensures.budget

pub emit_c-answer-requires : goal.emit_c-answer-requires
emit_c-answer-requires c =
    known c.args.verified.now _ c.in_ok-enough_budget.field-0 c.ok-bound.result c.ok-bound.ensures.value
    c.in_ok-enough_budget.ensures.budget

pub returns-then-is_bounded-clause-told : goal.returns-then-is_bounded-clause-told
returns-then-is_bounded-clause-told c = rw c.if-is_bounded.true
    (let Is : Vec ℕ → Type 0 = λ text.
    IsBoundedC c.args.is_header c.args.verified.now c.args.origin c.args.name.now text.items in
    ok_kept Is _ c.if-is_header.answer c.map_err.result c.map_err.ensures.cases
    (elim c.if-is_header.branch [
      | then-is_header w ↦ subst (λ r. IfOk r Is) (sym w.answer-is)
          (IfOk-weaker w.emit_bounded_header-answer.result _ Is
          (λ text is. record {
            most = c.in_ok-most.most;
            halts = c.in_ok-most.ensures.told;
            is = rw w.if-is_header.true is;
          })
          w.emit_bounded_header-answer.ensures.written)
      | else-is_header w ↦ subst (λ r. IfOk r Is) (sym w.answer-is)
          (IfOk-weaker w.emit_bounded-answer.result _ Is
          (λ text is. record {
            most = c.in_ok-most.most;
            halts = c.in_ok-most.ensures.told;
            is = rw w.if-is_header.false is;
          })
          w.emit_bounded-answer.ensures.emitted)
    ]))

pub returns-clause-told : goal.returns-clause-told
returns-clause-told c = rw c.if-is_bounded.false
    (let Is : Vec ℕ → Type 0 = λ text.
    IsWrittenInC c.args.is_header c.args.verified.now c.args.origin c.args.name.now text.items in
    let halts = known c.args.verified.now _ c.in_ok-enough_budget.field-0 c.ok-bound.result c.ok-bound.ensures.value
    c.in_ok-enough_budget.ensures.budget in
    ok_kept Is _ c.if-is_header-2.answer c.map_err-2.result c.map_err-2.ensures.cases
    (elim c.if-is_header-2.branch [
      | then-is_header-2 w ↦ subst (λ r. IfOk r Is) (sym w.answer-is)
          (IfOk-weaker w.emit_header-answer.result _ Is
          (λ text is. record { bound = c.ok-bound.result; halts = halts; is = rw w.if-is_header-2.true is })
          w.emit_header-answer.ensures.written)
      | else-is_header-2 w ↦ subst (λ r. IfOk r Is) (sym w.answer-is)
          (IfOk-weaker w.emit_c-answer.result _ Is
          (λ text is. record { bound = c.ok-bound.result; halts = halts; is = rw w.if-is_header-2.false is })
          w.emit_c-answer.ensures.emitted)
    ]))
