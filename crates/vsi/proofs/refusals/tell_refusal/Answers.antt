use Rattle.std.proofs.Common.{◌≡◌, ◌∙◌, inl, inr, refl, sym, subst, arith}
use Rattle.vsi_drive.specs.Counted.{device_of}
use Rattle.vsi_subject.specs.declared.failure.Failure.TheVariants.{Memory}
use Rattle.vsi_subject.specs.FaultyFiles.{IsRefusalLine, TellsRefusal}
use Rattle.vsi.proofs.Faulted.{other_lacks, plain_lacks, refusal_has, refusal_one}
use Rattle.vsi.proofs.refusals.tell_refusal.Goals as goal

pub returns-then-not-is_refusal-clause-told : goal.returns-then-not-is_refusal-clause-told
returns-then-not-is_refusal-clause-told g c =
    let old = g.W.Write.contents (device_of c.args.output.now) in
    subst (λ b. TellsRefusal b c.args.failure old old c.args.failure)
    (sym (other_lacks c.args.is_json c.args.failure (sym c.is_refusal.ensures ∙ c.if-not-is_refusal.true))) (refl, refl)

pub returns-then-not-is_json-clause-told : goal.returns-then-not-is_json-clause-told
returns-then-not-is_json-clause-told g c =
    let old = g.W.Write.contents (device_of c.args.output.now) in
    subst (λ b. TellsRefusal b c.args.failure old old c.args.failure)
    (sym (plain_lacks c.args.is_json c.args.failure c.if-not-is_json.true)) (refl, refl)

pub after_line-requires : goal.after_line-requires
after_line-requires g c =
    let one = refusal_one c.args.failure (sym c.is_refusal.ensures ∙ c.if-not-is_refusal.false) in
    c.requires (omega (arith, one))

pub returns-in-Ok-clause-late : goal.returns-in-Ok-clause-late
returns-in-Ok-clause-late g c = λ late.
    let one = refusal_one c.args.failure (sym c.is_refusal.ensures ∙ c.if-not-is_refusal.false) in
    absurd (omega (arith, one, late))

pub returns-in-Ok-clause-early : goal.returns-in-Ok-clause-early
returns-in-Ok-clause-early g c = λ early.
    elim (c.after_line.ensures.written) [
      | inl (same, written) ↦ same
      | inr (four, part) ↦ absurd (omega (arith, four, early))
    ]

pub returns-in-Ok-clause-told : goal.returns-in-Ok-clause-told
returns-in-Ok-clause-told g c =
    let old = g.W.Write.contents (device_of c.args.output.now) in
    let new = g.W.Write.contents (device_of c.after_line.new.output) in
    let refuses = sym c.is_refusal.ensures ∙ c.if-not-is_refusal.false in
    subst (λ b. TellsRefusal b c.args.failure old new c.after_line.result)
    (sym (refusal_has c.args.is_json c.args.failure refuses c.if-not-is_json.false))
    (inl (record {
      line = c.as_slice.result.now;
      is = subst (IsRefusalLine c.args.failure) (sym c.as_slice.ensures.value) c.in-Ok.ensures;
      written = c.after_line.ensures.written;
    }))

pub returns-clause-late : goal.returns-clause-late
returns-clause-late g c = λ late.
    let one = refusal_one c.args.failure (sym c.is_refusal.ensures ∙ c.if-not-is_refusal.false) in
    absurd (omega (arith, one, late))

pub returns-clause-told : goal.returns-clause-told
returns-clause-told g c =
    let old = g.W.Write.contents (device_of c.args.output.now) in
    let refuses = sym c.is_refusal.ensures ∙ c.if-not-is_refusal.false in
    subst (λ b. TellsRefusal b c.args.failure old old Memory)
    (sym (refusal_has c.args.is_json c.args.failure refuses c.if-not-is_json.false)) (inr (refl, refl))
