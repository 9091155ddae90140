use Rattle.std.proofs.Common.{◌≡◌, ◌∙◌, true, refl, sym, subst, ap}
use Rattle.std.proofs.lemmas.List.{take_all}
use Rattle.std.proofs.lemmas.List.Elements.{All-more, All-contains}
use Rattle.std.specs.List.{All}
use Rattle.vsi_lsp.specs.Ways.{IsStrictAt, way}
use Rattle.vsi_lsp.proofs.Views.{same_names}
use Rattle.vsi_lsp.proofs.projects.is_strict_at.Goals as goal
use Rattle.vsi_lsp.proofs.projects.is_strict_at.Goals.{else-program-via-then-program+in_ok-way_to+else-eq, else-program-via-else-program}

pub returns-then-eq : goal.returns-then-eq
returns-then-eq c =
    let same = (same_names c.in_ok-way_to.field-0.items c.in_ok-names.names.items).0 (sym c.if-eq.ensures) in (
      (λ _. record {
        program = c.program-item.result;
        among = (c.loop-program.program-index, c.loop-program-test.true, sym c.program-item.is);
        strict = record {
          strict = c.if-program.true;
          same = ap way (sym c.as_bytes.ensures.value) ∙ sym c.in_ok-way_to.ensures ∙ same ∙ c.in_ok-names.ensures;
        };
      }),
      (λ _. refl),
    )

pub loop-program-preserved : goal.loop-program-preserved
loop-program-preserved c =
    let path = c.args.path.now in
    let item = c.program-item.result in
    All-more (λ p. IsStrictAt path p → ⊥) c.args.programs.now c.loop-program.program-index item
    c.loop-program-test.true c.loop-program.invariant
    (λ found.
    let strict : IsStrictAt path item = subst (IsStrictAt path) (sym c.program-item.is) found in
    elim c.else-program.branch [
      | else-program-via-then-program+in_ok-way_to+else-eq w ↦
          let same =
          (same_names w.in_ok-way_to.field-0.items c.in_ok-names.names.items).1
          (w.in_ok-way_to.ensures ∙ ap way w.as_bytes.ensures.value ∙ strict.same ∙ sym c.in_ok-names.ensures) in
          let no = w.if-eq.ensures in
          absurd cc
      | else-program-via-else-program w ↦
          let yes = strict.strict in let no = w.if-program.false in absurd cc
    ])

pub returns : goal.returns
returns c =
    let programs = c.args.programs.now in (
      (λ no. absurd cc),
      (λ required.
          absurd (All-contains (λ p. IsStrictAt c.args.path.now p → ⊥) programs required.program
          (subst (All (λ p. IsStrictAt c.args.path.now p → ⊥))
          (take_all c.loop-program.program-index programs c.loop-program-test.false) c.loop-program.invariant)
          required.among required.strict)),
    )
