use Rattle.std.proofs.Common.{List, reverse, sym, ap, ◌∙◌}
use Rattle.vsi_syntax.specs.View.{lexemes}
use Rattle.vsi_recovery.specs.declared.sort.Sort.{Sort}
use Rattle.vsi_recovery.specs.Told.{told}
use Rattle.vsi_recovery.proofs.Exact.{follow_sound, follow_complete, follow_none, end_sound, end_complete, end_none}
use Rattle.vsi_recovery.proofs.expected.expected_after.Goals as goal

pub returns-in_ok-sorts-in-Some-clause-sorts : goal.returns-in_ok-sorts-in-Some-clause-sorts
returns-in_ok-sorts-in-Some-clause-sorts c = λ a.
    let read = sym (rw c.in-Some.is at c.in_ok-ahead.ensures) in
    let is = rw c.deref.ensures.value at c.in_ok-sorts-in-Some.ensures a in (
      λ e. follow_sound c.args.tokens.now (reverse c.in-Some.ahead.items) a read (sym is ∙ e),
      λ f. is ∙ follow_complete (lexemes c.args.tokens.now) (reverse c.in-Some.ahead.items) a read f,
    )

pub returns-in_ok-sorts-in-Some-clause-end : goal.returns-in_ok-sorts-in-Some-clause-end
returns-in_ok-sorts-in-Some-clause-end c =
    let read = sym (rw c.in-Some.is at c.in_ok-ahead.ensures) in (
      λ e.
          end_sound c.args.tokens.now (reverse c.in-Some.ahead.items) read (sym c.can_end.ensures ∙ e),
      λ p. c.can_end.ensures
          ∙ end_complete (lexemes c.args.tokens.now) (reverse c.in-Some.ahead.items) read p,
    )

pub returns-in-None-clause-sorts : goal.returns-in-None-clause-sorts
returns-in-None-clause-sorts c = λ a.
    let read = sym (rw c.in-None.is at c.in_ok-ahead.ensures) in
    let none = ap (λ (ts : List Sort). told ts a) c.new.ensures.items in
    (λ e. absurd cc, λ f. absurd (follow_none (lexemes c.args.tokens.now) a read f))

pub returns-in-None-clause-end : goal.returns-in-None-clause-end
returns-in-None-clause-end c =
    let read = sym (rw c.in-None.is at c.in_ok-ahead.ensures) in
    (λ e. absurd cc, λ p. absurd (end_none (lexemes c.args.tokens.now) read p))
