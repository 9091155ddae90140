use Rattle.std.proofs.Common.{◌≡◌, [], length, map, Some, sym, ap, subst, ◌∙◌, arith}
use Rattle.std.proofs.lemmas.Result.{err_from_is_err_and}
use Rattle.std.proofs.lemmas.Grind.{common_steps}
use Rattle.std.proofs.lemmas.List.{nil_from_length}
use Rattle.vsi_syntax.specs.Tree.{write_program, Whole}
use Rattle.vsi_syntax.specs.View.{lexemes}
use Rattle.vsi_syntax.specs.CommandView.{body_of, whole_of, declared}
use Rattle.vsi_syntax.specs.Globals.{program_of}
use Rattle.vsi_syntax.specs.Commands.{sequence_of, parse_command}
use Rattle.vsi_syntax.proofs.TokenWords.{program_says}
use Rattle.vsi_syntax.proofs.Reading.{fails_along}
use Rattle.vsi_syntax.proofs.Globals.{good, all_written, fails_only, same_program, no_globals, no_body, program_is}
use Rattle.vsi_syntax.proofs.parser.whole.program.Goals as goal

pub returns-in_err-declared-clause-only : goal.returns-in_err-declared-clause-only
returns-in_err-declared-clause-only c = λ p good e.
    let q = err_from_is_err_and c.from_residual.result c.from_residual.ensures.1 in
    let ws = lexemes c.args.tokens.now in
    rw (q.1, q.2)
    (fails_only c.in_err-declared.field-0.0 ws p
    (fails_along c.in_err-declared.field-0.0 _ (program_of ws) (no_globals ws) c.in_err-declared.ensures) good e)

pub returns-in_err-body-clause-only : goal.returns-in_err-body-clause-only
returns-in_err-body-clause-only c = λ p good e.
    let q = err_from_is_err_and c.from_residual-in_err-body.result c.from_residual-in_err-body.ensures.1 in
    let ws = lexemes c.args.tokens.now in
    rw (q.1, q.2)
    (fails_only c.in_err-body.field-0.0 ws p
    (fails_along c.in_err-body.field-0.0 _ (program_of ws)
    (no_body ws (lexemes c.in_ok-declared.rest.now) (map declared c.in_ok-declared.declared.items)
    c.in_ok-declared.ensures) c.in_err-body.ensures) good e)

pub returns-then-not-is_empty-clause-only : goal.returns-then-not-is_empty-clause-only
returns-then-not-is_empty-clause-only c = λ p good e.
    let ws = lexemes c.args.tokens.now in
    let read =
    program_is ws (lexemes c.in_ok-declared.rest.now) (lexemes c.in_ok-body.rest.now)
    (map declared c.in_ok-declared.declared.items) (body_of c.in_ok-body.body.items) c.in_ok-declared.ensures
    c.in_ok-body.ensures in
    let s = same_program ws p _ (lexemes c.in_ok-body.rest.now) read good e in
    let len : length (lexemes c.in_ok-body.rest.now) ≡ 0 = ap length s.1 in
    absurd (grind (arith, common_steps))

pub new-requires-clause-keeps : goal.new-requires-clause-keeps
new-requires-clause-keeps c =
    good (lexemes c.in_ok-declared.rest.now) (body_of c.in_ok-body.body.items) (lexemes c.in_ok-body.rest.now)
    c.in_ok-body.ensures

pub returns-clause-found : goal.returns-clause-found
returns-clause-found c =
    let none : c.in_ok-body.rest.now ≡ [] = nil_from_length c.in_ok-body.rest.now (grind (arith, common_steps)) in
    let read =
    subst (λ r. sequence_of (parse_command 200) (lexemes c.in_ok-declared.rest.now)
    ≡ Some (body_of c.in_ok-body.body.items, lexemes r)) none c.in_ok-body.ensures in
    ap write_program c.new.ensures ∙ all_written (lexemes c.args.tokens.now) (lexemes c.in_ok-declared.rest.now)
    (map declared c.in_ok-declared.declared.items) (body_of c.in_ok-body.body.items) c.in_ok-declared.ensures read

pub new-requires-clause-spelled : goal.new-requires-clause-spelled
new-requires-clause-spelled c =
    let none : c.in_ok-body.rest.now ≡ [] = nil_from_length c.in_ok-body.rest.now (grind (arith, common_steps)) in
    let read =
    subst (λ r. sequence_of (parse_command 200) (lexemes c.in_ok-declared.rest.now)
    ≡ Some (body_of c.in_ok-body.body.items, lexemes r)) none c.in_ok-body.ensures in
    program_says (whole_of c.in_ok-declared.declared.items c.in_ok-body.body.items) c.args.tokens.now
    (all_written (lexemes c.args.tokens.now) (lexemes c.in_ok-declared.rest.now)
    (map declared c.in_ok-declared.declared.items) (body_of c.in_ok-body.body.items) c.in_ok-declared.ensures
    read)

pub returns-clause-only : goal.returns-clause-only
returns-clause-only c = λ p good e.
    let ws = lexemes c.args.tokens.now in
    let read =
    program_is ws (lexemes c.in_ok-declared.rest.now) (lexemes c.in_ok-body.rest.now)
    (map declared c.in_ok-declared.declared.items) (body_of c.in_ok-body.body.items) c.in_ok-declared.ensures
    c.in_ok-body.ensures in
    let s = same_program ws p _ (lexemes c.in_ok-body.rest.now) read good e in
    ap (λ (x : Whole). Some x) (s.0 ∙ sym c.new.ensures)
