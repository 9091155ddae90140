use Rattle.std.proofs.Common.{map, ap, ◌∙◌, rules}
use Rattle.std.specs.Prelude.{◌≢◌}
use Rattle.vsi_syntax.specs.CommandView.{declared}
use Rattle.vsi_syntax.specs.ProgramView.{whole}
use Rattle.vsi_syntax.specs.declared.lexer.LexError.TheVariants as lexer
use Rattle.vsi_syntax.specs.declared.parser.ParseError.TheVariants as parser
use Rattle.vsi_conform.proofs.Readable.{uncut, unwritten, written, failed}
use Rattle.vsi_conform.proofs.conforming.declarations.Goals as goal

pub returns-in-Err : goal.returns-in-Err
returns-in-Err c =
    let other : c.in-Err._error ≢ lexer.Memory = search rules in
    rw c.new.ensures.items (uncut c.args.text.now (λ ps short cut. other (c.in-Err.ensures.exact ps short cut)))

pub returns-in-Err-parse : goal.returns-in-Err-parse
returns-in-Err-parse c =
    let error = c.in-Err-parse._error in
    let only = rw c.deref.ensures.value at c.in-Err-parse.ensures.only in
    let other : error ≢ parser.Memory = search rules in
    rw c.new-in-Err-parse.ensures.items (unwritten c.args.text.now c.in-Ok.tokens.items c.in-Ok.ensures.cut.1
    (λ tree program writes. failed error tree other (only tree program writes)))

pub returns : goal.returns
returns c =
    let program = c.in-Ok-parse.program in
    let cut = c.in-Ok.ensures.cut in
    written c.args.text.now c.in-Ok.tokens.items (whole program) _ cut.0 cut.1 program.keeps
    (rw c.deref.ensures.value at c.in-Ok-parse.ensures.found)
    (ap (map declared) (c.in_ok-found.ensures.items_if_clones_equal (λ x y h. h)) ∙ c.globals.ensures.globals)
