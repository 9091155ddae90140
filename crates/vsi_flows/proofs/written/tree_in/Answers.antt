use Rattle.std.proofs.Common.{◌∙◌, ap, sym}
use Rattle.vsi_syntax.specs.ProgramView.{whole}
use Rattle.vsi_syntax.specs.View.{lexemes}
use Rattle.vsi_compiler.proofs.Sources.{found_is, reads_tokens}
use Rattle.vsi_flows.proofs.written.tree_in.Goals as goal

pub returns-in-Ok-parse : goal.returns-in-Ok-parse
returns-in-Ok-parse c = λ tree reads.
    found_is tree (whole c.in-Ok-parse.program) (c.in-Ok-parse.ensures.only tree reads.program
    (reads_tokens c.args.text.now c.in-Ok.tokens.items tree c.in-Ok.ensures.cut.1 reads
    ∙ ap lexemes (sym c.deref.ensures.value)))
