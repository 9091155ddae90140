use Rattle.std.proofs.Common.{sym, ap, subst, ◌∙◌}
use Rattle.vsi_syntax.specs.Tree.{Whole}
use Rattle.vsi_compiler.specs.Source.{Reads}
use Rattle.vsi_compiler.specs.SourceView.{Source}
use Rattle.vsi_compiler.proofs.source.Source.globals.Goals as goal

pub returns : goal.returns
returns c = λ tree reads.
    c.globals.ensures.globals ∙ ap (λ (t : Whole). t.globals)
    (c.self.invariant.1 tree (subst (λ (s : Source). Reads s.text tree) (sym c.self.view_is) reads))
