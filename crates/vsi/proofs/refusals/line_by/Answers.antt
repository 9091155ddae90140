use Rattle.std.proofs.Common.{◌≡◌, ◌∙◌, ◌++◌, drop, length, subst}
use Rattle.std.proofs.lemmas.Bool.Decides.{Decides-eqb}
use Rattle.std.proofs.lemmas.Slice.Eq.{starts_is}
use Rattle.vsi_answers.specs.View.{diagnostic_of}
use Rattle.vsi.proofs.refusals.line_by.Goals as goal

pub returns : goal.returns
returns c =
    let text = c.args.text.now in
    let line = c.as_slice.result.now in
    record {
      diagnostic = diagnostic_of c.in-Some.diagnostic;
      by = c.in-Some.ensures;
      more = drop (length line) text;
      begins = subst (λ l. text ≡ l ++ drop (length line) text) (c.as_slice.ensures.value ∙ c.in_ok-fixed.ensures.line)
          ((starts_is Decides-eqb text line c.starts_with.result c.starts_with.ensures.value).0
          c.if-not-starts_with.false);
      is = c.in_ok-line.ensures.line;
    }
