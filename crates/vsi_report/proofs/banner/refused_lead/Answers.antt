use Rattle.std.proofs.Common.{◌++◌, ◌∙◌, ap, refl}
use Rattle.vsi_report.specs.Lead.{counts_words, ends_words}
use Rattle.vsi_report.proofs.banner.refused_lead.Goals as goal

pub returns : goal.returns
returns c =
    let l = c.args.lead.now in
    let counts = rw (c.number_word.ensures, c.number_word-2.ensures) at (c.in_ok-fill.ensures refl) in
    counts
    ∙ ap (λ x. x ++ counts_words l) (c.in_ok-put_ends.ensures ∙ ap (λ x. x ++ ends_words l) c.new-page.ensures)
