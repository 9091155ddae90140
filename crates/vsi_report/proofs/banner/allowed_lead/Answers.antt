use Rattle.std.proofs.Common.{◌≡◌, [], ◌∷◌, ◌∙◌, refl, rules}
use Rattle.std.specs.Prelude.{codes, decimal}
use Rattle.vsi_report.specs.Filled.{fill}
use Rattle.vsi_report.specs.Lead.{allowed_words}
use Rattle.vsi_report.proofs.banner.allowed_lead.Goals as goal

pub returns : goal.returns
returns c =
    let n = c.args.pairs in
    let filled : c.fill.new.self.text.items ≡
    fill (codes "<p class=\"lead\">All %0 flows are allowed.</p>\n") (decimal n ∷ []) =
    rw (c.new-page.ensures) at (c.in_ok-fill.ensures refl) in
    let told : fill (codes "<p class=\"lead\">All %0 flows are allowed.</p>\n") (decimal n ∷ []) ≡ allowed_words n =
    search rules in
    filled ∙ told
