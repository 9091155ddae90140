use Rattle.std.proofs.Common.{arith, ◌≡◌, ◌+◌, ◌∙◌, ap, ℕ}
use Rattle.vsi_client.specs.Places.{line_start}
use Rattle.vsi_client.proofs.Applying.{line_start_on}
use Rattle.vsi_client.proofs.places.line_after.Goals as goal

pub returns-clause-start : goal.returns-clause-start
returns-clause-start c =
    let n = c.args.line.number in
    let more = c.in_ok-more.more in
    let sum : n + more ≡ c.args.number = omega (arith, c.in_ok-more.ensures) in
    line_start_on n more c.line_start.result c.args.line.start c.args.text.now c.after.result.now c.requires.line
    c.after.ensures.rest c.line_start.ensures.start
    ∙ ap (λ (k : ℕ). line_start k c.args.text.now) sum
