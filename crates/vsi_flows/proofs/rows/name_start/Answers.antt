use Rattle.std.proofs.Common.{◌≡◌, ◌∙◌, ℕ, map, ap}
use Rattle.vsi_syntax.specs.CommandView.{declared}
use Rattle.vsi_flows.specs.Lines.{name_start}
use Rattle.vsi_flows.proofs.NameLemmas.{global_start}
use Rattle.vsi_flows.proofs.rows.name_start.Goals as goal

pub returns-then-number-globals : goal.returns-then-number-globals
returns-then-number-globals c =
    let v = c.variable.inside.0 in
    let same : v ≡ c.args.variable = cc (c.variable.view_is) in
    global_start c.args.globals.now c.args.letvars.now v _ c.if-number-globals.true
    ∙ ap (λ (w : ℕ). name_start (map declared c.args.globals.now) c.args.letvars.now w) same
