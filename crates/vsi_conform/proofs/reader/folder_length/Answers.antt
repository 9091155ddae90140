use Rattle.std.proofs.Common.{◌≡◌, ◌+◌, ◌-◌, arith, take, ap, ◌∙◌, ne_eqb}
use Rattle.vsi_conform.specs.Beside.{folder}
use Rattle.vsi_conform.proofs.Paths.{folder_found, folder_left}
use Rattle.vsi_conform.proofs.reader.folder_length.Goals as goal

pub returns-then-path-i-eq47-clause-folder : goal.returns-then-path-i-eq47-clause-folder
returns-then-path-i-eq47-clause-folder c =
    let step : c.loop-i.i ≡ c.loop-i.i - 1 + 1 = omega arith in
    folder_found c.args.path.now (c.loop-i.i - 1) (omega arith) c.if-path-i-eq47.true
    (c.loop-i.invariant ∙ ap (λ n. folder (take n c.args.path.now)) step)

pub loop-i-preserved : goal.loop-i-preserved
loop-i-preserved c =
    let step : c.loop-i.i ≡ c.loop-i.i - 1 + 1 = omega arith in
    folder_left c.args.path.now (c.loop-i.i - 1) (omega arith) (ne_eqb _ 47 c.if-path-i-eq47.false)
    (c.loop-i.invariant ∙ ap (λ n. folder (take n c.args.path.now)) step)
