use Rattle.std.proofs.Common.{subst, sym, true}
use Rattle.vsi_scope.specs.View.{expression}
use Rattle.vsi_types.specs.Steps.{reads, endings}
use Rattle.vsi_types.specs.Checking.{StepsJudged}
use Rattle.vsi_types.specs.Security.{class_of}
use Rattle.vsi_types.proofs.Judging.{endings_judged}
use Rattle.vsi_types.proofs.walker.check_loop.Goals as goal

pub returns-in-Strict : goal.returns-in-Strict
returns-in-Strict g c =
    let L = g.C.Classes.lattice c.args.lattice.now in
    let classes = class_of L c.args.table.now in
    let rs = reads c.args.scope.now (expression c.args.guard.now) in
    subst (λ P. StepsJudged L classes (endings P true rs) c.check_reads.result) (sym c.in-Strict.is)
    (endings_judged L classes rs c.check_reads.result c.check_reads.ensures)
