use Rattle.std.proofs.Common.{sym, ap, ◌∙◌}
use Rattle.vsi_scope.specs.View.{expression}
use Rattle.vsi_opt.specs.Liveness.{joined, reads}
use Rattle.vsi_opt.specs.Ranges.{bits}
use Rattle.vsi_opt.proofs.ReadingCases.{joined_one, joined_twice}
use Rattle.vsi_opt.proofs.liveness.+add_reads.Goals as goal

pub returns-in-Loc : goal.returns-in-Loc
returns-in-Loc t c =
    c.insert.ensures ∙ sym (joined_one (bits c.args.live.now) c.in-Loc.l c.in-Loc.field-1)
    ∙ ap (λ e. joined (bits c.args.live.now) (reads (expression e))) (sym c.in-Loc.is)

pub returns-in-Op : goal.returns-in-Op
returns-in-Op t c =
    let old = bits c.args.live.now in
    joined_twice old (reads (expression c.in-Op.a.value)) (reads (expression c.in-Op.b.value))
    (bits c.add_reads.new.live)
    (bits c.add_reads-in-Op.new.live)
    (c.add_reads.ensures ∙ ap (λ x. joined old (reads (expression x))) c.deref.ensures)
    (c.add_reads-in-Op.ensures ∙ ap (λ x. joined (bits c.add_reads.new.live) (reads (expression x)))
    c.deref-in-Op.ensures)
    ∙ ap (λ e. joined old (reads (expression e))) (sym c.in-Op.is)
