use Rattle.std.proofs.Common.{◌++◌, ◌∷◌, [], ◌∙◌, take, sym, ap, subst, arith}
use Rattle.std.specs.List.{All}
use Rattle.std.proofs.lemmas.List.{take_all, take_more}
use Rattle.std.proofs.lemmas.List.Elements.{All-push}
use Rattle.vsi_lattice.specs.LatticeView.{order}
use Rattle.vsi_lattice.specs.Order.{IsClass}
use Rattle.vsi_rows.proofs.compiling.are_chosen.Goals as goal

pub loop-c-preserved : goal.loop-c-preserved
loop-c-preserved c =
    let L = order c.args.lattice.now in
    let i = c.loop-c.c-index in
    let below : IsClass L c.c-item.result = omega (arith, c.if-index-count.false, c.index.ensures, c.count.ensures) in
    subst (All (IsClass L))
    (sym (take_more c.args.choice.now i c.c-item.result c.loop-c-test.true
    ∙ ap (λ x. take i c.args.choice.now ++ x ∷ []) (sym c.c-item.is)))
    (All-push (IsClass L) (take i c.args.choice.now) c.c-item.result c.loop-c.invariant below)

pub returns : goal.returns
returns c = λ e.
    let L = order c.args.lattice.now in
    subst (All (IsClass L)) (take_all c.loop-c.c-index c.args.choice.now (omega arith)) c.loop-c.invariant
