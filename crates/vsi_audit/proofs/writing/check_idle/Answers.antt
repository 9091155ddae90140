use Rattle.std.proofs.Common.{rules, ◌≡◌, ap, sym, ◌∙◌, option_map}
use Rattle.vsi_syntax.specs.declared.tree.Stmt.{the_lemmas}
use Rattle.vsi_syntax.specs.Tree as tree
use Rattle.vsi_syntax.specs.View as view
use Rattle.vsi_syntax.specs.CommandView as syntax
use Rattle.vsi_audit.proofs.Standing.{same_bytes}
use Rattle.vsi_audit.proofs.Returned.{on_both}
use Rattle.vsi_audit.proofs.TreeParts.{idle_written, is_absent}
use Rattle.vsi_audit.proofs.writing.check_idle.Goals as goal

pub returns-then-eq : goal.returns-then-eq
returns-then-eq c = λ names.
    let outer : syntax.command c.args.written.now ≡ tree.Letvar (view.named c.in-Letvar.outer)
    (option_map view.named c.in-Letvar.class) (view.tree c.in-Letvar.value) (syntax.command c.deref.result.now) =
    search (rules, the_lemmas) in
    let inner : syntax.command c.deref.result.now ≡ tree.Assign (view.named c.in-Assign.inner)
    (view.tree c.in-Assign.again) = search (rules, the_lemmas) in
    let whole = outer ∙ ap (tree.Letvar (view.named c.in-Letvar.outer) (option_map view.named c.in-Letvar.class)
    (view.tree c.in-Letvar.value)) inner in
    let bare = ap (option_map view.named) (is_absent c.in-Letvar.class (sym c.is_some.ensures ∙ c.if-is_some.false)) in
    let same = same_bytes c.in-Letvar.outer.text.now c.in-Assign.inner.text.now (sym c.eq.ensures ∙ c.if-eq.true) in
    on_both c.check_zeros.result _ _ _ (λ a b. idle_written names (syntax.command c.args.written.now)
    (view.named c.in-Letvar.outer) (view.named c.in-Assign.inner) (option_map view.named c.in-Letvar.class)
    (view.tree c.in-Letvar.value) (view.tree c.in-Assign.again) whole bare same a b)
    c.check_zeros.ensures.first c.check_zeros.ensures.second
