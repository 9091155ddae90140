use Rattle.std.proofs.Common.{◌≡◌, ◌≤◌, ◌∙◌, length, map, get_or, ap, sym, subst, arith}
use Rattle.std.specs.List.{flat_map}
use Rattle.std.proofs.lemmas.List.{take_all}
use Rattle.std.proofs.lemmas.List.Elements.{All-get_or}
use Rattle.vsi_lattice.specs.LatticeView.{order}
use Rattle.vsi_lattice.specs.Order.{IsClass}
use Rattle.vsi_syntax.specs.CommandView.{declared}
use Rattle.vsi_compiler.proofs.Held.{globals_at, declared_at}
use Rattle.vsi_flows.specs.Lines.{raise_line}
use Rattle.vsi_flows.specs.declared.least.Raise.{Raise}
use Rattle.vsi_flows.proofs.AnswerLemmas.{raise_text}
use Rattle.vsi_flows.proofs.least.lines_of.Goals as goal

pub put_raise-requires-clause-globals : goal.put_raise-requires-clause-globals
put_raise-requires-clause-globals c =
    globals_at _ c.resolved-program.ensures.kept _ _ c.lattice-lattice.ensures c.resolved-program.ensures.value

pub put_raise-requires-clause-declared : goal.put_raise-requires-clause-declared
put_raise-requires-clause-declared c =
    declared_at _ c.resolved-program.ensures.kept _ _ c.lattice-lattice.ensures c.resolved-program.ensures.value

pub put_raise-requires-clause-new : goal.put_raise-requires-clause-new
put_raise-requires-clause-new c =
    let raises = c.args.raises.now in
    let L = order c.args.source.now.lattice in
    let raise = c.raise-item.result in
    subst (λ l. IsClass (order l) raise.new) (sym c.lattice-lattice.ensures)
    (subst (λ (r : Raise). IsClass L r.new) (sym c.raise-item.is)
    (All-get_or (λ (r : Raise). IsClass L r.new) raises c.loop-raise.raise-index raise c.loop-raise-test.true c.requires))

pub returns : goal.returns
returns c = λ P least.
    let raises = c.args.raises.now in
    let line = raise_line c.lattice-lattice.result.now c.text-text.result.now
    (map declared c.globals-globals.result.now) c.resolved-program.result.now in
    let le : length raises ≤ c.loop-raise.raise-index = omega arith in
    raise_text c.args.source.now c.resolved-program.ensures.kept P _ _ _ _ raises c.loop-raise.lines.items
    c.lattice-lattice.ensures c.text-text.ensures c.resolved-program.ensures.value c.globals-globals.ensures least
    (c.loop-raise.invariant ∙ ap (flat_map line) (take_all c.loop-raise.raise-index raises le))
