use Rattle.std.proofs.Common.{All, ◌∙◌, ◌++◌, ℕ, ap, sym, subst}
use Rattle.std.specs.List.{flat_map}
use Rattle.vsi_types.specs.Security.{program, steps_of}
use Rattle.vsi_infer.specs.Explanation.{step_line}
use Rattle.vsi_infer.specs.Flowing.{size_of}
use Rattle.vsi_infer.specs.Lines.{IsMarkOf}
use Rattle.vsi_compiler.proofs.Held.{globals_at, declared_at}
use Rattle.vsi_flows.specs.Text.{AddsLines}
use Rattle.vsi_flows.specs.Walks.{IsFound}
use Rattle.vsi_flows.proofs.WalkLemmas.{adds_lines}
use Rattle.vsi_flows.proofs.text.Walks.put_lines.Goals as goal

pub put_pair-requires-clause-globals : goal.put_pair-requires-clause-globals
put_pair-requires-clause-globals c =
    globals_at _ c.resolved-resolved.ensures.kept _ _ c.lattice-lattice.ensures c.resolved-resolved.ensures.value

pub put_pair-requires-clause-declared : goal.put_pair-requires-clause-declared
put_pair-requires-clause-declared c =
    declared_at _ c.resolved-resolved.ensures.kept _ _ c.lattice-lattice.ensures c.resolved-resolved.ensures.value

pub walk_of-requires : goal.walk_of-requires
walk_of-requires c =
    let w = c.args.self.now in
    let t = w.table.now in
    let P = t.profile in
    let n = c.declarations-last.result in
    let pair = c.index-pair.result.now in
    let there : IsFound (steps_of P (program t.source.now.resolved)) (size_of (program t.source.now.resolved))
    w.found.items pair =
    subst (IsFound _ _ w.found.items) (sym c.index-pair.ensures) (c.requires.walks.finds c.args.number pair c.requires.number) in
    subst (λ f. IsFound (steps_of P (program c.resolved-resolved.result.now)) n f pair) (sym c.deref.ensures.value)
    (subst (λ (m : ℕ). IsFound (steps_of P (program c.resolved-resolved.result.now)) m w.found.items pair)
    (sym c.declarations-last.ensures.count)
    (subst (λ r. IsFound (steps_of P (program r)) (size_of (program r)) w.found.items pair)
    (sym c.resolved-resolved.ensures.value) there))

pub put_steps-requires : goal.put_steps-requires
put_steps-requires c =
    subst (λ text. All (IsMarkOf text) c.deref-2.result.now) (sym c.text-source_text.ensures)
    (subst (All (IsMarkOf c.args.self.now.table.now.source.now.text)) (sym c.deref-2.ensures.value)
    c.requires.walks.marked)

pub returns : goal.returns
returns c =
    let t = c.args.self.now.table.now in
    let s = t.source.now in
    let l = c.lattice-lattice.result.now in
    let x = c.text-source_text.result.now in
    let r = c.resolved-resolved.result.now in
    let n = c.args.number in
    let old = c.args.text.now.items in
    let new = c.put_steps.new.text.items in
    let adds : AddsLines l (steps_of t.profile (program r)) x r t.pairs.items n old new =
    adds_lines l (steps_of t.profile (program r)) x r t.pairs.items n c.index-pair.result.now c.in_ok-walk.walk.items old
    c.put_pair.new.text.items new c.requires.number c.index-pair.ensures c.in_ok-walk.ensures c.in_ok-put_pair.ensures
    (c.in_ok-put_steps.ensures ∙ ap (λ w. c.put_pair.new.text.items ++ flat_map (step_line x r) w)
    c.deref-3.ensures.value) in
    subst (λ m. AddsLines m (steps_of t.profile (program s.resolved)) s.text s.resolved t.pairs.items n old new)
    c.lattice-lattice.ensures
    (subst (λ y. AddsLines l (steps_of t.profile (program s.resolved)) y s.resolved t.pairs.items n old new)
    c.text-source_text.ensures
    (subst (λ q. AddsLines l (steps_of t.profile (program q)) x q t.pairs.items n old new)
    c.resolved-resolved.ensures.value adds))
