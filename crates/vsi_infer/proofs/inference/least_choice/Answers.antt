use Rattle.std.proofs.Common.{◌≡◌, ◌++◌, ◌<◌, ℕ, List, take, drop, length, arith, sym, subst, ◌∙◌}
use Rattle.vsi_infer.specs.Choices.{IsLeastOrderedChoice, IsOutOfOrder, IsInOrder}
use Rattle.vsi_infer.proofs.OrderLemmas.{order_laws}
use Rattle.vsi_infer.proofs.WorklistLemmas.{start_facts, is_least, has_bad, written_back}
use Rattle.vsi_infer.proofs.inference.least_choice.Goals as goal

pub settle-requires-clause-choice : goal.settle-requires-clause-choice
settle-requires-clause-choice g c =
    (start_facts _ _ _ _ (order_laws _ (g.met.C.Classes.laws c.args.lattice.now)) _ _ c.requires.program
    c.deref_mut.result.now (c.deref_mut.ensures.value ∙ c.in_ok-choice.ensures)).0

pub settle-requires-clause-justified : goal.settle-requires-clause-justified
settle-requires-clause-justified g c =
    (start_facts _ _ _ _ (order_laws _ (g.met.C.Classes.laws c.args.lattice.now)) _ _ c.requires.program
    c.deref_mut.result.now (c.deref_mut.ensures.value ∙ c.in_ok-choice.ensures)).1

pub returns-in-None : goal.returns-in-None
returns-in-None g c =
    let size = (g.C.Classes.lattice c.args.lattice.now).count in
    let leq = (g.C.Classes.lattice c.args.lattice.now).leq in
    let flows = g.F.Flow.flows c.args.flow.now in
    let new : List ℕ = c.settle.new.choice in
    let whole : take c.in_ok-choice.choice.len (new ++ drop (length new) c.in_ok-choice.choice.items) ≡ new =
    written_back _ _ new (omega arith) (omega arith) in
    let facts = c.in_ok-settle.ensures in
    let order = subst (λ (s : List ℕ). (a b : ℕ) → a < length s → b < length s → IsInOrder leq flows s a b)
    (c.deref.ensures.value ∙ whole) c.in-None.ensures.none in
    subst (IsLeastOrderedChoice size leq flows c.args.declared.now) (sym whole)
    (is_least size leq _ _ (order_laws _ (g.met.C.Classes.laws c.args.lattice.now)) flows _ c.requires.program new
    facts.choice facts.justified order)

pub returns-in-Some : goal.returns-in-Some
returns-in-Some g c =
    let size = (g.C.Classes.lattice c.args.lattice.now).count in
    let leq = (g.C.Classes.lattice c.args.lattice.now).leq in
    let flows = g.F.Flow.flows c.args.flow.now in
    let new : List ℕ = c.settle.new.choice in
    let whole : take c.in_ok-choice.choice.len (new ++ drop (length new) c.in_ok-choice.choice.items) ≡ new =
    written_back _ _ new (omega arith) (omega arith) in
    let facts = c.in_ok-settle.ensures in
    let broken = subst (λ (s : List ℕ). IsOutOfOrder leq flows s c.in-Some.field-0.0 c.in-Some.field-0.1)
    (c.deref.ensures.value ∙ whole) c.in-Some.ensures.some in
    has_bad size leq _ _ (order_laws _ (g.met.C.Classes.laws c.args.lattice.now)) flows _ c.requires.program new
    facts.choice facts.justified facts.raised c.in-Some.field-0.0 c.in-Some.field-0.1 broken
