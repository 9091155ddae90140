use Rattle.std.proofs.Common.{codes, map, refl, ap, ◌∙◌}
use Rattle.serde_json.specs.View.{view}
use Rattle.vsi_compiler.proofs.Held.{of_parts, globals_at, declared_at}
use Rattle.vsi_flows.proofs.TextLemmas.{decides}
use Rattle.vsi_documents.specs.Flows.{are_allowed}
use Rattle.vsi_documents.specs.Objects.{verdict_line}
use Rattle.vsi_documents.proofs.texts.flows_json.Goals as goal

pub flows_in-requires-clause-globals : goal.flows_in-requires-clause-globals
flows_in-requires-clause-globals c =
    globals_at _ c.resolved-resolved.ensures.kept _ _ c.lattice-lattice.ensures
    c.resolved-resolved.ensures.value

pub flows_in-requires-clause-declared : goal.flows_in-requires-clause-declared
flows_in-requires-clause-declared c =
    declared_at _ c.resolved-resolved.ensures.kept _ _ c.lattice-lattice.ensures
    c.resolved-resolved.ensures.value

pub pair_objects-requires-clause-globals : goal.pair_objects-requires-clause-globals
pair_objects-requires-clause-globals c =
    globals_at _ c.resolved-resolved.ensures.kept _ _ c.lattice-lattice.ensures
    c.resolved-resolved.ensures.value

pub pair_objects-requires-clause-declared : goal.pair_objects-requires-clause-declared
pair_objects-requires-clause-declared c =
    declared_at _ c.resolved-resolved.ensures.kept _ _ c.lattice-lattice.ensures
    c.resolved-resolved.ensures.value

pub returns-in-Ok : goal.returns-in-Ok
returns-in-Ok c =
    let s = c.in-Ok.source in
    let l = c.lattice-lattice.result.now in
    let r = c.resolved-resolved.result.now in
    let is = of_parts s c.resolved-resolved.ensures.kept l s.text r c.lattice-lattice.ensures refl
    c.resolved-resolved.ensures.value in
    record {
      answer = rw (← c.in-Ok.ensures.lattice, ← c.in-Ok.ensures.text, ← c.lattice-lattice.ensures) (record {
        resolved = r;
        stands = is.stands;
        pairs = c.in-Ok-flows_in.pairs.items;
        table = c.in-Ok-flows_in.ensures.table;
        objects = map view c.in_ok-objects-in-Ok.objects;
        line = c.in_ok-text-in-Ok.ensures
            ∙ ap (λ b. verdict_line b (codes "flows") (map view c.in_ok-objects-in-Ok.objects))
            (c.are_allowed.ensures ∙ ap are_allowed c.deref-in-Ok.ensures.value);
        verdict = decides l c.args.profile s.text r is.stands c.in-Ok-flows_in.pairs.items
            c.in-Ok-flows_in.ensures.verdict;
      });
    }
