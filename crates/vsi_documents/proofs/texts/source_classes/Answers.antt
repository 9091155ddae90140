use Rattle.std.proofs.Common.{◌≡◌, ◌<◌, All, ◌∙◌, ap, length, map, subst, sym, arith}
use Rattle.std.proofs.lemmas.List.{length-map}
use Rattle.std.proofs.lemmas.List.Elements.{All-get_or}
use Rattle.serde_json.specs.View.{view}
use Rattle.vsi_lattice.specs.LatticeView.{order}
use Rattle.vsi_lattice.specs.Order.{IsClass}
use Rattle.vsi_lattice.specs.declared.lattice.Lattice.{Lattice}
use Rattle.vsi_scope.specs.Program.{Resolved}
use Rattle.vsi_scope.specs.declared.resolved.Entry.{Entry}
use Rattle.vsi_types.specs.Security.{Keeps}
use Rattle.vsi_compiler.proofs.Programs.{zip_length}
use Rattle.vsi_documents.proofs.texts.source_classes.Goals as goal

pub index-requires : goal.index-requires
index-requires c =
    let letvars = c.args.source.now.resolved.letvars in
    let each : length c.letvars-letvars.result.now ≡ length c.in-Ok.classes.items =
    ap length (c.letvars-letvars.ensures ∙ ap (λ (x : Resolved). x.letvars) c.resolved.ensures.value)
    ∙ sym (length-map letvars (λ (e : Entry). e.class)) ∙ zip_length Keeps _ _ c.in-Ok.ensures.least.0.0 in
    omega (arith, each, c.loop-i-test.true)

pub name-class-requires : goal.name-class-requires
name-class-requires c =
    let classes = c.in-Ok.classes.items in
    let L = order c.lattice-lattice.result.now in
    let letvars = c.args.source.now.resolved.letvars in
    let each : length c.letvars-letvars.result.now ≡ length classes =
    ap length (c.letvars-letvars.ensures ∙ ap (λ (x : Resolved). x.letvars) c.resolved.ensures.value)
    ∙ sym (length-map letvars (λ (e : Entry). e.class)) ∙ zip_length Keeps _ _ c.in-Ok.ensures.least.0.0 in
    let below : c.loop-i.i < length classes = omega (arith, each, c.loop-i-test.true) in
    let within : All (IsClass L) classes =
    subst (λ (x : Lattice). All (IsClass (order x)) classes) (sym c.lattice-lattice.ensures)
    c.in-Ok.ensures.least.0.1 in
    subst (IsClass L) (sym c.index.ensures) (All-get_or (IsClass L) classes c.loop-i.i c.index.result.now below within)

pub returns-in-Ok : goal.returns-in-Ok
returns-in-Ok c =
    record {
      accepted = c.in-Ok.ensures.accepted;
      objects = map view c.loop-i.objects;
      line = c.in_ok-text-in-Ok.ensures;
    }
