use Rattle.std.proofs.Common.{All, ◌≡◌, ◌++◌, map, length, sym, ap, subst, ◌∙◌}
use Rattle.std.proofs.lemmas.List.{length-map}
use Rattle.vsi_lattice.specs.Order.{IsClass}
use Rattle.vsi_lattice.specs.LatticeView.{class_named, names, order}
use Rattle.vsi_lattice.specs.declared.lattice.Lattice.{Lattice}
use Rattle.vsi_scope.specs.declared.resolved.Entry.{Entry}
use Rattle.vsi_scope.specs.Program.{Resolved}
use Rattle.vsi_scope.specs.View.{command}
use Rattle.vsi_scope.specs.Resolving.{variable, all_variables}
use Rattle.vsi_syntax.specs.CommandView.{declared}
use Rattle.vsi_types.specs.Security.{Keeps}
use Rattle.vsi_compiler.specs.Classes.{global_lines, letvar_lines}
use Rattle.vsi_compiler.proofs.Compiled.{least_tree}
use Rattle.vsi_compiler.proofs.Programs.{zip_length}
use Rattle.vsi_compiler.proofs.texts.classes_text_of.Goals as goal

pub put_letvars-requires-clause-each : goal.put_letvars-requires-clause-each
put_letvars-requires-clause-each c =
    let r = c.args.source.now.resolved in
    ap length c.letvars.ensures
    ∙ ap (λ (x : Resolved). length x.letvars) c.resolved.ensures.value
    ∙ sym (length-map r.letvars (λ (e : Entry). e.class))
    ∙ zip_length Keeps _ _ c.in_ok-classes.ensures.least.0.0
    ∙ ap length (sym c.deref.ensures.value)

pub put_letvars-requires-clause-within : goal.put_letvars-requires-clause-within
put_letvars-requires-clause-within c =
    let l = c.args.source.now.lattice in
    subst (λ (x : Lattice). All (IsClass (order x)) c.deref.result.now) (sym c.lattice.ensures)
    (subst (All (IsClass (order l))) (sym c.deref.ensures.value) c.in_ok-classes.ensures.least.0.1)

pub returns-clause-lines : goal.returns-clause-lines
returns-clause-lines c =
    let s = c.args.source.now in
    let is = c.resolved.ensures.kept in
    let stands = is.stands in
    let classes = c.in_ok-classes.classes.items in
    let globals : map declared c.globals.result.now ≡ stands.tree.globals =
    c.globals.ensures stands.tree stands.reads in
    let variables : map variable c.letvars.result.now ≡ all_variables (class_named s.lattice) stands.tree.body =
    ap (map variable) (c.letvars.ensures ∙ ap (λ (x : Resolved). x.letvars) c.resolved.ensures.value)
    ∙ stands.resolves.letvars in
    let first : c.put_globals.new.out.items ≡ global_lines c.text-text.result.now (map declared c.globals.result.now) =
    c.in_ok-put_globals.ensures
    ∙ ap (λ x. x ++ global_lines c.text-text.result.now (map declared c.globals.result.now)) c.new-out.ensures.items in
    let made : c.put_letvars.new.out.items
    ≡ global_lines s.text stands.tree.globals
    ++ letvar_lines s.text (names s.lattice) (all_variables (class_named s.lattice) stands.tree.body) classes =
    cc (
      first,
      c.in_ok-put_letvars.ensures,
      globals,
      variables,
      c.lattice.ensures,
      c.text-text.ensures,
      c.deref.ensures.value,
    ) in
    record {
      tree = stands.tree;
      commands = map command s.resolved.body;
      reads = stands.reads;
      resolution = stands.resolves.resolution;
      choice = classes;
      least = least_tree (class_named s.lattice) s.text s.resolved stands (order s.lattice) c.args.profile _
          c.in_ok-classes.ensures.least;
      lines = made;
    }
