use Rattle.std.proofs.Common.{◌≡◌, ◌∙◌, ℕ, List, Some, ap, rules, slice_get, subst}
use Rattle.vsi_image.specs.Fields.{globals}
use Rattle.vsi_lattice.specs.LatticeView.{class_named, names, order}
use Rattle.vsi_leak.specs.Leaks.{IsFinding, IsWanted}
use Rattle.vsi_documents.specs.Leaks.{leak_members}
use Rattle.vsi_answers.specs.Members.{object_line}
use Rattle.vsi_documents.proofs.images.leak_json.Goals as goal

pub returns-in-Leak-clause-answer : goal.returns-in-Leak-clause-answer
returns-in-Leak-clause-answer c =
    let l = c.args.lattice.now in
    let budget = c.args.wanted.now.effort.budget in
    let leak = c.in-Leak.leak in
    let told : (name : List ℕ) × (slice_get (names l) leak.class ≡ Some name)
    × (c.in_ok-text-in-Leak.text.items ≡ object_line
    (leak_members (class_named l) (order l) name budget (globals c.image-image.result.now.globals.items) leak)) =
    search rules in
    record {
      program = c.in-Ok.ensures.found;
      image = c.in-Ok.found.0;
      of_source = c.in-Ok.ensures.image;
      leak = c.in-Leak.leak;
      leaks = subst (λ f. IsFinding (class_named l) (order l) c.in-Ok.found.0 budget f) c.in-Leak.is
          c.in-Ok.ensures.leak;
      is_wanted = subst (λ f. IsWanted c.args.wanted.now f) c.in-Leak.is c.in-Ok.ensures.asked;
      name = told.0;
      at_class = told.1;
      line = told.2
          ∙ ap
          (λ image. object_line
          (leak_members (class_named l) (order l) told.0 budget (globals image.globals.items) c.in-Leak.leak))
          c.image-image.ensures.same;
    }
