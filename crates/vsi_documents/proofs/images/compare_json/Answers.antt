use Rattle.std.proofs.Common.{◌≡◌, ◌∙◌, List, Some, ap, refl, rules, slice_get, sym, ℕ}
use Rattle.std.proofs.lemmas.Option.{same_Some}
use Rattle.serde_json.specs.Data.{Members}
use Rattle.vsi_image.specs.Fields.{globals}
use Rattle.vsi_image.specs.declared.instr.Image.{Image}
use Rattle.vsi_lattice.specs.LatticeView.{class_named, names, order}
use Rattle.vsi_documents.specs.Comparisons.{comparison_members}
use Rattle.vsi_answers.specs.Members.{object_line}
use Rattle.vsi_documents.proofs.images.compare_json.Goals as goal

pub returns-in_ok-text-in-Ok : goal.returns-in_ok-text-in-Ok
returns-in_ok-text-in-Ok c =
    let l = c.args.lattice.now in
    let compares = c.in-Ok.ensures.compares in
    let name = compares.name in
    let members : List ℕ → Image → Members = λ n image.
    comparison_members (class_named l) (order l) n c.args.class (globals image.globals.items) c.args.first.now
    c.args.second.now c.args.budget c.in-Ok.found in
    let told : (n : List ℕ) × (slice_get (names l) c.args.class ≡ Some n)
    × (c.in_ok-text-in-Ok.text.items ≡ object_line (members n c.image-image.result.now)) = search rules in
    record {
      answer = record {
        found = c.in-Ok.found;
        compares = compares;
        says = refl;
        line = told.2
            ∙ ap (λ n. object_line (members n c.image-image.result.now))
            (same_Some told.0 name (sym told.1 ∙ compares.named))
            ∙ ap (λ image. object_line (members name image)) c.image-image.ensures.same;
      };
    }
