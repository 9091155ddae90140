use Rattle.std.proofs.Common.{◌≡◌, ◌-◌, ◌∙◌, Some, ap, arith, drop, length, rules, subst, sym, take}
use Rattle.std.proofs.lemmas.Bool.Decides.{nat_tests}
use Rattle.vsi_lattice.specs.FileFaults.{IsRead}
use Rattle.vsi_lattice.specs.LatticeView.{names, order}
use Rattle.vsi_lattice.specs.NamePlaces.{texts}
use Rattle.vsi_documents.specs.Shapes.{HasOrder}
use Rattle.vsi_documents.proofs.First.{first_texts}
use Rattle.vsi_documents.proofs.Shaped.{shaped_by}
use Rattle.vsi_documents.proofs.shape.lattice_text.Goals as goal

pub returns-then-branch : goal.returns-then-branch
returns-then-branch c =
    let given = take (length c.args.arguments.now - 1) (drop 1 c.args.arguments.now) in
    let shape = c.in-Some.shape in
    let lattice = c.in-Ok.lattice in
    let same : c.count-2.result ≡ c.in-Some-count.count = grind (arith, nat_tests, c.if-count.false) in
    let ordered : HasOrder shape (length given) (order lattice) = search rules in
    record {
      shaped =
          record {
            shape = shape;
            given = texts given;
            named = first_texts c.args.arguments.now _ _ c.in-len1-up.len_at_least c.in-Some.ensures;
            lattice = lattice;
            read =
                subst (λ text. IsRead text (names lattice) (order lattice)) c.deref-2.ensures.value
                c.in-Ok.ensures.read;
            shaped =
                shaped_by shape given lattice
                (sym c.in-Some-count.ensures ∙ ap Some (sym same ∙ c.count-2.ensures))
                (c.in_ok-has_classes.ensures c.if-branch.true) ordered;
          };
    }
