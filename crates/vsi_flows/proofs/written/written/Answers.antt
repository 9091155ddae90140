use Rattle.std.proofs.Common.{◌≡◌, ◌∙◌, sym, subst}
use Rattle.std.specs.Prelude.{IfOk}
use Rattle.vsi_lattice.specs.LatticeView.{order}
use Rattle.vsi_compiler.specs.Source.{Reads}
use Rattle.vsi_flows.specs.Answers.{HasClassesIn}
use Rattle.vsi_flows.specs.Places.{with_raises, written_places}
use Rattle.vsi_flows.proofs.written.written.Goals as goal

pub spliced-requires : goal.spliced-requires
spliced-requires c = subst (λ l. HasClassesIn (order l) c.args.raises.now) (sym c.lattice-lattice.ensures) c.requires

pub returns : goal.returns
returns c = λ tree reads.
    let s = c.args.source.now in
    let raises = c.args.raises.now in
    let l = c.lattice-lattice.result.now in
    let text = c.text-text.result.now in
    let places : c.deref.result.now ≡ written_places tree =
    c.deref.ensures.value ∙ c.in_ok-places.ensures tree (subst (λ t. Reads t tree) (sym c.text-text.ensures) reads) in
    subst (λ x. IfOk c.spliced.result (λ out. out.items ≡ with_raises x (written_places tree) s.text 0 raises))
    c.lattice-lattice.ensures
    (subst (λ t. IfOk c.spliced.result (λ out. out.items ≡ with_raises l (written_places tree) t 0 raises))
    c.text-text.ensures
    (subst (λ ps. IfOk c.spliced.result (λ out. out.items ≡ with_raises l ps text 0 raises)) places c.spliced.ensures))
