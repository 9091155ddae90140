use Rattle.std.proofs.Common.{◌≡◌, Some, sym, ◌∙◌, ap}
use Rattle.vsi_syntax.specs.Words.{is_name}
use Rattle.vsi_lattice.specs.LatticeView as spec
use Rattle.vsi_lattice.specs.NamePlaces.{place_in, owned}
use Rattle.vsi_lattice.proofs.NameLemmas.{found, name_from, read_place}
use Rattle.vsi_lattice.proofs.lattice.Lattice.class_named.Goals as goal

pub returns-in-Some-clause-place : goal.returns-in-Some-clause-place
returns-in-Some-clause-place c =
    let l = c.args.self.now in
    let e : place_in (spec.names l) c.args.name.now ≡ Some c.in-Some.place =
    ap (λ kept. place_in (owned kept) c.args.name.now) (sym c.deref.ensures.value)
    ∙ sym c.in-Some.ensures.place in
    read_place (spec.names l) c.args.name.now c.in-Some.place c.at.result c.at.ensures
    (found (spec.names l) c.args.name.now c.in-Some.place e)

pub returns-in-Some-clause-named : goal.returns-in-Some-clause-named
returns-in-Some-clause-named c =
    let l = c.args.self.now in
    let e : place_in (spec.names l) c.args.name.now ≡ Some c.in-Some.place =
    ap (λ kept. place_in (owned kept) c.args.name.now) (sym c.deref.ensures.value)
    ∙ sym c.in-Some.ensures.place in
    let f = found (spec.names l) c.args.name.now c.in-Some.place e in
    ap is_name (sym f.1) ∙ name_from (spec.names l) c.in-Some.place f.0 (l.named.named c.in-Some.place)
