use Rattle.std.proofs.Common.{◌<◌, sym, ◌∙◌, ap, length, arith}
use Rattle.vsi_lattice.specs.LatticeView as spec
use Rattle.vsi_lattice.specs.NamePlaces.{place_in}
use Rattle.vsi_lattice.proofs.NameLemmas.{found_at_own, own_name}
use Rattle.vsi_lattice.proofs.lattice.Lattice.name.Goals as goal

pub returns-clause-class : goal.returns-clause-class
returns-clause-class c =
    let l = c.args.self.now in
    let e = own_name l.names.items c.index.result c.args.class c.index-2.result.now
    c.as_bytes.result.now
    c.index.ensures c.index-2.ensures c.as_bytes.ensures.value
    (omega (arith, l.named.one_each, c.requires)) in
    let lt : c.args.class < length (spec.names l) = omega (arith, l.named.one_each, c.requires) in
    ap (place_in (spec.names l)) (sym e) ∙ found_at_own (spec.names l) c.args.class lt
    (λ j less same. l.named.distinct c.args.class (j, less, lt, same))
