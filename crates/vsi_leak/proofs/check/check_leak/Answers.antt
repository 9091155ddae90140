use Rattle.std.proofs.Common.{rules, ◌≡◌, ◌↔◌, IsTrue, false, subst}
use Rattle.std.proofs.lemmas.Bool.{iff_false}
use Rattle.vsi_image.specs.declared.instr.Image.{Image}
use Rattle.vsi_lattice.specs.LatticeView.{class_named, order}
use Rattle.vsi_leak.specs.Leaks.{TellsApart}
use Rattle.vsi_leak.proofs.Exact.{not_apart}
use Rattle.vsi_leak.proofs.check.check_leak.Goals as goal

pub returns-then-not-tells_apart-clause-none : goal.returns-then-not-tells_apart-clause-none
returns-then-not-tells_apart-clause-none c =
    let known = class_named c.args.lattice.now in
    let L = order c.args.lattice.now in
    let one = c.in_ok-one.one.ending in
    let other = c.in_ok-other.other.ending in
    let told : IsTrue c.tells_apart.result ↔ TellsApart known L c.args.verified.now c.args.class c.args.sign one other =
    subst (λ (image : Image).
    IsTrue c.tells_apart.result ↔ TellsApart known L image c.args.class c.args.sign one other)
    c.image-image.ensures.same c.tells_apart.ensures in
    let untold : c.tells_apart.result ≡ false = search rules in
    not_apart known L c.args.verified.now c.args.budget c.args.sign c.args.class c.args.stores.0.now
    c.args.stores.1.now one other c.in_ok-one.ensures.ending c.in_ok-other.ensures.ending
    (λ t. iff_false told untold t)
