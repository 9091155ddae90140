use Rattle.std.proofs.Common.{arith}
use Rattle.toml.specs.View.{view}
use Rattle.vsi_lattice.proofs.ShapeLemmas.{no_pair}
use Rattle.vsi_lattice.proofs.reader.pair.Goals as goal

pub returns-then-len-ne2 : goal.returns-then-len-ne2
returns-then-len-ne2 c = no_pair (view c.args.value.now) c.in_ok-array.array.now.items
    (λ q. omega (arith, q)) c.in_ok-array.ensures
