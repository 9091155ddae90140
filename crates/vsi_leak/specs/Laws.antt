-- The property that a leak refutes.
use Rattle.std.specs.Prelude.{◌≡◌, ℕ}
use Rattle.vsi_image.specs.declared.instr.Image.{Image}
use Rattle.vsi_lattice.specs.Order.{Lattice}
use Rattle.vsi_lattice.specs.Known.{Known}
use Rattle.vsi_compiler.specs.Observation.{IsNoninterfering}
use Rattle.vsi_leak.specs.declared.check.Leak.{Leak}
use Rattle.vsi_leak.specs.declared.check.Sign.TheVariants.{Words}
use Rattle.vsi_leak.specs.Leaks.{IsLeak}

-- An image with a leak by words lets information flow where it may not.
abbrev pub LeakRefutes : Type 0
LeakRefutes =
    (known : Known) (L : Lattice) (image : Image) (budget : ℕ) (leak : Leak) → IsLeak known L image budget leak →
    leak.sign ≡ Words → ¬ (IsNoninterfering known L image)
