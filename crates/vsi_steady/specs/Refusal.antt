-- The meaning of a refusal for an image.
use Rattle.std.specs.Prelude.{◌≡◌, Some}
use Rattle.vsi_lattice.specs.Order.{Lattice}
use Rattle.vsi_image.specs.declared.instr.Image.{Image}
use Rattle.vsi_image.specs.Fields.{globals}
use Rattle.vsi_lattice.specs.Known.{Known}
use Rattle.vsi_store.specs.View.{first_unknown}
use Rattle.vsi_steady.specs.Steady.{IsSteady}
use Rattle.vsi_steady.specs.declared.check.SteadyError.{SteadyError}
use Rattle.vsi_steady.specs.declared.check.SteadyError.TheVariants.{UnknownClass, Flow, Memory}

-- A refusal for a class name gives the first one that the lattice lacks; a refusal for a flow means that the image
-- isn't steady.
abbrev pub Refuses : Known → Lattice → Image → SteadyError → Type 0
Refuses known L image (UnknownClass i) = first_unknown known 0 (globals image.globals.items) ≡ Some i
Refuses known L image (Flow place) = ¬ (IsSteady known L image)
Refuses known L image Memory = Unit {0}
