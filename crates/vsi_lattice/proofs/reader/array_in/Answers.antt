use Rattle.std.proofs.Common.{ap, ◌∙◌, Some, option_and_then}
use Rattle.toml.specs.Data.{as_array}
use Rattle.toml.specs.View.{items_view}
use Rattle.vsi_lattice.proofs.reader.array_in.Goals as goal

pub returns : goal.returns
returns c =
    ap (λ l. Some (items_view l)) c.as_slice.ensures.value ∙ c.in-Some-as_array.ensures
    ∙ ap (option_and_then as_array) c.in-Some.ensures
