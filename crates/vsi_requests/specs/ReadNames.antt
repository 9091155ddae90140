-- The boundary with names that have been read.
use Rattle.std.specs.Prelude.{ℕ, List, Option, option_map}
use Rattle.std.specs.Borrow.{Bor}
use Rattle.std.specs.Global.{Vec}
use Rattle.vsi_lattice.specs.NamePlaces.{texts}
use Rattle.vsi_drive.specs.Boundary.{Boundary}
use Rattle.vsi_requests.specs.declared.boundaries.Names.{Names}

-- The names of a list that has been read.
abbrev pub read_names : Option (Vec (Bor (List ℕ))) → Option (List (List ℕ))
read_names list = option_map (λ names. texts names.items) list

-- The boundary with names that have been read.
abbrev pub boundary_in : Names → Boundary
boundary_in names =
    record {
      inputs = read_names names.inputs;
      outputs = read_names names.outputs;
      released = texts names.released.items;
    }
