-- The boundary that a request gives a controller or a view.
use Rattle.std.specs.Prelude.{ℕ, List, [], ◌∷◌, Option, Some, None, if◌then◌else◌, bytes_eq, option_map, unwrap_or}
use Rattle.std.specs.Borrow.{Bor}
use Rattle.vsi_conform.specs.Reading.{ClassBoundary, cycle}
use Rattle.vsi_conform.specs.declared.keys.Cycle.{Cycle}
use Rattle.vsi_drive.specs.Boundary.{Boundary, names_of, no_boundary}
use Rattle.vsi_arguments.specs.declared.request.DrivePolicy.{DrivePolicy}
use Rattle.vsi_arguments.specs.declared.request.DrivePolicy.TheVariants as policy
use Rattle.vsi_arguments.specs.declared.request.NameLists.{NameLists}

-- The names in a list that is given, with commas between them.
abbrev pub given_names : Option (Bor (List ℕ)) → Option (List (List ℕ))
given_names list = option_map (λ text. names_of text.now) list

-- The boundary with the names in the lists of a request.
abbrev pub requested : NameLists → Boundary
requested lists =
    record {
      inputs = given_names lists.inputs;
      outputs = given_names lists.outputs;
      released = unwrap_or (given_names lists.released) [];
    }

-- The boundary that a table of an interface has for its class; without a table none.
abbrev pub bound_by : Option ClassBoundary → Boundary
bound_by None = no_boundary
bound_by (Some b) = record { inputs = b.inputs; outputs = b.outputs; released = b.released }

-- The table of a class.
abbrev pub table_of : List ClassBoundary → List ℕ → Option ClassBoundary
table_of [] class = None
table_of (b ∷ bs) class = if bytes_eq b.class class then Some b else table_of bs class

-- The boundary of a class: that of its table, and where an interface has no tables the one without lists.
abbrev pub boundary_at : List ClassBoundary → List ℕ → Option Boundary
boundary_at [] class = Some no_boundary
boundary_at (b ∷ bs) class = option_map (λ found. bound_by (Some found)) (table_of (b ∷ bs) class)

-- The boundary of a drive or of a view: that of the lists or, with an interface, of this table.
abbrev pub boundary_for : DrivePolicy → Option Cycle → Boundary
boundary_for (policy.Lattice path lists) found = requested lists
boundary_for (policy.Interface path) found = bound_by (option_map cycle found)
