-- The faults of a boundary.
use Rattle.std.specs.Prelude.{ℕ, ◌+◌, Bool, ◌||◌, if◌then◌else◌, List, [], ◌∷◌, Option, Some, None, unwrap_or, bytes_eq, codes}
use Rattle.std.specs.Option.{option_or}
use Rattle.vsi_image.specs.Fields.{Global, globals}
use Rattle.vsi_drive.specs.declared.boundary.BoundaryFault.{BoundaryFault}
use Rattle.vsi_drive.specs.declared.boundary.BoundaryFault.TheVariants.{UnknownInput, InputAboveClass, UnknownOutput, OutputAboveClass, NotAnOutput}
use Rattle.vsi_drive.specs.declared.boundary.Role.{Role}
use Rattle.vsi_drive.specs.declared.boundary.Role.TheVariants as role
use Rattle.vsi_drive.specs.Boundary.{is_among, is_listed}
use Rattle.vsi_drive.specs.Control.{Control, sees}
use Rattle.vsi_drive.specs.Settings.{numbered}

-- The name of the class of the first of these globals that has a name.
abbrev pub class_of : List Global → List ℕ → Option (List ℕ)
class_of [] name = None
class_of (g ∷ gs) name = if bytes_eq g.0 name then Some g.1 else class_of gs name

-- The fault of an input: no global has its name, or the class doesn't see it.
abbrev pub input_fault : Control → ℕ → Option (List ℕ) → Option BoundaryFault
input_fault c n None = Some (UnknownInput n)
input_fault c n (Some class) = if sees c class then None else Some (InputAboveClass n)

-- The fault of an output: no global has its name, or the class doesn't see it and it isn't released.
abbrev pub output_fault : Control → ℕ → List ℕ → Option (List ℕ) → Option BoundaryFault
output_fault c n name None = Some (UnknownOutput n)
output_fault c n name (Some class) =
    if sees c class || is_among c.boundary.released name then None else Some (OutputAboveClass n)

-- The fault of a released name: no global has it, or it isn't that of an output.
abbrev pub released_fault : Control → ℕ → List ℕ → Option (List ℕ) → Option BoundaryFault
released_fault c n name None = Some (NotAnOutput n)
released_fault c n name (Some class) = if is_listed c.boundary.outputs name then None else Some (NotAnOutput n)

-- The fault of a name with this number in the list of a role.
abbrev pub name_fault : Control → Role → ℕ → List ℕ → Option BoundaryFault
name_fault c role.Input n name = input_fault c n (class_of (globals c.image.globals.items) name)
name_fault c role.Output n name = output_fault c n name (class_of (globals c.image.globals.items) name)
name_fault c role.Released n name = released_fault c n name (class_of (globals c.image.globals.items) name)

-- The first fault of names, the first of which has this number.
abbrev pub names_fault : Control → Role → ℕ → List (List ℕ) → Option BoundaryFault
names_fault c r n [] = None
names_fault c r n (name ∷ names) = option_or (name_fault c r n name) (names_fault c r (n + 1) names)

-- The first fault of a controller's boundary: of its inputs, then of its outputs, then of its released names.
abbrev pub boundary_fault : Control → Option BoundaryFault
boundary_fault c =
    option_or (names_fault c role.Input 0 (unwrap_or c.boundary.inputs []))
    (option_or (names_fault c role.Output 0 (unwrap_or c.boundary.outputs []))
    (names_fault c role.Released 0 c.boundary.released))

-- The number, the name and the field of a fault.
abbrev pub boundary_fault_name : BoundaryFault → List ℕ
boundary_fault_name (UnknownInput n) = numbered (codes "61 UnknownInput") n
boundary_fault_name (InputAboveClass n) = numbered (codes "62 InputAboveClass") n
boundary_fault_name (UnknownOutput n) = numbered (codes "63 UnknownOutput") n
boundary_fault_name (OutputAboveClass n) = numbered (codes "64 OutputAboveClass") n
boundary_fault_name (NotAnOutput n) = numbered (codes "65 NotAnOutput") n
