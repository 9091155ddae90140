-- The boundary of a controller: the globals that lines set, those that cycles write, and those that they release.
use Rattle.std.specs.Prelude.{ℕ, ◌==◌, Bool, true, false, if◌then◌else◌, List, [], ◌∷◌, ◌++◌, Option, Some, None, option_map, bytes_eq}
use Rattle.std.specs.Borrow.{Bor}
use Rattle.vsi_lattice.specs.NamePlaces.{texts}
use Rattle.vsi_drive.specs.declared.boundary.Boundary as declared

-- The names of the inputs, of the outputs and of the released globals; without a list of inputs or outputs, every global
-- is one.
pub record Boundary : Type 0 where
  pub inputs : Option (List (List ℕ))
  pub outputs : Option (List (List ℕ))
  pub released : List (List ℕ)

-- The boundary without lists.
abbrev pub no_boundary : Boundary
no_boundary = record { inputs = None; outputs = None; released = [] }

-- The names in a list of references.
abbrev pub listed : Option (Bor (List (Bor (List ℕ)))) → Option (List (List ℕ))
listed names = option_map (λ ns. texts ns.now) names

-- The names that a boundary has.
abbrev pub boundary_of : declared.Boundary → Boundary
boundary_of b = record { inputs = listed b.inputs; outputs = listed b.outputs; released = texts b.released.now }

-- The name is one of these.
abbrev pub is_among : List (List ℕ) → List ℕ → Bool
is_among [] name = false
is_among (n ∷ ns) name = if bytes_eq n name then true else is_among ns name

-- The name is one of the list, or there is no list.
abbrev pub is_listed : Option (List (List ℕ)) → List ℕ → Bool
is_listed None name = true
is_listed (Some names) name = is_among names name

-- The names in a text with commas between them, the first of which begins with these bytes.
abbrev pub names_behind : List ℕ → List ℕ → List (List ℕ)
names_behind part [] = part ∷ []
names_behind part (b ∷ bs) = if b == 44 then part ∷ names_behind [] bs else names_behind (part ++ b ∷ []) bs

-- The names in a text with commas between them; an empty text has none.
abbrev pub names_of : List ℕ → List (List ℕ)
names_of [] = []
names_of (b ∷ bs) = names_behind [] (b ∷ bs)
