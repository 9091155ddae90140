-- Walks through the steps of a list.
use Rattle.std.specs.Prelude.{◌≡◌, ℕ, List, [], ◌∷◌}
use Rattle.std.specs.List.{Contains}
use Rattle.vsi_types.specs.declared.rules.Step.{Step}

-- The steps lead from a to b, and each of them is in the list.
abbrev pub IsPath : List Step → ℕ → List Step → ℕ → Type 0
IsPath ss a [] b = a ≡ b
IsPath ss a (s ∷ rest) b = (s.source ≡ a) × Contains ss s × IsPath ss s.target rest b
