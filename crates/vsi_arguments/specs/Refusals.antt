-- The numbers of the refusals.
use Rattle.std.specs.Prelude.{ℕ, Bool, ◌&&◌, ◌||◌, nat_le, ◌==◌}

-- The number is between two others, both included.
abbrev pub is_from : ℕ → ℕ → ℕ → Bool
is_from low high n = nat_le low n && nat_le n high

-- The refusals of a lattice file.
abbrev pub is_lattice_refusal : ℕ → Bool
is_lattice_refusal n = is_from 1 10 n

-- The refusals of a text for its tokens and its tree, and of a program for its names, its size and its flows.
abbrev pub is_text_refusal : ℕ → Bool
is_text_refusal n = is_from 11 22 n || n == 25

-- The refusals of an image.
abbrev pub is_image_refusal : ℕ → Bool
is_image_refusal n = is_from 26 38 n || is_from 49 51 n

-- The refusals of a store, of the lines and arguments that set globals, and of a controller's inputs, outputs and
-- released names.
abbrev pub is_store_refusal : ℕ → Bool
is_store_refusal n = is_from 39 48 n || (n == 56 || is_from 60 65 n)

-- All refusals.
abbrev pub is_refusal : ℕ → Bool
is_refusal n = is_lattice_refusal n || (is_text_refusal n || (is_image_refusal n || is_store_refusal n))
