-- The page of each subject.
use Rattle.std.specs.Prelude.{ℕ, Bool, List, [], ◌∷◌, Option, bytes_eq, codes}
use Rattle.std.specs.List.{list_any}
use Rattle.std.specs.Map.{lookup}
use Rattle.vsi_arguments.specs.declared.explained.subjects.TheConstants as subjects

-- The names of the subjects.
abbrev pub NAMES : List (List ℕ)
NAMES =
    codes "language" ∷ codes "lattice" ∷ codes "store" ∷ codes "interface" ∷ codes "classes" ∷ codes "profiles" ∷ []

-- The name is the name of a subject.
abbrev pub is_subject : List ℕ → Bool
is_subject name = list_any (λ n. bytes_eq name n) NAMES

-- Each subject's name with its page.
abbrev pub SUBJECTS : List (List ℕ × List ℕ)
SUBJECTS =
    (codes "language", subjects.LANGUAGE.now)
    ∷ (codes "lattice", subjects.LATTICE.now)
    ∷ (codes "store", subjects.STORE.now)
    ∷ (codes "interface", subjects.INTERFACE.now)
    ∷ (codes "classes", subjects.CLASSES.now)
    ∷ (codes "profiles", subjects.PROFILES.now)
    ∷ []

-- The page of the subject of this name.
abbrev pub subject_page : List ℕ → Option (List ℕ)
subject_page name = lookup (λ n. bytes_eq name n) SUBJECTS
