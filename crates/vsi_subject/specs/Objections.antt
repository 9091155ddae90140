-- Why a file isn't used, where each user has to know.
use Rattle.std.specs.Prelude.{◌≡◌, ◌⊎◌, ◌++◌, ◌∷◌, [], ℕ, List, Contains, codes}
use Rattle.vsi_telling.specs.Safe.{shown}
use Rattle.vsi_subject.specs.declared.failure.Failure.{Failure}
use Rattle.vsi_subject.specs.declared.failure.Failure.TheVariants.{FileFault}

-- The sentences by which files object to being replaced.
abbrev pub OBJECTIONS : List (List ℕ)
OBJECTIONS =
    codes "this file is no image; only --force replaces it."
    ∷ codes "this file is no store; only --force replaces it."
    ∷ codes "the drive didn't begin with this store; only --force replaces it."
    ∷ codes "another user owns this file; only --force replaces it."
    ∷ codes "other users may read or write this file, and a store may hold secrets: take these rights away (chmod 600), or give --force."
    ∷ codes "another drive keeps its store in this file."
    ∷ codes "this file was put there since the drive began, perhaps by another drive."
    ∷ codes "this file isn't empty; only --force replaces it."
    ∷ []

-- The sentence about a store file that isn't whole.
abbrev pub BROKEN : List ℕ
BROKEN =
    codes "the file was changed or cut short: its first line isn't the checksum of the rest. To use it all the same, delete that line."

-- The line that says so of the file at a path.
abbrev pub objection_line : List ℕ → List ℕ → List ℕ
objection_line path sentence = shown path ++ codes ": " ++ sentence ++ codes "\n"

-- A failure is followed by no line or, if it is a fault of a file, by one that says so of that file.
abbrev pub MayObject : Failure → List ℕ → Type 0
MayObject (FileFault path) line =
    (line ≡ [])
    ⊎ ((sentence : List ℕ) × (Contains OBJECTIONS sentence ⊎ (sentence ≡ BROKEN)) × (line ≡ objection_line path.now sentence))
MayObject failure line = line ≡ []
