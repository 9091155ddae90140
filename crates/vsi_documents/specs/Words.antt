-- Words of globals and ends of runs as JSON, with keys in byte order.
use Rattle.std.specs.Prelude.{ℕ, ℤ, Bool, true, false, List, [], ◌∷◌, ◌++◌, Option, Some, if◌then◌else◌, codes}
use Rattle.serde_json.specs.Data.{Data, boolean, array, object, Members, no_members, put}
use Rattle.serde_json.specs.View.{items_of}
use Rattle.vsi_image.specs.Fields.{Global}
use Rattle.vsi_lattice.specs.Known.{Known}
use Rattle.vsi_lattice.specs.Order.{Lattice}
use Rattle.vsi_store.specs.declared.comparing.RunEnding.{RunEnding}
use Rattle.vsi_store.specs.declared.comparing.RunEnding.TheVariants.{Halted, OutOfBudget}
use Rattle.vsi_leak.specs.Texts.{is_shown}
use Rattle.vsi_answers.specs.Members.{with_text, with_natural, with_word}

-- The members of the object of a global: its name and its word.
abbrev pub word_members : List ℕ → ℤ → Members
word_members name w = with_word (codes "word") w (with_text (codes "name") name no_members)

-- An object for each global, in order.
abbrev pub word_objects : List Global → List ℤ → List Data
word_objects [] ws = []
word_objects (g ∷ gs) [] = []
word_objects (g ∷ gs) (w ∷ ws) = object (word_members g.0 w) ∷ word_objects gs ws

-- The members of the object of a global in two runs: its name, and its words in the first run and in the second.
abbrev pub pair_members : List ℕ → ℤ → ℤ → Members
pair_members name w v =
    with_word (codes "second") v (with_word (codes "first") w (with_text (codes "name") name no_members))

-- The object of a global in two runs, if it is shown.
abbrev pub shown_pair : Bool → List ℕ → ℤ → ℤ → List Data
shown_pair shown name w v = if shown then object (pair_members name w v) ∷ [] else []

-- An object for each global that a class sees or, without a class, for each global, in order.
abbrev pub pair_objects : Known → Lattice → Option ℕ → List Global → List ℤ → List ℤ → List Data
pair_objects known L to [] ws vs = []
pair_objects known L to (g ∷ gs) [] vs = []
pair_objects known L to (g ∷ gs) (w ∷ ws) [] = []
pair_objects known L to (g ∷ gs) (w ∷ ws) (v ∷ vs) =
    shown_pair (is_shown known L to g.1) g.0 w v ++ pair_objects known L to gs ws vs

-- The members with those objects added, at this key.
abbrev pub with_pairs : List ℕ → Known → Lattice → Option ℕ → List Global → List ℤ → List ℤ → Members → Members
with_pairs key known L to gs ws vs ms = put key (array (items_of (pair_objects known L to gs ws vs))) ms

-- The members with the objects of the globals that the class sees at the ends of both runs, if both halt.
abbrev pub with_after : Known → Lattice → ℕ → List Global → RunEnding → RunEnding → Members → Members
with_after known L a gs (Halted n ws) (Halted n' vs) ms =
    with_pairs (codes "after") known L (Some a) gs ws.items vs.items ms
with_after known L a gs (Halted n ws) OutOfBudget ms = ms
with_after known L a gs OutOfBudget e ms = ms

-- The members of the object of a run: whether it halts within its budget, and how many instructions it executes.
abbrev pub end_members : Bool → ℕ → Members
end_members halted n = with_natural (codes "instructions") n (put (codes "halted") (boolean halted) no_members)

-- The object of the end of a run within a budget.
abbrev pub ending_object : ℕ → RunEnding → Data
ending_object budget (Halted n words) = object (end_members true n)
ending_object budget OutOfBudget = object (end_members false budget)

-- The members with that object added, at this key.
abbrev pub with_ending : List ℕ → ℕ → RunEnding → Members → Members
with_ending key budget e ms = put key (ending_object budget e) ms

-- The members with those objects for the ends of both runs, and with the ends themselves.
abbrev pub with_endings : Known → Lattice → ℕ → List Global → ℕ → RunEnding → RunEnding → Members → Members
with_endings known L a gs budget first second ms =
    with_ending (codes "second") budget second (with_ending (codes "first") budget first
    (with_after known L a gs first second ms))
