-- The numbers of a table, key by key.
use Rattle.std.proofs.Common.{◌≡◌, ℕ, ℤ, List, [], ◌∷◌, ◌++◌, Option, Some, None, option_map, refl, sym, ap, ◌∙◌, append_assoc}
use Rattle.std.specs.Global.{Vec}
use Rattle.std.proofs.lemmas.List.{map-append}
use Rattle.toml.specs.Data.{Data, Members, member, as_integer}
use Rattle.vsi_conform.specs.Points.{Entry, entry, entries}
use Rattle.vsi_conform.specs.Reading.{entry_more, numbers_of}

-- The entries found, and one more, come before those of the rest.
more_found : (found : List Entry) (e : Entry) (o : Option (List Entry)) →
    option_map (λ rest. found ++ rest) (entry_more e.0 (Some e.1) o)
    ≡ option_map (λ rest. (found ++ e ∷ []) ++ rest) o
more_found found e None = refl
more_found found e (Some es) = ap Some (sym (append_assoc found (e ∷ []) es))

-- One more number is found.
pub number_found : (all : Option (List Entry)) (found new : List (Vec ℕ × ℤ)) (name : Vec ℕ) (key : List ℕ)
    (d : Data) (word : ℤ) (rest : Members) → name.items ≡ key → as_integer d ≡ Some word →
    new ≡ found ++ (name, word) ∷ [] →
    all ≡ option_map (λ r. entries found ++ r) (numbers_of (member key d rest)) →
    all ≡ option_map (λ r. entries new ++ r) (numbers_of rest)
number_found all found new name key d word rest same is n h =
    h ∙ ap (λ o. option_map (λ r. entries found ++ r) (entry_more key o (numbers_of rest))) is
    ∙ more_found (entries found) (key, word) (numbers_of rest)
    ∙ ap (λ k. option_map (λ r. (entries found ++ (k, word) ∷ []) ++ r) (numbers_of rest)) (sym same)
    ∙ ap (λ es. option_map (λ r. es ++ r) (numbers_of rest))
    (sym (ap entries n ∙ map-append entry found ((name, word) ∷ [])))
