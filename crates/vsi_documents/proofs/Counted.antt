-- How many objects there are.
use Rattle.std.proofs.Common.{◌≡◌, ◌∙◌, ℕ, ◌+◌, List, [], ◌∷◌, ◌++◌, ap, length, map, sym}
use Rattle.std.proofs.lemmas.List.{length-map, length_push}
use Rattle.serde_json.specs.Data.{Data}

-- One more object is one more value.
pub one_more : {A : Type 0} (f : A → Data) (old new : List A) (one : Data) → map f new ≡ map f old ++ one ∷ [] →
    length new ≡ length old + 1
one_more f old new one pushed =
    sym (length-map new f) ∙ ap length pushed ∙ length_push (map f old) one ∙ ap (λ n. n + 1) (length-map old f)
