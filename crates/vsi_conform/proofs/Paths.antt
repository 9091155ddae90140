-- The folder of a path, found from its end.
use Rattle.std.proofs.Common.{◌≡◌, ℕ, ◌+◌, ◌<◌, ◌∷◌, [], ◌++◌, List, true, false, refl, sym, ap, ◌∙◌, rules, length, take, get_or}
use Rattle.std.proofs.lemmas.List.{take_more}
use Rattle.std.specs.List.{list_any}
use Rattle.vsi_conform.specs.Beside.{is_slash, folder}

-- Adding a byte that is no slash doesn't change whether there is a slash.
pub any_push : (xs : List ℕ) (b : ℕ) → is_slash b ≡ false → list_any is_slash (xs ++ b ∷ []) ≡ list_any is_slash xs
any_push [] b e = rw e refl
any_push (x ∷ xs) b e = rw (any_push xs b e) refl

-- A text that ends with a slash has a slash.
pub any_slash : (xs : List ℕ) (b : ℕ) → is_slash b ≡ true → list_any is_slash (xs ++ b ∷ []) ≡ true
any_slash [] b e = rw e refl
any_slash (x ∷ xs) b e = rw (any_slash xs b e) (search rules)

-- A byte that is no slash doesn't change the folder.
pub folder_push : (xs : List ℕ) (b : ℕ) → is_slash b ≡ false → folder (xs ++ b ∷ []) ≡ folder xs
folder_push [] b e = rw e refl
folder_push (x ∷ xs) b e = rw (any_push xs b e, folder_push xs b e) refl

-- A text that ends with a slash is its own folder.
pub folder_slash : (xs : List ℕ) (b : ℕ) → is_slash b ≡ true → folder (xs ++ b ∷ []) ≡ xs ++ b ∷ []
folder_slash [] b e = rw e refl
folder_slash (x ∷ xs) b e = rw (any_slash xs b e, folder_slash xs b e) (search rules)

-- The slash at a position ends the folder if no slash comes after it.
pub folder_found : (path : List ℕ) (n : ℕ) → n < length path → get_or path n 0 ≡ 47 →
    folder path ≡ folder (take (n + 1) path) → take (n + 1) path ≡ folder path
folder_found path n h is same =
    let t = take_more path n 0 h in
    t ∙ sym (same ∙ ap folder t ∙ folder_slash (take n path) (get_or path n 0) (rw is refl))

-- Without a slash at a position, the folder is that of the bytes before it.
pub folder_left : (path : List ℕ) (n : ℕ) → n < length path → is_slash (get_or path n 0) ≡ false →
    folder path ≡ folder (take (n + 1) path) → folder path ≡ folder (take n path)
folder_left path n h isnt same =
    same ∙ ap folder (take_more path n 0 h) ∙ folder_push (take n path) (get_or path n 0) isnt
