-- Texts of numbers, added one after another.
use Rattle.std.proofs.Common.{◌≡◌, ℕ, suc, ◌+◌, true, false, List, [], ◌∷◌, ◌++◌, ◌∙◌, codes, is_some, refl, sym, ap, append_assoc, arith}
use Rattle.vsi_lattice.specs.declared.lattice.Lattice.{Lattice}
use Rattle.vsi_image.specs.Fields.{Global}
use Rattle.vsi_documents.specs.Roles.{Boundaries, table_of}
use Rattle.vsi_documents.specs.Rows.{class_rows, each_below, globals_below, is_used, name_at, numbered_warning, role_row, unused_line}
use Rattle.vsi_documents.specs.declared.roles.Role.TheVariants.{Sets, Reads, Releases}

-- The text of the next number comes last.
next_below : (f : ℕ → List ℕ) (n : ℕ) → each_below f (n + 1) ≡ each_below f n ++ f n
next_below f n = let e : n + 1 ≡ suc n = omega arith in rw e refl

-- A text with the texts of the numbers so far gets that of the next one.
pub more_below : (start old new : List ℕ) (f : ℕ → List ℕ) (n : ℕ) → old ≡ start ++ each_below f n →
    new ≡ old ++ f n → new ≡ start ++ each_below f (n + 1)
more_below start old new f n so is =
    is ∙ ap (λ (t : List ℕ). t ++ f n) so ∙ append_assoc start (each_below f n) (f n)
    ∙ ap (λ (t : List ℕ). start ++ t) (sym (next_below f n))

-- The classes so far, as globals, get the next one.
pub more_globals : (l : Lattice) (old new : List Global) (n : ℕ) (name own : List ℕ) → old ≡ globals_below l n →
    name ≡ name_at l n → own ≡ name_at l n → new ≡ old ++ (name, own) ∷ [] → new ≡ globals_below l (n + 1)
more_globals l old new n name own so named owned more =
    let e : n + 1 ≡ suc n = omega arith in rw (e, more, so, named, owned) refl

-- The three rows of a class with a table are its rows.
pub three_rows : (b : Boundaries) (name start one two three : List ℕ) → is_some (table_of b.tables name) ≡ true →
    one ≡ start ++ role_row Sets b name → two ≡ one ++ role_row Reads b name →
    three ≡ two ++ role_row Releases b name → three ≡ start ++ class_rows b name
three_rows b name start one two three has sets reads releases =
    let s = role_row Sets b name in
    let r = role_row Reads b name in
    let last = role_row Releases b name in
    rw has (releases ∙ ap (λ (t : List ℕ). t ++ last)
    (reads ∙ ap (λ (t : List ℕ). t ++ r) sets ∙ append_assoc start s r) ∙ append_assoc start (s ++ r) last)

-- The warnings so far get that of a class that isn't used.
pub more_warned : (l : Lattice) (gs : List Global) (n : ℕ) (name old new : List ℕ) → name ≡ name_at l n →
    is_used gs name ≡ false → old ≡ each_below (numbered_warning l gs) n →
    new ≡ old ++ (codes "warning: no global has the class " ++ (name ++ codes "\n")) →
    new ≡ each_below (numbered_warning l gs) (n + 1)
more_warned l gs n name old new named unused so is =
    let line = codes "warning: no global has the class " ++ (name ++ codes "\n") in
    let own : line ≡ unused_line gs name =
    rw unused (sym (append_assoc (codes "warning: no global has the class ") name (codes "\n"))) in
    is ∙ ap (λ (t : List ℕ). t ++ line) so
    ∙ ap (λ (t : List ℕ). each_below (numbered_warning l gs) n ++ t) (own ∙ ap (unused_line gs) named)
    ∙ sym (next_below (numbered_warning l gs) n)
