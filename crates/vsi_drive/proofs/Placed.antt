-- The setting that names the global at a place.
use Rattle.std.proofs.Common.{◌≡◌, ℕ, ◌+◌, ◌<◌, List, ◌∷◌, length, drop, get_or, Ok, true, sym, ap, ◌∙◌}
use Rattle.std.specs.Prelude.{ℤ, Result, bytes_eq, codes}
use Rattle.std.specs.Global.{Vec}
use Rattle.std.proofs.lemmas.List.{drop_more}
use Rattle.vsi_image.specs.Fields.{global, globals}
use Rattle.vsi_drive.specs.declared.settings.LineFault.{LineFault}
use Rattle.vsi_drive.specs.Fields.{word_of}
use Rattle.vsi_drive.specs.Settings.{Settable, Setting, place_of, setting, target_from, with_word}

-- If no global before it has the name, the setting is that of the first global that has it.
pub setting_at : (s : Settable) (n i : ℕ) (name equal number : List ℕ) (vs : List (Vec ℕ × Vec ℕ))
    (v : Vec ℕ × Vec ℕ) (t : Result ℕ LineFault) → vs ≡ s.image.globals.items → bytes_eq equal (codes "=") ≡ true →
    target_from s n i (globals (drop i s.image.globals.items)) name
    ≡ target_from s n 0 (globals s.image.globals.items) name →
    i < length vs → v ≡ get_or vs i v → bytes_eq (global v).0 name ≡ true → place_of s n i (global v) ≡ t →
    setting s n name equal number ≡ with_word n t (word_of number)
setting_at s n i name equal number vs v t same eq before lt at is placed =
    let cut : drop i vs ≡ v ∷ drop (i + 1) vs = drop_more vs i v lt ∙ ap (λ x. x ∷ drop (i + 1) vs) (sym at) in
    let found : target_from s n i (global v ∷ globals (drop (i + 1) vs)) name ≡ t = rw is placed in
    let first : target_from s n i (globals (drop i vs)) name ≡ t =
    ap (λ l. target_from s n i (globals l) name) cut ∙ found in
    let all : target_from s n 0 (globals s.image.globals.items) name ≡ t =
    sym before ∙ ap (λ l. target_from s n i (globals (drop i l)) name) (sym same) ∙ first in
    rw eq (ap (λ x. with_word n x (word_of number)) all)
