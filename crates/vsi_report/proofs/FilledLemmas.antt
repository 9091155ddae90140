-- The parts of filled markup.
use Rattle.std.proofs.Common.{◌≡◌, ℕ, zero, suc, ◌<◌, ◌≤◌, ◌-◌, cond, Bool, true, false, List, [], ◌∷◌, ◌++◌, length, get_or, refl, sym, ap, ◌∙◌, arith, append_assoc}
use Rattle.std.proofs.lemmas.Bool.{false≢true}
use Rattle.vsi_report.specs.declared.page.Part.{Part}
use Rattle.vsi_report.specs.Filled.{filled, text_at}
use Rattle.vsi_report.specs.Parts.{is_stated, are_stated, words, texts_of}

-- Both of two tests hold.
both : (a b : Bool) → cond a b false ≡ true → (a ≡ true) × (b ≡ true)
both true b h = (refl, h)
both false b h = absurd (false≢true h)

-- A part of stated parts is stated.
pub part_stated : (ps : List Part) (n : ℕ) (d p : Part) → n < length ps → p ≡ get_or ps n d → are_stated ps ≡ true →
    is_stated p ≡ true
part_stated [] n d p lt e h = absurd (omega (arith, lt))
part_stated (q ∷ qs) zero d p lt e h = ap is_stated e ∙ (both (is_stated q) (are_stated qs) h).0
part_stated (q ∷ qs) (suc n) d p lt e h =
    part_stated qs n d p (omega (arith, lt)) e (both (is_stated q) (are_stated qs) h).1

-- The words at a place are those of the part there.
pub part_words : (ps : List Part) (n : ℕ) (d p : Part) → n < length ps → p ≡ get_or ps n d →
    words p ≡ text_at (texts_of ps) n
part_words [] n d p lt e = absurd (omega (arith, lt))
part_words (q ∷ qs) zero d p lt e = ap words e
part_words (q ∷ qs) (suc n) d p lt e = part_words qs n d p (omega (arith, lt)) e

-- Past the last part there are no words.
pub no_words : (ps : List Part) (n : ℕ) → length ps ≤ n → text_at (texts_of ps) n ≡ []
no_words [] n le = refl
no_words (q ∷ qs) zero le = absurd (omega (arith, le))
no_words (q ∷ qs) (suc n) le = no_words qs n (omega (arith, le))

-- A text that is added for a hole fills it.
pub hole_filled : (ts : List (List ℕ)) (hole : Bool) (b : ℕ) (old new x rest : List ℕ) → hole ≡ true →
    new ≡ old ++ x → x ≡ text_at ts (b - 48) →
    new ++ filled ts false rest ≡ old ++ filled ts hole (b ∷ rest)
hole_filled ts hole b old new x rest is e words =
    ap (λ l. l ++ filled ts false rest) (e ∙ ap (λ l. old ++ l) words)
    ∙ append_assoc old (text_at ts (b - 48)) (filled ts false rest)
    ∙ ap (λ h. old ++ filled ts h (b ∷ rest)) (sym is)
