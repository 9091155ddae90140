-- Texts that begin with an earlier text.
use Rattle.std.proofs.Common.{◌≡◌, ℕ, ◌≤◌, List, ◌++◌, length, take, drop, ap, sym, ◌∙◌, arith}
use Rattle.std.proofs.Math.Seq.{take-append_seam}
use Rattle.std.proofs.lemmas.List.{length-take, take-append-drop, take-append-le}

-- A text followed by more begins with itself.
pub begins : (old now more : List ℕ) → now ≡ old ++ more → take (length old) now ≡ old
begins old now more is = ap (take (length old)) is ∙ take-append_seam old more

-- A text that begins with another one still does when more is added after it.
pub begins_more : (old text more : List ℕ) → take (length old) text ≡ old → take (length old) (text ++ more) ≡ old
begins_more old text more h =
    let within : length old ≤ length text = omega (arith, ap length h, length-take (length old) text) in
    take-append-le (length old) text more within ∙ h

-- A text that equals another one followed by more begins with it.
pub begins_on : (old text more now : List ℕ) → take (length old) text ≡ old → now ≡ text ++ more →
    take (length old) now ≡ old
begins_on old text more now h is = ap (take (length old)) is ∙ begins_more old text more h

-- A text that begins with a second text also begins with whatever the second one begins with.
pub begins_longer : (old text now more : List ℕ) → text ≡ old ++ more → take (length text) now ≡ text →
    take (length old) now ≡ old
begins_longer old text now more is h =
    let rest = drop (length text) now in
    let split : now ≡ text ++ rest = sym (take-append-drop (length text) now) ∙ ap (λ t. t ++ rest) h in
    ap (take (length old)) split ∙ begins_more old text rest (begins old text more is)
