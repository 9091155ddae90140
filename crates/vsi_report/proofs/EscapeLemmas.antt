-- The text that a reader sees of an escaped text, and of tags.
use Rattle.std.proofs.Common.{◌≡◌, ℕ, List, [], ◌∷◌, ◌++◌, ap, sym, subst, ◌∙◌, arith, refl, append_assoc}
use Rattle.std.specs.Prelude.{codes, decimal}
use Rattle.vsi_report.specs.Escape.{escape, escaped}
use Rattle.vsi_report.specs.Panel.{attribute, line_tag, next_tag, open_tag, close_tag}
use Rattle.vsi_report.specs.Reading.{Between, Within, seen, Shows}

-- After the markup, a reader who was between tags is in a tag and has seen nothing.
abbrev Opens : List ℕ → Type 0
Opens m = (rest : List ℕ) → seen Between (m ++ rest) ≡ seen Within rest

-- After the markup, a reader who was in a tag is still in it.
abbrev Stays : List ℕ → Type 0
Stays m = (rest : List ℕ) → seen Within (m ++ rest) ≡ seen Within rest

-- After the markup, a reader who was in a tag is between tags.
abbrev Closes : List ℕ → Type 0
Closes m = (rest : List ℕ) → seen Within (m ++ rest) ≡ seen Between rest

-- An escaped byte shows the byte.
pub byte_shows : (b : ℕ) → Shows (escape b) (b ∷ [])
byte_shows b rest = grind arith

-- An escaped byte doesn't close a tag.
byte_stays : (b : ℕ) → Stays (escape b)
byte_stays b rest = grind arith

-- An escaped text doesn't close a tag.
text_stays : (t : List ℕ) → Stays (escaped t)
text_stays [] rest = refl
text_stays (b ∷ bs) rest =
    ap (seen Within) (append_assoc (escape b) (escaped bs) rest)
    ∙ byte_stays b (escaped bs ++ rest) ∙ text_stays bs rest

-- Two pieces of markup in a row show the texts of both.
pub both_show : (a b s t : List ℕ) → Shows a s → Shows b t → Shows (a ++ b) (s ++ t)
both_show a b s t ha hb rest =
    ap (seen Between) (append_assoc a b rest) ∙ ha (b ++ rest) ∙ ap (λ x. s ++ x) (hb rest)
    ∙ sym (append_assoc s t (seen Between rest))

-- Markup that stays in a tag, followed by markup that closes it, closes the tag.
stays_closes : (a b : List ℕ) → Stays a → Closes b → Closes (a ++ b)
stays_closes a b ha hb rest = ap (seen Within) (append_assoc a b rest) ∙ ha (b ++ rest) ∙ hb rest

-- Markup that opens a tag, followed by markup that closes it, shows nothing.
opens_closes : (a b : List ℕ) → Opens a → Closes b → Shows (a ++ b) []
opens_closes a b ha hb rest = ap (seen Between) (append_assoc a b rest) ∙ ha (b ++ rest) ∙ hb rest

-- The beginning of a line shows nothing.
pub line_shows : (n : ℕ) → Shows (line_tag n) []
line_shows n =
    opens_closes (codes "<span class=\"line\" id=\"L") (escaped (decimal n) ++ codes "\">") (λ rest. refl)
    (stays_closes (escaped (decimal n)) (codes "\">") (text_stays (decimal n)) (λ rest. refl))

-- The end of a line and the beginning of the next one show nothing.
pub next_shows : (n : ℕ) → Shows (next_tag n) []
next_shows n = both_show (codes "</span>") (line_tag n) [] [] (λ rest. refl) (line_shows n)

-- An attribute whose beginning doesn't close a tag doesn't close it either.
attribute_stays : (begin value : List ℕ) → Stays begin → Stays (attribute begin value)
attribute_stays begin [] h rest = refl
attribute_stays begin (b ∷ bs) h rest =
    ap (seen Within) (append_assoc begin (escaped (b ∷ bs)) rest) ∙ h (escaped (b ∷ bs) ++ rest)
    ∙ text_stays (b ∷ bs) rest

-- The beginning of a token shows nothing.
pub open_shows : (kind class step : List ℕ) → Shows (open_tag kind class step) []
open_shows kind class step =
    let low = codes "\" data-class=\"" in
    let high = codes "\" data-step=\"" in
    let last = attribute high step ++ codes "\">" in
    opens_closes (codes "<b class=\"") (escaped kind ++ (attribute low class ++ last)) (λ rest. refl)
    (stays_closes (escaped kind) (attribute low class ++ last) (text_stays kind)
    (stays_closes (attribute low class) last (attribute_stays low class (λ rest. refl))
    (stays_closes (attribute high step) (codes "\">") (attribute_stays high step (λ rest. refl)) (λ rest. refl))))

-- The end of a token shows nothing.
pub close_shows : Shows close_tag []
close_shows rest = refl

-- Markup that shows nothing can follow markup that shows a text.
pub more_shows : (a b t : List ℕ) → Shows a t → Shows b [] → Shows (a ++ b) t
more_shows a b t ha hb rest =
    ap (seen Between) (append_assoc a b rest) ∙ ha (b ++ rest) ∙ ap (λ x. t ++ x) (hb rest)

-- The beginning of a token, added piece by piece, shows nothing.
pub tag_shows : (p p₁ p₂ p₃ p₄ p₅ kind class step t : List ℕ) → p₁ ≡ p ++ codes "<b class=\"" →
    p₂ ≡ p₁ ++ escaped kind → p₃ ≡ p₂ ++ attribute (codes "\" data-class=\"") class →
    p₄ ≡ p₃ ++ attribute (codes "\" data-step=\"") step → p₅ ≡ p₄ ++ codes "\">" → Shows p t → Shows p₅ t
tag_shows p p₁ p₂ p₃ p₄ p₅ kind class step t e₁ e₂ e₃ e₄ e₅ h =
    let a = codes "<b class=\"" in
    let b = escaped kind in
    let c = attribute (codes "\" data-class=\"") class in
    let d = attribute (codes "\" data-step=\"") step in
    let e = codes "\">" in
    subst (λ x. Shows x t)
    (sym (e₅ ∙ ap (λ x. x ++ e) (e₄ ∙ ap (λ x. x ++ d) (e₃ ∙ ap (λ x. x ++ c) (e₂ ∙ ap (λ x. x ++ b) e₁)))
    ∙ append_assoc (p ++ a ++ b ++ c) d e ∙ append_assoc (p ++ a ++ b) c (d ++ e)
    ∙ append_assoc (p ++ a) b (c ++ (d ++ e)) ∙ append_assoc p a (b ++ (c ++ (d ++ e)))))
    (more_shows p (open_tag kind class step) t h (open_shows kind class step))

-- The end of the last line shows nothing.
pub end_shows : Shows (codes "</span>") []
end_shows rest = refl
