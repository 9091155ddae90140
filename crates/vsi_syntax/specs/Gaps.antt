-- The layout of the blanks and comments between two tokens.
use Rattle.std.specs.Prelude.{ℕ, suc, ◌==◌, Bool, true, false, ◌&&◌, List, [], ◌∷◌, ◌++◌, codes, nat_le, if◌then◌else◌}
use Rattle.vsi_syntax.specs.Canon.{spaces}
use Rattle.vsi_syntax.specs.declared.writing.Joint.{Joint}
use Rattle.vsi_syntax.specs.declared.writing.Joint.TheVariants as j
use Rattle.vsi_syntax.specs.declared.writing.Place.{Place}
use Rattle.vsi_syntax.specs.declared.writing.Cursor.{Cursor}

-- At the beginning of a gap.
abbrev pub fresh : Cursor
fresh = record { is_inside = false; breaks = 0; has_comment = false }

-- Inside a comment.
abbrev pub inside : Cursor
inside = record { is_inside = true; breaks = 0; has_comment = true }

-- After the line feed of a comment.
abbrev pub after_comment : Cursor
after_comment = record { is_inside = false; breaks = 1; has_comment = true }

-- After one more blank outside of comments; line feeds are counted up to two.
abbrev pub after_blank : Cursor → ℕ → Cursor
after_blank c b = record {
  is_inside = false;
  breaks = if b == 10 then (if nat_le 2 c.breaks then c.breaks else suc c.breaks) else c.breaks;
  has_comment = c.has_comment;
}

-- A new line at a level of indentation, after a blank one if the text has one that is kept.
abbrev pub new_line : Place → Cursor → ℕ → List ℕ
new_line p c level = (if p.keeps_blank && nat_le 2 c.breaks then codes "\n\n" else codes "\n") ++ spaces level

-- A comment at the beginning of the text has nothing before it.
abbrev pub is_start : Joint → Bool
is_start j.Start = true
is_start _ = false

-- The text before a comment: one on the line of a token stays there, and others get lines of their own.
abbrev pub before_comment : Place → Cursor → List ℕ
before_comment p c =
    if c.has_comment then new_line p c p.comment_level
    else if is_start p.joint then []
    else if c.breaks == 0 then codes " " else new_line p c p.comment_level

-- The text between two tokens without comments between them.
abbrev pub plain : Joint → Place → Cursor → List ℕ
plain j.Start p c = []
plain j.Nothing p c = []
plain j.Space p c = codes " "
plain j.Line p c = new_line p c p.token_level
plain j.End p c = codes "\n"

-- The text after the last comment.
abbrev pub after_comments : Joint → Place → Cursor → List ℕ
after_comments j.End p c = codes "\n"
after_comments _ p c = new_line p c p.token_level

-- The text before the next token.
abbrev pub before_token : Place → Cursor → List ℕ
before_token p c = if c.has_comment then after_comments p.joint p c else plain p.joint p c

-- The state of the reader after one more byte.
abbrev pub cursor_after : Cursor → ℕ → Cursor
cursor_after c b =
    if c.is_inside then (if b == 10 then after_comment else c) else if b == 35 then inside else after_blank c b

-- The text that a byte makes: a comment is written as it is, without its line feed.
abbrev pub byte_text : Place → Cursor → ℕ → List ℕ
byte_text p c b =
    if c.is_inside then (if b == 10 then [] else b ∷ [])
    else if b == 35 then before_comment p c ++ b ∷ [] else []

-- The layout of the rest of a gap.
abbrev pub gap_text : Place → Cursor → List ℕ → List ℕ
gap_text p c [] = before_token p c
gap_text p c (b ∷ bs) = byte_text p c b ++ gap_text p (cursor_after c b) bs
