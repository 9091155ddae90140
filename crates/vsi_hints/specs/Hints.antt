-- The sentence of a hint, and the texts that it may offer.
use Rattle.std.specs.Prelude.{ℕ, List, [], ◌++◌, Option, Some, None, take, codes}
use Rattle.vsi_hints.specs.Offered.{IsExpression, IsProgramText}
use Rattle.vsi_hints.specs.declared.drafts.Hint.{Hint}
use Rattle.vsi_hints.specs.declared.drafts.Hint.TheVariants.{Offer, Put, Operator, Piece, Plain}
use Rattle.vsi_hints.specs.declared.drafts.Reason.{Reason}
use Rattle.vsi_hints.specs.declared.drafts.Reason.TheVariants.{Rule, Lacking}

-- A text between back quotes, cut after 120 bytes.
abbrev pub quoted : List ℕ → List ℕ
quoted text = codes "`" ++ take 120 text ++ codes "`"

-- The reason why a text is offered.
abbrev pub reason : Reason → List ℕ
reason (Rule text) = text.now
reason (Lacking sign) = codes ": there is no " ++ quoted sign.now ++ codes "."

-- A text in place of another one.
abbrev pub replacing : List ℕ → List ℕ → List ℕ
replacing new old = codes "write " ++ quoted new ++ codes " in place of " ++ quoted old

-- The sentence of a hint.
abbrev pub sentence : Hint → List ℕ
sentence (Offer new old why) = replacing new.items old.now ++ reason why
sentence (Put new old rest) = replacing new.now old.now ++ rest.now
sentence (Operator text sign) = codes "write " ++ quoted text.now ++ codes " for `P " ++ sign.now ++ codes " Q`."
sentence (Piece before piece rest) = before.now ++ quoted piece.now ++ rest.now
sentence (Plain text) = text.now

-- The line of a hint; no line without a hint.
abbrev pub hint_line : Option Hint → List ℕ
hint_line None = []
hint_line (Some hint) = codes "Hint: " ++ sentence hint ++ codes "\n"

-- A text that the reader of the language has read: an expression, commands, or declarations.
pub data IsRead : List ℕ → Type 0 where
  expression : (text : List ℕ) → IsExpression text → IsRead text
  commands : (text : List ℕ) → IsProgramText text → IsRead text
  declarations : (text : List ℕ) → IsProgramText (text ++ codes "; x := 1") → IsRead text

-- The text that a hint offers, if it offers one, has been read.
abbrev pub OffersRead : Hint → Type 0
OffersRead (Offer new old why) = IsRead new.items
OffersRead (Put new old rest) = Unit {0}
OffersRead (Operator text sign) = Unit {0}
OffersRead (Piece before piece rest) = Unit {0}
OffersRead (Plain text) = Unit {0}
