-- The position of an error in the tokens.
use Rattle.std.specs.Prelude.{◌≡◌, ◌⊎◌, ◌-◌, ℕ, List, length, slice_get, Option, Some, None}
use Rattle.vsi_syntax.specs.declared.token.Span.{Span}
use Rattle.vsi_syntax.specs.declared.token.Token.{Token}
use Rattle.vsi_syntax.specs.declared.parser.ParseError.{ParseError}
use Rattle.vsi_syntax.specs.declared.parser.ParseError.TheVariants as errors

-- The span is that of one of the tokens.
pub record StandsAtOne (ts : List Token) (span : Span) : Type 0 where
  pub number : ℕ
  pub token : Token
  pub there : slice_get ts number ≡ Some token
  pub place : token.span ≡ span

-- The end of the last token, 0 if there is none.
abbrev pub stop_of : Option Token → ℕ
stop_of None = 0
stop_of (Some t) = t.span.stop

-- The span is empty and follows the last token.
pub record StandsBehind (ts : List Token) (span : Span) : Type 0 where
  pub start : span.start ≡ stop_of (slice_get ts (length ts - 1))
  pub stop : span.stop ≡ span.start

-- An unexpected fault is at a token or at the end of the text, and a fault of depth is at a token.
abbrev pub HasPlace : List Token → ParseError → Type 0
HasPlace ts errors.Memory = Unit {0}
HasPlace ts (errors.Unexpected span) = StandsAtOne ts span ⊎ StandsBehind ts span
HasPlace ts (errors.TooDeep span) = StandsAtOne ts span
