-- The token at which reading ended.
use Rattle.std.proofs.Common.{◌≡◌, ℕ, List, slice_get, Option, Some, None, option_map, refl, sym}
use Rattle.std.proofs.lemmas.Option.{same_Some}
use Rattle.vsi_syntax.specs.declared.token.Span.{Span}
use Rattle.vsi_syntax.specs.declared.token.Token.{Token}
use Rattle.vsi_syntax.specs.FaultPlaces.{StandsAtOne}

-- The span of a token.
abbrev span_of : Token → Span
span_of t = t.span

-- A span found by looking up a token is the span of a token, by the result of the lookup.
stands_there : (ts : List Token) (i : ℕ) (span : Span) (o : Option Token) → slice_get ts i ≡ o →
    Some span ≡ option_map span_of o → StandsAtOne ts span
stands_there ts i span None is h = absurd cc
stands_there ts i span (Some t) is h =
    record { number = i; token = t; there = is; place = same_Some (span_of t) span (sym h) }

-- A span found by looking up a token is the span of a token.
pub stands : (ts : List Token) (i : ℕ) (span : Span) → Some span ≡ option_map span_of (slice_get ts i) →
    StandsAtOne ts span
stands ts i span h = stands_there ts i span (slice_get ts i) refl h
