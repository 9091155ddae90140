-- The layout of a text.
use Rattle.std.specs.Prelude.{ℕ, List, [], ◌∷◌, ◌++◌, drop, Option, Some, None}
use Rattle.std.specs.Fmt.{signed_decimal}
use Rattle.vsi_syntax.specs.declared.token.Kind.{Kind}
use Rattle.vsi_syntax.specs.declared.token.Kind.TheVariants as k
use Rattle.vsi_syntax.specs.Cut.{Piece}
use Rattle.vsi_syntax.specs.Comments.{part}
use Rattle.vsi_syntax.specs.Gaps.{fresh, gap_text}
use Rattle.vsi_syntax.specs.Joints.{depth_after, place_of}

-- A number is written in decimal, and any other token as it is.
abbrev pub token_text : Kind → List ℕ → List ℕ
token_text (k.Number n) text = signed_decimal n
token_text _ text = text

-- The layout of the tokens from a position on, after this token and within this number of blocks.
abbrev pub laid_from : ℕ → Option Kind → ℕ → List ℕ → List Piece → List ℕ
laid_from at before depth text [] = gap_text (place_of before None depth) fresh (drop at text)
laid_from at before depth text (p ∷ ps) =
    gap_text (place_of before (Some p.kind) depth) fresh (part text at p.span.start)
    ++ (token_text p.kind p.text
    ++ laid_from p.span.stop (Some p.kind) (depth_after p.kind depth) text ps)

-- The layout of a text with these tokens.
abbrev pub laid : List ℕ → List Piece → List ℕ
laid = laid_from 0 None 0
