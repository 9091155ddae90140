-- Whether two texts have the same tokens and comments, as a test.
use Rattle.std.specs.Prelude.{ℕ, Bool, true, false, ◌&&◌, bytes_eq, ℤ, List, [], ◌∷◌, drop, Option, Some, None, if◌then◌else◌}
use Rattle.std.specs.Ordering.{int_eq}
use Rattle.vsi_syntax.specs.declared.token.Kind.{Kind}
use Rattle.vsi_syntax.specs.declared.token.Kind.TheVariants as k
use Rattle.vsi_syntax.specs.Cut.{Piece}
use Rattle.vsi_syntax.specs.Comments.{comments, part}

-- Two gaps have the same comments.
abbrev pub has_same_comments : List ℕ → List ℕ → Bool
has_same_comments a b = bytes_eq (comments false a) (comments false b)

-- The value of a number.
abbrev pub number_of : Kind → Option ℤ
number_of (k.Number n) = Some n
number_of _ = None

-- There are two values, and they are the same.
abbrev pub is_same_value : Option ℤ → Option ℤ → Bool
is_same_value (Some m) (Some n) = int_eq m n
is_same_value (Some m) None = false
is_same_value None o = false

-- Two tokens are the same: they have one text, or they are numbers of one value.
abbrev pub is_same_token : Piece → Piece → Bool
is_same_token p q = if bytes_eq p.text q.text then true else is_same_value (number_of p.kind) (number_of q.kind)

-- Two texts have the same tokens and comments from these positions on.
abbrev pub is_same_from : ℕ → List ℕ → List Piece → ℕ → List ℕ → List Piece → Bool
is_same_from i s [] j t [] = has_same_comments (drop i s) (drop j t)
is_same_from i s [] j t (q ∷ qs) = false
is_same_from i s (p ∷ ps) j t [] = false
is_same_from i s (p ∷ ps) j t (q ∷ qs) =
    is_same_token p q
    && (has_same_comments (part s i p.span.start) (part t j q.span.start)
    && is_same_from p.span.stop s ps q.span.stop t qs)

-- Two texts with these tokens have the same tokens and comments.
abbrev pub is_same : List ℕ → List Piece → List ℕ → List Piece → Bool
is_same s ps t qs = is_same_from 0 s ps 0 t qs
