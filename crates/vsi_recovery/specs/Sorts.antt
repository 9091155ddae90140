-- Sorts of tokens.
use Rattle.std.specs.Prelude.{Bool}
use denote.Enum.Bare.{sameb}
use Rattle.vsi_syntax.specs.declared.token.Kind.{Kind}
use Rattle.vsi_syntax.specs.declared.token.Kind.TheVariants as k
use Rattle.vsi_syntax.specs.Tree.{Lexeme, Called, Sign}
use Rattle.vsi_recovery.specs.contracts.sort.Sort.{the_type}
use Rattle.vsi_recovery.specs.declared.sort.Sort.{Sort}
use Rattle.vsi_recovery.specs.declared.sort.Sort.TheVariants as s

-- The two sorts are the same.
abbrev pub same : Sort → Sort → Bool
same a b = sameb the_type a b

-- The sort of a kind of tokens.
abbrev pub sort_of : Kind → Sort
sort_of k.Var = s.Var
sort_of k.Letvar = s.Letvar
sort_of k.In = s.In
sort_of k.If = s.If
sort_of k.Then = s.Then
sort_of k.Else = s.Else
sort_of k.While = s.While
sort_of k.Do = s.Do
sort_of k.Assign = s.Assign
sort_of k.Colon = s.Colon
sort_of k.Semicolon = s.Semicolon
sort_of k.Plus = s.Plus
sort_of k.Minus = s.Minus
sort_of k.Star = s.Star
sort_of k.Equal = s.Equal
sort_of k.Less = s.Less
sort_of k.Open = s.Open
sort_of k.Close = s.Close
sort_of k.OpenBrace = s.OpenBrace
sort_of k.CloseBrace = s.CloseBrace
sort_of k.Name = s.Name
sort_of (k.Number n) = s.Number

-- The sort of a lexeme.
abbrev pub lexeme_sort : Lexeme → Sort
lexeme_sort (Called x) = s.Name
lexeme_sort (Sign kind) = sort_of kind
