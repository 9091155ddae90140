-- How commands are written.
use Rattle.std.specs.Prelude.{◌≡◌, ℕ, [], ◌∷◌, ◌++◌, ℤ, pos, negsuc, neg_ℤ, ◌≤ℤ◌, ◌<ℤ◌, None}
use Rattle.vsi_syntax.specs.declared.tree.Op.{Op}
use Rattle.vsi_syntax.specs.declared.tree.Op.TheVariants as o
use Rattle.vsi_syntax.specs.declared.token.Span.{Span}
use Rattle.vsi_syntax.specs.Tree as tree
use Rattle.vsi_scope.specs.Language.{Expression, Number, Location, Operator, Command, Skip, Assign, Sequence, If, While, Letvar}
use Rattle.vsi_scope.specs.Scopes.{Scope, StandsFor}

-- The tree writes the expression, with these names in scope: a location by a name that denotes it, and a number below 0
-- as a difference or, for the least number, as a sum.
pub data WritesExpression (names : Scope) : Expression → tree.Tree → Type 0 where
  number : {n : ℤ} → pos 0 ≤ℤ n → WritesExpression names (Number n) (tree.Number n)
  below : {n : ℤ} → n <ℤ pos 0 → negsuc 9223372036854775807 <ℤ n →
      WritesExpression names (Number n) (tree.Binary o.Sub (tree.Number (pos 0)) (tree.Number (neg_ℤ n)))
  least : WritesExpression names (Number (negsuc 9223372036854775807))
      (tree.Binary o.Add (tree.Number (pos 9223372036854775807)) (tree.Number (pos 1)))
  name : {l : ℕ} {s : Span} {x : tree.Named} → StandsFor names x.text l →
      WritesExpression names (Location l s) (tree.Name x)
  bracket : {e : Expression} {t : tree.Tree} → WritesExpression names e t → WritesExpression names e (tree.Bracket t)
  operator : {op : Op} {a b : Expression} {t u : tree.Tree} →
      WritesExpression names a t → WritesExpression names b u →
      WritesExpression names (Operator op a b) (tree.Binary op t u)

mutual
  -- One command of the tree writes the command, with these names in scope.
  pub data WritesCommand : Scope → Command → tree.Command → Type 0 where
    assign : {names : Scope} {l : ℕ} {s : Span} {e : Expression} {x : tree.Named} {t : tree.Tree} →
        StandsFor names x.text l → WritesExpression names e t → WritesCommand names (Assign l s e) (tree.Assign x t)
    choice : {names : Scope} {e : Expression} {a b : Command} {t : tree.Tree} {c d : tree.Command} →
        WritesExpression names e t → WritesPart names a c → WritesPart names b d →
        WritesCommand names (If e a b) (tree.If t c d)
    loop : {names : Scope} {e : Expression} {a : Command} {t : tree.Tree} {c : tree.Command} →
        WritesExpression names e t → WritesPart names a c → WritesCommand names (While e a) (tree.While t c)
    letvar : {names : Scope} {e : Expression} {a : Command} {x : tree.Named} {t : tree.Tree} {c : tree.Command} →
        WritesExpression names e t → WritesPart (names ++ x.text ∷ []) a c →
        WritesCommand names (Letvar e a) (tree.Letvar x None t c)

  -- One command of the tree, which may be a block, writes the sequence.
  pub data WritesPart : Scope → Command → tree.Command → Type 0 where
    block : {names : Scope} {a : Command} {b : tree.Body} → WritesAll names a b → WritesPart names a (tree.Block b)
    single : {names : Scope} {a : Command} {c : tree.Command} →
        WritesAll names a (tree.Then c tree.Done) → WritesPart names a c

  -- A sequence of the tree writes the sequence; an empty one is written as a letvar that is initialised with 0 and set
  -- to 0.
  pub data WritesAll : Scope → Command → tree.Body → Type 0 where
    nothing : {names : Scope} (x y : tree.Named) → x.text ≡ y.text →
        WritesAll names Skip
        (tree.Then (tree.Letvar x None (tree.Number (pos 0)) (tree.Assign y (tree.Number (pos 0)))) tree.Done)
    some : {names : Scope} {a : Command} {b : tree.Body} → WritesRest names a b → WritesAll names a b

  -- The sequence is written command by command.
  pub data WritesRest : Scope → Command → tree.Body → Type 0 where
    done : {names : Scope} → WritesRest names Skip tree.Done
    more : {names : Scope} {a b : Command} {c : tree.Command} {cs : tree.Body} →
        WritesCommand names a c → WritesRest names b cs → WritesRest names (Sequence a b) (tree.Then c cs)
