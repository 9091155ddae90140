-- The part of a tree that is left to walk.
use Rattle.std.proofs.Common.{◌≡◌, ℕ, zero, suc, ◌+◌, ◌<◌, ◌≤◌, List, [], ◌∷◌, length, drop, get_or, sym, ap, ◌∙◌, arith}
use Rattle.std.proofs.Math.Seq.{drop-cons}
use Rattle.vsi_syntax.specs.declared.tree.Stmt.{Stmt}
use Rattle.vsi_syntax.specs.CommandView as syntax
use Rattle.vsi_syntax.specs.Tree as tree

abbrev mutual
  -- The weight of a command: the amount that is left to walk.
  pub weight : tree.Command → ℕ
  weight (tree.Assign x e) = 1
  weight (tree.If e c d) = 1 + weight c + weight d
  weight (tree.While e c) = 1 + weight c
  weight (tree.Letvar x class e c) = 1 + weight c
  weight (tree.Block b) = 1 + all_weight b

  -- The weight of a sequence: the amount that is left to walk.
  pub all_weight : tree.Body → ℕ
  all_weight tree.Done = 0
  all_weight (tree.Then c rest) = weight c + all_weight rest

-- No command of a sequence weighs more than the sequence.
pub one_weight : (cs : List Stmt) (i : ℕ) (c : Stmt) → i < length cs → c ≡ get_or cs i c →
    weight (syntax.command c) ≤ all_weight (syntax.body_of cs)
one_weight [] i c lt e = absurd (omega (arith, lt))
one_weight (d ∷ ds) zero c lt e = omega (arith, ap (λ x. weight (syntax.command x)) e)
one_weight (d ∷ ds) (suc i) c lt e = omega (arith, one_weight ds i c (omega (arith, lt)) e)

-- The commands from a place on.
pub from_place : (cs : List Stmt) (i : ℕ) (c : Stmt) → i < length cs → c ≡ get_or cs i c →
    syntax.body_of (drop i cs) ≡ tree.Then (syntax.command c) (syntax.body_of (drop (i + 1) cs))
from_place cs i c lt e =
    let n : suc i ≡ i + 1 = omega arith in
    ap syntax.body_of (drop-cons cs i c lt)
    ∙ ap (λ x. tree.Then (syntax.command x) (syntax.body_of (drop (suc i) cs))) (sym e)
    ∙ ap (λ k. tree.Then (syntax.command c) (syntax.body_of (drop k cs))) n
