-- The marks of a program are at the names that its text writes.
use Rattle.std.proofs.Common.{◌≡◌, ℕ, suc, ◌+◌, List, [], ◌∷◌, ◌++◌, length, map, refl, sym, ap, ◌∙◌, Option, Some, None}
use Rattle.std.proofs.lemmas.List.{map-append, append-nil}
use Rattle.vsi_syntax.specs.declared.token.Kind.TheVariants as kind
use Rattle.vsi_syntax.specs.Tree as tree
use Rattle.vsi_scope.specs.Scopes.{Scope}
use Rattle.vsi_scope.specs.Faults.{Mark, class_marks, uses, marks, all_marks, locals, global_marks, global_names}
use Rattle.vsi_scope.specs.Laws.{called, name_at, MarksFollowText}

-- The names of two joined lists are those of the first followed by those of the second.
called-append : (xs ys : List tree.Lexeme) → called (xs ++ ys) ≡ called xs ++ called ys
called-append [] ys = refl
called-append (tree.Called x ∷ xs) ys = ap (λ (ns : List tree.Named). x ∷ ns) (called-append xs ys)
called-append (tree.Sign sign ∷ xs) ys = called-append xs ys

-- The marks are at the names that are written.
abbrev AreAt : List Mark → List tree.Lexeme → Type 0
AreAt ms ws = map name_at ms ≡ called ws

-- The marks of two parts are at the names of both.
at_both : (ms ns : List Mark) (xs ys : List tree.Lexeme) → AreAt ms xs → AreAt ns ys → AreAt (ms ++ ns) (xs ++ ys)
at_both ms ns xs ys p q =
    map-append name_at ms ns ∙ ap (λ (l : List tree.Named). l ++ map name_at ns) p
    ∙ ap (λ (l : List tree.Named). called xs ++ l) q ∙ sym (called-append xs ys)

-- Appending lexemes without names changes nothing.
at_end : (ms : List Mark) (xs ys : List tree.Lexeme) → called ys ≡ [] → AreAt ms xs → AreAt ms (xs ++ ys)
at_end ms xs ys e p =
    p
    ∙ sym (called-append xs ys ∙ ap (λ (l : List tree.Named). called xs ++ l) e ∙ append-nil (called xs))

-- The marks of an expression are at its names.
of_expression : (s : Scope) (e : tree.Tree) → AreAt (uses s e) (tree.write e)
of_expression s (tree.Number n) = refl
of_expression s (tree.Name x) = refl
of_expression s (tree.Bracket e) = at_end (uses s e) (tree.write e) (tree.Sign kind.Close ∷ []) refl (of_expression s e)
of_expression s (tree.Binary op a b) =
    at_both (uses s a) (uses s b) (tree.write a) (tree.Sign (tree.sign op) ∷ tree.write b) (of_expression s a)
    (of_expression s b)

-- The mark of a class is at its name.
of_class : (c : Option tree.Named) → AreAt (class_marks c) (tree.write_class c)
of_class None = refl
of_class (Some x) = refl

mutual
  -- The marks of a command are at its names.
  of_command : (s : Scope) (n : ℕ) (c : tree.Command) → AreAt (marks s n c) (tree.write_command c)
  of_command s n (tree.Assign x e) = ap (λ (l : List tree.Named). x ∷ l) (of_expression s e)
  of_command s n (tree.If e c d) =
      at_both (uses s e) (marks s n c ++ marks s (n + locals c) d) (tree.write e)
      (tree.Sign kind.Then ∷ (tree.write_command c ++ tree.Sign kind.Else ∷ tree.write_command d)) (of_expression s e)
      (at_both (marks s n c) (marks s (n + locals c) d) (tree.write_command c)
      (tree.Sign kind.Else ∷ tree.write_command d) (of_command s n c) (of_command s (n + locals c) d))
  of_command s n (tree.While e c) =
      at_both (uses s e) (marks s n c) (tree.write e) (tree.Sign kind.Do ∷ tree.write_command c) (of_expression s e)
      (of_command s n c)
  of_command s n (tree.Letvar x class e c) =
      let inner = s ++ x.text ∷ [] in
      ap (λ (l : List tree.Named). x ∷ l)
      (at_both (class_marks class) (uses s e ++ marks inner (suc n) c) (tree.write_class class)
      (tree.Sign kind.Assign ∷ (tree.write e ++ tree.Sign kind.In ∷ tree.write_command c)) (of_class class)
      (at_both (uses s e) (marks inner (suc n) c) (tree.write e) (tree.Sign kind.In ∷ tree.write_command c)
      (of_expression s e) (of_command inner (suc n) c)))
  of_command s n (tree.Block b) =
      at_end (all_marks s n b) (tree.write_body b) (tree.Sign kind.CloseBrace ∷ []) refl (of_body s n b)

  -- The marks of a sequence are at its names.
  of_body : (s : Scope) (n : ℕ) (b : tree.Body) → AreAt (all_marks s n b) (tree.write_body b)
  of_body s n tree.Done = refl
  of_body s n (tree.Then c rest) =
      at_both (marks s n c) (all_marks s (n + locals c) rest) (tree.write_command c) (tree.write_rest rest)
      (of_command s n c) (of_rest s (n + locals c) rest)

  -- The marks of the commands after the first are at their names.
  of_rest : (s : Scope) (n : ℕ) (b : tree.Body) → AreAt (all_marks s n b) (tree.write_rest b)
  of_rest s n tree.Done = refl
  of_rest s n (tree.Then c rest) =
      at_both (marks s n c) (all_marks s (n + locals c) rest) (tree.write_command c) (tree.write_rest rest)
      (of_command s n c) (of_rest s (n + locals c) rest)

-- The marks of globals are at their names and those of their classes.
of_globals : (above : Scope) (gs : List tree.Declared) → AreAt (global_marks above gs) (tree.write_globals gs)
of_globals above [] = refl
of_globals above (g ∷ gs) =
    ap (λ (l : List tree.Named). g.name ∷ g.class ∷ l) (of_globals (above ++ g.name.text ∷ []) gs)

-- The marks of a program are at its names.
pub of_program : MarksFollowText
of_program p =
    at_both (global_marks [] p.globals) (all_marks (global_names p.globals) (length p.globals) p.body)
    (tree.write_globals p.globals) (tree.write_body p.body) (of_globals [] p.globals)
    (of_body (global_names p.globals) (length p.globals) p.body)
