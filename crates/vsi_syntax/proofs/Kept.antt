-- The canonical text of a layout is that of the text.
use Rattle.std.proofs.Common.{◌≡◌, ℕ, suc, List, [], ◌∷◌, map, Option, Some, None, refl, sym, ap, ◌∙◌}
use Rattle.vsi_syntax.specs.Apart.{apart, class_apart, command_apart, body_apart, global_apart, program_apart}
use Rattle.vsi_syntax.specs.Canon.{canon, canon_body, canon_class, canon_command, canon_globals, canon_rest, canon_tree}
use Rattle.vsi_syntax.specs.Cut.{Piece}
use Rattle.vsi_syntax.specs.Spelling.{bare, word_at}
use Rattle.vsi_syntax.specs.Tree.{Named, Tree, Number, Name, Bracket, Binary, Command, Assign, If, While, Letvar, Block, Body, Done, Then, Declared, Whole}
use Rattle.vsi_syntax.proofs.Spans.{one_program}
use Rattle.vsi_syntax.proofs.Unique.{one_cut}
use Rattle.vsi_syntax.specs.Layout.{IsRead, IsLayout}

-- An expression and the expression without spans have the same text.
tree_text : (e : Tree) → canon_tree (apart e) ≡ canon_tree e
tree_text (Number n) = refl
tree_text (Name x) = refl
tree_text (Bracket e) = rw (tree_text e) refl
tree_text (Binary op a b) = rw (tree_text a, tree_text b) refl

-- A class and the class without its span have the same text.
class_text : (class : Option Named) → canon_class (class_apart class) ≡ canon_class class
class_text None = refl
class_text (Some c) = refl

mutual
  -- A command and the command without spans have the same text.
  command_text : (c : Command) (k : ℕ) → canon_command k (command_apart c) ≡ canon_command k c
  command_text (Assign x e) k = rw (tree_text e) refl
  command_text (If e c d) k = rw (tree_text e, command_text c k, command_text d k) refl
  command_text (While e c) k = rw (tree_text e, command_text c k) refl
  command_text (Letvar x class e c) k = rw (class_text class, tree_text e, command_text c k) refl
  command_text (Block cs) k = rw (body_text cs (suc k)) refl

  -- A sequence and the sequence without spans have the same text.
  body_text : (cs : Body) (k : ℕ) → canon_body k (body_apart cs) ≡ canon_body k cs
  body_text Done k = refl
  body_text (Then c cs) k = rw (command_text c k, rest_text cs k) refl

  -- The commands after the first and those without spans have the same text.
  rest_text : (cs : Body) (k : ℕ) → canon_rest k (body_apart cs) ≡ canon_rest k cs
  rest_text Done k = refl
  rest_text (Then c cs) k = rw (command_text c k, rest_text cs k) refl

-- Globals and the globals without spans have the same text.
globals_text : (gs : List Declared) → canon_globals (map global_apart gs) ≡ canon_globals gs
globals_text [] = refl
globals_text (g ∷ gs) = rw (globals_text gs) refl

-- A program and the program without spans have the same text.
whole_text : (p : Whole) → canon (program_apart p) ≡ canon p
whole_text p = rw (globals_text p.globals, body_text p.body 0) refl

-- Two programs that read one text are equal up to spans.
read_once : (s : List ℕ) (ps qs : List Piece) (p q : Whole) → IsRead s ps p → IsRead s qs q →
    program_apart p ≡ program_apart q
read_once s ps qs p q r t =
    one_program p q r.program t.program
    (ap (map bare) (r.written ∙ ap (map word_at) (one_cut s ps qs r.cut t.cut) ∙ sym t.written))

-- The law.
pub canonical_kept : (s t : List ℕ) (ps qs : List Piece) (p q : Whole) → IsLayout s t → IsRead s ps p →
    IsRead t qs q → canon q ≡ canon p
canonical_kept s t ps qs p q h r u =
    let first : program_apart p ≡ program_apart h.same.tree = read_once s ps h.same.tokens p h.same.tree r h.same.read in
    let second : program_apart q ≡ program_apart h.same.other =
    read_once t qs h.same.others q h.same.other u h.same.other_read in
    sym (whole_text q) ∙ ap canon (second ∙ h.same.program ∙ sym first) ∙ whole_text p
