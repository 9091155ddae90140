-- Two programs that write the same lexemes up to spans are equal up to spans.
use Rattle.std.proofs.Common.{◌≡◌, ℕ, List, [], ◌∷◌, ◌++◌, map, Option, Some, None, refl, sym, subst, ◌∙◌, arith}
use Rattle.std.proofs.lemmas.List.{map-append}
use Rattle.vsi_syntax.specs.declared.token.Kind.TheVariants as k
use Rattle.vsi_syntax.specs.Tree.{Named, Sign, Tree, Number, Name, Bracket, Binary, Command, Assign, If, While, Letvar, Block, Body, Done, Then, Declared, Whole, sign, write, write_class, write_command, write_body, write_rest, write_globals, write_program, IsLevelled, IsCommandLevelled, IsBodyLevelled, IsRestLevelled, IsProgram, depth, command_depth, body_depth, left_level, right_level}
use Rattle.vsi_syntax.specs.Spelling.{bare}
use Rattle.vsi_syntax.specs.Apart.{apart, class_apart, command_apart, body_apart, global_apart, program_apart}
use Rattle.vsi_syntax.proofs.Pairs.{some_left}
use Rattle.vsi_syntax.proofs.Globals.{program_again}

-- An expression without spans writes its lexemes without spans.
write_apart : (t : Tree) → write (apart t) ≡ map bare (write t)
write_apart (Number n) = refl
write_apart (Name x) = refl
write_apart (Bracket e) = rw (write_apart e, map-append bare (write e) (Sign k.Close ∷ [])) refl
write_apart (Binary op a b) = rw (write_apart a, write_apart b, map-append bare (write a) (Sign (sign op) ∷ write b))
    refl

-- A class without its span writes its lexemes without spans.
class_written : (class : Option Named) → write_class (class_apart class) ≡ map bare (write_class class)
class_written None = refl
class_written (Some c) = refl

mutual
  -- A command without spans writes its lexemes without spans.
  command_written : (c : Command) → write_command (command_apart c) ≡ map bare (write_command c)
  command_written (Assign x e) = rw (write_apart e) refl
  command_written (If e c d) =
      rw (
        write_apart e,
        command_written c,
        command_written d,
        map-append bare (write e)
            (Sign k.Then ∷ (write_command c ++ Sign k.Else ∷ write_command d)),
        map-append bare (write_command c)
            (Sign k.Else ∷ write_command d),
      ) refl
  command_written (While e c) =
      rw (write_apart e, command_written c, map-append bare (write e) (Sign k.Do ∷ write_command c)) refl
  command_written (Letvar x class e c) =
      rw (
        write_apart e,
        command_written c,
        class_written class,
        map-append bare (write_class class)
            (Sign k.Assign ∷ (write e ++ Sign k.In ∷ write_command c)),
        map-append bare (write e)
            (Sign k.In ∷ write_command c),
      ) refl
  command_written (Block cs) = rw (body_written cs, map-append bare (write_body cs) (Sign k.CloseBrace ∷ [])) refl

  -- A sequence without spans writes its lexemes without spans.
  body_written : (cs : Body) → write_body (body_apart cs) ≡ map bare (write_body cs)
  body_written Done = refl
  body_written (Then c cs) =
      rw (command_written c, rest_written cs, map-append bare (write_command c) (write_rest cs)) refl

  -- The commands after the first, without spans, write their lexemes without spans.
  rest_written : (cs : Body) → write_rest (body_apart cs) ≡ map bare (write_rest cs)
  rest_written Done = refl
  rest_written (Then c cs) =
      rw (command_written c, rest_written cs, map-append bare (write_command c) (write_rest cs)) refl

-- Globals without spans write their lexemes without spans.
globals_written : (gs : List Declared) → write_globals (map global_apart gs) ≡ map bare (write_globals gs)
globals_written [] = refl
globals_written (g ∷ gs) = rw (globals_written gs) refl

-- A program without spans writes its lexemes without spans.
pub program_written : (p : Whole) → write_program (program_apart p) ≡ map bare (write_program p)
program_written p =
    rw (globals_written p.globals, body_written p.body, map-append bare (write_globals p.globals) (write_body p.body))
    refl

-- An expression stays levelled without spans.
tree_levelled : (l : ℕ) (t : Tree) → IsLevelled l t → IsLevelled l (apart t)
tree_levelled l (Number n) h = h
tree_levelled l (Name x) h = h
tree_levelled l (Bracket e) h = tree_levelled 0 e h
tree_levelled l (Binary op a b) h = (h.0, tree_levelled (left_level op) a h.1, tree_levelled (right_level op) b h.2)

mutual
  -- A command stays levelled without spans.
  command_levelled : (c : Command) → IsCommandLevelled c → IsCommandLevelled (command_apart c)
  command_levelled (Assign x e) h = tree_levelled 0 e h
  command_levelled (If e c d) h = (tree_levelled 0 e h.0, command_levelled c h.1, command_levelled d h.2)
  command_levelled (While e c) h = (tree_levelled 0 e h.0, command_levelled c h.1)
  command_levelled (Letvar x class e c) h = (tree_levelled 0 e h.0, command_levelled c h.1)
  command_levelled (Block cs) h = body_levelled cs h

  -- A sequence stays levelled without spans.
  body_levelled : (cs : Body) → IsBodyLevelled cs → IsBodyLevelled (body_apart cs)
  body_levelled Done h = h
  body_levelled (Then c cs) h = (command_levelled c h.0, rest_levelled cs h.1)

  -- The commands after the first stay levelled without spans.
  rest_levelled : (cs : Body) → IsRestLevelled cs → IsRestLevelled (body_apart cs)
  rest_levelled Done h = h
  rest_levelled (Then c cs) h = (command_levelled c h.0, rest_levelled cs h.1)

-- Spans do not affect the depth of an expression.
tree_depth : (t : Tree) → depth (apart t) ≡ depth t
tree_depth (Number n) = refl
tree_depth (Name x) = refl
tree_depth (Bracket e) = rw (tree_depth e) refl
tree_depth (Binary op a b) = rw (tree_depth a, tree_depth b) refl

mutual
  -- Spans do not affect the depth of a command.
  depth_of_command : (c : Command) → command_depth (command_apart c) ≡ command_depth c
  depth_of_command (Assign x e) = tree_depth e
  depth_of_command (If e c d) = rw (tree_depth e, depth_of_command c, depth_of_command d) refl
  depth_of_command (While e c) = rw (tree_depth e, depth_of_command c) refl
  depth_of_command (Letvar x class e c) = rw (tree_depth e, depth_of_command c) refl
  depth_of_command (Block cs) = rw (depth_of_body cs) refl

  -- Spans do not affect the depth of a sequence.
  depth_of_body : (cs : Body) → body_depth (body_apart cs) ≡ body_depth cs
  depth_of_body Done = refl
  depth_of_body (Then c cs) = rw (depth_of_command c, depth_of_body cs) refl

-- The body of a program stays one without spans.
pub program_good : (b : Body) → IsProgram b → IsProgram (body_apart b)
program_good b h = (body_levelled b h.0, omega (arith, depth_of_body b, h.1))

-- Two programs that write the same lexemes up to spans are equal up to spans.
pub one_program : (p q : Whole) → IsProgram p.body → IsProgram q.body → map bare (write_program p) ≡ map bare
    (write_program q) → program_apart p ≡ program_apart q
one_program p q hp hq e =
    let a = program_again (program_apart p) (map bare (write_program q)) (program_good p.body hp)
    (program_written p ∙ e) in
    let b = program_again (program_apart q) (map bare (write_program q)) (program_good q.body hq) (program_written q)
    in
    some_left (program_apart p) (program_apart q) [] [] (sym a ∙ b)

-- An expression is levelled if it is levelled without spans.
tree_back : (l : ℕ) (t : Tree) → IsLevelled l (apart t) → IsLevelled l t
tree_back l (Number n) h = h
tree_back l (Name x) h = h
tree_back l (Bracket e) h = tree_back 0 e h
tree_back l (Binary op a b) h = (h.0, tree_back (left_level op) a h.1, tree_back (right_level op) b h.2)

mutual
  -- A command is levelled if it is levelled without spans.
  command_back : (c : Command) → IsCommandLevelled (command_apart c) → IsCommandLevelled c
  command_back (Assign x e) h = tree_back 0 e h
  command_back (If e c d) h = (tree_back 0 e h.0, command_back c h.1, command_back d h.2)
  command_back (While e c) h = (tree_back 0 e h.0, command_back c h.1)
  command_back (Letvar x class e c) h = (tree_back 0 e h.0, command_back c h.1)
  command_back (Block cs) h = body_back cs h

  -- A sequence is levelled if it is levelled without spans.
  body_back : (cs : Body) → IsBodyLevelled (body_apart cs) → IsBodyLevelled cs
  body_back Done h = h
  body_back (Then c cs) h = (command_back c h.0, rest_back cs h.1)

  -- The commands after the first are levelled if they are levelled without spans.
  rest_back : (cs : Body) → IsRestLevelled (body_apart cs) → IsRestLevelled cs
  rest_back Done h = h
  rest_back (Then c cs) h = (command_back c h.0, rest_back cs h.1)

-- A body that equals one of a program up to spans is one too.
pub good_again : (b c : Body) → body_apart c ≡ body_apart b → IsProgram b → IsProgram c
good_again b c e h =
    let g = subst IsProgram (sym e) (program_good b h) in
    (body_back c g.0, omega (arith, depth_of_body c, g.1))
