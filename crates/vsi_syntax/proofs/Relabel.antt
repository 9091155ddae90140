-- Lexemes that equal those of a tree up to spans are written by a tree that is equal up to spans.
use Rattle.std.proofs.Common.{◌≡◌, List, [], ◌∷◌, ◌++◌, map, Option, Some, None, refl, ap, ◌∙◌}
use Rattle.vsi_syntax.specs.declared.token.Kind.{Kind}
use Rattle.vsi_syntax.specs.declared.token.Kind.TheVariants as k
use Rattle.vsi_syntax.specs.Tree.{Named, Lexeme, Called, Sign, Tree, Number, Name, Bracket, Binary, Command, Assign, If, While, Letvar, Block, Body, Done, Then, Declared, Whole, sign, write, write_class, write_command, write_body, write_rest, write_globals, write_program, nowhere}
use Rattle.vsi_syntax.specs.Spelling.{bare}
use Rattle.vsi_syntax.specs.Apart.{apart, class_apart, command_apart, body_apart, global_apart, program_apart}

-- Another value that writes these lexemes and is equal up to spans.
pub record Again (A : Type 0) (writes_of : A → List Lexeme) (bare_of : A → A) (a : A) (ws : List Lexeme) : Type 0 where
  pub other : A
  pub writes : ws ≡ writes_of other
  pub same : bare_of other ≡ bare_of a

-- The first of the lexemes.
record Front (w : Lexeme) (more ws : List Lexeme) : Type 0 where
  head : Lexeme
  tail : List Lexeme
  parts : ws ≡ head ∷ tail
  heads : bare head ≡ bare w
  tails : map bare tail ≡ map bare more

-- Lexemes that equal a list up to spans begin with a lexeme that equals its first up to spans.
front : (w : Lexeme) (more ws : List Lexeme) → map bare ws ≡ bare w ∷ map bare more → Front w more ws
front w more [] h = absurd cc
front w more (v ∷ ws) h = record { head = v; tail = ws; parts = refl; heads = cc; tails = cc }

-- Two parts of the lexemes that equal these two lists up to spans.
record Parts (xs ys ws : List Lexeme) : Type 0 where
  one : List Lexeme
  two : List Lexeme
  parts : ws ≡ one ++ two
  ones : map bare one ≡ map bare xs
  twos : map bare two ≡ map bare ys

-- Lexemes that equal two joined lists up to spans split into two such parts.
split : (xs ys ws : List Lexeme) → map bare ws ≡ map bare (xs ++ ys) → Parts xs ys ws
split [] ys ws h = record { one = []; two = ws; parts = refl; ones = refl; twos = h }
split (x ∷ xs) ys ws h =
    let f = front x (xs ++ ys) ws h in
    let s = split xs ys f.tail f.tails in
    record {
      one = f.head ∷ s.one;
      two = s.two;
      parts = f.parts ∙ ap (λ (z : List Lexeme). f.head ∷ z) s.parts;
      ones = ap (λ (z : List Lexeme). bare f.head ∷ z) s.ones ∙ ap (λ (z : Lexeme). z ∷ map bare xs) f.heads;
      twos = s.twos;
    }

-- Lexemes that equal no lexemes up to spans are none.
nothing_is : (ws : List Lexeme) → map bare ws ≡ [] → ws ≡ []
nothing_is [] h = refl
nothing_is (w ∷ ws) h = absurd cc

-- A lexeme that is not a name equals itself without its span.
sign_is : (kind : Kind) (w : Lexeme) → bare w ≡ Sign kind → w ≡ Sign kind
sign_is kind (Sign other) h = h
sign_is kind (Called x) h = absurd cc

-- A lexeme that is this name up to its span.
record NameAgain (x : Named) (w : Lexeme) : Type 0 where
  name : Named
  is : w ≡ Called name
  same : nowhere name ≡ nowhere x

-- Equal lexemes of names without spans are of equal names.
called_same : (y x : Named) → Called (nowhere y) ≡ Called (nowhere x) → nowhere y ≡ nowhere x
called_same y x h = cc

-- A lexeme that equals a name without its span is that name with some span.
name_is : (x : Named) (w : Lexeme) → bare w ≡ Called (nowhere x) → NameAgain x w
name_is x (Called y) h = record { name = y; is = refl; same = called_same y x h }
name_is x (Sign kind) h = absurd cc

-- A sign, and then more.
record Behind (kind : Kind) (more ws : List Lexeme) : Type 0 where
  rest : List Lexeme
  parts : ws ≡ Sign kind ∷ rest
  rests : map bare rest ≡ map bare more

-- Lexemes that equal a sign and more up to spans begin with that sign.
behind : (kind : Kind) (more ws : List Lexeme) → map bare ws ≡ Sign kind ∷ map bare more → Behind kind more ws
behind kind more ws h =
    let f = front (Sign kind) more ws h in
    record {
      rest = f.tail;
      parts = f.parts ∙ ap (λ (z : Lexeme). z ∷ f.tail) (sign_is kind f.head f.heads);
      rests =
          f.tails;
    }

-- A name, and then more.
record After (x : Named) (more ws : List Lexeme) : Type 0 where
  name : Named
  rest : List Lexeme
  parts : ws ≡ Called name ∷ rest
  same : nowhere name ≡ nowhere x
  rests : map bare rest ≡ map bare more

-- Lexemes that equal a name and more up to spans begin with that name, with some span.
after : (x : Named) (more ws : List Lexeme) → map bare ws ≡ Called (nowhere x) ∷ map bare more → After x more ws
after x more ws h =
    let f = front (Called x) more ws h in
    let n = name_is x f.head f.heads in
    record {
      name = n.name;
      rest = f.tail;
      parts = f.parts ∙ ap (λ (z : Lexeme). z ∷ f.tail) n.is;
      same = n.same;
      rests = f.tails;
    }

-- Equal lexemes after one lexeme.
push : (w : Lexeme) (ws rest xs : List Lexeme) → ws ≡ w ∷ rest → rest ≡ xs → ws ≡ w ∷ xs
push w ws rest xs p e = p ∙ ap (λ (z : List Lexeme). w ∷ z) e

-- Equal lexemes in two parts.
cat : (ws one two a b : List Lexeme) → ws ≡ one ++ two → one ≡ a → two ≡ b → ws ≡ a ++ b
cat ws one two a b p i j = p ∙ rw (i, j) refl

-- Lexemes that equal those of an expression up to spans are written by one that is equal up to spans.
tree_again : (t : Tree) (ws : List Lexeme) → map bare ws ≡ map bare (write t) → Again Tree write apart t ws
tree_again (Number n) ws h =
    let b = behind (k.Number n) [] ws h in
    record {
      other = Number n;
      writes = b.parts ∙ ap (λ (z : List Lexeme). Sign (k.Number n) ∷ z)
          (nothing_is b.rest b.rests);
      same = refl;
    }
tree_again (Name x) ws h =
    let a = after x [] ws h in
    record {
      other = Name a.name;
      writes = a.parts ∙ ap (λ (z : List Lexeme). Called a.name ∷ z)
          (nothing_is a.rest a.rests);
      same = ap (λ (z : Named). Name z) a.same;
    }
tree_again (Bracket e) ws h =
    let b = behind k.Open (write e ++ Sign k.Close ∷ []) ws h in
    let s = split (write e) (Sign k.Close ∷ []) b.rest b.rests in
    let i = tree_again e s.one s.ones in
    let c = behind k.Close [] s.two s.twos in
    record {
      other = Bracket i.other;
      writes = push _ _ _ _ b.parts
          (cat _ _ _ _ _ s.parts i.writes (push _ _ _ _ c.parts (nothing_is c.rest c.rests)));
      same = ap (λ (z : Tree). Bracket z) i.same;
    }
tree_again (Binary op x y) ws h =
    let s = split (write x) (Sign (sign op) ∷ write y) ws h in
    let b = behind (sign op) (write y) s.two s.twos in
    let i = tree_again x s.one s.ones in
    let j = tree_again y b.rest b.rests in
    record {
      other = Binary op i.other j.other;
      writes = cat _ _ _ _ _ s.parts i.writes (push _ _ _ _ b.parts (j.writes));
      same = rw (i.same, j.same) refl;
    }

-- Lexemes that equal those of a class up to spans are written by one that is equal up to spans.
class_again : (c : Option Named) (ws : List Lexeme) → map bare ws ≡ map bare (write_class c) →
    Again (Option Named) write_class class_apart c ws
class_again None ws h = record { other = None; writes = nothing_is ws h; same = refl }
class_again (Some x) ws h =
    let b = behind k.Colon (Called x ∷ []) ws h in
    let a = after x [] b.rest b.rests in
    record {
      other = Some a.name;
      writes = push _ _ _ _ b.parts (push _ _ _ _ a.parts (nothing_is a.rest a.rests));
      same = ap (λ (z : Named). Some z) a.same;
    }

mutual
  -- Lexemes that equal those of a command up to spans are written by one that is equal up to spans.
  command_again : (c : Command) (ws : List Lexeme) → map bare ws ≡ map bare (write_command c) →
      Again Command write_command command_apart c ws
  command_again (Assign x e) ws h =
      let a = after x (Sign k.Assign ∷ write e) ws h in
      let b = behind k.Assign (write e) a.rest a.rests in
      let i = tree_again e b.rest b.rests in
      record {
        other = Assign a.name i.other;
        writes = push _ _ _ _ a.parts (push _ _ _ _ b.parts (i.writes));
        same =
            rw (a.same, i.same) refl;
      }
  command_again (If e c d) ws h =
      let a = behind k.If (write e ++ Sign k.Then ∷ (write_command c ++ Sign k.Else ∷ write_command d)) ws h in
      let s = split (write e) (Sign k.Then ∷ (write_command c ++ Sign k.Else ∷ write_command d)) a.rest a.rests in
      let i = tree_again e s.one s.ones in
      let b = behind k.Then (write_command c ++ Sign k.Else ∷ write_command d) s.two s.twos in
      let t = split (write_command c) (Sign k.Else ∷ write_command d) b.rest b.rests in
      let j = command_again c t.one t.ones in
      let g = behind k.Else (write_command d) t.two t.twos in
      let l = command_again d g.rest g.rests in
      record {
        other = If i.other j.other l.other;
        writes = push _ _ _ _ a.parts
            (cat _ _ _ _ _ s.parts i.writes
            (push _ _ _ _ b.parts (cat _ _ _ _ _ t.parts j.writes (push _ _ _ _ g.parts (l.writes)))));
        same =
            rw (i.same, j.same, l.same) refl;
      }
  command_again (While e c) ws h =
      let a = behind k.While (write e ++ Sign k.Do ∷ write_command c) ws h in
      let s = split (write e) (Sign k.Do ∷ write_command c) a.rest a.rests in
      let i = tree_again e s.one s.ones in
      let b = behind k.Do (write_command c) s.two s.twos in
      let j = command_again c b.rest b.rests in
      record {
        other = While i.other j.other;
        writes = push _ _ _ _ a.parts
            (cat _ _ _ _ _ s.parts i.writes (push _ _ _ _ b.parts (j.writes)));
        same = rw (i.same, j.same) refl;
      }
  command_again (Letvar x class e c) ws h =
      let a = behind k.Letvar
      (Called x ∷ (write_class class ++ Sign k.Assign ∷ (write e ++ Sign k.In ∷ write_command c))) ws h in
      let n = after x (write_class class ++ Sign k.Assign ∷ (write e ++ Sign k.In ∷ write_command c)) a.rest a.rests
      in
      let s = split (write_class class) (Sign k.Assign ∷ (write e ++ Sign k.In ∷ write_command c)) n.rest n.rests in
      let g = class_again class s.one s.ones in
      let b = behind k.Assign (write e ++ Sign k.In ∷ write_command c) s.two s.twos in
      let t = split (write e) (Sign k.In ∷ write_command c) b.rest b.rests in
      let i = tree_again e t.one t.ones in
      let d = behind k.In (write_command c) t.two t.twos in
      let j = command_again c d.rest d.rests in
      record {
        other = Letvar n.name g.other i.other j.other;
        writes = push _ _ _ _ a.parts
            (push _ _ _ _ n.parts
            (cat _ _ _ _ _ s.parts g.writes
            (push _ _ _ _ b.parts (cat _ _ _ _ _ t.parts i.writes (push _ _ _ _ d.parts (j.writes))))));
        same =
            rw (n.same, g.same, i.same, j.same) refl;
      }
  command_again (Block cs) ws h =
      let a = behind k.OpenBrace (write_body cs ++ Sign k.CloseBrace ∷ []) ws h in
      let s = split (write_body cs) (Sign k.CloseBrace ∷ []) a.rest a.rests in
      let i = body_again cs s.one s.ones in
      let b = behind k.CloseBrace [] s.two s.twos in
      record {
        other = Block i.other;
        writes = push _ _ _ _ a.parts
            (cat _ _ _ _ _ s.parts i.writes (push _ _ _ _ b.parts (nothing_is b.rest b.rests)));
        same =
            rw (i.same) refl;
      }

  -- Lexemes that equal those of a sequence up to spans are written by one that is equal up to spans.
  body_again : (cs : Body) (ws : List Lexeme) → map bare ws ≡ map bare (write_body cs) →
      Again Body write_body body_apart cs ws
  body_again Done ws h = record { other = Done; writes = nothing_is ws h; same = refl }
  body_again (Then c cs) ws h =
      let s = split (write_command c) (write_rest cs) ws h in
      let i = command_again c s.one s.ones in
      let j = rest_again cs s.two s.twos in
      record {
        other = Then i.other j.other;
        writes = cat _ _ _ _ _ s.parts i.writes (j.writes);
        same =
            rw (i.same, j.same) refl;
      }

  -- Lexemes that equal those of the commands after the first up to spans are written by commands that are equal up to
  -- spans.
  rest_again : (cs : Body) (ws : List Lexeme) → map bare ws ≡ map bare (write_rest cs) →
      Again Body write_rest body_apart cs ws
  rest_again Done ws h = record { other = Done; writes = nothing_is ws h; same = refl }
  rest_again (Then c cs) ws h =
      let b = behind k.Semicolon (write_command c ++ write_rest cs) ws h in
      let s = split (write_command c) (write_rest cs) b.rest b.rests in
      let i = command_again c s.one s.ones in
      let j = rest_again cs s.two s.twos in
      record {
        other = Then i.other j.other;
        writes = push _ _ _ _ b.parts
            (cat _ _ _ _ _ s.parts i.writes (j.writes));
        same = rw (i.same, j.same) refl;
      }

-- Lexemes that equal those of globals up to spans are written by globals that are equal up to spans.
globals_again : (gs : List Declared) (ws : List Lexeme) → map bare ws ≡ map bare (write_globals gs) →
    Again (List Declared) write_globals (map global_apart) gs ws
globals_again [] ws h = record { other = []; writes = nothing_is ws h; same = refl }
globals_again (g ∷ gs) ws h =
    let a = behind k.Var (Called g.name ∷ Sign k.Colon ∷ Called g.class ∷ Sign k.Semicolon ∷ write_globals gs) ws h in
    let n = after g.name (Sign k.Colon ∷ Called g.class ∷ Sign k.Semicolon ∷ write_globals gs) a.rest a.rests in
    let b = behind k.Colon (Called g.class ∷ Sign k.Semicolon ∷ write_globals gs) n.rest n.rests in
    let m = after g.class (Sign k.Semicolon ∷ write_globals gs) b.rest b.rests in
    let d = behind k.Semicolon (write_globals gs) m.rest m.rests in
    let i = globals_again gs d.rest d.rests in
    record {
      other = (record { name = n.name; class = m.name }) ∷ i.other;
      writes = push _ _ _ _ a.parts
          (push _ _ _ _ n.parts (push _ _ _ _ b.parts (push _ _ _ _ m.parts (push _ _ _ _ d.parts (i.writes)))));
      same = rw (n.same, m.same, i.same) refl;
    }

-- Lexemes that equal those of a program up to spans are written by one that is equal up to spans.
pub program_relabel : (p : Whole) (ws : List Lexeme) → map bare ws ≡ map bare (write_program p) →
    Again Whole write_program program_apart p ws
program_relabel p ws h =
    let s = split (write_globals p.globals) (write_body p.body) ws h in
    let i = globals_again p.globals s.one s.ones in
    let j = body_again p.body s.two s.twos in
    record {
      other = record { globals = i.other; body = j.other };
      writes = cat _ _ _ _ _ s.parts i.writes (j.writes);
      same = rw (i.same, j.same) refl;
    }
