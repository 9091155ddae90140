-- The lexemes that a program writes are read.
use Rattle.std.proofs.Common.{◌≡◌, ◌≤◌, Bool, true, false, List, [], ◌∷◌, ◌++◌, map, Option, Some, None, refl, sym, ap, subst, ◌∙◌, append_assoc, arith}
use Rattle.std.proofs.lemmas.List.{append-nil}
use Rattle.vsi_syntax.specs.declared.token.Kind.TheVariants as k
use Rattle.vsi_syntax.specs.declared.tree.Op.{Op}
use Rattle.vsi_syntax.specs.declared.tree.Op.TheVariants as o
use Rattle.vsi_syntax.specs.Tree.{Named, Lexeme, Called, Sign, Tree, Number, Name, Bracket, Binary, Command, Assign, If, While, Letvar, Block, Body, Done, Then, Declared, Whole, sign, write, write_class, write_command, write_body, write_rest, write_globals, write_program, level, left_level, right_level, IsLevelled, IsCommandLevelled, IsBodyLevelled, IsRestLevelled}
use Rattle.vsi_syntax.specs.Parsing.{◌>>=◌}
use Rattle.vsi_recovery.specs.declared.sort.Sort.TheVariants as s
use Rattle.vsi_recovery.specs.declared.rules.Wanted.{Wanted}
use Rattle.vsi_recovery.specs.declared.rules.Wanted.TheVariants as w
use Rattle.vsi_recovery.specs.Sorts.{lexeme_sort}
use Rattle.vsi_recovery.specs.Rules.{rules, parts_of, may_be_empty, step, can_end, run, start}
use Rattle.vsi_recovery.proofs.Joining.{weaken, left_sum, right_sum}

-- A step succeeded, and its result has this property.
abbrev pub Steps : Option (List Wanted) → (List Wanted → Type 0) → Type 0
Steps None P = ⊥
Steps (Some xs) P = P xs

-- The lexemes are read to their end, and all parts that are pending then may be omitted.
abbrev pub Accepts : List Wanted → List Lexeme → Type 0
Accepts xs [] = can_end xs ≡ true
Accepts xs (y ∷ ys) = Steps (step xs (lexeme_sort y)) (λ zs. Accepts zs ys)

-- The first of the lexemes does not begin this part.
abbrev pub Passes : Wanted → List Lexeme → Type 0
Passes x [] = Unit {0}
Passes x (y ∷ ys) = parts_of (lexeme_sort y) (rules x) ≡ None

-- A part that is not begun is omitted.
leave : (x : Wanted) (xs : List Wanted) (ws : List Lexeme) → may_be_empty x ≡ true → Passes x ws → Accepts xs ws →
    Accepts (x ∷ xs) ws
leave x xs [] e p h = rw e h
leave x xs (y ∷ ys) e p h = rw (p, e) h

-- No expression continues with the first of the lexemes.
pub record IsOver (ws : List Lexeme) : Type 0 where
  pub expression : Passes w.Operators ws
  pub sum : Passes w.SumOperators ws

-- ---- expressions.

-- The part for an expression, or for a sum if a comparison is not allowed.
abbrev value : Bool → Wanted
value true = w.Expression
value false = w.Sum

-- The part that is pending after an operand.
abbrev behind : Bool → Wanted
behind true = w.Operators
behind false = w.SumOperators

-- A number is read.
number_goes : (b : Bool) (x : Lexeme) (xs : List Wanted) (rest : List Lexeme) → lexeme_sort x ≡ s.Number →
    Accepts (behind b ∷ xs) rest → Accepts (value b ∷ xs) (x ∷ rest)
number_goes true x xs rest e h = rw e h
number_goes false x xs rest e h = rw e h

-- A name is read.
name_goes : (b : Bool) (x : Lexeme) (xs : List Wanted) (rest : List Lexeme) → lexeme_sort x ≡ s.Name →
    Accepts (behind b ∷ xs) rest → Accepts (value b ∷ xs) (x ∷ rest)
name_goes true x xs rest e h = rw e h
name_goes false x xs rest e h = rw e h

-- A bracket is read if the expression in it is.
bracket_goes : (b : Bool) (e : Tree) (xs : List Wanted) (rest : List Lexeme) →
    Accepts (w.Expression ∷ w.Token s.Close ∷ behind b ∷ xs) (write e ++ Sign k.Close ∷ rest) →
    Accepts (value b ∷ xs) (write (Bracket e) ++ rest)
bracket_goes true e xs rest h = rw (append_assoc (write e) (Sign k.Close ∷ []) rest) h
bracket_goes false e xs rest h = rw (append_assoc (write e) (Sign k.Close ∷ []) rest) h

-- An arithmetic operator is read.
operator_goes : (b : Bool) (op : Op) (xs : List Wanted) (ws : List Lexeme) → 1 ≤ level op → Accepts (value b ∷ xs) ws →
    Accepts (behind b ∷ xs) (Sign (sign op) ∷ ws)
operator_goes true o.Add xs ws sum h = h
operator_goes true o.Sub xs ws sum h = h
operator_goes true o.Mul xs ws sum h = h
operator_goes true o.Eq xs ws sum h = absurd (omega (arith, sum))
operator_goes true o.Lt xs ws sum h = absurd (omega (arith, sum))
operator_goes false o.Add xs ws sum h = h
operator_goes false o.Sub xs ws sum h = h
operator_goes false o.Mul xs ws sum h = h
operator_goes false o.Eq xs ws sum h = absurd (omega (arith, sum))
operator_goes false o.Lt xs ws sum h = absurd (omega (arith, sum))

-- Any operator is read if a comparison is allowed.
any_goes : (op : Op) (xs : List Wanted) (ws : List Lexeme) → Accepts (w.Expression ∷ xs) ws → Accepts (w.Sum ∷ xs) ws →
    Accepts (w.Operators ∷ xs) (Sign (sign op) ∷ ws)
any_goes o.Add xs ws h i = h
any_goes o.Sub xs ws h i = h
any_goes o.Mul xs ws h i = h
any_goes o.Eq xs ws h i = i
any_goes o.Lt xs ws h i = i

-- The lexemes of an operator and its operands, regrouped from the left.
regroup : (a : List Lexeme) (y : Lexeme) (b rest : List Lexeme) (xs : List Wanted) →
    Accepts xs (a ++ y ∷ (b ++ rest)) → Accepts xs ((a ++ y ∷ b) ++ rest)
regroup a y b rest xs h = subst (Accepts xs) (sym (append_assoc a (y ∷ b) rest)) h

mutual
  -- A sum is read.
  sum_goes : (t : Tree) (b : Bool) (xs : List Wanted) (rest : List Lexeme) → IsLevelled 1 t →
      Accepts (behind b ∷ xs) rest → Accepts (value b ∷ xs) (write t ++ rest)
  sum_goes (Number n) b xs rest lt h = number_goes b (Sign (k.Number n)) xs rest refl h
  sum_goes (Name x) b xs rest lt h = name_goes b (Called x) xs rest refl h
  sum_goes (Bracket e) b xs rest lt h =
      bracket_goes b e xs rest
      (expression_goes e (w.Token s.Close ∷ behind b ∷ xs) (Sign k.Close ∷ rest) lt h h)
  sum_goes (Binary op a c) b xs rest lt h =
      regroup (write a) (Sign (sign op)) (write c) rest (value b ∷ xs)
      (sum_goes a b xs (Sign (sign op) ∷ (write c ++ rest)) (weaken (left_level op) 1 a lt.1 (left_sum op))
      (operator_goes b op xs (write c ++ rest) lt.0
      (sum_goes c b xs rest (weaken (right_level op) 1 c lt.2 (right_sum op)) h)))

  -- An expression is read.
  expression_goes : (t : Tree) (xs : List Wanted) (rest : List Lexeme) → IsLevelled 0 t →
      Accepts (w.Operators ∷ xs) rest → Accepts (w.SumOperators ∷ xs) rest →
      Accepts (w.Expression ∷ xs) (write t ++ rest)
  expression_goes (Number n) xs rest lt h i = number_goes true (Sign (k.Number n)) xs rest refl h
  expression_goes (Name x) xs rest lt h i = name_goes true (Called x) xs rest refl h
  expression_goes (Bracket e) xs rest lt h i =
      bracket_goes true e xs rest
      (expression_goes e (w.Token s.Close ∷ w.Operators ∷ xs) (Sign k.Close ∷ rest) lt h h)
  expression_goes (Binary op a c) xs rest lt h i =
      let lc = weaken (right_level op) 1 c lt.2 (right_sum op) in
      regroup (write a) (Sign (sign op)) (write c) rest (w.Expression ∷ xs)
      (sum_goes a true xs (Sign (sign op) ∷ (write c ++ rest)) (weaken (left_level op) 1 a lt.1 (left_sum op))
      (any_goes op xs (write c ++ rest) (sum_goes c true xs rest lc h) (sum_goes c false xs rest lc i)))

-- An expression is read if it ends before the rest.
value_goes : (t : Tree) (xs : List Wanted) (rest : List Lexeme) → IsLevelled 0 t → IsOver rest → Accepts xs rest →
    Accepts (w.Expression ∷ xs) (write t ++ rest)
value_goes t xs rest lt over h =
    expression_goes t xs rest lt (leave w.Operators xs rest refl over.expression h)
    (leave w.SumOperators xs rest refl over.sum h)

-- ---- commands.

-- No expression continues after a command if none continues after all commands.
rest_over : (cs : Body) (rest : List Lexeme) → IsOver rest → IsOver (write_rest cs ++ rest)
rest_over Done rest over = over
rest_over (Then c cs) rest over = record { expression = refl; sum = refl }

-- A class is read, or omitted.
class_goes : (class : Option Named) (xs : List Wanted) (rest : List Lexeme) →
    Accepts (w.Token s.Assign ∷ xs) (Sign k.Assign ∷ rest) →
    Accepts (w.Class ∷ w.Token s.Assign ∷ xs) (write_class class ++ Sign k.Assign ∷ rest)
class_goes None xs rest h = h
class_goes (Some class) xs rest h = h

mutual
  -- A command is read.
  command_goes : (c : Command) (xs : List Wanted) (rest : List Lexeme) → IsCommandLevelled c → IsOver rest →
      Accepts xs rest → Accepts (w.Command ∷ xs) (write_command c ++ rest)
  command_goes (Assign x e) xs rest lc over h = value_goes e xs rest lc over h
  command_goes (If e c d) xs rest lc over h =
      let hd = command_goes d xs rest lc.2 over h in
      let hc : Accepts (w.Command ∷ w.Token s.Else ∷ w.Command ∷ xs)
      (write_command c ++ Sign k.Else ∷ (write_command d ++ rest)) =
      command_goes c (w.Token s.Else ∷ w.Command ∷ xs) (Sign k.Else ∷ (write_command d ++ rest)) lc.1
      (record { expression = refl; sum = refl }) hd in
      let he = value_goes e (w.Token s.Then ∷ w.Command ∷ w.Token s.Else ∷ w.Command ∷ xs)
      (Sign k.Then ∷ (write_command c ++ Sign k.Else ∷ (write_command d ++ rest))) lc.0
      (record { expression = refl; sum = refl }) hc in
      rw (
        append_assoc (write e) (Sign k.Then ∷ (write_command c ++ Sign k.Else ∷ write_command d)) rest,
        append_assoc (write_command c) (Sign k.Else ∷ write_command d) rest,
      ) he
  command_goes (While e c) xs rest lc over h =
      let hc = command_goes c xs rest lc.1 over h in
      let he = value_goes e (w.Token s.Do ∷ w.Command ∷ xs) (Sign k.Do ∷ (write_command c ++ rest)) lc.0
      (record { expression = refl; sum = refl }) hc in
      rw (append_assoc (write e) (Sign k.Do ∷ write_command c) rest) he
  command_goes (Letvar x class e c) xs rest lc over h =
      let hc = command_goes c xs rest lc.1 over h in
      let he = value_goes e (w.Token s.In ∷ w.Command ∷ xs) (Sign k.In ∷ (write_command c ++ rest)) lc.0
      (record { expression = refl; sum = refl }) hc in
      let ha = class_goes class (w.Expression ∷ w.Token s.In ∷ w.Command ∷ xs)
      (write e ++ Sign k.In ∷ (write_command c ++ rest)) he in
      rw (
        append_assoc (write_class class) (Sign k.Assign ∷ (write e ++ Sign k.In ∷ write_command c)) rest,
        append_assoc (write e) (Sign k.In ∷ write_command c) rest,
      ) ha
  command_goes (Block cs) xs rest lc over h =
      rw (append_assoc (write_body cs) (Sign k.CloseBrace ∷ []) rest)
      (body_goes cs (w.Token s.CloseBrace ∷ xs) (Sign k.CloseBrace ∷ rest) lc
      (record { expression = refl; sum = refl }) refl h)

  -- A sequence is read.
  body_goes : (cs : Body) (xs : List Wanted) (rest : List Lexeme) → IsBodyLevelled cs → IsOver rest →
      Passes w.Rest rest → Accepts xs rest → Accepts (w.Command ∷ w.Rest ∷ xs) (write_body cs ++ rest)
  body_goes Done xs rest lc over p h = absurd lc
  body_goes (Then c cs) xs rest lc over p h =
      rw (append_assoc (write_command c) (write_rest cs) rest)
      (command_goes c (w.Rest ∷ xs) (write_rest cs ++ rest) lc.0 (rest_over cs rest over)
      (rest_goes cs xs rest lc.1 over p h))

  -- The commands after the first are read.
  rest_goes : (cs : Body) (xs : List Wanted) (rest : List Lexeme) → IsRestLevelled cs → IsOver rest →
      Passes w.Rest rest → Accepts xs rest → Accepts (w.Rest ∷ xs) (write_rest cs ++ rest)
  rest_goes Done xs rest lc over p h = leave w.Rest xs rest refl p h
  rest_goes (Then c cs) xs rest lc over p h =
      rw (append_assoc (write_command c) (write_rest cs) rest)
      (command_goes c (w.Rest ∷ xs) (write_rest cs ++ rest) lc.0 (rest_over cs rest over)
      (rest_goes cs xs rest lc.1 over p h))

-- ---- programs.

-- A command does not begin with `var`.
command_passes : (c : Command) (rest : List Lexeme) → Passes w.Globals (write_command c ++ rest)
command_passes (Assign x e) rest = refl
command_passes (If e c d) rest = refl
command_passes (While e c) rest = refl
command_passes (Letvar x class e c) rest = refl
command_passes (Block cs) rest = refl

-- A sequence does not begin with `var`.
body_passes : (cs : Body) → IsBodyLevelled cs → Passes w.Globals (write_body cs)
body_passes Done lc = absurd lc
body_passes (Then c cs) lc = command_passes c (write_rest cs)

-- Globals are read.
globals_go : (gs : List Declared) (xs : List Wanted) (rest : List Lexeme) → Passes w.Globals rest →
    Accepts xs rest → Accepts (w.Globals ∷ xs) (write_globals gs ++ rest)
globals_go [] xs rest p h = leave w.Globals xs rest refl p h
globals_go (g ∷ gs) xs rest p h = globals_go gs xs rest p h

-- A program is read from the start.
pub program_goes : (p : Whole) → IsBodyLevelled p.body → Accepts start (write_program p)
program_goes p lb =
    globals_go p.globals (w.Command ∷ w.Rest ∷ []) (write_body p.body) (body_passes p.body lb)
    (subst (Accepts (w.Command ∷ w.Rest ∷ [])) (append-nil (write_body p.body))
    (body_goes p.body [] [] lb (record { expression = tt; sum = tt }) tt refl))

-- ---- beginnings.

-- A step that succeeded has a result.
pub steps_some : (found : Option (List Wanted)) (P : List Wanted → Type 0) → Steps found P →
    (xs : List Wanted) × (found ≡ Some xs) × P xs
steps_some None P h = absurd h
steps_some (Some xs) P h = (xs, refl, h)

-- Accepted lexemes are read up to any position in them.
pub prefix_goes : (xs : List Wanted) (ws rest : List Lexeme) → Accepts xs (ws ++ rest) →
    (ys : List Wanted) × (run xs (map lexeme_sort ws) ≡ Some ys) × Accepts ys rest
prefix_goes xs [] rest h = (xs, refl, h)
prefix_goes xs (y ∷ ws) rest h =
    let a = steps_some (step xs (lexeme_sort y)) (λ zs. Accepts zs (ws ++ rest)) h in
    let b = prefix_goes a.0 ws rest a.2 in (
      b.0,
      ap (λ (found : Option (List Wanted)). found >>= λ zs. run zs (map lexeme_sort ws)) a.1 ∙ b.1,
      b.2,
    )
