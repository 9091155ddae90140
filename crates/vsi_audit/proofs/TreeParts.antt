-- A tree that writes commands, put together from its parts.
use Rattle.std.proofs.Common.{◌≡◌, ℕ, ◌+◌, ◌<◌, List, [], ◌∷◌, ◌++◌, length, map, take, get_or, ℤ, pos, negsuc, neg_ℤ, ◌≤ℤ◌, ◌<ℤ◌, refl, sym, ap, subst, ◌∙◌, ◌≤◌, arith, false, true≢false, Option, Some, None, is_some, Bor, w64, SFits, to_z, of_z, ◌-ℤ◌}
use Rattle.std.proofs.lemmas.List.{take_more, take_all, map-append}
use Rattle.std.proofs.lemmas.Int.{ints, to_z-of_z}
use Rattle.vsi_syntax.specs.declared.tree.Stmt.{Stmt}
use Rattle.vsi_syntax.specs.declared.tree.Op.{Op}
use Rattle.vsi_syntax.specs.declared.tree.Op.TheVariants as o
use Rattle.vsi_syntax.specs.Tree as tree
use Rattle.vsi_syntax.specs.CommandView as syntax
use Rattle.vsi_scope.specs.declared.program.Cmd.{Cmd}
use Rattle.vsi_scope.specs.Language.{Expression, Number, Operator, Command, Skip, If, While, Letvar}
use Rattle.vsi_scope.specs.Scopes.{Scope}
use Rattle.vsi_scope.specs.View.{command, sequence}
use Rattle.vsi_audit.specs.Writing.{WritesExpression, number, below, least, operator, WritesCommand, choice, loop, letvar, WritesPart, WritesAll, nothing, WritesRest, done, more}
use Rattle.vsi_audit.specs.declared.writing.InScope.{InScope}
use Rattle.vsi_audit.specs.Written.{names_of}

-- A number of at least 0 is written.
pub number_written : (names : Scope) (n : ℤ) (t : tree.Tree) → pos 0 ≤ℤ n → t ≡ tree.Number n →
    WritesExpression names (Number n) t
number_written names n t low e = subst (WritesExpression names (Number n)) (sym e) (number low)

-- A word is unchanged when it is written and read back.
pub same_word : (n : ℤ) → SFits w64 n → to_z w64 (of_z w64 n) ≡ n
same_word n fits = to_z-of_z w64 n fits

-- Machine negation of a word other than the least gives its opposite.
pub same_opposite : (n : ℤ) → SFits w64 n → negsuc 9223372036854775807 <ℤ n →
    to_z w64 (of_z w64 (pos 0 -ℤ to_z w64 (of_z w64 n))) ≡ neg_ℤ n
same_opposite n fits low = grind (arith, ints, to_z-of_z)

-- The least number is written as a sum.
pub least_written : (names : Scope) (n : ℤ) (t left right : tree.Tree) → t ≡ tree.Binary o.Add left right →
    n ≡ negsuc 9223372036854775807 → left ≡ tree.Number (pos 9223372036854775807) → right ≡ tree.Number (pos 1) →
    WritesExpression names (Number n) t
least_written names n t left right whole is a b =
    subst (λ (m : ℤ). WritesExpression names (Number m) t) (sym is)
    (subst (WritesExpression names (Number (negsuc 9223372036854775807)))
    (sym (whole ∙ ap (λ x. tree.Binary o.Add x right) a
    ∙ ap (λ x. tree.Binary o.Add (tree.Number (pos 9223372036854775807)) x) b)) least)

-- Any other number below 0 is written as a difference.
pub below_written : (names : Scope) (n : ℤ) (t left right : tree.Tree) → t ≡ tree.Binary o.Sub left right →
    n <ℤ pos 0 → negsuc 9223372036854775807 <ℤ n → left ≡ tree.Number (pos 0) → right ≡ tree.Number (neg_ℤ n) →
    WritesExpression names (Number n) t
below_written names n t left right whole high low a b =
    subst (WritesExpression names (Number n))
    (sym (whole ∙ ap (λ x. tree.Binary o.Sub x right) a ∙ ap (tree.Binary o.Sub (tree.Number (pos 0))) b))
    (below high low)

-- An operator is written.
pub operator_written : (names : Scope) (e a b : Expression) (t left right : tree.Tree) (op other : Op) →
    e ≡ Operator op a b → t ≡ tree.Binary other left right → op ≡ other → WritesExpression names a left →
    WritesExpression names b right → WritesExpression names e t
operator_written names e a b t left right op other p q same first second =
    subst (λ (x : Expression). WritesExpression names x t) (sym p)
    (subst (WritesExpression names (Operator op a b))
    (sym (q ∙ ap (λ (k : Op). tree.Binary k left right) (sym same))) (operator first second))

-- A letvar that does nothing is written.
pub idle_written : (names : Scope) (c : tree.Command) (x y : tree.Named) (class : Option tree.Named)
    (t u : tree.Tree) → c ≡ tree.Letvar x class t (tree.Assign y u) → class ≡ None → x.text ≡ y.text →
    t ≡ tree.Number (pos 0) → u ≡ tree.Number (pos 0) → WritesAll names Skip (tree.Then c tree.Done)
idle_written names c x y class t u whole bare same a b =
    subst (λ (d : tree.Command). WritesAll names Skip (tree.Then d tree.Done))
    (sym (whole ∙ ap (λ k. tree.Letvar x k t (tree.Assign y u)) bare
    ∙ ap (λ v. tree.Letvar x None v (tree.Assign y u)) a
    ∙ ap (λ v. tree.Letvar x None (tree.Number (pos 0)) (tree.Assign y v)) b))
    (nothing x y same)

-- If a test finds no value, there is none.
pub is_absent : {A : Type 0} (o : Option A) → is_some o ≡ false → o ≡ None
is_absent None h = refl
is_absent (Some x) h = absurd (true≢false h)

-- A list of length 0 is empty.
pub is_nil : (cs : List Cmd) → length cs < 1 → cs ≡ []
is_nil [] lt = refl
is_nil (c ∷ cs) lt = absurd (omega (arith, lt))

-- A list of length 1 has one element.
pub is_single : (cs : List Cmd) (c : Cmd) → 1 ≤ length cs → length cs < 2 → c ≡ get_or cs 0 c → cs ≡ c ∷ []
is_single [] c low high e = absurd (omega (arith, low))
is_single (d ∷ []) c low high e = ap (λ (x : Cmd). x ∷ []) (sym e)
is_single (d ∷ f ∷ cs) c low high e = absurd (omega (arith, high))

-- Equal names in memory are equal names.
pub names_kept : (a b : InScope) → a.names.items ≡ b.names.items → names_of a ≡ names_of b
names_kept a b e = ap (map (λ (x : Bor (List ℕ)). x.now)) e

-- Entering a scope adds one more name.
pub names_entered : (a b : InScope) (x : Bor (List ℕ)) → a.names.items ≡ b.names.items ++ x ∷ [] →
    names_of a ≡ names_of b ++ x.now ∷ []
names_entered a b x e =
    ap (map (λ (y : Bor (List ℕ)). y.now)) e ∙ map-append (λ (y : Bor (List ℕ)). y.now) b.names.items (x ∷ [])

-- A command is written by a tree if equal ones are.
pub command_written : (names : Scope) (c d : Command) (s t : tree.Command) → c ≡ d → s ≡ t →
    WritesCommand names d t → WritesCommand names c s
command_written names c d s t p q w =
    subst (λ (x : Command). WritesCommand names x s) (sym p) (subst (WritesCommand names d) (sym q) w)

-- A choice is written.
pub choice_written : (names other : Scope) (c : Command) (s : tree.Command) (e : Expression) (t : tree.Tree)
    (us vs cs ds : List Cmd) (first second : tree.Command) → c ≡ If e (sequence us) (sequence vs) →
    s ≡ tree.If t first second → cs ≡ us → ds ≡ vs → other ≡ names → WritesExpression names e t →
    WritesPart names (sequence cs) first → WritesPart other (sequence ds) second → WritesCommand names c s
choice_written names other c s e t us vs cs ds first second p q x y same guard v w =
    command_written names c (If e (sequence us) (sequence vs)) s (tree.If t first second) p q
    (choice guard (subst (λ l. WritesPart names (sequence l) first) x v)
    (subst (λ n. WritesPart n (sequence vs) second) same (subst (λ l. WritesPart other (sequence l) second) y w)))

-- A loop is written.
pub loop_written : (names : Scope) (c : Command) (s : tree.Command) (e : Expression) (t : tree.Tree)
    (us cs : List Cmd) (body : tree.Command) → c ≡ While e (sequence us) → s ≡ tree.While t body → cs ≡ us →
    WritesExpression names e t → WritesPart names (sequence cs) body → WritesCommand names c s
loop_written names c s e t us cs body p q x guard w =
    command_written names c (While e (sequence us)) s (tree.While t body) p q
    (loop guard (subst (λ l. WritesPart names (sequence l) body) x w))

-- A letvar is written.
pub local_written : (names other : Scope) (c : Command) (s : tree.Command) (e : Expression) (t : tree.Tree)
    (us cs : List Cmd) (x : tree.Named) (class : Option tree.Named) (body : tree.Command) →
    c ≡ Letvar e (sequence us) → s ≡ tree.Letvar x class t body → class ≡ None → cs ≡ us →
    other ≡ names ++ x.text ∷ [] → WritesExpression names e t → WritesPart other (sequence cs) body →
    WritesCommand names c s
local_written names other c s e t us cs x class body p q bare l same value w =
    command_written names c (Letvar e (sequence us)) s (tree.Letvar x None t body) p
    (q ∙ ap (λ k. tree.Letvar x k t body) bare)
    (letvar value (subst (λ n. WritesPart n (sequence us) body) same
    (subst (λ k. WritesPart other (sequence k) body) l w)))

-- Each command is written by the statement at its place.
abbrev pub AreWritten : Scope → List Cmd → List Stmt → Type 0
AreWritten names [] [] = Unit {0}
AreWritten names [] (s ∷ ss) = ⊥
AreWritten names (c ∷ cs) [] = ⊥
AreWritten names (c ∷ cs) (s ∷ ss) = WritesCommand names (command c) (syntax.command s) × AreWritten names cs ss

-- One more command is written.
written_push : (names : Scope) (cs : List Cmd) (ss : List Stmt) (c : Cmd) (s : Stmt) → AreWritten names cs ss →
    WritesCommand names (command c) (syntax.command s) → AreWritten names (cs ++ c ∷ []) (ss ++ s ∷ [])
written_push names [] [] c s h w = (w, tt)
written_push names [] (t ∷ ss) c s h w = absurd h
written_push names (d ∷ cs) [] c s h w = absurd h
written_push names (d ∷ cs) (t ∷ ss) c s h w = (h.0, written_push names cs ss c s h.1 w)

-- The first commands are written, and so is the next one.
pub written_more : (names : Scope) (cs : List Cmd) (ss : List Stmt) (i : ℕ) (c : Cmd) (s : Stmt) → i < length cs →
    i < length ss → c ≡ get_or cs i c → s ≡ get_or ss i s → AreWritten names (take i cs) (take i ss) →
    WritesCommand names (command c) (syntax.command s) → AreWritten names (take (i + 1) cs) (take (i + 1) ss)
written_more names cs ss i c s lt within p q h w =
    subst (λ l. AreWritten names l (take (i + 1) ss)) (sym (take_more cs i c lt))
    (subst (AreWritten names (take i cs ++ get_or cs i c ∷ [])) (sym (take_more ss i s within))
    (written_push names (take i cs) (take i ss) (get_or cs i c) (get_or ss i s) h
    (subst (λ (x : Cmd). WritesCommand names (command x) (syntax.command (get_or ss i s))) p
    (subst (λ (y : Stmt). WritesCommand names (command c) (syntax.command y)) q w))))

-- Commands that are each written are written as a sequence.
pub rest_written : (names : Scope) (cs : List Cmd) (ss : List Stmt) → AreWritten names cs ss →
    WritesRest names (sequence cs) (syntax.body_of ss)
rest_written names [] [] h = done
rest_written names [] (s ∷ ss) h = absurd h
rest_written names (c ∷ cs) [] h = absurd h
rest_written names (c ∷ cs) (s ∷ ss) h = more h.0 (rest_written names cs ss h.1)

-- If no more commands are left, the first ones are all of them.
pub first_all : (names : Scope) (cs : List Cmd) (ss : List Stmt) (n : ℕ) → length cs ≤ n → length cs ≡ length ss →
    AreWritten names (take n cs) (take n ss) → AreWritten names cs ss
first_all names cs ss n le same h =
    subst (λ l. AreWritten names l ss) (take_all n cs le)
    (subst (AreWritten names (take n cs)) (take_all n ss (omega (arith, le, same))) h)
