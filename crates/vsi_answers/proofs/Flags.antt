-- Answers that a walk over commands adds to a list.
use Rattle.std.proofs.Common.{◌≡◌, ℕ, ◌+◌, ◌<◌, ◌≤◌, Bool, List, [], ◌∷◌, ◌++◌, length, get_or, drop, Vec, Global, refl, sym, ap, ◌∙◌}
use Rattle.std.proofs.lemmas.List.{drop_more, drop_all}
use Rattle.vsi_scope.specs.declared.program.Ex.{Ex}
use Rattle.vsi_scope.specs.declared.program.Cmd.{Cmd}
use Rattle.vsi_scope.specs.declared.program.Cmd.TheViews as view
use Rattle.vsi_scope.specs.Language.{Command, Expression, Skip, Sequence, If}
use Rattle.vsi_scope.specs.View.{expression, command, sequence}
use Rattle.vsi_scope.proofs.Views.{command_If}

-- Two lists joined to a third.
joined : (xs ys zs : List Bool) → (xs ++ ys) ++ zs ≡ xs ++ (ys ++ zs)
joined [] ys zs = refl
joined (x ∷ xs) ys zs = ap (λ l. x ∷ l) (joined xs ys zs)

-- A list joined to the empty one.
joined_nothing : (xs : List Bool) → xs ++ [] ≡ xs
joined_nothing [] = refl
joined_nothing (x ∷ xs) = ap (λ l. x ∷ l) (joined_nothing xs)

-- The answers for two commands, one after the other, are those for both in a row.
abbrev pub IsRow : (Command → List Bool) → Type 0
IsRow f = (a b : Command) → f (Sequence a b) ≡ f a ++ f b

-- The answers for a choice are those for its branches.
abbrev pub IsChoice : (Command → List Bool) → Type 0
IsChoice f = (e : Expression) (a b : Command) → f (If e a b) ≡ f a ++ f b

-- A walk over a list of commands that has passed one more of them.
pub passed_more : (f : Command → List Bool) → IsRow f → (cs : List Cmd) (i : ℕ) (c : Cmd) (xs ys : List Bool) →
    i < length cs → c ≡ get_or cs i c → ys ≡ xs ++ f (command c) →
    ys ++ f (sequence (drop (i + 1) cs)) ≡ xs ++ f (sequence (drop i cs))
passed_more f row cs i c xs ys lt is p =
    let rest = sequence (drop (i + 1) cs) in
    ap (λ l. l ++ f rest) p
    ∙ joined xs (f (command c)) (f rest)
    ∙ ap (λ l. xs ++ l) (sym (row (command c) rest))
    ∙ ap (λ x. xs ++ f (Sequence (command x) rest)) is
    ∙ ap (λ l. xs ++ f (sequence l)) (sym (drop_more cs i c lt))

-- A walk over a list of commands that has reached the end.
pub passed_all : (f : Command → List Bool) → f Skip ≡ [] → (cs : List Cmd) (i : ℕ) (xs : List Bool) →
    length cs ≤ i → xs ++ f (sequence (drop i cs)) ≡ xs
passed_all f none cs i xs le =
    ap (λ l. xs ++ f (sequence l)) (drop_all i cs le) ∙ ap (λ l. xs ++ l) none ∙ joined_nothing xs

-- A walk over an `if`.
pub passed_if : (f : Command → List Bool) → IsChoice f → (c : Cmd) (e : Ex) (y n : Vec Cmd Global) (ys ns : List Cmd)
    (xs us bs : List Bool) → c ≡ view.If e y n → ys ≡ y.items → ns ≡ n.items → us ≡ xs ++ f (sequence ys) →
    bs ≡ us ++ f (sequence ns) → bs ≡ xs ++ f (command c)
passed_if f choice c e y n ys ns xs us bs is iy in' p q =
    q ∙ ap (λ l. l ++ f (sequence ns)) p ∙ joined xs (f (sequence ys)) (f (sequence ns))
    ∙ ap (λ l. xs ++ (f (sequence l) ++ f (sequence ns))) iy
    ∙ ap (λ l. xs ++ (f (sequence y.items) ++ f (sequence l))) in'
    ∙ ap (λ l. xs ++ l) (sym (choice (expression e) (sequence y.items) (sequence n.items))
    ∙ ap f (sym (command_If e y n)) ∙ ap (λ x. f (command x)) (sym is))

-- A walk over a body that is all of a command.
pub passed_same : (f : Command → List Bool) (c : Cmd) (bs cs : List Cmd) (xs ys : List Bool) →
    f (command c) ≡ f (sequence cs) → bs ≡ cs → ys ≡ xs ++ f (sequence bs) → ys ≡ xs ++ f (command c)
passed_same f c bs cs xs ys e same p =
    p ∙ ap (λ l. xs ++ f (sequence l)) same ∙ ap (λ l. xs ++ l) (sym e)

-- A walk over a body after an answer for the whole.
pub passed_first : (xs us bs zs : List Bool) (b : Bool) (ws vs : List Bool) → us ≡ xs ++ b ∷ [] → bs ≡ us ++ ws →
    ws ≡ vs → zs ≡ b ∷ vs → bs ≡ xs ++ zs
passed_first xs us bs zs b ws vs p q e z =
    q ∙ ap (λ l. l ++ ws) p ∙ joined xs (b ∷ []) ws ∙ ap (λ l. xs ++ b ∷ l) e ∙ ap (λ l. xs ++ l) (sym z)
