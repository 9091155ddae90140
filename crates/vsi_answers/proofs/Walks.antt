-- Walks over the commands of the code that stamp locations.
use Rattle.std.proofs.Common.{◌≡◌, ℕ, ◌+◌, ◌<◌, Bool, false, List, [], ◌∷◌, ◌++◌, length, get_or, set, take, Vec, Global, refl, sym, ap, subst, ◌∙◌}
use Rattle.std.specs.Prelude.{not}
use Rattle.std.proofs.lemmas.List.{append-nil, append_assoc, take_more}
use Rattle.vsi_scope.specs.declared.program.Ex.{Ex}
use Rattle.vsi_scope.specs.declared.program.Cmd.{Cmd}
use Rattle.vsi_scope.specs.declared.program.Cmd.TheViews as view
use Rattle.vsi_scope.specs.Language.{If, While}
use Rattle.vsi_scope.specs.View.{expression, command, sequence}
use Rattle.vsi_scope.proofs.Views.{command_If, command_While, command_Letvar}
use Rattle.vsi_answers.specs.Warned.{assigned, unchanged}
use Rattle.vsi_answers.specs.Stamps.{reads_above, IsWalked}
use Rattle.vsi_answers.proofs.Finds.{found_more}
use Rattle.vsi_answers.proofs.Marks.{walked_both, walked_loop}

-- The loops of a list with one more command.
unchanged_push : (cs : List Cmd) (c : Cmd) →
    unchanged (sequence (cs ++ c ∷ [])) ≡ unchanged (sequence cs) ++ unchanged (command c)
unchanged_push [] c = append-nil (unchanged (command c))
unchanged_push (d ∷ cs) c =
    ap (λ l. unchanged (command d) ++ l) (unchanged_push cs c)
    ∙ sym (append_assoc (unchanged (command d)) (unchanged (sequence cs)) (unchanged (command c)))

-- The loops of the first commands of a list and of the next one.
unchanged_more : (cs : List Cmd) (i : ℕ) (c : Cmd) → i < length cs → c ≡ get_or cs i c →
    unchanged (sequence (take (i + 1) cs)) ≡ unchanged (sequence (take i cs)) ++ unchanged (command c)
unchanged_more cs i c lt is =
    ap (λ l. unchanged (sequence l)) (take_more cs i c lt)
    ∙ unchanged_push (take i cs) (get_or cs i c)
    ∙ ap (λ x. unchanged (sequence (take i cs)) ++ unchanged (command x)) (sym is)

-- A walk over a list of commands that has passed one more of them.
pub walked_more : (cs : List Cmd) (i : ℕ) (c : Cmd) (xs us ys : List Bool) (ss rs ts : List ℕ) → i < length cs →
    c ≡ get_or cs i c → IsWalked (sequence (take i cs)) xs ss us rs → IsWalked (command c) us rs ys ts →
    IsWalked (sequence (take (i + 1) cs)) xs ss ys ts
walked_more cs i c xs us ys ss rs ts lt is p q =
    walked_both (sequence (take i cs)) (command c) (sequence (take (i + 1) cs)) xs us ys ss rs ts
    (unchanged_more cs i c lt is)
    (λ l. found_more (λ k. assigned k l) refl (λ a b. refl) cs i c lt is) p q

-- A walk over an `if`.
pub walked_if : (c : Cmd) (e : Ex) (y n : Vec Cmd Global) (bs ds : List Cmd) (xs us ys : List Bool)
    (ss rs ts : List ℕ) → c ≡ view.If e y n → bs ≡ y.items → ds ≡ n.items → IsWalked (sequence bs) xs ss us rs →
    IsWalked (sequence ds) us rs ys ts → IsWalked (command c) xs ss ys ts
walked_if c e y n bs ds xs us ys ss rs ts is ib id p q =
    subst (λ x. IsWalked x xs ss ys ts) (sym (ap command is ∙ command_If e y n))
    (walked_both (sequence y.items) (sequence n.items)
    (If (expression e) (sequence y.items) (sequence n.items)) xs us ys ss rs ts refl (λ l. refl)
    (subst (λ l. IsWalked (sequence l) xs ss us rs) ib p) (subst (λ l. IsWalked (sequence l) us rs ys ts) id q))

-- A walk over a loop.
pub walked_while : (c : Cmd) (e : Ex) (b : Vec Cmd Global) (bs : List Cmd) (n : ℕ) (xs us zs : List Bool)
    (ss ts vs : List ℕ) (r : Bool) → c ≡ view.While e b → bs ≡ b.items → n ≡ length xs → us ≡ xs ++ false ∷ [] →
    IsWalked (sequence bs) us ss zs ts → vs ≡ ts → r ≡ reads_above vs n (expression e) →
    IsWalked (command c) xs ss (set zs n (not r)) ts
walked_while c e b bs n xs us zs ss ts vs r is ib long push p same read =
    let body : IsWalked (sequence b.items) (xs ++ false ∷ []) ss zs ts =
    subst (λ l. IsWalked (sequence l) (xs ++ false ∷ []) ss zs ts) ib
    (subst (λ l. IsWalked (sequence bs) l ss zs ts) push p) in
    let answer : r ≡ reads_above ts (length xs) (expression e) =
    read ∙ ap (λ l. reads_above l n (expression e)) same ∙ ap (λ k. reads_above ts k (expression e)) long in
    let whole : IsWalked (While (expression e) (sequence b.items)) xs ss (set zs n (not r)) ts =
    subst (λ k. IsWalked (While (expression e) (sequence b.items)) xs ss (set zs k (not r)) ts) (sym long)
    (subst (λ t. IsWalked (While (expression e) (sequence b.items)) xs ss (set zs (length xs) (not t)) ts)
    (sym answer) (walked_loop (expression e) (sequence b.items) xs zs ss ts body)) in
    subst (λ x. IsWalked x xs ss (set zs n (not r)) ts) (sym (ap command is ∙ command_While e b)) whole

-- A walk over a letvar.
pub walked_letvar : (c : Cmd) (e : Ex) (b : Vec Cmd Global) (bs : List Cmd) (xs ys : List Bool) (ss ts : List ℕ) →
    c ≡ view.Letvar e b → bs ≡ b.items → IsWalked (sequence bs) xs ss ys ts → IsWalked (command c) xs ss ys ts
walked_letvar c e b bs xs ys ss ts is ib p =
    subst (λ x. IsWalked x xs ss ys ts) (sym (ap command is ∙ command_Letvar e b))
    (subst (λ l. IsWalked (sequence l) xs ss ys ts) ib p)
