-- The result of folding each kind of command.
use Rattle.std.proofs.Common.{◌≡◌, Bool, Option, Some, Vec, Global, sym, ap, ◌∙◌}
use Rattle.vsi_scope.specs.declared.program.Ex.{Ex}
use Rattle.vsi_scope.specs.declared.program.Cmd.{Cmd}
use Rattle.vsi_scope.specs.declared.program.Cmd.TheViews as view
use Rattle.vsi_scope.specs.Language.{Command, If, While, Letvar}
use Rattle.vsi_scope.specs.View.{expression, command, sequence}
use Rattle.vsi_scope.proofs.Views.{command_If, command_While, command_Letvar}
use Rattle.vsi_opt.specs.Folding.{one, folded, truth_of, branch, loop, fold}

-- The result of folding an `if`, by the known truth of its guard.
pub fold_if_by : (c : Cmd) (e v : Ex) (y n : Vec Cmd Global) (t : Option Bool) → c ≡ view.If e y n →
    expression v ≡ folded (expression e) → t ≡ truth_of (expression v) → fold (command c) ≡ branch t (expression v)
    (fold (sequence y.items)) (fold (sequence n.items))
fold_if_by c e v y n t is f g =
    ap (λ x. fold (command x)) is
    ∙ ap fold (command_If e y n)
    ∙ ap (λ x. branch (truth_of x) x (fold (sequence y.items)) (fold (sequence n.items))) (sym f)
    ∙ ap (λ x. branch x (expression v) (fold (sequence y.items)) (fold (sequence n.items))) (sym g)

-- The result of folding a loop, by the known truth of its guard.
pub fold_while_by : (c : Cmd) (e v : Ex) (b : Vec Cmd Global) (t : Option Bool) → c ≡ view.While e b →
    expression v ≡ folded (expression e) → t ≡ truth_of (expression v) → fold (command c) ≡ loop t (expression v)
    (fold (sequence b.items))
fold_while_by c e v b t is f g =
    ap (λ x. fold (command x)) is
    ∙ ap fold (command_While e b)
    ∙ ap (λ x. loop (truth_of x) x (fold (sequence b.items))) (sym f)
    ∙ ap (λ x. loop x (expression v) (fold (sequence b.items))) (sym g)

-- The result of folding a letvar.
pub fold_letvar_by : (c : Cmd) (e v : Ex) (b : Vec Cmd Global) → c ≡ view.Letvar e b → expression v
    ≡ folded (expression e) →
    fold (command c) ≡ one (Letvar (expression v) (fold (sequence b.items)))
fold_letvar_by c e v b is f =
    ap (λ x. fold (command x)) is
    ∙ ap fold (command_Letvar e b)
    ∙ ap (λ x. one (Letvar x (fold (sequence b.items)))) (sym f)

-- An `if` over known branches.
pub one_if : (v : Ex) (y n : Vec Cmd Global) (a b : Command) → sequence y.items ≡ a → sequence n.items ≡ b →
    one (command (view.If v y n)) ≡ one (If (expression v) a b)
one_if v y n a b f g = ap one (command_If v y n) ∙ ap (λ x. one (If (expression v) x (sequence n.items))) f
    ∙ ap (λ x. one (If (expression v) a x)) g

-- A loop over a known body.
pub one_while : (v : Ex) (b : Vec Cmd Global) (a : Command) → sequence b.items ≡ a →
    one (command (view.While v b)) ≡ one (While (expression v) a)
one_while v b a f = ap one (command_While v b) ∙ ap (λ x. one (While (expression v) x)) f

-- A letvar over a known body.
pub one_letvar : (v : Ex) (b : Vec Cmd Global) (a : Command) → sequence b.items ≡ a →
    one (command (view.Letvar v b)) ≡ one (Letvar (expression v) a)
one_letvar v b a f = ap one (command_Letvar v b) ∙ ap (λ x. one (Letvar (expression v) x)) f

-- A test with a known answer gives the truth of the guard.
pub known : (o t : Option Bool) (b b' : Bool) → o ≡ t → o ≡ Some b → b ≡ b' → Some b' ≡ t
known o t b b' e f g = sym (ap Some g) ∙ sym f ∙ e
