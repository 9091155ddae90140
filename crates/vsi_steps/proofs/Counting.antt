-- The commands of a list, one by one.
use Rattle.std.proofs.Common.{◌≡◌, ℕ, ◌+◌, ◌<◌, ◌≤◌, ℤ, pos, w64, SFits, to_z, of_z, List, Vec, Global, length, drop, get_or, sym, ap, ◌∙◌, arith}
use Rattle.std.proofs.lemmas.Int.{to_z-of_z}
use Rattle.std.proofs.lemmas.List.{drop_more, drop_all}
use Rattle.vsi_scope.specs.declared.program.Ex.{Ex}
use Rattle.vsi_scope.specs.declared.program.Cmd.{Cmd}
use Rattle.vsi_scope.specs.declared.program.Cmd.TheViews as view
use Rattle.vsi_scope.specs.Language.{Command, Skip, Assign, Sequence, If, While, Letvar, size}
use Rattle.vsi_scope.specs.View.{expression, command, sequence}
use Rattle.vsi_scope.proofs.Views.{command_If, command_While, command_Letvar}
use Rattle.vsi_steps.specs.Sites.{sites}

-- The rest of a list from a command on.
pub at_command : (cs : List Cmd) (i : ℕ) (c : Cmd) → i < length cs → c ≡ get_or cs i c →
    sequence (drop i cs) ≡ Sequence (command c) (sequence (drop (i + 1) cs))
at_command cs i c lt is =
    ap sequence (drop_more cs i c lt) ∙ ap (λ y. Sequence (command y) (sequence (drop (i + 1) cs))) (sym is)

-- Past the end of a list nothing is left.
pub at_end : (cs : List Cmd) (i : ℕ) → length cs ≤ i → sequence (drop i cs) ≡ Skip
at_end cs i le = ap sequence (drop_all i cs le)

-- A word with no bit set is 0.
pub zero_word : (x : ℤ) → SFits w64 x → of_z w64 x ≡ 0 → x ≡ pos 0
zero_word x fits e = sym (to_z-of_z w64 x fits) ∙ ap (to_z w64) e

-- A command has at most as many sites as its size.
pub sites_size : (c : Command) → sites c ≤ size c
sites_size Skip = omega arith
sites_size (Assign l s e) = omega arith
sites_size (Sequence a b) = omega (arith, sites_size a, sites_size b)
sites_size (If e a b) = omega (arith, sites_size a, sites_size b)
sites_size (While e c) = omega (arith, sites_size c)
sites_size (Letvar e c) = omega (arith, sites_size c)

-- The view of a choice by its guard and its branches.
pub seen_if : (c : Cmd) (e : Ex) (v w : Vec Cmd Global) (ks ks' : List Cmd) → c ≡ view.If e v w → ks ≡ v.items →
    ks' ≡ w.items → command c ≡ If (expression e) (sequence ks) (sequence ks')
seen_if c e v w ks ks' is first second =
    ap command is ∙ command_If e v w ∙ ap (λ l. If (expression e) (sequence l) (sequence w.items)) (sym first)
    ∙ ap (λ l. If (expression e) (sequence ks) (sequence l)) (sym second)

-- The view of a loop by its guard and its body.
pub seen_while : (c : Cmd) (e : Ex) (v : Vec Cmd Global) (ks : List Cmd) → c ≡ view.While e v → ks ≡ v.items →
    command c ≡ While (expression e) (sequence ks)
seen_while c e v ks is body =
    ap command is ∙ command_While e v ∙ ap (λ l. While (expression e) (sequence l)) (sym body)

-- The view of a letvar by its value and its body.
pub seen_letvar : (c : Cmd) (e : Ex) (v : Vec Cmd Global) (ks : List Cmd) → c ≡ view.Letvar e v → ks ≡ v.items →
    command c ≡ Letvar (expression e) (sequence ks)
seen_letvar c e v ks is body =
    ap command is ∙ command_Letvar e v ∙ ap (λ l. Letvar (expression e) (sequence l)) (sym body)
