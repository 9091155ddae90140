-- Views of commands that own their lists.
use Rattle.std.proofs.Common.{◌≡◌, List, [], ◌∷◌, ◌++◌, Vec, Global, refl, sym, ap, ◌∙◌, ℕ, ◌+◌, ◌<◌, length, map, get_or, take, arith}
use Rattle.std.proofs.lemmas.List.{take_more}
use mathlib.Core.Former.{Count}
use Rattle.vsi_scope.specs.declared.program.Ex.{Ex}
use Rattle.vsi_scope.specs.declared.program.Cmd.{Cmd, While', Row_of-Cmd, end_of-Cmd, more_of-Cmd, items-the_row-Cmd, items_hidden-the_row-Cmd-0}
use Rattle.vsi_scope.specs.declared.program.Cmd.TheViews as view
use Rattle.vsi_scope.specs.Language.{letvars, Command, Sequence, If, While, Letvar}
use Rattle.vsi_scope.specs.View.{expression, command, row, sequence}
use Rattle.vsi_scope.specs.Scopes.{in_sequence}

-- The row of a `Vec`.
abbrev row_in : Cmd → (n : Count) × Row_of-Cmd n
row_in (While' e s b) = (_, b)
row_in _ = (_, end_of-Cmd)

-- A row is the sequence of its elements.
sequence_row : (n : _) (r : Row_of-Cmd n) → row r ≡ sequence (items-the_row-Cmd n r)
sequence_row n end_of-Cmd = refl
sequence_row n (more_of-Cmd c rest) = ap (Sequence (command c)) (sequence_row _ rest)

-- The sequence of the elements of a `Vec`, as a row.
row_of : Ex → Vec Cmd Global → Command
row_of e v = row (row_in (view.While e v)).1

-- The row of a `Vec` is the sequence of its elements.
sequence_of : (e : Ex) (v : Vec Cmd Global) → row_of e v ≡ sequence v.items
unfolding row_of
sequence_of e v =
    let r = row_in (view.While e v) in
    sequence_row r.0 r.1 ∙ ap sequence (items_hidden-the_row-Cmd-0 v)

-- The command of an `If`.
pub command_If : (e : Ex) (v w : Vec Cmd Global) →
    command (view.If e v w) ≡ If (expression e) (sequence v.items) (sequence w.items)
unfolding row_of
command_If e v w =
    ap (λ c. If (expression e) c (row_of e w)) (sequence_of e v) ∙ ap (If (expression e) (sequence v.items))
    (sequence_of e w)

-- The command of a `While`.
pub command_While : (e : Ex) (body : Vec Cmd Global) → command (view.While e body) ≡ While (expression e)
    (sequence body.items)
unfolding row_of
command_While e body = ap (While (expression e)) (sequence_of e body)

-- The command of a `Letvar`.
pub command_Letvar : (e : Ex) (body : Vec Cmd Global) →
    command (view.Letvar e body) ≡ Letvar (expression e) (sequence body.items)
unfolding row_of
command_Letvar e body = ap (Letvar (expression e)) (sequence_of e body)

-- One more command adds its letvars.
pub letvars_push : (cs : List Cmd) (c : Cmd) →
    letvars (sequence (cs ++ c ∷ [])) ≡ letvars (sequence cs) + letvars (command c)
letvars_push [] c = omega arith
letvars_push (d ∷ cs) c = omega (arith, letvars_push cs c)

-- The first commands and the next have the letvars of both.
pub letvars_more : (cs : List Cmd) (i : ℕ) (c : Cmd) → i < length cs → c ≡ get_or cs i c →
    letvars (sequence (take (i + 1) cs)) ≡ letvars (sequence (take i cs)) + letvars (command c)
letvars_more cs i c lt e =
    ap (λ l. letvars (sequence l)) (take_more cs i c lt)
    ∙ letvars_push (take i cs) (get_or cs i c)
    ∙ ap (λ x. letvars (sequence (take i cs)) + letvars (command x)) (sym e)

-- A list of commands is their sequence.
pub sequence_in : (cs : List Cmd) → sequence cs ≡ in_sequence (map command cs)
sequence_in [] = refl
sequence_in (c ∷ cs) = ap (Sequence (command c)) (sequence_in cs)
