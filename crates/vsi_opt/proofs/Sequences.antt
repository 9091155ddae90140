-- Lists of commands as sequences.
use Rattle.std.proofs.Common.{◌≡◌, ℕ, ◌+◌, ◌<◌, ◌≤◌, List, [], ◌∷◌, ◌++◌, length, get_or, drop, refl, sym, ap, ◌∙◌}
use Rattle.std.proofs.lemmas.List.{drop_more, drop_all}
use Rattle.vsi_scope.specs.declared.program.Cmd.{Cmd}
use Rattle.vsi_scope.specs.Language.{Command, Skip, Assign, Sequence, If, While, Letvar}
use Rattle.vsi_scope.specs.View.{command, sequence}
use Rattle.vsi_opt.specs.Folding.{one, append, fold}

-- Joining three sequences is associative.
pub append_append : (a b c : Command) → append (append a b) c ≡ append a (append b c)
append_append Skip b c = refl
append_append (Assign l s e) b c = refl
append_append (Sequence a d) b c = ap (Sequence a) (append_append d b c)
append_append (If e a d) b c = refl
append_append (While e d) b c = refl
append_append (Letvar e d) b c = refl

-- The empty sequence adds nothing.
pub append_nothing : (cs : List Cmd) → append (sequence cs) Skip ≡ sequence cs
append_nothing [] = refl
append_nothing (c ∷ cs) = ap (Sequence (command c)) (append_nothing cs)

-- A command pushed to a list is at the end of its sequence.
pub sequence_push : (cs : List Cmd) (c : Cmd) → sequence (cs ++ c ∷ []) ≡ append (sequence cs) (one (command c))
sequence_push [] c = refl
sequence_push (d ∷ cs) c = ap (Sequence (command d)) (sequence_push cs c)

-- One more command is pushed.
pub pushed : (cs cs' : List Cmd) (x : Cmd) (d : Command) → cs' ≡ cs ++ x ∷ [] → one (command x) ≡ d →
    sequence cs' ≡ append (sequence cs) d
pushed cs cs' x d e f = ap sequence e ∙ sequence_push cs x ∙ ap (append (sequence cs)) f

-- One more command is folded.
pub fold_more : (cs out out' : List Cmd) (i : ℕ) (c : Cmd) → i < length cs → c ≡ get_or cs i c →
    sequence out' ≡ append (sequence out) (fold (command c)) → append (sequence out')
    (fold (sequence (drop (i + 1) cs))) ≡ append (sequence out) (fold (sequence (drop i cs)))
fold_more cs out out' i c lt is e =
    ap (λ x. append x (fold (sequence (drop (i + 1) cs)))) e
    ∙ append_append (sequence out) (fold (command c)) (fold (sequence (drop (i + 1) cs)))
    ∙ ap (λ x. append (sequence out) (append (fold (command x)) (fold (sequence (drop (i + 1) cs))))) is
    ∙ ap (λ l. append (sequence out) (fold (sequence l))) (sym (drop_more cs i c lt))

-- At the end of a list nothing more is folded.
pub fold_end : (cs out : List Cmd) (i : ℕ) → length cs ≤ i →
    append (sequence out) (fold (sequence (drop i cs))) ≡ sequence out
fold_end cs out i le = ap (λ l. append (sequence out) (fold (sequence l))) (drop_all i cs le) ∙ append_nothing out
