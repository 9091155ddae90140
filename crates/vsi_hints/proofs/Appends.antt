-- Texts that grow piece by piece.
use Rattle.std.proofs.Common.{◌≡◌, ℕ, List, [], ◌++◌, ap, ◌∙◌, append_assoc}

-- Four pieces after a text are one text after it.
pub four_pieces : (w a b c d x y z r : List ℕ) → x ≡ w ++ a → y ≡ x ++ b → z ≡ y ++ c → r ≡ z ++ d →
    r ≡ w ++ (((a ++ b) ++ c) ++ d)
four_pieces w a b c d x y z r e f g h =
    let two : y ≡ w ++ (a ++ b) = f ∙ ap (λ l. l ++ b) e ∙ append_assoc w a b in
    let three : z ≡ w ++ ((a ++ b) ++ c) = g ∙ ap (λ l. l ++ c) two ∙ append_assoc w (a ++ b) c in
    h ∙ ap (λ l. l ++ d) three ∙ append_assoc w ((a ++ b) ++ c) d
