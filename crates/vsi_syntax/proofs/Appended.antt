-- A text that is written, followed by the rest of it.
use Rattle.std.proofs.Common.{◌≡◌, ℕ, List, ◌++◌, ◌∙◌, append_assoc}

-- If a text was appended, the rest follows it.
pub appended : (old new more rest : List ℕ) → new ≡ old ++ more → new ++ rest ≡ old ++ (more ++ rest)
appended old new more rest e = rw e (simp append_assoc)

-- If two texts were appended, the rest follows them.
pub appended_twice : (old mid new one two rest : List ℕ) → mid ≡ old ++ one → new ≡ mid ++ two →
    new ++ rest ≡ old ++ (one ++ (two ++ rest))
appended_twice old mid new one two rest e f = appended mid new two rest f ∙ appended old mid one (two ++ rest) e
