-- A text has at most one first fault.
use Rattle.std.proofs.Common.{◌≡◌, ℕ, ◌+◌, List, [], ◌∷◌, length, sym, ap, subst, ◌∙◌}
use Rattle.vsi_syntax.specs.declared.token.Span.{Span}
use Rattle.vsi_syntax.specs.declared.lexer.LexError.{LexError}
use Rattle.vsi_syntax.specs.declared.lexer.LexError.TheVariants as errors
use Rattle.vsi_syntax.specs.Words.{is_digit, every}
use Rattle.vsi_syntax.specs.Cut.{Piece, IsGap, BeginsWith, IsBad, IsFirstFault, IsWordAt}
use Rattle.vsi_syntax.proofs.Shapes.{apart, words_unique, bad_starts}
use Rattle.vsi_syntax.proofs.Unique.{false_true, gap_rest, token_unique, bad_token}

-- The longest run of letters, digits and underscores at a position is unique.
same_word : (at : ℕ) (text : List ℕ) (s t : Span) (v w : List ℕ) → IsWordAt at text s v → IsWordAt at text t w → v ≡ w
same_word at text s t v w p q =
    words_unique v w p.behind q.behind p.all q.all p.whole q.whole (sym p.parts ∙ q.parts)

-- The span with these ends.
abbrev span_of : ℕ → ℕ → Span
span_of a b = record { start = a; stop = b }

-- Spans with equal ends are equal.
span_path : (a b c d : ℕ) → a ≡ b → c ≡ d → span_of a c ≡ span_of b d
span_path a b c d e f = cc

-- The span of the longest run at a position is unique.
same_span : (at : ℕ) (text : List ℕ) (s t : Span) (v w : List ℕ) → IsWordAt at text s v → IsWordAt at text t w → s ≡ t
same_span at text s t v w p q =
    let stop : s.stop ≡ t.stop =
    p.stop ∙ (ap (λ (z : List ℕ). at + length z) (same_word at text s t v w p q) ∙ sym q.stop) in
    span_path s.start t.start s.stop t.stop (p.start ∙ sym q.start) stop

-- A position has at most one fault.
one_bad : (at : ℕ) (text : List ℕ) (e f : LexError) → IsBad at text e → IsBad at text f → e ≡ f
one_bad at text errors.Memory f p q = absurd p
one_bad at text errors.TooLong f p q = absurd p
one_bad at text (errors.BadByte a) errors.Memory p q = absurd q
one_bad at text (errors.BadByte a) errors.TooLong p q = absurd q
one_bad at text (errors.BadByte a) (errors.BadByte b) p q = ap errors.BadByte (p.2 ∙ sym q.2)
one_bad at text (errors.BadByte a) (errors.BadWord t) p q =
    apart text q.0 q.1.behind p.0 p.1 q.1.parts q.1.some p.3 p.4
one_bad at text (errors.BadByte a) (errors.BadNumber t) p q =
    apart text q.0 q.1.behind p.0 p.1 q.1.parts q.1.some p.3 p.4
one_bad at text (errors.BadWord s) errors.Memory p q = absurd q
one_bad at text (errors.BadWord s) errors.TooLong p q = absurd q
one_bad at text (errors.BadWord s) (errors.BadByte b) p q =
    apart text p.0 p.1.behind q.0 q.1 p.1.parts p.1.some q.3 q.4
one_bad at text (errors.BadWord s) (errors.BadWord t) p q =
    ap errors.BadWord (same_span at text s t p.0 q.0 p.1 q.1)
one_bad at text (errors.BadWord s) (errors.BadNumber t) p q =
    false_true (every is_digit q.0) (ap (every is_digit) (sym (same_word at text s t p.0 q.0 p.1 q.1)) ∙ p.3) q.3
one_bad at text (errors.BadNumber s) errors.Memory p q = absurd q
one_bad at text (errors.BadNumber s) errors.TooLong p q = absurd q
one_bad at text (errors.BadNumber s) (errors.BadByte b) p q =
    apart text p.0 p.1.behind q.0 q.1 p.1.parts p.1.some q.3 q.4
one_bad at text (errors.BadNumber s) (errors.BadWord t) p q =
    false_true (every is_digit p.0) (ap (every is_digit) (same_word at text s t p.0 q.0 p.1 q.1) ∙ q.3) p.3
one_bad at text (errors.BadNumber s) (errors.BadNumber t) p q =
    ap errors.BadNumber (same_span at text s t p.0 q.0 p.1 q.1)

-- Two faults of one text, each after first tokens and a gap, are the same.
faults_same : (ps qs : List Piece) (at : ℕ) (text : List ℕ) (to : ℕ) (rest : List ℕ) (other : ℕ) (more : List ℕ)
    (a : ℕ) (x : List ℕ) (b : ℕ) (y : List ℕ) (e f : LexError) → BeginsWith at text ps to rest → IsGap to rest a x →
    IsBad a x e → BeginsWith at text qs other more → IsGap other more b y → IsBad b y f → e ≡ f
faults_same [] [] at text to rest other more a x b y e f h g p i k q =
    let s = gap_rest at text a x b y
    (subst (λ (n : ℕ). IsGap n text a x) (sym h.0) (subst (λ (z : List ℕ). IsGap to z a x) (sym h.1) g))
    (subst (λ (n : ℕ). IsGap n text b y) (sym i.0) (subst (λ (z : List ℕ). IsGap other z b y) (sym i.1) k))
    (bad_starts a x e p) (bad_starts b y f q) in
    one_bad b y e f (subst (λ (n : ℕ). IsBad n y e) s.0 (subst (λ (z : List ℕ). IsBad a z e) s.1 p)) q
faults_same [] (c ∷ qs) at text to rest other more a x b y e f h g p i k q =
    bad_token at text a x e c i.0
    (subst (λ (n : ℕ). IsGap n text a x) (sym h.0) (subst (λ (z : List ℕ). IsGap to z a x) (sym h.1) g)) p i.1
faults_same (d ∷ ps) [] at text to rest other more a x b y e f h g p i k q =
    bad_token at text b y f d h.0
    (subst (λ (n : ℕ). IsGap n text b y) (sym i.0) (subst (λ (z : List ℕ). IsGap other z b y) (sym i.1) k)) q h.1
faults_same (d ∷ ps) (c ∷ qs) at text to rest other more a x b y e f h g p i k q =
    let s = token_unique at text d c h.0 i.0 h.1 i.1 in
    let begins : BeginsWith c.span.stop i.0 ps to rest =
    subst (λ (z : List ℕ). BeginsWith c.span.stop z ps to rest) s.1
    (subst (λ (z : Piece). BeginsWith z.span.stop h.0 ps to rest) s.0 h.2) in
    faults_same ps qs c.span.stop i.0 to rest other more a x b y e f begins g p i.2 k q

-- A text has at most one first fault.
pub one_fault : (text : List ℕ) (e f : LexError) → IsFirstFault text e → IsFirstFault text f → e ≡ f
one_fault text e f p q =
    faults_same p.before q.before 0 text p.at p.behind q.at q.behind p.to p.rest q.to q.rest e f p.begins p.gap p.bad
    q.begins q.gap q.bad
