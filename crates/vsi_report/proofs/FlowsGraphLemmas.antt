-- Lines for one number after another, and the lines of equal flows.
use Rattle.std.proofs.Common.{◌≡◌, ℕ, zero, suc, ◌+◌, ◌<◌, ◌≤◌, cond, List, [], ◌∷◌, ◌++◌, length, get_or, take, refl, sym, ap, ◌∙◌, arith, append_assoc, append-nil}
use Rattle.std.specs.List.{flat_map}
use Rattle.std.proofs.lemmas.List.{take_more}
use Rattle.std.proofs.lemmas.List.Concat.{flat_map-append}
use Rattle.vsi_types.specs.declared.rules.Profile.{Profile}
use Rattle.vsi_types.specs.declared.rules.Rule.{Rule}
use Rattle.vsi_types.specs.declared.rules.Rule.TheVariants.{Assign, If, While, Letvar, Loop}
use Rattle.vsi_types.specs.Security.{Program, program, count_from}
use Rattle.vsi_types.proofs.Tables.{count_more}
use Rattle.vsi_infer.specs.Flowing.{size_of}
use Rattle.vsi_report.specs.declared.facts.Flows.{Flows}
use Rattle.vsi_report.specs.ByRule.{flows_in_rows, HasFlows}
use Rattle.vsi_lattice.specs.declared.lattice.Lattice.{Lattice as Declared}
use Rattle.vsi_lattice.specs.LatticeView.{names, order}
use Rattle.vsi_scope.specs.Program.{Resolved}
use Rattle.vsi_types.specs.declared.rules.Step.{Step}
use Rattle.vsi_report.specs.Covering.{HasJust, IsCoveringPair}
use Rattle.vsi_report.specs.FlowsGraph.{AreProgramLines, AreShown, Flowing, Shown, flow_line, line_by, lines_between, edge_lines, flows_by_step, flows_lines, frame_lines, nodes_shown, numbers_drawn, shown_in, size, variable_line}

-- The lines of one more number are added.
pub more_lines : (f : ℕ → List ℕ) (start before after : List ℕ) (i : ℕ) → before ≡ start ++ flat_map f (count_from 0 i)
    → after ≡ before ++ f i → after ≡ start ++ flat_map f (count_from 0 (i + 1))
more_lines f start before after i b a =
    let e : i ≡ 0 + i = omega arith in
    a ∙ ap (λ l. l ++ f i) b ∙ append_assoc start (flat_map f (count_from 0 i)) (f i)
    ∙ ap (λ l. start ++ (flat_map f (count_from 0 i) ++ l)) (sym (append-nil (f i)))
    ∙ ap (λ l. start ++ l) (sym (flat_map-append f (count_from 0 i) (i ∷ [])))
    ∙ ap (λ m. start ++ flat_map f (count_from 0 i ++ m ∷ [])) e
    ∙ ap (λ l. start ++ flat_map f l) (sym (count_more 0 i))

-- The lines of one more item of a list are added.
pub more_items : {A : Type 0} (f : A → List ℕ) (xs : List A) (start before after : List ℕ) (i : ℕ) (d : A) →
    i < length xs → before ≡ start ++ flat_map f (take i xs) → after ≡ before ++ f (get_or xs i d) →
    after ≡ start ++ flat_map f (take (i + 1) xs)
more_items f xs start before after i d lt b a =
    let x = get_or xs i d in
    let so = flat_map f (take i xs) in
    a ∙ ap (λ l. l ++ f x) b ∙ append_assoc start so (f x)
    ∙ ap (λ l. start ++ (so ++ l)) (sym (append-nil (f x)))
    ∙ ap (λ l. start ++ l) (sym (flat_map-append f (take i xs) (x ∷ [])))
    ∙ ap (λ l. start ++ flat_map f l) (sym (take_more xs i d lt))

-- One more text is appended.
pub added : (t x b u v : List ℕ) → u ≡ t ++ x → v ≡ u ++ b → v ≡ t ++ (x ++ b)
added t x b u v p q = q ∙ ap (λ l. l ++ b) p ∙ append_assoc t x b

-- Five texts are appended one after another.
pub added_five : (t t₁ t₂ t₃ t₄ t₅ a b c d e : List ℕ) → t₁ ≡ t ++ a → t₂ ≡ t₁ ++ b → t₃ ≡ t₂ ++ c → t₄ ≡ t₃ ++ d →
    t₅ ≡ t₄ ++ e → t₅ ≡ t ++ (a ++ b ++ c ++ d ++ e)
added_five t t₁ t₂ t₃ t₄ t₅ a b c d e p q r s u =
    added t (a ++ b ++ c ++ d) e t₄ t₅ (added t (a ++ b ++ c) d t₃ t₄ (added t (a ++ b) c t₂ t₃
    (added t a b t₁ t₂ p q) r)
    s) u

-- If the lines of each number are equal, so are all lines.
flat_same : (f g : ℕ → List ℕ) (m n : ℕ) → ((i : ℕ) → i < m + n → f i ≡ g i) →
    flat_map f (count_from m n) ≡ flat_map g (count_from m n)
flat_same f g m zero h = refl
flat_same f g m (suc n) h =
    ap (λ l. l ++ flat_map f (count_from (suc m) n)) (h m (omega arith))
    ∙ ap (λ l. g m ++ l) (flat_same f g (suc m) n (λ i lt. h i (omega (arith, lt))))

-- Equal flows have equal lines between two numbers.
between_same : (s : Shown) (f g : Flowing) (a b : ℕ) → ((R : Rule) → f R a b ≡ g R a b) →
    lines_between s f a b ≡ lines_between s g a b
between_same s f g a b h =
    ap (λ l. l ++ line_by s f a b If ++ line_by s f a b While ++ line_by s f a b Letvar ++ line_by s f a b Loop)
    (same Assign)
    ∙ ap (λ l. line_by s g a b Assign ++ l ++ line_by s f a b While ++ line_by s f a b Letvar ++ line_by s f a b Loop)
    (same If)
    ∙ ap (λ l. line_by s g a b Assign ++ line_by s g a b If ++ l ++ line_by s f a b Letvar ++ line_by s f a b Loop)
    (same While)
    ∙ ap (λ l. line_by s g a b Assign ++ line_by s g a b If ++ line_by s g a b While ++ l ++ line_by s f a b Loop)
    (same Letvar)
    ∙ ap (λ l. line_by s g a b Assign ++ line_by s g a b If ++ line_by s g a b While ++ line_by s g a b Letvar ++ l)
    (same Loop)
  where
    same : (R : Rule) → line_by s f a b R ≡ line_by s g a b R
    same R = ap (λ x. cond x (flow_line s a b R) []) (h R)

-- The rows have the flows of the program's steps, and therefore the same lines.
pub rows_lines : (s : Shown) (P : Profile) (p : Program) (f : Flows) (n : ℕ) → n ≤ size_of p + 1 → HasFlows P p f →
    edge_lines s (flows_in_rows f) n ≡ edge_lines s (flows_by_step P p) n
rows_lines s P p f n le h =
    flat_same (λ a. flat_map (lines_between s (flows_in_rows f) a) (count_from 0 n))
    (λ a. flat_map (lines_between s (flows_by_step P p) a) (count_from 0 n)) 0 n
    (λ a _. flat_same (lines_between s (flows_in_rows f) a) (lines_between s (flows_by_step P p) a) 0 n
    (λ b lt. between_same s (flows_in_rows f) (flows_by_step P p) a b (λ R. h R a b (omega (arith, lt, le)))))

-- The lines of a program are those of what the code of a graph shows, with equal names, classes and steps.
pub program_lines_so : (l : Declared) (P : Profile) (r : Resolved) (ns : List (List ℕ)) (chosen found : List ℕ)
    (walk steps : List Step) (pairs : List (ℕ × ℕ)) (lines : List ℕ) → ns ≡ names l → found ≡ chosen → steps ≡ walk →
    AreShown (order l) P (program r) chosen walk → HasJust (IsCoveringPair (order l)) pairs →
    lines ≡ flows_lines P
    (record { names = ns; lattice = order l; resolved = r; chosen = found; walk = steps })
    pairs →
    AreProgramLines l P r lines
program_lines_so l P r ns chosen found walk steps pairs lines en ec ew judged covering e =
    record {
      chosen = chosen;
      walk = walk;
      judged = judged;
      pairs = pairs;
      covering = covering;
      are =
          e
          ∙ ap (λ x. flows_lines P
          (record { names = x; lattice = order l; resolved = r; chosen = found; walk = steps }) pairs)
          en
          ∙ ap (λ x. flows_lines P (shown_in l r x steps) pairs) ec
          ∙ ap (λ x. flows_lines P (shown_in l r chosen x) pairs) ew;
    }

-- The lines of the variables, the frame and the edges, one after another, are all lines.
pub lines_so : (P : Profile) (s : Shown) (pairs : List (ℕ × ℕ)) (k n : ℕ) (start t₁ t₂ t₃ : List ℕ) → start ≡ [] →
    k ≡ size s → n ≡ nodes_shown P k → t₁ ≡ start ++ flat_map (variable_line s) (count_from 0 n) →
    t₂ ≡ t₁ ++ frame_lines s n pairs →
    t₃ ≡ t₂ ++ edge_lines s (flows_by_step P (program s.resolved)) (numbers_drawn k) →
    t₃ ≡ flows_lines P s pairs
lines_so P s pairs k n start t₁ t₂ t₃ es ek en e₁ e₂ e₃ =
    let nodes = λ (m : ℕ). flat_map (variable_line s) (count_from 0 m) in
    let edges = λ (m : ℕ). edge_lines s (flows_by_step P (program s.resolved)) (numbers_drawn m) in
    e₃ ∙ ap (λ x. x ++ edges k) (e₂ ∙ ap (λ x. x ++ frame_lines s n pairs) (e₁ ∙ ap (λ x. x ++ nodes n) es))
    ∙ ap (λ m. nodes m ++ frame_lines s m pairs ++ edges k) en
    ∙ ap (λ m. nodes (nodes_shown P m) ++ frame_lines s (nodes_shown P m) pairs ++ edges m) ek
