-- Declarations of given globals.
use Rattle.std.proofs.Common.{◌≡◌, ℕ, ◌+◌, ◌<◌, ◌≤◌, List, [], ◌∷◌, ◌++◌, Vec, Global as Heap, length, map, take, get_or, refl, sym, ap, ◌∙◌, arith}
use Rattle.std.proofs.lemmas.List.{take_more, take_all, map-append}
use Rattle.vsi_syntax.specs.declared.tree.Declaration.{Declaration}
use Rattle.vsi_syntax.specs.CommandView.{declared}
use Rattle.vsi_image.specs.Fields.{Global, global, globals}
use Rattle.vsi_audit.specs.Text.{words}

-- Equal names and equal class names make equal globals.
pub same_pair : (a b c d : List ℕ) → a ≡ c → b ≡ d → (let x : Global = (a, b) in x) ≡ (c, d)
same_pair a b c d p q =
    ap (λ (x : List ℕ). (let y : Global = (x, b) in y)) p ∙ ap (λ (x : List ℕ). (let y : Global = (c, x) in y)) q

-- One more declaration adds its names.
words_push : (ds : List Declaration) (d : Declaration) →
    map words (map declared (ds ++ d ∷ [])) ≡ map words (map declared ds) ++ words (declared d) ∷ []
words_push [] d = refl
words_push (e ∷ ds) d = ap (λ (xs : List Global). words (declared e) ∷ xs) (words_push ds d)

-- The first declarations and the next one are those of the globals.
pub declared_more : (ds : List Declaration) (gs : List (Vec ℕ Heap × Vec ℕ Heap)) (place i : ℕ) (d : Declaration)
    (g : Vec ℕ Heap × Vec ℕ Heap) → place ≡ i → i < length gs → length ds ≡ length gs → g ≡ get_or gs i g →
    words (declared (get_or ds place d)) ≡ global g →
    map words (map declared (take i ds)) ≡ globals (take i gs) →
    map words (map declared (take (i + 1) ds)) ≡ globals (take (i + 1) gs)
declared_more ds gs place i d g at lt long is one front =
    let within : i < length ds = omega (arith, lt, long) in
    let next : words (declared (get_or ds i d)) ≡ global (get_or gs i g) =
    ap (λ n. words (declared (get_or ds n d))) (sym at) ∙ one ∙ ap global is in
    ap (λ (xs : List Declaration). map words (map declared xs)) (take_more ds i d within)
    ∙ words_push (take i ds) (get_or ds i d)
    ∙ ap (λ (xs : List Global). xs ++ words (declared (get_or ds i d)) ∷ []) front
    ∙ ap (λ (x : Global). globals (take i gs) ++ x ∷ []) next
    ∙ sym (map-append global (take i gs) (get_or gs i g ∷ []))
    ∙ ap globals (sym (take_more gs i g lt))

-- At the end all declarations are those of the globals.
pub declared_all : (ds : List Declaration) (gs : List (Vec ℕ Heap × Vec ℕ Heap)) (i : ℕ) → length gs ≤ i →
    length ds ≡ length gs → map words (map declared (take i ds)) ≡ globals (take i gs) →
    map words (map declared ds) ≡ globals gs
declared_all ds gs i le long h =
    ap (λ (xs : List Declaration). map words (map declared xs)) (sym (take_all i ds (omega (arith, le, long)))) ∙ h
    ∙ ap globals (take_all i gs le)
