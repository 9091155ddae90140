-- The store after the first lines.
use Rattle.std.proofs.Common.{◌≡◌, ℕ, ◌+◌, ◌<◌, ◌≤◌, List, [], ◌∷◌, ◌++◌, length, take, drop, get_or, append_assoc, refl, sym, ap, ◌∙◌, arith}
use Rattle.std.specs.Prelude.{ℤ}
use Rattle.std.specs.Borrow.{Bor}
use Rattle.std.proofs.lemmas.List.{drop_more, length-map, map_more, take-map}
use Rattle.vsi_lattice.specs.NamePlaces.{texts}
use Rattle.vsi_drive.specs.Control.{Control}
use Rattle.vsi_drive.specs.Cycles.{StandsBehind, cycle, store_behind, text_of}

-- One line more is one cycle more.
cycle_more : (c : Control) (m : List ℤ) (ls : List (List ℕ)) (l : List ℕ) →
    store_behind c m (ls ++ l ∷ []) ≡ (cycle c (store_behind c m ls) l).store
cycle_more c m [] l = refl
cycle_more c m (x ∷ ls) l = cycle_more c (cycle c m x).store ls l

-- The store after the cycle of the next line is the store after one more line.
pub behind_more : (c : Control) (m words next : List ℤ) (lines : List (Bor (List ℕ))) (i : ℕ) (d : Bor (List ℕ)) →
    i < length lines → words ≡ store_behind c m (texts (take i lines)) →
    next ≡ (cycle c words (get_or lines i d).now).store → next ≡ store_behind c m (texts (take (i + 1) lines))
behind_more c m words next lines i d within here step =
    step ∙ ap (λ w. (cycle c w (get_or lines i d).now).store) here
    ∙ sym (ap (store_behind c m) (map_more (λ r. r.now) lines i d within)
    ∙ cycle_more c m (texts (take i lines)) (get_or lines i d).now)

-- It is the store after whole cycles.
pub stands_behind : (c : Control) (m words : List ℤ) (lines : List (Bor (List ℕ))) (i : ℕ) →
    i ≤ length lines → words ≡ store_behind c m (texts (take i lines)) → StandsBehind c m (texts lines) words
stands_behind c m words lines i within here =
    record {
      i = i;
      within = omega (arith, within, length-map lines (λ r. r.now));
      is = here ∙ ap (store_behind c m) (sym (take-map (λ r. r.now) i lines));
    }

-- The store after the lines from the next one on is the store after the later ones, started from the store of its
-- cycle.
pub store_goes_on : (c : Control) (words next last : List ℤ) (lines : List (Bor (List ℕ))) (i : ℕ)
    (d : Bor (List ℕ)) → i < length lines → next ≡ (cycle c words (get_or lines i d).now).store →
    store_behind c words (texts (drop i lines)) ≡ last → store_behind c next (texts (drop (i + 1) lines)) ≡ last
store_goes_on c words next last lines i d within step is =
    ap (λ w. store_behind c w (texts (drop (i + 1) lines))) step
    ∙ sym (ap (λ ls. store_behind c words (texts ls)) (drop_more lines i d within)) ∙ is

-- Their output is the next line's output followed by that of the later lines.
pub text_goes_on : (c : Control) (words next : List ℤ) (text line all : List ℕ) (lines : List (Bor (List ℕ))) (i : ℕ)
    (d : Bor (List ℕ)) → i < length lines → next ≡ (cycle c words (get_or lines i d).now).store →
    line ≡ (cycle c words (get_or lines i d).now).line → text ++ text_of c words (texts (drop i lines)) ≡ all →
    (text ++ line) ++ text_of c next (texts (drop (i + 1) lines)) ≡ all
text_goes_on c words next text line all lines i d within step wrote is =
    let rest = texts (drop (i + 1) lines) in
    let now = cycle c words (get_or lines i d).now in
    ap (λ w. (text ++ line) ++ text_of c w rest) step ∙ append_assoc text line (text_of c now.store rest)
    ∙ ap (λ l. text ++ (l ++ text_of c now.store rest)) wrote
    ∙ sym (ap (λ ls. text ++ text_of c words (texts ls)) (drop_more lines i d within)) ∙ is
