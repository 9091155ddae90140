-- Positions of bytes.
use Rattle.std.proofs.Common.{◌≡◌, ◌<◌, ◌≤◌, ◌+◌, ◌-◌, ◌∷◌, ◌∙◌, ℕ, zero, suc, List, [], false, length, take, drop, refl, sym, ap, subst, arith}
use Rattle.std.proofs.lemmas.List.{drop-drop, length-drop}
use Rattle.vsi_client.specs.declared.places.Encoding.{Encoding}
use Rattle.vsi_client.specs.declared.places.Encoding.TheVariants.{Utf8, Utf16}
use Rattle.vsi_client.specs.Places.{BeginsCharacter, IsPlaced, begins, content_size, feed_size, in_line, line_size, line_start, long_units, offset_at, splits_end, units, units_in}

-- A character of several bytes has at least one code unit.
long_units_some : (encoding : Encoding) (byte : ℕ) → 0 < long_units encoding byte
long_units_some Utf8 byte = grind arith
long_units_some Utf16 byte = grind arith

-- A byte that isn't inside of a character adds a code unit.
units_some : (encoding : Encoding) (byte : ℕ) (rest : List ℕ) → BeginsCharacter (byte ∷ rest) →
    0 < units encoding byte
units_some encoding byte rest first = grind (arith, long_units_some encoding byte, first)

-- A byte adds at most four code units.
pub units_few : (encoding : Encoding) (byte : ℕ) → units encoding byte ≤ 4
units_few Utf8 byte = grind arith
units_few Utf16 byte = grind arith

-- The code units before a place in a line lead to that place.
pub in_line_units : (encoding : Encoding) (k : ℕ) (text : List ℕ) → k ≤ content_size text →
    BeginsCharacter (drop k text) → in_line encoding (units_in encoding (take k text)) text ≡ k
in_line_units encoding zero [] low first = refl
in_line_units encoding zero (byte ∷ rest) low first = grind (arith, units_some encoding byte rest first)
in_line_units encoding (suc k) [] low first = absurd (omega (arith, low))
in_line_units encoding (suc k) (byte ∷ rest) low first =
    grind (arith, low, λ (l : k ≤ content_size rest). in_line_units encoding k rest l first)

-- A line with its end isn't empty.
pub line_size_some : (text : List ℕ) → 0 < length text → 0 < line_size text
line_size_some [] some = some
line_size_some (byte ∷ rest) some = grind arith

-- A line feed is one byte.
feed_small : (text : List ℕ) → feed_size text ≤ 1
feed_small [] = omega arith
feed_small (byte ∷ rest) = grind arith

-- A text that doesn't begin with a line feed begins with none.
feed_none : (text : List ℕ) → begins 10 text ≡ false → feed_size text ≡ 0
feed_none [] not = refl
feed_none (byte ∷ rest) not = grind (arith, not)

-- A place past the content of a line is past its end too.
pub passes : (k : ℕ) (text : List ℕ) → content_size text < k → k ≤ length text → splits_end k text ≡ false →
    line_size text ≤ k
passes k [] low high whole = omega arith
passes zero (byte ∷ rest) low high whole = absurd (omega (arith, low))
passes (suc zero) (byte ∷ rest) low high whole = grind (arith, low, whole, feed_none rest)
passes (suc (suc k)) (byte ∷ rest) low high whole =
    grind (
      arith,
      low,
      high,
      feed_small rest,
      λ (l : content_size rest < suc k) (h : suc k ≤ length rest). passes (suc k) rest l h whole,
    )

-- A position in a later line, from the first line on.
pub offset_on : (encoding : Encoding) (n c : ℕ) (text : List ℕ) →
    offset_at encoding text (suc n) c ≡ line_size text + offset_at encoding (drop (line_size text) text) n c
offset_on encoding n c text =
    let size = line_size text in
    let start = line_start n (drop size text) in
    grind (arith, ap (λ t. in_line encoding c t) (drop-drop start size text))

-- The end of a line is whole in the rest of a text, too.
splits_on : (size k : ℕ) (text : List ℕ) → splits_end (size + k) text ≡ false →
    splits_end k (drop size text) ≡ false
splits_on size zero text whole = refl
splits_on size (suc k) text whole =
    grind (arith, whole, drop-drop k size text, drop-drop (suc k) size text)

-- A place past the content of a line is a place of the lines after it.
pub placed_on : (text : List ℕ) (k : ℕ) → IsPlaced text k → content_size text < k →
    (line_size text ≤ k) × IsPlaced (drop (line_size text) text) (k - line_size text)
placed_on text k is past =
    let size = line_size text in
    let low : size ≤ k = passes k text past is.within is.whole_end in
    let sum : size + (k - size) ≡ k = omega (arith, low) in (
      low,
      record {
        within = grind (arith, is.within, low, length-drop size text);
        begins_character =
            subst BeginsCharacter (sym (drop-drop (k - size) size text))
            (subst (λ n. BeginsCharacter (drop n text)) (sym sum) is.begins_character);
        whole_end =
            splits_on size (k - size) text (subst (λ n. splits_end n text ≡ false) (sym sum) is.whole_end);
      },
    )

-- The rest of a text from a line on, in which a place is left bytes away, if it is one of the text.
pub record Follows (encoding : Encoding) (text : List ℕ) (at line : ℕ) (rest : List ℕ) (left : ℕ) : Type 0 where
  pub placed : IsPlaced rest left
  pub back : (n c : ℕ) → offset_at encoding rest n c ≡ left → offset_at encoding text (line + n) c ≡ at

-- At first the rest is the text.
pub follows_first : (encoding : Encoding) (text : List ℕ) (at : ℕ) → IsPlaced text at →
    Follows encoding text at 0 text at
follows_first encoding text at is =
    record { placed = is; back = λ n c e. let z : 0 + n ≡ n = omega arith in rw z e }

-- After a line it is what follows that.
pub follows_on : (encoding : Encoding) (text : List ℕ) (at line : ℕ) (rest : List ℕ) (left : ℕ) →
    Follows encoding text at line rest left → content_size rest < left →
    Follows encoding text at (line + 1) (drop (line_size rest) rest) (left - line_size rest)
follows_on encoding text at line rest left so past =
    let size = line_size rest in
    let next = placed_on rest left so.placed past in
    record {
      placed = next.1;
      back =
          λ n c e.
          let z : line + 1 + n ≡ line + suc n = omega arith in
          let sum : size + (left - size) ≡ left = omega (arith, next.0) in
          rw z (so.back (suc n) c (offset_on encoding n c rest ∙ ap (λ m. size + m) e ∙ sum));
    }

-- A place in the line that has been reached has the position of its code units.
pub follows_last : (encoding : Encoding) (text : List ℕ) (at line : ℕ) (rest : List ℕ) (left : ℕ) →
    Follows encoding text at line rest left → left ≤ content_size rest →
    offset_at encoding text line (units_in encoding (take left rest)) ≡ at
follows_last encoding text at line rest left so low =
    let z : line + 0 ≡ line = omega arith in
    subst (λ n. offset_at encoding text n (units_in encoding (take left rest)) ≡ at) z
    (so.back 0 (units_in encoding (take left rest))
    (omega (arith, in_line_units encoding left rest low so.placed.begins_character)))
