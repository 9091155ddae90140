-- Changes of parts that follow one another, the last first.
use Rattle.std.proofs.Common.{◌≡◌, ◌<◌, ◌≤◌, ◌+◌, ◌-◌, ◌∷◌, ◌++◌, ◌∙◌, ℕ, zero, suc, max, List, [], Some, length, take, drop, refl, sym, ap, subst, arith, get_or, drop-cons, inl, inr, nat_lt, ◌==◌, ◌||◌}
use Rattle.std.proofs.lemmas.Bool.{cases_Bool}
use Rattle.std.proofs.lemmas.List.{append_assoc, drop-drop, length-drop}
use Rattle.vsi_client.specs.declared.changes.Change.{Change}
use Rattle.vsi_client.specs.declared.places.Encoding.{Encoding}
use Rattle.vsi_client.specs.declared.places.Place.{Place}
use Rattle.vsi_client.specs.Changes.{changed, changed_at, changed_by, spliced}
use Rattle.vsi_client.specs.Places.{feed_size, in_line, is_break, line_size, line_start, offset_at, offset_in, units}

-- The first bytes of a text are those of its front.
take_front : (s k : ℕ) (text tail : List ℕ) → s ≤ k → k ≤ length text → take s (take k text ++ tail) ≡ take s text
take_front zero k text tail low high = refl
take_front (suc s) zero text tail low high = absurd (omega (arith, low))
take_front (suc s) (suc k) [] tail low high = absurd (omega (arith, high))
take_front (suc s) (suc k) (byte ∷ text) tail low high =
    ap (λ (t : List ℕ). byte ∷ t) (take_front s k text tail (omega (arith, low)) (omega (arith, high)))

-- The rest of a front of a text and other bytes, after the first bytes.
drop_front : (e k : ℕ) (text tail : List ℕ) → e ≤ k → k ≤ length text →
    drop e (take k text ++ tail) ≡ take (k - e) (drop e text) ++ tail
drop_front zero k text tail low high =
    let z : k - 0 ≡ k = omega arith in ap (λ (j : ℕ). take j text ++ tail) (sym z)
drop_front (suc e) zero text tail low high = absurd (omega (arith, low))
drop_front (suc e) (suc k) [] tail low high = absurd (omega (arith, high))
drop_front (suc e) (suc k) (byte ∷ text) tail low high =
    let z : suc k - suc e ≡ k - e = omega arith in
    drop_front e k text tail (omega (arith, low)) (omega (arith, high))
    ∙ ap (λ (j : ℕ). take j (drop e text) ++ tail) (sym z)

-- A line feed at the beginning of a text is in its front.
feed_front : (k : ℕ) (text tail : List ℕ) → 0 < k → k ≤ length text → feed_size (take k text ++ tail) ≡ feed_size text
feed_front zero text tail some high = absurd (omega (arith, some))
feed_front (suc k) [] tail some high = absurd (omega (arith, high))
feed_front (suc k) (byte ∷ text) tail some high = refl

-- The first line of a text is that of a longer front.
line_front : (k : ℕ) (text tail : List ℕ) → line_size text < k → k ≤ length text →
    line_size (take k text ++ tail) ≡ line_size text
line_front zero text tail low high = absurd (omega (arith, low))
line_front (suc k) [] tail low high = absurd (omega (arith, high))
line_front (suc k) (byte ∷ text) tail low high =
    elim (cases_Bool (byte == 10)) [
      | inl feed ↦ rw feed refl
      | inr other ↦
          elim (cases_Bool (byte == 13)) [
            | inl back ↦
                let less : suc (feed_size text) < suc k = rw (other, back) at low in
                rw (other, back) (ap suc (feed_front k text tail (omega (arith, less)) (omega (arith, high))))
            | inr plain ↦
                let less : suc (line_size text) < suc k = rw (other, plain) at low in
                rw (other, plain) (ap suc (line_front k text tail (omega (arith, less)) (omega (arith, high))))
          ]
    ]

-- A line of a text begins where it does in a longer front.
start_front : (n k : ℕ) (text tail : List ℕ) → line_start n text < k → k ≤ length text →
    line_start n (take k text ++ tail) ≡ line_start n text
start_front zero k text tail low high = refl
start_front (suc n) k text tail low high =
    let whole = take k text ++ tail in
    let size = line_size text in
    let first : line_size whole ≡ size = line_front k text tail (omega (arith, low)) high in
    let rest : drop size whole ≡ take (k - size) (drop size text) ++ tail =
    drop_front size k text tail (omega (arith, low)) high in
    ap (λ (s : ℕ). s + line_start n (drop s whole)) first
    ∙ ap (λ (t : List ℕ). size + line_start n t) rest
    ∙ ap (λ (m : ℕ). size + m)
    (start_front n (k - size) (drop size text) tail (omega (arith, low)) (omega (arith, high, length-drop size text)))

-- A place in a line is where it is in a longer front.
in_front : (encoding : Encoding) (n k : ℕ) (text tail : List ℕ) → in_line encoding n text < k → k ≤ length text →
    in_line encoding n (take k text ++ tail) ≡ in_line encoding n text
in_front encoding n zero text tail low high = absurd (omega (arith, low))
in_front encoding n (suc k) [] tail low high = absurd (omega (arith, high))
in_front encoding n (suc k) (byte ∷ text) tail low high =
    elim (cases_Bool (is_break byte || nat_lt n (units encoding byte))) [
      | inl ends ↦ rw ends refl
      | inr on ↦
          let less : suc (in_line encoding (n - units encoding byte) text) < suc k = rw on at low in
          rw on
          (ap suc (in_front encoding (n - units encoding byte) k text tail (omega (arith, less)) (omega (arith, high))))
    ]

-- A position is where it is in a longer front.
offset_front : (encoding : Encoding) (line character k : ℕ) (text tail : List ℕ) →
    offset_at encoding text line character < k → k ≤ length text →
    offset_at encoding (take k text ++ tail) line character ≡ offset_at encoding text line character
offset_front encoding line character k text tail low high =
    let whole = take k text ++ tail in
    let start = line_start line text in
    let first : line_start line whole ≡ start = start_front line k text tail (omega (arith, low)) high in
    let rest : drop start whole ≡ take (k - start) (drop start text) ++ tail =
    drop_front start k text tail (omega (arith, low)) high in
    ap (λ (s : ℕ). s + in_line encoding character (drop s whole)) first
    ∙ ap (λ (t : List ℕ). start + in_line encoding character t) rest
    ∙ ap (λ (m : ℕ). start + m)
    (in_front encoding character (k - start) (drop start text) tail (omega (arith, low))
    (omega (arith, high, length-drop start text)))

-- A line that many lines after another begins that many lines after it.
line_start_sum : (n m : ℕ) (text : List ℕ) →
    line_start (n + m) text ≡ line_start n text + line_start m (drop (line_start n text) text)
line_start_sum zero m text =
    let z : 0 + m ≡ m = omega arith in
    let e : line_start (0 + m) text ≡ line_start m text = ap (λ (j : ℕ). line_start j text) z in
    omega (arith, e)
line_start_sum (suc n) m text =
    let size = line_size text in
    let rest = drop size text in
    let start = line_start n rest in
    let z : suc n + m ≡ suc (n + m) = omega arith in
    ap (λ (j : ℕ). line_start j text) z
    ∙ ap (λ (s : ℕ). size + s) (line_start_sum n m rest)
    ∙ ap (λ (t : List ℕ). size + (start + line_start m t)) (drop-drop start size text)
    ∙ omega arith

-- A line begins so many bytes after an earlier one.
pub line_start_on : (n more size start : ℕ) (text rest : List ℕ) → start ≡ line_start n text → rest ≡ drop start text →
    size ≡ line_start more rest → start + size ≡ line_start (n + more) text
line_start_on n more size start text rest is_start is_rest is_size =
    let rest_on = is_rest ∙ ap (λ (s : ℕ). drop s text) is_start in
    omega (
      arith,
      line_start_sum n more text,
      is_start,
      is_size ∙ ap (λ (t : List ℕ). line_start more t) rest_on,
    )

-- The changes give the text written so far, and then the text from a byte on: also of a front of the text, past that
-- byte, with other bytes after it.
pub record Done (encoding : Encoding) (text : List ℕ) (changes : List Change) (out : List ℕ) (at : ℕ) : Type 0 where
  pub whole : changed_by encoding changes text ≡ out ++ drop at text
  pub front : (k : ℕ) (tail : List ℕ) → at < k → k ≤ length text →
      changed_by encoding changes (take k text ++ tail) ≡ out ++ (take (k - at) (drop at text) ++ tail)

-- A text with a part replaced, as its three parts.
spliced_parts : (start stop : ℕ) (new text : List ℕ) → start ≤ stop →
    spliced start stop new text ≡ take start text ++ (new ++ drop stop text)
spliced_parts start stop new text ordered =
    let last : max start stop ≡ stop = omega (arith, ordered) in
    rw last (append_assoc (take start text) new (drop stop text))

-- A change of a part between two offsets.
changed_parts : (encoding : Encoding) (change : Change) (from to : Place) (start stop : ℕ) (text : List ℕ) →
    change.range ≡ Some (from, to) → offset_in encoding text from ≡ start → offset_in encoding text to ≡ stop →
    start ≤ stop → changed encoding change text ≡ take start text ++ (change.text.now ++ drop stop text)
changed_parts encoding change from to start stop text range is_start is_stop ordered =
    let new = change.text.now in
    ap (λ r. changed_at encoding r new text) range
    ∙ ap (λ s. spliced s (offset_in encoding text to) new text) is_start
    ∙ ap (λ e. spliced start e new text) is_stop
    ∙ spliced_parts start stop new text ordered

-- Four texts after one another.
four : (a b c d : List ℕ) → a ++ (b ++ (c ++ d)) ≡ (a ++ (b ++ c)) ++ d
four a b c d = sym (append_assoc a (b ++ c) d ∙ ap (λ (t : List ℕ). a ++ t) (append_assoc b c d))

-- A change of a part after that byte comes before the others.
done_on : (encoding : Encoding) (text : List ℕ) (changes : List Change) (out : List ℕ) (at : ℕ) (change : Change)
    (from to : Place) (start stop : ℕ) → Done encoding text changes out at → change.range ≡ Some (from, to) →
    start ≡ offset_in encoding text from → stop ≡ offset_in encoding text to → at < start → start ≤ stop →
    stop ≤ length text →
    Done encoding text (change ∷ changes) (out ++ (take (start - at) (drop at text) ++ change.text.now)) stop
done_on encoding text changes out at change from to start stop done range is_start is_stop past ordered within =
    let new = change.text.now in
    let mid = take (start - at) (drop at text) in
    let on = λ (rest : List ℕ).
    done.front start (new ++ rest) past (omega (arith, ordered, within)) ∙ four out mid new rest in
    record {
      whole =
          ap (λ t. changed_by encoding changes t)
          (changed_parts encoding change from to start stop text range (sym is_start) (sym is_stop) ordered)
          ∙ on (drop stop text);
      front =
          λ k tail low high.
          let text_on = take k text ++ tail in
          let rest = take (k - stop) (drop stop text) ++ tail in
          let starts : offset_in encoding text_on from ≡ start =
          offset_front encoding from.line from.character k text tail (omega (arith, is_start, ordered, low)) high
          ∙ sym is_start in
          let stops : offset_in encoding text_on to ≡ stop =
          offset_front encoding to.line to.character k text tail (omega (arith, is_stop, low)) high ∙ sym is_stop in
          ap (λ t. changed_by encoding changes t)
          (changed_parts encoding change from to start stop text_on range starts stops ordered
          ∙ ap (λ (t : List ℕ). t ++ (new ++ drop stop text_on))
          (take_front start k text tail (omega (arith, ordered, low)) high)
          ∙ ap (λ (t : List ℕ). take start text ++ (new ++ t)) (drop_front stop k text tail (omega (arith, low)) high))
          ∙ on rest;
    }

-- The same for the change before those that are passed, once its part and its text are written.
pub done_back : (encoding : Encoding) (text : List ℕ) (changes : List Change) (left : ℕ) (out front whole : List ℕ)
    (at : ℕ) (d : Change) (from to : Place) (start stop : ℕ) → Done encoding text (drop left changes) out at →
    0 < left → left ≤ length changes → (get_or changes (left - 1) d).range ≡ Some (from, to) →
    start ≡ offset_in encoding text from → stop ≡ offset_in encoding text to → at < start → start ≤ stop →
    stop ≤ length text → front ≡ out ++ take (start - at) (drop at text) →
    whole ≡ front ++ (get_or changes (left - 1) d).text.now →
    Done encoding text (drop (left - 1) changes) whole stop
done_back encoding text changes left out front whole at d from to start stop done some few range is_start is_stop =
    λ past ordered within is_front is_whole.
    let before = left - 1 in
    let change = get_or changes before d in
    let back : suc before ≡ left = omega (arith, some) in
    let first : change ∷ drop left changes ≡ drop before changes =
    subst (λ n. change ∷ drop n changes ≡ drop before changes) back
    (sym (drop-cons changes before d (omega (arith, some, few)))) in
    let mid = take (start - at) (drop at text) in
    let new : whole ≡ out ++ (mid ++ change.text.now) =
    is_whole ∙ ap (λ (t : List ℕ). t ++ change.text.now) is_front ∙ append_assoc out mid change.text.now in
    subst (λ (t : List ℕ). Done encoding text (drop before changes) t stop) (sym new)
    (subst (λ (cs : List Change). Done encoding text cs (out ++ (mid ++ change.text.now)) stop) first
    (done_on encoding text (drop left changes) out at change from to start stop done range is_start is_stop past ordered
    within))
