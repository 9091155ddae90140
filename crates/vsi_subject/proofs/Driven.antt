-- Lines of an input, read a piece at a time.
use Rattle.std.proofs.Common.{◌≡◌, ℕ, ℤ, Bool, true, false, List, [], ◌∷◌, ◌++◌, ◌∙◌, refl, sym, ap, subst, append_assoc, append-nil}
use Rattle.std.specs.Prelude.{◌≢◌, ◌≤◌, ◌<◌, ◌==◌, length, take, OnOk, Result, Option, if◌then◌else◌}
use Rattle.std.specs.Io.KnownBytes.{Appends, Consumes, IsAtEnd}
use Rattle.std.proofs.Math.Seq.{take-append_seam}
use Rattle.std.proofs.lemmas.Bool.{eq-eqb, le-ltb, lt-ltb, ne_eqb}
use Rattle.std.proofs.KnownBytes.{Appends-trans, Consumes-all, Consumes-trans}
use Rattle.std.proofs.lemmas.Result.{on_ok_weaker}
use Rattle.vsi_subject.specs.declared.failure.Failure.{Failure}
use Rattle.vsi_drive.specs.Control.{Control}
use Rattle.vsi_drive.specs.Cycles.{cycle, store_behind, text_of}
use Rattle.vsi_subject.specs.Driven.{Drives, DrivesInput, begun, grown, last_line, whole_lines}

-- The store after two lists of lines is the one after the second list, beginning with the store after the first.
pub store_behind-append : (c : Control) (m : List ℤ) (xs ys : List (List ℕ)) →
    store_behind c m (xs ++ ys) ≡ store_behind c (store_behind c m xs) ys
store_behind-append c m [] ys = refl
store_behind-append c m (x ∷ xs) ys = store_behind-append c (cycle c m x).store xs ys

-- The text of two lists of lines is the text of the first list, followed by that of the second.
pub text_of-append : (c : Control) (m : List ℤ) (xs ys : List (List ℕ)) →
    text_of c m (xs ++ ys) ≡ text_of c m xs ++ text_of c (store_behind c m xs) ys
text_of-append c m [] ys = refl
text_of-append c m (x ∷ xs) ys =
    ap (λ t. (cycle c m x).line ++ t) (text_of-append c (cycle c m x).store xs ys)
    ∙ sym (append_assoc (cycle c m x).line (text_of c (cycle c m x).store xs)
    (text_of c (store_behind c (cycle c m x).store xs) ys))

-- A controller that has been driven by some lines, and then by others, has been driven by all.
pub Drives-trans : (c : Control) (m mid words : List ℤ) (xs ys : List (List ℕ)) (old between new : Option (List ℕ)) →
    Drives c m mid xs old between → Drives c mid words ys between new → Drives c m words (xs ++ ys) old new
Drives-trans c m mid words xs ys old between new first second = record {
  written = subst (Appends old new) (sym (text_of-append c m xs ys))
      (Appends-trans old between new (text_of c m xs) (text_of c (store_behind c m xs) ys) first.written
      (subst (λ s. Appends between new (text_of c s ys)) first.store second.written));
  store = second.store ∙ ap (λ s. store_behind c s ys) first.store ∙ sym (store_behind-append c m xs ys);
}

-- A step keeps the whole lines of an append if both of its endings do.
whole_cons : (b : Bool) (line g xs ys : List ℕ) → whole_lines [] (xs ++ ys) ≡ whole_lines [] xs ++ whole_lines
    (begun [] xs) ys →
    whole_lines g (xs ++ ys) ≡ whole_lines g xs ++ whole_lines (begun g xs) ys →
    (if b then line ∷ whole_lines [] (xs ++ ys) else whole_lines g (xs ++ ys))
    ≡ (if b then line ∷ whole_lines [] xs else whole_lines g xs) ++ whole_lines (if b then begun [] xs else begun g
    xs) ys
whole_cons true line g xs ys ended going = ap (λ l. line ∷ l) ended
whole_cons false line g xs ys ended going = going

-- The lines that end in some bytes and others.
pub whole_lines-append : (line xs ys : List ℕ) → whole_lines line (xs ++ ys) ≡ whole_lines line xs ++ whole_lines
    (begun line xs) ys
whole_lines-append line [] ys = refl
whole_lines-append line (x ∷ xs) ys =
    whole_cons (x == 10) line (grown line x) xs ys (whole_lines-append [] xs ys) (whole_lines-append (grown line x)
    xs ys)

-- The same for the bytes after them.
begun_cons : (b : Bool) (g xs ys : List ℕ) → begun [] (xs ++ ys) ≡ begun (begun [] xs) ys →
    begun g (xs ++ ys) ≡ begun (begun g xs) ys →
    (if b then begun [] (xs ++ ys) else begun g (xs ++ ys)) ≡ begun (if b then begun [] xs else begun g xs) ys
begun_cons true g xs ys ended going = ended
begun_cons false g xs ys ended going = going

-- The bytes after the last line feed of two lists of bytes.
pub begun-append : (line xs ys : List ℕ) → begun line (xs ++ ys) ≡ begun (begun line xs) ys
begun-append line [] ys = refl
begun-append line (x ∷ xs) ys =
    begun_cons (x == 10) (grown line x) xs ys (begun-append [] xs ys) (begun-append (grown line x) xs ys)

-- At a line feed the line that was read is driven.
pub line_ended : (c : Control) (m mid words : List ℤ) (line done cur : List ℕ) (byte : ℕ)
    (old between new : Option (List ℕ)) → Drives c m mid (whole_lines line done) old between → cur ≡ begun line done →
    byte ≡ 10 → Appends between new (cycle c mid cur).line → words ≡ (cycle c mid cur).store →
    Drives c m words (whole_lines line (done ++ byte ∷ [])) old new
line_ended c m mid words line done cur byte old between new first is feed written store =
    let one : whole_lines (begun line done) (byte ∷ []) ≡ cur ∷ [] =
    ap (λ b. if b then begun line done ∷ [] else []) (eq-eqb byte 10 feed) ∙ ap (λ l. l ∷ []) (sym is) in
    subst (λ ls. Drives c m words ls old new)
    (sym (whole_lines-append line done (byte ∷ []) ∙ ap (λ l. whole_lines line done ++ l) one))
    (Drives-trans c m mid words (whole_lines line done) (cur ∷ []) old between new first
    (record { written = subst (Appends between new) (sym (append-nil (cycle c mid cur).line)) written; store = store }))

-- At another byte none is.
pub line_goes_on : (c : Control) (m words : List ℤ) (line done : List ℕ) (byte : ℕ) (old new : Option (List ℕ)) →
    Drives c m words (whole_lines line done) old new → byte ≢ 10 →
    Drives c m words (whole_lines line (done ++ byte ∷ [])) old new
line_goes_on c m words line done byte old new first other =
    subst (λ ls. Drives c m words ls old new)
    (sym (whole_lines-append line done (byte ∷ [])
    ∙ ap (λ l. whole_lines line done ++ l) (ap (λ b. if b then begun line done ∷ [] else []) (ne_eqb byte 10 other))
    ∙ append-nil (whole_lines line done)))
    first

-- After a line feed a line has no bytes yet.
pub ended_begun : (line done : List ℕ) (byte : ℕ) → byte ≡ 10 → begun line (done ++ byte ∷ []) ≡ []
ended_begun line done byte feed =
    begun-append line done (byte ∷ [])
    ∙ ap (λ b. if b then [] else grown (begun line done) byte) (eq-eqb byte 10 feed)

-- Behind another byte the line has grown by it.
pub grown_begun : (line done cur : List ℕ) (byte : ℕ) → cur ≡ begun line done → byte ≢ 10 →
    grown cur byte ≡ begun line (done ++ byte ∷ [])
grown_begun line done cur byte is other =
    ap (λ l. grown l byte) is ∙ sym (begun-append line done (byte ∷ [])
    ∙ ap (λ b. if b then [] else grown (begun line done) byte) (ne_eqb byte 10 other))

-- A line that isn't too long grows.
pub grown_short : (line : List ℕ) (byte : ℕ) → length line ≤ 65536 → grown line byte ≡ line ++ byte ∷ []
grown_short line byte short = ap (λ b. if b then line else line ++ byte ∷ []) (le-ltb 65536 (length line) short)

-- One that is too long doesn't.
pub grown_long : (line : List ℕ) (byte : ℕ) → 65536 < length line → grown line byte ≡ line
grown_long line byte long = ap (λ b. if b then line else line ++ byte ∷ []) (lt-ltb 65536 (length line) long)

-- Where the input is at its end, the controller has been driven by all of it.
pub driven_whole : {T : Type 0} (c : Control) (m mid words : List ℤ) (bytes cur line : List ℕ)
    (first rest last old between new : Option (List ℕ)) (result : Result T Failure) → Consumes first rest bytes →
    Consumes rest last [] → IsAtEnd last → cur ≡ begun [] bytes →
    Drives c m mid (whole_lines [] bytes) old between → line ≡ cur →
    OnOk result (Drives c mid words (last_line line) between new) → OnOk result (DrivesInput c m words first old new)
driven_whole c m mid words bytes cur line first rest last old between new result before none ends is driven same done =
    on_ok_weaker result
    (λ drives. record {
      bytes = bytes;
      whole = Consumes-all first last bytes [] bytes
          (subst (Consumes first last) (append-nil bytes) (Consumes-trans first rest last bytes [] before none))
          ends refl;
      drives = Drives-trans c m mid words (whole_lines [] bytes) (last_line (begun [] bytes)) old between new driven
          (subst (λ l. Drives c mid words (last_line l) between new) (same ∙ is) drives);
    })
    done

-- The first part of a concatenation, taken by its length, is that part.
pub written_back : (n : ℕ) (xs ys : List ℤ) → length xs ≡ n → take n (xs ++ ys) ≡ xs
written_back n xs ys is = subst (λ k. take k (xs ++ ys) ≡ xs) is (take-append_seam xs ys)
