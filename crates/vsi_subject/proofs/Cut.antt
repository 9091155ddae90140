-- A controller that is cut short has written and saved a part of what it does for its whole input.
use Rattle.std.proofs.Common.{◌≡◌, ◌≢◌, ℕ, ℤ, List, [], ◌∷◌, ◌++◌, ◌+◌, ◌-◌, ◌<◌, ◌≤◌, ◌∙◌, Some, None, inl, inr, length, get_or, take, drop, refl, sym, ap, subst, arith, append_assoc, append-nil, take-append-drop, length-append}
use Rattle.std.specs.Prelude.{Option, IfSome, if◌then◌else◌}
use Rattle.std.specs.Borrow.{Bor}
use Rattle.std.specs.Io.KnownBytes.{Consumes, IsAtEnd}
use Rattle.std.proofs.KnownBytes.{Appends-nil, Consumes-all, Consumes-nil, Consumes-trans}
use Rattle.std.proofs.lemmas.Bool.{eq-eqb, ne_eqb}
use Rattle.std.proofs.lemmas.List.{take_more}
use Rattle.vsi_drive.proofs.Outputs.{longer_text, text_then}
use Rattle.vsi_image.specs.declared.instr.Image.{Image}
use Rattle.vsi_drive.specs.Control.{Control}
use Rattle.vsi_drive.specs.Cycles.{cycle, store_behind, text_of}
use Rattle.vsi_subject.specs.Driven.{Drives, begun, grown, last_line, lines_of, whole_lines}
use Rattle.vsi_subject.specs.Holding.{Holding, HoldsAt}
use Rattle.vsi_subject.specs.Partly.{DrivenText, Partly, WritesPart}
use Rattle.vsi_subject.specs.Saved.{Advances, CutsInput, CutsLines, SavesInput, SavesLine, SavesLines}
use Rattle.vsi_subject.specs.State.{HoldsState, StaysAt, Touches, state_text}
use Rattle.vsi_subject.proofs.Driven.{Drives-trans, begun-append, store_behind-append, text_of-append, whole_lines-append}
use Rattle.vsi_subject.proofs.Partly.{no_part, whole_part}

-- ---- files.

-- Files that have stayed as they were are not touched.
pub Touches-same : (save : Option (Bor (List ℕ))) (h g : Holding) → g ≡ h → Touches save h g
Touches-same None h g same = same
Touches-same (Some path) h g same = λ other away beside. ap (λ f. f other) same

-- Two changes after each other that touch no other file make one that touches none.
pub Touches-trans : (save : Option (Bor (List ℕ))) (h g k : Holding) → Touches save h g → Touches save g k →
    Touches save h k
Touches-trans None h g k first second = second ∙ first
Touches-trans (Some path) h g k first second = λ other away beside. second other away beside ∙ first other away beside

-- A requested file is as it was where all files are.
pub StaysAt-same : (save : Option (Bor (List ℕ))) (h g : Holding) → g ≡ h → StaysAt save h g
StaysAt-same None h g same = tt
StaysAt-same (Some path) h g same = ap (λ f. f path.now) same

-- A file that is as it was holds what it held.
holds_on : (path text : List ℕ) (h g : Holding) → g path ≡ h path → HoldsAt h path text → HoldsAt g path text
holds_on path text h g stays held = subst (λ o. IfSome o (λ bytes. bytes ≡ text)) (sym stays) held

-- ---- the lines that are saved.

-- A line that is counted or saved advances a drive.
pub line_advances : (save : Option (Bor (List ℕ))) (im : Image) (c : Control) (m : List ℤ) (line : List ℕ) (u v : ℕ)
    (h g : Holding) → SavesLine save (state_text im (cycle c m line).store) u v h g →
    Advances save im c m (line ∷ []) u v h g
line_advances None im c m line u v h g saves = tt
line_advances (Some path) im c m line u v h g (inl (counted, same)) =
    inl (omega (arith, counted), ap (λ f. f path.now) same)
line_advances (Some path) im c m line u v h g (inr (none, held)) =
    inr (record { before = line ∷ []; since = []; are = refl; many = sym none; held = held })

-- Without a line a drive stays where it is.
pub stays_advances : (save : Option (Bor (List ℕ))) (im : Image) (c : Control) (m : List ℤ) (u : ℕ) (h g : Holding) →
    StaysAt save h g → Advances save im c m [] u u h g
stays_advances None im c m u h g stays = tt
stays_advances (Some path) im c m u h g stays = inl (omega arith, stays)

-- Lines that are counted after lines that were saved come after those.
counted_on : (path : List ℕ) (im : Image) (c : Control) (m : List ℤ) (xs ys : List (List ℕ)) (v w : ℕ)
    (g k : Holding) → SavesLines path im c m xs v g → w ≡ v + length ys → k path ≡ g path →
    SavesLines path im c m (xs ++ ys) w k
counted_on path im c m xs ys v w g k saves counted stays = record {
  before = saves.before;
  since = saves.since ++ ys;
  are = ap (λ l. l ++ ys) saves.are ∙ append_assoc saves.before saves.since ys;
  many = omega (arith, length-append saves.since ys, saves.many, counted);
  held = holds_on path (state_text im (store_behind c m saves.before)) g k stays saves.held;
}

-- Lines that are saved after others are saved with them.
saved_on : (path : List ℕ) (im : Image) (c : Control) (m mid : List ℤ) (xs ys : List (List ℕ)) (w : ℕ) (k : Holding) →
    mid ≡ store_behind c m xs → SavesLines path im c mid ys w k → SavesLines path im c m (xs ++ ys) w k
saved_on path im c m mid xs ys w k is saves = record {
  before = xs ++ saves.before;
  since = saves.since;
  are = ap (λ l. xs ++ l) saves.are ∙ sym (append_assoc xs saves.before saves.since);
  many = saves.many;
  held = subst (λ s. HoldsAt k path (state_text im s))
      (ap (λ s. store_behind c s saves.before) is ∙ sym (store_behind-append c m xs saves.before)) saves.held;
}

-- A drive that advances by some lines, and then by others, advances by all.
pub Advances-trans : (save : Option (Bor (List ℕ))) (im : Image) (c : Control) (m mid : List ℤ)
    (xs ys : List (List ℕ)) (u v w : ℕ) (h g k : Holding) → mid ≡ store_behind c m xs →
    Advances save im c m xs u v h g → Advances save im c mid ys v w g k → Advances save im c m (xs ++ ys) u w h k
Advances-trans None im c m mid xs ys u v w h g k is first second = tt
Advances-trans (Some path) im c m mid xs ys u v w h g k is (inl a) (inl b) =
    inl (omega (arith, length-append xs ys, a.0, b.0), b.1 ∙ a.1)
Advances-trans (Some path) im c m mid xs ys u v w h g k is (inr a) (inl b) =
    inr (counted_on path.now im c m xs ys v w g k a b.0 b.1)
Advances-trans (Some path) im c m mid xs ys u v w h g k is (inl a) (inr b) =
    inr (saved_on path.now im c m mid xs ys w k is b)
Advances-trans (Some path) im c m mid xs ys u v w h g k is (inr a) (inr b) =
    inr (saved_on path.now im c m mid xs ys w k is b)

-- Where the file then stays as it was, the drive has come as far.
advances_on : (save : Option (Bor (List ℕ))) (im : Image) (c : Control) (m : List ℤ) (xs : List (List ℕ)) (u v : ℕ)
    (h g k : Holding) → Advances save im c m xs u v h g → StaysAt save g k → Advances save im c m xs u v h k
advances_on None im c m xs u v h g k first stays = tt
advances_on (Some path) im c m xs u v h g k (inl a) stays = inl (a.0, stays ∙ a.1)
advances_on (Some path) im c m xs u v h g k (inr a) stays = inr (record {
  before = a.before;
  since = a.since;
  are = a.are;
  many = a.many;
  held = holds_on path.now (state_text im (store_behind c m a.before)) g k stays a.held;
})

-- Without a line nothing is driven.
pub drives_none : (c : Control) (m : List ℤ) (old : Option (List ℕ)) → Drives c m m [] old old
drives_none c m old = record { written = Appends-nil old; store = refl }

-- ---- the text that is written.

-- A part of what some lines write is a part of what they and others write.
more_lines : (c : Control) (m : List ℤ) (xs ys : List (List ℕ)) (old new : Option (List ℕ)) →
    WritesPart (text_of c m xs) old new → WritesPart (text_of c m (xs ++ ys)) old new
more_lines c m xs ys old new part =
    subst (λ t. WritesPart t old new) (sym (text_of-append c m xs ys))
    (longer_text old new (text_of c m xs) (text_of c (store_behind c m xs) ys) part)

-- The text of some lines, followed by a part of the text of others.
then_lines : (c : Control) (m mid : List ℤ) (xs ys : List (List ℕ)) (old between new : Option (List ℕ)) →
    Drives c m mid xs old between → WritesPart (text_of c mid ys) between new →
    WritesPart (text_of c m (xs ++ ys)) old new
then_lines c m mid xs ys old between new first part =
    subst (λ t. WritesPart t old new) (sym (text_of-append c m xs ys))
    (text_then old between new (text_of c m xs) (text_of c (store_behind c m xs) ys) first.written
    (subst (λ s. WritesPart (text_of c s ys) between new) first.store part))

-- ---- lines that are cut short.

-- Nothing has been written or saved.
pub none_cut : (save : Option (Bor (List ℕ))) (im : Image) (c : Control) (m : List ℤ) (most : ℕ)
    (lines : List (List ℕ)) (u : ℕ) (old : Option (List ℕ)) (h g : Holding) → u ≤ most → StaysAt save h g →
    CutsLines save im c m most lines u old old h g
none_cut save im c m most lines u old h g few stays = record {
  done = [];
  rest = lines;
  more = u;
  are = refl;
  few = few;
  advances = stays_advances save im c m u h g stays;
  part = no_part (text_of c m []) old;
}

-- All lines are driven, and a part of their text has been written.
pub all_cut : (save : Option (Bor (List ℕ))) (im : Image) (c : Control) (m : List ℤ) (most : ℕ)
    (lines : List (List ℕ)) (u v : ℕ) (old new : Option (List ℕ)) (h g : Holding) → v ≤ most →
    Advances save im c m lines u v h g → WritesPart (text_of c m lines) old new →
    CutsLines save im c m most lines u old new h g
all_cut save im c m most lines u v old new h g few advances part = record {
  done = lines;
  rest = [];
  more = v;
  are = sym (append-nil lines);
  few = few;
  advances = advances;
  part = part;
}

-- A line whose text is written in part is cut short.
pub line_cut : (save : Option (Bor (List ℕ))) (im : Image) (c : Control) (m : List ℤ) (most : ℕ) (line : List ℕ)
    (u v : ℕ) (old new : Option (List ℕ)) (h g : Holding) → v ≤ most →
    SavesLine save (state_text im (cycle c m line).store) u v h g → WritesPart (cycle c m line).line old new →
    CutsLines save im c m most (line ∷ []) u old new h g
line_cut save im c m most line u v old new h g few saves part =
    all_cut save im c m most (line ∷ []) u v old new h g few (line_advances save im c m line u v h g saves)
    (subst (λ t. WritesPart t old new) (sym (append-nil (cycle c m line).line)) part)

-- More lines follow those that are cut short.
pub more_cut : (save : Option (Bor (List ℕ))) (im : Image) (c : Control) (m : List ℤ) (most : ℕ)
    (xs ys : List (List ℕ)) (u : ℕ) (old new : Option (List ℕ)) (h g : Holding) →
    CutsLines save im c m most xs u old new h g → CutsLines save im c m most (xs ++ ys) u old new h g
more_cut save im c m most xs ys u old new h g cut = record {
  done = cut.done;
  rest = cut.rest ++ ys;
  more = cut.more;
  are = ap (λ l. l ++ ys) cut.are ∙ append_assoc cut.done cut.rest ys;
  few = cut.few;
  advances = cut.advances;
  part = cut.part;
}

-- Lines are cut short after others that were driven.
pub then_cut : (save : Option (Bor (List ℕ))) (im : Image) (c : Control) (m mid : List ℤ) (most : ℕ)
    (xs ys : List (List ℕ)) (u v : ℕ) (old between new : Option (List ℕ)) (h g k : Holding) →
    Drives c m mid xs old between → Advances save im c m xs u v h g →
    CutsLines save im c mid most ys v between new g k → CutsLines save im c m most (xs ++ ys) u old new h k
then_cut save im c m mid most xs ys u v old between new h g k first advances cut = record {
  done = xs ++ cut.done;
  rest = cut.rest;
  more = cut.more;
  are = ap (λ l. xs ++ l) cut.are ∙ sym (append_assoc xs cut.done cut.rest);
  few = cut.few;
  advances = Advances-trans save im c m mid xs cut.done u v cut.more h g k first.store advances cut.advances;
  part = then_lines c m mid xs cut.done old between new first cut.part;
}

-- ---- lines in bytes.

-- At a line feed the lines are those before and the one that it ends.
line_more : (line done cur : List ℕ) (byte : ℕ) → cur ≡ begun line done → byte ≡ 10 →
    whole_lines line done ++ cur ∷ [] ≡ whole_lines line (done ++ byte ∷ [])
line_more line done cur byte is feed =
    let one : whole_lines (begun line done) (byte ∷ []) ≡ cur ∷ [] =
    ap (λ b. if b then begun line done ∷ [] else []) (eq-eqb byte 10 feed) ∙ ap (λ l. l ∷ []) (sym is) in
    sym (whole_lines-append line done (byte ∷ []) ∙ ap (λ l. whole_lines line done ++ l) one)

-- At another byte they are those before.
line_same : (line done : List ℕ) (byte : ℕ) → byte ≢ 10 →
    whole_lines line done ≡ whole_lines line (done ++ byte ∷ [])
line_same line done byte other =
    sym (whole_lines-append line done (byte ∷ [])
    ∙ ap (λ l. whole_lines line done ++ l) (ap (λ b. if b then begun line done ∷ [] else []) (ne_eqb byte 10 other))
    ∙ append-nil (whole_lines line done))

-- At a line feed a drive advances by the line that it ends.
pub ended_advances : (save : Option (Bor (List ℕ))) (im : Image) (c : Control) (m mid : List ℤ)
    (line done cur : List ℕ) (byte u v w : ℕ) (old between : Option (List ℕ)) (h g k : Holding) →
    Drives c m mid (whole_lines line done) old between → Advances save im c m (whole_lines line done) u v h g →
    cur ≡ begun line done → byte ≡ 10 → Advances save im c mid (cur ∷ []) v w g k →
    Advances save im c m (whole_lines line (done ++ byte ∷ [])) u w h k
ended_advances save im c m mid line done cur byte u v w old between h g k first advances is feed more =
    subst (λ ls. Advances save im c m ls u w h k) (line_more line done cur byte is feed)
    (Advances-trans save im c m mid (whole_lines line done) (cur ∷ []) u v w h g k first.store advances more)

-- At another byte it stays where it is.
pub same_advances : (save : Option (Bor (List ℕ))) (im : Image) (c : Control) (m : List ℤ) (line done : List ℕ)
    (byte u v : ℕ) (h g : Holding) → Advances save im c m (whole_lines line done) u v h g → byte ≢ 10 →
    Advances save im c m (whole_lines line (done ++ byte ∷ [])) u v h g
same_advances save im c m line done byte u v h g advances other =
    subst (λ ls. Advances save im c m ls u v h g) (line_same line done byte other) advances

-- The lines that end so far are the first of those that end in all bytes.
pub cut_lines : (save : Option (Bor (List ℕ))) (im : Image) (c : Control) (m mid : List ℤ) (most : ℕ)
    (line done rest all : List ℕ) (u v : ℕ) (old new : Option (List ℕ)) (h g : Holding) → v ≤ most →
    Drives c m mid (whole_lines line done) old new → Advances save im c m (whole_lines line done) u v h g →
    all ≡ done ++ rest → CutsLines save im c m most (whole_lines line all) u old new h g
cut_lines save im c m mid most line done rest all u v old new h g few first advances is =
    subst (λ ls. CutsLines save im c m most ls u old new h g)
    (sym (ap (whole_lines line) is ∙ whole_lines-append line done rest))
    (more_cut save im c m most (whole_lines line done) (whole_lines (begun line done) rest) u old new h g
    (all_cut save im c m most (whole_lines line done) u v old new h g few advances
    (whole_part (text_of c m (whole_lines line done)) old new first.written)))

-- The line that a line feed ends is the next of them.
pub cut_line : (save : Option (Bor (List ℕ))) (im : Image) (c : Control) (m mid : List ℤ) (most : ℕ)
    (line done rest all cur : List ℕ) (byte u v : ℕ) (old between new : Option (List ℕ)) (h g k : Holding) →
    Drives c m mid (whole_lines line done) old between → Advances save im c m (whole_lines line done) u v h g →
    cur ≡ begun line done → byte ≡ 10 → all ≡ done ++ byte ∷ rest →
    CutsLines save im c mid most (cur ∷ []) v between new g k →
    CutsLines save im c m most (whole_lines line all) u old new h k
cut_line save im c m mid most line done rest all cur byte u v old between new h g k first advances is feed whole cut =
    let next : whole_lines (begun line done) (byte ∷ rest) ≡ cur ∷ whole_lines [] rest =
    ap (λ b. if b then begun line done ∷ whole_lines [] rest else whole_lines (grown (begun line done) byte) rest)
    (eq-eqb byte 10 feed)
    ∙ ap (λ l. l ∷ whole_lines [] rest) (sym is) in
    subst (λ ls. CutsLines save im c m most ls u old new h k)
    (sym (ap (whole_lines line) whole ∙ whole_lines-append line done (byte ∷ rest)
    ∙ ap (λ l. whole_lines line done ++ l) next))
    (then_cut save im c m mid most (whole_lines line done) (cur ∷ whole_lines [] rest) u v old between new h g k first
    advances (more_cut save im c mid most (cur ∷ []) (whole_lines [] rest) v between new g k cut))

-- A byte of some, with those before it and those after it.
pub at_byte : (bytes : List ℕ) (i : ℕ) → i < length bytes →
    bytes ≡ take i bytes ++ get_or bytes i 0 ∷ drop (i + 1) bytes
at_byte bytes i within =
    sym (take-append-drop (i + 1) bytes)
    ∙ ap (λ l. l ++ drop (i + 1) bytes) (take_more bytes i 0 within)
    ∙ append_assoc (take i bytes) (get_or bytes i 0 ∷ []) (drop (i + 1) bytes)

-- ---- the input.

-- Some bytes of the input have been read, the lines that end in them have been driven, and so many of these aren't
-- saved.
pub record DrivesBytes (save : Option (Bor (List ℕ))) (im : Image) (c : Control) (m words : List ℤ) (line : List ℕ)
    (unsaved : ℕ) (first rest old new : Option (List ℕ)) (h g : Holding) : Type 0 where
  pub bytes : List ℕ
  pub read : Consumes first rest bytes
  pub begins : line ≡ begun [] bytes
  pub drives : Drives c m words (whole_lines [] bytes) old new
  pub advances : Advances save im c m (whole_lines [] bytes) 0 unsaved h g

-- Before the first read nothing is driven.
pub bytes_none : (save : Option (Bor (List ℕ))) (im : Image) (c : Control) (m : List ℤ) (first old : Option (List ℕ))
    (h : Holding) → DrivesBytes save im c m m [] 0 first first old old h h
bytes_none save im c m first old h = record {
  bytes = [];
  read = Consumes-nil first;
  begins = refl;
  drives = drives_none c m old;
  advances = stays_advances save im c m 0 h h (StaysAt-same save h h refl);
}

-- A piece of the input more has been read.
pub bytes_on : (save : Option (Bor (List ℕ))) (im : Image) (c : Control) (m mid words : List ℤ)
    (piece cur next : List ℕ) (u v : ℕ) (first rest last old between new : Option (List ℕ)) (h g k : Holding) →
    DrivesBytes save im c m mid cur u first rest old between h g → Consumes rest last piece →
    next ≡ begun cur piece → Drives c mid words (whole_lines cur piece) between new →
    Advances save im c mid (whole_lines cur piece) u v g k →
    DrivesBytes save im c m words next v first last old new h k
bytes_on save im c m mid words piece cur next u v first rest last old between new h g k so more goes_on drives advances =
    let lines : whole_lines [] so.bytes ++ whole_lines cur piece ≡ whole_lines [] (so.bytes ++ piece) =
    ap (λ l. whole_lines [] so.bytes ++ whole_lines l piece) so.begins ∙ sym (whole_lines-append [] so.bytes piece) in
    record {
      bytes = so.bytes ++ piece;
      read = Consumes-trans first rest last so.bytes piece so.read more;
      begins = goes_on ∙ ap (λ l. begun l piece) so.begins ∙ sym (begun-append [] so.bytes piece);
      drives = subst (λ ls. Drives c m words ls old new) lines
          (Drives-trans c m mid words (whole_lines [] so.bytes) (whole_lines cur piece) old between new so.drives
          drives);
      advances = subst (λ ls. Advances save im c m ls 0 v h k) lines
          (Advances-trans save im c m mid (whole_lines [] so.bytes) (whole_lines cur piece) 0 u v h g k so.drives.store
          so.advances advances);
    }

-- The lines in the bytes read so far are the first lines of the whole input.
lines_cut : (save : Option (Bor (List ℕ))) (im : Image) (c : Control) (m : List ℤ) (most : ℕ) (bytes : List ℕ)
    (first rest old new : Option (List ℕ)) (h g : Holding) → Consumes first rest bytes →
    CutsLines save im c m most (whole_lines [] bytes) 0 old new h g → CutsInput save im c m most first old new h g
lines_cut save im c m most bytes None rest old new h g read cut = record {
  bytes = bytes;
  whole = tt;
  cuts = more_cut save im c m most (whole_lines [] bytes) (last_line (begun [] bytes)) 0 old new h g cut;
}
lines_cut save im c m most bytes (Some all) None old new h g read cut = absurd read
lines_cut save im c m most bytes (Some all) (Some left) old new h g read cut =
    let last = last_line (begun [] all) in
    let more = whole_lines (begun [] bytes) left ++ last in
    let split : lines_of all ≡ whole_lines [] bytes ++ more =
    ap (λ l. whole_lines [] l ++ last) read ∙ ap (λ l. l ++ last) (whole_lines-append [] bytes left)
    ∙ append_assoc (whole_lines [] bytes) (whole_lines (begun [] bytes) left) last in
    record {
      bytes = all;
      whole = refl;
      cuts = subst (λ ls. CutsLines save im c m most ls 0 old new h g) (sym split)
          (more_cut save im c m most (whole_lines [] bytes) more 0 old new h g cut);
    }

-- Between two reads all lines that have ended are driven.
pub input_cut : (save : Option (Bor (List ℕ))) (im : Image) (c : Control) (m words : List ℤ) (most : ℕ)
    (line : List ℕ) (u : ℕ) (first rest old new : Option (List ℕ)) (h g : Holding) → u ≤ most →
    DrivesBytes save im c m words line u first rest old new h g → CutsInput save im c m most first old new h g
input_cut save im c m words most line u first rest old new h g few so =
    lines_cut save im c m most so.bytes first rest old new h g so.read
    (all_cut save im c m most (whole_lines [] so.bytes) 0 u old new h g few so.advances
    (whole_part (text_of c m (whole_lines [] so.bytes)) old new so.drives.written))

-- The same, with a part of what one more piece's lines do.
pub piece_cut : (save : Option (Bor (List ℕ))) (im : Image) (c : Control) (m mid : List ℤ) (most : ℕ)
    (piece cur : List ℕ) (u : ℕ) (first rest last old between new : Option (List ℕ)) (h g k : Holding) →
    DrivesBytes save im c m mid cur u first rest old between h g → Consumes rest last piece →
    CutsLines save im c mid most (whole_lines cur piece) u between new g k →
    CutsInput save im c m most first old new h k
piece_cut save im c m mid most piece cur u first rest last old between new h g k so more cut =
    lines_cut save im c m most (so.bytes ++ piece) first last old new h k
    (Consumes-trans first rest last so.bytes piece so.read more)
    (subst (λ ls. CutsLines save im c m most ls 0 old new h k)
    (ap (λ l. whole_lines [] so.bytes ++ whole_lines l piece) so.begins ∙ sym (whole_lines-append [] so.bytes piece))
    (then_cut save im c m mid most (whole_lines [] so.bytes) (whole_lines cur piece) 0 u old between new h g k
    so.drives so.advances cut))

-- The same, with a part of what the last line does, which no line feed ends.
pub end_cut : (save : Option (Bor (List ℕ))) (im : Image) (c : Control) (m mid : List ℤ) (most : ℕ)
    (cur line : List ℕ) (u : ℕ) (first rest last old between new : Option (List ℕ)) (h g k : Holding) →
    DrivesBytes save im c m mid cur u first rest old between h g → Consumes rest last [] → IsAtEnd last → line ≡ cur →
    CutsLines save im c mid most (last_line line) u between new g k → CutsInput save im c m most first old new h k
end_cut save im c m mid most cur line u first rest last old between new h g k so none ends same cut = record {
  bytes = so.bytes;
  whole = Consumes-all first last so.bytes [] so.bytes
      (subst (Consumes first last) (append-nil so.bytes) (Consumes-trans first rest last so.bytes [] so.read none))
      ends refl;
  cuts = then_cut save im c m mid most (whole_lines [] so.bytes) (last_line (begun [] so.bytes)) 0 u old between new h
      g k so.drives so.advances
      (subst (λ l. CutsLines save im c mid most (last_line l) u between new g k) (same ∙ so.begins) cut);
}

-- ---- what is left.

-- A part of what the whole input writes has been written.
pub cut_partly : (save : Option (Bor (List ℕ))) (im : Image) (c : Control) (m : List ℤ) (most : ℕ)
    (given old new : Option (List ℕ)) (h g : Holding) → CutsInput save im c m most given old new h g →
    Partly (DrivenText c m given) old new
cut_partly save im c m most given old new h g cut =
    inr (
      text_of c m (lines_of cut.bytes),
      record { bytes = cut.bytes; whole = cut.whole; is = refl },
      subst (λ ls. WritesPart (text_of c m ls) old new) (sym cut.cuts.are)
          (more_lines c m cut.cuts.done cut.cuts.rest old new cut.cuts.part),
    )

-- Where the file is then left as it was, as much has been saved.
pub cut_on : (save : Option (Bor (List ℕ))) (im : Image) (c : Control) (m : List ℤ) (most : ℕ)
    (given old new : Option (List ℕ)) (h g k : Holding) → CutsInput save im c m most given old new h g →
    StaysAt save g k → CutsInput save im c m most given old new h k
cut_on save im c m most given old new h g k cut stays = record {
  bytes = cut.bytes;
  whole = cut.whole;
  cuts = record {
    done = cut.cuts.done;
    rest = cut.cuts.rest;
    more = cut.cuts.more;
    are = cut.cuts.are;
    few = cut.cuts.few;
    advances = advances_on save im c m cut.cuts.done 0 cut.cuts.more h g k cut.cuts.advances stays;
    part = cut.cuts.part;
  };
}

-- The lines of a drive that began with its first store on the disk: those that are saved, and the others.
lines_saved : (save : Option (Bor (List ℕ))) (im : Image) (c : Control) (m : List ℤ) (done : List (List ℕ)) (v : ℕ)
    (h g : Holding) → HoldsState save (state_text im m) h → Advances save im c m done 0 v h g →
    (saved : List (List ℕ)) × (since : List (List ℕ)) × (done ≡ saved ++ since) × (length since ≤ v)
    × HoldsState save (state_text im (store_behind c m saved)) g
lines_saved None im c m done v h g held advances =
    (done, [], sym (append-nil done), omega arith, tt)
lines_saved (Some path) im c m done v h g held (inl (counted, stays)) =
    ([], done, refl, omega (arith, counted), holds_on path.now (state_text im m) h g stays held)
lines_saved (Some path) im c m done v h g held (inr saves) =
    (saves.before, saves.since, saves.are, omega (arith, saves.many), saves.held)

-- A drive that began with its first store on the disk, and was cut short, has saved all but few of its lines.
pub cut_saves : (save : Option (Bor (List ℕ))) (im : Image) (c : Control) (m : List ℤ) (most every : ℕ)
    (given old new : Option (List ℕ)) (h g : Holding) → most ≡ every - 1 → HoldsState save (state_text im m) h →
    CutsInput save im c m most given old new h g → SavesInput save im c m every given old new g
cut_saves save im c m most every given old new h g is held cut =
    let so = lines_saved save im c m cut.cuts.done cut.cuts.more h g held cut.cuts.advances in
    record {
      bytes = cut.bytes;
      whole = cut.whole;
      saved = so.0;
      since = so.1;
      rest = cut.cuts.rest;
      are = cut.cuts.are ∙ ap (λ l. l ++ cut.cuts.rest) so.2;
      few = omega (arith, so.3, cut.cuts.few, is);
      held = so.4;
      part = subst (λ ls. WritesPart (text_of c m ls) old new) so.2 cut.cuts.part;
    }
