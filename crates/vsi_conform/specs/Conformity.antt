-- The answer about a text or an image beside an interface, as lines and as a line of JSON.
use Rattle.std.specs.Prelude.{ℕ, Bool, true, ◌&&◌, if◌then◌else◌, List, [], ◌∷◌, ◌++◌, map, codes, Option, Some, None, option_map}
use Rattle.std.specs.List.{flat_map}
use Rattle.std.specs.Str.Lossy.{utf8_lossy}
use Rattle.serde_json.specs.Data.{Data, boolean, array, object, string, Members, no_members, put}
use Rattle.serde_json.specs.View.{items_of}
use Rattle.vsi_answers.specs.Members.{found, object_line, with_text, with_natural, with_word}
use Rattle.vsi_conform.specs.declared.conformity.Conformity.{Conformity}
use Rattle.vsi_conform.specs.declared.conformity.Tried.{Tried}
use Rattle.vsi_conform.specs.Lines.{line}
use Rattle.vsi_conform.specs.Reaching.{Released, are_within, released}
use Rattle.vsi_conform.specs.ReachedLines.{released_lines}
use Rattle.vsi_conform.specs.Rows.{Detail, Row, Lines, Global, Spent, Ended, row, word_of}

-- A trial beside a reference: whether it shows no difference, and its line.
pub record Trial : Type 0 where
  pub agrees : Bool
  pub line : List ℕ

-- A trial of the code.
abbrev pub trial : Tried → Trial
trial t = record { agrees = t.agrees; line = t.line.items }

-- An answer: whether no point differs, the points that do, the released outputs, and the trial beside the reference, if
-- the interface names one.
pub record Said : Type 0 where
  pub fits : Bool
  pub rows : List Row
  pub found : List Released
  pub tried : Option Trial

-- An answer of the code.
abbrev pub said : Conformity → Said
said c =
    record {
      fits = c.fits;
      rows = map row c.rows.items;
      found = map released c.reaches.items;
      tried = option_map trial c.tried;
    }

-- No trial shows a difference.
abbrev pub agrees : Option Trial → Bool
agrees None = true
agrees (Some t) = t.agrees

-- The text or the image conforms: no point differs, the interface allows each global that reaches a released output, and
-- no trial shows a difference.
abbrev pub conforms : Said → Bool
conforms s = s.fits && are_within s.found && agrees s.tried

-- ---- lines.

-- The line of a verdict; that of one who doesn't conform are its differences.
abbrev pub verdict_line : Bool → List ℕ
verdict_line well = if well then codes "conforms\n" else []

-- The line of a trial, if there was one.
abbrev pub trial_line : Option Trial → List ℕ
trial_line None = []
trial_line (Some t) = t.line

-- The line of the verdict, and those of the points, the released outputs and the trial.
abbrev pub lines : Said → List ℕ
lines s = ((verdict_line (conforms s) ++ flat_map line s.rows) ++ released_lines s.found) ++ trial_line s.tried

-- ---- the object of a point.

-- The members with a position added, if there is one.
abbrev pub with_place : Option (ℕ × ℕ) → Members → Members
with_place None ms = ms
with_place (Some place) ms = with_natural (codes "column") place.1 (with_natural (codes "line") place.0 ms)

-- The members with what is expected added, if anything is.
abbrev pub with_expected : Option (List ℕ) → Members → Members
with_expected None ms = ms
with_expected (Some e) ms = with_text (codes "expected") e ms

-- The members with a budget added, if it is known.
abbrev pub with_budget : Option ℕ → Members → Members
with_budget None ms = ms
with_budget (Some budget) ms = with_natural (codes "budget") budget ms

-- The members with what a point says added.
abbrev pub with_detail : Option (ℕ × ℕ) → Detail → Members → Members
with_detail place (Lines lines) ms = with_text (codes "text") lines ms
with_detail place (Global name class expected) ms =
    with_expected expected (with_place place (with_text (codes "class") class (with_text (codes "name") name ms)))
with_detail place (Spent run budget) ms = with_budget budget (with_natural (codes "run") run ms)
with_detail place (Ended run name expected word) ms =
    put (codes "word") (found word) (with_word (codes "expected") expected
    (with_text (codes "name") name (with_natural (codes "run") run ms)))

-- The members of the object of a row: the word of its kind, and what it says.
abbrev pub members : Row → Members
members r = with_detail r.place r.detail (with_text (codes "point") (word_of r.kind) no_members)

-- The objects of rows.
abbrev pub objects : List Row → List Data
objects rows = map (λ r. object (members r)) rows

-- ---- the object of a released output.

-- The strings of names.
abbrev pub strings : List (List ℕ) → List Data
strings names = map (λ name. string (utf8_lossy name)) names

-- The members of the object of a released output: the names of the globals that reach it, and those that aren't allowed.
abbrev pub reach_members : Released → Members
reach_members r =
    with_text (codes "output") r.output (put (codes "from") (array (items_of (strings r.sources)))
    (with_text (codes "class") r.class (put (codes "beyond") (array (items_of (strings r.beyond))) no_members)))

-- The objects of released outputs.
abbrev pub reached : List Released → List Data
reached found = map (λ r. object (reach_members r)) found

-- ---- the object of an answer.

-- The members with the released outputs added, if there are any.
abbrev pub with_reached : List Released → Members → Members
with_reached [] ms = ms
with_reached (r ∷ rest) ms = put (codes "reached") (array (items_of (reached (r ∷ rest)))) ms

-- The members with the trial added, if there was one.
abbrev pub with_tried : Option Trial → Members → Members
with_tried None ms = ms
with_tried (Some t) ms =
    put (codes "reference") (object (with_text (codes "text") t.line
    (put (codes "agrees") (boolean t.agrees) no_members))) ms

-- The line of JSON: the verdict, the objects of the points, the released outputs and the trial.
abbrev pub json : Said → List ℕ
json s =
    object_line (with_tried s.tried (with_reached s.found
    (put (codes "points") (array (items_of (objects s.rows)))
    (put (codes "conforms") (boolean (conforms s)) no_members))))
