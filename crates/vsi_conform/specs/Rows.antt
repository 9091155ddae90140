-- The points of a text or an image beside an interface as rows, which each form of an answer goes over.
use Rattle.std.specs.Prelude.{◌≡◌, ℕ, ◌+◌, ℤ, Bool, true, false, if◌then◌else◌, List, [], ◌∷◌, ◌++◌, map, take, length, codes, Option, Some, None, option_map, slice_get}
use Rattle.std.specs.Global.{Vec}
use Rattle.vsi_syntax.specs.Lines.{breaks, last_line}
use Rattle.vsi_syntax.specs.Tree.{Declared}
use Rattle.vsi_syntax.specs.CommandView.{declared}
use Rattle.vsi_image.specs.declared.instr.Image.{Image}
use Rattle.vsi_image.specs.Fields.{globals}
use Rattle.vsi_conform.specs.declared.interface.Interface.{Interface}
use Rattle.vsi_conform.specs.declared.interface.Point.{Point}
use Rattle.vsi_conform.specs.declared.interface.Point.TheVariants as point
use Rattle.vsi_conform.specs.declared.rows.Kind.{Kind}
use Rattle.vsi_conform.specs.declared.rows.Kind.TheVariants.{Refused, Missing, Unexpected, Class, Order, Budget, Word, Bound}
use Rattle.vsi_conform.specs.declared.rows.Detail as code
use Rattle.vsi_conform.specs.declared.rows.Detail.TheVariants as said
use Rattle.vsi_conform.specs.declared.rows.Row as written
use Rattle.vsi_conform.specs.declared.rows.Held as taken
use Rattle.vsi_conform.specs.declared.rows.Judged.{Judged}
use Rattle.vsi_conform.specs.declared.rows.Judged.TheVariants as judged
use Rattle.vsi_conform.specs.Points.{Entry}
use Rattle.vsi_conform.specs.Shown.{asked, expected, run_number}

-- The word of a kind of point. A refusal and the line about a bound are points, too.
abbrev pub word_of : Kind → List ℕ
word_of Refused = codes "refused"
word_of Missing = codes "missing"
word_of Unexpected = codes "unexpected"
word_of Class = codes "class"
word_of Order = codes "order"
word_of Budget = codes "budget"
word_of Word = codes "word"
word_of Bound = codes "bound"

-- The contents of a point: lines; a global with its class, and what is expected in its place; a run and its budget; or a run, a
-- name with the word that is expected for it, and the word that is found.
pub data Detail : Type 0 where
  Lines : (lines : List ℕ) → Detail
  Global : (name : List ℕ) → (class : List ℕ) → (expected : Option (List ℕ)) → Detail
  Spent : (run : ℕ) → (budget : Option ℕ) → Detail
  Ended : (run : ℕ) → (name : List ℕ) → (expected : ℤ) → (found : Option ℤ) → Detail

-- A point: its kind, its line and its column in the text, and what it says.
pub record Row : Type 0 where
  pub kind : Kind
  pub place : Option (ℕ × ℕ)
  pub detail : Detail

-- ---- rows of the code.

-- The contents of a point of the code, as a value of these definitions.
abbrev pub detail : code.Detail → Detail
detail (said.Lines lines) = Lines lines.items
detail (said.Global name class expected) = Global name.items class.items (option_map (λ e. e.items) expected)
detail (said.Budget run budget) = Spent run budget
detail (said.Word run name expected found) = Ended run name.items expected found

-- A row of the code, as a value of these definitions.
abbrev pub row : written.Row → Row
row r = record { kind = r.kind; place = r.place; detail = detail r.detail }

-- ---- the global that a point is about.

-- A global and, if it is one of a text, the line and the column, from 1, of its name or its class name.
pub record Held : Type 0 where
  pub global : List ℕ × List ℕ
  pub place : Option (ℕ × ℕ)

-- A global of the code, as a value of these definitions.
abbrev pub held : taken.Held → Held
held h = record { global = (h.name.now, h.class.now); place = h.place }

-- The start of a global's class name, or of its name.
abbrev pub start_of : Bool → Declared → ℕ
start_of is_class d = if is_class then d.class.span.start else d.name.span.start

-- A global with the line and column of a position in the text.
abbrev pub placed_at : List ℕ → Declared → ℕ → Held
placed_at text d at =
    record {
      global = (d.name.text, d.class.text);
      place = Some (1 + breaks (take at text), 1 + length (last_line (take at text)));
    }

-- A global of the text with the line and column of its name or class; an empty one if there is none.
abbrev pub declared_at : List ℕ → Bool → Option Declared → Held
declared_at text is_class None = record { global = ([], []); place = Some (1, 1) }
declared_at text is_class (Some d) = placed_at text d (start_of is_class d)

-- The n-th global of a text.
abbrev pub text_held : List ℕ → List Declared → Bool → ℕ → Held
text_held text ds is_class n = declared_at text is_class (slice_get ds n)

-- A global of an image, which has no position; an empty one if there is none.
abbrev pub unplaced : Option (List ℕ × List ℕ) → Held
unplaced None = record { global = ([], []); place = None }
unplaced (Some g) = record { global = g; place = None }

-- The n-th global of an image.
abbrev pub image_held : Image → ℕ → Held
image_held image n = unplaced (slice_get (globals image.globals.items) n)

-- The same, wherever a position is wanted.
abbrev pub numbered_held : Image → Bool → ℕ → Held
numbered_held image is_class n = image_held image n

-- The n-th global of what is judged.
abbrev pub held_of : Judged → Bool → ℕ → Held
held_of (judged.Text text found) = text_held text.now (map declared found.now)
held_of (judged.Image image) = numbered_held image.now

-- ---- the rows.

-- The row of a global.
abbrev pub global_row : Kind → Held → Option (List ℕ) → Row
global_row kind h expected =
    record { kind = kind; place = h.place; detail = Global h.global.0 h.global.1 expected }

-- The row of a run that doesn't halt.
abbrev pub budget_row : ℕ → Option ℕ → Row
budget_row n budget = record { kind = Budget; place = None; detail = Spent (run_number n) budget }

-- The row of a word that differs from the expected one.
abbrev pub word_row : ℕ → Entry → Option ℤ → Row
word_row n e found = record { kind = Word; place = None; detail = Ended (run_number n) e.0 e.1 found }

-- The row of a point, with the globals of what is judged.
abbrev pub row_of : Interface → (Bool → ℕ → Held) → Point → Row
row_of i at (point.Missing n) = global_row Missing (unplaced (Some (asked i n))) None
row_of i at (point.Unexpected place) = global_row Unexpected (at false place) None
row_of i at (point.WrongClass place n) = global_row Class (at true place) (Some (asked i n).1)
row_of i at (point.WrongOrder place) = global_row Order (at false place) (Some (asked i place).0)
row_of i at (point.OutOfBudget run) =
    budget_row run (option_map (λ t. t.budget) (slice_get i.trials.items run))
row_of i at (point.WrongWord run n word) = word_row run (expected i run n) (Some word)
row_of i at (point.NoWord run n) = word_row run (expected i run n) None

-- The row of a refusal or a bound, if there are lines about it.
abbrev pub lines_rows : Kind → Option (Vec ℕ) → List Row
lines_rows kind None = []
lines_rows kind (Some lines) = record { kind = kind; place = None; detail = Lines lines.items } ∷ []

-- The row of the refusal, if there is one, a row for each point, in order, and that of the bound.
abbrev pub rows_of : Interface → (Bool → ℕ → Held) → Option (Vec ℕ) → List Point → Option (Vec ℕ) → List Row
rows_of i at refusal points bound =
    (lines_rows Refused refusal ++ map (row_of i at) points) ++ lines_rows Bound bound
