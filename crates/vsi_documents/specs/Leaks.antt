-- A search for a leak as a line of JSON, with keys in byte order.
use Rattle.std.specs.Prelude.{◌≡◌, ◌≤◌, ℕ, Bool, true, false, List, Some, None, codes, slice_get}
use Rattle.serde_json.specs.Data.{boolean, Members, no_members, put}
use Rattle.vsi_lattice.specs.Known.{Known}
use Rattle.vsi_lattice.specs.LatticeView.{class_named, names, order}
use Rattle.vsi_lattice.specs.Order.{Lattice}
use Rattle.vsi_lattice.specs.declared.lattice.Lattice as named
use Rattle.vsi_image.specs.declared.instr.Image.{Image}
use Rattle.vsi_image.specs.Fields.{Global, globals}
use Rattle.vsi_compiler.specs.Headline.{IsImageOf}
use Rattle.vsi_compiler.specs.Readable.{HasProgram}
use Rattle.vsi_leak.specs.Leaks.{IsLeak, IsWanted, most_pairs}
use Rattle.vsi_leak.specs.declared.check.Finding.TheVariants as finding
use Rattle.vsi_leak.specs.declared.check.Leak.{Leak}
use Rattle.vsi_leak.specs.declared.whole.Wanted.{Wanted}
use Rattle.vsi_answers.specs.Members.{with_text, with_natural, object_line}
use Rattle.vsi_documents.specs.Words.{with_after, with_ending, with_pairs}

-- The members with the class of a leak, which has this name.
abbrev pub found_members : List ℕ → Members
found_members name = with_text (codes "class") name (put (codes "found") (boolean true) no_members)

-- The members of the object of a leak at the class of this name: each global at the start of both runs, the globals that
-- the class sees at their ends, and how they end.
abbrev pub leak_members : Known → Lattice → List ℕ → ℕ → List Global → Leak → Members
leak_members known L name budget gs leak =
    with_ending (codes "second") budget leak.second.ending (with_ending (codes "first") budget leak.first.ending
    (with_after known L leak.class gs leak.first.ending leak.second.ending
    (with_pairs (codes "before") known L None gs leak.first.store.items leak.second.store.items
    (found_members name))))

-- The members of the object of a search that found no leak in this many pairs of runs.
abbrev pub nothing_members : ℕ → Members
nothing_members pairs = with_natural (codes "pairs") pairs (put (codes "found") (boolean false) no_members)

-- The text has a program, and the line has a leak of its image, as the search wants it.
pub record TellsLeak (l : named.Lattice) (text : List ℕ) (wanted : Wanted) (out : List ℕ) : Type 0 where
  pub program : HasProgram (class_named l) text
  pub image : Image
  pub of_source : IsImageOf (class_named l) text image
  pub leak : Leak
  pub leaks : IsLeak (class_named l) (order l) image wanted.effort.budget leak
  pub is_wanted : IsWanted wanted (finding.Leak leak)
  pub name : List ℕ
  pub at_class : slice_get (names l) leak.class ≡ Some name
  pub line : out
      ≡ object_line
      (leak_members (class_named l) (order l) name wanted.effort.budget (globals image.globals.items) leak)

-- The text has a program, and the line has a number of pairs of runs without a leak, at most the tries for each class
-- and each sign; this says nothing about other pairs.
pub record TellsNothing (l : named.Lattice) (text : List ℕ) (wanted : Wanted) (out : List ℕ) : Type 0 where
  pub program : HasProgram (class_named l) text
  pub pairs : ℕ
  pub tried : pairs ≤ most_pairs (order l) wanted
  pub line : out ≡ object_line (nothing_members pairs)

-- The line of a search that found no leak, or of one that found a leak.
abbrev pub TellsSearch : named.Lattice → List ℕ → Wanted → Bool → List ℕ → Type 0
TellsSearch l text wanted true out = TellsNothing l text wanted out
TellsSearch l text wanted false out = TellsLeak l text wanted out
