-- Two runs of an image, as a class sees them, as a line of JSON, with keys in byte order.
use Rattle.std.specs.Prelude.{◌≡◌, ℕ, ℤ, Bool, List, Some, Result, codes}
use Rattle.serde_json.specs.Data.{boolean, Members, no_members, put}
use Rattle.vsi_lattice.specs.Known.{Known}
use Rattle.vsi_lattice.specs.LatticeView.{class_named, order}
use Rattle.vsi_lattice.specs.Order.{Lattice}
use Rattle.vsi_lattice.specs.declared.lattice.Lattice as named
use Rattle.vsi_image.specs.declared.instr.Image.{Image}
use Rattle.vsi_image.specs.Fields.{Global, globals}
use Rattle.vsi_store.specs.Compare.{Compares}
use Rattle.vsi_store.specs.declared.comparing.Comparison.{Comparison}
use Rattle.vsi_answers.specs.Answers.{Judges}
use Rattle.vsi_answers.specs.Judged.{IsViewFault, TellsFault}
use Rattle.vsi_answers.specs.declared.unanswered.Unanswered.{Unanswered}
use Rattle.vsi_answers.specs.Members.{with_text, object_line}
use Rattle.vsi_documents.specs.Words.{with_after, with_ending, with_pairs}
use Rattle.vsi_documents.specs.declared.answer.Reply.{Reply}

-- The members with the verdict of a class of this name.
abbrev pub verdict_members : List ℕ → Bool → Members
verdict_members name same = with_text (codes "class") name (put (codes "same") (boolean same) no_members)

-- The members of the object of a comparison: whether the class of this name sees the same after both runs, what it sees
-- before them and after them, and how they end.
abbrev pub comparison_members : Known → Lattice → List ℕ → ℕ → List Global → List ℤ → List ℤ → ℕ → Comparison → Members
comparison_members known L name a gs m m' budget c =
    with_ending (codes "second") budget c.second (with_ending (codes "first") budget c.first
    (with_after known L a gs c.first c.second (with_pairs (codes "before") known L (Some a) gs m m'
    (verdict_members name c.is_same))))

-- The line has the comparison that a class makes of the runs of an image from two stores, within a budget.
pub record IsComparisonJson (l : named.Lattice) (a : ℕ) (image : Image) (m m' : List ℤ) (budget : ℕ) (same : Bool)
    (out : List ℕ) : Type 0 where
  pub found : Comparison
  pub compares : Compares l a image m m' budget found
  pub says : same ≡ found.is_same
  pub line : out
      ≡ object_line
      (comparison_members (class_named l) (order l) compares.name a (globals image.globals.items) m m' budget found)

-- The line of a comparison, or the first global whose class the lattice lacks.
abbrev pub ComparesJsonTo : named.Lattice → ℕ → Image → List ℤ → List ℤ → ℕ → Result Reply Unanswered → Type 0
ComparesJsonTo l a image m m' budget =
    Judges (λ answer. IsComparisonJson l a image m m' budget answer.is_good answer.text.items)
    (TellsFault (IsViewFault l image))
