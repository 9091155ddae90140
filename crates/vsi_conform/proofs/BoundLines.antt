-- The bound of an image, and the line about it.
use Rattle.std.proofs.Common.{◌≡◌, ◌≤◌, ◌<◌, ℕ, true, false, List, Option, Some, None, IfSome, refl, sym, subst, inl, inr, ◌∙◌}
use Rattle.std.specs.Global.{Vec}
use Rattle.vsi_lattice.specs.declared.lattice.Lattice.{Lattice}
use Rattle.vsi_lattice.specs.LatticeView.{class_named}
use Rattle.vsi_image.specs.declared.instr.Image.{Image}
use Rattle.vsi_compiler.specs.Headline.{IsImageOf}
use Rattle.vsi_machine.specs.Bound.{Answers}
use Rattle.vsi_machine.specs.declared.bound.Bound.{Bound}
use Rattle.vsi_machine.specs.declared.bound.Bound.TheVariants.{Halts, Endless, Unstructured, TooLarge}
use Rattle.vsi_answers.specs.Bounds.{IsBound, TellsBound, is_bounded}
use Rattle.vsi_answers.specs.Bounds as answers
use Rattle.vsi_answers.specs.declared.bounds.BoundAnswer.{BoundAnswer}
use Rattle.vsi_conform.specs.Bounded.{HasBound, IsBoundedAs, FaultsBound, ReportsBound, demands_bound, excess_line}
use Rattle.vsi_conform.specs.Conforms.{IsUnbounded, TellsReadable}
use Rattle.vsi_conform.specs.declared.interface.Bounded.{Bounded}
use Rattle.vsi_conform.specs.declared.interface.Bounded.TheVariants.{No, Yes, AtMost}
use Rattle.vsi_conform.specs.declared.interface.Interface.{Interface}
use Rattle.vsi_conform.specs.declared.interface.Point.{Point}

-- An answer with a number is a bound.
has_bound : (image : Image) (found : Bound) → Answers image found → is_bounded found ≡ true → HasBound image
has_bound image (Halts least most) is h = (most, (least, is))
has_bound image (Endless test reason) is h = absurd cc
has_bound image (Unstructured place) is h = absurd cc
has_bound image TooLarge is h = absurd cc

-- If the answer has a number, nothing is reported.
pub answer_bounded : (image : Image) (told : BoundAnswer) → TellsBound image told → told.is_bounded ≡ true →
    ReportsBound Yes image None
answer_bounded image told tells h = has_bound image tells.answer tells.is (sym tells.bounded ∙ h)

-- If it has none, its line is reported.
pub answer_lacks : (image : Image) (told : BoundAnswer) → TellsBound image told → told.is_bounded ≡ false →
    ReportsBound Yes image (Some told.text)
answer_lacks image told tells h =
    record {
      answer = tells.answer;
      is = tells.is;
      unbounded = sym tells.bounded ∙ h;
      place = tells.place;
      says = tells.line;
    }

-- The same where the bound has a maximum.
pub answer_above : (image : Image) (maximum : ℕ) (told : BoundAnswer) → TellsBound image told →
    told.is_bounded ≡ false → ReportsBound (AtMost maximum) image (Some told.text)
answer_above image maximum told tells h = inl (answer_lacks image told tells h)

-- If the bound is within the maximum, nothing is reported.
pub within_reported : (image : Image) (maximum most : ℕ) → IsBound image most → most ≤ maximum →
    ReportsBound (AtMost maximum) image None
within_reported image maximum most is within = (most, is, within)

-- If it is above, both numbers are reported.
pub excess_reported : (image : Image) (maximum most : ℕ) (line : Vec ℕ) → IsBound image most → maximum < most →
    line.items ≡ excess_line most maximum → ReportsBound (AtMost maximum) image (Some line)
excess_reported image maximum most line is above says =
    inr (record { most = most; is = is; above = above; says = says })

-- A line that names a loop by the number of an instruction is reported.
pub line_reported : (image : Image) (maximum : ℕ) (line : Vec ℕ) → answers.LacksBound image line.items →
    ReportsBound (AtMost maximum) image (Some line)
line_reported image maximum line h =
    inl (record { answer = h.answer; is = h.is; unbounded = h.unbounded; place = None; says = h.says })

-- If no bound is required, nothing is reported.
pub nothing_reported : (b : Bounded) (image : Image) → demands_bound b ≡ false → ReportsBound b image None
nothing_reported No image is = tt
nothing_reported Yes image is = absurd cc
nothing_reported (AtMost maximum) image is = absurd cc

-- If nothing is reported, the image has the required bound.
pub bounded_so : (b : Bounded) (image : Image) (line : Option (Vec ℕ)) → ReportsBound b image line → line ≡ None →
    IsBoundedAs b image
bounded_so b image None told none = told
bounded_so b image (Some line) told none = absurd cc

-- If a line is reported, a bound is required.
required_so : (b : Bounded) (image : Image) (line : List ℕ) → FaultsBound b image line → demands_bound b ≡ true
required_so No image line told = absurd told
required_so Yes image line told = refl
required_so (AtMost maximum) image line told = refl

-- A line about the image of a text is about the text.
pub unbounded_so : (l : Lattice) (text : List ℕ) (i : Interface) (image : Image) (line : Option (Vec ℕ)) →
    IsImageOf (class_named l) text image → ReportsBound i.bounded image line →
    IfSome line (λ found. IsUnbounded l text i found.items)
unbounded_so l text i image None is told = tt
unbounded_so l text i image (Some line) is told =
    record { required = required_so i.bounded image line.items told; image = image; is_image = is; faults = told }

-- The same holds of a refused text.
pub readable_unbounded : (l : Lattice) (text : List ℕ) (i : Interface) (ps : List Point) (line : Option (Vec ℕ)) →
    TellsReadable (class_named l) text i ps line → IfSome line (λ found. IsUnbounded l text i found.items)
readable_unbounded l text i ps line (inl t) = unbounded_so l text i t.image line t.code t.bound
readable_unbounded l text i ps line (inr t) =
    subst (λ o. IfSome o (λ found. IsUnbounded l text i found.items)) (sym t.boundless) tt
