-- The answer about a bound as a line of JSON, with keys in byte order.
use Rattle.std.specs.Prelude.{◌≡◌, ℕ, Bool, List, Option, codes}
use Rattle.serde_json.specs.Data.{boolean, Members, no_members, put}
use Rattle.vsi_image.specs.declared.instr.Image.{Image}
use Rattle.vsi_machine.specs.Bound.{Answers}
use Rattle.vsi_machine.specs.declared.bound.Bound.{Bound}
use Rattle.vsi_machine.specs.declared.bound.Bound.TheVariants.{Halts, Endless, Unstructured, TooLarge}
use Rattle.vsi_answers.specs.Bounds.{bound_line, is_bounded}
use Rattle.vsi_answers.specs.declared.bounds.Place.{Place}
use Rattle.vsi_answers.specs.Members.{without_end, with_text, with_natural, object_line}

-- The numbers of a bound: the least and the most instructions of a run, or the instruction for which there is none.
abbrev pub with_bound : Bound → Members → Members
with_bound (Halts least most) ms = with_natural (codes "most") most (with_natural (codes "least") least ms)
with_bound (Endless test reason) ms = with_natural (codes "instruction") test ms
with_bound (Unstructured at) ms = with_natural (codes "instruction") at ms
with_bound TooLarge ms = ms

-- The members of the object of an answer with this text.
abbrev pub bound_members : Bool → Bound → List ℕ → Members
bound_members bounded answer text =
    with_text (codes "text") (without_end text) (with_bound answer
    (put (codes "bounded") (boolean bounded) no_members))

-- The line has the numbers and the line of one answer that is right for the image. The place of a loop may be any.
pub record IsBoundJson (image : Image) (bounded : Bool) (out : List ℕ) : Type 0 where
  pub answer : Bound
  pub is : Answers image answer
  pub says : bounded ≡ is_bounded answer
  pub place : Option Place
  pub line : out ≡ object_line (bound_members bounded answer (bound_line place answer))
