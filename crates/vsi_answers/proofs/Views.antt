-- A view depends only on the fields of an image.
use Rattle.std.proofs.Common.{◌≡◌, ℕ, List, length, ◌-◌, ◌++◌, [], Some, true, replicate, take, sym, subst, ap, ◌∙◌}
use Rattle.std.specs.Prelude.{ℤ, pos, Ok, Result}
use Rattle.std.specs.Global.{Vec}
use Rattle.std.proofs.lemmas.List.{length-map}
use Rattle.vsi_lattice.specs.Order.{Lattice}
use Rattle.vsi_image.specs.declared.instr.Image.{Image}
use Rattle.vsi_image.specs.declared.decoder.DecodeError.{DecodeError}
use Rattle.vsi_image.specs.Fields.{Fields, fields, global, globals}
use Rattle.vsi_image.specs.Meaning.{State, after, going}
use Rattle.vsi_lattice.specs.Known.{Known}
use Rattle.vsi_store.specs.View.{Views, view_text_of}
use Rattle.vsi_store.specs.declared.views.View.TheVariants.{Text}

-- The class has this view of the run of an image with these fields.
record Sees (known : Known) (L : Lattice) (a : ℕ) (f : Fields) (m : List ℤ) (budget : ℕ) (text : List ℕ) : Type 0 where
  last : State
  reached : after f.code budget (going 0 [] (m ++ replicate (f.slots - length m) (pos 0))) ≡ Some last
  halted : last.halted ≡ true
  seen : text ≡ view_text_of known L a f.globals (take (length f.globals) last.slots)

-- The view of an image is the view of its fields.
sees : (known : Known) (L : Lattice) (a : ℕ) (im : Image) (m : List ℤ) (budget : ℕ) (t : Vec ℕ) →
    Views known L a im m budget (Text t) → Sees known L a (fields im) m budget t.items
sees known L a im m budget t v =
    let many : length (globals im.globals.items) ≡ length im.globals.items = length-map im.globals.items global in
    record {
      last = v.0;
      reached = v.1;
      halted = v.2.0;
      seen = v.2.1 ∙ ap (λ n. view_text_of known L a (globals im.globals.items) (take n v.0.slots)) (sym many);
    }

-- The view of the fields is the view of the image.
views : (known : Known) (L : Lattice) (a : ℕ) (im : Image) (m : List ℤ) (budget : ℕ) (t : Vec ℕ) →
    Sees known L a (fields im) m budget t.items → Views known L a im m budget (Text t)
views known L a im m budget t s =
    let many : length (globals im.globals.items) ≡ length im.globals.items = length-map im.globals.items global in (
      s.last,
      s.reached,
      (
        s.halted,
        s.seen ∙ ap (λ n. view_text_of known L a (globals im.globals.items) (take n s.last.slots)) many,
      ),
    )

-- Images with the same fields have the same views.
pub view_moved : (known : Known) (L : Lattice) (a : ℕ) (im image : Image) → fields im ≡ fields image →
    (m : List ℤ) (budget : ℕ) (t : Vec ℕ) → Views known L a im m budget (Text t) → Views known L a image m budget (Text t)
view_moved known L a im image same m budget t v =
    views known L a image m budget t
    (subst (λ f. Sees known L a f m budget t.items) same (sees known L a im m budget t v))

-- The fields that were read, as an answer of the decoder.
abbrev given : Fields → Result Fields DecodeError
given f = Ok f

-- Bytes decode to the fields of only one image.
pub same_fields : (f g : Fields) → given f ≡ given g → f ≡ g
same_fields f g e = cc
