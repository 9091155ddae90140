use Rattle.std.proofs.Common.{◌≡◌, ℕ, List, Ok, Err, false, inr, refl, subst}
use Rattle.std.specs.Borrow.{Bor}
use Rattle.vsi_image.specs.declared.instr.Image.{Image}
use Rattle.vsi_lattice.specs.declared.lattice.Lattice.{Lattice}
use Rattle.vsi_types.specs.declared.rules.Profile.TheVariants.{Base}
use Rattle.vsi_answers.specs.Requests.{BuildsTo}
use Rattle.vsi_subject.specs.Files.{AreFiles}
use Rattle.vsi_subject.specs.Holding.{Holding}
use Rattle.vsi_subject.specs.Performed.{IsBuiltAt, compilation_of}
use Rattle.vsi_subject.specs.Tried.{IsMade}
use Rattle.vsi_subject.specs.Refusals.{AsksImage, FailsBy, NoOther, RefusesFiles, RefusesImage}
use Rattle.vsi_subject.proofs.Reasons.{failed_by, handed}
use Rattle.vsi_subject.proofs.RefusalLemmas.{refuses_lattice}
use Rattle.vsi_requests.proofs.images.bound.Goals as goal

-- An image that is made of the text of a file is the one that `build` makes.
built_at : (holds : Holding) (lattice source : Bor (List ℕ)) (l : Lattice) (text slice : List ℕ) (im : Image) →
    AreFiles holds (compilation_of lattice source) l text → slice ≡ text → IsMade l slice im →
    IsBuiltAt holds (compilation_of lattice source) im
built_at holds lattice source l text slice im files same made = record {
  bytes = made.bytes;
  built = record {
    lattice = l;
    source = text;
    files = files;
    is = subst (λ s. BuildsTo l Base s (Ok made.bytes)) same made.built;
  };
  are = made.are;
}

pub returns-in_err-image-clause-failed : goal.returns-in_err-image-clause-failed
returns-in_err-image-clause-failed g c = rw c.in_default.is
    (handed (FailsBy (RefusesImage (g.F.Files.holds c.args.subject.now.files.now) c.args.asked.file.now) NoOther)
    c.in_err-image.field-0.0 c.from_residual.result c.from_residual.ensures.1 c.in_err-image.ensures.failed)

pub returns-then-is_json-clause-told : goal.returns-then-is_json-clause-told
returns-then-is_json-clause-told g c = rw c.in_default.is (record {
  image = c.in_ok-image.image;
  held = c.in_ok-image.ensures.read;
  is = rw c.if-is_json.true c.in_ok-bound_json.ensures.answer;
})

pub returns-in_default-clause-told : goal.returns-in_default-clause-told
returns-in_default-clause-told g c = rw c.in_default.is (record {
  image = c.in_ok-image.image;
  held = c.in_ok-image.ensures.read;
  is = rw c.if-is_json.false (c.in_ok-found.found, c.in_ok-found.ensures.bound, refl, refl);
})

pub returns-in_err-classes-clause-failed : goal.returns-in_err-classes-clause-failed
returns-in_err-classes-clause-failed g c = rw c.in-Some.is
    (refuses_lattice (g.F.Files.holds c.args.subject.now.files.now)
    (compilation_of c.in-Some.lattice c.args.asked.file) (AsksImage false)
    c.from_residual-in_err-classes.result c.in_err-classes.field-0.0 c.from_residual-in_err-classes.ensures.1
    c.in_err-classes.ensures.failed)

pub returns-in_err-verified-clause-failed : goal.returns-in_err-verified-clause-failed
returns-in_err-verified-clause-failed g c = rw c.in-Some.is
    (let holds = g.F.Files.holds c.args.subject.now.files.now in
    let compilation = compilation_of c.in-Some.lattice c.args.asked.file in
    failed_by (λ reason. BuildsTo c.in_ok-classes.classes Base c.as_slice-text.result.now (Err reason))
    (RefusesFiles holds compilation (AsksImage false)) NoOther
    (λ reason is. inr (record {
      lattice = c.in_ok-classes.classes;
      source = c.in_ok-classes.text.items;
      files = c.in_ok-classes.ensures.told;
      is = subst (λ s. BuildsTo c.in_ok-classes.classes Base s (Err reason)) c.as_slice-text.ensures.value is;
    }))
    c.from_residual-in_err-verified.result c.in_err-verified.field-0.0 c.from_residual-in_err-verified.ensures.1
    c.in_err-verified.ensures.failed)

pub returns-then-is_json-2-clause-told : goal.returns-then-is_json-2-clause-told
returns-then-is_json-2-clause-told g c = rw c.in-Some.is (record {
  image = c.in_ok-verified.verified;
  held = built_at _ _ _ _ _ _ _ c.in_ok-classes.ensures.told c.as_slice-text.ensures.value
      c.in_ok-verified.ensures.made;
  is = rw c.if-is_json-2.true c.in_ok-bound_json_in.ensures.answer;
})

pub returns-clause-told : goal.returns-clause-told
returns-clause-told g c = rw c.in-Some.is (record {
  image = c.in_ok-verified.verified;
  held = built_at _ _ _ _ _ _ _ c.in_ok-classes.ensures.told c.as_slice-text.ensures.value
      c.in_ok-verified.ensures.made;
  is = rw c.if-is_json-2.false (c.in_ok-found-2.found, c.in_ok-found-2.ensures.bound, refl, refl);
})
