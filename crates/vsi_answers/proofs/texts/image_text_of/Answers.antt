use Rattle.std.proofs.Common.{subst}
use Rattle.vsi_compiler.proofs.Held.{has_program}
use Rattle.vsi_steady.specs.Telling.{IsUnsteadyText}
use Rattle.vsi_answers.proofs.texts.image_text_of.Goals as goal

pub returns : goal.returns
returns c =
    let s = c.args.source.now in
    let text = c.in_ok-text.text.items in
    record {
      program = has_program s c.resolved-program.ensures.kept;
      image = c.in_ok-verified.verified;
      is_image = c.in_ok-verified.ensures.image;
      told = subst (λ l. IsUnsteadyText l c.in_ok-verified.verified c.args.error.now text) c.lattice-lattice.ensures
          (subst (λ im. IsUnsteadyText c.lattice-lattice.result.now im c.args.error.now text) c.image.ensures.same
          c.in_ok-text.ensures);
    }
