use Rattle.std.proofs.Common.{rules, ◌≡◌, length, ap, subst, sym, ◌∙◌}
use Rattle.vsi_image.specs.Fields.{fields, Spells}
use Rattle.vsi_image.proofs.Images.{images-agree}
use Rattle.vsi_scope.specs.View.{sequence}
use Rattle.vsi_code.proofs.Made.{made_fields}
use Rattle.vsi_audit.proofs.Standing.{same_bytes, behaves_same}
use Rattle.vsi_audit.proofs.audit.compare.Goals as goal

pub returns-then-is_alike : goal.returns-then-is_alike
returns-then-is_alike c =
    let v = c.in_ok-verified.ensures in
    let first = c.in_ok-first.first.items in
    let second = c.in_ok-second.second.items in
    let made = c.image-made.result.now in
    let equal : first ≡ second = same_bytes first second (search rules) in
    let agree : fields made ≡ fields c.args.image.now =
    images-agree second (fields made) (fields c.args.image.now)
    (subst (λ bytes. Spells bytes (fields made)) equal c.in_ok-first.ensures) c.in_ok-second.ensures in
    let same : fields c.in_ok-verified.verified ≡ fields c.args.image.now =
    sym (ap fields c.image-made.ensures.same) ∙ agree in
    record {
      stands = sym same ∙ made_fields c.args.program.now c.in_ok-verified.verified
          (record { globals = v.globals; code = v.code; slots = v.slots; stack = v.stack });
      behaves = behaves_same c.in_ok-verified.verified c.args.image.now same (length c.args.program.now.globals)
          (sequence c.args.program.now.body) v.behaves;
    }
