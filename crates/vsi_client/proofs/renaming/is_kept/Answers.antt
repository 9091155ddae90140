use Rattle.std.proofs.Common.{rules, ◌≡◌, true, sym, ◌∙◌, arith}
use Rattle.std.proofs.lemmas.Slice.Eq.{slice_eq-Decides}
use Rattle.vsi_client.proofs.renaming.is_kept.Goals as goal

pub returns : goal.returns
returns c = λ same.
    let is = (slice_eq-Decides (λ a b. search rules) c.image.result.now.code.items c.image-2.result.now.code.items c.eq.result c.eq.ensures).0 same in
    search rules
