use Rattle.std.proofs.Common.{◌≡◌, ◌∙◌, sym, true}
use Rattle.std.specs.Prelude.{bytes_eq, string_bytes}
use Rattle.vsi_arguments.proofs.Places.{first_named}
use Rattle.vsi_arguments.proofs.arguments.behind_name.Goals as goal

pub returns-in-len1-up : goal.returns-in-len1-up
returns-in-len1-up c =
    let is = sym c.eq.ensures ∙ c.if-eq.true in
    let same : bytes_eq (string_bytes c.first-item.result) c.args.name.now ≡ true =
    rw (← c.as_bytes.ensures.value, ← c.as_bytes-2.ensures.value) is in
    first_named string_bytes c.args.words.now c.first-item.result c.args.name.now c.in-len1-up.len_at_least
    c.first-item.is same
