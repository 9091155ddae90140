use Rattle.std.proofs.Common.{rules, ◌∙◌, ◌<◌, ap, length, sym}
use Rattle.std.specs.Prelude.{bytes_eq}
use Rattle.vsi_arguments.proofs.Places.{text_at}
use Rattle.vsi_arguments.proofs.arguments.past.Goals as goal

pub returns-in-Some-clause-text : goal.returns-in-Some-clause-text
returns-in-Some-clause-text c =
    let within : c.args.place < length c.args.texts.now = search rules in
    text_at c.args.texts.now c.args.place c.in-Some.text.now c.args.word.now within
    (ap (λ text. bytes_eq text.now c.args.word.now) (sym c.in-Some.ensures.lookup.1) ∙ sym c.eq.ensures ∙ c.if-eq.true)
