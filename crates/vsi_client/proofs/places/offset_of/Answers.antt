use Rattle.std.proofs.Common.{drop, sym, subst, ap, ◌∙◌}
use Rattle.std.proofs.lemmas.List.{drop-drop}
use Rattle.vsi_client.specs.Places.{BeginsCharacter, in_line}
use Rattle.vsi_client.proofs.Lining.{in_line_begins}
use Rattle.vsi_client.proofs.places.offset_of.Goals as goal

pub returns-clause-boundary : goal.returns-clause-boundary
returns-clause-boundary c =
    let start = c.line_start-start.result in
    let text = c.args.text.now in
    let rest = drop start text in
    subst BeginsCharacter (drop-drop c.in_line.result start text)
    (subst (λ size. BeginsCharacter (drop size rest))
    (sym (c.in_line.ensures.size ∙ ap (λ t. in_line c.args.encoding c.args.place.character t) c.after.ensures.rest))
    (in_line_begins c.args.encoding c.args.place.character rest))
