use Rattle.std.proofs.Common.{◌≡◌, ◌∙◌, ◌∷◌, [], ap}
use Rattle.std.specs.Prelude.{codes}
use Rattle.serde_json.specs.Data.{array, object, put}
use Rattle.serde_json.specs.View.{items_of, members_view}
use Rattle.vsi_answers.specs.Members.{with_text}
use Rattle.vsi_documents.specs.Document.{document_members, schema}
use Rattle.vsi_documents.proofs.sarif.run_line.Goals as goal

pub returns : goal.returns
returns c =
    let run = members_view c.args.run in
    let made : members_view c.in_ok-text-2.field-0 ≡ document_members run =
    c.in_ok-text-2.ensures.text
    ∙ ap (λ ms. with_text (codes "version") (codes "2.1.0") ms) (c.in_ok-text.ensures.text
    ∙ ap (λ ms. with_text (codes "$schema") schema ms) (c.in_ok-array.ensures.array
    ∙ ap (λ items. put (codes "runs") (array (items_of items)) (members_view c.new.result)) c.in_ok-runs.ensures
    ∙ ap (λ ms. put (codes "runs") (array (items_of (object run ∷ []))) ms) c.new.ensures)) in
    rw made at c.line.ensures.line
