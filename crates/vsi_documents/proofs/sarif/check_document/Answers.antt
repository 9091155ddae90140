use Rattle.std.proofs.Common.{◌≡◌, ◌∙◌, ap, map}
use Rattle.std.specs.Prelude.{codes}
use Rattle.serde_json.specs.Data.{object, put}
use Rattle.serde_json.specs.View.{members_view, view}
use Rattle.vsi_answers.specs.Members.{with_text}
use Rattle.vsi_documents.specs.Document.{check_members}
use Rattle.vsi_documents.specs.Objects.{text_members}
use Rattle.vsi_documents.proofs.sarif.check_document.Goals as goal

pub returns : goal.returns
returns c =
    let key = codes "automationDetails" in
    let named : members_view c.in_ok-id.id ≡ text_members (codes "id") (codes "vsi/check") =
    c.in_ok-id.ensures.text ∙ ap (λ ms. with_text (codes "id") (codes "vsi/check") ms) c.new.ensures in
    let made : members_view c.in_ok-run-2.run' ≡ check_members (map view c.args.rules) (map view c.args.results) =
    c.in_ok-run-2.ensures.object ∙ ap (λ ms. put key (object ms) (members_view c.in_ok-run.field-0)) named
    ∙ ap (λ ms. put key (object (text_members (codes "id") (codes "vsi/check"))) ms) c.in_ok-run.ensures in
    rw made at c.run_line.ensures
