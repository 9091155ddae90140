use Rattle.std.proofs.Common.{string_bytes, subst}
use Rattle.vsi_image.specs.Fields.{globals}
use Rattle.vsi_store.specs.File.{Tells}
use Rattle.vsi_subject.specs.Holding.{IsReadAt}
use Rattle.vsi_requests.proofs.projects.Judging.has_store.Goals as goal

pub returns-in-Ok-clause-told : goal.returns-in-Ok-clause-told
returns-in-Ok-clause-told g c = λ has. rw c.in-Some.is (
    let file = c.in_ok-bytes.bytes.items in
    record {
      file = file;
      read = subst (λ p. IsReadAt (g.F.Files.holds c.args.subject.now.files.now) p file) c.as_str-path.ensures.value
          c.in_ok-bytes.ensures.read;
      whole = c.in_ok-bytes.ensures.whole;
      words = c.in-Ok._words.items;
      gives = subst (λ f. Tells f (globals c.args.verified.now.globals.items) c.in-Ok._words.items)
          c.deref.ensures.value
          (subst (λ im. Tells c.deref.result.now (globals im.globals.items) c.in-Ok._words.items)
          c.image.ensures.same c.in-Ok.ensures.words);
    })
