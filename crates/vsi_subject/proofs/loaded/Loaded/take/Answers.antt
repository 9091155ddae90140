use Rattle.std.proofs.Common.{string_bytes, subst, sym}
use Rattle.std.proofs.lemmas.Map.Text.{btree_map_updates_text}
use Rattle.std.specs.Rc.{rc_slice_items}
use Rattle.vsi_subject.specs.Holding.{IsReadAt}
use Rattle.vsi_subject.proofs.Loading.{read_more}
use Rattle.vsi_subject.proofs.loaded.Loaded.take.Goals as goal

pub returns-clause-told : goal.returns-clause-told
returns-clause-told g c = λ all.
    let holds = g.F.Files.holds c.args.self.now.system in
    let texts = c.args.self.now.texts in
    let new = c.insert.new.self in
    let at = string_bytes c.in_ok-path.path in
    read_more holds texts new at c.in_ok-shared.shared
    (btree_map_updates_text at texts new _ c.in_ok-insert.ensures.updates) all
    (subst (λ p. IsReadAt holds p (rc_slice_items c.in_ok-shared.shared)) (sym c.in_ok-path.ensures.ok)
    (subst (IsReadAt holds c.args.path.now) (sym c.in_ok-shared.ensures) c.in-Ok.ensures.read))
