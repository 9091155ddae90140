use Rattle.std.proofs.Common.{rules, ◌≡◌, [], ◌∷◌, ◌++◌, ◌+◌, drop, length, map, refl, ap, sym, ◌∙◌}
use Rattle.std.proofs.lemmas.List.{append-nil, append_assoc}
use Rattle.std.proofs.lemmas.Option.{slice_get_read}
use Rattle.serde_json.specs.Data.{object}
use Rattle.serde_json.specs.View.{members_view, view}
use Rattle.vsi_image.specs.Fields.{globals}
use Rattle.vsi_lattice.specs.LatticeView.{class_named, order}
use Rattle.vsi_leak.specs.Texts.{is_shown}
use Rattle.vsi_documents.specs.Words.{pair_members, pair_objects, shown_pair}
use Rattle.vsi_documents.proofs.Worded.{pairs_step}
use Rattle.vsi_documents.proofs.answer.with_pairs.Goals.{then-is_shown+in_ok-made+in_ok-word+in_ok-word-2+in_ok-push, else-is_shown}
use Rattle.vsi_documents.proofs.answer.with_pairs.Goals as goal

pub loop-i-preserved : goal.loop-i-preserved
loop-i-preserved c =
    let known = class_named c.args.lattice.now in
    let L = order c.args.lattice.now in
    let to = c.args.to.now in
    let i = c.loop-i.i in
    let gs = c.args.variables.now in
    let ws = c.args.words.0.now in
    let vs = c.args.words.1.now in
    let g = c.index-variables-i.result in
    let w' = c.in-Some-Some.one.now in
    let v = c.in-Some-Some.other.now in
    let step = pairs_step known L to gs ws vs i g w' v
    (slice_get_read gs (length gs) i g refl (search rules) c.index-variables-i.is)
    (slice_get_read ws (length ws) i w' refl c.in-Some-Some.ensures.lookup.3.0 c.in-Some-Some.ensures.lookup.1)
    (slice_get_read vs (length vs) i v refl c.in-Some-Some.ensures'.lookup.3.0 c.in-Some-Some.ensures'.lookup.1) in
    let found = map view c.loop-i.found in
    let pair = shown_pair (is_shown known L to g.1.items) g.0.items w' v in
    let rest = pair_objects known L to (globals (drop (i + 1) gs)) (drop (i + 1) ws) (drop (i + 1) vs) in
    let shown : is_shown known L to g.1.items ≡ c.is_shown.result =
    sym (c.is_shown.ensures ∙ ap (is_shown known L to) c.as_slice.ensures.value) in
    let one : map view c.if-is_shown.found ≡ found ++ pair = elim c.if-is_shown.branch [
      | then-is_shown+in_ok-made+in_ok-word+in_ok-word-2+in_ok-push w ↦
          let made : members_view w.in_ok-word-2.field-0 ≡ pair_members g.0.items w' v = search rules in
          ap (map view) w.found-is ∙ w.in_ok-push.ensures ∙ ap (λ m. found ++ object m ∷ []) made
          ∙ ap (λ b. found ++ shown_pair b g.0.items w' v) (sym (shown ∙ w.if-is_shown.true))
      | else-is_shown w ↦
          ap (map view) w.found-is ∙ sym (append-nil found)
          ∙ ap (λ b. found ++ shown_pair b g.0.items w' v) (sym (shown ∙ w.if-is_shown.false))
    ] in
    ap (λ t. t ++ rest) one ∙ append_assoc found pair rest ∙ ap (λ r. found ++ r) (sym step) ∙ c.loop-i.invariant
