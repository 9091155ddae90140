use Rattle.std.proofs.Common.{◌≡◌, ◌+◌, ◌∙◌, ◌∷◌, [], ℕ, map, length, get_or, sym, ap, subst}
use Rattle.std.proofs.lemmas.List.{map-append, length_push}
use Rattle.vsi_infer.proofs.LevelLemmas.{empty_more}
use Rattle.vsi_infer.proofs.distances.empty_rows.Goals as goal

pub loop-i-preserved : goal.loop-i-preserved
loop-i-preserved c = record {
  len = ap length c.in_ok-push.ensures.items ∙ length_push c.loop-i.rows.items c.new-row.result
      ∙ ap (λ (n : ℕ). n + 1) c.loop-i.invariant.len;
  empty = subst (λ l. (k : ℕ) → get_or l k [] ≡ []) (sym (ap (map (λ r. r.items)) c.in_ok-push.ensures.items
      ∙ map-append (λ r. r.items) c.loop-i.rows.items (c.new-row.result ∷ [])))
      (empty_more (map (λ r. r.items) c.loop-i.rows.items) c.new-row.result.items c.new-row.ensures.items
      c.loop-i.invariant.empty);
}
