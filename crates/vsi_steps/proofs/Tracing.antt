-- The steps of a whole program.
use Rattle.std.proofs.Common.{◌≡◌, ◌≤◌, List, [], ◌++◌, length, refl, sym, ap, ◌∙◌, subst, arith}
use Rattle.std.specs.Prelude.{Bool, true, false}
use Rattle.std.proofs.lemmas.Bool.{false≢true}
use Rattle.std.proofs.lemmas.List.{append-nil}
use Rattle.vsi_scope.specs.declared.program.Cmd.{Cmd}
use Rattle.vsi_scope.specs.Language.{HasPlaces}
use Rattle.vsi_scope.specs.Limits.{max_size}
use Rattle.vsi_scope.specs.Meaning.{Store}
use Rattle.vsi_scope.specs.Program.{Resolved, IsResolved}
use Rattle.vsi_scope.specs.View.{sequence}
use Rattle.vsi_steps.specs.Extents.{extents, IsFilled}
use Rattle.vsi_steps.specs.Sites.{sites}
use Rattle.vsi_steps.specs.Steps.{Spells, Begins}
use Rattle.vsi_steps.specs.Ran.{Past, IsReady, Ran}
use Rattle.vsi_steps.proofs.Counting.{sites_size}
use Rattle.vsi_steps.proofs.Tables.{in_table}

module _ (r : Resolved) (cs : List Cmd) (is : cs ≡ r.body) (kept : IsResolved r) where
  -- A resolved program has few sites.
  few_sites : sites (sequence cs) ≤ max_size
  few_sites = omega (arith, ap (λ l. sites (sequence l)) is, sites_size (sequence r.body), kept.small)

  -- The body of a resolved program can be run from a store of its globals.
  pub whole_ready : (a : Past) → length a.words ≡ length r.globals → length a.steps ≤ a.limit →
      IsFilled (sequence cs) [] a.extents → IsReady 0 (sequence cs) a
  whole_ready a long le filled = record {
    places = subst (λ k. HasPlaces k (sequence cs)) (sym long)
        (subst (λ l. HasPlaces (length r.globals) (sequence l)) (sym is) kept.places);
    few = omega (arith, few_sites);
    table = in_table (sequence cs) 0 a.extents [] [] refl (filled ∙ sym (append-nil (extents 0 (sequence cs))));
    within = le;
  }

module _ (cs ks : List Cmd) (is : cs ≡ ks) (m : Store) (a d : Past) (words : a.words ≡ m) (steps : a.steps ≡ []) where
  -- A run that halts has all steps.
  pub traced_all : (g : Bool) → Ran 0 (sequence cs) a d g → g ≡ true →
      Spells 0 (sequence ks) m d.steps d.words × (length d.steps ≤ a.limit)
  traced_all true h e = (
    subst (λ l. Spells 0 (sequence l) m d.steps d.words) is
        (subst (λ w. Spells 0 (sequence cs) w d.steps d.words) words
        (subst (λ l. Spells 0 (sequence cs) a.words l d.words)
        (sym (h.2.steps ∙ ap (λ l. l ++ h.0) steps)) h.1)),
    omega (arith, h.3, h.2.limit),
  )
  traced_all false h e = absurd (false≢true e)

  -- A run that is cut has the first of them.
  pub traced_first : (g : Bool) → Ran 0 (sequence cs) a d g → g ≡ false →
      Begins 0 (sequence ks) m d.steps × (length d.steps ≡ a.limit)
  traced_first true h e = absurd (false≢true (sym e))
  traced_first false h e = (
    subst (λ l. Begins 0 (sequence l) m d.steps) is
        (subst (λ w. Begins 0 (sequence cs) w d.steps) words
        (subst (λ l. Begins 0 (sequence cs) a.words l) (sym (h.2.steps ∙ ap (λ l. l ++ h.0) steps)) h.1)),
    omega (arith, h.3, h.2.limit),
  )
