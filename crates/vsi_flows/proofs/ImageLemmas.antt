-- Runs of a text's image end as its evaluations do.
use Rattle.std.proofs.Common.{◌≡◌, ℕ, ◌+◌, ◌≤◌, List, length, map, sym, ap, subst, ◌∙◌, arith}
use Rattle.std.proofs.lemmas.List.{length-map}
use Rattle.vsi_image.specs.declared.instr.Image.{Image}
use Rattle.vsi_lattice.specs.Known.{Known}
use Rattle.vsi_scope.specs.Language.{Command, letvars, HasPlaces}
use Rattle.vsi_scope.specs.Program.{Resolved}
use Rattle.vsi_scope.specs.View.{command, sequence}
use Rattle.vsi_types.specs.Security.{program}
use Rattle.vsi_code.specs.Behaves.{Behaves}
use Rattle.vsi_compiler.specs.Headline.{KeepsMeaning}
use Rattle.vsi_compiler.specs.Stands.{Stands}
use Rattle.vsi_compiler.proofs.Programs.{count_is, body_is}
use Rattle.vsi_flows.specs.Independence.{ImageIndependence}
use Rattle.vsi_flows.proofs.IndependenceLemmas.{independent}

-- The image behaves like the resolved program.
behaves : (known : Known) (text : List ℕ) (im : Image) (r : Resolved) → Stands known text r
    → KeepsMeaning known text im → Behaves (length r.globals) (sequence r.body) im
behaves known text im r stands keeps =
    subst (λ (n : ℕ). Behaves n (sequence r.body) im) (sym (count_is known stands.tree r stands.resolves))
    (subst (λ (c : Command). Behaves (length stands.tree.globals) c im)
    (sym (body_is known stands.tree r stands.resolves))
    (keeps stands.tree (map command r.body) stands.reads stands.resolves.resolution))

-- The law of independence of runs.
pub image_independence : ImageIndependence
image_independence known text im r from b res stands keeps lt un m₁ m₂ m₁' m₂' b₁ b₂ l₁ l₂ out h₁ h₂ =
    let n : length (program r).globals ≡ length r.globals = length-map r.globals (λ g. g.class) in
    let d = behaves known text im r stands keeps in
    independent (program r) (length-map r.letvars (λ e. e.class) ∙ res.entries)
    (subst (λ k. HasPlaces k (sequence r.body)) (sym n) res.places)
    (subst (λ k. k + letvars (sequence r.body) ≤ 1024) (sym n) res.few_declarations) from b (omega (arith, lt, n)) un
    m₁ m₂ m₁' m₂' (l₁ ∙ sym n) (l₂ ∙ sym n) out (d.sound m₁ m₁' b₁ l₁ h₁) (d.sound m₂ m₂' b₂ l₂ h₂)
