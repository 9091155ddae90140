-- Chains of steps, and their text in pieces.
use Rattle.std.proofs.Common.{◌≡◌, ℕ, ◌-◌, List, [], ◌∷◌, ◌++◌, length, get_or, false, refl, ap, subst, ◌∙◌, arith}
use Rattle.std.specs.Prelude.{◌==◌}
use Rattle.std.specs.List.{flat_map}
use Rattle.std.proofs.lemmas.List.{append_assoc}
use Rattle.vsi_lattice.specs.Order.{Lattice}
use Rattle.vsi_image.specs.declared.instr.Image.{Image}
use Rattle.vsi_image.specs.Fields.{Global, globals}
use Rattle.vsi_lattice.specs.Known.{Known}
use Rattle.vsi_steady.specs.Telling.{LeadTo, MayNotFlow, IsChain, step_line, ends_line, chain_lines, end_of}
use Rattle.vsi_steady.specs.declared.chain.Step.{Step}

-- A text that grows by four pieces.
pub four_added : (out a b c d out1 out2 out3 out4 : List ℕ) → out1 ≡ out ++ a → out2 ≡ out1 ++ b → out3 ≡ out2 ++ c →
    out4 ≡ out3 ++ d → out4 ≡ out ++ (a ++ b ++ c ++ d)
four_added out a b c d out1 out2 out3 out4 h1 h2 h3 h4 =
    h4
    ∙ ap (λ x. x ++ d) (h3 ∙ ap (λ x. x ++ c) (h2 ∙ ap (λ x. x ++ b) h1))
    ∙ simp append_assoc

-- The end of steps is the target of the last one.
last_end : (s : Step) (steps : List Step) (d : Step) → (get_or (s ∷ steps) (length steps) d).target ≡ end_of s steps
last_end s [] d = refl
last_end s (next ∷ steps) d = last_end next steps d

-- The end of all steps is the target of the last one.
whole_end : (s : Step) (steps : List Step) (d : Step)
    → (get_or (s ∷ steps) (length (s ∷ steps) - 1) d).target ≡ end_of s steps
whole_end s steps d =
    let last : length (s ∷ steps) - 1 ≡ length steps = omega arith in
    ap (λ n. (get_or (s ∷ steps) n d).target) last ∙ last_end s steps d

-- Steps that lead to a place are a chain if nothing may flow between their ends.
pub chain_led : (known : Known) (L : Lattice) (image : Image) (place : ℕ) (steps : List Step) (d : Step)
    → false ≡ (length steps == 0)
    → LeadTo image.code.items (length (globals image.globals.items)) place steps
    → MayNotFlow known L (globals image.globals.items) (get_or steps 0 d).source
    (get_or steps (length steps - 1) d).target
    → IsChain known L image place steps
chain_led known L image place [] d some leads ends = tt
chain_led known L image place (s ∷ steps) d some leads ends =
    (leads, subst (MayNotFlow known L (globals image.globals.items) s.source) (whole_end s steps d) ends)

-- The lines of steps, followed by the line of their ends, are those of a chain.
pub chain_added : (bottom : List ℕ) (gs : List Global) (steps : List Step) (out mid out' : List ℕ) (d : Step) →
    false ≡ (length steps == 0) → mid ≡ out ++ flat_map (step_line gs) steps →
    out' ≡ mid ++ ends_line bottom gs (get_or steps 0 d).source (get_or steps (length steps - 1) d).target →
    out' ≡ out ++ chain_lines bottom gs steps
chain_added bottom gs [] out mid out' d some lines ends = absurd cc
chain_added bottom gs (s ∷ steps) out mid out' d some lines ends =
    ends
    ∙ ap (λ t. mid ++ ends_line bottom gs s.source t) (whole_end s steps d)
    ∙ ap (λ m. m ++ ends_line bottom gs s.source (end_of s steps)) lines
    ∙ append_assoc out (flat_map (step_line gs) (s ∷ steps)) (ends_line bottom gs s.source (end_of s steps))
