-- The promises of typing about a program hold for an image that behaves like the program.
use Rattle.std.proofs.Common.{◌≡◌, ℕ, List, length, sym, ap, subst, ◌∙◌, arith}
use Rattle.std.proofs.lemmas.List.{length-map}
use Rattle.vsi_image.specs.declared.instr.Image.{Image}
use Rattle.vsi_image.specs.Fields as image
use Rattle.vsi_lattice.specs.Order.{Lattice, IsLattice}
use Rattle.vsi_scope.specs.declared.resolved.Global.{Global}
use Rattle.vsi_scope.specs.Language.{Command}
use Rattle.vsi_scope.specs.Meaning.{Store, Evaluates}
use Rattle.vsi_scope.specs.Program.{Resolved}
use Rattle.vsi_scope.specs.View.{sequence}
use Rattle.vsi_types.specs.declared.rules.Profile.{Profile}
use Rattle.vsi_types.specs.declared.rules.Profile.TheVariants.{Strict}
use Rattle.vsi_types.specs.Security.{program, IsTypable, IsWellFormed}
use Rattle.vsi_types.proofs.Secure.{noninterference}
use Rattle.vsi_types.proofs.Endings.{same_ending}
use Rattle.vsi_opt.specs.Optimised.{RunsAlike}
use Rattle.vsi_code.specs.Names.{all_named}
use Rattle.vsi_code.specs.Behaves.{Halts, Behaves}
use Rattle.vsi_lattice.specs.Known.{Known}
use Rattle.vsi_compiler.specs.Observation.{IsNoninterfering, EndsAlike}
use Rattle.vsi_compiler.proofs.Agreement.{HaveClasses, classes, agree_typed, agree_named}

-- Code of the optimised body behaves like the source body.
pub behaves_alike : (k : ℕ) (optimised source : Command) (im : Image) → RunsAlike k optimised source →
    Behaves k optimised im → Behaves k source im
behaves_alike k optimised source im alike b =
    record {
      sound = λ m m' budget len h. let e = b.sound m m' budget len h in (e.0, sym (alike e.0 m len) ∙ e.1);
      complete = λ m m' len e. b.complete m m' len (e.0, alike e.0 m len ∙ e.1);
    }

module _ (known : Known) (L : Lattice) (laws : IsLattice L) (P : Profile) (r : Resolved) (s : List ℕ) (im : Image)
    (resolved : IsWellFormed L (program r)) (typed : IsTypable L P (program r) s)
    (has : HaveClasses known r.globals) (names : image.globals im.globals.items ≡ all_named r.globals)
    (behaves : Behaves (length r.globals) (sequence r.body) im) where
  -- The image has as many globals as the program.
  count : length im.globals.items ≡ length r.globals
  count =
      sym (length-map im.globals.items image.global) ∙ ap length names
      ∙ length-map r.globals (λ (g : Global). (g.name.now, g.class_name.now))

  -- A store of the image has one word per global of the program.
  words : (m : Store) → length m ≡ length im.globals.items → length m ≡ length (classes r.globals)
  words m len = len ∙ count ∙ sym (length-map r.globals (λ (g : Global). g.class))

  -- If a run ends in a store, the program evaluates to that store.
  evaluated : (m m' : Store) (budget : ℕ) → length m ≡ length im.globals.items →
      Halts im (length im.globals.items) m budget m' → Evaluates (sequence r.body) m m'
  evaluated m m' budget len h =
      behaves.sound m m' budget (len ∙ count) (subst (λ k. Halts im k m budget m') count h)

  -- The image lets no information flow where the lattice forbids it.
  pub noninterfering : IsNoninterfering known L im
  noninterfering a within m₁ m₂ m₁' m₂' b₁ b₂ len₁ len₂ agree h₁ h₂ =
      agree_named known L r.globals im has names a m₁' m₂'
      (noninterference L P (program r) s laws resolved typed a within m₁ m₂ m₁' m₂' (words m₁ len₁) (words m₂ len₂)
      (agree_typed known L r.globals im has names a m₁ m₂ agree)
      (evaluated m₁ m₁' b₁ len₁ h₁) (evaluated m₂ m₂' b₂ len₂ h₂))

-- Under the strict profile, runs from stores that agree on the bottom class both end or both don't.
pub ends_alike : (known : Known) (L : Lattice) → IsLattice L → (r : Resolved) (s : List ℕ) (im : Image) →
    IsWellFormed L (program r) → IsTypable L Strict (program r) s → HaveClasses known r.globals →
    image.globals im.globals.items ≡ all_named r.globals → Behaves (length r.globals) (sequence r.body) im →
    EndsAlike known L im
ends_alike known L laws r s im resolved typed has names behaves m₁ m₂ m₁' b₁ len₁ len₂ agree h₁ =
    let p = program r in
    let words = words known L laws Strict r s im resolved typed has names behaves in
    let e = evaluated known L laws Strict r s im resolved typed has names behaves m₁ m₁' b₁ len₁ h₁ in
    let other = (same_ending L p s laws resolved typed m₁ m₂ (words m₁ len₁) (words m₂ len₂)
    (agree_typed known L r.globals im has names L.bottom m₁ m₂ agree)).0 (m₁', e) in
    let k = count known L laws Strict r s im resolved typed has names behaves in
    let b = behaves.complete m₂ other.0 (len₂ ∙ k) other.1 in
    (b.0, other.0, subst (λ n. Halts im n m₂ b.0 other.0) (sym k) (b.1 b.0 (omega arith)))

-- Code of the optimised program behaves like the source program.
pub behaves_source : (optimised source : Resolved) (im : Image) → optimised.globals ≡ source.globals →
    RunsAlike (length optimised.globals) (sequence optimised.body) (sequence source.body) →
    Behaves (length optimised.globals) (sequence optimised.body) im → Behaves (length source.globals)
    (sequence source.body) im
behaves_source optimised source im globals alike behaves =
    subst (λ (gs : List Global). Behaves (length gs) (sequence source.body) im) globals
    (behaves_alike (length optimised.globals) (sequence optimised.body) (sequence source.body) im alike behaves)
