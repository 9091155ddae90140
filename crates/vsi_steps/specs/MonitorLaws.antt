-- The promises about monitored runs.
use Rattle.std.specs.Prelude.{◌≡◌, ℕ, ◌++◌, length}
use Rattle.std.specs.List.{All}
use Rattle.vsi_lattice.specs.Order.{Lattice, IsLattice, IsClass}
use Rattle.vsi_scope.specs.Language.{Command, HasPlaces}
use Rattle.vsi_scope.specs.Meaning.{Store, Evaluates}
use Rattle.vsi_types.specs.declared.rules.Profile.{Profile}
use Rattle.vsi_types.specs.Typing.{Locations}
use Rattle.vsi_types.specs.Security.{Program, IsWellFormed, IsTypable, class_of}
use Rattle.vsi_steps.specs.declared.labels.Rule.{Rule}
use Rattle.vsi_steps.specs.declared.labels.Rule.TheVariants.{NoSensitiveUpgrade, PermissiveUpgrade}
use Rattle.vsi_steps.specs.Labels.{labelling, IsLabelled, StoresAgree}
use Rattle.vsi_steps.specs.Monitor.{Outcome, Halted, Stopped, Monitored}

-- By either rule, a run that isn't stopped computes the store that the rules of evaluation give.
abbrev pub ComputesTheSame : Type 0
ComputesTheSame =
    (R : Rule) (L : Lattice) (classes : ℕ → ℕ) (f q q' : Locations) (pc n : ℕ) (c : Command) (m m' : Store) →
    Monitored R L classes f pc n c m q (Halted m' q') → Evaluates c m m'

-- Noninterference by either rule, for any command: two runs from stores that agree at a class, and that both halt
-- without being stopped, end in stores that agree there.
abbrev pub MonitoredNoninterference : Type 0
MonitoredNoninterference =
    (R : Rule) (L : Lattice) (classes : ℕ → ℕ) (f : Locations) (pc n : ℕ) (c : Command) → IsLattice L →
    IsClass L pc → HasPlaces (length f) c → (a : ℕ) → IsClass L a →
    (m₁ m₂ m₁' m₂' : Store) (q₁ q₂ q₁' q₂' : Locations) →
    IsLabelled (labelling R L) (length f) m₁ q₁ → IsLabelled (labelling R L) (length f) m₂ q₂ →
    StoresAgree R (labelling R L) (length f) a m₁ q₁ m₂ q₂ →
    Monitored R (labelling R L) classes f pc n c m₁ q₁ (Halted m₁' q₁') →
    Monitored R (labelling R L) classes f pc n c m₂ q₂ (Halted m₂' q₂') →
    StoresAgree R (labelling R L) (length f) a m₁' q₁' m₂' q₂'

-- The run halts with these labels, and isn't stopped.
abbrev pub HaltsWith : Locations → Outcome → Type 0
HaltsWith f (Halted m q) = q ≡ f
HaltsWith f (Stopped x) = ⊥

-- By either rule, a typable program is never stopped if its variables begin with their classes as labels, and they end
-- with them.
abbrev pub TypablePasses : Type 0
TypablePasses =
    (R : Rule) (L : Lattice) (P : Profile) (p : Program) (s : Locations) → IsLattice L → IsWellFormed L p →
    IsTypable L P p s → (m : Store) (r : Outcome) →
    Monitored R (labelling R L) (class_of L (p.globals ++ s)) p.globals L.bottom (length p.globals) p.body m
    p.globals r → HaltsWith p.globals r

-- Permissive upgrade stops fewer runs: a run that halts by no-sensitive-upgrade halts by permissive upgrade, with the
-- same store and the same labels.
abbrev pub StopsFewer : Type 0
StopsFewer =
    (L : Lattice) (classes : ℕ → ℕ) (f : Locations) (pc n : ℕ) (c : Command) → IsLattice L →
    ((v : ℕ) → IsClass L (classes v)) → All (IsClass L) f → IsClass L pc → HasPlaces (length f) c →
    (m m' : Store) (q q' : Locations) → IsLabelled L (length f) m q →
    Monitored NoSensitiveUpgrade L classes f pc n c m q (Halted m' q') →
    Monitored PermissiveUpgrade (labelling PermissiveUpgrade L) classes f pc n c m q (Halted m' q')
