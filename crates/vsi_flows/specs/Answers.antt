-- The answer for a text: the lines of its least raises, or the text with these raises, or why there is neither.
use Rattle.std.specs.Prelude.{◌≡◌, ℕ, List, map}
use Rattle.std.specs.List.{All, flat_map}
use Rattle.vsi_lattice.specs.Order as orders
use Rattle.vsi_lattice.specs.Order.{IsClass}
use Rattle.vsi_lattice.specs.LatticeView.{class_named, order}
use Rattle.vsi_lattice.specs.declared.lattice.Lattice.{Lattice}
use Rattle.vsi_scope.specs.Program.{Resolved}
use Rattle.vsi_types.specs.declared.rules.Profile.{Profile}
use Rattle.vsi_types.specs.declared.rules.Step.{Step}
use Rattle.vsi_types.specs.Security.{program}
use Rattle.vsi_compiler.specs.declared.source.CompileError.{CompileError}
use Rattle.vsi_compiler.specs.declared.source.CompileError.TheVariants.{Lex, Parse, Scope, Flow, Memory}
use Rattle.vsi_compiler.specs.Readable.{HasProgram}
use Rattle.vsi_compiler.specs.Refusal.{IsRefused, RefusesProgram}
use Rattle.vsi_compiler.specs.Stands.{Stands}
use Rattle.vsi_flows.specs.declared.least.Raise.{Raise}
use Rattle.vsi_flows.specs.Raising.{AreLeastRaises, IsFinal}
use Rattle.vsi_flows.specs.declared.least.RaisedError.{RaisedError}
use Rattle.vsi_flows.specs.declared.least.RaisedError.TheVariants as raised
use Rattle.vsi_flows.specs.Lines.{raise_line}
use Rattle.vsi_flows.specs.Places.{with_raises, written_places}

-- The new classes of the raises are of the lattice.
abbrev pub HasClassesIn : orders.Lattice → List Raise → Type 0
HasClassesIn L raises = All (λ r. IsClass L r.new) raises

-- The lines of the raises to the least policy under which the text's program is accepted.
pub record IsRaiseText (l : Lattice) (P : Profile) (source out : List ℕ) : Type 0 where
  pub resolved : Resolved
  pub stands : Stands (class_named l) source resolved
  pub raises : List Raise
  pub least : AreLeastRaises (order l) P (program resolved) raises
  pub lines : out ≡ flat_map (raise_line l source stands.tree.globals resolved) raises

-- The text with the raises to the least policy under which its program is accepted.
pub record IsRaisedText (l : Lattice) (P : Profile) (source out : List ℕ) : Type 0 where
  pub resolved : Resolved
  pub stands : Stands (class_named l) source resolved
  pub raises : List Raise
  pub least : AreLeastRaises (order l) P (program resolved) raises
  pub spliced : out ≡ with_raises l (written_places stands.tree) source 0 raises

-- The steps are a bad walk of the text's program to the ending of loops, whose class can't rise: no policy serves.
pub record IsFinalWalk (l : Lattice) (P : Profile) (source : List ℕ) (steps : List Step) : Type 0 where
  pub resolved : Resolved
  pub stands : Stands (class_named l) source resolved
  pub final : IsFinal (order l) P (program resolved) steps

-- The text has no program, as this error says.
pub record HasNoProgram (l : Lattice) (source : List ℕ) (e : CompileError) : Type 0 where
  pub refused : RefusesProgram (class_named l) source e
  pub none : ¬ (HasProgram (class_named l) source)

-- Why there are no raises: the text has no program, or a walk that no raise permits.
abbrev pub RefusesRaise : Lattice → Profile → List ℕ → CompileError → Type 0
RefusesRaise l P source Memory = Unit {0}
RefusesRaise l P source (Lex e) = HasNoProgram l source (Lex e)
RefusesRaise l P source (Parse e) = HasNoProgram l source (Parse e)
RefusesRaise l P source (Scope e) = HasNoProgram l source (Scope e)
RefusesRaise l P source (Flow walk) = IsFinalWalk l P source walk.steps.items

-- Why a text isn't accepted: it is refused with this error, which names the text.
abbrev pub RefusesText : Lattice → Profile → List ℕ → RaisedError → Type 0
RefusesText l P text (raised.Source e) = ⊥
RefusesText l P text (raised.Raised same e) = (same.items ≡ text) × IsRefused (class_named l) (order l) P text e
RefusesText l P text raised.Memory = Unit {0}

-- The text with the raises is refused with this error.
pub record RefusesRaised (l : Lattice) (P : Profile) (source text : List ℕ) (e : CompileError) : Type 0 where
  pub raised : IsRaisedText l P source text
  pub refused : IsRefused (class_named l) (order l) P text e

-- Why there is no text with raises: there are no raises, or the text with them is refused.
abbrev pub RefusesRaisedText : Lattice → Profile → List ℕ → RaisedError → Type 0
RefusesRaisedText l P source (raised.Source e) = RefusesRaise l P source e
RefusesRaisedText l P source (raised.Raised text e) = RefusesRaised l P source text.items e
RefusesRaisedText l P source raised.Memory = Unit {0}
