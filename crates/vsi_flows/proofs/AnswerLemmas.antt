-- The answer for a text, from the answers of its parts.
use Rattle.std.proofs.Common.{◌≡◌, ◌∙◌, ℕ, List, map, refl, sym, ap, subst}
use Rattle.std.specs.Global.{Vec}
use Rattle.std.specs.List.{flat_map}
use Rattle.vsi_syntax.specs.CommandView.{declared}
use Rattle.vsi_syntax.specs.Tree.{Whole}
use Rattle.vsi_syntax.specs.declared.lexer.LexError.{LexError}
use Rattle.vsi_syntax.specs.declared.parser.ParseError.{ParseError}
use Rattle.vsi_syntax.specs.declared.tree.Declaration.{Declaration}
use Rattle.vsi_lattice.specs.LatticeView.{class_named, order}
use Rattle.vsi_lattice.specs.declared.lattice.Lattice.{Lattice}
use Rattle.vsi_scope.specs.Language.{Command}
use Rattle.vsi_scope.specs.Program.{Resolved}
use Rattle.vsi_scope.specs.Resolving.{IsResolution}
use Rattle.vsi_scope.specs.declared.resolution.ScopeError.{ScopeError}
use Rattle.vsi_types.specs.Security.{program}
use Rattle.vsi_types.specs.declared.rules.Profile.{Profile}
use Rattle.vsi_types.specs.declared.rules.Step.{Step}
use Rattle.vsi_infer.specs.declared.walk.Walk.{Walk}
use Rattle.vsi_compiler.specs.Acceptance.{IsAccepted}
use Rattle.vsi_compiler.specs.declared.source.CompileError.{CompileError}
use Rattle.vsi_compiler.specs.declared.source.CompileError.TheVariants.{Lex, Parse, Scope, Flow, Memory}
use Rattle.vsi_compiler.specs.Refusal.{IsRefused, Refuses, RefusesProgram}
use Rattle.vsi_compiler.specs.Source.{Reads}
use Rattle.vsi_compiler.specs.SourceView.{Source, IsSource}
use Rattle.vsi_flows.specs.declared.least.Raise.{Raise}
use Rattle.vsi_flows.specs.Raising.{AreLeastRaises, IsFinal}
use Rattle.vsi_flows.specs.declared.least.RaisedError.{RaisedError}
use Rattle.vsi_flows.specs.declared.least.RaisedError.TheVariants as raised
use Rattle.vsi_flows.specs.Answers.{HasNoProgram, IsFinalWalk, IsRaiseText, IsRaisedText, RefusesRaise, RefusesRaisedText, RefusesText}
use Rattle.vsi_flows.specs.RaisedErrors.{raised_error, source_error}
use Rattle.vsi_flows.specs.Lines.{raise_line}
use Rattle.vsi_flows.specs.Places.{with_raises, written_places}

-- The error is lack of memory if the text has a program.
abbrev pub OnlyMemory : Lattice → List ℕ → CompileError → Type 0
OnlyMemory l source e =
    (tree : Whole) (commands : List Command) → Reads source tree → IsResolution (class_named l) tree commands → e ≡ Memory

-- No error of the tokens is lack of memory.
lexical_apart : (e : LexError) → Lex e ≡ Memory → ⊥
lexical_apart e q = absurd cc

-- Nor is one of the tree.
syntactic_apart : (e : ParseError) → Parse e ≡ Memory → ⊥
syntactic_apart e q = absurd cc

-- Nor is one of the names.
scoping_apart : (e : ScopeError) → Scope e ≡ Memory → ⊥
scoping_apart e q = absurd cc

-- Nor is a refused flow.
flow_apart : (walk : Walk) → Flow walk ≡ Memory → ⊥
flow_apart walk q = absurd cc

-- An error other than lack of memory says that the text has no program.
none_of : (l : Lattice) (source : List ℕ) (e : CompileError) → (e ≡ Memory → ⊥) →
    RefusesProgram (class_named l) source e → OnlyMemory l source e → HasNoProgram l source e
none_of l source e other refused only =
    record { refused = refused; none = λ p. other (only p.tree p.commands p.reads p.resolution) }

-- A refusal of the reader is one of the raises.
pub read_refused : (l : Lattice) (P : Profile) (source : List ℕ) (e : CompileError) →
    RefusesProgram (class_named l) source e → OnlyMemory l source e → RefusesRaise l P source e
read_refused l P source Memory refused only = tt
read_refused l P source (Lex e) refused only = none_of l source (Lex e) (lexical_apart e) refused only
read_refused l P source (Parse e) refused only = none_of l source (Parse e) (syntactic_apart e) refused only
read_refused l P source (Scope e) refused only = none_of l source (Scope e) (scoping_apart e) refused only
read_refused l P source (Flow walk) refused only = absurd refused

-- So is it one of the text with the raises.
pub source_refused : (l : Lattice) (P : Profile) (source : List ℕ) (e : CompileError) →
    RefusesRaise l P source e → RefusesRaisedText l P source (source_error e)
source_refused l P source Memory refused = tt
source_refused l P source (Lex e) refused = refused
source_refused l P source (Parse e) refused = refused
source_refused l P source (Scope e) refused = refused
source_refused l P source (Flow walk) refused = refused

-- A refusal of the compiler with an error other than lack of memory.
refused_with : (l : Lattice) (P : Profile) (text : List ℕ) (e : CompileError) → (e ≡ Memory → ⊥) →
    Refuses (class_named l) (order l) P text e → (IsAccepted (class_named l) (order l) P text → e ≡ Memory) →
    IsRefused (class_named l) (order l) P text e
refused_with l P text e other told exact =
    record { other = other; told = told; unaccepted = λ accepted. other (exact accepted) }

-- A text is refused with the error of the compiler.
pub text_refused : (l : Lattice) (P : Profile) (text : Vec ℕ) (e : CompileError) →
    Refuses (class_named l) (order l) P text.items e →
    (IsAccepted (class_named l) (order l) P text.items → e ≡ Memory) → RefusesText l P text.items (raised_error text e)
text_refused l P text Memory told exact = tt
text_refused l P text (Lex e) told exact =
    (refl, refused_with l P text.items (Lex e) (lexical_apart e) told exact)
text_refused l P text (Parse e) told exact =
    (refl, refused_with l P text.items (Parse e) (syntactic_apart e) told exact)
text_refused l P text (Scope e) told exact =
    (refl, refused_with l P text.items (Scope e) (scoping_apart e) told exact)
text_refused l P text (Flow walk) told exact =
    (refl, refused_with l P text.items (Flow walk) (flow_apart walk) told exact)

-- The text with the raises is refused.
pub raised_refused : (l : Lattice) (P : Profile) (source text : List ℕ) (e : RaisedError) →
    IsRaisedText l P source text → RefusesText l P text e → RefusesRaisedText l P source e
raised_refused l P source text (raised.Source e) is refused = absurd refused
raised_refused l P source text (raised.Raised same e) is refused =
    record {
      raised = subst (IsRaisedText l P source) (sym refused.0) is;
      refused = subst (λ t. IsRefused (class_named l) (order l) P t e) (sym refused.0) refused.1;
    }
raised_refused l P source text raised.Memory is refused = tt

module _ (s : Source) (is : IsSource s) (P : Profile) where
  -- The lines of the least raises, with parts of the source under whatever names.
  pub raise_text : (l : Lattice) (text : List ℕ) (r : Resolved) (globals : List Declaration) (raises : List Raise)
      (out : List ℕ) → l ≡ s.lattice → text ≡ s.text → r ≡ s.resolved
      → ((tree : Whole) → Reads s.text tree → map declared globals ≡ tree.globals)
      → AreLeastRaises (order s.lattice) P (program s.resolved) raises
      → out ≡ flat_map (raise_line l text (map declared globals) r) raises → IsRaiseText s.lattice P s.text out
  raise_text l text r globals raises out here there body written least lines = record {
    resolved = s.resolved;
    stands = is.stands;
    raises = raises;
    least = least;
    lines = lines
        ∙ ap (λ x. flat_map (raise_line x text (map declared globals) r) raises) here
        ∙ ap (λ x. flat_map (raise_line s.lattice x (map declared globals) r) raises) there
        ∙ ap (λ x. flat_map (raise_line s.lattice s.text x r) raises) (written is.stands.tree is.stands.reads)
        ∙ ap (λ x. flat_map (raise_line s.lattice s.text is.stands.tree.globals x) raises) body;
  }

  -- The text with the least raises.
  pub raised_text : (raises : List Raise) (out : List ℕ)
      → AreLeastRaises (order s.lattice) P (program s.resolved) raises
      → ((tree : Whole) → Reads s.text tree
      → out ≡ with_raises s.lattice (written_places tree) s.text 0 raises) → IsRaisedText s.lattice P s.text out
  raised_text raises out least made = record {
    resolved = s.resolved;
    stands = is.stands;
    raises = raises;
    least = least;
    spliced = made is.stands.tree is.stands.reads;
  }

  -- The walk that no raise permits.
  pub final_walk : (steps : List Step) → IsFinal (order s.lattice) P (program s.resolved) steps
      → IsFinalWalk s.lattice P s.text steps
  final_walk steps final = record { resolved = s.resolved; stands = is.stands; final = final }
