-- Which texts are accepted.
use Rattle.std.specs.Prelude.{ℕ, ◌-◌, List, length, map, unwrap_or, slice_index_or}
use Rattle.vsi_lattice.specs.Order.{Lattice}
use Rattle.vsi_syntax.specs.declared.token.Span.{Span}
use Rattle.vsi_syntax.specs.Tree.{Whole}
use Rattle.vsi_lattice.specs.Known.{Known}
use Rattle.vsi_scope.specs.Language.{Command}
use Rattle.vsi_scope.specs.Scopes.{in_sequence}
use Rattle.vsi_scope.specs.Resolving.{Variable, all_variables, IsResolution}
use Rattle.vsi_types.specs.declared.rules.Profile.{Profile}
use Rattle.vsi_types.specs.Security.{Program, IsTypable}
use Rattle.vsi_compiler.specs.Source.{Reads}

-- The span of a declaration's name, with the letvars numbered after the globals.
abbrev pub declaration_span : List Variable → ℕ → ℕ → Span
declaration_span vs globals v = slice_index_or (map (λ x. x.span) vs) (v - globals) (record { start = 0; stop = 0 })

-- The program that the typing rules judge: the declared classes, the spans of names, and the body.
abbrev pub program_of : Known → Whole → List Command → Program
program_of known tree commands =
    record {
      globals = map (λ g. unwrap_or (known g.class.text) 0) tree.globals;
      declared = map (λ v. v.class) (all_variables known tree.body);
      names = declaration_span (all_variables known tree.body) (length tree.globals);
      body = in_sequence commands;
    }

-- A tree reads the text, these commands over locations are its resolution, and some choice of classes types them.
pub record IsAccepted (known : Known) (L : Lattice) (P : Profile) (text : List ℕ) : Type 0 where
  pub tree : Whole
  pub commands : List Command
  pub reads : Reads text tree
  pub resolution : IsResolution known tree commands
  pub choice : List ℕ
  pub typable : IsTypable L P (program_of known tree commands) choice
