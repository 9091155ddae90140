-- Programs that are the same but for a name.
use Rattle.std.proofs.Common.{◌≡◌, ◌≤◌, ◌<◌, ◌-◌, ◌++◌, ℕ, List, Bool, true, Option, Some, None, Result, Ok, Err, length, set, sym, arith}
use Rattle.std.specs.Prelude.{IfOk, SomeIff}
use Rattle.std.proofs.lemmas.List.{set-append_left, set-append_right, set_past}
use Rattle.vsi_lattice.specs.Known.{Known}
use Rattle.vsi_scope.specs.Program.{Resolved}
use Rattle.vsi_compiler.specs.Stands.{Stands}
use Rattle.vsi_client.specs.Names.{with_name}
use Rattle.vsi_client.specs.Renamed.{KeepsProgram, SameProgram}

-- Texts of programs that are found the same keep the program.
pub kept_program : {E : Type 0} (result : Result Bool E) (known : Known) (variable : ℕ)
    (name old new : List ℕ) (before after : Resolved) → Stands known old before → Stands known new after →
    IfOk result (λ kept. kept ≡ true → SameProgram variable name before after) →
    IfOk result (λ kept. kept ≡ true → KeepsProgram known variable name old new)
kept_program (Ok kept) known variable name old new before after read again same =
    λ is. record { before = before; after = after; read = read; again = again; same = same is }
kept_program (Err e) known variable name old new before after read again same = tt

-- One name of the globals and letvars together is replaced if one of either list is.
pub joined_names : (place : Option ℕ) (variable count : ℕ) (name : List ℕ)
    (globals letvars others more : List (List ℕ)) →
    length globals ≡ count → SomeIff place (count ≤ variable) (variable - count) →
    others ≡ with_name (Some variable) name globals → more ≡ with_name place name letvars →
    others ++ more ≡ set (globals ++ letvars) variable name
joined_names None variable count name globals letvars others more size found first later =
    let within : variable < length globals = omega (arith, found, size) in
    rw (first, later) (sym (set-append_left globals letvars variable name within))
joined_names (Some place) variable count name globals letvars others more size found first later =
    let past : length globals ≤ variable = omega (arith, found.0, size) in
    rw (first, later, set_past globals variable name past, found.1)
    (sym (set-append_right globals letvars count variable name size found.0))
