-- The bytes of an image that is built are fewer than are read of a file at most, so that a file which holds them is
-- read
-- as a whole.
use Rattle.std.proofs.Common.{◌≡◌, ◌≤◌, ◌+◌, ◌*◌, ℕ, List, [], ◌∷◌, ◌++◌, length, take, Some, refl, sym, ◌∙◌, subst, arith}
use Rattle.std.specs.Prelude.{IfSome}
use Rattle.std.specs.List.{flat_map}
use Rattle.std.proofs.lemmas.List.{length-append, take_all}
use Rattle.vsi_image.specs.declared.instr.Instr.{Instr}
use Rattle.vsi_image.specs.declared.instr.Instr.TheVariants.{Push, Load, Store, Add, Sub, Mul, Eq, Lt, Jz, Jmp, Halt}
use Rattle.vsi_image.specs.Fields.{AreGlobals, Fields, Global, IsAllowed, bytes_of, fields, global_bytes, head_bytes, instr_bytes, string}
use Rattle.vsi_image.proofs.Globals.{name_short}
use Rattle.vsi_lattice.specs.Order.{Lattice}
use Rattle.vsi_lattice.specs.Known.{Known}
use Rattle.vsi_types.specs.declared.rules.Profile.{Profile}
use Rattle.vsi_drive.specs.Building.{IsBuilt}
use Rattle.vsi_subject.specs.Holding.{Holding, HoldsAt, IsReadAt}

-- An instruction has nine bytes at most.
instr_short : (i : Instr) → length (instr_bytes i) ≤ 9
instr_short (Push n) = omega arith
instr_short (Load s) = omega arith
instr_short (Store s) = omega arith
instr_short Add = omega arith
instr_short Sub = omega arith
instr_short Mul = omega arith
instr_short Eq = omega arith
instr_short Lt = omega arith
instr_short (Jz t) = omega arith
instr_short (Jmp t) = omega arith
instr_short Halt = omega arith

-- So many instructions have nine times as many at most.
code_short : (is : List Instr) → length (flat_map instr_bytes is) ≤ 9 * length is
code_short [] = omega arith
code_short (i ∷ is) =
    let first = instr_short i in
    let rest = code_short is in
    omega (arith, length-append (instr_bytes i) (flat_map instr_bytes is))

-- So many globals have 66 times as many bytes at most.
globals_short : (before gs : List Global) → AreGlobals before gs → length (flat_map global_bytes gs) ≤ 66 * length gs
globals_short before [] are = omega arith
globals_short before (g ∷ gs) are =
    let name = name_short g.0 are.0.name in
    let class = name_short g.1 are.0.class in
    let rest = globals_short (before ++ g ∷ []) gs are.1 in
    omega (
      arith,
      length-append (global_bytes g) (flat_map global_bytes gs),
      length-append (string g.0) (string g.1),
    )

-- An image that is allowed has fewer bytes than are read of a file.
bytes_short : (version : ℕ) (f : Fields) → IsAllowed f → length (bytes_of version f) ≤ 1048576
bytes_short version f allowed =
    let gs = globals_short [] f.globals allowed.names in
    let is = code_short f.code in
    let head : length (head_bytes version (length f.globals) f.slots f.stack (length f.code)) ≡ 14 = refl in
    omega (
      arith,
      length-append (head_bytes version (length f.globals) f.slots f.stack (length f.code))
          (flat_map global_bytes f.globals ++ flat_map instr_bytes f.code),
      length-append (flat_map global_bytes f.globals) (flat_map instr_bytes f.code),
    )

-- So has one that is built.
pub built_short : (known : Known) (L : Lattice) (P : Profile) (text bytes : List ℕ) → IsBuilt known L P text bytes →
    length bytes ≤ 1048576
built_short known L P text bytes built =
    subst (λ bs. length bs ≤ 1048576) (sym built.spelled)
    (bytes_short 2 (fields built.image) built.compiled.coded.spelled.fits.allowed)

-- The bytes read from a file with so few bytes are all of its bytes.
pub read_whole : (holds : Holding) (path bytes held read : List ℕ) → holds path ≡ Some held →
    HoldsAt holds path bytes → IsReadAt holds path read → length bytes ≤ 1048576 → read ≡ bytes
read_whole holds path bytes held read tells holding is short =
    let same : held ≡ bytes = subst (λ o. IfSome o (λ h. h ≡ bytes)) tells holding in
    let taken : read ≡ take 1048577 held = subst (λ o. IfSome o (λ xs. read ≡ take 1048577 xs)) tells is in
    taken ∙ subst (λ xs. take 1048577 xs ≡ bytes) (sym same) (take_all 1048577 bytes (omega arith))

-- Two readings of one file give the same bytes.
pub read_again : (holds : Holding) (path held first second : List ℕ) → holds path ≡ Some held →
    IsReadAt holds path first → IsReadAt holds path second → first ≡ second
read_again holds path held first second tells one two =
    subst (λ o. IfSome o (λ xs. first ≡ take 1048577 xs)) tells one
    ∙ sym (subst (λ o. IfSome o (λ xs. second ≡ take 1048577 xs)) tells two)
