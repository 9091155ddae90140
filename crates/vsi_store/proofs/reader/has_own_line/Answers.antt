use Rattle.std.proofs.Common.{◌≡◌, ℕ, List, false, length, nat_lt, ◌∙◌, refl, sym}
use Rattle.std.proofs.lemmas.Bool.{le-ltb}
use Rattle.std.specs.Prelude.{bytes_eq, drop, take}
use Rattle.vsi_store.specs.Seal as spec
use Rattle.vsi_store.proofs.reader.has_own_line.Goals as goal

-- Bytes that are long enough are compared with their line.
compared : (bytes : List ℕ) → nat_lt (length bytes) spec.LENGTH ≡ false →
    spec.has_own_line bytes ≡ bytes_eq (take spec.LENGTH bytes) (spec.seal (drop spec.LENGTH bytes))
compared bytes long = rw long

pub returns : goal.returns
returns c =
    let long = le-ltb (length c.args.bytes.now) 74 c.if-bytes-lt-LENGTH.false in
    c.eq.ensures
    ∙ rw (c.as_slice.ensures.value, c.in_ok-line.ensures, c.split_at.ensures.front, c.split_at.ensures.back) refl
    ∙ sym (compared c.args.bytes.now long)
