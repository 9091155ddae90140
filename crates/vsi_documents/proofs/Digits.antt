-- Binary digits, from the lowest one on.
use Rattle.std.proofs.Common.{◌≡◌, ℕ, zero, suc, ◌<◌, ◌≤◌, ◌-◌, ◌/◌, ◌%◌, true, nat_le, refl, arith}
use Rattle.std.proofs.lemmas.Bool.Decides.{nat_tests}
use Rattle.vsi_documents.specs.Shapes.{is_within}

-- If the lowest digit is within, the other digits decide.
pub within_next : (digits low high : ℕ) → 0 < digits → low % 2 ≤ high % 2 →
    is_within digits low high ≡ is_within (digits - 1) (low / 2) (high / 2)
within_next zero low high some allows = absurd (omega arith)
within_next (suc digits) low high some allows =
    let e : suc digits - 1 ≡ digits = omega arith in
    let t : nat_le (low % 2) (high % 2) ≡ true = grind (arith, nat_tests, allows) in
    rw e (rw t refl)
