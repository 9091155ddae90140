-- The number that digits spell, within a limit.
use Rattle.std.proofs.Common.{◌≡◌, ℕ, ◌+◌, ◌-◌, ◌*◌, ◌<◌, true, false, List, get_or, length, Some, None, refl}
use Rattle.std.specs.Prelude.{◌&&◌, nat_le, if◌then◌else◌}
use Rattle.vsi_syntax.specs.Words.{begins_with, every, is_digit, value_from, value_of}
use Rattle.vsi_syntax.proofs.Values.{too_large}
use Rattle.vsi_drive.specs.Fields.{number_up_to}

-- A prefix whose value is past the limit makes the text no number, whatever its later bytes are.
pub past : (limit n : ℕ) (rest ds : List ℕ) → value_from n rest ≡ value_of ds → 0 < length rest →
    limit < 10 * n + (get_or rest 0 0 - 48) → None ≡ number_up_to limit ds
past limit n rest ds e some over =
    elim (begins_with is_digit ds && every is_digit ds) as (λ v.
    None ≡ (if v && nat_le (value_of ds) limit then Some (value_of ds) else None)) [
      | true ↦ too_large limit n (value_of ds) rest (value_of ds) e some over
      | false ↦ refl
    ]
