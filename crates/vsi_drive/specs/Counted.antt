-- The parts of a `Counted` that clauses use, and the effect of a call on the count.
use Rattle.std.specs.Prelude.{◌≡◌, ℕ, ◌+◌, ◌-◌, ◌^◌, ◌<◌, min, MatchResult, Result}
use Rattle.vsi_drive.specs.declared.engine.Counted.{Counted}

-- `c.into_inner()`.
abbrev pub device_of : {D : Type 0} → Counted D → D
device_of c = c.device

-- `c.faults()`.
abbrev pub faults_of : {D : Type 0} → Counted D → ℕ
faults_of c = c.faults

-- One more, which stops at `u64::MAX`.
abbrev pub one_more : ℕ → ℕ
one_more n = min (n + 1) (2 ^ 64 - 1)

-- Only an `Err` of the call is counted.
abbrev pub CountsReads : {X E : Type 0} → Result X E → ℕ → ℕ → Type 0
CountsReads r old new = MatchResult r (λ _. new ≡ old) (λ _. new ≡ one_more old)

-- The same for writes, for which accepting no byte of some is a fault too.
abbrev pub CountsWrites : {E : Type 0} → Result ℕ E → ℕ → ℕ → ℕ → Type 0
CountsWrites r len old new = MatchResult r
    (λ n. ((n ≡ 0 × (0 < len)) → new ≡ one_more old) × ((n ≡ 0 → len ≡ 0) → new ≡ old))
    (λ _. new ≡ one_more old)
