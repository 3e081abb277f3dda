-- Counts of faults, each held in a u64.
use Rattle.std.specs.Prelude.{◌≡◌, ◌≤◌, ℕ, ◌+◌, ◌-◌, ◌^◌, min, Result, OnOk, OnErr}

-- one more, or the greatest count
abbrev pub raised : ℕ → ℕ
raised count = min (count + 1) (2 ^ 64 - 1)

-- it rose, or stands at the greatest count
abbrev pub Rose : ℕ → ℕ → Type 0
Rose before now = raised before ≤ now

-- an error comes only where the count of its cause rose, and at Ok the count is what it was
pub record HasCause {T E : Type 0} (before now : ℕ) (result : Result T E) : Type 0 where
  pub later : before ≤ now
  pub failed : OnErr result (Rose before now)
  pub same : OnOk result (now ≡ before)

-- the count of the other direction's faults never falls, and at Ok it is what it was
pub record IsOther {T E : Type 0} (before now : ℕ) (result : Result T E) : Type 0 where
  pub later : before ≤ now
  pub same : OnOk result (now ≡ before)
