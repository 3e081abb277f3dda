-- Times as lines say them: event times, which are below 2 ^ 60, and infinity where a time may be infinite.
use Rattle.std.specs.Prelude.{ℕ, ◌-◌, ◌^◌, ◌<◌, All}
use Rattle.plan_laws.specs.Times.{TimesUpTo}
use Rattle.row_reader.specs.Printed.{IsEnd}
use Rattle.row_reader.specs.declared.entry.Entry.{Entry}
use Rattle.row_reader.specs.declared.entry.Entry.TheVariants.{Skip, Punct, Event}
use Rattle.admission.specs.Admission.{Admission}

-- an entry with such times. An event that ends at infinity has them, and one that starts there, or at 2 ^ 60, has not
abbrev pub HasEventTimes : Entry → Type 0
HasEventTimes Skip = Unit {0}
HasEventTimes (Punct stream time) = IsEnd time
HasEventTimes (Event stream form sync other row) = (sync < 2 ^ 60) × IsEnd other

-- what entries with such times give: all bounds, marks, events and open starts have such times too
pub record IsTimed (a : Admission) : Type 0 where
  pub bounds : (s : ℕ) → IsEnd (a.bound s)
  pub marks : (s : ℕ) → IsEnd (a.mark s)
  pub made : (s : ℕ) → TimesUpTo (2 ^ 60 - 1) (a.made s)
  pub opens : All (λ o. IsEnd o.given × IsEnd o.start) a.opens
