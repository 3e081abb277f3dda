use Rattle.std.proofs.Common.{subst}
use Rattle.snapshot_agg.specs.declared.state.State.TheVariants.{Counted, Summed, Lowest, Highest}
use Rattle.snapshot_agg.specs.States.{IsStateOf}
use Rattle.snapshot_agg.proofs.Kept.{tells}
use Rattle.snapshot_agg.proofs.state.State.value.Goals as goal

pub returns-in-Counted : goal.returns-in-Counted
returns-in-Counted c = λ a rows h low. tells (Counted c.in-Counted.count) a rows c.value.result low c.value.ensures (subst (λ s. IsStateOf s a rows) c.in-Counted.is h)

pub returns-in-Summed : goal.returns-in-Summed
returns-in-Summed c = λ a rows h low. tells (Summed c.in-Summed.field-0 c.in-Summed.sum) a rows c.value-in-Summed.result low c.value-in-Summed.ensures (subst (λ s. IsStateOf s a rows) c.in-Summed.is h)

pub returns-in-Lowest : goal.returns-in-Lowest
returns-in-Lowest c = λ a rows h low. tells (Lowest c.in-Lowest.field-0 c.in-Lowest.least) a rows c.value-in-Lowest.result low c.value-in-Lowest.ensures (subst (λ s. IsStateOf s a rows) c.in-Lowest.is h)

pub returns-in-Highest : goal.returns-in-Highest
returns-in-Highest c = λ a rows h low. tells (Highest c.in-Highest.field-0 c.in-Highest.greatest) a rows c.value-in-Highest.result low c.value-in-Highest.ensures (subst (λ s. IsStateOf s a rows) c.in-Highest.is h)
