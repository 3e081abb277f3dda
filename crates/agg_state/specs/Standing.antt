-- Of which bags the aggregates are kept.
use Rattle.std.specs.Prelude.{ℤ, List}
use Rattle.agg_state.specs.Amounts.{IsCounted, IsSummed, IsBag}
use Rattle.agg_state.specs.declared.count.Count.{Count}
use Rattle.agg_state.specs.declared.sum.Sum.{Sum}
use Rattle.agg_state.specs.declared.extremes.Extreme.{Extreme}

abbrev pub count_stands : Count → List ℤ → Type 0
count_stands s bag = IsCounted s.count bag

abbrev pub sum_stands : Sum → List ℤ → Type 0
sum_stands s bag = IsSummed s.total s.count bag

abbrev pub least_stands : {E : Type 0} → Extreme E → List ℤ → Type 0
least_stands s bag = IsBag s.bag.counts s.bag.len bag

abbrev pub greatest_stands : {E : Type 0} → Extreme E → List ℤ → Type 0
greatest_stands s bag = IsBag s.bag.counts s.bag.len bag
