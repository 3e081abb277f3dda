-- What is kept of rows, and of keys, has at most one proof.
use Rattle.std.specs.Prelude.{◌≡◌, ◌⊎◌, ℕ, ℤ, Bool, false, Option, Some, None, List, [], ◌∷◌, Vec, refl}
use Rattle.std.specs.List.{AllByRecursion, IsDistinct}
use Rattle.std.specs.Coded.{×_prop, Π_prop, Unit-prop, le_prop, Coded, Coded-set, coded_ℕ, coded_ℤ, coded_bool, coded_list, coded⊎, code_by}
use Rattle.std.proofs.Common.{inl, inr}
use Rattle.indexmap.specs.IndexMap.{IndexMap}
use Rattle.tw_rows.specs.SameCells.{same_cells}
use Rattle.tw_rows.specs.declared.cells.Datum.{Datum}
use Rattle.tw_rows.specs.declared.cells.Datum.TheVariants.{Int, Bool as Flag, Text}
use Rattle.tw_rows.specs.declared.edge.HeldRow.{HeldRow}
use Rattle.plan_model.specs.declared.agg.Agg.{Agg}
use Rattle.plan_model.specs.declared.agg.Agg.TheVariants.{Count, Sum, Least, Greatest}
use Rattle.snapshot_agg.specs.declared.state.State.{State}
use Rattle.snapshot_agg.specs.declared.state.State.TheVariants.{Counted, Summed, Lowest, Highest}
use Rattle.snapshot_agg.specs.declared.totals.Totals.{Totals}
use Rattle.snapshot_agg.specs.States.{IsFor, StandsAs, IsStateOf, AreStatesOf, IsTotals}
use Rattle.snapshot_agg.specs.Totaled.{IsTotalOf, TellTouched, Totaled}
use Rattle.snapshot_agg.specs.declared.groups.Groups.{Groups}
use Rattle.snapshot_agg.specs.Counting.{IsCounted}
use Rattle.snapshot_agg.specs.Keeping.{HasFewKeys}

abbrev parts : Datum → ℤ ⊎ (Bool ⊎ ℕ)
parts (Int x) = inl x
parts (Flag b) = inr (inl b)
parts (Text n) = inr (inr n)

abbrev whole : ℤ ⊎ (Bool ⊎ ℕ) → Datum
whole (inl x) = Int x
whole (inr (inl b)) = Flag b
whole (inr (inr n)) = Text n

whole-parts : (d : Datum) → whole (parts d) ≡ d
whole-parts (Int x) = refl
whole-parts (Flag b) = refl
whole-parts (Text n) = refl

datum_coded : Coded Datum
datum_coded = code_by (ℤ ⊎ (Bool ⊎ ℕ)) (coded⊎ coded_ℤ (coded⊎ coded_bool coded_ℕ)) parts whole whole-parts

nat_set : IsSet ℕ
nat_set = Coded-set coded_ℕ

int_set : IsSet ℤ
int_set = Coded-set coded_ℤ

for_prop : (s : State) (a : Agg) → IsProp (IsFor s a)
for_prop (Counted s) Count = Unit-prop
for_prop (Counted s) (Sum c) = λ x y. absurd x
for_prop (Counted s) (Least c) = λ x y. absurd x
for_prop (Counted s) (Greatest c) = λ x y. absurd x
for_prop (Summed column s) Count = λ x y. absurd x
for_prop (Summed column s) (Sum c) = Coded-set coded_ℕ column c
for_prop (Summed column s) (Least c) = λ x y. absurd x
for_prop (Summed column s) (Greatest c) = λ x y. absurd x
for_prop (Lowest column s) Count = λ x y. absurd x
for_prop (Lowest column s) (Sum c) = λ x y. absurd x
for_prop (Lowest column s) (Least c) = Coded-set coded_ℕ column c
for_prop (Lowest column s) (Greatest c) = λ x y. absurd x
for_prop (Highest column s) Count = λ x y. absurd x
for_prop (Highest column s) (Sum c) = λ x y. absurd x
for_prop (Highest column s) (Least c) = λ x y. absurd x
for_prop (Highest column s) (Greatest c) = Coded-set coded_ℕ column c

stands_prop : (s : State) (bag : List ℤ) → IsProp (StandsAs s bag)
stands_prop (Counted s) bag = hlevel (nat_set, int_set, le_prop)
stands_prop (Summed column s) bag = hlevel (nat_set, int_set, le_prop)
stands_prop (Lowest column s) bag = hlevel (nat_set, int_set, le_prop)
stands_prop (Highest column s) bag = hlevel (nat_set, int_set, le_prop)

state_prop : (s : State) (a : Agg) (rows : List (List Datum)) → IsProp (IsStateOf s a rows)
state_prop s a rows = hlevel (for_prop, stands_prop)

states_prop : (ss : List State) (bs : List Agg) (rows : List (List Datum)) → IsProp (AreStatesOf ss bs rows)
states_prop [] [] rows = Unit-prop
states_prop (s ∷ ss) (a ∷ bs) rows = ×_prop (state_prop s a rows) (states_prop ss bs rows)
states_prop [] (a ∷ bs) rows = λ x y. absurd x
states_prop (s ∷ ss) [] rows = λ x y. absurd x

kept_prop : (n : ℕ) (ss : List State) (bs : List Agg) (rows : List (List Datum)) → IsProp (IsTotals n ss bs rows)
kept_prop n ss bs rows = hlevel (states_prop, nat_set, le_prop)

total_prop : (o : Option Totals) (aggs : List Agg) (rows : List (List Datum)) → IsProp (IsTotalOf o aggs rows)
total_prop None aggs rows = Coded-set (coded_list (coded_list datum_coded)) rows []
total_prop (Some t) aggs rows = ×_prop (kept_prop t.count t.states.items aggs rows) le_prop

totaled_prop : {S T : Type 0} (key : List ℕ) (aggs : List Agg) (rows : List HeldRow) (totals : IndexMap (Vec Datum S) Totals T) → IsProp (Totaled key aggs rows totals)
totaled_prop key aggs rows totals = hlevel total_prop

columns_set : IsSet (List ℕ)
columns_set = Coded-set (coded_list coded_ℕ)

test_set : IsSet Bool
test_set = Coded-set coded_bool

touched_prop : (o : Option Totals) (n : ℕ) (touched : List (List Datum)) (key : List Datum) → IsProp (TellTouched o n touched key)
touched_prop None n touched key = Unit-prop
touched_prop (Some t) n touched key = hlevel (le_prop, test_set)

pub counted_prop : (g : Groups) → IsProp (IsCounted g)
counted_prop g = hlevel (totaled_prop, columns_set, touched_prop)

others_prop : (k : List Datum) (ks : List (List Datum)) → IsProp (AllByRecursion (λ x. same_cells k x ≡ false) ks)
others_prop k [] = Unit-prop
others_prop k (x ∷ ks) = ×_prop (Coded-set coded_bool (same_cells k x) false) (others_prop k ks)

distinct_prop : (ks : List (List Datum)) → IsProp (IsDistinct same_cells ks)
unfolding IsDistinct
distinct_prop [] = Unit-prop
distinct_prop (k ∷ ks) = ×_prop (others_prop k ks) (distinct_prop ks)

pub few_prop : {R S T : Type 0} (rows : List HeldRow) (totals : IndexMap (Vec Datum R) Totals T) (running : IndexMap (List Datum) HeldRow S) → IsProp (HasFewKeys rows totals running)
few_prop rows totals running = hlevel (le_prop, distinct_prop)

-- and so has what is kept while no step failed
pub under : {P : Type 0} (failed : Bool) → IsProp P → IsProp (failed ≡ false → P)
under failed h = Π_prop (λ e. h)
