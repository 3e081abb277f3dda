-- When groups are undefined, and that this depends on the rows alone.
use Rattle.std.specs.Prelude.{◌≡◌, ◌↔◌, ℕ, zero, suc, ◌-◌, ◌^◌, ◌<◌, ◌≤◌, nat_lt, ℤ, pos, negsuc, int_le, Bool, true, false, cond, IsTrue, Option, Some, None, List, length, slice_get, All, refl, is_some}
use Rattle.std.specs.List.{list_any}
use Rattle.std.proofs.Common.{◌∙◌, ap, subst, arith, inl, inr}
use Rattle.std.proofs.lemmas.Bool.{cases_lt, or_from, or_parts}
use Rattle.std.proofs.lemmas.Bool.Decides.{nat_tests}
use Rattle.std.proofs.lemmas.Int.{ints}
use Rattle.tw_rows.specs.Instant.{inf}
use Rattle.tw_rows.specs.Bag.{SameBag}
use Rattle.tw_rows.specs.Event.{Event, alive, Known}
use Rattle.tw_rows.proofs.Lives.{alive_known}
use Rattle.key_nodes.proofs.Ends.{none_passes}
use Rattle.plan_model.specs.declared.agg.Agg.{Agg}
use Rattle.plan_model.specs.declared.agg.Agg.TheVariants.{Count, Sum, Least, Greatest}
use Rattle.plan_model.specs.declared.node.Node.{Node}
use Rattle.plan_model.specs.declared.node.Node.TheVariants.{Source, Where, Select, Union, Delay, Hop, Duration, Extend, Session, Clip, Group, Join, Anti, Coalesce, Mean, Top, Follow}
use Rattle.plan_model.specs.Amounts.{exact_sum, most_rows, is_outside_i64}
use Rattle.plan_model.specs.Keys.{value_ops}
use Rattle.plan_model.specs.Meaning.{Sources, closes, node_closes, snapshots, IsOrdered, IsLevelled}
use Rattle.plan_model.specs.RowOps.{RowOps, key_in, ints_in, rows_of_key_in, has_large_sum_in, is_undefined_group_in, is_undefined_in}
use Rattle.plan_model.proofs.Aggregates.{undefined_same}
use Rattle.plan_model.proofs.PlanLaws.{snapshots_final}
use Rattle.plan_model.proofs.Plans.{over_nodes-is}
use Rattle.plan_laws.specs.Undefined.{IsSumFitting, IsDefinedGroup, is_group, undefined_over, undefined_node, undefined_at, or_next, first_below, first_undefined, Overflow, overflow_of, overflow_there, overflow}

module _ {X : Type 0} (ops : RowOps X) where
  inside : (z : ℤ) → (is_outside_i64 z ≡ false) ↔ (IsTrue (int_le (negsuc (2 ^ 63 - 1)) z) × IsTrue (int_le z (pos (2 ^ 63 - 1))))
  inside z = (λ h. (low z h, high z h), λ h. both z h.0 h.1)
    where
      low : (z : ℤ) → is_outside_i64 z ≡ false → IsTrue (int_le (negsuc (2 ^ 63 - 1)) z)
      low z h = grind (arith, ints)

      high : (z : ℤ) → is_outside_i64 z ≡ false → IsTrue (int_le z (pos (2 ^ 63 - 1)))
      high z h = grind (arith, ints)

      both : (z : ℤ) → IsTrue (int_le (negsuc (2 ^ 63 - 1)) z) → IsTrue (int_le z (pos (2 ^ 63 - 1))) → is_outside_i64 z ≡ false
      both z h k = grind (arith, ints)

  fits_is : (rows : List (List X)) (a : Agg) → (has_large_sum_in ops rows a ≡ false) ↔ IsSumFitting ops rows a
  fits_is rows Count = (λ h. tt, λ h. refl)
  fits_is rows (Sum column) = inside (exact_sum (ints_in ops column rows))
  fits_is rows (Least column) = (λ h. tt, λ h. refl)
  fits_is rows (Greatest column) = (λ h. tt, λ h. refl)

  few_is : (n : ℕ) → (nat_lt most_rows n ≡ false) ↔ (n ≤ 2 ^ 62)
  unfolding most_rows
  few_is n = (few n, many n)
    where
      few : (n : ℕ) → nat_lt (2 ^ 62) n ≡ false → n ≤ 2 ^ 62
      few n h = grind (arith, nat_tests)

      many : (n : ℕ) → n ≤ 2 ^ 62 → nat_lt (2 ^ 62) n ≡ false
      many n h = grind (arith, nat_tests)

  group_is : (aggs : List Agg) (rows : List (List X)) →
      (is_undefined_group_in ops aggs rows ≡ false) ↔ IsDefinedGroup ops aggs rows
  group_is aggs rows =
      let few = few_is (length rows) in
      let sums = none_passes (has_large_sum_in ops rows) (IsSumFitting ops rows) (fits_is rows) aggs in (
        λ h. let k = or_parts (nat_lt most_rows (length rows)) (list_any (has_large_sum_in ops rows) aggs) h in
            (few.0 k.0, sums.0 k.1),
        λ h. or_from (nat_lt most_rows (length rows)) (list_any (has_large_sum_in ops rows) aggs) (few.1 h.0) (sums.1 h.1),
      )

  -- the rows are defined exactly where each group of them is
  pub defined_is : (key : List ℕ) (aggs : List Agg) (rows : List (List X)) →
      (is_undefined_in ops key aggs rows ≡ false)
      ↔ All (λ row. IsDefinedGroup ops aggs (rows_of_key_in ops key (key_in ops key row) rows)) rows
  defined_is key aggs rows =
      none_passes (λ row. is_undefined_group_in ops aggs (rows_of_key_in ops key (key_in ops key row) rows))
      (λ row. IsDefinedGroup ops aggs (rows_of_key_in ops key (key_in ops key row) rows))
      (λ row. group_is aggs (rows_of_key_in ops key (key_in ops key row) rows)) rows

  pub undefined_others : (n : Node) (rows : List (List X)) → is_group n ≡ false → undefined_over ops n rows ≡ false
  undefined_others (Group of key aggs) rows h = absurd (cc)
  undefined_others n rows h = refl

  pub undefined_alike : (n : Node) (xs ys : List (List X)) → SameBag xs ys →
      undefined_over ops n xs ≡ undefined_over ops n ys
  undefined_alike (Group of key aggs) xs ys h = undefined_same ops key aggs xs ys h
  undefined_alike (Source stream) xs ys h = refl
  undefined_alike (Where of test) xs ys h = refl
  undefined_alike (Select of items) xs ys h = refl
  undefined_alike (Union left right) xs ys h = refl
  undefined_alike (Delay of by) xs ys h = refl
  undefined_alike (Hop of size period) xs ys h = refl
  undefined_alike (Duration of by) xs ys h = refl
  undefined_alike (Extend of by) xs ys h = refl
  undefined_alike (Session of timeout key) xs ys h = refl
  undefined_alike (Clip left right left_key right_key) xs ys h = refl
  undefined_alike (Join left right left_key right_key) xs ys h = refl
  undefined_alike (Anti left right left_key right_key) xs ys h = refl
  undefined_alike (Coalesce of) xs ys h = refl
  undefined_alike (Mean of at) xs ys h = refl
  undefined_alike (Top of key by count) xs ys h = refl
  undefined_alike (Follow left right left_key right_key within) xs ys h = refl

  pub undefined_known : (n : Node) (x t : ℕ) (a b : List (Event (List X))) → Known x a b → t < x →
      undefined_over ops n (alive a t) ≡ undefined_over ops n (alive b t)
  undefined_known n x t a b h low = undefined_alike n (alive a t) (alive b t) (alive_known x t a b low h.low h.same)

-- the least instant
pub first_below_same : (p q : ℕ → Bool) (c : ℕ) → ((t : ℕ) → t < c → p t ≡ q t) → first_below p c ≡ first_below q c
first_below_same p q zero h = refl
first_below_same p q (suc n) h =
    ap (or_next p n) (first_below_same p q n (λ t low. h t (omega (arith, low)))) ∙ go (first_below q n)
  where
    go : (m : Option ℕ) → or_next p n m ≡ or_next q n m
    go None = ap (λ b. cond b (Some n) None) (h n (omega arith))
    go (Some t) = refl

-- what the least instant below c is
abbrev pub IsFirst : (ℕ → Bool) → ℕ → Option ℕ → Type 0
IsFirst p c None = (u : ℕ) → u < c → p u ≡ false
IsFirst p c (Some t) = (t < c) × IsTrue (p t) × ((u : ℕ) → u < t → p u ≡ false)

pub first_below_is : (p : ℕ → Bool) (c : ℕ) → IsFirst p c (first_below p c)
first_below_is p zero = λ u low. absurd (omega (arith, low))
first_below_is p (suc n) = step (first_below p n) (first_below_is p n) (p n) refl
  where
    step : (o : Option ℕ) → IsFirst p n o → (b : Bool) → p n ≡ b → IsFirst p (suc n) (or_next p n o)
    step (Some t) h b e = ((let low = h.0 in omega (arith, low)), h.1, h.2)
    step None h true e = rw e (omega arith, e, h)
    step None h false e = rw e (λ u low. elim (cases_lt u n) [
      | inl less ↦ h u less
      | inr more ↦ (let same : u ≡ n = omega (arith, low, more) in ap p same ∙ e)
    ])

pub first_below_some : (p : ℕ → Bool) (c t : ℕ) → first_below p c ≡ Some t →
    (t < c) × IsTrue (p t) × ((u : ℕ) → u < t → p u ≡ false)
first_below_some p c t e = subst (IsFirst p c) e (first_below_is p c)

pub first_below_none : (p : ℕ → Bool) (c : ℕ) → first_below p c ≡ None → (u : ℕ) → u < c → p u ≡ false
first_below_none p c e = subst (IsFirst p c) e (first_below_is p c)

-- nodes of a plan
pub group_at : (source : Sources) (nodes : List Node) (i child t : ℕ) (key : List ℕ) (aggs : List Agg) →
    slice_get nodes i ≡ Some (Group child key aggs) →
    undefined_at source nodes i t ≡ is_undefined_in value_ops key aggs (snapshots source nodes child t)
group_at source nodes i child t key aggs there = ap (undefined_node source nodes t) there

module _ (p : ℕ) (source later_source : Sources) (nodes : List Node) (ordered : IsOrdered nodes) (levelled : IsLevelled nodes)
    (known : (s : ℕ) → Known p (source s) (later_source s)) where
  node_final : (i : ℕ) (o : Option Node) → slice_get nodes i ≡ o → (t : ℕ) → t < closes nodes i p →
      undefined_node source nodes t o ≡ undefined_node later_source nodes t o
  node_final i None there t low = refl
  node_final i (Some (Group of key aggs)) there t low =
      undefined_same value_ops key aggs (snapshots source nodes of t) (snapshots later_source nodes of t)
      (snapshots_final p source later_source nodes ordered levelled known of t
      (subst (λ c. t < c) (over_nodes-is inf (λ s. p) node_closes nodes ordered i (Group of key aggs) there) low))
  node_final i (Some (Source stream)) there t low = refl
  node_final i (Some (Where of test)) there t low = refl
  node_final i (Some (Select of items)) there t low = refl
  node_final i (Some (Union left right)) there t low = refl
  node_final i (Some (Delay of by)) there t low = refl
  node_final i (Some (Hop of size period)) there t low = refl
  node_final i (Some (Duration of by)) there t low = refl
  node_final i (Some (Extend of by)) there t low = refl
  node_final i (Some (Session of timeout key)) there t low = refl
  node_final i (Some (Clip left right left_key right_key)) there t low = refl
  node_final i (Some (Join left right left_key right_key)) there t low = refl
  node_final i (Some (Anti left right left_key right_key)) there t low = refl
  node_final i (Some (Coalesce of)) there t low = refl
  node_final i (Some (Mean of at)) there t low = refl
  node_final i (Some (Top of key by count)) there t low = refl
  node_final i (Some (Follow left right left_key right_key within)) there t low = refl

  pub undefined_final : (i t : ℕ) → t < closes nodes i p → undefined_at source nodes i t ≡ undefined_at later_source nodes i t
  undefined_final i t low = node_final i (slice_get nodes i) refl t low

  pub first_final : (i c : ℕ) → c ≤ closes nodes i p →
      first_undefined source nodes i c ≡ first_undefined later_source nodes i c
  first_final i c low =
      first_below_same (undefined_at source nodes i) (undefined_at later_source nodes i) c
      (λ t early. undefined_final i t (omega (arith, low, early)))

-- the lowest node that is undefined
module _ (first : ℕ → Option ℕ) (n : ℕ) where
  IsOverflow : Option Overflow → Type 0
  IsOverflow None = (i : ℕ) → i < n → first i ≡ None
  IsOverflow (Some o) = (o.node < n) × (first o.node ≡ Some o.time) × ((j : ℕ) → j < o.node → first j ≡ None)

  none_there : (o : Option ℕ) → is_some o ≡ false → o ≡ None
  none_there None h = refl
  none_there (Some t) h = absurd (cc)

  found : (i : ℕ) → i < n → ((j : ℕ) → j < i → first j ≡ None) → (o : Option ℕ) → first i ≡ o → is_some o ≡ true →
      IsOverflow (overflow_of i o)
  unfolding IsOverflow
  found i low before None e h = absurd (cc)
  found i low before (Some t) e h = (low, e, before)

  overflow_there_is : (o : Option ℕ) → IsFirst (λ i. is_some (first i)) n o → IsOverflow (overflow_there first o)
  unfolding IsOverflow
  overflow_there_is None h = λ i low. none_there (first i) (h i low)
  overflow_there_is (Some i) h = found i h.0 (λ j low. none_there (first j) (h.2 j low)) (first i) refl h.1

  overflow_first_is : IsOverflow (overflow_there first (first_below (λ i. is_some (first i)) n))
  overflow_first_is = overflow_there_is (first_below (λ i. is_some (first i)) n) (first_below_is (λ i. is_some (first i)) n)

  pub overflow_first_some : (o : Overflow) →
      overflow_there first (first_below (λ i. is_some (first i)) n) ≡ Some o →
      (o.node < n) × (first o.node ≡ Some o.time) × ((j : ℕ) → j < o.node → first j ≡ None)
  unfolding IsOverflow
  overflow_first_some o e = subst IsOverflow e overflow_first_is

  pub overflow_first_none : overflow_there first (first_below (λ i. is_some (first i)) n) ≡ None →
      (i : ℕ) → i < n → first i ≡ None
  unfolding IsOverflow
  overflow_first_none e = subst IsOverflow e overflow_first_is

pub overflow_some : (source : Sources) (nodes : List Node) (p : ℕ) (o : Overflow) → overflow source nodes p ≡ Some o →
    (o.node < length nodes) × (first_undefined source nodes o.node (closes nodes o.node p) ≡ Some o.time)
    × ((j : ℕ) → j < o.node → first_undefined source nodes j (closes nodes j p) ≡ None)
overflow_some source nodes p = overflow_first_some (λ i. first_undefined source nodes i (closes nodes i p)) (length nodes)

pub overflow_none : (source : Sources) (nodes : List Node) (p : ℕ) → overflow source nodes p ≡ None →
    (i : ℕ) → i < length nodes → first_undefined source nodes i (closes nodes i p) ≡ None
overflow_none source nodes p = overflow_first_none (λ i. first_undefined source nodes i (closes nodes i p)) (length nodes)

-- the overflow depends on what is known of the sources
overflow_there_same : (f g : ℕ → Option ℕ) → ((i : ℕ) → f i ≡ g i) → (n : ℕ) →
    overflow_there f (first_below (λ i. is_some (f i)) n) ≡ overflow_there g (first_below (λ i. is_some (g i)) n)
overflow_there_same f g h n =
    ap (overflow_there f) (first_below_same (λ i. is_some (f i)) (λ i. is_some (g i)) n (λ i low. ap is_some (h i)))
    ∙ go (first_below (λ i. is_some (g i)) n)
  where
    go : (o : Option ℕ) → overflow_there f o ≡ overflow_there g o
    go None = refl
    go (Some i) = ap (overflow_of i) (h i)

pub overflow_final : (p : ℕ) (source later_source : Sources) (nodes : List Node) → IsOrdered nodes → IsLevelled nodes →
    ((s : ℕ) → Known p (source s) (later_source s)) → overflow source nodes p ≡ overflow later_source nodes p
overflow_final p source later_source nodes ordered levelled known =
    overflow_there_same (λ i. first_undefined source nodes i (closes nodes i p))
    (λ i. first_undefined later_source nodes i (closes nodes i p))
    (λ i. first_final p source later_source nodes ordered levelled known i (closes nodes i p) (omega arith)) (length nodes)
