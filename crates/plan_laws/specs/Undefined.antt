-- Groups that have no row to answer: they have too many rows, or too great a sum.
use Rattle.std.specs.Prelude.{ℕ, zero, suc, ◌-◌, ◌^◌, ◌≤◌, pos, negsuc, int_le, Bool, true, false, cond, IsTrue, is_some, Option, Some, None, List, [], length, slice_get, All}
use Rattle.tw_rows.specs.Event.{alive}
use Rattle.tw_rows.specs.Rows.{Row}
use Rattle.plan_model.specs.declared.agg.Agg.{Agg}
use Rattle.plan_model.specs.declared.agg.Agg.TheVariants.{Sum}
use Rattle.plan_model.specs.declared.node.Node.{Node}
use Rattle.plan_model.specs.declared.node.Node.TheVariants.{Group}
use Rattle.plan_model.specs.Amounts.{exact_sum}
use Rattle.plan_model.specs.Keys.{value_ops}
use Rattle.plan_model.specs.Meaning.{Sources, closes, left_of, snapshots}
use Rattle.plan_model.specs.RowOps.{RowOps, ints_in, is_undefined_in}

-- a sum of the rows is at least -2^63 and at most 2^63 - 1
abbrev pub IsSumFitting : {X : Type 0} → RowOps X → List (List X) → Agg → Type 0
IsSumFitting ops rows (Sum column) = IsTrue (int_le (negsuc (2 ^ 63 - 1)) (exact_sum (ints_in ops column rows)))
    × IsTrue (int_le (exact_sum (ints_in ops column rows)) (pos (2 ^ 63 - 1)))
IsSumFitting ops rows a = Unit {0}

-- a group of these rows is defined: it has at most 2^62 rows, and each of its sums fits
abbrev pub IsDefinedGroup : {X : Type 0} → RowOps X → List Agg → List (List X) → Type 0
IsDefinedGroup ops aggs rows = (length rows ≤ 2 ^ 62) × All (IsSumFitting ops rows) aggs

abbrev pub is_group : Node → Bool
is_group (Group of key aggs) = true
is_group n = false

-- whether a node is undefined over the rows that it reads on the left. Only a group ever is
abbrev pub undefined_over : {X : Type 0} → RowOps X → Node → List (List X) → Bool
undefined_over ops (Group of key aggs) rows = is_undefined_in ops key aggs rows
undefined_over ops n rows = false

-- the rows that a node reads on the left at the instant t
abbrev pub left_rows : Sources → List Node → ℕ → Node → List Row
left_rows source nodes t n = left_of [] (λ s. alive (source s) t) (λ i. snapshots source nodes i t) n

abbrev pub undefined_node : Sources → List Node → ℕ → Option Node → Bool
undefined_node source nodes t None = false
undefined_node source nodes t (Some n) = undefined_over value_ops n (left_rows source nodes t n)

-- whether the node of number i is undefined at the instant t
abbrev pub undefined_at : Sources → List Node → ℕ → ℕ → Bool
undefined_at source nodes i t = undefined_node source nodes t (slice_get nodes i)

-- n where there is no instant yet and the test is true of n
abbrev pub or_next : (ℕ → Bool) → ℕ → Option ℕ → Option ℕ
or_next p n (Some t) = Some t
or_next p n None = cond (p n) (Some n) None

-- the least instant below c of which the test is true. Of "above 3" below 9: 4, and below 4 there is none
abbrev pub first_below : (ℕ → Bool) → ℕ → Option ℕ
first_below p zero = None
first_below p (suc n) = or_next p n (first_below p n)

-- the least instant below c at which the node of number i is undefined
abbrev pub first_undefined : Sources → List Node → ℕ → ℕ → Option ℕ
first_undefined source nodes i c = first_below (undefined_at source nodes i) c

-- a node, and an instant at which it is undefined
pub record Overflow : Type 0 where
  pub node : ℕ
  pub time : ℕ

abbrev pub overflow_of : ℕ → Option ℕ → Option Overflow
overflow_of i None = None
overflow_of i (Some t) = Some (record { node = i; time = t })

-- the overflow of the node of that number, if there is a number
abbrev pub overflow_there : (ℕ → Option ℕ) → Option ℕ → Option Overflow
overflow_there first None = None
overflow_there first (Some i) = overflow_of i (first i)

-- the lowest node that is undefined at an instant below its closing at the punctuation p, with its least such instant
abbrev pub overflow : Sources → List Node → ℕ → Option Overflow
overflow source nodes p = overflow_there (λ i. first_undefined source nodes i (closes nodes i p))
    (first_below (λ i. is_some (first_undefined source nodes i (closes nodes i p))) (length nodes))
