-- Closings rise with the punctuation, and reach infinity with it.
use Rattle.std.specs.Prelude.{◌≡◌, ℕ, ◌≤◌, List, Some, slice_get, refl}
use Rattle.std.proofs.Common.{◌∙◌, ap, arith}
use Rattle.std.proofs.lemmas.Bool.Decides.{nat_tests}
use Rattle.tw_rows.specs.Instant.{inf, floor_to}
use Rattle.plan_model.specs.declared.node.Node.{Node}
use Rattle.plan_model.specs.declared.node.Node.TheVariants.{Source, Where, Select, Union, Delay, Hop, Duration, Extend, Session, Clip, Group, Join, Anti, Coalesce, Mean, Top, Follow}
use Rattle.plan_model.specs.Meaning.{left_of, right_of, node_closes, closes, IsOrdered}
use Rattle.plan_model.proofs.NewLives.{floor_rises, floor_low}
use Rattle.plan_model.proofs.Plans.{by_nodes, left_all, right_all}

-- x is at most u, and that is an instant or infinity
abbrev RiseTo : ℕ → ℕ → Type 0
RiseTo x u = (x ≤ u) × (u ≤ inf)

node_rises : (n : Node) (x y u v : ℕ) → RiseTo x u → RiseTo y v → RiseTo (node_closes n x y) (node_closes n u v)
node_rises (Source stream) x y u v h k = h
node_rises (Where of test) x y u v h k = h
node_rises (Select of items) x y u v h k = h
node_rises (Union left right) x y u v h k = (omega arith, omega arith)
node_rises (Delay of by) x y u v h k = (omega arith, omega arith)
node_rises (Hop of size period) x y u v h k = (floor_rises period x u h.0 h.1, floor_low period u h.1)
node_rises (Duration of by) x y u v h k = h
node_rises (Extend of by) x y u v h k = h
node_rises (Session of timeout key) x y u v h k = h
node_rises (Clip left right left_key right_key) x y u v h k = (omega arith, omega arith)
node_rises (Group of key aggs) x y u v h k = h
node_rises (Join left right left_key right_key) x y u v h k = (omega arith, omega arith)
node_rises (Anti left right left_key right_key) x y u v h k = (omega arith, omega arith)
node_rises (Coalesce of) x y u v h k = h
node_rises (Mean of at) x y u v h k = h
node_rises (Top of key by count) x y u v h k = h
node_rises (Follow left right left_key right_key within) x y u v h k = (omega arith, omega arith)

floor_end : (period : ℕ) → floor_to period inf ≡ inf
floor_end period = grind (arith, nat_tests)

pub node_ends : (n : Node) → node_closes n inf inf ≡ inf
node_ends (Source stream) = refl
node_ends (Where of test) = refl
node_ends (Select of items) = refl
node_ends (Union left right) = omega arith
node_ends (Delay of by) = omega arith
node_ends (Hop of size period) = floor_end period
node_ends (Duration of by) = refl
node_ends (Extend of by) = refl
node_ends (Session of timeout key) = refl
node_ends (Clip left right left_key right_key) = omega arith
node_ends (Group of key aggs) = refl
node_ends (Join left right left_key right_key) = omega arith
node_ends (Anti left right left_key right_key) = omega arith
node_ends (Coalesce of) = refl
node_ends (Mean of at) = refl
node_ends (Top of key by count) = refl
node_ends (Follow left right left_key right_key within) = omega arith

module _ (nodes : List Node) (ordered : IsOrdered nodes) (p q : ℕ) (rise : p ≤ q) (low : q ≤ inf) where
  both : (n : ℕ) → RiseTo (closes nodes n p) (closes nodes n q)
  both =
      by_nodes {T = Unit {0}} inf inf tt (λ s. p) (λ s. q) (λ s. tt) node_closes node_closes (λ n a b. tt) (λ x y u. RiseTo x y) nodes ordered
      (omega arith, omega arith) (λ s. (rise, low)) (λ i n there left right. node_rises n _ _ _ _ left right)

  pub closes_rise : (n : ℕ) → closes nodes n p ≤ closes nodes n q
  closes_rise n = (both n).0

  pub closes_low : (n : ℕ) → closes nodes n q ≤ inf
  closes_low n = (both n).1

  -- and so do the closings of what a node reads
  pub left_rises : (i : ℕ) (n : Node) → slice_get nodes i ≡ Some n → left_of inf (λ s. p) (λ j. closes nodes j p) n ≤ left_of inf (λ s. q) (λ j. closes nodes j q) n
  left_rises i n there =
      (left_all {C = Unit {0}} (λ x y u. RiseTo x y) inf inf tt (λ s. p) (λ s. q) (λ s. tt) (λ j. closes nodes j p) (λ j. closes nodes j q) (λ j. tt) i n (ordered i n there).0
      (λ s. (rise, low)) (λ j lower. both j)).0

  pub right_rises : (i : ℕ) (n : Node) → slice_get nodes i ≡ Some n → right_of inf (λ j. closes nodes j p) n ≤ right_of inf (λ j. closes nodes j q) n
  right_rises i n there =
      (right_all {C = Unit {0}} (λ x y u. RiseTo x y) inf inf tt (λ j. closes nodes j p) (λ j. closes nodes j q) (λ j. tt) i n (ordered i n there).1
      (omega arith, omega arith) (λ j lower. both j)).0

ends_from : (n : Node) (x y : ℕ) → x ≡ inf → y ≡ inf → node_closes n x y ≡ inf
ends_from n x y h k = ap (λ m. node_closes n m y) h ∙ (ap (node_closes n inf) k ∙ node_ends n)

pub closes_end : (nodes : List Node) → IsOrdered nodes → (n : ℕ) → closes nodes n inf ≡ inf
closes_end nodes ordered =
    by_nodes {S = Unit {0}} {T = Unit {0}} inf tt tt (λ s. inf) (λ s. tt) (λ s. tt) node_closes (λ n a b. tt) (λ n a b. tt) (λ x a b. x ≡ inf) nodes ordered
    refl (λ s. refl) (λ i n there left right. ends_from n _ _ left right)
