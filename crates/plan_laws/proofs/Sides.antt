-- What is kept of both sides, from step to step.
use Rattle.std.specs.Prelude.{◌≡◌, ℕ, ◌≤◌, true, List, [], ◌++◌, refl}
use Rattle.std.proofs.Common.{arith}
use Rattle.std.proofs.lemmas.Bool.Decides.{nat_tests}
use Rattle.std.proofs.lemmas.List.Elements.{All-nil}
use Rattle.tw_rows.specs.Cells.{ArePlaced}
use Rattle.tw_rows.specs.Instant.{inf}
use Rattle.tw_rows.specs.Texts.{BeginsWith}
use Rattle.tw_rows.specs.declared.edge.Edge.{Edge}
use Rattle.edge_history.specs.Order.{failing, is_real, is_below, is_from, Rises, IsHistory}
use Rattle.edge_history.proofs.Sums.{weaker, failing-append}
use Rattle.edge_history.proofs.Telling.{order_from}
use Rattle.plan_laws.specs.Places.{EdgesArePlaced}
use Rattle.plan_laws.proofs.Standing.{no_history, placed_longer}
use Rattle.plan_laws.specs.Sides.{KeepsSides}

pub sides_first : (texts : List (List ℕ)) (closing : ℕ) → KeepsSides texts 0 0 closing [] [] []
sides_first texts closing = record {
  left_history = no_history;
  right_history = no_history;
  left_placed = All-nil (λ (e : Edge). ArePlaced texts e.cells);
  right_placed = All-nil (λ (e : Edge). ArePlaced texts e.cells);
  left_low = omega arith;
  right_low = omega arith;
  order = tt;
  real = refl;
  below = refl;
}

pub sides_longer : (new old : List (List ℕ)) (x y closing : ℕ) (left right out : List Edge) → BeginsWith new old →
    KeepsSides old x y closing left right out → KeepsSides new x y closing left right out
sides_longer new old x y closing left right out b k = record {
  left_history = k.left_history;
  right_history = k.right_history;
  left_placed = placed_longer new old b left k.left_placed;
  right_placed = placed_longer new old b right k.right_placed;
  left_low = k.left_low;
  right_low = k.right_low;
  order = k.order;
  real = k.real;
  below = k.below;
}

below_later : (c d : ℕ) (e : Edge) → c ≤ d → is_below c e ≡ true → is_below d e ≡ true
below_later c d e h k = grind (arith, nat_tests)

-- more edges come in, and what is answered comes between the closings
pub sides_step : (texts : List (List ℕ)) (x y u v c d : ℕ) (left right out l r answer : List Edge) → u ≤ inf → v ≤ inf → c ≤ d →
    KeepsSides texts x y c left right out → IsHistory (left ++ l) → IsHistory (right ++ r) → EdgesArePlaced texts (left ++ l) → EdgesArePlaced texts (right ++ r) →
    Rises 0 answer → failing is_real answer ≡ 0 → failing (is_from c) answer ≡ 0 → failing (is_below d) answer ≡ 0 →
    KeepsSides texts u v d (left ++ l) (right ++ r) (out ++ answer)
sides_step texts x y u v c d left right out l r answer lu lv rising k hl hr pl pr up real from below = record {
  left_history = hl;
  right_history = hr;
  left_placed = pl;
  right_placed = pr;
  left_low = lu;
  right_low = lv;
  order = order_from c out answer k.below k.order from up;
  real = failing-append is_real out answer k.real real;
  below = failing-append (is_below d) out answer (weaker (is_below c) (is_below d) out (λ e low. below_later c d e rising low) k.below) below;
}
