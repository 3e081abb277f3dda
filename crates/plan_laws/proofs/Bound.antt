-- How many edges are carried.
use Rattle.std.specs.Prelude.{◌≡◌, ℕ, ◌+◌, ◌*◌, ◌≤◌, nat_le, true, cond, List, length, filter}
use Rattle.std.proofs.Common.{arith}
use Rattle.std.proofs.lemmas.Bool.Decides.{nat_tests}
use Rattle.tw_rows.specs.Instant.{inf}
use Rattle.tw_rows.specs.Bag.{SameBag, total}
use Rattle.tw_rows.specs.declared.edge.Edge.{Edge}
use Rattle.tw_rows.proofs.Bags.{total-filter, total-flat_map, total-add}
use Rattle.edge_history.specs.Order.{is_real, is_from, failing, IsHistory}
use Rattle.edge_history.specs.History.{CellEvent, of}
use Rattle.edge_history.specs.Balance.{news_of, news}
use Rattle.edge_history.specs.Opens.{singles_of, singles}
use Rattle.edge_history.proofs.Sums.{sum_le, sum_eq}
use Rattle.edge_history.proofs.Telling.{is_event}
use Rattle.edge_history.proofs.Retaining.{events_of_are, valid_from}
use Rattle.edge_history.proofs.Opening.{singles_are_news}
use Rattle.plan_model.specs.declared.node.Node.{Node}
use Rattle.plan_laws.specs.Held.{reaching}
use Rattle.plan_laws.proofs.Holding.{length_total}
use Rattle.plan_laws.specs.Answers.{answered_below}
use Rattle.plan_laws.specs.LifeKeeping.{KeepsLives}
use Rattle.plan_model.specs.Lives.{extended}
use Rattle.plan_laws.specs.Extending.{KeepsExtended}
use Rattle.plan_laws.proofs.Extending.{extended_valid, waiting_among}

-- an edge from z on has a single edge from z on
edge_counts : (z : ℕ) (e : Edge) → is_real e ≡ true → cond {A = ℕ} (is_from z e) 1 0 ≤ total (λ x. cond {A = ℕ} (is_from z x) 1 0) (singles_of e)
edge_counts z e r = grind (arith, nat_tests)

-- an event that ends before z has no news from z on, and every other one at most two
event_counts : (z : ℕ) (v : CellEvent) → is_event v ≡ true → total (λ x. cond {A = ℕ} (is_from z x) 1 0) (news_of 0 inf v) ≤ cond {A = ℕ} (nat_le z v.end) 1 0 + cond {A = ℕ} (nat_le z v.end) 1 0
event_counts z v k = grind (arith, nat_tests)

from_counts : (z : ℕ) (e : Edge) → is_from z e ≡ true → 1 ≡ cond {A = ℕ} (is_from z e) 1 0
from_counts z e k = grind (arith, nat_tests)

-- edges of a history from a time on are at most two for each event that does not end before it
pub late_bound : (z : ℕ) (h carried : List Edge) → IsHistory h → SameBag carried (filter (is_from z) h) → length carried ≤ 2 * reaching z (of h)
late_bound z h carried history waits =
    let F : Edge → ℕ = λ e. cond {A = ℕ} (is_from z e) 1 0 in
    let R : CellEvent → ℕ = λ v. cond {A = ℕ} (nat_le z v.end) 1 0 in
    let are = events_of_are h history in
    let a0 = length_total carried in
    let a1 = waits.weigh (λ (e : Edge). 1) in
    let a2 = total-filter (λ (e : Edge). 1) (is_from z) h in
    let a3 = sum_le is_real F (λ e. total F (singles_of e)) h (λ e r. edge_counts z e r) history.real in
    let a4 = total-flat_map F singles_of h in
    let a5 = (singles_are_news h (of h) history.real are).weigh F in
    let a6 = total-flat_map F (news_of 0 inf) (of h) in
    let a7 = sum_le is_event (λ v. total F (news_of 0 inf v)) (λ v. R v + R v) (of h) (λ v e. event_counts z v e) (valid_from h (of h) history.real are) in
    let a8 = total-add R R (of h) in
    omega (arith, a0, a1, a2, a3, a4, a5, a6, a7, a8)

-- edges that wait for times from z on, and are among what is shown of events, are so too
pub waiting_bound : (z : ℕ) (events : List CellEvent) (waiting : List Edge) → failing is_event events ≡ 0 → failing is_real waiting ≡ 0 → failing (is_from z) waiting ≡ 0 →
    ((w : Edge → ℕ) → total w (singles waiting) ≤ total w (news 0 inf events)) → length waiting ≤ 2 * reaching z events
waiting_bound z events waiting valid real late among =
    let F : Edge → ℕ = λ e. cond {A = ℕ} (is_from z e) 1 0 in
    let R : CellEvent → ℕ = λ v. cond {A = ℕ} (nat_le z v.end) 1 0 in
    let a0 = length_total waiting in
    let a1 = sum_eq (is_from z) (λ (e : Edge). 1) F waiting (λ e k. from_counts z e k) late in
    let a3 = sum_le is_real F (λ e. total F (singles_of e)) waiting (λ e r. edge_counts z e r) real in
    let a4 = total-flat_map F singles_of waiting in
    let a5 = among F in
    let a6 = total-flat_map F (news_of 0 inf) events in
    let a7 = sum_le is_event (λ v. total F (news_of 0 inf v)) (λ v. R v + R v) events (λ v e. event_counts z v e) valid in
    let a8 = total-add R R events in
    omega (arith, a0, a1, a3, a4, a5, a6, a7, a8)

pub carried_bound : (n : Node) (texts : List (List ℕ)) (x y : ℕ) (carried left right out : List Edge) → KeepsLives n texts x y carried left right out →
    length carried ≤ 2 * reaching (answered_below n x) (of left)
carried_bound n texts x y carried left right out k = late_bound (answered_below n x) left carried k.sides.left_history k.waits

pub extended_bound : (by : ℕ) (texts : List (List ℕ)) (x y : ℕ) (carried waiting left right out : List Edge) → failing is_real waiting ≡ 0 → KeepsExtended by texts x y carried waiting left right out →
    length carried + length waiting ≤ 2 * reaching x (of left) + 2 * reaching x (extended by (of left))
extended_bound by texts x y carried waiting left right out real k =
    let a = late_bound x left carried k.sides.left_history k.waits in
    let b = waiting_bound x (extended by (of left)) waiting (extended_valid by left k.sides.left_history) real k.late (λ w. waiting_among by texts x y carried waiting left right out w k) in
    omega (arith, a, b)
