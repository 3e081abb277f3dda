-- What is told ahead: an interval edge tells an end before its time.
use Rattle.std.specs.Prelude.{◌≡◌, ◌⊎◌, ℕ, ◌+◌, ◌<◌, ◌≤◌, ◌&&◌, Bool, true, cond, List, ◌++◌, filter}
use Rattle.std.proofs.Common.{inl, inr, ◌∙◌, arith}
use Rattle.std.proofs.lemmas.Bool.Decides.{nat_tests}
use Rattle.std.proofs.lemmas.Bool.{cases_lt}
use Rattle.tw_rows.specs.Instant.{inf}
use Rattle.tw_rows.specs.Bag.{SameBag, total}
use Rattle.tw_rows.specs.Event.{cut_one, cut}
use Rattle.tw_rows.specs.declared.cells.Datum.{Datum}
use Rattle.tw_rows.specs.declared.edge.Edge.{Edge}
use Rattle.tw_rows.proofs.Bags.{total-append, total-flat_map, total-filter, total_same, total_zero, total-add}
use Rattle.edge_history.specs.Order.{failing, many, is_real, is_below, is_from, ends_it, starts_it, Rises, IsPaired, IsHistory}
use Rattle.edge_history.specs.History.{CellEvent, of, StandsBelow}
use Rattle.edge_history.specs.Balance.{news_of, news}
use Rattle.edge_history.specs.Opens.{singles_of, singles}
use Rattle.edge_history.specs.Ahead.{ToldAhead}
use Rattle.edge_history.proofs.Sums.{sum_eq, sum_le, weaker, failing-append}
use Rattle.edge_history.proofs.Telling.{is_event, gain, loss, news_all, before_all, news_in_parts, order_from}
use Rattle.edge_history.proofs.Retaining.{events_of_are, valid_from}
use Rattle.edge_history.proofs.Opening.{singles_are_news}
use Rattle.edge_history.proofs.Waiting.{news_between, singles_both}

-- a start edge of the cells at the start, among single edges
abbrev begins_it : List Datum → ℕ → Edge → Bool
begins_it cells start e = starts_it cells start e

parts_one : (w : Edge → ℕ) (c : ℕ) (x : Edge) → w x ≡ cond (is_below c x) (w x) 0 + cond (is_from c x) (w x) 0
parts_one w c x = grind (arith, nat_tests)

-- a sum in two parts, below a time and from it on
pub time_parts : (w : Edge → ℕ) (c : ℕ) (xs : List Edge) → total w xs ≡ total w (filter (is_below c) xs) + total w (filter (is_from c) xs)
time_parts w c xs =
    let a = total_same w (λ x. cond (is_below c x) (w x) 0 + cond (is_from c x) (w x) 0) xs (λ x. parts_one w c x) in
    let b = total-add (λ x. cond (is_below c x) (w x) 0) (λ x. cond (is_from c x) (w x) 0) xs in
    let d = total-filter w (is_below c) xs in
    let e = total-filter w (is_from c) xs in
    omega (arith, a, b, d, e)

-- an end edge and a start edge against the single edges
balance_one : (cells : List Datum) (start : ℕ) (e : Edge) → is_real e ≡ true →
    cond {A = ℕ} (ends_it cells start e) 1 0 + total (λ x. cond (starts_it cells start x) 1 0) (singles_of e)
    ≡ cond (starts_it cells start e) 1 0 + total (λ x. cond (ends_it cells start x) 1 0) (singles_of e)
balance_one cells start e real = grind (arith, nat_tests)

balance : (cells : List Datum) (start : ℕ) (h : List Edge) → failing is_real h ≡ 0 →
    many (ends_it cells start) h + many (starts_it cells start) (singles h) ≡ many (starts_it cells start) h + many (ends_it cells start) (singles h)
balance cells start h real =
    let E : Edge → ℕ = λ e. cond (ends_it cells start e) 1 0 in
    let S : Edge → ℕ = λ e. cond (starts_it cells start e) 1 0 in
    let one = sum_eq is_real (λ e. E e + total S (singles_of e)) (λ e. S e + total E (singles_of e)) h (λ e r. balance_one cells start e r) real in
    let a = total-add E (λ e. total S (singles_of e)) h in
    let b = total-add S (λ e. total E (singles_of e)) h in
    let x = total-flat_map S singles_of h in
    let y = total-flat_map E singles_of h in
    omega (arith, one, a, b, x, y)

-- an event that ends began
begun_one : (cells : List Datum) (start c : ℕ) (e : CellEvent) → start < c → c ≤ inf → is_event e ≡ true →
    total (λ x. cond {A = ℕ} (ends_it cells start x) 1 0) (news_of 0 inf e) ≤ total (λ x. cond (starts_it cells start x) 1 0) (news_of 0 c e)
begun_one cells start c e low high v = grind (arith, nat_tests)

ends_begun : (cells : List Datum) (start c : ℕ) (es : List CellEvent) → start < c → c ≤ inf → failing is_event es ≡ 0 →
    many (ends_it cells start) (news 0 inf es) ≤ many (starts_it cells start) (news 0 c es)
ends_begun cells start c es low high v =
    let E : Edge → ℕ = λ e. cond (ends_it cells start e) 1 0 in
    let S : Edge → ℕ = λ e. cond (starts_it cells start e) 1 0 in
    let one = sum_le is_event (λ e. total E (news_of 0 inf e)) (λ e. total S (news_of 0 c e)) es (λ e k. begun_one cells start c e low high k) v in
    let a = total-flat_map E (news_of 0 inf) es in
    let b = total-flat_map S (news_of 0 c) es in
    omega (arith, one, a, b)

-- an edge below c ends nothing that starts from c on
late_end : (cells : List Datum) (start c : ℕ) (x : Edge) → c ≤ start → is_below c x ≡ true → cond {A = ℕ} (ends_it cells start x) 1 0 ≡ 0
late_end cells start c x low below = grind (arith, nat_tests)

pub ahead_paired : (c : ℕ) (h : List Edge) (es : List CellEvent) → c ≤ inf → failing is_event es ≡ 0 → ToldAhead c h es → IsPaired h
ahead_paired c h es high v t cells start = pick (cases_lt start c)
  where
    pick : (start < c) ⊎ (c ≤ start) → many (ends_it cells start) h ≤ many (starts_it cells start) h
    pick (inr late) =
        let z = sum_eq (is_below c) (λ e. cond {A = ℕ} (ends_it cells start e) 1 0) (λ e. 0) h (λ x b. late_end cells start c x late b) t.below ∙ total_zero h in
        omega (arith, z)
    pick (inl low) =
        let E : Edge → ℕ = λ e. cond (ends_it cells start e) 1 0 in
        let S : Edge → ℕ = λ e. cond (starts_it cells start e) 1 0 in
        let b = balance cells start h t.real in
        let p = time_parts E c (singles h) in
        let q = time_parts S c (singles h) in
        let x = t.told.weigh E in
        let y = t.told.weigh S in
        let a = t.ahead E in
        let n = (news_in_parts 0 c inf es (omega arith) high).weigh E in
        let m = total-append E (news 0 c es) (news c inf es) in
        let l = ends_begun cells start c es low high v in
        omega (arith, b, p, q, x, y, a, n, m, l)

pub ahead_history : (c : ℕ) (h : List Edge) (es : List CellEvent) → c ≤ inf → failing is_event es ≡ 0 → ToldAhead c h es → IsHistory h
ahead_history c h es high v t = record { order = t.order; real = t.real; paired = ahead_paired c h es high v t }

-- events with the same news below a time are known alike below it
pub known_by_news : (c : ℕ) (a b : List CellEvent) → c ≤ inf → failing is_event a ≡ 0 → failing is_event b ≡ 0 →
    SameBag (news 0 c a) (news 0 c b) → SameBag (cut c a) (cut c b)
known_by_news c a b high va vb h = record {
  weigh = λ w.
      let x = news_all w 0 c a (omega arith) high va in
      let y = news_all w 0 c b (omega arith) high vb in
      let g = h.weigh (gain w c) in
      let l = h.weigh (loss w c) in
      let none : (es : List CellEvent) → total w (cut 0 es) ≡ 0 = λ es. total-flat_map w (cut_one 0) es ∙ (total_same _ (λ e. 0) es (λ e. before_all w e) ∙ total_zero es) in
      let p = none a in
      let q = none b in
      omega (arith, x, y, g, l, p, q);
}

below_one : (w : Edge → ℕ) (c : ℕ) (x : Edge) → cond (is_below c x) (w x) 0 ≡ cond (is_from 0 x && is_below c x) (w x) 0
below_one w c x = grind (arith, nat_tests)

-- what is told ahead stands for the events
pub ahead_stands : (c : ℕ) (h : List Edge) (es : List CellEvent) → c ≤ inf → failing is_event es ≡ 0 → ToldAhead c h es → StandsBelow c h es
ahead_stands c h es high v t =
    let k = ahead_history c h es high v t in
    let are = events_of_are h k in
    record {
      history = k;
      below = t.below;
      same = known_by_news c (of h) es high (valid_from h (of h) k.real are) v (record {
        weigh = λ w.
            let s = (singles_are_news h (of h) k.real are).weigh (λ x. cond (is_from 0 x && is_below c x) (w x) 0) in
            let n = news_between w 0 c (of h) high in
            let f = total-filter w (is_below c) (singles h) in
            let g = total_same (λ x. cond (is_below c x) (w x) 0) (λ x. cond (is_from 0 x && is_below c x) (w x) 0) (singles h) (λ x. below_one w c x) in
            let u = t.told.weigh w in
            omega (arith, s, n, f, g, u);
      });
    }

-- a step
later_below : (c d : ℕ) (x : Edge) → c ≤ d → is_below c x ≡ true → is_below d x ≡ true
later_below c d x low k = grind (arith, nat_tests)

low_then : (w : Edge → ℕ) (c d : ℕ) (x : Edge) → c ≤ d → cond (is_below d x) (w x) 0 ≡ cond (is_below c x) (w x) 0 + cond (is_below d x) (cond (is_from c x) (w x) 0) 0
low_then w c d x low = grind (arith, nat_tests)

from_then : (w : Edge → ℕ) (c d : ℕ) (x : Edge) → c ≤ d → cond (is_from d x) (w x) 0 ≡ cond (is_from d x) (cond (is_from c x) (w x) 0) 0
from_then w c d x low = grind (arith, nat_tests)

under : (w : Edge → ℕ) (p q : Edge → Bool) (xs : List Edge) → total w (filter p (filter q xs)) ≡ total (λ x. cond (q x) (cond (p x) (w x) 0) 0) xs
under w p q xs = total-filter w p (filter q xs) ∙ total-filter (λ x. cond (p x) (w x) 0) q xs

swap_tests : (p q : Bool) (n : ℕ) → cond {A = ℕ} q (cond p n 0) 0 ≡ cond p (cond q n 0) 0
swap_tests p q n = grind arith

pub ahead_more : (c d : ℕ) (out answer : List Edge) (es : List CellEvent) → c ≤ d → d ≤ inf → ToldAhead c out es →
    Rises 0 answer → failing is_real answer ≡ 0 → failing (is_from c) answer ≡ 0 → failing (is_below d) answer ≡ 0 →
    ((w : Edge → ℕ) → total w (filter (is_below d) (singles answer)) + total w (filter (is_below d) (filter (is_from c) (singles out))) ≡ total w (news c d es)) →
    ((w : Edge → ℕ) → total w (filter (is_from d) (singles answer)) + total w (filter (is_from d) (filter (is_from c) (singles out))) ≤ total w (news d inf es)) →
    ToldAhead d (out ++ answer) es
ahead_more c d out answer es low high t up real from below told ahead = record {
  order = order_from c out answer t.below t.order from up;
  real = failing-append is_real out answer t.real real;
  below = failing-append (is_below d) out answer (weaker (is_below c) (is_below d) out (λ x k. later_below c d x low k) t.below) below;
  told = record {
    weigh = λ w.
        let L : Edge → ℕ = λ x. cond (is_below d x) (w x) 0 in
        let a = total-filter w (is_below d) (singles (out ++ answer)) in
        let b = singles_both L out answer in
        let e = total-filter w (is_below d) (singles answer) in
        let f = total_same L (λ x. cond (is_below c x) (w x) 0 + cond (is_below d x) (cond (is_from c x) (w x) 0) 0) (singles out) (λ x. low_then w c d x low) in
        let g = total-add (λ x. cond (is_below c x) (w x) 0) (λ x. cond (is_below d x) (cond (is_from c x) (w x) 0) 0) (singles out) in
        let i = total-filter w (is_below c) (singles out) in
        let j = under w (is_below d) (is_from c) (singles out) ∙ total_same _ (λ x. cond (is_below d x) (cond (is_from c x) (w x) 0) 0) (singles out) (λ x. swap_tests (is_below d x) (is_from c x) (w x)) in
        let k = t.told.weigh w in
        let l = told w in
        let m = (news_in_parts 0 c d es (omega arith) low).weigh w in
        let n = total-append w (news 0 c es) (news c d es) in
        omega (arith, a, b, e, f, g, i, j, k, l, m, n);
  };
  ahead = λ w.
      let L : Edge → ℕ = λ x. cond (is_from d x) (w x) 0 in
      let a = total-filter w (is_from d) (singles (out ++ answer)) in
      let b = singles_both L out answer in
      let e = total-filter w (is_from d) (singles answer) in
      let f = total_same L (λ x. cond (is_from d x) (cond (is_from c x) (w x) 0) 0) (singles out) (λ x. from_then w c d x low) in
      let j = under w (is_from d) (is_from c) (singles out) ∙ total_same _ (λ x. cond (is_from d x) (cond (is_from c x) (w x) 0) 0) (singles out) (λ x. swap_tests (is_from d x) (is_from c x) (w x)) in
      let l = ahead w in
      omega (arith, a, b, e, f, j, l);
}
