-- What a step of a Follow answers: interval edges in order, with the columns of the pairs.
use Rattle.std.specs.Prelude.{◌≡◌, ℕ, ◌≤◌, nat_lt, Bool, true, false, cond, IsTrue, List, [], ◌++◌, filter, map, All, refl}
use Rattle.std.proofs.Common.{sym, ◌∙◌, ap, arith}
use Rattle.std.proofs.lemmas.Bool.Decides.{nat_tests}
use Rattle.std.proofs.lemmas.List.Elements.{All-weaker}
use Rattle.tw_rows.specs.Bag.{SameBag, total}
use Rattle.tw_rows.specs.Cells.{datum_kind}
use Rattle.tw_rows.specs.Event.{AreEvents, cut}
use Rattle.tw_rows.specs.Instant.{inf}
use Rattle.tw_rows.specs.declared.edge.Edge.{Edge}
use Rattle.tw_rows.specs.declared.kind.CellKind.{CellKind}
use Rattle.tw_rows.proofs.Bags.{total-append, total-map, total-filter, total_same, total_zero}
use Rattle.edge_history.specs.History.{CellEvent, of}
use Rattle.edge_history.specs.Order.{failing, is_real, is_from, is_below, IsHistory, Rises}
use Rattle.edge_history.proofs.Agreeing.{same_order}
use Rattle.edge_history.proofs.Retaining.{events_of_are, same_below, valid_from, AreEvents-from, AreEvents-none_fails}
use Rattle.edge_history.proofs.Sums.{sum_eq, failing-All, failing-parts}
use Rattle.edge_history.proofs.Telling.{is_event, order_from}
use Rattle.key_nodes.proofs.Following.{followed_valid}
use Rattle.plan_laws.proofs.RowsOf.{followed_rows_hold}
use Rattle.plan_model.specs.Keys.{paired_row}
use Rattle.sweep_laws.specs.Saving.{store_all}
use Rattle.sweep_laws.specs.Waits.{as_interval, starts_below}
use Rattle.sweep_laws.proofs.Stored.{kinds_stored, stored_kinds}
use Rattle.sweep_sides.specs.Answers.{FitsList, is_between}
use Rattle.follow_op.specs.Followed.{follow_meets, follows}
use Rattle.follow_op.specs.Intervals.{starts_between, TellsAhead}
use Rattle.sweep_sides.proofs.Paired.{pair_mapped}
use Rattle.sweep_sides.proofs.StoredRows.{Stored, rows_stored, stored_rows, events_stored}
use Rattle.follow_op.proofs.Sums.{below_known, below_parts}

pub lives : (h : List Edge) → IsHistory h → AreEvents (of h)
lives h k = AreEvents-from (of h) (valid_from h (of h) k.real (events_of_are h k))

pub valid : (lk rk : List ℕ) (within : ℕ) (hl hr : List Edge) → IsHistory hr → failing is_event (follows lk rk within (of hl) (of hr)) ≡ 0
valid lk rk within hl hr k = AreEvents-none_fails (follows lk rk within (of hl) (of hr)) (followed_valid (follow_meets lk rk) (paired_row rk) within (of hl) (of hr) (lives hr k))

pub known : (c : ℕ) (h new : List Edge) → c ≤ inf → IsHistory h → IsHistory (h ++ new) → failing (is_from c) new ≡ 0 → SameBag (cut c (of h)) (cut c (of (h ++ new)))
known c h new low k whole fresh = same_below c h new (of h) (of (h ++ new)) low (failing-parts is_real h new whole.real).1 fresh (events_of_are h k) (events_of_are (h ++ new) whole)

-- THE COLUMNS OF THE ANSWER
follows_stored : (lk rk : List ℕ) (within : ℕ) (left right own : List CellKind) → own ≡ paired_row rk left right → (a b : List CellEvent) →
    failing (λ e. store_all left e.row) a ≡ 0 → failing (λ e. store_all right e.row) b ≡ 0 → failing (λ e. store_all own e.row) (follows lk rk within a b) ≡ 0
follows_stored lk rk within left right own is a b ha hb =
    stored_rows own (follows lk rk within a b)
    (followed_rows_hold (Stored left) (Stored right) (Stored own) (follow_meets lk rk) (paired_row rk)
    (λ l r h k. kinds_stored own (paired_row rk l r) (sym (pair_mapped datum_kind rk l r) ∙ ((λ i. paired_row rk (stored_kinds left l h i) (stored_kinds right r k i)) ∙ sym is)))
    within a b (rows_stored left a ha) (rows_stored right b hb))

-- WHAT THE ANSWER IS
-- what holds of the interval edges of the events holds of the answer
intervals_pass : (p : Edge → Bool) (q : CellEvent → Bool) (from to : ℕ) (events : List CellEvent) (told : List Edge) → TellsAhead events from to [] told → failing q events ≡ 0 →
    ((e : CellEvent) → q e ≡ true → starts_between from to e ≡ true → p (as_interval e) ≡ true) → failing p told ≡ 0
intervals_pass p q from to events told tells none pass =
    let t = tells.weigh (λ x. cond (p x) 0 1) in
    let z = sum_eq q (λ e. cond (starts_between from to e) (cond (p (as_interval e)) 0 1) 0) (λ e. 0) events (λ e k. pick e k (starts_between from to e) refl) none ∙ total_zero events in
    omega (arith, t, z)
  where
    pick : (e : CellEvent) → q e ≡ true → (b : Bool) → starts_between from to e ≡ b → cond {A = ℕ} b (cond (p (as_interval e)) 0 1) 0 ≡ 0
    pick e k true s = ap (λ c. cond {A = ℕ} c 0 1) (pass e k s)
    pick e k false s = refl

real_one : (from to : ℕ) (e : CellEvent) → to ≤ inf → is_event e ≡ true → starts_between from to e ≡ true → is_real (as_interval e) ≡ true
real_one from to e high v s = grind (arith, nat_tests)

from_one : (from to : ℕ) (e : CellEvent) → starts_between from to e ≡ true → is_from from (as_interval e) ≡ true
from_one from to e s = grind (arith, nat_tests)

pub told_fits : (lk rk : List ℕ) (within : ℕ) (left right own : List CellKind) (from to : ℕ) (hl hr told : List Edge) → own ≡ paired_row rk left right → to ≤ inf → IsHistory hr →
    All (λ e. map datum_kind e.cells ≡ left) hl → All (λ e. map datum_kind e.cells ≡ right) hr → TellsAhead (follows lk rk within (of hl) (of hr)) from to [] told → FitsList own from to told
told_fits lk rk within left right own from to hl hr told is high k cl cr tells =
    let events = follows lk rk within (of hl) (of hr) in
    let sound = valid lk rk within hl hr k in
    let order = tells.order (record { rises = tt; below = refl }) in
    record {
      order = (same_order told).1 (order.rises, intervals_pass is_real is_event from to events told tells sound (λ e v s. real_one from to e high v s));
      cells = All-weaker (λ (e : Edge). IsTrue (store_all own e.cells)) (λ (e : Edge). map datum_kind e.cells ≡ own) (λ e k. stored_kinds own e.cells k) told
          ((failing-All (λ (e : Edge). store_all own e.cells) told).0
          (intervals_pass (λ e. store_all own e.cells) (λ e. store_all own e.row) from to events told tells
          (follows_stored lk rk within left right own is (of hl) (of hr) (events_stored left hl cl) (events_stored right hr cr)) (λ e v s. v)));
      between = intervals_pass (is_between from to) is_event from to events told tells sound (λ e v s. s);
    }

-- the answer so far, and this one
pub answered_then : (lk rk : List ℕ) (within c d : ℕ) (hl hr l r out told : List Edge) → c ≤ d → d ≤ inf → IsHistory hl → IsHistory hr → IsHistory (hl ++ l) → IsHistory (hr ++ r) →
    failing (is_from c) l ≡ 0 → failing (is_from c) r ≡ 0 → SameBag out (map as_interval (filter (starts_below c) (follows lk rk within (of hl) (of hr)))) →
    TellsAhead (follows lk rk within (of (hl ++ l)) (of (hr ++ r))) c d [] told → SameBag (out ++ told) (map as_interval (filter (starts_below d) (follows lk rk within (of (hl ++ l)) (of (hr ++ r)))))
answered_then lk rk within c d hl hr l r out told low high kl kr wl wr fl fr so tells = record {
  weigh = λ w.
      let old = follows lk rk within (of hl) (of hr) in
      let new = follows lk rk within (of (hl ++ l)) (of (hr ++ r)) in
      let a = total-append w out told in
      let b = so.weigh w ∙ weighs w c old in
      let e = below_known lk rk within c (of hl) (of (hl ++ l)) (of hr) (of (hr ++ r)) (omega (arith, low, high)) (known c hl l (omega (arith, low, high)) kl wl fl) (known c hr r (omega (arith, low, high)) kr wr fr)
      (λ x. w (as_interval x)) c (omega arith) in
      let t = tells.weigh w in
      let p = below_parts w c d new low in
      let z = weighs w d new in
      omega (arith, a, b, e, t, p, z);
}
  where
    weighs : (w : Edge → ℕ) (n : ℕ) (es : List CellEvent) → total w (map as_interval (filter (starts_below n) es)) ≡ total (λ e. cond (nat_lt e.start n) (w (as_interval e)) 0) es
    weighs w n es = total-map w as_interval (filter (starts_below n) es) ∙ total-filter (λ e. w (as_interval e)) (starts_below n) es

pub order_then : (lk rk : List ℕ) (within c d : ℕ) (hl hr hl2 hr2 out told : List Edge) → IsHistory hr2 → Rises 0 out →
    SameBag out (map as_interval (filter (starts_below c) (follows lk rk within (of hl) (of hr)))) → TellsAhead (follows lk rk within (of hl2) (of hr2)) c d [] told → Rises 0 (out ++ told)
order_then lk rk within c d hl hr hl2 hr2 out told k up so tells =
    let events = follows lk rk within (of hl) (of hr) in
    let order = tells.order (record { rises = tt; below = refl }) in
    let below : failing (is_below c) out ≡ 0 =
    so.weigh (λ x. cond (is_below c x) 0 1)
    ∙ (total-map (λ x. cond (is_below c x) 0 1) as_interval (filter (starts_below c) events)
    ∙ (total-filter (λ e. cond (is_below c (as_interval e)) 0 1) (starts_below c) events ∙ (total_same _ (λ e. 0) events (λ e. one e.start) ∙ total_zero events))) in
    order_from c out told below up (intervals_pass (is_from c) is_event c d (follows lk rk within (of hl2) (of hr2)) told tells (valid lk rk within hl2 hr2 k) (λ e v s. from_one c d e s)) order.rises
  where
    one : (s : ℕ) → cond {A = ℕ} (nat_lt s c) (cond (nat_lt s c) 0 1) 0 ≡ 0
    one s = grind (arith, nat_tests)
