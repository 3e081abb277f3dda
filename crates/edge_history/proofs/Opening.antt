-- Edges as the news of events, and the rows that are alive between instants.
use Rattle.std.specs.Prelude.{◌≡◌, ℕ, suc, ◌+◌, ◌<◌, ◌≤◌, true, cond, List, [], ◌∷◌, flat_map}
use Rattle.std.proofs.Common.{sym, ◌∙◌, arith}
use Rattle.std.proofs.lemmas.Bool.Decides.{nat_tests}
use Rattle.tw_rows.specs.Instant.{inf}
use Rattle.tw_rows.specs.Bag.{SameBag, total}
use Rattle.tw_rows.specs.Event.{alive, lives_at, cut_one, cut}
use Rattle.tw_rows.specs.declared.cells.Datum.{Datum}
use Rattle.tw_rows.specs.declared.edge.Edge.{Edge}
use Rattle.tw_rows.proofs.Bags.{total-append, total-map, total-flat_map, total_same, total-add, total_zero}
use Rattle.tw_rows.proofs.Lives.{total-alive}
use Rattle.edge_history.specs.Order.{failing, is_real}
use Rattle.edge_history.specs.History.{CellEvent}
use Rattle.edge_history.specs.Balance.{given, taken, AreEventsOf, news_of, news}
use Rattle.edge_history.proofs.Sums.{sum_eq, sum_le}
use Rattle.edge_history.proofs.Telling.{is_event}
use Rattle.tw_rows.specs.declared.edge.HeldRow.{HeldRow}
use Rattle.edge_history.specs.Opens.{singles_of, singles, open_of, opens, ended_of, started_of, ended_rows, started_rows, bare, is_early, is_new}

-- THE SINGLE EDGES OF A HISTORY ARE THE NEWS OF ITS EVENTS
single_is : (w : Edge → ℕ) (e : Edge) → is_real e ≡ true →
    total (λ v. total w (news_of 0 inf v)) (given e ∷ []) ≡ total (λ v. total w (news_of 0 inf v)) (taken e) + total w (singles_of e)
single_is w e real = grind (arith, nat_tests)

pub singles_are_news : (h : List Edge) (a : List CellEvent) → failing is_real h ≡ 0 → AreEventsOf h a →
    SameBag (singles h) (news 0 inf a)
singles_are_news h a real is = record {
  weigh = λ w.
      let W : CellEvent → ℕ = λ v. total w (news_of 0 inf v) in
      let k = is.weigh W in
      let a1 = total-append W a (flat_map taken h) in
      let a2 = total-flat_map W taken h in
      let a3 = total-map W given h in
      let one = sum_eq is_real (λ e. W (given e)) (λ e. total W (taken e) + total w (singles_of e)) h (λ e r. let s = single_is w e r in omega (arith, s)) real in
      let a4 = total-add (λ e. total W (taken e)) (λ e. total w (singles_of e)) h in
      let a5 = total-flat_map w singles_of h in
      let a6 = total-flat_map w (news_of 0 inf) a in
      omega (arith, k, a1, a2, a3, one, a4, a5, a6);
}

-- THE ROWS THAT ARE ALIVE
open_one : (w : HeldRow → ℕ) (t u : ℕ) (e : CellEvent) → t ≤ u → is_event e ≡ true →
    total w (open_of u e) + total (λ x. total w (ended_of x)) (news_of t u e) ≡ total w (open_of t e) + total (λ x. total w (started_of x)) (news_of t u e)
open_one w t u e low v = grind (arith, nat_tests)

pub opens_step : (w : HeldRow → ℕ) (t u : ℕ) (a : List CellEvent) → t ≤ u → failing is_event a ≡ 0 →
    total w (opens u a) + total w (ended_rows (news t u a)) ≡ total w (opens t a) + total w (started_rows (news t u a))
opens_step w t u a low valid =
    let one = sum_eq is_event (λ e. total w (open_of u e) + total (λ x. total w (ended_of x)) (news_of t u e))
    (λ e. total w (open_of t e) + total (λ x. total w (started_of x)) (news_of t u e)) a (λ e v. open_one w t u e low v) valid in
    let a1 = total-add (λ e. total w (open_of u e)) (λ e. total (λ x. total w (ended_of x)) (news_of t u e)) a in
    let a2 = total-add (λ e. total w (open_of t e)) (λ e. total (λ x. total w (started_of x)) (news_of t u e)) a in
    let b1 = total-flat_map w (open_of u) a in
    let b2 = total-flat_map w (open_of t) a in
    let c1 = total-flat_map w ended_of (news t u a) in
    let c2 = total-flat_map w started_of (news t u a) in
    let d1 = total-flat_map (λ x. total w (ended_of x)) (news_of t u) a in
    let d2 = total-flat_map (λ x. total w (started_of x)) (news_of t u) a in
    omega (arith, one, a1, a2, b1, b2, c1, c2, d1, d2)

-- what ends at an instant is alive before it
end_fits : (w : HeldRow → ℕ) (t : ℕ) (e : CellEvent) → is_event e ≡ true →
    total (λ x. total w (ended_of x)) (news_of t (suc t) e) ≤ total w (open_of t e)
end_fits w t e v = grind (arith, nat_tests)

pub ends_fit : (w : HeldRow → ℕ) (t : ℕ) (a : List CellEvent) → failing is_event a ≡ 0 →
    total w (ended_rows (news t (suc t) a)) ≤ total w (opens t a)
ends_fit w t a valid =
    let one = sum_le is_event (λ e. total (λ x. total w (ended_of x)) (news_of t (suc t) e)) (λ e. total w (open_of t e)) a (λ e v. end_fits w t e v) valid in
    let b = total-flat_map w (open_of t) a in
    let c = total-flat_map w ended_of (news t (suc t) a) in
    let d = total-flat_map (λ x. total w (ended_of x)) (news_of t (suc t)) a in
    omega (arith, one, b, c, d)

-- what is alive at an instant is alive after its edges
lives_one : (w : List Datum → ℕ) (t : ℕ) (e : CellEvent) → cond (lives_at t e) (w e.row) 0 ≡ total (λ r. w r.cells) (open_of (suc t) e)
lives_one w t e = grind (arith, nat_tests)

pub alive_is_open : (t : ℕ) (a : List CellEvent) → SameBag (alive a t) (bare (opens (suc t) a))
alive_is_open t a = record {
  weigh = λ w. total-alive w a t ∙ (total_same _ _ a (λ e. lives_one w t e)
      ∙ sym (total-map w (λ r. r.cells) (opens (suc t) a) ∙ total-flat_map (λ r. w r.cells) (open_of (suc t)) a));
}

-- without news the rows stay
no_news : (v : Edge → ℕ) (xs : List Edge) → ((w : Edge → ℕ) → total w xs ≡ 0) → total v xs ≡ 0
no_news v xs none = none v

pub opens_stay : (t u : ℕ) (a : List CellEvent) → t ≤ u → failing is_event a ≡ 0 → ((w : Edge → ℕ) → total w (news t u a) ≡ 0) →
    SameBag (opens u a) (opens t a)
opens_stay t u a low valid none = record {
  weigh = λ w.
      let s = opens_step w t u a low valid in
      let c1 = total-flat_map w ended_of (news t u a) in
      let c2 = total-flat_map w started_of (news t u a) in
      let d1 = none (λ x. total w (ended_of x)) in
      let d2 = none (λ x. total w (started_of x)) in
      omega (arith, s, c1, c2, d1, d2);
}

-- news of a part
part_one : (w : Edge → ℕ) (t v u : ℕ) (e : CellEvent) → t ≤ v → v ≤ u → total w (news_of t v e) ≤ total w (news_of t u e)
part_one w t v u e low high = grind (arith, nat_tests)

pub news_part : (w : Edge → ℕ) (t v u : ℕ) (a : List CellEvent) → t ≤ v → v ≤ u → total w (news t v a) ≤ total w (news t u a)
news_part w t v u a low high =
    let one = sum_le (λ e. true) (λ e. total w (news_of t v e)) (λ e. total w (news_of t u e)) a (λ e _. part_one w t v u e low high) (total_zero a) in
    let b = total-flat_map w (news_of t v) a in
    let c = total-flat_map w (news_of t u) a in
    omega (arith, one, b, c)

-- the rows once the edges of an instant have come
pub rows_after : (a : List CellEvent) (t : ℕ) (now : List Edge) (rows rows2 : List HeldRow) → failing is_event a ≡ 0 →
    SameBag now (news t (suc t) a) → SameBag rows (opens t a) →
    ((w : HeldRow → ℕ) → total w rows2 + total w (ended_rows now) ≡ total w rows + total w (started_rows now)) → SameBag rows2 (opens (suc t) a)
rows_after a t now rows rows2 valid is h moved = record {
  weigh = λ w.
      let m = moved w in
      let x = opens_step w t (suc t) a (omega arith) valid in
      let r = h.weigh w in
      let e1 = total-flat_map w ended_of now ∙ is.weigh (λ x. total w (ended_of x)) ∙ sym (total-flat_map w ended_of (news t (suc t) a)) in
      let e2 = total-flat_map w started_of now ∙ is.weigh (λ x. total w (started_of x)) ∙ sym (total-flat_map w started_of (news t (suc t) a)) in
      omega (arith, m, x, r, e1, e2);
}

-- what ends at an instant is there
pub ends_there : (a : List CellEvent) (t : ℕ) (now : List Edge) (rows : List HeldRow) → failing is_event a ≡ 0 →
    SameBag now (news t (suc t) a) → SameBag rows (opens t a) → (w : HeldRow → ℕ) → total w (ended_rows now) ≤ total w rows
ends_there a t now rows valid is h w =
    let f = ends_fit w t a valid in
    let x = h.weigh w in
    let e = total-flat_map w ended_of now ∙ is.weigh (λ y. total w (ended_of y)) ∙ sym (total-flat_map w ended_of (news t (suc t) a)) in
    omega (arith, f, x, e)

-- what is open depends on what is known alone
open_known : (w : HeldRow → ℕ) (c : ℕ) (e : CellEvent) → c ≤ inf → total w (open_of c e) ≡ total (λ x. total w (open_of c x)) (cut_one c e)
open_known w c e high = grind (arith, nat_tests)

pub opens_known : (c : ℕ) (a b : List CellEvent) → c ≤ inf → SameBag (cut c a) (cut c b) → SameBag (opens c a) (opens c b)
opens_known c a b high h = record {
  weigh = λ w.
      let by : (es : List CellEvent) → total w (opens c es) ≡ total (λ x. total w (open_of c x)) (cut c es) =
      λ es. total-flat_map w (open_of c) es ∙ total_same _ _ es (λ e. open_known w c e high) ∙ sym (total-flat_map (λ x. total w (open_of c x)) (cut_one c) es) in
      by a ∙ h.weigh (λ x. total w (open_of c x)) ∙ sym (by b);
}

-- rows that are open began before, and those that start begin now
early_one : (t : ℕ) (e : CellEvent) → total (λ r. cond {A = ℕ} (is_early t r) 0 1) (open_of t e) ≡ 0
unfolding is_early
early_one t e = grind (arith, nat_tests)

pub opens_early : (t : ℕ) (a : List CellEvent) → failing (is_early t) (opens t a) ≡ 0
opens_early t a = total-flat_map (λ r. cond (is_early t r) 0 1) (open_of t) a ∙ total_same _ _ a (λ e. early_one t e) ∙ total_zero a

new_one : (t : ℕ) (e : CellEvent) → total (λ x. total (λ r. cond {A = ℕ} (is_new t r) 0 1) (started_of x)) (news_of t (suc t) e) ≡ 0
unfolding is_new
new_one t e = grind (arith, nat_tests)

pub starts_new : (t : ℕ) (a : List CellEvent) (now : List Edge) → SameBag now (news t (suc t) a) → failing (is_new t) (started_rows now) ≡ 0
starts_new t a now is =
    let v : Edge → ℕ = λ x. total (λ r. cond {A = ℕ} (is_new t r) 0 1) (started_of x) in
    total-flat_map (λ r. cond (is_new t r) 0 1) started_of now ∙ is.weigh v
    ∙ total-flat_map v (news_of t (suc t)) a ∙ total_same _ _ a (λ e. new_one t e) ∙ total_zero a

-- news of one instant among those of a stretch
within_one : (w : Edge → ℕ) (u v t : ℕ) (e : CellEvent) → u ≤ v → v < t → total w (news_of v (suc v) e) ≤ total w (news_of u t e)
within_one w u v t e low high = grind (arith, nat_tests)

pub news_within : (w : Edge → ℕ) (u v t : ℕ) (a : List CellEvent) → u ≤ v → v < t → total w (news v (suc v) a) ≤ total w (news u t a)
news_within w u v t a low high =
    let one = sum_le (λ e. true) (λ e. total w (news_of v (suc v) e)) (λ e. total w (news_of u t e)) a (λ e _. within_one w u v t e low high) (total_zero a) in
    let b = total-flat_map w (news_of v (suc v)) a in
    let c = total-flat_map w (news_of u t) a in
    omega (arith, one, b, c)
