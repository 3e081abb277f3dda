-- A sweep over few rows, from instant to instant.
use Rattle.std.specs.Prelude.{◌≡◌, ℕ, suc, ◌<◌, ◌≤◌, nat_eq, nat_lt, nat_le, Bool, true, false, cond, List, [], ◌∷◌, ◌++◌, length, take, drop, refl}
use Rattle.std.proofs.Common.{sym, ◌∙◌, ap, subst, arith, append_assoc}
use Rattle.std.proofs.lemmas.Bool.{eqb-true}
use Rattle.std.proofs.lemmas.Bool.Decides.{nat_tests}
use Rattle.std.proofs.lemmas.Grind.{flat_map-append}
use Rattle.tw_rows.specs.Bag.{SameBag, total}
use Rattle.tw_rows.specs.Event.{AreEvents}
use Rattle.tw_rows.specs.declared.cells.Datum.{Datum}
use Rattle.tw_rows.specs.declared.edge.Edge.{Edge}
use Rattle.tw_rows.specs.declared.edge.HeldRow.{HeldRow}
use Rattle.tw_rows.proofs.Bags.{total-append}
use Rattle.edge_history.specs.Balance.{news}
use Rattle.edge_history.specs.History.{CellEvent}
use Rattle.edge_history.specs.Order.{failing, is_from, is_below}
use Rattle.edge_history.specs.Opens.{singles, singles_of, started_of, started_rows}
use Rattle.edge_history.proofs.Sums.{weaker, failing-append}
use Rattle.key_nodes.specs.Joins.{joined}
use Rattle.plan_model.specs.Keys.{paired_row}
use Rattle.sweep_laws.specs.Joining.{JoinReached}
use Rattle.sweep_laws.specs.Pairs.{Held}
use Rattle.sweep_laws.specs.Sweeps.{is_at, SyncsRise, IsPast, HeadFrom, IsDue, Tells}
use Rattle.sweep_laws.proofs.JoinTelling.{held_between}
use Rattle.sweep_laws.proofs.Joins.{join_reach_start}
use Rattle.sweep_laws.proofs.Sides.{side_now, side_none, side_rest, tells_parts, tells_still, rise_weaker}
use Rattle.temporal_join.specs.Few.{SideFrom, SidePassed, InstantPassed, SideGone, Gone, Went, AreLivesByKey, SameLiveKeys}
use Rattle.temporal_join.specs.Joined.{join_meets}
use Rattle.temporal_join.specs.Lives.{life_rows}
use Rattle.temporal_join.specs.declared.few.JoinLives.{JoinLives}
use Rattle.temporal_join.specs.declared.lives.Life.{Life}
use Rattle.temporal_join.proofs.Partners.{same_tells}

take_front : (xs ys : List Edge) → take (length xs) (xs ++ ys) ≡ xs
take_front [] ys = refl
take_front (x ∷ xs) ys = ap (λ l. x ∷ l) (take_front xs ys)

drop_front : (xs ys : List Edge) → drop (length xs) (xs ++ ys) ≡ ys
drop_front [] ys = refl
drop_front (x ∷ xs) ys = drop_front xs ys

pub head_of : (t : ℕ) (es : List Edge) → failing (is_from t) es ≡ 0 → HeadFrom t es
head_of t [] h = tt
head_of t (e ∷ es) h = one (nat_le t e.sync) refl (omega (arith, h))
  where
    from : nat_le t e.sync ≡ true → t ≤ e.sync
    from k = grind (arith, nat_tests)

    one : (b : Bool) → nat_le t e.sync ≡ b → cond {A = ℕ} (nat_le t e.sync) 0 1 ≡ 0 → t ≤ e.sync
    one true k z = from k
    one false k z = absurd (let y = ap (λ c. cond {A = ℕ} c 0 1) k in omega (arith, y, z))

past_of : (t t2 : ℕ) (es : List Edge) → t < t2 → failing (is_from t2) es ≡ 0 → IsPast t es
past_of t t2 [] low h = tt
past_of t t2 (e ∷ es) low h = λ same. let k = head_of t2 (e ∷ es) h in absurd (omega (arith, low, k, same))

pub rise_join : (r t : ℕ) (xs ys : List Edge) → SyncsRise r xs → failing (is_below t) xs ≡ 0 → r ≤ t → SyncsRise t ys → SyncsRise r (xs ++ ys)
rise_join r t [] ys h below low up = rise_weaker r t ys low up
rise_join r t (x ∷ xs) ys h below low up = (h.0, rise_join x.sync t xs ys h.1 (omega (arith, below)) (one (nat_lt x.sync t) refl (omega (arith, below))) up)
  where
    lower : nat_lt x.sync t ≡ true → x.sync ≤ t
    lower k = grind (arith, nat_tests)

    one : (b : Bool) → nat_lt x.sync t ≡ b → cond {A = ℕ} (nat_lt x.sync t) 0 1 ≡ 0 → x.sync ≤ t
    one true k z = lower k
    one false k z = absurd (let y = ap (λ c. cond {A = ℕ} c 0 1) k in omega (arith, y, z))

at_rise : (t : ℕ) (es : List Edge) → failing (is_at t) es ≡ 0 → SyncsRise t es
at_rise t [] h = tt
at_rise t (e ∷ es) h =
    let same : e.sync ≡ t = one (nat_eq e.sync t) refl (omega (arith, h)) in
    (omega (arith, same), subst (λ s. SyncsRise s es) (sym same) (at_rise t es (omega (arith, h))))
  where
    one : (b : Bool) → nat_eq e.sync t ≡ b → cond {A = ℕ} (nat_eq e.sync t) 0 1 ≡ 0 → e.sync ≡ t
    one true k z = eqb-true e.sync t k
    one false k z = absurd (let y = ap (λ c. cond {A = ℕ} c 0 1) k in omega (arith, y, z))

at_from : (t : ℕ) (es : List Edge) → failing (is_at t) es ≡ 0 → failing (is_from t) es ≡ 0
at_from t es = weaker (is_at t) (is_from t) es (λ e h. one e.sync h)
  where
    one : (s : ℕ) → nat_eq s t ≡ true → nat_le t s ≡ true
    one s h = grind (arith, nat_tests)

at_below : (t t2 : ℕ) (es : List Edge) → t < t2 → failing (is_at t) es ≡ 0 → failing (is_below t2) es ≡ 0
at_below t t2 es low = weaker (is_at t) (is_below t2) es (λ e h. one e.sync h)
  where
    one : (s : ℕ) → nat_eq s t ≡ true → nat_lt s t2 ≡ true
    one s h = grind (arith, nat_tests)

below_later : (t t2 : ℕ) (es : List Edge) → t ≤ t2 → failing (is_below t) es ≡ 0 → failing (is_below t2) es ≡ 0
below_later t t2 es low = weaker (is_below t) (is_below t2) es (λ e h. one e.sync h)
  where
    one : (s : ℕ) → nat_lt s t ≡ true → nat_lt s t2 ≡ true
    one s h = grind (arith, nat_tests)

pub from_earlier : (t t2 : ℕ) (es : List Edge) → t ≤ t2 → failing (is_from t2) es ≡ 0 → failing (is_from t) es ≡ 0
from_earlier t t2 es low = weaker (is_from t2) (is_from t) es (λ e h. one e.sync h)
  where
    one : (s : ℕ) → nat_le t2 s ≡ true → nat_le t s ≡ true
    one s h = grind (arith, nat_tests)

-- ONE SIDE
side_start : (t to : ℕ) (lives : List Life) (es : List Edge) → SideFrom t lives es → SideGone to t lives lives es es []
side_start t to lives es h = record { parts = λ w. omega arith; early = refl; below = refl; order = tt; rows = λ w. omega arith; later = h }

side_more : (to t t2 : ℕ) (l0 l1 l2 : List Life) (el es es2 nl due now : List Edge) → t < to → t < t2 → nl ++ es2 ≡ es → SideFrom t2 l2 es2 → SideGone to t l0 l1 el es due → SidePassed t l1 l2 nl now →
    SideGone to t2 l0 l2 el es2 (due ++ now)
side_more to t t2 l0 l1 l2 el es es2 nl due now low past cut later g p = record {
  parts = λ w.
      let a = total-append w due now in
      let b = ap (λ l. total w (singles l)) (sym cut) ∙ (ap (total w) (flat_map-append singles_of nl es2) ∙ total-append w (singles nl) (singles es2)) in
      let c = g.parts w in
      let d = p.parts w in
      omega (arith, a, b, c, d);
  early = failing-append (is_below t2) due now (below_later t t2 due (omega (arith, past)) g.early) (at_below t t2 now past p.at);
  below = failing-append (is_below to) due now g.below (at_below t to now low p.at);
  order = rise_join 0 t due now g.order g.early (omega arith) (at_rise t now p.at);
  rows = λ w.
      let a = ap (total w) (flat_map-append started_of due now) ∙ total-append w (started_rows due) (started_rows now) in
      let b = g.rows w in
      let c = p.rows w in
      omega (arith, a, b, c);
  later = later;
}

-- BOTH SIDES
reach_step : (meets : List Datum → List Datum → Bool) (pair : List Datum → List Datum → List Datum) (a b : List CellEvent) (from u t to : ℕ) (nl lr nr rr : List Edge) (left right left2 right2 : List HeldRow) (answer0 answer1 answer2 : List Edge) →
    JoinReached meets pair a b from u to (nl ++ lr) (nr ++ rr) left right answer0 answer1 → u ≤ t → t < to →
    failing (is_at t) nl ≡ 0 → failing (is_at t) nr ≡ 0 → HeadFrom t (nl ++ lr) → HeadFrom t (nr ++ rr) → IsPast t lr → IsPast t rr →
    (AreEvents a → AreEvents b → SameBag nl (news t (suc t) a) → SameBag nr (news t (suc t) b) → Held a b t left right →
    Held a b (suc t) left2 right2 × Tells (joined meets pair a b) t (suc t) answer1 answer2) →
    JoinReached meets pair a b from (suc t) to lr rr left2 right2 answer0 answer2
reach_step meets pair a b from u t to nl lr nr rr left right left2 right2 answer0 answer1 answer2 r low high at_l at_r head_l head_r past_l past_r step =
    let n = length nl in
    let m = length nr in
    let tl = take_front nl lr in
    let tr = take_front nr rr in
    let dl = drop_front nl lr in
    let dr = drop_front nr rr in
    let il : failing (is_at t) (take n (nl ++ lr)) ≡ 0 = ap (failing (is_at t)) tl ∙ at_l in
    let ir : failing (is_at t) (take m (nr ++ rr)) ≡ 0 = ap (failing (is_at t)) tr ∙ at_r in
    let pl : IsPast t (drop n (nl ++ lr)) = subst (IsPast t) (sym dl) past_l in
    let pr : IsPast t (drop m (nr ++ rr)) = subst (IsPast t) (sym dr) past_r in
    let l = r.low in
    let w = held_between meets pair a b u t left right r.left_due.lives r.right_due.lives low
    (side_none a u t to n (nl ++ lr) r.left_due low high head_l il pl) (side_none b u t to m (nr ++ rr) r.right_due low high head_r ir pr) r.now in
    let s = step r.left_due.lives r.right_due.lives
    (subst (λ k. SameBag k (news t (suc t) a)) tl (side_now a u t to n (nl ++ lr) r.left_due low high head_l il pl))
    (subst (λ k. SameBag k (news t (suc t) b)) tr (side_now b u t to m (nr ++ rr) r.right_due low high head_r ir pr)) w.0 in
    record {
      low = omega (arith, l, low);
      left_due = subst (IsDue a (suc t) to) dl (side_rest a u t to n (nl ++ lr) r.left_due low high head_l il pl);
      right_due = subst (IsDue b (suc t) to) dr (side_rest b u t to m (nr ++ rr) r.right_due low high head_r ir pr);
      now = s.0;
      told = tells_parts (joined meets pair a b) from t (suc t) answer0 answer1 answer2 (omega (arith, l, low)) (omega arith)
          (tells_parts (joined meets pair a b) from u t answer0 answer1 answer1 l low r.told (tells_still (joined meets pair a b) u t answer1 low w.1)) s.1;
    }

pub gone_start : (s : JoinLives) (from to t : ℕ) (el er a : List Edge) → from ≤ t → SideFrom t s.left.lives el → SideFrom t s.right.lives er → Gone s s from to t el el er er a a
gone_start s from to t el er a low fl fr = record {
  left_due = [];
  right_due = [];
  left = side_start t to s.left.lives el fl;
  right = side_start t to s.right.lives er fr;
  swept = λ x y lr rr by dl dr fl fr h. (from, low, join_reach_start (join_meets s.left_key.items s.right_key.items) (paired_row s.right_key.items) x y from to lr rr (life_rows s.left.lives) (life_rows s.right.lives) a dl dr h);
}

pub gone_more : (old now new : JoinLives) (from to t t2 : ℕ) (el es es2 er fs fs2 nl nr a0 a1 a2 : List Edge) → SameLiveKeys old now → t < to → t < t2 → nl ++ es2 ≡ es → nr ++ fs2 ≡ fs →
    SideFrom t2 new.left.lives es2 → SideFrom t2 new.right.lives fs2 → Gone old now from to t el es er fs a0 a1 → InstantPassed now new t nl nr a1 a2 → Gone old new from to t2 el es2 er fs2 a0 a2
gone_more old now new from to t t2 el es es2 er fs fs2 nl nr a0 a1 a2 keys low past cut_l cut_r later_l later_r g p =
    let left_same : now.left_key.items ≡ old.left_key.items = ap (λ v. v.items) keys.left_key in
    let right_same : now.right_key.items ≡ old.right_key.items = ap (λ v. v.items) keys.right_key in
    record {
      left_due = g.left_due ++ p.left_now;
      right_due = g.right_due ++ p.right_now;
      left = side_more to t t2 old.left.lives now.left.lives new.left.lives el es es2 nl g.left_due p.left_now low past cut_l later_l g.left p.left;
      right = side_more to t t2 old.right.lives now.right.lives new.right.lives er fs fs2 nr g.right_due p.right_now low past cut_r later_r g.right p.right;
      swept = λ a b lr rr by dl dr fl fr h.
          let by2 : AreLivesByKey now = record { left = keys.left ∙ (by.left ∙ sym left_same); right = keys.right ∙ (by.right ∙ sym right_same) } in
          let nl2 = p.left_now ++ lr in
          let nr2 = p.right_now ++ rr in
          let l2 = failing-append (is_from t) p.left_now lr (at_from t p.left_now p.left.at) (from_earlier t t2 lr (omega (arith, past)) fl) in
          let r2 = failing-append (is_from t) p.right_now rr (at_from t p.right_now p.right.at) (from_earlier t t2 rr (omega (arith, past)) fr) in
          let s = g.swept a b nl2 nr2 by (subst (IsDue a from to) (append_assoc g.left_due p.left_now lr) dl) (subst (IsDue b from to) (append_assoc g.right_due p.right_now rr) dr) l2 r2 h in (
            suc t,
            omega (arith, past),
            reach_step (join_meets old.left_key.items old.right_key.items) (paired_row old.right_key.items) a b from s.0 t to p.left_now lr p.right_now rr
                (life_rows now.left.lives) (life_rows now.right.lives) (life_rows new.left.lives) (life_rows new.right.lives) a0 a1 a2 s.2 s.1 low p.left.at p.right.at
                (head_of t nl2 l2) (head_of t nr2 r2) (past_of t t2 lr past fl) (past_of t t2 rr past fr)
                (λ va vb il ir held.
                let z = p.swept a b by2 va vb il ir held in
                (z.0, same_tells old.left_key.items old.right_key.items now.left_key.items now.right_key.items a b t (suc t) a1 a2 left_same right_same z.1)),
          );
    }

-- the edges that were taken out stand before those that are left
pub went_same : (old new : JoinLives) (from to t : ℕ) (whole : Bool) (el es es2 er fs fs2 a0 a1 : List Edge) → es2 ≡ es → fs2 ≡ fs → (whole ≡ true → to ≤ t) → Gone old new from to t el es er fs a0 a1 →
    Went old new from to whole el es2 er fs2 a0 a1
went_same old new from to t whole el es es2 er fs fs2 a0 a1 e f far g = record {
  until = t;
  gone = subst (λ l. Gone old new from to t el l er fs2 a0 a1) (sym e) (subst (λ l. Gone old new from to t el es er l a0 a1) (sym f) g);
  far = far;
}
