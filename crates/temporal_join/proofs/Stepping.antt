-- A step of a join.
use Rattle.std.specs.Prelude.{◌≡◌, ℕ, ◌+◌, ◌≤◌, Bool, List, [], ◌++◌}
use Rattle.std.proofs.Common.{subst, sym, ap, ◌∙◌, arith}
use Rattle.tw_rows.specs.Bag.{SameBag, total}
use Rattle.tw_rows.specs.Event.{cut}
use Rattle.tw_rows.specs.Instant.{inf}
use Rattle.tw_rows.specs.declared.cells.Datum.{Datum}
use Rattle.tw_rows.specs.declared.edge.Edge.{Edge}
use Rattle.tw_rows.specs.declared.edge.HeldRow.{HeldRow}
use Rattle.tw_rows.proofs.Bags.{SameBag-trans}
use Rattle.edge_history.specs.Balance.{news}
use Rattle.edge_history.specs.History.{of}
use Rattle.edge_history.specs.Opens.{singles}
use Rattle.edge_history.specs.Order.{failing, is_real, is_below, is_from, IsHistory}
use Rattle.edge_history.proofs.Opening.{opens_known}
use Rattle.edge_history.proofs.Retaining.{events_of_are, same_below}
use Rattle.edge_history.proofs.Sums.{failing-parts}
use Rattle.key_nodes.specs.Joins.{joined}
use Rattle.plan_model.specs.Keys.{paired_row}
use Rattle.sweep_laws.specs.Joining.{JoinKeeps}
use Rattle.sweep_laws.specs.Pairs.{Held}
use Rattle.sweep_laws.specs.Sweeps.{SyncsRise, IsDue, Tells}
use Rattle.sweep_laws.proofs.Joins.{due_by_syncs}
use Rattle.temporal_join.specs.Joined.{join_meets}
use Rattle.temporal_join.specs.Kept.{AreByKey, SameKeys}
use Rattle.temporal_join.specs.declared.sweep.JoinRows.{JoinRows}

-- what is kept by equal keys
pub kept_by : (lk rk k r : List ℕ) (left right : List HeldRow) (lw rw : List Edge) (to : ℕ) (hl hr out : List Edge) → k ≡ lk → r ≡ rk →
    JoinKeeps (join_meets lk rk) (paired_row rk) left right lw rw to hl hr out → JoinKeeps (join_meets k r) (paired_row r) left right lw rw to hl hr out
kept_by lk rk k r left right lw rw to hl hr out e f h =
    subst (λ (l : List ℕ). JoinKeeps (join_meets l r) (paired_row r) left right lw rw to hl hr out) (sym e)
    (subst (λ (l : List ℕ). JoinKeeps (join_meets lk l) (paired_row l) left right lw rw to hl hr out) (sym f) h)

pub by_keys : (old new : JoinRows) → SameKeys old new → AreByKey old → AreByKey new
by_keys old new same by = record {
  left = same.left ∙ (by.left ∙ sym (ap (λ v. v.items) same.left_key));
  right = same.right ∙ (by.right ∙ sym (ap (λ v. v.items) same.right_key));
}

-- what a whole step tells is the news of the pairs
module _ (meets : List Datum → List Datum → Bool) (pair : List Datum → List Datum → List Datum)
    (to to2 : ℕ) (hl hr nl nr : List Edge) (pl pl1 pl2 dl pr pr1 pr2 dr : List Edge) (low : to ≤ to2) (high : to2 ≤ inf)
    (whole_l : IsHistory (hl ++ nl)) (whole_r : IsHistory (hr ++ nr)) (from_l : failing (is_from to) nl ≡ 0) (from_r : failing (is_from to) nr ≡ 0)
    (put_l : (w : Edge → ℕ) → total w pl1 ≡ total w pl + total w (singles nl)) (put_r : (w : Edge → ℕ) → total w pr1 ≡ total w pr + total w (singles nr))
    (parts_l : (w : Edge → ℕ) → total w dl + total w pl2 ≡ total w pl1) (parts_r : (w : Edge → ℕ) → total w dr + total w pr2 ≡ total w pr1)
    (below_l : failing (is_below to2) dl ≡ 0) (below_r : failing (is_below to2) dr ≡ 0) (rest_l : failing (is_from to2) pl2 ≡ 0) (rest_r : failing (is_from to2) pr2 ≡ 0)
    (up_l : SyncsRise 0 dl) (up_r : SyncsRise 0 dr) where
  cuts : (h n : List Edge) → IsHistory h → IsHistory (h ++ n) → failing (is_from to) n ≡ 0 → SameBag (cut to (of h)) (cut to (of (h ++ n)))
  cuts h n k w from = same_below to h n (of h) (of (h ++ n)) (omega (arith, low, high)) (failing-parts is_real h n w.real).1 from (events_of_are h k) (events_of_are (h ++ n) w)

  pub join_news : (left left2 right right2 : List HeldRow) (out answer0 answer : List Edge) → JoinKeeps meets pair left right pl pr to hl hr out → answer0 ≡ [] →
      (IsDue (of (hl ++ nl)) to to2 dl → IsDue (of (hr ++ nr)) to to2 dr → Held (of (hl ++ nl)) (of (hr ++ nr)) to left right →
      Held (of (hl ++ nl)) (of (hr ++ nr)) to2 left2 right2 × Tells (joined meets pair (of (hl ++ nl)) (of (hr ++ nr))) to to2 answer0 answer) →
      SameBag answer (news to to2 (joined meets pair (of (hl ++ nl)) (of (hr ++ nr))))
  join_news left left2 right right2 out answer0 answer k empty swept =
      let s = swept (due_by_syncs hl nl pl dl pl2 to to2 low high whole_l from_l k.left_waits (λ w. parts_l w ∙ put_l w) below_l rest_l up_l)
      (due_by_syncs hr nr pr dr pr2 to to2 low high whole_r from_r k.right_waits (λ w. parts_r w ∙ put_r w) below_r rest_r up_r)
      (record {
        left_rows = SameBag-trans _ _ _ k.now.left_rows (opens_known to _ _ (omega (arith, low, high)) (cuts hl nl k.left_history whole_l from_l));
        right_rows = SameBag-trans _ _ _ k.now.right_rows (opens_known to _ _ (omega (arith, low, high)) (cuts hr nr k.right_history whole_r from_r));
      }) in
      record { weigh = λ w. (let z = s.1.weigh w in let e = ap (total w) empty in omega (arith, z, e)) }
