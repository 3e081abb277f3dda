-- One instant, from the passes over its edges.
use Rattle.std.specs.Prelude.{◌≡◌, ℕ, suc, ◌+◌, ◌<◌, ◌≤◌, not, ◌&&◌, cond, List, flat_map}
use Rattle.std.proofs.Common.{sym, ◌∙◌, ap, subst}
use Rattle.tw_rows.specs.Instant.{inf}
use Rattle.tw_rows.specs.Bag.{SameBag, total}
use Rattle.tw_rows.specs.Event.{AreEvents}
use Rattle.tw_rows.specs.declared.cells.Datum.{Datum}
use Rattle.tw_rows.specs.declared.edge.Edge.{Edge}
use Rattle.tw_rows.specs.declared.edge.HeldRow.{HeldRow}
use Rattle.edge_history.specs.Order.{many}
use Rattle.edge_history.specs.History.{CellEvent}
use Rattle.edge_history.specs.Balance.{news}
use Rattle.edge_history.specs.Opens.{ended_rows, started_rows}
use Rattle.synopsis.specs.Held.{KeyedRows, key_of, is_of_key}
use Rattle.sweep_laws.specs.Moves.{Adds}
use Rattle.sweep_laws.specs.Sweeps.{Tells}
use Rattle.sweep_laws.specs.Antijoining.{end_of, flip_end, flip_start, begin_of}
use Rattle.anti_join.specs.declared.sweep.AntiRows.{AntiRows}
use Rattle.anti_join.specs.AntiJoined.{antis}
use Rattle.anti_join.specs.Free.{KeyTimes, is_free_key, free_since, status_of}
use Rattle.anti_join.specs.Holding.{AntiHeld}
use Rattle.anti_join.specs.Rows.{SameKeys, SetsTimes, ForgetsTimes, left_key_of, status, free, ends_told, starts_told, lefts_of, times_of}
use Rattle.anti_join.proofs.Instants.{held_then, told_then}

ends_at : (t : ℕ) (lk k : List ℕ) (right old : KeyedRows) (times times2 : KeyTimes) (right2 left : List HeldRow) (a0 a1 : List Edge) → k ≡ lk → old ≡ right → times2 ≡ times →
    Adds a0 a1 (flat_map (λ r. flip_end (is_free_key old.key right2 (key_of k r.cells)) (status_of k old.key old.rows times2.rows (key_of k r.cells)) t r) left) →
    Adds a0 a1 (flat_map (λ r. flip_end (is_free_key right.key right2 (key_of lk r.cells)) (status_of lk right.key right.rows times.rows (key_of lk r.cells)) t r) left)
ends_at t lk k right old times times2 right2 left a0 a1 e f g h =
    subst (λ (x : List ℕ). Adds a0 a1 (flat_map (λ r. flip_end (is_free_key right.key right2 (key_of x r.cells)) (status_of x right.key right.rows times.rows (key_of x r.cells)) t r) left)) e
    (subst (λ (x : KeyedRows). Adds a0 a1 (flat_map (λ r. flip_end (is_free_key x.key right2 (key_of k r.cells)) (status_of k x.key x.rows times.rows (key_of k r.cells)) t r) left)) f
    (subst (λ (x : KeyTimes). Adds a0 a1 (flat_map (λ r. flip_end (is_free_key old.key right2 (key_of k r.cells)) (status_of k old.key old.rows x.rows (key_of k r.cells)) t r) left)) g h))

starts_at : (t : ℕ) (lk k rk j : List ℕ) (times times2 : KeyTimes) (right right2 left old : List HeldRow) (a0 a1 : List Edge) → k ≡ lk → j ≡ rk → times2 ≡ times → old ≡ left →
    Adds a0 a1 (flat_map (λ r. flip_start (is_free_key j right2 (key_of k r.cells)) (status_of k j right times2.rows (key_of k r.cells)) t r) old) →
    Adds a0 a1 (flat_map (λ r. flip_start (is_free_key rk right2 (key_of lk r.cells)) (status_of lk rk right times.rows (key_of lk r.cells)) t r) left)
starts_at t lk k rk j times times2 right right2 left old a0 a1 e f g l h =
    subst (λ (x : List ℕ). Adds a0 a1 (flat_map (λ r. flip_start (is_free_key rk right2 (key_of x r.cells)) (status_of x rk right times.rows (key_of x r.cells)) t r) left)) e
    (subst (λ (x : List ℕ). Adds a0 a1 (flat_map (λ r. flip_start (is_free_key x right2 (key_of k r.cells)) (status_of k x right times.rows (key_of k r.cells)) t r) left)) f
    (subst (λ (x : KeyTimes). Adds a0 a1 (flat_map (λ r. flip_start (is_free_key j right2 (key_of k r.cells)) (status_of k j right x.rows (key_of k r.cells)) t r) left)) g
    (subst (λ (x : List HeldRow). Adds a0 a1 (flat_map (λ r. flip_start (is_free_key j right2 (key_of k r.cells)) (status_of k j right times2.rows (key_of k r.cells)) t r) x)) l h)))

begins_at : (t : ℕ) (lk k rk j : List ℕ) (right now : List HeldRow) (a0 a1 : List Edge) → k ≡ lk → j ≡ rk →
    Adds a0 a1 (flat_map (λ r. begin_of (is_free_key j right (key_of k r.cells)) t r) now) → Adds a0 a1 (flat_map (λ r. begin_of (is_free_key rk right (key_of lk r.cells)) t r) now)
begins_at t lk k rk j right now a0 a1 e f h =
    subst (λ (x : List ℕ). Adds a0 a1 (flat_map (λ r. begin_of (is_free_key rk right (key_of x r.cells)) t r) now)) e
    (subst (λ (x : List ℕ). Adds a0 a1 (flat_map (λ r. begin_of (is_free_key x right (key_of k r.cells)) t r) now)) f h)

module _ (s0 s1 s2 s3 s4 s5 : AntiRows) (t : ℕ) (now_left now_right : List Edge) (a0 a1 a2 a3 a4 : List Edge) (k1 : SameKeys s0 s1) (k2 : SameKeys s0 s2) (k3 : SameKeys s0 s3) (k4 : SameKeys s0 s4)
    (right1 : s1.right ≡ s0.right) (times1 : s1.times ≡ s0.times) (left2 : s2.left ≡ s1.left) (times2 : s2.times ≡ s1.times) (left3 : s3.left ≡ s2.left)
    (right4 : s4.right ≡ s3.right) (times4 : s4.times ≡ s3.times) (left5 : s5.left ≡ s4.left) (right5 : s5.right ≡ s4.right)
    (ended1 : ((w : HeldRow → ℕ) → total w (ended_rows now_left) ≤ total w s0.left.rows) → (w : HeldRow → ℕ) → total w s0.left.rows ≡ total w s1.left.rows + total w (ended_rows now_left))
    (told1 : ((w : HeldRow → ℕ) → total w (ended_rows now_left) ≤ total w s0.left.rows) → Adds a0 a1 (flat_map (λ r. end_of (status s0 (left_key_of s0 r)) t r) (ended_rows now_left)))
    (started2 : (w : HeldRow → ℕ) → total w s2.right.rows ≡ total w s1.right.rows + total w (started_rows now_right))
    (told2 : Adds a1 a2 (flat_map (ends_told t s1 s2) s1.left.rows))
    (ended3 : ((w : HeldRow → ℕ) → total w (ended_rows now_right) ≤ total w s2.right.rows) → (w : HeldRow → ℕ) → total w s2.right.rows ≡ total w s3.right.rows + total w (ended_rows now_right))
    (told3 : Adds a2 a3 (flat_map (starts_told t s2 s3) s2.left.rows))
    (sets3 : SetsTimes t s2 s3)
    (started4 : (w : HeldRow → ℕ) → total w s4.left.rows ≡ total w s3.left.rows + total w (started_rows now_left))
    (told4 : Adds a3 a4 (flat_map (λ r. begin_of (free s3 (left_key_of s3 r)) t r) (started_rows now_left)))
    (forgets5 : ForgetsTimes s4 s5)
    (gone5 : (k : List Datum) → lefts_of s4 k ≡ 0 → 1 ≤ many (is_of_key s4.left.key k) (ended_rows now_left) → times_of s4 s5 k ≡ 0) where
  since : (k : List Datum) → 1 ≤ many (is_of_key s0.left.key k) s1.left.rows →
      free_since s0.left.key s3.times.rows k ≡ cond (not (is_free_key s0.right.key s2.right.rows k) && is_free_key s0.right.key s3.right.rows k) t (free_since s0.left.key s0.times.rows k)
  since k some =
      subst (λ (x : List HeldRow). free_since s0.left.key s3.times.rows k ≡ cond (not (is_free_key s0.right.key s2.right.rows k) && is_free_key s0.right.key s3.right.rows k) t (free_since s0.left.key x k))
      (ap (λ (y : KeyTimes). y.rows) (times2 ∙ times1))
      (subst (λ (x : List ℕ). free_since x s3.times.rows k ≡ cond (not (is_free_key s0.right.key s2.right.rows k) && is_free_key s0.right.key s3.right.rows k) t (free_since x s2.times.rows k)) k2.left
      (subst (λ (x : List ℕ). free_since s2.left.key s3.times.rows k ≡ cond (not (is_free_key x s2.right.rows k) && is_free_key x s3.right.rows k) t (free_since s2.left.key s2.times.rows k)) k2.right
      (sets3.since k (subst (λ (x : List ℕ). 1 ≤ many (is_of_key x k) s2.left.rows) (sym k2.left) (subst (λ (x : KeyedRows). 1 ≤ many (is_of_key s0.left.key k) x.rows) (sym left2) some)))))

  early : (k : List Datum) → free_since s0.left.key s0.times.rows k ≤ t → free_since s0.left.key s3.times.rows k ≤ t
  early k =
      subst (λ (x : List HeldRow). free_since s0.left.key x k ≤ t → free_since s0.left.key s3.times.rows k ≤ t) (ap (λ (y : KeyTimes). y.rows) (times2 ∙ times1))
      (subst (λ (x : List ℕ). free_since x s2.times.rows k ≤ t → free_since x s3.times.rows k ≤ t) k2.left (sets3.early k))

  few : (k : List Datum) → many (is_of_key s0.left.key k) s1.left.rows ≡ 0 → many (is_of_key s0.left.key k) s3.times.rows ≤ many (is_of_key s0.left.key k) s0.times.rows
  few k none =
      subst (λ (x : List HeldRow). many (is_of_key s0.left.key k) s3.times.rows ≤ many (is_of_key s0.left.key k) x) (ap (λ (y : KeyTimes). y.rows) (times2 ∙ times1))
      (subst (λ (x : List ℕ). many (is_of_key x k) s3.times.rows ≤ many (is_of_key x k) s2.times.rows) k2.left
      (sets3.few k (subst (λ (x : List ℕ). many (is_of_key x k) s2.left.rows ≡ 0) (sym k2.left) (subst (λ (x : KeyedRows). many (is_of_key s0.left.key k) x.rows ≡ 0) (sym left2) none))))

  same : (k : List Datum) → 1 ≤ many (is_of_key s0.left.key k) s4.left.rows → free_since s0.left.key s5.times.rows k ≡ free_since s0.left.key s3.times.rows k
  same k some =
      subst (λ (x : List ℕ). free_since x s5.times.rows k ≡ free_since x s4.times.rows k) k4.left (forgets5.same k (subst (λ (x : List ℕ). 1 ≤ many (is_of_key x k) s4.left.rows) (sym k4.left) some))
      ∙ ap (λ (y : KeyTimes). free_since s0.left.key y.rows k) times4

  less : (k : List Datum) → free_since s0.left.key s5.times.rows k ≤ free_since s0.left.key s3.times.rows k
  less k =
      subst (λ (x : KeyTimes). free_since s0.left.key s5.times.rows k ≤ free_since s0.left.key x.rows k) times4
      (subst (λ (x : List ℕ). free_since x s5.times.rows k ≤ free_since x s4.times.rows k) k4.left (forgets5.less k))

  fewer : (k : List Datum) → many (is_of_key s0.left.key k) s5.times.rows ≤ many (is_of_key s0.left.key k) s3.times.rows
  fewer k =
      subst (λ (x : KeyTimes). many (is_of_key s0.left.key k) s5.times.rows ≤ many (is_of_key s0.left.key k) x.rows) times4
      (subst (λ (x : List ℕ). many (is_of_key x k) s5.times.rows ≤ many (is_of_key x k) s4.times.rows) k4.left (forgets5.fewer k))

  gone : (k : List Datum) → many (is_of_key s0.left.key k) s4.left.rows ≡ 0 → 1 ≤ many (is_of_key s0.left.key k) (ended_rows now_left) → many (is_of_key s0.left.key k) s5.times.rows ≡ 0
  gone k =
      subst (λ (x : List ℕ). many (is_of_key x k) s4.left.rows ≡ 0 → 1 ≤ many (is_of_key x k) (ended_rows now_left) → many (is_of_key x k) s5.times.rows ≡ 0) k4.left (gone5 k)

  starts2 : (w : HeldRow → ℕ) → total w s2.right.rows ≡ total w s0.right.rows + total w (started_rows now_right)
  starts2 w = started2 w ∙ ap (λ (x : KeyedRows). total w x.rows + total w (started_rows now_right)) right1

  starts4 : (w : HeldRow → ℕ) → total w s4.left.rows ≡ total w s1.left.rows + total w (started_rows now_left)
  starts4 w = started4 w ∙ ap (λ (x : KeyedRows). total w x.rows + total w (started_rows now_left)) (left3 ∙ left2)

  law2 : Adds a1 a2 (flat_map (λ r. flip_end (is_free_key s0.right.key s2.right.rows (key_of s0.left.key r.cells)) (status_of s0.left.key s0.right.key s0.right.rows s0.times.rows (key_of s0.left.key r.cells)) t r) s1.left.rows)
  law2 = ends_at t s0.left.key s1.left.key s0.right s1.right s0.times s1.times s2.right.rows s1.left.rows a1 a2 k1.left right1 times1 told2

  law3 : Adds a2 a3 (flat_map (λ r. flip_start (is_free_key s0.right.key s3.right.rows (key_of s0.left.key r.cells)) (status_of s0.left.key s0.right.key s2.right.rows s0.times.rows (key_of s0.left.key r.cells)) t r) s1.left.rows)
  law3 = starts_at t s0.left.key s2.left.key s0.right.key s2.right.key s0.times s2.times s2.right.rows s3.right.rows s1.left.rows s2.left.rows a2 a3 k2.left k2.right (times2 ∙ times1) (ap (λ (x : KeyedRows). x.rows) left2) told3

  law4 : Adds a3 a4 (flat_map (λ r. begin_of (is_free_key s0.right.key s3.right.rows (key_of s0.left.key r.cells)) t r) (started_rows now_left))
  law4 = begins_at t s0.left.key s3.left.key s0.right.key s3.right.key s3.right.rows (started_rows now_left) a3 a4 k3.left k3.right told4

  pub whole_pass : (a b : List CellEvent) → t < inf → AreEvents a → AreEvents b → SameBag now_left (news t (suc t) a) → SameBag now_right (news t (suc t) b) →
      AntiHeld s0.left.key s0.right.key a b t s0.left.rows s0.right.rows s0.times.rows →
      AntiHeld s0.left.key s0.right.key a b (suc t) s5.left.rows s5.right.rows s5.times.rows × Tells (antis s0.left.key s0.right.key a b) t (suc t) a0 a4
  whole_pass a b low la lb il ir h = (
    subst (λ (x : KeyedRows). AntiHeld s0.left.key s0.right.key a b (suc t) x.rows s5.right.rows s5.times.rows) (sym left5)
        (subst (λ (x : KeyedRows). AntiHeld s0.left.key s0.right.key a b (suc t) s4.left.rows x.rows s5.times.rows) (sym (right5 ∙ right4))
        (held_then s0.left.key s0.right.key a b t now_left now_right s0.left.rows s1.left.rows s4.left.rows s0.right.rows s2.right.rows s3.right.rows s0.times.rows s3.times.rows s5.times.rows a0 a1 a2 a3 a4
        low la lb il ir h ended1 told1 starts2 law2 ended3 law3 since early few starts4 law4 same less fewer gone)),
    told_then s0.left.key s0.right.key a b t now_left now_right s0.left.rows s1.left.rows s4.left.rows s0.right.rows s2.right.rows s3.right.rows s0.times.rows s3.times.rows s5.times.rows a0 a1 a2 a3 a4
        low la lb il ir h ended1 told1 starts2 law2 ended3 law3 since early few starts4 law4 same less fewer gone,
  )
