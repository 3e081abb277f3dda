-- An instant of few rows on both sides.
use Rattle.std.specs.Prelude.{◌≡◌, ℕ, suc, ◌+◌, ◌<◌, Bool, true, false, List, map}
use Rattle.std.proofs.Common.{sym, ◌∙◌, ap, subst, arith}
use Rattle.tw_rows.specs.Bag.{SameBag, total}
use Rattle.tw_rows.specs.Event.{AreEvents}
use Rattle.tw_rows.specs.Instant.{inf}
use Rattle.tw_rows.specs.declared.edge.Edge.{Edge}
use Rattle.tw_rows.specs.declared.edge.HeldRow.{HeldRow}
use Rattle.tw_rows.proofs.Bags.{total-map}
use Rattle.edge_history.specs.Balance.{news}
use Rattle.edge_history.specs.History.{CellEvent}
use Rattle.edge_history.specs.Opens.{ended_rows, started_rows}
use Rattle.edge_history.specs.Order.{failing}
use Rattle.plan_model.specs.Keys.{paired_row}
use Rattle.sweep_laws.specs.Moves.{Adds}
use Rattle.sweep_laws.specs.Pairs.{Held, pairs_told}
use Rattle.sweep_laws.specs.Sweeps.{Tells}
use Rattle.sweep_laws.proofs.JoinTelling.{held_then, told_then}
use Rattle.temporal_join.specs.Joined.{join_meets, joins}
use Rattle.temporal_join.specs.Lives.{LivesView, is_begun, lasts, ends_at, row_of, life_rows}
use Rattle.temporal_join.specs.declared.lives.Life.{Life}
use Rattle.temporal_join.proofs.LivePassing.{side_now, ended_are, started_are}
use Rattle.temporal_join.proofs.Partners.{same_told}

with_rows : (lk rk k r : List ℕ) (side starts : Bool) (t : ℕ) (xs xs2 ys : List HeldRow) (a0 a1 : List Edge) → k ≡ lk → r ≡ rk → xs2 ≡ xs →
    Adds a0 a1 (pairs_told (join_meets k r) (paired_row r) side starts t xs ys) → Adds a0 a1 (pairs_told (join_meets lk rk) (paired_row rk) side starts t xs2 ys)
with_rows lk rk k r side starts t xs xs2 ys a0 a1 e f same h =
    same_told lk rk k r side starts t xs2 ys a0 a1 e f (subst (λ l. Adds a0 a1 (pairs_told (join_meets k r) (paired_row r) side starts t l ys)) (sym same) h)

rows_weigh : (rows : List HeldRow) (lives lives2 more : List Life) → rows ≡ map row_of more → ((v : Life → ℕ) → total v lives ≡ total v lives2 + total v more) →
    (w : HeldRow → ℕ) → total w (life_rows lives) ≡ total w (life_rows lives2) + total w rows
rows_weigh rows lives lives2 more are parts w =
    let a = total-map w row_of lives in
    let b = total-map w row_of lives2 in
    let d = ap (total w) are ∙ total-map w row_of more in
    let o = parts (λ l. w (row_of l)) in
    omega (arith, a, b, d, o)

module _ (lk rk plk prk qlk qrk : List ℕ) (e1 : plk ≡ lk) (e2 : prk ≡ rk) (e3 : qlk ≡ lk) (e4 : qrk ≡ rk) (t : ℕ) (low : t < inf) (nl nr : List Edge) (begun_nl : failing (is_begun t) nl ≡ 0) (begun_nr : failing (is_begun t) nr ≡ 0)
    (l0 l1 l2 r0 r1 r2 : LivesView) (a0 a1 a2 a3 a4 : List Edge) (le lb re rb : List Life)
    (at_l : failing (ends_at t) le ≡ 0) (lasting_l : failing lasts le ≡ 0) (out_l : (v : Life → ℕ) → total v l0.lives ≡ total v l1.lives + total v le)
    (at_r : failing (ends_at t) re ≡ 0) (lasting_r : failing lasts re ≡ 0) (out_r : (v : Life → ℕ) → total v r0.lives ≡ total v r1.lives + total v re)
    (are_l : map (λ l. l.edge) lb ≡ nl) (put_l : (v : Life → ℕ) → total v l2.lives ≡ total v l1.lives + total v lb)
    (are_r : map (λ l. l.edge) rb ≡ nr) (put_r : (v : Life → ℕ) → total v r2.lives ≡ total v r1.lives + total v rb)
    (told_1 : l0.columns ≡ plk → r0.columns ≡ prk → Adds a0 a1 (pairs_told (join_meets plk prk) (paired_row prk) false false t (map row_of le) (life_rows r0.lives)))
    (told_2 : r0.columns ≡ qrk → l1.columns ≡ qlk → Adds a1 a2 (pairs_told (join_meets qlk qrk) (paired_row qrk) true false t (map row_of re) (life_rows l1.lives)))
    (told_3 : l1.columns ≡ plk → r1.columns ≡ prk → Adds a2 a3 (pairs_told (join_meets plk prk) (paired_row prk) false true t (map row_of lb) (life_rows r1.lives)))
    (told_4 : r1.columns ≡ qrk → l2.columns ≡ qlk → Adds a3 a4 (pairs_told (join_meets qlk qrk) (paired_row qrk) true true t (map row_of rb) (life_rows l2.lives)))
    (same_l1 : l1.columns ≡ l0.columns) (same_r1 : r1.columns ≡ r0.columns) (same_l2 : l2.columns ≡ l1.columns) (by_l : l0.columns ≡ lk) (by_r : r0.columns ≡ rk)
    (a b : List CellEvent) (lives_a : AreEvents a) (lives_b : AreEvents b) where
  abbrev now_l : List Edge
  now_l = side_now t low nl begun_nl l0.lives l1.lives l2.lives le lb at_l lasting_l out_l are_l put_l

  abbrev now_r : List Edge
  now_r = side_now t low nr begun_nr r0.lives r1.lives r2.lives re rb at_r lasting_r out_r are_r put_r

  el : ended_rows now_l ≡ map row_of le
  el = ended_are t low nl begun_nl l0.lives l1.lives l2.lives le lb at_l lasting_l out_l are_l put_l

  sl : started_rows now_l ≡ map row_of lb
  sl = started_are t low nl begun_nl l0.lives l1.lives l2.lives le lb at_l lasting_l out_l are_l put_l

  er : ended_rows now_r ≡ map row_of re
  er = ended_are t low nr begun_nr r0.lives r1.lives r2.lives re rb at_r lasting_r out_r are_r put_r

  sr : started_rows now_r ≡ map row_of rb
  sr = started_are t low nr begun_nr r0.lives r1.lives r2.lives re rb at_r lasting_r out_r are_r put_r

  d1 : Adds a0 a1 (pairs_told (join_meets lk rk) (paired_row rk) false false t (ended_rows now_l) (life_rows r0.lives))
  d1 = with_rows lk rk plk prk false false t (map row_of le) (ended_rows now_l) (life_rows r0.lives) a0 a1 e1 e2 el (told_1 (by_l ∙ sym e1) (by_r ∙ sym e2))

  d2 : Adds a1 a2 (pairs_told (join_meets lk rk) (paired_row rk) true false t (ended_rows now_r) (life_rows l1.lives))
  d2 = with_rows lk rk qlk qrk true false t (map row_of re) (ended_rows now_r) (life_rows l1.lives) a1 a2 e3 e4 er (told_2 (by_r ∙ sym e4) (same_l1 ∙ (by_l ∙ sym e3)))

  d3 : Adds a2 a3 (pairs_told (join_meets lk rk) (paired_row rk) false true t (started_rows now_l) (life_rows r1.lives))
  d3 = with_rows lk rk plk prk false true t (map row_of lb) (started_rows now_l) (life_rows r1.lives) a2 a3 e1 e2 sl (told_3 (same_l1 ∙ (by_l ∙ sym e1)) (same_r1 ∙ (by_r ∙ sym e2)))

  d4 : Adds a3 a4 (pairs_told (join_meets lk rk) (paired_row rk) true true t (started_rows now_r) (life_rows l2.lives))
  d4 = with_rows lk rk qlk qrk true true t (map row_of rb) (started_rows now_r) (life_rows l2.lives) a3 a4 e3 e4 sr (told_4 (same_r1 ∙ (by_r ∙ sym e4)) (same_l2 ∙ (same_l1 ∙ (by_l ∙ sym e3))))

  pub lives_swept : SameBag now_l (news t (suc t) a) → SameBag now_r (news t (suc t) b) → Held a b t (life_rows l0.lives) (life_rows r0.lives) →
      Held a b (suc t) (life_rows l2.lives) (life_rows r2.lives) × Tells (joins lk rk a b) t (suc t) a0 a4
  lives_swept il ir h = (
    held_then (join_meets lk rk) (paired_row rk) a b t now_l now_r (life_rows l0.lives) (life_rows l1.lives) (life_rows l2.lives) (life_rows r0.lives) (life_rows r1.lives) (life_rows r2.lives) a0 a1 a2 a3 a4
        low lives_a lives_b il ir h (λ fit. rows_weigh (ended_rows now_l) l0.lives l1.lives le el out_l) (λ fit. d1) (λ fit. rows_weigh (ended_rows now_r) r0.lives r1.lives re er out_r) (λ fit. d2)
        (rows_weigh (started_rows now_l) l2.lives l1.lives lb sl put_l) d3 (rows_weigh (started_rows now_r) r2.lives r1.lives rb sr put_r) d4,
    told_then (join_meets lk rk) (paired_row rk) a b t now_l now_r (life_rows l0.lives) (life_rows l1.lives) (life_rows l2.lives) (life_rows r0.lives) (life_rows r1.lives) (life_rows r2.lives) a0 a1 a2 a3 a4
        low lives_a lives_b il ir h (λ fit. rows_weigh (ended_rows now_l) l0.lives l1.lives le el out_l) (λ fit. d1) (λ fit. rows_weigh (ended_rows now_r) r0.lives r1.lives re er out_r) (λ fit. d2)
        (rows_weigh (started_rows now_l) l2.lives l1.lives lb sl put_l) d3 (rows_weigh (started_rows now_r) r2.lives r1.lives rb sr put_r) d4,
  )
