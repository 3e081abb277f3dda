-- One instant of a join.
use Rattle.std.specs.Prelude.{◌≡◌, ℕ, ◌+◌, Bool, true, false, cond, List}
use Rattle.std.proofs.Common.{sym, ◌∙◌, arith}
use Rattle.std.proofs.lemmas.Bool.Decides.{nat_tests}
use Rattle.tw_rows.specs.Bag.{total}
use Rattle.tw_rows.specs.declared.cells.Datum.{Datum}
use Rattle.tw_rows.specs.declared.edge.Edge.{Edge}
use Rattle.tw_rows.specs.declared.edge.HeldRow.{HeldRow}
use Rattle.tw_rows.proofs.Bags.{total_same, total-add, total_swap, total_zero}
use Rattle.edge_history.specs.Order.{failing}
use Rattle.edge_history.specs.Opens.{is_early, is_new, is_in}
use Rattle.edge_history.proofs.Sums.{sum_eq, weaker}
use Rattle.sweep_laws.specs.Moves.{ending, starting, Moves, Adds, told_at}
use Rattle.sweep_laws.specs.Pairs.{pair_of, pairs, pairs_told}
use Rattle.sweep_laws.proofs.Adding.{adds_weigh}
use Rattle.sweep_laws.proofs.PairsTold.{pairs_weigh}
use Rattle.sweep_laws.proofs.Pairing.{pairs_total}

module _ (meets : List Datum → List Datum → Bool) (pair : List Datum → List Datum → List Datum) where
  -- sums over pairs
  pub over_pairs : (p q : HeldRow → Bool) (v u : HeldRow → ℕ) (ls rs : List HeldRow) → failing p ls ≡ 0 → failing q rs ≡ 0 →
      ((l r : HeldRow) → p l ≡ true → q r ≡ true → total v (pair_of meets pair l r) ≡ total u (pair_of meets pair l r)) →
      total v (pairs meets pair ls rs) ≡ total u (pairs meets pair ls rs)
  over_pairs p q v u ls rs hl hr one =
      pairs_total meets pair v ls rs
      ∙ sum_eq p _ _ ls (λ l a. sum_eq q _ _ rs (λ r b. one l r a b) hr) hl
      ∙ sym (pairs_total meets pair u ls rs)

  pub no_pairs : (p q : HeldRow → Bool) (v : HeldRow → ℕ) (ls rs : List HeldRow) → failing p ls ≡ 0 → failing q rs ≡ 0 →
      ((l r : HeldRow) → p l ≡ true → q r ≡ true → total v (pair_of meets pair l r) ≡ 0) → total v (pairs meets pair ls rs) ≡ 0
  no_pairs p q v ls rs hl hr one =
      over_pairs p q v (λ r. 0) ls rs hl hr (λ l r a b. one l r a b ∙ sym (total_zero (pair_of meets pair l r))) ∙ total_zero (pairs meets pair ls rs)

  -- more rows on one side
  pub left_more : (v : HeldRow → ℕ) (ls ms ns rs : List HeldRow) → ((w : HeldRow → ℕ) → total w ls ≡ total w ms + total w ns) →
      total v (pairs meets pair ls rs) ≡ total v (pairs meets pair ms rs) + total v (pairs meets pair ns rs)
  left_more v ls ms ns rs h =
      let f : HeldRow → ℕ = λ l. total (λ r. total v (pair_of meets pair l r)) rs in
      let a = pairs_total meets pair v ls rs in
      let b = pairs_total meets pair v ms rs in
      let c = pairs_total meets pair v ns rs in
      let d = h f in
      omega (arith, a, b, c, d)

  pub right_more : (v : HeldRow → ℕ) (ls rs ss us : List HeldRow) → ((w : HeldRow → ℕ) → total w rs ≡ total w ss + total w us) →
      total v (pairs meets pair ls rs) ≡ total v (pairs meets pair ls ss) + total v (pairs meets pair ls us)
  right_more v ls rs ss us h =
      let a = pairs_total meets pair v ls rs in
      let b = pairs_total meets pair v ls ss in
      let c = pairs_total meets pair v ls us in
      let d = total_same (λ l. total (λ r. total v (pair_of meets pair l r)) rs) (λ l. total (λ r. total v (pair_of meets pair l r)) ss + total (λ r. total v (pair_of meets pair l r)) us) ls (λ l. h (λ r. total v (pair_of meets pair l r))) in
      let e = total-add (λ l. total (λ r. total v (pair_of meets pair l r)) ss) (λ l. total (λ r. total v (pair_of meets pair l r)) us) ls in
      omega (arith, a, b, c, d, e)

  -- what is told, as a sum over the pairs
  pub told_left : (w : Edge → ℕ) (starts : Bool) (t : ℕ) (xs ys : List HeldRow) →
      total w (pairs_told meets pair false starts t xs ys) ≡ total (λ r. w (told_at starts t r)) (pairs meets pair xs ys)
  told_left w starts t xs ys = pairs_weigh meets pair w false starts t xs ys ∙ sym (pairs_total meets pair (λ r. w (told_at starts t r)) xs ys)

  pub told_right : (w : Edge → ℕ) (starts : Bool) (t : ℕ) (xs ys : List HeldRow) →
      total w (pairs_told meets pair true starts t xs ys) ≡ total (λ r. w (told_at starts t r)) (pairs meets pair ys xs)
  told_right w starts t xs ys =
      pairs_weigh meets pair w true starts t xs ys ∙ total_swap (λ x y. total (λ r. w (told_at starts t r)) (pair_of meets pair y x)) xs ys
      ∙ sym (pairs_total meets pair (λ r. w (told_at starts t r)) ys xs)

  end_pair : (w : Edge → ℕ) (t : ℕ) (l r : HeldRow) → is_early t l ≡ true → is_early t r ≡ true →
      total (λ x. w (told_at false t x)) (pair_of meets pair l r) ≡ total (ending t w) (pair_of meets pair l r)
  unfolding is_early
  end_pair w t l r a b = grind (arith, nat_tests)

  begin_early : (w : Edge → ℕ) (t : ℕ) (l r : HeldRow) → is_early t l ≡ true → is_early t r ≡ true → total (starting t w) (pair_of meets pair l r) ≡ 0
  unfolding is_early
  begin_early w t l r a b = grind (arith, nat_tests)

  start_left : (w : Edge → ℕ) (t : ℕ) (l r : HeldRow) → is_new t l ≡ true → is_early t r ≡ true →
      total (λ x. w (told_at true t x)) (pair_of meets pair l r) ≡ total (starting t w) (pair_of meets pair l r)
  unfolding is_early is_new
  start_left w t l r a b = grind (arith, nat_tests)

  end_left : (w : Edge → ℕ) (t : ℕ) (l r : HeldRow) → is_new t l ≡ true → is_early t r ≡ true → total (ending t w) (pair_of meets pair l r) ≡ 0
  unfolding is_early is_new
  end_left w t l r a b = grind (arith, nat_tests)

  start_right : (w : Edge → ℕ) (t : ℕ) (l r : HeldRow) → is_in t l ≡ true → is_new t r ≡ true →
      total (λ x. w (told_at true t x)) (pair_of meets pair l r) ≡ total (starting t w) (pair_of meets pair l r)
  unfolding is_in is_new
  start_right w t l r a b = grind (arith, nat_tests)

  end_right : (w : Edge → ℕ) (t : ℕ) (l r : HeldRow) → is_in t l ≡ true → is_new t r ≡ true → total (ending t w) (pair_of meets pair l r) ≡ 0
  unfolding is_in is_new
  end_right w t l r a b = grind (arith, nat_tests)

  early_in : (t : ℕ) (r : HeldRow) → is_early t r ≡ true → is_in t r ≡ true
  unfolding is_early is_in
  early_in t r h = grind (arith, nat_tests)

  new_in : (t : ℕ) (r : HeldRow) → is_new t r ≡ true → is_in t r ≡ true
  unfolding is_new is_in
  new_in t r h = grind (arith, nat_tests)

  -- left0 and right0 just before, left1 and right1 once the ends left, left2 and right2 once the starts came
  module _ (t : ℕ) (left0 left1 left2 ended_left started_left right0 right1 right2 ended_right started_right : List HeldRow) (answer0 answer1 answer2 answer3 answer4 : List Edge)
      (l1 : (w : HeldRow → ℕ) → total w left0 ≡ total w left1 + total w ended_left) (l2 : (w : HeldRow → ℕ) → total w left2 ≡ total w left1 + total w started_left)
      (r1 : (w : HeldRow → ℕ) → total w right0 ≡ total w right1 + total w ended_right) (r2 : (w : HeldRow → ℕ) → total w right2 ≡ total w right1 + total w started_right)
      (early_left : failing (is_early t) left0 ≡ 0) (early_right : failing (is_early t) right0 ≡ 0) (new_left : failing (is_new t) started_left ≡ 0) (new_right : failing (is_new t) started_right ≡ 0)
      (a1 : Adds answer0 answer1 (pairs_told meets pair false false t ended_left right0)) (a2 : Adds answer1 answer2 (pairs_told meets pair true false t ended_right left1))
      (a3 : Adds answer2 answer3 (pairs_told meets pair false true t started_left right1)) (a4 : Adds answer3 answer4 (pairs_told meets pair true true t started_right left2)) where
    e_l1 : failing (is_early t) left1 ≡ 0
    e_l1 = let h = l1 (λ r. cond (is_early t r) 0 1) in omega (arith, h, early_left)

    e_el : failing (is_early t) ended_left ≡ 0
    e_el = let h = l1 (λ r. cond (is_early t r) 0 1) in omega (arith, h, early_left)

    e_r1 : failing (is_early t) right1 ≡ 0
    e_r1 = let h = r1 (λ r. cond (is_early t r) 0 1) in omega (arith, h, early_right)

    e_er : failing (is_early t) ended_right ≡ 0
    e_er = let h = r1 (λ r. cond (is_early t r) 0 1) in omega (arith, h, early_right)

    i_l2 : failing (is_in t) left2 ≡ 0
    i_l2 =
        let h = l2 (λ r. cond (is_in t r) 0 1) in
        let a = weaker (is_early t) (is_in t) left1 (λ r k. early_in t r k) e_l1 in
        let b = weaker (is_new t) (is_in t) started_left (λ r k. new_in t r k) new_left in
        omega (arith, h, a, b)

    pub instant_moves : Moves t (pairs meets pair left0 right0) (pairs meets pair left2 right2) answer0 answer4
    instant_moves = record {
      weigh = λ w.
          let e = ending t w in
          let s = starting t w in
          let p1 = left_more e left0 left1 ended_left right0 l1 in
          let p2 = right_more e left1 right0 right1 ended_right r1 in
          let p3 = right_more e left2 right2 right1 started_right r2 in
          let p4 = left_more e left2 left1 started_left right1 l2 in
          let q1 = left_more s left0 left1 ended_left right0 l1 in
          let q2 = right_more s left1 right0 right1 ended_right r1 in
          let q3 = right_more s left2 right2 right1 started_right r2 in
          let q4 = left_more s left2 left1 started_left right1 l2 in
          let t1 = told_left w false t ended_left right0 ∙ over_pairs (is_early t) (is_early t) (λ r. w (told_at false t r)) e ended_left right0 e_el early_right (λ l r a b. end_pair w t l r a b) in
          let t2 = told_right w false t ended_right left1 ∙ over_pairs (is_early t) (is_early t) (λ r. w (told_at false t r)) e left1 ended_right e_l1 e_er (λ l r a b. end_pair w t l r a b) in
          let t3 = told_left w true t started_left right1 ∙ over_pairs (is_new t) (is_early t) (λ r. w (told_at true t r)) s started_left right1 new_left e_r1 (λ l r a b. start_left w t l r a b) in
          let t4 = told_right w true t started_right left2 ∙ over_pairs (is_in t) (is_new t) (λ r. w (told_at true t r)) s left2 started_right i_l2 new_right (λ l r a b. start_right w t l r a b) in
          let z1 = no_pairs (is_new t) (is_early t) e started_left right1 new_left e_r1 (λ l r a b. end_left w t l r a b) in
          let z2 = no_pairs (is_in t) (is_new t) e left2 started_right i_l2 new_right (λ l r a b. end_right w t l r a b) in
          let z3 = no_pairs (is_early t) (is_early t) s ended_left right0 e_el early_right (λ l r a b. begin_early w t l r a b) in
          let z4 = no_pairs (is_early t) (is_early t) s left1 ended_right e_l1 e_er (λ l r a b. begin_early w t l r a b) in
          let b1 = adds_weigh w answer0 answer1 _ a1 in
          let b2 = adds_weigh w answer1 answer2 _ a2 in
          let b3 = adds_weigh w answer2 answer3 _ a3 in
          let b4 = adds_weigh w answer3 answer4 _ a4 in
          omega (arith, p1, p2, p3, p4, q1, q2, q3, q4, t1, t2, t3, t4, z1, z2, z3, z4, b1, b2, b3, b4);
    }
