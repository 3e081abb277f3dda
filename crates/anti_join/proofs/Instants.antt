-- One instant of an anti-join over the rows and times that it keeps, and the time between two.
use Rattle.std.specs.Prelude.{◌≡◌, ◌⊎◌, ℕ, zero, suc, ◌+◌, ◌<◌, ◌≤◌, max, nat_eq, nat_lt, not, ◌&&◌, Bool, true, false, cond, Option, Some, None, List, [], ◌∷◌, flat_map, refl}
use Rattle.std.proofs.Common.{inl, inr, sym, ◌∙◌, ap, arith}
use Rattle.std.proofs.lemmas.Bool.{eqb-true, eq-eqb}
use Rattle.std.proofs.lemmas.Bool.Decides.{nat_tests}
use Rattle.tw_rows.specs.Instant.{inf}
use Rattle.tw_rows.specs.Bag.{SameBag, total}
use Rattle.tw_rows.specs.Event.{AreEvents}
use Rattle.tw_rows.specs.SameCells.{same_itself}
use Rattle.tw_rows.specs.declared.cells.Datum.{Datum}
use Rattle.tw_rows.specs.declared.edge.Edge.{Edge}
use Rattle.tw_rows.specs.declared.edge.HeldRow.{HeldRow}
use Rattle.tw_rows.proofs.Bags.{total-flat_map, total-map, total_same}
use Rattle.edge_history.specs.Order.{failing, many}
use Rattle.edge_history.specs.History.{CellEvent}
use Rattle.edge_history.specs.Balance.{news}
use Rattle.edge_history.specs.Opens.{ended_rows, started_rows, bare, is_new}
use Rattle.edge_history.proofs.Sums.{sum_eq, weaker, failing-both}
use Rattle.edge_history.proofs.Opening.{ends_there, starts_new}
use Rattle.edge_history.proofs.Retaining.{AreEvents-none_fails}
use Rattle.key_nodes.specs.Antis.{meets_none}
use Rattle.key_nodes.proofs.Bags.{any_by_weight}
use Rattle.synopsis.specs.Held.{key_of, is_of_key}
use Rattle.sweep_laws.specs.Sweeps.{Tells}
use Rattle.sweep_laws.specs.Moves.{Adds}
use Rattle.sweep_laws.specs.Antijoining.{judged, IsAgo, end_of, flip_end, flip_start, begin_of}
use Rattle.sweep_laws.proofs.Adding.{adds_bag}
use Rattle.sweep_laws.proofs.AntiTelling.{anti_then, anti_told_then, anti_between}
use Rattle.anti_join.specs.AntiJoined.{anti_meets, antis}
use Rattle.anti_join.specs.Free.{is_free_key, free_since, status_of}
use Rattle.anti_join.specs.Holding.{same_run, AntiHeld}
use Rattle.anti_join.proofs.Keys.{same_sym}

not_none : (n : ℕ) → not (nat_lt 0 n) ≡ nat_eq n 0
not_none n = grind (arith, nat_tests)

-- a left row meets no right row exactly where its key is free
pub free_is : (left_key right_key : List ℕ) (right : List HeldRow) (row : List Datum) →
    meets_none (anti_meets left_key right_key) (bare right) row ≡ is_free_key right_key right (key_of left_key row)
free_is left_key right_key right row =
    ap not (any_by_weight (anti_meets left_key right_key row) (bare right))
    ∙ ap (λ n. not (nat_lt 0 n)) (total-map (λ x. cond (anti_meets left_key right_key row x) 1 0) (λ (r : HeldRow). r.cells) right
    ∙ total_same _ _ right (λ r. ap (λ b. cond {A = ℕ} b 1 0) (same_sym (key_of left_key row) (key_of right_key r.cells))))
    ∙ not_none (many (is_of_key right_key (key_of left_key row)) right)

-- what is told of a row by either of two statuses that give it the same run
end_same : (w : Edge → ℕ) (s u : Option ℕ) (t : ℕ) (r : HeldRow) → same_run s u r ≡ true → total w (end_of s t r) ≡ total w (end_of u t r)
end_same w None None t r h = refl
end_same w (Some s) (Some u) t r h = ap (λ n. w (record { sync = t; other = n; cells = r.cells }) + 0) (eqb-true (max r.start s) (max r.start u) h)
end_same w None (Some u) t r h = absurd (cc)
end_same w (Some s) None t r h = absurd (cc)

ends_same : (w : Edge → ℕ) (f0 f1 f2 : Bool) (s : ℕ) (u : Option ℕ) (t : ℕ) (r : HeldRow) → same_run (cond f0 (Some s) None) u r ≡ true → (f0 ≡ true → f1 ≡ f2) →
    total w (flip_end f1 (cond f0 (Some s) None) t r) ≡ total w (flip_end f2 u t r)
ends_same w true true true s u t r h k = refl
ends_same w true false false s u t r h k = end_same w (Some s) u t r h
ends_same w true true false s u t r h k = absurd (let e = k refl in cc)
ends_same w true false true s u t r h k = absurd (let e = k refl in cc)
ends_same w false f1 f2 s (Some u) t r h k = absurd (cc)
ends_same w false true true s None t r h k = refl
ends_same w false true false s None t r h k = refl
ends_same w false false true s None t r h k = refl
ends_same w false false false s None t r h k = refl

starts_same : (w : Edge → ℕ) (f0 f1 f2 : Bool) (s s0 : ℕ) (u : Option ℕ) (t : ℕ) (r : HeldRow) → same_run (cond f0 (Some s0) None) u r ≡ true → (f2 ≡ true → f1 ≡ f0) →
    total w (flip_start f2 (cond f1 (Some s) None) t r) ≡ total w (flip_start f2 u t r)
starts_same w f0 true false s s0 u t r h k = refl
starts_same w f0 false false s s0 u t r h k = refl
starts_same w true true true s s0 (Some u) t r h k = refl
starts_same w true true true s s0 None t r h k = absurd (cc)
starts_same w false false true s s0 None t r h k = refl
starts_same w false false true s s0 (Some u) t r h k = absurd (cc)
starts_same w false true true s s0 u t r h k = absurd (let e = k refl in cc)
starts_same w true false true s s0 u t r h k = absurd (let e = k refl in cc)

itself : (n : ℕ) → nat_eq n n ≡ true
itself n = eq-eqb n n refl

-- a row that stays has the same run by what is kept then
stays_same : (f0 f1 f2 : Bool) (s s2 t : ℕ) (u : Option ℕ) (r : HeldRow) → same_run (cond f0 (Some s) None) u r ≡ true → (f2 ≡ true → f1 ≡ f0) →
    s2 ≡ cond (not f1 && f2) t s → same_run (cond f2 (Some s2) None) (judged f2 t u) r ≡ true
stays_same f0 f1 false s s2 t u r h k e = refl
stays_same true true true s s2 t (Some u) r h k e = ap (λ n. nat_eq (max r.start n) (max r.start u)) e ∙ h
stays_same true true true s s2 t None r h k e = absurd (cc)
stays_same false false true s s2 t None r h k e = ap (λ n. nat_eq (max r.start n) (max r.start t)) e ∙ itself (max r.start t)
stays_same false false true s s2 t (Some u) r h k e = absurd (cc)
stays_same true false true s s2 t u r h k e = absurd (let z = k refl in cc)
stays_same false true true s s2 t u r h k e = absurd (let z = k refl in cc)

-- and so has a row that starts
new_same : (f : Bool) (s t : ℕ) (u : Option ℕ) (r : HeldRow) → r.start ≡ t → s ≤ t → IsAgo t u → same_run (cond f (Some s) None) (judged f t u) r ≡ true
new_same false s t u r new low since = refl
new_same true s t None r new low since = eq-eqb (max r.start s) (max r.start t) (omega (arith, new, low))
new_same true s t (Some v) r new low since = eq-eqb (max r.start s) (max r.start v) (most since)
  where
    most : (v < t) ⊎ (v ≡ 0) → max r.start s ≡ max r.start v
    most (inl h) = omega (arith, new, low, h)
    most (inr h) = omega (arith, new, low, h)

new_is : (t : ℕ) (r : HeldRow) → is_new t r ≡ true → r.start ≡ t
unfolding is_new
new_is t r h = eqb-true r.start t h

some : (n : ℕ) → nat_lt 0 n ≡ true → 1 ≤ n
some n h = grind (arith, nat_tests)

is_some : (n : ℕ) → 1 ≤ n → nat_lt 0 n ≡ true
is_some n h = grind (arith, nat_tests)

-- each row's key has a row
pub keys_there : (key : List ℕ) (xs ys : List HeldRow) → ((w : HeldRow → ℕ) → total w xs ≤ total w ys) →
    failing (λ r. nat_lt 0 (many (is_of_key key (key_of key r.cells)) ys)) xs ≡ 0
keys_there key [] ys fit = refl
keys_there key (x ∷ xs) ys fit =
    let f = fit (λ r. cond (is_of_key key (key_of key x.cells) r) 1 0) in
    let z = ap (λ b. cond {A = ℕ} b 1 0) (same_itself (key_of key x.cells)) in
    let here = ap (λ b. cond {A = ℕ} b 0 1) (is_some (many (is_of_key key (key_of key x.cells)) ys) (omega (arith, f, z))) in
    let rest = keys_there key xs ys (λ w. (let g = fit w in omega (arith, g))) in
    omega (arith, here, rest)

same_test : (m n : ℕ) → m ≡ n → nat_eq m 0 ≡ nat_eq n 0
same_test m n h = ap (λ x. nat_eq x 0) h

zero_is : (n : ℕ) → nat_eq n 0 ≡ true → n ≡ 0
zero_is n h = eqb-true n 0 h

module _ (lk rk : List ℕ) (a b : List CellEvent) (t : ℕ) (now_left now_right : List Edge) (left0 stay left2 right0 right1 right2 times0 times1 times2 : List HeldRow)
    (answer0 answer1 answer2 answer3 answer4 : List Edge) (low : t < inf) (lives_a : AreEvents a) (lives_b : AreEvents b)
    (is_left : SameBag now_left (news t (suc t) a)) (is_right : SameBag now_right (news t (suc t) b)) (h : AntiHeld lk rk a b t left0 right0 times0)
    (left_ends : ((w : HeldRow → ℕ) → total w (ended_rows now_left) ≤ total w left0) → (w : HeldRow → ℕ) → total w left0 ≡ total w stay + total w (ended_rows now_left))
    (told1 : ((w : HeldRow → ℕ) → total w (ended_rows now_left) ≤ total w left0) →
    Adds answer0 answer1 (flat_map (λ r. end_of (status_of lk rk right0 times0 (key_of lk r.cells)) t r) (ended_rows now_left)))
    (right_starts : (w : HeldRow → ℕ) → total w right1 ≡ total w right0 + total w (started_rows now_right))
    (told2 : Adds answer1 answer2 (flat_map (λ r. flip_end (is_free_key rk right1 (key_of lk r.cells)) (status_of lk rk right0 times0 (key_of lk r.cells)) t r) stay))
    (right_ends : ((w : HeldRow → ℕ) → total w (ended_rows now_right) ≤ total w right1) → (w : HeldRow → ℕ) → total w right1 ≡ total w right2 + total w (ended_rows now_right))
    (told3 : Adds answer2 answer3 (flat_map (λ r. flip_start (is_free_key rk right2 (key_of lk r.cells)) (status_of lk rk right1 times0 (key_of lk r.cells)) t r) stay))
    (since : (k : List Datum) → 1 ≤ many (is_of_key lk k) stay → free_since lk times1 k ≡ cond (not (is_free_key rk right1 k) && is_free_key rk right2 k) t (free_since lk times0 k))
    (early : (k : List Datum) → free_since lk times0 k ≤ t → free_since lk times1 k ≤ t)
    (few : (k : List Datum) → many (is_of_key lk k) stay ≡ 0 → many (is_of_key lk k) times1 ≤ many (is_of_key lk k) times0)
    (left_starts : (w : HeldRow → ℕ) → total w left2 ≡ total w stay + total w (started_rows now_left))
    (told4 : Adds answer3 answer4 (flat_map (λ r. begin_of (is_free_key rk right2 (key_of lk r.cells)) t r) (started_rows now_left)))
    (same : (k : List Datum) → 1 ≤ many (is_of_key lk k) left2 → free_since lk times2 k ≡ free_since lk times1 k)
    (less : (k : List Datum) → free_since lk times2 k ≤ free_since lk times1 k)
    (fewer : (k : List Datum) → many (is_of_key lk k) times2 ≤ many (is_of_key lk k) times1)
    (gone : (k : List Datum) → many (is_of_key lk k) left2 ≡ 0 → 1 ≤ many (is_of_key lk k) (ended_rows now_left) → many (is_of_key lk k) times2 ≡ 0) where
  key : HeldRow → List Datum
  key r = key_of lk r.cells

  fit_left : (w : HeldRow → ℕ) → total w (ended_rows now_left) ≤ total w left0
  fit_left = ends_there a t now_left left0 (AreEvents-none_fails a lives_a) is_left h.now.left_rows

  fit_right : (w : HeldRow → ℕ) → total w (ended_rows now_right) ≤ total w right0
  fit_right = ends_there b t now_right right0 (AreEvents-none_fails b lives_b) is_right h.now.right_rows

  split : (w : HeldRow → ℕ) → total w left0 ≡ total w stay + total w (ended_rows now_left)
  split = left_ends fit_left

  goes : (w : HeldRow → ℕ) → total w right1 ≡ total w right2 + total w (ended_rows now_right)
  goes = right_ends (λ w. (let f = fit_right w in let s = right_starts w in omega (arith, f, s)))

  free0 : List Datum → Bool
  free0 k = is_free_key rk right0 k

  -- a key that was free is so then exactly where it is so with all starts; a key that is free then was so exactly where it is
  was_free : (k : List Datum) → is_free_key rk right0 k ≡ true → is_free_key rk right1 k ≡ is_free_key rk right2 k
  was_free k e =
      let v : HeldRow → ℕ = λ r. cond (is_of_key rk k r) 1 0 in
      let z = zero_is (many (is_of_key rk k) right0) e in
      let f = fit_right (λ r. cond (is_of_key rk k r) 1 0) in
      let g = goes (λ r. cond (is_of_key rk k r) 1 0) in
      same_test (many (is_of_key rk k) right1) (many (is_of_key rk k) right2) (omega (arith, z, f, g))

  is_free : (k : List Datum) → is_free_key rk right2 k ≡ true → is_free_key rk right1 k ≡ is_free_key rk right0 k
  is_free k e =
      let z = zero_is (many (is_of_key rk k) right2) e in
      let f = fit_right (λ r. cond (is_of_key rk k r) 1 0) in
      let g = goes (λ r. cond (is_of_key rk k r) 1 0) in
      let s = right_starts (λ r. cond (is_of_key rk k r) 1 0) in
      same_test (many (is_of_key rk k) right1) (many (is_of_key rk k) right0) (omega (arith, z, f, g, s))

  agree : HeldRow → Bool
  agree r = same_run (status_of lk rk right0 times0 (key_of lk r.cells)) (h.status (key_of lk r.cells)) r

  agree_stay : failing (λ r. same_run (status_of lk rk right0 times0 (key_of lk r.cells)) (h.status (key_of lk r.cells)) r) stay ≡ 0
  agree_stay =
      let s = split (λ r. cond (same_run (status_of lk rk right0 times0 (key_of lk r.cells)) (h.status (key_of lk r.cells)) r) 0 1) in
      let e = h.agrees in
      omega (arith, s, e)

  agree_ended : failing (λ r. same_run (status_of lk rk right0 times0 (key_of lk r.cells)) (h.status (key_of lk r.cells)) r) (ended_rows now_left) ≡ 0
  agree_ended =
      let s = split (λ r. cond (same_run (status_of lk rk right0 times0 (key_of lk r.cells)) (h.status (key_of lk r.cells)) r) 0 1) in
      let e = h.agrees in
      omega (arith, s, e)

  law1 : Adds answer0 answer1 (flat_map (λ r. end_of (h.status (key_of lk r.cells)) t r) (ended_rows now_left))
  law1 = adds_bag answer0 answer1 _ _ (told1 fit_left) (record {
    weigh = λ w.
        total-flat_map w (λ (r : HeldRow). end_of (status_of lk rk right0 times0 (key_of lk r.cells)) t r) (ended_rows now_left)
        ∙ sum_eq (λ r. same_run (status_of lk rk right0 times0 (key_of lk r.cells)) (h.status (key_of lk r.cells)) r) _ _ (ended_rows now_left)
        (λ r e. end_same w (status_of lk rk right0 times0 (key_of lk r.cells)) (h.status (key_of lk r.cells)) t r e) agree_ended
        ∙ sym (total-flat_map w (λ (r : HeldRow). end_of (h.status (key_of lk r.cells)) t r) (ended_rows now_left));
  })

  law2 : Adds answer1 answer2 (flat_map (λ r. flip_end (is_free_key rk right2 (key_of lk r.cells)) (h.status (key_of lk r.cells)) t r) stay)
  law2 = adds_bag answer1 answer2 _ _ told2 (record {
    weigh = λ w.
        total-flat_map w (λ (r : HeldRow). flip_end (is_free_key rk right1 (key_of lk r.cells)) (status_of lk rk right0 times0 (key_of lk r.cells)) t r) stay
        ∙ sum_eq (λ r. same_run (status_of lk rk right0 times0 (key_of lk r.cells)) (h.status (key_of lk r.cells)) r) _ _ stay
        (λ r e. ends_same w (is_free_key rk right0 (key_of lk r.cells)) (is_free_key rk right1 (key_of lk r.cells)) (is_free_key rk right2 (key_of lk r.cells))
        (free_since lk times0 (key_of lk r.cells)) (h.status (key_of lk r.cells)) t r e (was_free (key_of lk r.cells))) agree_stay
        ∙ sym (total-flat_map w (λ (r : HeldRow). flip_end (is_free_key rk right2 (key_of lk r.cells)) (h.status (key_of lk r.cells)) t r) stay);
  })

  law3 : Adds answer2 answer3 (flat_map (λ r. flip_start (is_free_key rk right2 (key_of lk r.cells)) (h.status (key_of lk r.cells)) t r) stay)
  law3 = adds_bag answer2 answer3 _ _ told3 (record {
    weigh = λ w.
        total-flat_map w (λ (r : HeldRow). flip_start (is_free_key rk right2 (key_of lk r.cells)) (status_of lk rk right1 times0 (key_of lk r.cells)) t r) stay
        ∙ sum_eq (λ r. same_run (status_of lk rk right0 times0 (key_of lk r.cells)) (h.status (key_of lk r.cells)) r) _ _ stay
        (λ r e. starts_same w (is_free_key rk right0 (key_of lk r.cells)) (is_free_key rk right1 (key_of lk r.cells)) (is_free_key rk right2 (key_of lk r.cells))
        (free_since lk times0 (key_of lk r.cells)) (free_since lk times0 (key_of lk r.cells)) (h.status (key_of lk r.cells)) t r e (is_free (key_of lk r.cells))) agree_stay
        ∙ sym (total-flat_map w (λ (r : HeldRow). flip_start (is_free_key rk right2 (key_of lk r.cells)) (h.status (key_of lk r.cells)) t r) stay);
  })

  moves_right : ((w : HeldRow → ℕ) → total w (ended_rows now_right) ≤ total w right0) → (w : HeldRow → ℕ) →
      total w right2 + total w (ended_rows now_right) ≡ total w right0 + total w (started_rows now_right)
  moves_right fit w = let g = goes w in let s = right_starts w in omega (arith, g, s)

  early2 : (k : List Datum) → free_since lk times2 k ≤ t
  early2 k = let x = less k in let y = early k (h.early k) in omega (arith, x, y)

  agree_then : failing (λ r. same_run (status_of lk rk right2 times2 (key_of lk r.cells)) (judged (is_free_key rk right2 (key_of lk r.cells)) t (h.status (key_of lk r.cells))) r) left2 ≡ 0
  agree_then =
      let s = left_starts (λ r. cond (same_run (status_of lk rk right2 times2 (key_of lk r.cells)) (judged (is_free_key rk right2 (key_of lk r.cells)) t (h.status (key_of lk r.cells))) r) 0 1) in
      omega (arith, s, old, new)
    where
      there : (k : List Datum) → 1 ≤ many (is_of_key lk k) stay → 1 ≤ many (is_of_key lk k) left2
      there k p = let q = left_starts (λ r. cond (is_of_key lk k r) 1 0) in omega (arith, p, q)

      both_hold : (p q : Bool) → (p && q) ≡ true → (p ≡ true) × (q ≡ true)
      both_hold true true e = (refl, refl)
      both_hold true false e = absurd (cc)
      both_hold false q e = absurd (cc)

      old : failing (λ r. same_run (status_of lk rk right2 times2 (key_of lk r.cells)) (judged (is_free_key rk right2 (key_of lk r.cells)) t (h.status (key_of lk r.cells))) r) stay ≡ 0
      old =
          weaker (λ r. same_run (status_of lk rk right0 times0 (key_of lk r.cells)) (h.status (key_of lk r.cells)) r && nat_lt 0 (many (is_of_key lk (key_of lk r.cells)) stay)) _ stay
          (λ r e.
          let p = both_hold (same_run (status_of lk rk right0 times0 (key_of lk r.cells)) (h.status (key_of lk r.cells)) r) (nat_lt 0 (many (is_of_key lk (key_of lk r.cells)) stay)) e in
          let n = some (many (is_of_key lk (key_of lk r.cells)) stay) p.1 in
          stays_same (is_free_key rk right0 (key_of lk r.cells)) (is_free_key rk right1 (key_of lk r.cells)) (is_free_key rk right2 (key_of lk r.cells))
          (free_since lk times0 (key_of lk r.cells)) (free_since lk times2 (key_of lk r.cells)) t (h.status (key_of lk r.cells)) r p.0 (is_free (key_of lk r.cells))
          (same (key_of lk r.cells) (there (key_of lk r.cells) n) ∙ since (key_of lk r.cells) n))
          (failing-both (λ r. same_run (status_of lk rk right0 times0 (key_of lk r.cells)) (h.status (key_of lk r.cells)) r) (λ r. nat_lt 0 (many (is_of_key lk (key_of lk r.cells)) stay)) stay
          agree_stay (keys_there lk stay stay (λ w. (omega arith))))

      new : failing (λ r. same_run (status_of lk rk right2 times2 (key_of lk r.cells)) (judged (is_free_key rk right2 (key_of lk r.cells)) t (h.status (key_of lk r.cells))) r) (started_rows now_left) ≡ 0
      new =
          weaker (is_new t) _ (started_rows now_left)
          (λ r e. new_same (is_free_key rk right2 (key_of lk r.cells)) (free_since lk times2 (key_of lk r.cells)) t (h.status (key_of lk r.cells)) r (new_is t r e) (early2 (key_of lk r.cells)) (h.now.since (key_of lk r.cells)))
          (starts_new t a now_left is_left)

  pub held_then : AntiHeld lk rk a b (suc t) left2 right2 times2
  held_then = record {
    status = λ k. judged (is_free_key rk right2 k) t (h.status k);
    now = anti_then (key_of lk) (anti_meets lk rk) a b t now_left now_right left0 stay left2 right0 right2 h.status (is_free_key rk right2) answer0 answer1 answer2 answer3 answer4
        low (AreEvents-none_fails a lives_a) (AreEvents-none_fails b lives_b) is_left is_right h.now left_ends left_starts moves_right (free_is lk rk right2) law1 law2 law3 told4;
    agrees = agree_then;
    early = λ k. (let e = early2 k in omega (arith, e));
    few = λ k none. few_then k none (many (is_of_key lk k) (ended_rows now_left)) refl;
  }
    where
      few_then : (k : List Datum) → many (is_of_key lk k) left2 ≡ 0 → (n : ℕ) → many (is_of_key lk k) (ended_rows now_left) ≡ n → many (is_of_key lk k) times2 ≡ 0
      few_then k none (suc n) e = gone k none (omega (arith, e))
      few_then k none zero e =
          let l = left_starts (λ r. cond (is_of_key lk k r) 1 0) in
          let s = split (λ r. cond (is_of_key lk k r) 1 0) in
          let f = few k (omega (arith, l, none)) in
          let g = fewer k in
          let i = h.few k (omega (arith, l, s, e, none)) in
          omega (arith, f, g, i)

  pub told_then : Tells (antis lk rk a b) t (suc t) answer0 answer4
  told_then =
      anti_told_then (key_of lk) (anti_meets lk rk) a b t now_left now_right left0 stay left2 right0 right2 h.status (is_free_key rk right2) answer0 answer1 answer2 answer3 answer4
      low (AreEvents-none_fails a lives_a) (AreEvents-none_fails b lives_b) is_left is_right h.now left_ends left_starts moves_right (free_is lk rk right2) law1 law2 law3 told4

-- between instants at which a side has news what is held stays, and nothing is told
pub held_between : (lk rk : List ℕ) (a b : List CellEvent) (u t : ℕ) (left right times : List HeldRow) → u ≤ t → t ≤ inf → AreEvents a → AreEvents b →
    ((w : Edge → ℕ) → total w (news u t a) ≡ 0) → ((w : Edge → ℕ) → total w (news u t b) ≡ 0) → AntiHeld lk rk a b u left right times →
    AntiHeld lk rk a b t left right times × ((w : Edge → ℕ) → total w (news u t (antis lk rk a b)) ≡ 0)
held_between lk rk a b u t left right times low high va vb none_a none_b h =
    let s = anti_between (key_of lk) (anti_meets lk rk) a b u t left right h.status low high (AreEvents-none_fails a va) (AreEvents-none_fails b vb) none_a none_b h.now in (
      record { status = h.status; now = s.0; agrees = h.agrees; early = λ k. (let e = h.early k in omega (arith, e, low)); few = h.few },
      s.1,
    )
