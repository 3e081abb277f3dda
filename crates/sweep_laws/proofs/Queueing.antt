-- The open rows of coalesced events are queues of starts.
use Rattle.std.specs.Prelude.{◌≡◌, ℕ, zero, suc, ◌+◌, ◌-◌, ◌<◌, ◌≤◌, nat_lt, Bool, true, false, cond, ◌||◌, List, [], ◌∷◌, ◌++◌, take, drop, replicate, map, flat_map, length, refl}
use Rattle.std.specs.List.{list_any}
use Rattle.std.proofs.Common.{sym, ◌∙◌, ap, arith, subst, inl, inr}
use Rattle.std.proofs.lemmas.List.{append-nil, length-append, length-replicate, map-append, take-append-drop, length-drop, drop-drop, drop-append-le}
use Rattle.std.proofs.lemmas.Bool.{cases_lt}
use Rattle.std.proofs.lemmas.Bool.Decides.{nat_tests}
use Rattle.std.proofs.lemmas.List.Folds.{list_any-append}
use Rattle.tw_rows.specs.Instant.{inf}
use Rattle.tw_rows.specs.Bag.{total, SameBag}
use Rattle.tw_rows.specs.declared.edge.Edge.{Edge}
use Rattle.tw_rows.specs.declared.edge.HeldRow.{HeldRow}
use Rattle.tw_rows.proofs.Bags.{total-append, total-flat_map, total_same, total-add}
use Rattle.edge_history.specs.History.{CellEvent}
use Rattle.edge_history.specs.Opens.{open_of, opens}
use Rattle.edge_history.specs.Balance.{news}
use Rattle.edge_history.proofs.Retaining.{AreEvents-none_fails}
use Rattle.sweep_laws.specs.Moves.{ending, starting}
use Rattle.sweep_laws.proofs.Moving.{news_move}
use Rattle.key_nodes.specs.Runs.{Tells}
use Rattle.key_nodes.proofs.Bags.{any_by_weight, sum_distinct}
use Rattle.key_nodes.proofs.CoalescedRows.{coalesced_valid, lengths}
use Rattle.key_nodes.proofs.CoalescedTimes.{AllBelow, AllFrom, rises_below, falls_below, rises_rest, falls_rest}
use Rattle.key_nodes.specs.Groups.{distinct}
use Rattle.key_nodes.specs.Coalesced.{how_often, rows_before, rise_times, fall_times, paired_times, row_events, rows_below, coalesced}
use Rattle.sweep_laws.specs.Queues.{Cells, rise, fall, open_starts, held_with, queue_ends, queue_starts, AreMoves, queue_told, queue_after}

-- PAIRS OF STARTS AND ENDS
module _ (t : ℕ) (low : t ≤ inf) (r : Cells) where
  not_yet : (a b : ℕ) → t ≤ a → open_of t (record { row = r; start = a; end = b }) ≡ []
  not_yet a b h = grind (arith, nat_tests)

  is_open : (a b : ℕ) → a < t → t ≤ b → open_of t (record { row = r; start = a; end = b }) ≡ record { cells = r; start = a } ∷ []
  is_open a b h k = grind (arith, nat_tests)

  no_more : (a b : ℕ) → b < t → open_of t (record { row = r; start = a; end = b }) ≡ []
  no_more a b h = grind (arith, nat_tests)

  open_late : (up down : List ℕ) → AllFrom t up → opens t (paired_times r up down) ≡ []
  open_late [] down h = refl
  open_late (a ∷ up) [] h = ap (λ l. l ++ opens t (paired_times r up [])) (not_yet a inf h.0) ∙ open_late up [] h.1
  open_late (a ∷ up) (b ∷ down) h = ap (λ l. l ++ opens t (paired_times r up down)) (not_yet a b h.0) ∙ open_late up down h.1

  -- the first starts have ended, and the last ones are not there yet
  open_pairs : (up more down rest : List ℕ) → AllBelow t up → AllBelow t down → AllFrom t more → AllFrom t rest → length down ≤ length up →
      opens t (paired_times r (up ++ more) (down ++ rest)) ≡ held_with r (drop (length down) up)
  open_pairs [] more [] rest a b c d fits = open_late more rest c
  open_pairs [] more (y ∷ down) rest a b c d fits = absurd (omega (arith, fits))
  open_pairs (x ∷ up) more [] [] a b c d fits =
      ap (λ l. l ++ opens t (paired_times r (up ++ more) [])) (is_open x inf a.0 low) ∙ ap (λ l. record { cells = r; start = x } ∷ l) (open_pairs up more [] [] a.1 tt c tt (omega arith))
  open_pairs (x ∷ up) more [] (z ∷ rest) a b c d fits =
      ap (λ l. l ++ opens t (paired_times r (up ++ more) rest)) (is_open x z a.0 d.0) ∙ ap (λ l. record { cells = r; start = x } ∷ l) (open_pairs up more [] rest a.1 tt c d.1 (omega arith))
  open_pairs (x ∷ up) more (y ∷ down) rest a b c d fits =
      ap (λ l. l ++ opens t (paired_times r (up ++ more) (down ++ rest))) (no_more x y b.0) ∙ open_pairs up more down rest a.1 b.1 c d (omega (arith, fits))

module _ (same : Cells → Cells → Bool) (f : ℕ → List Cells) (r : Cells) where
  abbrev up : ℕ → List ℕ
  up t = rise_times same f r t

  abbrev down : ℕ → List ℕ
  down t = fall_times same f r t

  queue_length : (t : ℕ) → length (open_starts same f r t) ≡ how_often same r (rows_before f t)
  queue_length zero = refl
  queue_length (suc t) =
      let h = queue_length t in
      let a = length-append (drop (fall same f r t) (open_starts same f r t)) (replicate (rise same f r t) t) in
      let b = length-drop (fall same f r t) (open_starts same f r t) in
      let c = length-replicate (rise same f r t) t in
      omega (arith, h, a, b, c)

  -- what is open is the queue
  queue_is : (t : ℕ) → drop (length (down t)) (up t) ≡ open_starts same f r t
  queue_is zero = refl
  queue_is (suc t) =
      let k = fall same f r t in
      let more = replicate (rise same f r t) t in
      let h = queue_is t in
      let l = lengths same f r t in
      let q = queue_length t in
      let n : length (down t ++ replicate k t) ≡ length (down t) + k = length-append (down t) (replicate k t) ∙ ap (λ m. length (down t) + m) (length-replicate k t) in
      ap (λ m. drop m (up t ++ more)) n
      ∙ (sym (drop-drop k (length (down t)) (up t ++ more))
      ∙ (ap (drop k) (drop-append-le (length (down t)) (up t) more (omega (arith, l)) ∙ ap (λ x. x ++ more) h)
      ∙ drop-append-le k (open_starts same f r t) more (omega (arith, q))))

  pub row_opens : (t : ℕ) → t ≤ inf → opens t (row_events same f inf r) ≡ held_with r (open_starts same f r t)
  row_opens t low =
      let a = rises_rest same f r t (inf - t) in
      let b = falls_rest same f r t (inf - t) in
      let l = lengths same f r t in
      let e : inf ≡ t + (inf - t) = omega (arith, low) in
      ap (λ n. opens t (paired_times r (up n) (down n))) e
      ∙ (ap (λ x. opens t (paired_times r x (down (t + (inf - t))))) a.1
      ∙ (ap (λ x. opens t (paired_times r (up t ++ a.0) x)) b.1
      ∙ (open_pairs t low r (up t) a.0 (down t) b.0 (rises_below same f r t) (falls_below same f r t) a.2 b.2 (omega (arith, l))
      ∙ ap (held_with r) (queue_is t))))

total-opens : (w : HeldRow → ℕ) (t : ℕ) (es : List CellEvent) → total w (opens t es) ≡ total (λ e. total w (open_of t e)) es
total-opens w t es = total-flat_map w (open_of t) es

module _ (same : Cells → Cells → Bool) (f : ℕ → List Cells) where
  pub opens_are : (t : ℕ) → t ≤ inf → SameBag (opens t (coalesced same f)) (flat_map (λ r. held_with r (open_starts same f r t)) (distinct same (rows_below f inf)))
  opens_are t low = record {
    weigh = λ w.
        total-opens w t (coalesced same f)
        ∙ (total-flat_map (λ e. total w (open_of t e)) (row_events same f inf) (distinct same (rows_below f inf))
        ∙ (total_same _ (λ r. total w (held_with r (open_starts same f r t))) (distinct same (rows_below f inf))
        (λ r. sym (total-opens w t (row_events same f inf r)) ∙ ap (total w) (row_opens same f r t low))
        ∙ sym (total-flat_map w (λ r. held_with r (open_starts same f r t)) (distinct same (rows_below f inf)))));
  }

  -- any moves that lead from the rows before an instant to those after it rise and fall by their difference
  pub moves_rise : (t : ℕ) (ends starts : Cells → ℕ) → AreMoves same f t ends starts → (r : Cells) → (ends r - starts r ≡ fall same f r t) × (starts r - ends r ≡ rise same f r t)
  moves_rise t ends starts h r = let m = h r in (omega (arith, m), omega (arith, m))

  pub queues_next : (t : ℕ) (ends starts : Cells → ℕ) → AreMoves same f t ends starts → (since : Cells → List ℕ) → ((r : Cells) → since r ≡ open_starts same f r t) →
      (r : Cells) → queue_after t ends starts since r ≡ open_starts same f r (suc t)
  queues_next t ends starts h since is r =
      let m = moves_rise t ends starts h r in
      ap (λ n. drop n (since r) ++ replicate (starts r - ends r) t) m.0
      ∙ (ap (λ n. drop (fall same f r t) (since r) ++ replicate n t) m.1 ∙ ap (λ q. drop (fall same f r t) q ++ replicate (rise same f r t) t) (is r))

-- WHAT IS TOLD OF ONE ROW
below_drop : (c n : ℕ) (xs : List ℕ) → AllBelow c xs → AllBelow c (drop n xs)
below_drop c zero xs h = h
below_drop c (suc n) [] h = tt
below_drop c (suc n) (x ∷ xs) h = below_drop c n xs h.1

module _ (t : ℕ) (r : Cells) (w : Edge → ℕ) where
  abbrev end_edges : List ℕ → List Edge
  end_edges starts = map (λ s. record { sync = t; other = s; cells = r }) starts

  one_ends : (s : ℕ) → s < t → ending t w (record { cells = r; start = s }) ≡ w (record { sync = t; other = s; cells = r })
  one_ends s h = grind (arith, nat_tests)

  one_starts_not : (s : ℕ) → s < t → starting t w (record { cells = r; start = s }) ≡ 0
  one_starts_not s h = grind (arith, nat_tests)

  one_ends_not : ending t w (record { cells = r; start = t }) ≡ 0
  one_ends_not = grind (arith, nat_tests)

  one_starts : starting t w (record { cells = r; start = t }) ≡ w (record { sync = t; other = inf; cells = r })
  one_starts = grind (arith, nat_tests)

  all_end : (xs : List ℕ) → AllBelow t xs → total (ending t w) (held_with r xs) ≡ total w (end_edges xs)
  all_end [] h = refl
  all_end (x ∷ xs) h = let a = one_ends x h.0 in let b = all_end xs h.1 in omega (arith, a, b)

  none_start : (xs : List ℕ) → AllBelow t xs → total (starting t w) (held_with r xs) ≡ 0
  none_start [] h = refl
  none_start (x ∷ xs) h = let a = one_starts_not x h.0 in let b = none_start xs h.1 in omega (arith, a, b)

  new_end_not : (k : ℕ) → total (ending t w) (held_with r (replicate k t)) ≡ 0
  new_end_not zero = refl
  new_end_not (suc k) = let a = one_ends_not in let b = new_end_not k in omega (arith, a, b)

  new_start : (k : ℕ) → total (starting t w) (held_with r (replicate k t)) ≡ total w (queue_starts t k r)
  new_start zero = refl
  new_start (suc k) = let a = one_starts in let b = new_start k in omega (arith, a, b)

  held-append : (v : HeldRow → ℕ) (xs ys : List ℕ) → total v (held_with r (xs ++ ys)) ≡ total v (held_with r xs) + total v (held_with r ys)
  held-append v xs ys = ap (total v) (map-append (λ s. record { cells = r; start = s }) xs ys) ∙ total-append v (held_with r xs) (held_with r ys)

  row_move : (d k : ℕ) (q : List ℕ) → AllBelow t q →
      total w (queue_ends t d r q ++ queue_starts t k r) + total (ending t w) (held_with r (drop d q ++ replicate k t)) + total (starting t w) (held_with r q)
      ≡ total (ending t w) (held_with r q) + total (starting t w) (held_with r (drop d q ++ replicate k t))
  row_move d k q h =
      let a = total-append w (queue_ends t d r q) (queue_starts t k r) in
      let b = held-append (ending t w) (drop d q) (replicate k t) in
      let c = held-append (starting t w) (drop d q) (replicate k t) in
      let low = below_drop t d q h in
      let e = all_end (drop d q) low in
      let n = none_start (drop d q) low in
      let o = none_start q h in
      let p = all_end q h in
      let x = new_end_not k in
      let y = new_start k in
      let z = ap (λ l. total w (end_edges l)) (sym (take-append-drop d q)) ∙ (ap (total w) (map-append (λ s. record { sync = t; other = s; cells = r }) (take d q) (drop d q)) ∙ total-append w (end_edges (take d q)) (end_edges (drop d q))) in
      omega (arith, a, b, c, e, n, o, p, x, y, z)

-- THE ROWS THAT MOVED ARE ENOUGH
module _ (same : Cells → Cells → Bool) (f : ℕ → List Cells) where
  queue_early : (r : Cells) (t : ℕ) → AllBelow t (open_starts same f r t)
  queue_early r t = subst (AllBelow t) (queue_is same f r t) (below_drop t (length (down same f r t)) (up same f r t) (rises_below same f r t))

  none_left : (a b : Bool) → (a || b) ≡ false → (a ≡ false) × (b ≡ false)
  none_left true b h = absurd (cc)
  none_left false b h = (refl, h)

  often_none : (r : Cells) (xs : List Cells) → list_any (same r) xs ≡ false → how_often same r xs ≡ 0
  often_none r xs h = let e = any_by_weight (same r) xs in none (how_often same r xs) (sym e ∙ h)
    where
      none : (n : ℕ) → nat_lt 0 n ≡ false → n ≡ 0
      none n h = grind (arith, nat_tests)

  never : (r : Cells) (n : ℕ) → list_any (same r) (rows_below f n) ≡ false → (u : ℕ) → u < n → how_often same r (f u) ≡ 0
  never r zero h u low = absurd (omega (arith, low))
  never r (suc n) h u low =
      let p = none_left (list_any (same r) (rows_below f n)) (list_any (same r) (f n)) (sym (list_any-append (same r) (rows_below f n) (f n)) ∙ h) in
      elim (cases_lt u n) [
        | inl before ↦ never r n p.0 u before
        | inr after ↦ (let e : u ≡ n = omega (arith, low, after) in ap (λ k. how_often same r (f k)) e ∙ often_none r (f n) p.1)
      ]

  never_before : (r : Cells) → list_any (same r) (rows_below f inf) ≡ false → (t : ℕ) → t < inf → how_often same r (rows_before f t) ≡ 0
  never_before r h zero low = refl
  never_before r h (suc t) low = never r inf h t (omega (arith, low))

  module _ (tells : Tells same) (t : ℕ) (low : t < inf) (ends starts : Cells → ℕ) (moves : AreMoves same f t ends starts) (since : Cells → List ℕ) (is : (r : Cells) → since r ≡ open_starts same f r t) where
    told_none : (r : Cells) → ends r ≡ starts r → (w : Edge → ℕ) → total w (queue_told t ends starts since r) ≡ 0
    told_none r e w =
        let a : ends r - starts r ≡ 0 = omega (arith, e) in
        let b : starts r - ends r ≡ 0 = omega (arith, e) in
        ap (λ n. total w (queue_ends t n r (since r) ++ queue_starts t (starts r - ends r) r)) a ∙ ap (λ n. total w (queue_ends t 0 r (since r) ++ queue_starts t n r)) b

    row_told : (w : Edge → ℕ) (r : Cells) →
        total w (queue_told t ends starts since r) + total (ending t w) (held_with r (open_starts same f r (suc t))) + total (starting t w) (held_with r (open_starts same f r t))
        ≡ total (ending t w) (held_with r (open_starts same f r t)) + total (starting t w) (held_with r (open_starts same f r (suc t)))
    row_told w r =
        let q = is r in
        let m = row_move t r w (ends r - starts r) (starts r - ends r) (since r) (subst (AllBelow t) (sym q) (queue_early r t)) in
        let n = queues_next same f t ends starts moves since is r in
        let a = ap (λ l. total (ending t w) (held_with r l)) n in
        let b = ap (λ l. total (starting t w) (held_with r l)) n in
        let c = ap (λ l. total (ending t w) (held_with r l)) q in
        let d = ap (λ l. total (starting t w) (held_with r l)) q in
        omega (arith, m, a, b, c, d)

    all_told : (w : Edge → ℕ) → total (λ r. total w (queue_told t ends starts since r)) (distinct same (rows_below f inf)) ≡ total w (news t (suc t) (coalesced same f))
    all_told w =
        let D = distinct same (rows_below f inf) in
        let E = coalesced same f in
        let n = news_move w t E (AreEvents-none_fails E (coalesced_valid same tells f)) in
        let o0 = opens_are same f t (omega (arith, low)) in
        let o1 = opens_are same f (suc t) low in
        let e0 = o0.weigh (ending t w) ∙ total-flat_map (ending t w) (λ r. held_with r (open_starts same f r t)) D in
        let s0 = o0.weigh (starting t w) ∙ total-flat_map (starting t w) (λ r. held_with r (open_starts same f r t)) D in
        let e1 = o1.weigh (ending t w) ∙ total-flat_map (ending t w) (λ r. held_with r (open_starts same f r (suc t))) D in
        let s1 = o1.weigh (starting t w) ∙ total-flat_map (starting t w) (λ r. held_with r (open_starts same f r (suc t))) D in
        let x = total_same (λ r. total w (queue_told t ends starts since r) + total (ending t w) (held_with r (open_starts same f r (suc t))) + total (starting t w) (held_with r (open_starts same f r t)))
        (λ r. total (ending t w) (held_with r (open_starts same f r t)) + total (starting t w) (held_with r (open_starts same f r (suc t)))) D (row_told w) in
        let a = total-add (λ r. total w (queue_told t ends starts since r) + total (ending t w) (held_with r (open_starts same f r (suc t)))) (λ r. total (starting t w) (held_with r (open_starts same f r t))) D in
        let b = total-add (λ r. total w (queue_told t ends starts since r)) (λ r. total (ending t w) (held_with r (open_starts same f r (suc t)))) D in
        let c = total-add (λ r. total (ending t w) (held_with r (open_starts same f r t))) (λ r. total (starting t w) (held_with r (open_starts same f r (suc t)))) D in
        omega (arith, n, e0, s0, e1, s1, x, a, b, c)

    pub touched_told : (touched : List Cells) → ((r : Cells) → list_any (same r) touched ≡ false → ends r ≡ starts r) →
        (w : Edge → ℕ) → total w (flat_map (queue_told t ends starts since) (distinct same touched)) ≡ total w (news t (suc t) (coalesced same f))
    touched_told touched others w =
        let g : Cells → ℕ = λ r. total w (queue_told t ends starts since r) in
        let rows = rows_below f inf in
        let a = sum_distinct same tells g (touched ++ rows) touched (λ r none. told_none r (others r none) w) (λ r some. list_any-append (same r) touched rows ∙ left (list_any (same r) touched) (list_any (same r) rows) some) in
        let b = sum_distinct same tells g (touched ++ rows) rows
        (λ r none. let m = moves r in let x = never r inf none t low in let y = never_before r none t low in told_none r (omega (arith, m, x, y)) w)
        (λ r some. list_any-append (same r) touched rows ∙ right (list_any (same r) touched) (list_any (same r) rows) some) in
        let c = total-flat_map w (queue_told t ends starts since) (distinct same touched) in
        let d = all_told w in
        omega (arith, a, b, c, d)
      where
        left : (a b : Bool) → a ≡ true → (a || b) ≡ true
        left true b h = refl
        left false b h = absurd (cc)

        right : (a b : Bool) → b ≡ true → (a || b) ≡ true
        right true b h = refl
        right false b h = h

-- where nothing moves
module _ (same : Cells → Cells → Bool) (f : ℕ → List Cells) where
  still_moves : (t : ℕ) → SameBag (f t) (rows_before f t) → AreMoves same f t (λ r. 0) (λ r. 0)
  still_moves t h = λ r. let a = h.weigh (λ x. cond {A = ℕ} (same r x) 1 0) in omega (arith, a)

  pub stays_told : Tells same → (t : ℕ) → t < inf → SameBag (f t) (rows_before f t) → (w : Edge → ℕ) → total w (news t (suc t) (coalesced same f)) ≡ 0
  stays_told tells t low h w = sym (touched_told same f tells t low (λ r. 0) (λ r. 0) (still_moves t h) (λ r. open_starts same f r t) (λ r. refl) [] (λ r none. refl) w)

  pub stays_same : (t : ℕ) → SameBag (f t) (rows_before f t) → (r : Cells) → open_starts same f r (suc t) ≡ open_starts same f r t
  stays_same t h r = sym (queues_next same f t (λ x. 0) (λ x. 0) (still_moves t h) (λ x. open_starts same f x t) (λ x. refl) r) ∙ append-nil (open_starts same f r t)
