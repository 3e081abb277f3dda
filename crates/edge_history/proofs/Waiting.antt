-- What waits of the single edges of a side, and what is due below a time.
use Rattle.std.specs.Prelude.{◌≡◌, ℕ, ◌+◌, ◌*◌, ◌≤◌, ◌&&◌, Bool, true, false, cond, List, [], ◌∷◌, ◌++◌, filter, length, refl}
use Rattle.std.proofs.Common.{sym, ◌∙◌, ap, arith}
use Rattle.std.proofs.lemmas.Bool.Decides.{nat_tests}
use Rattle.tw_rows.specs.Instant.{inf}
use Rattle.tw_rows.specs.Bag.{SameBag, total}
use Rattle.tw_rows.specs.Event.{cut}
use Rattle.tw_rows.specs.declared.edge.Edge.{Edge}
use Rattle.tw_rows.specs.declared.edge.HeldRow.{HeldRow}
use Rattle.tw_rows.proofs.Bags.{total-append, total-flat_map, total-filter, total_same, total_zero, total-add}
use Rattle.edge_history.specs.Order.{failing, many, is_real, is_below, is_from, IsHistory}
use Rattle.edge_history.specs.History.{CellEvent, of}
use Rattle.edge_history.specs.Balance.{news_of, news}
use Rattle.edge_history.specs.Side.{reaches}
use Rattle.edge_history.specs.Opens.{singles_of, singles, is_start, open_of, opens}
use Rattle.edge_history.proofs.Sums.{sum_eq, sum_le, failing-parts}
use Rattle.edge_history.proofs.Telling.{is_event}
use Rattle.edge_history.proofs.Retaining.{events_of_are, same_below, valid_from}
use Rattle.edge_history.proofs.Opening.{singles_are_news}

news_part_of : (w : Edge → ℕ) (c d : ℕ) (e : CellEvent) → d ≤ inf →
    total (λ x. cond (is_from c x && is_below d x) (w x) 0) (news_of 0 inf e) ≡ total w (news_of c d e)
news_part_of w c d e high = grind (arith, nat_tests)

pub news_between : (w : Edge → ℕ) (c d : ℕ) (a : List CellEvent) → d ≤ inf →
    total (λ x. cond (is_from c x && is_below d x) (w x) 0) (news 0 inf a) ≡ total w (news c d a)
news_between w c d a high =
    total-flat_map (λ x. cond (is_from c x && is_below d x) (w x) 0) (news_of 0 inf) a
    ∙ total_same _ _ a (λ e. news_part_of w c d e high) ∙ sym (total-flat_map w (news_of c d) a)

single_from : (w : Edge → ℕ) (c : ℕ) (e : Edge) → is_from c e ≡ true →
    total (λ x. cond (is_from c x) (w x) 0) (singles_of e) ≡ total w (singles_of e)
single_from w c e h = grind (arith, nat_tests)

pub singles_from : (w : Edge → ℕ) (c : ℕ) (new : List Edge) → failing (is_from c) new ≡ 0 → total (λ x. cond (is_from c x) (w x) 0) (singles new) ≡ total w (singles new)
singles_from w c new from =
    total-flat_map (λ x. cond (is_from c x) (w x) 0) singles_of new
    ∙ sum_eq (is_from c) _ _ new (λ e h. single_from w c e h) from ∙ sym (total-flat_map w singles_of new)

pub singles_both : (w : Edge → ℕ) (h new : List Edge) → total w (singles (h ++ new)) ≡ total w (singles h) + total w (singles new)
singles_both w h new =
    total-flat_map w singles_of (h ++ new) ∙ total-append (λ e. total w (singles_of e)) h new
    ∙ ap (λ n. n + total (λ e. total w (singles_of e)) new) (sym (total-flat_map w singles_of h))
    ∙ ap (λ n. total w (singles h) + n) (sym (total-flat_map w singles_of new))

pick_below : (t : ℕ) (n : ℕ) (x : Edge) → is_below t x ≡ true → cond (is_below t x) n 0 ≡ n
pick_below t n x h = grind (arith, nat_tests)

drop_from : (t : ℕ) (n : ℕ) (x : Edge) → is_from t x ≡ true → cond (is_below t x) n 0 ≡ 0
drop_from t n x h = grind (arith, nat_tests)

drop_below : (t : ℕ) (n : ℕ) (x : Edge) → is_below t x ≡ true → cond (is_from t x) n 0 ≡ 0
drop_below t n x h = grind (arith, nat_tests)

pick_from : (t : ℕ) (n : ℕ) (x : Edge) → is_from t x ≡ true → cond (is_from t x) n 0 ≡ n
pick_from t n x h = grind (arith, nat_tests)

from_both : (c d n : ℕ) (x : Edge) → c ≤ d → cond (is_from c x) (cond (is_from d x) n 0) 0 ≡ cond (is_from d x) n 0
from_both c d n x low = grind (arith, nat_tests)

below_both : (c d n : ℕ) (x : Edge) → cond (is_from c x) (cond (is_below d x) n 0) 0 ≡ cond (is_from c x && is_below d x) n 0
below_both c d n x = grind (arith, nat_tests)

module _ (came new pending due pending2 : List Edge) (to to2 : ℕ) (low : to ≤ to2) (high : to2 ≤ inf) (whole : IsHistory (came ++ new)) (from : failing (is_from to) new ≡ 0)
    (pending_is : SameBag pending (filter (is_from to) (singles came))) (parts : (w : Edge → ℕ) → total w due + total w pending2 ≡ total w pending + total w (singles new))
    (due_below : failing (is_below to2) due ≡ 0) (rest_from : failing (is_from to2) pending2 ≡ 0) where
  all_from : (w : Edge → ℕ) → total w due + total w pending2 ≡ total (λ x. cond (is_from to x) (w x) 0) (singles (came ++ new))
  all_from w =
      let p = parts w in
      let q = pending_is.weigh w in
      let r = total-filter w (is_from to) (singles came) in
      let s = singles_from w to new from in
      let b = singles_both (λ x. cond (is_from to x) (w x) 0) came new in
      omega (arith, p, q, r, s, b)

  pub pending_then : SameBag pending2 (filter (is_from to2) (singles (came ++ new)))
  pending_then = record {
    weigh = λ w.
        let v : Edge → ℕ = λ x. cond (is_from to2 x) (w x) 0 in
        let z = all_from v in
        let d = sum_eq (is_below to2) v (λ x. 0) due (λ x h. drop_below to2 (w x) x h) due_below ∙ total_zero due in
        let p = sum_eq (is_from to2) v w pending2 (λ x h. pick_from to2 (w x) x h) rest_from in
        let f = total-filter w (is_from to2) (singles (came ++ new)) in
        let g = total_same (λ x. cond (is_from to x) (v x) 0) v (singles (came ++ new)) (λ x. from_both to to2 (w x) x low) in
        omega (arith, z, d, p, f, g);
  }

  pub due_is : SameBag due (news to to2 (of (came ++ new)))
  due_is = record {
    weigh = λ w.
        let v : Edge → ℕ = λ x. cond (is_below to2 x) (w x) 0 in
        let z = all_from v in
        let d = sum_eq (is_below to2) v w due (λ x h. pick_below to2 (w x) x h) due_below in
        let p = sum_eq (is_from to2) v (λ x. 0) pending2 (λ x h. drop_from to2 (w x) x h) rest_from ∙ total_zero pending2 in
        let g = total_same (λ x. cond (is_from to x) (v x) 0) (λ x. cond (is_from to x && is_below to2 x) (w x) 0) (singles (came ++ new)) (λ x. below_both to to2 (w x) x) in
        let n = (singles_are_news (came ++ new) (of (came ++ new)) whole.real (events_of_are (came ++ new) whole)).weigh (λ x. cond (is_from to x && is_below to2 x) (w x) 0) in
        let m = news_between w to to2 (of (came ++ new)) high in
        omega (arith, z, d, p, g, n, m);
  }

  -- what the edges that came before say below `to` is what all say
  pub known_then : IsHistory came → SameBag (cut to (of came)) (cut to (of (came ++ new)))
  known_then k = same_below to came new (of came) (of (came ++ new)) (omega arith) (failing-parts is_real came new whole.real).1 from (events_of_are came k) (events_of_are (came ++ new) whole)

-- the same where starts alone wait
pick_both : (c d n : ℕ) (s : Bool) (x : Edge) → cond (is_from c x) (cond s (cond (is_below d x) n 0) 0) 0 ≡ cond (is_from c x && is_below d x) (cond s n 0) 0
pick_both c d n s x = grind (arith, nat_tests)

keep_both : (c d n : ℕ) (s : Bool) (x : Edge) → c ≤ d → cond (is_from c x) (cond s (cond (is_from d x) n 0) 0) 0 ≡ cond (is_from d x) (cond s n 0) 0
keep_both c d n s x low = grind (arith, nat_tests)

module _ (came new waiting due rest : List Edge) (c d : ℕ) (low : c ≤ d) (high : d ≤ inf) (whole : IsHistory (came ++ new)) (from : failing (is_from c) new ≡ 0)
    (waits : SameBag waiting (filter is_start (filter (is_from c) (singles came))))
    (parts : (w : Edge → ℕ) → total w due + total w rest ≡ total w waiting + total w (filter is_start (singles new)))
    (due_below : failing (is_below d) due ≡ 0) (rest_from : failing (is_from d) rest ≡ 0) where
  starts_from : (w : Edge → ℕ) → total w due + total w rest ≡ total (λ x. cond (is_from c x) (cond (is_start x) (w x) 0) 0) (singles (came ++ new))
  starts_from w =
      let s : Edge → ℕ = λ x. cond (is_start x) (w x) 0 in
      let p = parts w in
      let q = waits.weigh w in
      let r = total-filter w is_start (filter (is_from c) (singles came)) ∙ total-filter s (is_from c) (singles came) in
      let t = total-filter w is_start (singles new) in
      let u = singles_from s c new from in
      let b = singles_both (λ x. cond (is_from c x) (s x) 0) came new in
      omega (arith, p, q, r, t, u, b)

  pub starts_rest : SameBag rest (filter is_start (filter (is_from d) (singles (came ++ new))))
  starts_rest = record {
    weigh = λ w.
        let v : Edge → ℕ = λ x. cond (is_from d x) (w x) 0 in
        let z = starts_from v in
        let a = sum_eq (is_below d) v (λ x. 0) due (λ x h. drop_below d (w x) x h) due_below ∙ total_zero due in
        let b = sum_eq (is_from d) v w rest (λ x h. pick_from d (w x) x h) rest_from in
        let f = total-filter w is_start (filter (is_from d) (singles (came ++ new))) ∙ total-filter (λ x. cond (is_start x) (w x) 0) (is_from d) (singles (came ++ new)) in
        let g = total_same (λ x. cond (is_from c x) (cond (is_start x) (v x) 0) 0) (λ x. cond (is_from d x) (cond (is_start x) (w x) 0) 0) (singles (came ++ new)) (λ x. keep_both c d (w x) (is_start x) x low) in
        omega (arith, z, a, b, f, g);
  }

  pub starts_due : SameBag due (filter is_start (news c d (of (came ++ new))))
  starts_due = record {
    weigh = λ w.
        let v : Edge → ℕ = λ x. cond (is_below d x) (w x) 0 in
        let s : Edge → ℕ = λ x. cond (is_start x) (w x) 0 in
        let z = starts_from v in
        let a = sum_eq (is_below d) v w due (λ x h. pick_below d (w x) x h) due_below in
        let b = sum_eq (is_from d) v (λ x. 0) rest (λ x h. drop_from d (w x) x h) rest_from ∙ total_zero rest in
        let g = total_same (λ x. cond (is_from c x) (cond (is_start x) (v x) 0) 0) (λ x. cond (is_from c x && is_below d x) (s x) 0) (singles (came ++ new)) (λ x. pick_both c d (w x) (is_start x) x) in
        let n = (singles_are_news (came ++ new) (of (came ++ new)) whole.real (events_of_are (came ++ new) whole)).weigh (λ x. cond (is_from c x && is_below d x) (s x) 0) in
        let m = news_between s c d (of (came ++ new)) high in
        let f = total-filter w is_start (news c d (of (came ++ new))) in
        omega (arith, z, a, b, g, n, m, f);
  }

-- what is kept of a side is bounded by the events that do not end before the time
open_reaches : (c : ℕ) (e : CellEvent) → is_event e ≡ true →
    total (λ x. 1) (open_of c e) + total (λ x. cond (is_from c x) 1 0) (news_of 0 inf e) ≤ cond (reaches c e) 2 0
open_reaches c e v = grind (arith, nat_tests)

pub side_bound : (h : List Edge) (rows : List HeldRow) (waiting : List Edge) (to : ℕ) → IsHistory h → SameBag rows (opens to (of h)) → SameBag waiting (filter (is_from to) (singles h)) →
    length rows + length waiting ≤ 2 * many (reaches to) (of h)
side_bound h rows waiting to k r q =
    let a = of h in
    let v = valid_from h a k.real (events_of_are h k) in
    let x = r.weigh (λ r. 1) in
    let y = q.weigh (λ e. 1) in
    let z = total-filter (λ e. 1) (is_from to) (singles h) in
    let n = (singles_are_news h a k.real (events_of_are h k)).weigh (λ x. cond (is_from to x) 1 0) in
    let p = total-flat_map (λ r. 1) (open_of to) a in
    let o = total-flat_map (λ x. cond (is_from to x) 1 0) (news_of 0 inf) a in
    let s = sum_le is_event (λ e. total (λ x. 1) (open_of to e) + total (λ x. cond (is_from to x) 1 0) (news_of 0 inf e)) (λ e. cond (reaches to e) 2 0) a (λ e i. open_reaches to e i) v in
    let t = total-add (λ e. total (λ x. 1) (open_of to e)) (λ e. total (λ x. cond (is_from to x) 1 0) (news_of 0 inf e)) a in
    let l = length_is rows in
    let m = length_is waiting in
    let d = twice (reaches to) a in
    omega (arith, x, y, z, n, p, o, s, t, l, m, d)
  where
    length_is : {X : Type 0} (xs : List X) → total (λ x. 1) xs ≡ length xs
    length_is [] = refl
    length_is (x ∷ xs) = let h = length_is xs in omega (arith, h)

    double : (b : Bool) → cond {A = ℕ} b 2 0 ≡ cond b 1 0 + cond b 1 0
    double true = refl
    double false = refl

    twice : {X : Type 0} (p : X → Bool) (xs : List X) → total (λ x. cond (p x) 2 0) xs ≡ 2 * many p xs
    twice p [] = refl
    twice p (x ∷ xs) = let h = twice p xs in let d = double (p x) in omega (arith, h, d)
