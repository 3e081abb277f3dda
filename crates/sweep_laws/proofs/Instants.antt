-- A list of edges in the order of syncs, cut at one instant.
use Rattle.std.specs.Prelude.{◌≡◌, ℕ, zero, suc, ◌+◌, ◌*◌, ◌<◌, ◌≤◌, ◌&&◌, true, cond, List, [], ◌∷◌, ◌++◌, length, take, drop, get_or, refl}
use Rattle.std.proofs.Common.{◌-◌, length-drop, ◌∙◌, ap, arith}
use Rattle.std.proofs.lemmas.Bool.Decides.{nat_tests}
use Rattle.tw_rows.specs.Bag.{SameBag, total}
use Rattle.tw_rows.specs.declared.edge.Edge.{Edge}
use Rattle.tw_rows.proofs.Bags.{total-append, total_zero, SameBag-refl}
use Rattle.edge_history.specs.Order.{failing, rank, Rises, is_below, is_from}
use Rattle.edge_history.specs.History.{CellEvent}
use Rattle.edge_history.specs.Balance.{news}
use Rattle.edge_history.proofs.Sums.{sum_eq, failing-both}
use Rattle.edge_history.proofs.Telling.{answer_from, answer_below, news_in_parts}
use Rattle.sweep_laws.specs.Sweeps.{is_at, IsPast, SyncsRise}

-- order
pub rises_from : (c r : ℕ) (es : List Edge) → c ≤ r → SyncsRise r es → failing (is_from c) es ≡ 0
rises_from c r [] low h = refl
rises_from c r (e ∷ es) low h =
    let a = rises_from c e.sync es (omega (arith, h)) h.1 in
    let b = one c e (omega (arith, h)) in
    omega (arith, a, b)
  where
    one : (c : ℕ) (e : Edge) → c ≤ e.sync → cond {A = ℕ} (is_from c e) 0 1 ≡ 0
    one c e low = grind (arith, nat_tests)

past_from : (t r : ℕ) (es : List Edge) → t ≤ r → SyncsRise r es → IsPast t es → failing (is_from (suc t)) es ≡ 0
past_from t r [] low h past = refl
past_from t r (e ∷ es) low h past = rises_from (suc t) (suc t) (e ∷ es) (omega arith) (later t e (omega (arith, h)) past, h.1)
  where
    later : (t : ℕ) (e : Edge) → t ≤ e.sync → (e.sync ≡ t → ⊥) → suc t ≤ e.sync
    later t e low past = grind (arith, nat_tests)

after_now : (t r : ℕ) (now rest : List Edge) → t ≤ r → failing (is_at t) now ≡ 0 → SyncsRise r (now ++ rest) → IsPast t rest → failing (is_from (suc t)) rest ≡ 0
after_now t r [] rest low at h past = past_from t r rest low h past
after_now t r (x ∷ now) rest low at h past = after_now t x.sync now rest (omega (arith, low, h)) (omega (arith, at)) h.1 past

rises_rest : (r : ℕ) (now rest : List Edge) → SyncsRise r (now ++ rest) → SyncsRise 0 rest
rises_rest r [] [] h = tt
rises_rest r [] (e ∷ es) h = (omega arith, h.1)
rises_rest r (x ∷ now) rest h = rises_rest x.sync now rest h.1

syncs_from : (s r : ℕ) (es : List Edge) → 2 * s ≤ r → Rises r es → SyncsRise s es
syncs_from s r [] low h = tt
syncs_from s r (e ∷ es) low h = (one s r e low h.0, syncs_from e.sync (rank e) es (two e) h.1)
  where
    one : (s r : ℕ) (e : Edge) → 2 * s ≤ r → r ≤ rank e → s ≤ e.sync
    one s r e low h = grind (arith, nat_tests)

    two : (e : Edge) → 2 * e.sync ≤ rank e
    two e = omega arith

-- a list in the order of ranks has rising syncs
pub syncs_rise : (es : List Edge) → Rises 0 es → SyncsRise 0 es
syncs_rise es h = syncs_from 0 0 es (omega arith) h

-- the edges of one instant, in a list in the order of syncs
module _ (a : List CellEvent) (u t to : ℕ) (now rest : List Edge) (low : u ≤ t) (high : t < to) (at : failing (is_at t) now ≡ 0)
    (later : failing (is_from (suc t)) rest ≡ 0) (is : SameBag (now ++ rest) (news u to a)) where
  weights : (w : Edge → ℕ) → total w now + total w rest ≡ total w (news u t a) + (total w (news t (suc t) a) + total w (news (suc t) to a))
  weights w =
      let x = is.weigh w in
      let y = total-append w now rest in
      let p = (news_in_parts u t to a low (omega arith)).weigh w in
      let q = (news_in_parts t (suc t) to a (omega arith) (omega arith)).weigh w in
      let r = total-append w (news u t a) (news t to a) in
      let s = total-append w (news t (suc t) a) (news (suc t) to a) in
      omega (arith, x, y, p, q, r, s)

  before : failing (is_below t) (news u t a) ≡ 0
  before = answer_below u t (news u t a) a (SameBag-refl _)

  then : failing (λ x. is_from t x && is_below (suc t) x) (news t (suc t) a) ≡ 0
  then = failing-both (is_from t) (is_below (suc t)) (news t (suc t) a) (answer_from t (suc t) (news t (suc t) a) a (SameBag-refl _)) (answer_below t (suc t) (news t (suc t) a) a (SameBag-refl _))

  after : failing (is_from (suc t)) (news (suc t) to a) ≡ 0
  after = answer_from (suc t) to (news (suc t) to a) a (SameBag-refl _)

  at_low : (t : ℕ) (w : ℕ) (x : Edge) → is_below t x ≡ true → cond (is_at t x) w 0 ≡ 0
  at_low t w x h = grind (arith, nat_tests)

  at_then : (t : ℕ) (w : ℕ) (x : Edge) → (is_from t x && is_below (suc t) x) ≡ true → cond (is_at t x) w 0 ≡ w
  at_then t w x h = grind (arith, nat_tests)

  at_after : (t : ℕ) (w : ℕ) (x : Edge) → is_from (suc t) x ≡ true → cond (is_at t x) w 0 ≡ 0
  at_after t w x h = grind (arith, nat_tests)

  at_now : (t : ℕ) (w : ℕ) (x : Edge) → is_at t x ≡ true → cond (is_at t x) w 0 ≡ w
  at_now t w x h = grind (arith, nat_tests)

  pub now_is : SameBag now (news t (suc t) a)
  now_is = record {
    weigh = λ w.
        let v : Edge → ℕ = λ x. cond (is_at t x) (w x) 0 in
        let z = weights v in
        let n = sum_eq (is_at t) v w now (λ x h. at_now t (w x) x h) at in
        let r = sum_eq (is_from (suc t)) v (λ x. 0) rest (λ x h. at_after t (w x) x h) later ∙ total_zero rest in
        let b = sum_eq (is_below t) v (λ x. 0) (news u t a) (λ x h. at_low t (w x) x h) before ∙ total_zero (news u t a) in
        let c = sum_eq (λ x. is_from t x && is_below (suc t) x) v w (news t (suc t) a) (λ x h. at_then t (w x) x h) then in
        let d = sum_eq (is_from (suc t)) v (λ x. 0) (news (suc t) to a) (λ x h. at_after t (w x) x h) after ∙ total_zero (news (suc t) to a) in
        omega (arith, z, n, r, b, c, d);
  }

  low_low : (t : ℕ) (w : ℕ) (x : Edge) → is_below t x ≡ true → cond (is_below t x) w 0 ≡ w
  low_low t w x h = grind (arith, nat_tests)

  low_now : (t : ℕ) (w : ℕ) (x : Edge) → is_at t x ≡ true → cond (is_below t x) w 0 ≡ 0
  low_now t w x h = grind (arith, nat_tests)

  low_then : (t : ℕ) (w : ℕ) (x : Edge) → (is_from t x && is_below (suc t) x) ≡ true → cond (is_below t x) w 0 ≡ 0
  low_then t w x h = grind (arith, nat_tests)

  low_after : (t : ℕ) (w : ℕ) (x : Edge) → is_from (suc t) x ≡ true → cond (is_below t x) w 0 ≡ 0
  low_after t w x h = grind (arith, nat_tests)

  pub none_before : (w : Edge → ℕ) → total w (news u t a) ≡ 0
  none_before w =
      let v : Edge → ℕ = λ x. cond (is_below t x) (w x) 0 in
      let z = weights v in
      let n = sum_eq (is_at t) v (λ x. 0) now (λ x h. low_now t (w x) x h) at ∙ total_zero now in
      let r = sum_eq (is_from (suc t)) v (λ x. 0) rest (λ x h. low_after t (w x) x h) later ∙ total_zero rest in
      let b = sum_eq (is_below t) v w (news u t a) (λ x h. low_low t (w x) x h) before in
      omega (arith, z, n, r, b)

  pub rest_is : SameBag rest (news (suc t) to a)
  rest_is = record { weigh = λ w. let z = weights w in let n = now_is.weigh w in let b = none_before w in omega (arith, z, n, b) }

from_head : (c t : ℕ) (x : Edge) → x.sync ≡ t → cond {A = ℕ} (is_from c x) 0 1 ≡ 0 → c ≤ t
from_head c t x e h = grind (arith, nat_tests)

below_head : (c t : ℕ) (x : Edge) → x.sync ≡ t → cond {A = ℕ} (is_below c x) 0 1 ≡ 0 → t < c
below_head c t x e h = grind (arith, nat_tests)

-- the times of the first edge
pub head_between : (a : List CellEvent) (u to t : ℕ) (x : Edge) (rest : List Edge) → x.sync ≡ t → SameBag (x ∷ rest) (news u to a) → (u ≤ t) × (t < to)
head_between a u to t x rest e is =
    let f = answer_from u to (x ∷ rest) a is in
    let b = answer_below u to (x ∷ rest) a is in
    (from_head u t x e (omega (arith, f)), below_head to t x e (omega (arith, b)))

-- what is left of a list
pub drop_at : {X : Type 0} (xs : List X) (i : ℕ) (d : X) → i < length xs → drop i xs ≡ get_or xs i d ∷ drop (i + 1) xs
drop_at [] i d low = absurd (omega arith)
drop_at (x ∷ xs) zero d low = refl
drop_at (x ∷ xs) (suc i) d low = drop_at xs i d (omega arith) ∙ ap (λ n. get_or xs i d ∷ drop n (x ∷ xs)) (let e : suc (i + 1) ≡ suc i + 1 = omega arith in e)

pub drop_past : {X : Type 0} (xs : List X) (i : ℕ) → length xs ≤ i → drop i xs ≡ []
drop_past [] zero low = refl
drop_past [] (suc i) low = refl
drop_past (x ∷ xs) zero low = absurd (omega arith)
drop_past (x ∷ xs) (suc i) low = drop_past xs i (omega arith)

pub whole_rest : {X : Type 0} (xs : List X) (i : ℕ) → take (length xs - i) (drop i xs) ≡ drop i xs
whole_rest xs i = whole (length xs - i) (drop i xs) (let e = length-drop i xs in omega (arith, e))
  where
    whole : {X : Type 0} (n : ℕ) (xs : List X) → length xs ≤ n → take n xs ≡ xs
    whole zero [] h = refl
    whole (suc n) [] h = refl
    whole zero (x ∷ xs) h = absurd (omega arith)
    whole (suc n) (x ∷ xs) h = ap (λ l. x ∷ l) (whole n xs (omega arith))
