-- One side, and two, at the next instant; and what is told from one time to another.
use Rattle.std.specs.Prelude.{◌≡◌, ℕ, zero, suc, ◌+◌, ◌*◌, ◌<◌, ◌≤◌, List, [], ◌∷◌, ◌++◌, take, drop, refl}
use Rattle.std.proofs.Common.{inl, inr, sym, ap, subst, arith}
use Rattle.std.proofs.lemmas.Bool.Decides.{nat_tests}
use Rattle.tw_rows.specs.Instant.{inf}
use Rattle.tw_rows.specs.Bag.{SameBag, total}
use Rattle.tw_rows.specs.Event.{cut}
use Rattle.tw_rows.specs.declared.edge.Edge.{Edge}
use Rattle.tw_rows.proofs.Bags.{total-append}
use Rattle.edge_history.specs.Order.{failing, is_from}
use Rattle.edge_history.specs.History.{CellEvent}
use Rattle.edge_history.specs.Balance.{news, Told}
use Rattle.edge_history.proofs.Telling.{is_event, news_in_parts, told_same, told_more}
use Rattle.sweep_laws.specs.Sweeps.{is_at, IsPast, SyncsRise, IsDue, Tells, HeadFrom, StartsAt, IsNext}
use Rattle.sweep_laws.proofs.Ordering.{order_later}
use Rattle.sweep_laws.proofs.Instants.{rises_from, now_is, none_before, rest_is, head_between}

take_drop : (n : ℕ) (xs : List Edge) → take n xs ++ drop n xs ≡ xs
take_drop zero xs = refl
take_drop (suc n) [] = refl
take_drop (suc n) (x ∷ xs) = ap (λ l. x ∷ l) (take_drop n xs)

pub rise_weaker : (s r : ℕ) (xs : List Edge) → s ≤ r → SyncsRise r xs → SyncsRise s xs
rise_weaker s r [] low h = tt
rise_weaker s r (x ∷ xs) low h = (omega (arith, low, h), h.1)

pub rise_drop : (n r : ℕ) (xs : List Edge) → SyncsRise r xs → SyncsRise r (drop n xs)
rise_drop zero r xs h = h
rise_drop (suc n) r [] h = tt
rise_drop (suc n) r (x ∷ xs) h = rise_weaker r x.sync (drop n xs) (omega (arith, h)) (rise_drop n x.sync xs h.1)

pub rise_head : (t : ℕ) (xs : List Edge) → HeadFrom t xs → SyncsRise 0 xs → SyncsRise t xs
rise_head t [] h k = tt
rise_head t (x ∷ xs) h k = (h, k.1)

pub rise_past : (t : ℕ) (xs : List Edge) → SyncsRise t xs → IsPast t xs → SyncsRise (suc t) xs
rise_past t [] h p = tt
rise_past t (x ∷ xs) h p = (above t x.sync h.0 p, h.1)
  where
    above : (t s : ℕ) → t ≤ s → (s ≡ t → ⊥) → suc t ≤ s
    above t s l p = grind (arith, nat_tests)

-- one side at the next instant, which may have no edge of it
module _ (a : List CellEvent) (u t to n : ℕ) (rest : List Edge) (d : IsDue a u to rest) (low : u ≤ t) (high : t < to) (head : HeadFrom t rest)
    (at : failing (is_at t) (take n rest) ≡ 0) (past : IsPast t (drop n rest)) where
  later : failing (is_from (suc t)) (drop n rest) ≡ 0
  later = rises_from (suc t) (suc t) (drop n rest) (omega arith) (rise_past t (drop n rest) (rise_drop n t rest (rise_head t rest head d.order)) past)

  whole : SameBag (take n rest ++ drop n rest) (news u to a)
  whole = subst (λ l. SameBag l (news u to a)) (sym (take_drop n rest)) d.news_of

  pub side_now : SameBag (take n rest) (news t (suc t) a)
  side_now = now_is a u t to (take n rest) (drop n rest) low high at later whole

  pub side_none : (w : Edge → ℕ) → total w (news u t a) ≡ 0
  side_none = none_before a u t to (take n rest) (drop n rest) low high at later whole

  pub side_rest : IsDue a (suc t) to (drop n rest)
  side_rest = record {
    low = high;
    high = d.high;
    lives = d.lives;
    news_of = rest_is a u t to (take n rest) (drop n rest) low high at later whole;
    order = rise_drop n 0 rest d.order;
  }

pub starts_between : (a : List CellEvent) (u t to : ℕ) (rest : List Edge) → IsDue a u to rest → StartsAt t rest → (u ≤ t) × (t < to)
starts_between a u t to [] d s = absurd s
starts_between a u t to (x ∷ xs) d s = head_between a u to t x xs s d.news_of

pub starts_from : (t : ℕ) (rest : List Edge) → StartsAt t rest → HeadFrom t rest
starts_from t [] s = absurd s
starts_from t (x ∷ xs) s = omega (arith, s)

pub next_between : (a b : List CellEvent) (u t to : ℕ) (left right : List Edge) → IsDue a u to left → IsDue b u to right → IsNext t left right → (u ≤ t) × (t < to)
next_between a b u t to left right dl dr h = elim h.found [
  | inl s ↦ starts_between a u t to left dl s
  | inr s ↦ starts_between b u t to right dr s
]

-- at least one edge is of the next instant
pub some_done : (t n m : ℕ) (left right : List Edge) → IsNext t left right → IsPast t (drop n left) → IsPast t (drop m right) → 1 ≤ n + m
some_done t zero zero left right h p q = elim h.found [
  | inl s ↦ absurd (no left s p)
  | inr s ↦ absurd (no right s q)
]
  where
    no : (xs : List Edge) → StartsAt t xs → IsPast t xs → ⊥
    no [] s p = s
    no (x ∷ xs) s p = p s
some_done t zero (suc m) left right h p q = omega arith
some_done t (suc n) m left right h p q = omega arith

-- what is told in parts
pub tells_parts : (events : List CellEvent) (from t to : ℕ) (x y z : List Edge) → from ≤ t → t ≤ to → Tells events from t x y → Tells events t to y z → Tells events from to x z
tells_parts events from t to x y z low high h k = record {
  weigh = λ w.
      let a = h.weigh w in
      let b = k.weigh w in
      let p = (news_in_parts from t to events low high).weigh w in
      let q = total-append w (news from t events) (news t to events) in
      omega (arith, a, b, p, q);
  order = λ up. k.order (h.order up);
}

pub tells_still : (events : List CellEvent) (from to : ℕ) (x : List Edge) → from ≤ to → ((w : Edge → ℕ) → total w (news from to events) ≡ 0) → Tells events from to x x
tells_still events from to x low none = record {
  weigh = λ w. let z = none w in omega (arith, z);
  order = λ up. order_later (2 * from) (2 * to) x (omega (arith, low)) up;
}

-- what is told of events stays told where more of them is known, and goes on
pub told_step : (c d : ℕ) (out answer0 answer : List Edge) (events later : List CellEvent) → c ≤ d → d ≤ inf → failing is_event later ≡ 0 →
    SameBag (cut c events) (cut c later) → Told c out events → answer0 ≡ [] → Tells later c d answer0 answer → Told d (out ++ answer) later
told_step c d out answer0 answer events later low high valid known told empty h =
    let t = subst (λ l. Tells later c d l answer) empty h in
    told_more c d out answer later low high valid (told_same c out events later known told)
    (t.order (record { rises = tt; below = refl })).rises (record { weigh = λ w. let z = t.weigh w in omega (arith, z) })
