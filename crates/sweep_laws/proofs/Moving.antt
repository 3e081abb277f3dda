-- The news of an instant lead from what was open to what is open.
use Rattle.std.specs.Prelude.{◌≡◌, ◌-◌, ℕ, zero, suc, ◌+◌, ◌<◌, ◌≤◌, true, List}
use Rattle.std.proofs.Common.{◌∙◌, ap, arith}
use Rattle.std.proofs.lemmas.Bool.Decides.{nat_tests}
use Rattle.tw_rows.specs.Bag.{SameBag, total}
use Rattle.tw_rows.specs.declared.edge.Edge.{Edge}
use Rattle.tw_rows.proofs.Bags.{total-append, total-flat_map, total-add}
use Rattle.edge_history.specs.Order.{failing}
use Rattle.edge_history.specs.History.{CellEvent}
use Rattle.edge_history.specs.Balance.{news_of, news}
use Rattle.edge_history.proofs.Sums.{sum_eq}
use Rattle.edge_history.proofs.Telling.{is_event, news_in_parts, news_none}
use Rattle.tw_rows.specs.declared.edge.HeldRow.{HeldRow}
use Rattle.edge_history.specs.Opens.{open_of, opens}
use Rattle.sweep_laws.specs.Moves.{ending, starting, Moves}

news_one : (w : Edge → ℕ) (t : ℕ) (e : CellEvent) → is_event e ≡ true →
    total w (news_of t (suc t) e) + total (ending t w) (open_of (suc t) e) + total (starting t w) (open_of t e)
    ≡ total (ending t w) (open_of t e) + total (starting t w) (open_of (suc t) e)
news_one w t e v = grind (arith, nat_tests)

-- for any events the news of an instant lead from what was open to what is open
pub news_move : (w : Edge → ℕ) (t : ℕ) (a : List CellEvent) → failing is_event a ≡ 0 →
    total w (news t (suc t) a) + total (ending t w) (opens (suc t) a) + total (starting t w) (opens t a)
    ≡ total (ending t w) (opens t a) + total (starting t w) (opens (suc t) a)
news_move w t a valid =
    let one = sum_eq is_event (λ e. total w (news_of t (suc t) e) + total (ending t w) (open_of (suc t) e) + total (starting t w) (open_of t e))
    (λ e. total (ending t w) (open_of t e) + total (starting t w) (open_of (suc t) e)) a (λ e v. news_one w t e v) valid in
    let s1 = total-add (λ e. total w (news_of t (suc t) e) + total (ending t w) (open_of (suc t) e)) (λ e. total (starting t w) (open_of t e)) a in
    let s2 = total-add (λ e. total w (news_of t (suc t) e)) (λ e. total (ending t w) (open_of (suc t) e)) a in
    let s3 = total-add (λ e. total (ending t w) (open_of t e)) (λ e. total (starting t w) (open_of (suc t) e)) a in
    let f1 = total-flat_map w (news_of t (suc t)) a in
    let f2 = total-flat_map (ending t w) (open_of (suc t)) a in
    let f3 = total-flat_map (starting t w) (open_of t) a in
    let f4 = total-flat_map (ending t w) (open_of t) a in
    let f5 = total-flat_map (starting t w) (open_of (suc t)) a in
    omega (arith, one, s1, s2, s3, f1, f2, f3, f4, f5)

-- so whatever leads there tells the news
pub moves_told : (t : ℕ) (a : List CellEvent) (open0 open1 : List HeldRow) (answer0 answer1 : List Edge) → failing is_event a ≡ 0 →
    SameBag open0 (opens t a) → SameBag open1 (opens (suc t) a) → Moves t open0 open1 answer0 answer1 →
    (w : Edge → ℕ) → total w answer1 ≡ total w answer0 + total w (news t (suc t) a)
moves_told t a open0 open1 answer0 answer1 valid h0 h1 m w =
    let n = news_move w t a valid in
    let x = m.weigh w in
    let e0 = h0.weigh (ending t w) in
    let e1 = h1.weigh (ending t w) in
    let s0 = h0.weigh (starting t w) in
    let s1 = h1.weigh (starting t w) in
    omega (arith, n, x, e0, e1, s0, s1)

-- where what is open stays from each instant to the next there are no news
pub still : (k t : ℕ) (a : List CellEvent) → failing is_event a ≡ 0 →
    ((v : ℕ) → t ≤ v → v < t + k → SameBag (opens (suc v) a) (opens v a)) → (w : Edge → ℕ) → total w (news t (t + k) a) ≡ 0
still zero t a valid h w = let e : t + zero ≡ t = omega arith in let n = news_none t a in let g = ap (λ u. total w (news t u a)) e in let f = ap (total w) n in g ∙ f
still (suc k) t a valid h w =
    let before = still k t a valid (λ v p q. h v p (omega (arith, q))) w in
    let e : t + suc k ≡ suc (t + k) = omega arith in
    let g = ap (λ u. total w (news t u a)) e in
    let p = (news_in_parts t (t + k) (suc (t + k)) a (omega arith) (omega arith)).weigh w in
    let q = total-append w (news t (t + k) a) (news (t + k) (suc (t + k)) a) in
    let n = news_move w (t + k) a valid in
    let s = h (t + k) (omega arith) (omega arith) in
    let s1 = s.weigh (ending (t + k) w) in
    let s2 = s.weigh (starting (t + k) w) in
    omega (arith, before, g, p, q, n, s1, s2)

pub still_between : (t u : ℕ) (a : List CellEvent) → t ≤ u → failing is_event a ≡ 0 →
    ((v : ℕ) → t ≤ v → v < u → SameBag (opens (suc v) a) (opens v a)) → (w : Edge → ℕ) → total w (news t u a) ≡ 0
still_between t u a low valid h w = go (u - t) u low (omega (arith, low)) h
  where
    go : (k u : ℕ) → t ≤ u → u ≡ t + k → ((v : ℕ) → t ≤ v → v < u → SameBag (opens (suc v) a) (opens v a)) → total w (news t u a) ≡ 0
    go k u l e g = ap (λ n. total w (news t n a)) e ∙ still k t a valid (λ v p q. g v p (omega (arith, e, q))) w

-- where no instant has news there are none
pub news_still : (t u : ℕ) (a : List CellEvent) → t ≤ u → ((v : ℕ) → t ≤ v → v < u → (w : Edge → ℕ) → total w (news v (suc v) a) ≡ 0) →
    (w : Edge → ℕ) → total w (news t u a) ≡ 0
news_still t u a low none w = at (u - t) u (omega (arith, low)) none
  where
    go : (k : ℕ) → ((v : ℕ) → t ≤ v → v < t + k → (w : Edge → ℕ) → total w (news v (suc v) a) ≡ 0) → total w (news t (t + k) a) ≡ 0
    go zero h = let e : t + zero ≡ t = omega arith in ap (λ n. total w (news t n a)) e ∙ ap (total w) (news_none t a)
    go (suc k) h =
        let before = go k (λ v p q. h v p (omega (arith, q))) in
        let e : t + suc k ≡ suc (t + k) = omega arith in
        let g = ap (λ n. total w (news t n a)) e in
        let p = (news_in_parts t (t + k) (suc (t + k)) a (omega arith) (omega arith)).weigh w in
        let q = total-append w (news t (t + k) a) (news (t + k) (suc (t + k)) a) in
        let n = h (t + k) (omega arith) (omega arith) w in
        omega (arith, before, g, p, q, n)

    at : (k u : ℕ) → u ≡ t + k → ((v : ℕ) → t ≤ v → v < u → (w : Edge → ℕ) → total w (news v (suc v) a) ≡ 0) → total w (news t u a) ≡ 0
    at k u e h = ap (λ n. total w (news t n a)) e ∙ go k (λ v p q. h v p (omega (arith, e, q)))
