-- The timeout and the key columns stay.
use Rattle.std.specs.Prelude.{◌≡◌, ◌<◌, ℕ, ◌≤◌, suc, ◌+◌, ◌&&◌, nat_le, nat_lt, Bool, true, false, cond, List, length, get_or, refl}
use Rattle.std.proofs.Common.{sym, ◌∙◌, ap, subst, arith}
use Rattle.std.proofs.lemmas.Bool.Decides.{nat_tests}
use Rattle.tw_rows.specs.Bag.{SameBag}
use Rattle.tw_rows.specs.Instant.{inf, later}
use Rattle.tw_rows.specs.declared.edge.Edge.{Edge}
use Rattle.tw_rows.proofs.Fronts.{total_part}
use Rattle.edge_history.specs.Order.{failing, is_from, is_below}
use Rattle.edge_history.specs.History.{CellEvent}
use Rattle.edge_history.specs.Balance.{news}
use Rattle.edge_history.proofs.Sums.{weaker, failing-both}
use Rattle.edge_history.proofs.Telling.{answer_from, answer_below}
use Rattle.session_window.specs.declared.sessions.Sessions.{Sessions}
use Rattle.session_window.specs.Kept.{HasOne, Await, Ends}
use Rattle.session_window.specs.Sessions.{IsLike}
use Rattle.session_window.proofs.Awaiting.{ends_then}

pub like_stays : (s : Sessions) → IsLike s s
like_stays s = record { timeout = refl; key = refl }

pub like_then : (s now after : Sessions) → IsLike s now → IsLike now after → IsLike s after
like_then s now after h k = record { timeout = k.timeout ∙ h.timeout; key = k.key ∙ h.key }

-- what holds by the timeout and the key columns that are, holds by those at first
pub by_first : (P : ℕ → List ℕ → Type 0) (s now : Sessions) → IsLike s now → P now.timeout now.rows.key → P s.timeout s.rows.key
by_first P s now k p = subst (λ n. P n s.rows.key) k.timeout (subst (λ (l : List ℕ). P now.timeout l) k.key p)

pub by_now : (P : ℕ → List ℕ → Type 0) (s now : Sessions) → IsLike s now → P s.timeout s.rows.key → P now.timeout now.rows.key
by_now P s now k p = subst (λ n. P n now.rows.key) (sym k.timeout) (subst (λ (l : List ℕ). P s.timeout l) (sym k.key) p)

pub await_like : (s now after : Sessions) → IsLike s now → Await s.timeout s.rows.key now.rows.rows now.ends →
    (Await now.timeout now.rows.key now.rows.rows now.ends → Await now.timeout now.rows.key after.rows.rows after.ends) → Await s.timeout s.rows.key after.rows.rows after.ends
await_like s now after k h step =
    by_first (λ n l. Await n l after.rows.rows after.ends) s now k (step (by_now (λ n l. Await n l now.rows.rows now.ends) s now k h))

pub one_like : (s now after : Sessions) → IsLike s now → HasOne s.rows.key now.rows.rows now.ends →
    (HasOne now.rows.key now.rows.rows now.ends → HasOne now.rows.key after.rows.rows after.ends) → HasOne s.rows.key after.rows.rows after.ends
one_like s now after k h step =
    by_first (λ n l. HasOne l after.rows.rows after.ends) s now k (step (by_now (λ n l. HasOne l now.rows.rows now.ends) s now k h))

pub ends_like : (s now after : Sessions) (t : ℕ) (a0 a1 a2 : List Edge) → IsLike s now → Ends s.timeout s.rows.key t s.rows.rows now.rows.rows a0 a1 →
    Ends now.timeout now.rows.key t now.rows.rows after.rows.rows a1 a2 → Ends s.timeout s.rows.key t s.rows.rows after.rows.rows a0 a2
ends_like s now after t a0 a1 a2 k h e =
    ends_then s.timeout s.rows.key t s.rows.rows now.rows.rows after.rows.rows a0 a1 a2 h (by_first (λ n l. Ends n l t now.rows.rows after.rows.rows a1 a2) s now k e)

-- the session of an edge among some goes on until a time, where those of all do
pub passes_at : (s now : Sessions) (u : ℕ) (es : List Edge) (i : ℕ) (x : Edge) → i < length es → x ≡ get_or es i x → IsLike s now →
    failing (λ e. nat_le u (later s.timeout e.sync)) es ≡ 0 → u ≤ later now.timeout x.sync
passes_at s now u es i x low is k all =
    let v : Edge → ℕ = λ e. cond (nat_le u (later s.timeout e.sync)) 0 1 in
    let a = total_part v es i x low in
    let b = ap v is in
    let c = pick (nat_le u (later s.timeout x.sync)) refl (omega (arith, a, b, all)) in
    let t = k.timeout in
    subst (λ n. u ≤ later n x.sync) (sym k.timeout) c
  where
    le : (m n : ℕ) → nat_le m n ≡ true → m ≤ n
    le m n h = grind (arith, nat_tests)

    pick : (b : Bool) → nat_le u (later s.timeout x.sync) ≡ b → cond {A = ℕ} (nat_le u (later s.timeout x.sync)) 0 1 ≡ 0 → u ≤ later s.timeout x.sync
    pick true e z = le u (later s.timeout x.sync) e
    pick false e z = absurd (let y = ap (λ b. cond {A = ℕ} b 0 1) e in omega (arith, y, z))

-- the sessions of rows that start at t go on until the next instant
pub next_from : (timeout t : ℕ) (a : List CellEvent) (now : List Edge) → 1 ≤ timeout → t + 1 ≤ inf → SameBag now (news t (suc t) a) →
    failing (λ e. nat_le (suc t) (later timeout e.sync)) now ≡ 0
next_from timeout t a now pos low is =
    weaker (λ e. is_from t e && is_below (suc t) e) (λ e. nat_le (suc t) (later timeout e.sync)) now (λ e h. at e.sync h)
    (failing-both (is_from t) (is_below (suc t)) now (answer_from t (suc t) now a is) (answer_below t (suc t) now a is))
  where
    at : (n : ℕ) → (nat_le t n && nat_lt n (suc t)) ≡ true → nat_le (suc t) (later timeout n) ≡ true
    at n h = grind (arith, nat_tests)

pub next_is : (t : ℕ) → t + 1 ≤ inf → later 1 t ≡ suc t
next_is t low = omega (arith, low)

pub next_below : (t to : ℕ) → t < to → to ≤ inf → t + 1 ≤ inf
next_below t to a b = omega (arith, a, b)
