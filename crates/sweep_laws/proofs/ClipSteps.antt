-- When clipped events end, and which are open after an instant.
use Rattle.std.specs.Prelude.{◌≡◌, ℕ, suc, ◌+◌, ◌<◌, ◌&&◌, ◌||◌, nat_eq, nat_lt, nat_le, Bool, true, false, cond, not, List, [], ◌∷◌, refl}
use Rattle.std.proofs.Common.{sym, ◌∙◌, ap, arith}
use Rattle.std.proofs.lemmas.Bool.Decides.{nat_tests}
use Rattle.tw_rows.specs.Bag.{total}
use Rattle.tw_rows.specs.Event.{Event}
use Rattle.tw_rows.specs.declared.cells.Datum.{Datum}
use Rattle.tw_rows.specs.declared.edge.HeldRow.{HeldRow}
use Rattle.tw_rows.proofs.Bags.{SameBag-refl, total-map, total-flat_map, total_same, total-add}
use Rattle.edge_history.specs.Order.{failing}
use Rattle.edge_history.specs.History.{CellEvent}
use Rattle.edge_history.specs.Balance.{news}
use Rattle.edge_history.specs.Opens.{open_of, opens, ended_rows, started_rows, is_early, is_new}
use Rattle.edge_history.proofs.Sums.{sum_eq}
use Rattle.edge_history.proofs.Telling.{is_event}
use Rattle.edge_history.proofs.Opening.{opens_step, opens_early, starts_new}
use Rattle.key_nodes.specs.Sessions.{least}
use Rattle.key_nodes.specs.Clips.{later_starts, clip, clipped}
use Rattle.key_nodes.proofs.Least.{below, least_le}
use Rattle.key_nodes.proofs.Clipping.{adds, below_is}
use Rattle.key_nodes.proofs.Bags.{any_by_weight}
use Rattle.sweep_laws.specs.Clipping.{starts_at, is_clipped}
use Rattle.sweep_laws.proofs.RowsTold.{cond_row}

-- the step: what is open at t stays open unless it ends there or a right row of its key starts there
pub clip_step : {L R : Type 0} (meets : L → R → Bool) (rs : List (Event R)) (e : Event L) (t : ℕ) → e.start < t →
    nat_le (suc t) (least e.end (later_starts meets rs e)) ≡ (nat_le t (least e.end (later_starts meets rs e)) && not (nat_eq e.end t || starts_at meets rs e.row t))
clip_step meets rs e t low =
    let a = least_le (suc t) e.end (later_starts meets rs e) in
    let b = least_le t e.end (later_starts meets rs e) in
    let p = below_is meets e (suc t) rs in
    let q = below_is meets e t rs in
    let g = total_same (λ r. adds meets e (suc t) r.row r.start) (λ r. adds meets e t r.row r.start + cond (meets e.row r.row && nat_eq r.start t) 1 0) rs (λ r. one (meets e.row r.row) r.start) in
    let u = total-add (λ r. adds meets e t r.row r.start) (λ r. cond (meets e.row r.row && nat_eq r.start t) 1 0) rs in
    let v = any_by_weight (λ r. meets e.row r.row && nat_eq r.start t) rs in
    final (least e.end (later_starts meets rs e)) e.end _ _ (total (λ r. cond (meets e.row r.row && nat_eq r.start t) 1 0) rs) (starts_at meets rs e.row t) a b
    (p ∙ g ∙ u ∙ ap (λ n. n + total (λ r. cond (meets e.row r.row && nat_eq r.start t) 1 0) rs) (sym q)) v
  where
    one : (b : Bool) (s : ℕ) → cond {A = ℕ} (b && nat_lt e.start s) (cond (nat_lt s (suc t)) 1 0) 0 ≡ cond (b && nat_lt e.start s) (cond (nat_lt s t) 1 0) 0 + cond (b && nat_eq s t) 1 0
    one b s = grind (arith, nat_tests)

    final : (x end m n k : ℕ) (c : Bool) → nat_le (suc t) x ≡ (nat_le (suc t) end && nat_eq m 0) → nat_le t x ≡ (nat_le t end && nat_eq n 0) → m ≡ n + k → c ≡ nat_lt 0 k →
        nat_le (suc t) x ≡ (nat_le t x && not (nat_eq end t || c))
    final x end m n k c a b p v = grind (arith, nat_tests)

module _ (meets : List Datum → List Datum → Bool) where
  clip_one : (w : HeldRow → ℕ) (t : ℕ) (b : List CellEvent) (e : CellEvent) → total w (open_of t (clip meets b e)) ≡ total (λ r. cond (is_clipped meets b t r) 0 (w r)) (open_of t e)
  clip_one w t b e =
      let r : HeldRow = record { cells = e.row; start = e.start } in
      let x = cond_row w (nat_lt e.start t && nat_le t (least e.end (later_starts meets b e))) r in
      let y = cond_row (λ q. cond (is_clipped meets b t q) 0 (w q)) (nat_lt e.start t && nat_le t e.end) r in
      let l = least_le t e.end (later_starts meets b e) in
      let s = below_is meets e t b ∙ total_same (λ f. adds meets e t f.row f.start) (λ f. cond (meets e.row f.row && (nat_lt e.start f.start && nat_lt f.start t)) 1 0) b (λ f. same (meets e.row f.row) f.start) in
      let v = any_by_weight (λ f. meets e.row f.row && (nat_lt e.start f.start && nat_lt f.start t)) b in
      x ∙ final (least e.end (later_starts meets b e)) (below t (later_starts meets b e)) (is_clipped meets b t r) (w r) l (v ∙ ap (nat_lt 0) (sym s)) ∙ sym y
    where
      same : (m : Bool) (s : ℕ) → cond {A = ℕ} (m && nat_lt e.start s) (cond (nat_lt s t) 1 0) 0 ≡ cond (m && (nat_lt e.start s && nat_lt s t)) 1 0
      same m s = grind (arith, nat_tests)

      final : (x k : ℕ) (c : Bool) (n : ℕ) → nat_le t x ≡ (nat_le t e.end && nat_eq k 0) → c ≡ nat_lt 0 k →
          cond {A = ℕ} (nat_lt e.start t && nat_le t x) n 0 ≡ cond (nat_lt e.start t && nat_le t e.end) (cond c 0 n) 0
      final x k c n l v = grind (arith, nat_tests)

  pub clips_open : (w : HeldRow → ℕ) (t : ℕ) (a b : List CellEvent) → total w (opens t (clipped meets a b)) ≡ total (λ r. cond (is_clipped meets b t r) 0 (w r)) (opens t a)
  clips_open w t a b =
      total-flat_map w (open_of t) (clipped meets a b) ∙ total-map (λ x. total w (open_of t x)) (clip meets b) a
      ∙ total_same _ _ a (λ e. clip_one w t b e) ∙ sym (total-flat_map (λ r. cond (is_clipped meets b t r) 0 (w r)) (open_of t) a)

  -- one more instant: a row that began before t is clipped then, or by a start at t
  pub later_one : (b : List CellEvent) (t : ℕ) (r : HeldRow) → is_early t r ≡ true → is_clipped meets b (suc t) r ≡ (is_clipped meets b t r || starts_at meets b r.cells t)
  unfolding is_early
  later_one [] t r h = refl
  later_one (x ∷ xs) t r h = one (meets r.cells x.row) r.start x.start h (is_clipped meets xs (suc t) r) (is_clipped meets xs t r) (starts_at meets xs r.cells t) (later_one xs t r h)
    where
      one : (m : Bool) (n s : ℕ) → nat_lt n t ≡ true → (p q u : Bool) → p ≡ (q || u) → ((m && (nat_lt n s && nat_lt s (suc t))) || p) ≡ (((m && (nat_lt n s && nat_lt s t)) || q) || ((m && nat_eq s t) || u))
      one m n s k p q u g = grind (arith, nat_tests)

  pub new_one : (b : List CellEvent) (t : ℕ) (r : HeldRow) → is_new t r ≡ true → is_clipped meets b (suc t) r ≡ false
  unfolding is_new
  new_one [] t r h = refl
  new_one (x ∷ xs) t r h = one (meets r.cells x.row) r.start x.start h (is_clipped meets xs (suc t) r) (new_one xs t r h)
    where
      one : (m : Bool) (n s : ℕ) → nat_eq n t ≡ true → (p : Bool) → p ≡ false → ((m && (nat_lt n s && nat_lt s (suc t))) || p) ≡ false
      one m n s k p g = grind (arith, nat_tests)

  pub both : (p q : Bool) (n : ℕ) → cond {A = ℕ} (p || q) 0 n ≡ cond p 0 (cond q 0 n)
  both true q n = refl
  both false q n = refl

  -- one instant: with the rows of the keys of right starts gone, an end takes out its row where it is not clipped, and the starts come in
  pub clips_step : (w : HeldRow → ℕ) (t : ℕ) (a b : List CellEvent) → failing is_event a ≡ 0 →
      total w (opens (suc t) (clipped meets a b)) + total (λ r. cond (is_clipped meets b (suc t) r) 0 (w r)) (ended_rows (news t (suc t) a))
      ≡ total (λ r. cond (starts_at meets b r.cells t) 0 (w r)) (opens t (clipped meets a b)) + total w (started_rows (news t (suc t) a))
  clips_step w t a b valid =
      let v : HeldRow → ℕ = λ r. cond (is_clipped meets b (suc t) r) 0 (w r) in
      let u : HeldRow → ℕ = λ r. cond (starts_at meets b r.cells t) 0 (w r) in
      let o = opens_step v t (suc t) a (omega arith) valid in
      let x = clips_open w (suc t) a b in
      let y = clips_open u t a b in
      let z = sum_eq (is_early t) v (λ r. cond (is_clipped meets b t r) 0 (u r)) (opens t a) (λ r k. ap (λ c. cond {A = ℕ} c 0 (w r)) (later_one b t r k) ∙ both (is_clipped meets b t r) (starts_at meets b r.cells t) (w r)) (opens_early t a) in
      let n = sum_eq (is_new t) v w (started_rows (news t (suc t) a)) (λ r k. ap (λ c. cond {A = ℕ} c 0 (w r)) (new_one b t r k)) (starts_new t a (news t (suc t) a) (SameBag-refl _)) in
      omega (arith, o, x, y, z, n)
