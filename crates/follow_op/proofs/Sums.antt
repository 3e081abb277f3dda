-- Sums over events that look at their rows and starts alone.
use Rattle.std.specs.Prelude.{◌≡◌, ℕ, zero, suc, ◌+◌, ◌<◌, ◌≤◌, ◌&&◌, nat_eq, nat_lt, nat_le, not, Bool, true, false, cond, List, [], ◌∷◌, map, flat_map, filter, refl}
use Rattle.std.proofs.Common.{sym, ◌∙◌, ap, arith}
use Rattle.std.proofs.lemmas.Bool.Decides.{nat_tests}
use Rattle.tw_rows.specs.Instant.{inf, later}
use Rattle.tw_rows.specs.Bag.{SameBag, total}
use Rattle.tw_rows.specs.Event.{cut_one, cut}
use Rattle.tw_rows.specs.declared.cells.Datum.{Datum}
use Rattle.tw_rows.specs.declared.edge.Edge.{Edge}
use Rattle.tw_rows.specs.declared.edge.HeldRow.{HeldRow}
use Rattle.tw_rows.proofs.Bags.{total-map, total-flat_map, total-filter, total-add, total_same, total_zero}
use Rattle.edge_history.specs.Order.{failing}
use Rattle.edge_history.specs.History.{CellEvent}
use Rattle.edge_history.specs.Balance.{news_of, news}
use Rattle.edge_history.specs.Opens.{open_of, started_of, started_rows}
use Rattle.edge_history.proofs.Sums.{sum_le, sum_eq}
use Rattle.key_nodes.specs.Follows.{starts_next, followed_one}
use Rattle.key_nodes.proofs.Bags.{any_by_weight}
use Rattle.plan_model.specs.Keys.{paired_row}
use Rattle.sweep_laws.specs.Clipping.{is_clipped}
use Rattle.sweep_laws.specs.Unending.{unending}
use Rattle.sweep_laws.specs.Waits.{lasting, waiting, match_of, matches_of, as_interval}
use Rattle.sweep_laws.proofs.ClipSteps.{clips_open}
use Rattle.sweep_laws.proofs.Matching.{told_at}
use Rattle.sweep_laws.proofs.RowsTold.{cond_row}
use Rattle.follow_op.specs.Followed.{follow_meets, follows}
use Rattle.follow_op.specs.Waits.{begun_of, begun, is_free}
use Rattle.follow_op.specs.Intervals.{starts_between, intervals}

-- the row of an event with its start
abbrev pub held : CellEvent → HeldRow
held e = record { cells = e.row; start = e.start }

-- WHAT IS KNOWN
from_not : (s c : ℕ) → nat_lt s c ≡ false → c ≤ s
from_not s c h = grind (arith, nat_tests)

-- what looks at rows and starts below c is the same of events of which the same is known below c
pub starts_known : (c : ℕ) (a b : List CellEvent) → SameBag (cut c a) (cut c b) → (g : List Datum → ℕ → ℕ) → ((row : List Datum) (s : ℕ) → c ≤ s → g row s ≡ 0) →
    total (λ e. g e.row e.start) a ≡ total (λ e. g e.row e.start) b
starts_known c a b same g late = go a ∙ (same.weigh (λ e. g e.row e.start) ∙ sym (go b))
  where
    one : (e : CellEvent) → g e.row e.start ≡ total (λ x. g x.row x.start) (cut_one c e)
    one e = pick (nat_lt e.start c) refl
      where
        pick : (b : Bool) → nat_lt e.start c ≡ b →
            g e.row e.start ≡ total (λ (x : CellEvent). g x.row x.start) (cond b (record { row = e.row; start = e.start; end = cond (nat_lt e.end c) e.end inf } ∷ []) [])
        pick true h = let z : g e.row e.start ≡ g e.row e.start + 0 = omega arith in z
        pick false h = late e.row e.start (from_not e.start c h)

    go : (es : List CellEvent) → total (λ e. g e.row e.start) es ≡ total (λ e. g e.row e.start) (cut c es)
    go es = total_same _ _ es one ∙ sym (total-flat_map (λ (x : CellEvent). g x.row x.start) (cut_one c) es)

-- A STRETCH WITHOUT STARTS
abbrev pub apart : ℕ → ℕ → CellEvent → Bool
apart u t e = not (nat_le u e.start && nat_lt e.start t)

pub no_starts : (a : List CellEvent) (u t : ℕ) → ((w : Edge → ℕ) → total w (news u t (map unending a)) ≡ 0) → failing (apart u t) a ≡ 0
no_starts a u t none =
    let one = sum_le (λ e. true) (λ e. cond (apart u t e) 0 1) (λ e. total (λ x. 1) (news_of u t (unending e))) a (λ e _. counts e) (total_zero a) in
    let f = total-flat_map (λ x. 1) (news_of u t) (map unending a) in
    let m = total-map (λ e. total (λ x. 1) (news_of u t e)) unending a in
    let z = none (λ x. 1) in
    omega (arith, one, f, m, z)
  where
    counts : (e : CellEvent) → cond {A = ℕ} (apart u t e) 0 1 ≤ total (λ x. 1) (news_of u t (unending e))
    counts e = grind (arith, nat_tests)

-- ONE INSTANT
start_one : (g : List Datum → ℕ) (t : ℕ) (e : CellEvent) → t < inf → total (λ x. g x.cells) (news_of t (suc t) (unending e)) ≡ cond (nat_eq e.start t) (g e.row) 0
start_one g t e low = grind (arith, nat_tests)

-- the starts of an instant are those of the events that start there
pub starts_weigh : (g : List Datum → ℕ) (t : ℕ) (a : List CellEvent) (now : List Edge) → t < inf → SameBag now (news t (suc t) (map unending a)) →
    total (λ x. g x.cells) now ≡ total (λ e. cond (nat_eq e.start t) (g e.row) 0) a
starts_weigh g t a now low is =
    is.weigh (λ x. g x.cells)
    ∙ (total-flat_map (λ x. g x.cells) (news_of t (suc t)) (map unending a)
    ∙ (total-map (λ e. total (λ x. g x.cells) (news_of t (suc t) e)) unending a ∙ total_same _ _ a (λ e. start_one g t e low)))

began_one : (w : HeldRow → ℕ) (t : ℕ) (e : CellEvent) → t < inf → total (λ x. total w (started_of x)) (news_of t (suc t) (unending e)) ≡ cond (nat_eq e.start t) (w (held e)) 0
began_one w t e low = grind (arith, nat_tests)

pub started_weigh : (w : HeldRow → ℕ) (t : ℕ) (a : List CellEvent) (now : List Edge) → t < inf → SameBag now (news t (suc t) (map unending a)) →
    total w (started_rows now) ≡ total (λ e. cond (nat_eq e.start t) (w (held e)) 0) a
started_weigh w t a now low is =
    total-flat_map w started_of now
    ∙ (is.weigh (λ x. total w (started_of x))
    ∙ (total-flat_map (λ x. total w (started_of x)) (news_of t (suc t)) (map unending a)
    ∙ (total-map (λ e. total (λ x. total w (started_of x)) (news_of t (suc t) e)) unending a ∙ total_same _ _ a (λ e. began_one w t e low))))

-- ROWS THAT BEGAN
pub begun_weigh : (w : HeldRow → ℕ) (within v u : ℕ) (a : List CellEvent) →
    total w (begun within v u a) ≡ total (λ e. cond (nat_lt e.start u && nat_lt v (later within e.start)) (w (held e)) 0) a
begun_weigh w within v u a = total-flat_map w (begun_of within v u) a ∙ total_same _ _ a (λ e. cond_row w (nat_lt e.start u && nat_lt v (later within e.start)) (held e))

pub free_begun : (p : HeldRow → Bool) (w : HeldRow → ℕ) (within v u : ℕ) (a : List CellEvent) →
    total w (filter p (begun within v u a)) ≡ total (λ e. cond (nat_lt e.start u && nat_lt v (later within e.start)) (cond (p (held e)) (w (held e)) 0) 0) a
free_begun p w within v u a = total-filter w p (begun within v u a) ∙ begun_weigh (λ r. cond (p r) (w r) 0) within v u a

-- ROWS THAT ARE FREE
module _ (meets : List Datum → List Datum → Bool) where
  pub clipped_still : (b : List CellEvent) (u t : ℕ) (r : HeldRow) → u ≤ t → failing (apart u t) b ≡ 0 → is_clipped meets b t r ≡ is_clipped meets b u r
  clipped_still b u t r low none =
      any_by_weight (λ x. meets r.cells x.row && (nat_lt r.start x.start && nat_lt x.start t)) b
      ∙ (ap (nat_lt 0) (sum_eq (apart u t) _ _ b (λ x k. one (meets r.cells x.row) r.start x.start k) none)
      ∙ sym (any_by_weight (λ x. meets r.cells x.row && (nat_lt r.start x.start && nat_lt x.start u)) b))
    where
      one : (m : Bool) (s x : ℕ) → not (nat_le u x && nat_lt x t) ≡ true → cond {A = ℕ} (m && (nat_lt s x && nat_lt x t)) 1 0 ≡ cond (m && (nat_lt s x && nat_lt x u)) 1 0
      one m s x k = grind (arith, nat_tests)

  pub clipped_known : (c u : ℕ) (b b2 : List CellEvent) (r : HeldRow) → u ≤ c → SameBag (cut c b) (cut c b2) → is_clipped meets b u r ≡ is_clipped meets b2 u r
  clipped_known c u b b2 r low same =
      any_by_weight (λ x. meets r.cells x.row && (nat_lt r.start x.start && nat_lt x.start u)) b
      ∙ (ap (nat_lt 0) (starts_known c b b2 same (λ row s. cond (meets r.cells row && (nat_lt r.start s && nat_lt s u)) 1 0) (λ row s late. none (meets r.cells row) s late))
      ∙ sym (any_by_weight (λ x. meets r.cells x.row && (nat_lt r.start x.start && nat_lt x.start u)) b2))
    where
      none : (m : Bool) (s : ℕ) → c ≤ s → cond {A = ℕ} (m && (nat_lt r.start s && nat_lt s u)) 1 0 ≡ 0
      none m s late = grind (arith, nat_tests)

-- WHAT IS TOLD
module _ (lk rk : List ℕ) (within : ℕ) where
  abbrev meets : List Datum → List Datum → Bool
  meets = follow_meets lk rk

  -- what a left row gives at t with the right events that start there
  abbrev pub gives : (CellEvent → ℕ) → ℕ → List CellEvent → HeldRow → ℕ
  gives v t b l = total (λ x. cond (nat_eq x.start t) (cond (follow_meets lk rk l.cells x.row) (v (record { row = paired_row rk l.cells x.row; start = t; end = later within l.start })) 0) 0) b

  gives_is : (v : CellEvent → ℕ) (t : ℕ) (b : List CellEvent) (l : HeldRow) → total v (flat_map (match_of meets (paired_row rk) within t l) b) ≡ gives v t b l
  gives_is v t b l = total-flat_map v (match_of meets (paired_row rk) within t l) b ∙ total_same _ _ b one
    where
      weighs : (p q : Bool) (e : CellEvent) → total v (cond (p && q) (e ∷ []) []) ≡ cond p (cond q (v e) 0) 0
      weighs true true e = let z : v e + 0 ≡ v e = omega arith in z
      weighs true false e = refl
      weighs false q e = refl

      one : (x : CellEvent) → total v (match_of meets (paired_row rk) within t l x)
          ≡ cond (nat_eq x.start t) (cond (follow_meets lk rk l.cells x.row) (v (record { row = paired_row rk l.cells x.row; start = t; end = later within l.start })) 0) 0
      one x = weighs (nat_eq x.start t) (meets l.cells x.row) (record { row = paired_row rk l.cells x.row; start = t; end = later within l.start })

  -- the events that start at t are what the rows give that wait there
  pub told_now : (v : CellEvent → ℕ) (t : ℕ) (a b : List CellEvent) → t < inf →
      total (λ e. cond (nat_eq e.start t) (v e) 0) (follows lk rk within a b)
      ≡ total (λ e. cond (nat_lt e.start t && nat_lt t (later within e.start)) (cond (is_free lk rk b t (held e)) (gives v t b (held e)) 0) 0) a
  told_now v t a b low =
      told_at meets (paired_row rk) within t low v a b
      ∙ (total-flat_map v (matches_of meets (paired_row rk) within t b) (waiting meets within a b t)
      ∙ (clips_open meets (λ r. total v (matches_of meets (paired_row rk) within t b r)) t (map (lasting within) a) b
      ∙ (total-flat_map (λ r. cond (is_clipped meets b t r) 0 (total v (matches_of meets (paired_row rk) within t b r))) (open_of t) (map (lasting within) a)
      ∙ (total-map (λ e. total (λ r. cond (is_clipped meets b t r) 0 (total v (matches_of meets (paired_row rk) within t b r))) (open_of t e)) (lasting within) a
      ∙ total_same _ _ a one))))
    where
      none_weigh : (p : Bool) (xs : List CellEvent) → total v (cond p xs []) ≡ cond p (total v xs) 0
      none_weigh true xs = refl
      none_weigh false xs = refl

      last : (c : Bool) (s n : ℕ) → cond {A = ℕ} (nat_lt s t && nat_le t (later within s)) (cond c 0 (cond (nat_lt t (s + within)) n 0)) 0 ≡ cond (nat_lt s t && nat_lt t (later within s)) (cond (not c) n 0) 0
      last c s n = grind (arith, nat_tests)

      one : (e : CellEvent) → total (λ r. cond (is_clipped meets b t r) 0 (total v (matches_of meets (paired_row rk) within t b r))) (open_of t (lasting within e))
          ≡ cond (nat_lt e.start t && nat_lt t (later within e.start)) (cond (is_free lk rk b t (held e)) (gives v t b (held e)) 0) 0
      one e =
          cond_row (λ r. cond (is_clipped meets b t r) 0 (total v (matches_of meets (paired_row rk) within t b r))) (nat_lt e.start t && nat_le t (later within e.start)) (held e)
          ∙ (ap (λ n. cond (nat_lt e.start t && nat_le t (later within e.start)) (cond (is_clipped meets b t (held e)) 0 n) 0)
          (none_weigh (nat_lt t (e.start + within)) (flat_map (match_of meets (paired_row rk) within t (held e)) b) ∙ ap (λ n. cond (nat_lt t (e.start + within)) n 0) (gives_is v t b (held e)))
          ∙ last (is_clipped meets b t (held e)) e.start (gives v t b (held e)))

  -- those that start below n depend on what is known below it
  pub below_known : (c : ℕ) (a a2 b b2 : List CellEvent) → c ≤ inf → SameBag (cut c a) (cut c a2) → SameBag (cut c b) (cut c b2) → (v : CellEvent → ℕ) (n : ℕ) → n ≤ c →
      total (λ e. cond (nat_lt e.start n) (v e) 0) (follows lk rk within a b) ≡ total (λ e. cond (nat_lt e.start n) (v e) 0) (follows lk rk within a2 b2)
  below_known c a a2 b b2 low sa sb v zero le = none (follows lk rk within a b) ∙ sym (none (follows lk rk within a2 b2))
    where
      first : (e : CellEvent) → cond {A = ℕ} (nat_lt e.start 0) (v e) 0 ≡ 0
      first e = grind (arith, nat_tests)

      none : (es : List CellEvent) → total (λ e. cond (nat_lt e.start 0) (v e) 0) es ≡ 0
      none es = total_same _ (λ e. 0) es first ∙ total_zero es
  below_known c a a2 b b2 low sa sb v (suc n) le =
      let x = split (follows lk rk within a b) in
      let y = split (follows lk rk within a2 b2) in
      let h = below_known c a a2 b b2 low sa sb v n (omega (arith, le)) in
      let t = told_now v n a b (omega (arith, le, low)) in
      let u = told_now v n a2 b2 (omega (arith, le, low)) in
      let g = total_same (λ e. given b (held e)) (λ e. given b2 (held e)) a (λ e. same (held e)) in
      let k = starts_known c a a2 sa (λ row s. given b2 (record { cells = row; start = s })) (λ row s late. later_none s (is_free lk rk b2 n (record { cells = row; start = s })) (gives v n b2 (record { cells = row; start = s })) late) in
      omega (arith, x, y, h, t, u, g, k)
    where
      given : List CellEvent → HeldRow → ℕ
      given = λ d r. cond (nat_lt r.start n && nat_lt n (later within r.start)) (cond (is_free lk rk d n r) (gives v n d r) 0) 0

      later_none : (s : ℕ) (p : Bool) (m : ℕ) → c ≤ s → cond {A = ℕ} (nat_lt s n && nat_lt n (later within s)) (cond p m 0) 0 ≡ 0
      later_none s p m late = grind (arith, nat_tests)

      off : (s m : ℕ) → c ≤ s → cond {A = ℕ} (nat_eq s n) m 0 ≡ 0
      off s m late = grind (arith, nat_tests)

      same : (r : HeldRow) → given b r ≡ given b2 r
      same r =
          ap (λ p. cond (nat_lt r.start n && nat_lt n (later within r.start)) (cond (not p) (gives v n b r) 0) 0) (clipped_known meets c n b b2 r (omega (arith, le)) sb)
          ∙ ap (λ m. cond (nat_lt r.start n && nat_lt n (later within r.start)) (cond (is_free lk rk b2 n r) m 0) 0)
          (starts_known c b b2 sb (λ row s. cond (nat_eq s n) (cond (follow_meets lk rk r.cells row) (v (record { row = paired_row rk r.cells row; start = n; end = later within r.start })) 0) 0) (λ row s late. off s _ late))

      one : (s m : ℕ) → cond {A = ℕ} (nat_lt s (suc n)) m 0 ≡ cond (nat_lt s n) m 0 + cond (nat_eq s n) m 0
      one s m = grind (arith, nat_tests)

      split : (es : List CellEvent) → total (λ e. cond (nat_lt e.start (suc n)) (v e) 0) es ≡ total (λ e. cond (nat_lt e.start n) (v e) 0) es + total (λ e. cond (nat_eq e.start n) (v e) 0) es
      split es = total_same _ _ es (λ e. one e.start (v e)) ∙ total-add (λ e. cond (nat_lt e.start n) (v e) 0) (λ e. cond (nat_eq e.start n) (v e) 0) es

  -- nothing is told where no right event starts
  pub none_told : (w : Edge → ℕ) (u t : ℕ) (a b : List CellEvent) → failing (apart u t) b ≡ 0 → intervals w u t (follows lk rk within a b) ≡ 0
  none_told w u t a b none =
      let f : CellEvent → ℕ = λ e. cond (starts_between u t e) (w (as_interval e)) 0 in
      total-flat_map f (λ x. flat_map (followed_one meets (paired_row rk) within b x) b) a
      ∙ (total_same _ (λ x. 0) a (λ x. total-flat_map f (followed_one meets (paired_row rk) within b x) b
      ∙ (sum_eq (apart u t) _ (λ y. 0) b (λ y k. one x y k) none ∙ total_zero b)) ∙ total_zero a)
    where
      gone : (p : Bool) (s n : ℕ) → not (nat_le u s && nat_lt s t) ≡ true → cond {A = ℕ} p (cond (nat_le u s && nat_lt s t) n 0) 0 ≡ 0
      gone p s n k = grind (arith, nat_tests)

      weighs : {X : Type 0} (g : X → ℕ) (p : Bool) (x : X) → total g (cond p (x ∷ []) []) ≡ cond p (g x) 0
      weighs g true x = let z : g x + 0 ≡ g x = omega arith in z
      weighs g false x = refl

      one : (x y : CellEvent) → apart u t y ≡ true → total (λ e. cond (starts_between u t e) (w (as_interval e)) 0) (followed_one meets (paired_row rk) within b x y) ≡ 0
      one x y k =
          let e : CellEvent = record { row = paired_row rk x.row y.row; start = y.start; end = later within x.start } in
          weighs (λ e. cond (starts_between u t e) (w (as_interval e)) 0) (starts_next meets within b x y) e ∙ gone (starts_next meets within b x y) y.start (w (as_interval e)) k

-- PARTS
part_one : (c t d s n : ℕ) → c ≤ t → t ≤ d → cond {A = ℕ} (nat_le c s && nat_lt s d) n 0 ≡ cond (nat_le c s && nat_lt s t) n 0 + cond (nat_le t s && nat_lt s d) n 0
part_one c t d s n low high = grind (arith, nat_tests)

pub interval_parts : (w : Edge → ℕ) (c t d : ℕ) (es : List CellEvent) → c ≤ t → t ≤ d → intervals w c d es ≡ intervals w c t es + intervals w t d es
interval_parts w c t d es low high =
    total_same _ _ es (λ e. part_one c t d e.start (w (as_interval e)) low high)
    ∙ total-add (λ e. cond (starts_between c t e) (w (as_interval e)) 0) (λ e. cond (starts_between t d e) (w (as_interval e)) 0) es

now_one : (t s n : ℕ) → cond {A = ℕ} (nat_eq s t) n 0 ≡ cond (nat_le t s && nat_lt s (suc t)) n 0
now_one t s n = grind (arith, nat_tests)

pub interval_now : (w : Edge → ℕ) (t : ℕ) (es : List CellEvent) → total (λ e. cond (nat_eq e.start t) (w (as_interval e)) 0) es ≡ intervals w t (suc t) es
interval_now w t es = total_same _ _ es (λ e. now_one t e.start (w (as_interval e)))

no_one : (c s n : ℕ) → cond {A = ℕ} (nat_le c s && nat_lt s c) n 0 ≡ 0
no_one c s n = grind (arith, nat_tests)

pub interval_none : (w : Edge → ℕ) (c : ℕ) (es : List CellEvent) → intervals w c c es ≡ 0
interval_none w c es = total_same _ (λ e. 0) es (λ e. no_one c e.start (w (as_interval e))) ∙ total_zero es

below_one : (c d s n : ℕ) → c ≤ d → cond {A = ℕ} (nat_lt s d) n 0 ≡ cond (nat_lt s c) n 0 + cond (nat_le c s && nat_lt s d) n 0
below_one c d s n low = grind (arith, nat_tests)

pub below_parts : (w : Edge → ℕ) (c d : ℕ) (es : List CellEvent) → c ≤ d →
    total (λ e. cond (nat_lt e.start d) (w (as_interval e)) 0) es ≡ total (λ e. cond (nat_lt e.start c) (w (as_interval e)) 0) es + intervals w c d es
below_parts w c d es low =
    total_same _ _ es (λ e. below_one c d e.start (w (as_interval e)) low)
    ∙ total-add (λ e. cond (nat_lt e.start c) (w (as_interval e)) 0) (λ e. cond (starts_between c d e) (w (as_interval e)) 0) es
