-- One instant of an anti-join.
use Rattle.std.specs.Prelude.{◌≡◌, ℕ, suc, ◌+◌, ◌<◌, ◌≤◌, max, ◌&&◌, nat_lt, nat_le, Bool, true, false, cond, Option, Some, None, List, flat_map, refl}
use Rattle.std.proofs.Common.{sym, ◌∙◌, ap, arith}
use Rattle.std.proofs.lemmas.Bool.Decides.{nat_tests}
use Rattle.tw_rows.specs.Instant.{inf}
use Rattle.tw_rows.specs.Bag.{SameBag, total}
use Rattle.tw_rows.specs.Event.{lives_at}
use Rattle.tw_rows.specs.SameCells.{same_cells, same_itself}
use Rattle.tw_rows.specs.declared.cells.Datum.{Datum}
use Rattle.tw_rows.specs.declared.edge.Edge.{Edge}
use Rattle.tw_rows.specs.declared.edge.HeldRow.{HeldRow}
use Rattle.tw_rows.proofs.Bags.{total-flat_map, total_same, total-add}
use Rattle.edge_history.specs.Order.{failing}
use Rattle.edge_history.specs.History.{CellEvent}
use Rattle.edge_history.specs.Balance.{news_of, news}
use Rattle.edge_history.specs.Opens.{open_of, opens, ended_of, started_of, ended_rows, started_rows}
use Rattle.edge_history.proofs.Sums.{sum_eq}
use Rattle.edge_history.proofs.Telling.{is_event}
use Rattle.key_nodes.specs.Runs.{runs}
use Rattle.key_nodes.specs.Antis.{alone_at, alone}
use Rattle.sweep_laws.specs.Running.{open_at, tells, goes}
use Rattle.sweep_laws.specs.Antijoining.{is_free, judged, IsSince, run_of, end_of, stays_of, flip_of, begin_of}
use Rattle.sweep_laws.proofs.RowsTold.{cond_row, ended_one, started_one}
use Rattle.sweep_laws.proofs.RunTells.{stretch}

none_of : {X : Type 0} (b : Bool) (x : X) → cond (b && false) (Some x) None ≡ None
none_of true x = refl
none_of false x = refl

and_true : (b : Bool) → (b && true) ≡ b
and_true true = refl
and_true false = refl

then_max : (start t end : ℕ) → (nat_le start t && nat_lt t end) ≡ true → t ≡ max start t
then_max start t end h = grind (arith, nat_tests)

now_max : (start t end s : ℕ) → (nat_le start t && nat_lt t end) ≡ true → (nat_lt start t && nat_le t end) ≡ false → s ≤ t → t ≡ max start s
now_max start t end s h k low = grind (arith, nat_tests)

next_is : (start t end : ℕ) → (nat_le start t && nat_lt t end) ≡ (nat_lt start (suc t) && nat_le (suc t) end)
next_is start t end = grind (arith, nat_tests)

pub goes_judged : (t : ℕ) (e : CellEvent) (free : Bool) (st : Option ℕ) → IsSince t st →
    goes t (cond (lives_at t e && free) (Some e.row) None) (run_of st t e) ≡ run_of (judged free t st) (suc t) e
goes_judged t e false None since = ap (λ o. goes t o None) (none_of (lives_at t e) e.row)
goes_judged t e false (Some s) since = ap (λ o. goes t o (run_of (Some s) t e)) (none_of (lives_at t e) e.row)
goes_judged t e true None since = ap (λ b. goes t (cond b (Some e.row) None) None) (and_true (lives_at t e)) ∙ pick (lives_at t e) refl ∙ ap (λ b. cond b (Some (record { row = e.row; start = max e.start t })) None) (next_is e.start t e.end)
  where
    pick : (b : Bool) → lives_at t e ≡ b → goes t (cond b (Some e.row) None) None ≡ cond b (Some (record { row = e.row; start = max e.start t })) None
    pick true h = ap (λ n. Some (record { row = e.row; start = n })) (then_max e.start t e.end h)
    pick false h = refl
goes_judged t e true (Some s) since = ap (λ b. goes t (cond b (Some e.row) None) (run_of (Some s) t e)) (and_true (lives_at t e)) ∙ pick (lives_at t e) (nat_lt e.start t && nat_le t e.end) refl refl ∙ ap (λ b. cond b (Some (record { row = e.row; start = max e.start s })) None) (next_is e.start t e.end)
  where
    pick : (b o : Bool) → lives_at t e ≡ b → (nat_lt e.start t && nat_le t e.end) ≡ o →
        goes t (cond b (Some e.row) None) (cond o (Some (record { row = e.row; start = max e.start s })) None) ≡ cond b (Some (record { row = e.row; start = max e.start s })) None
    pick true true h k = ap (λ c. cond c (Some (record { row = e.row; start = max e.start s })) (Some (record { row = e.row; start = t }))) (same_itself e.row)
    pick true false h k = ap (λ n. Some (record { row = e.row; start = n })) (now_max e.start t e.end s h k since)
    pick false o h k = refl

module _ (meets : List Datum → List Datum → Bool) where
  -- what is told of it, and its run then
  pub anti_one : (w : Edge → ℕ) (b : List CellEvent) (e : CellEvent) (t : ℕ) (st : Option ℕ) → t < inf → IsSince t st → open_at (alone_at meets b e) t ≡ run_of st t e →
      (total w (news t (suc t) (runs same_cells (alone_at meets b e) inf)) ≡ total w (tells t (alone_at meets b e t) (run_of st t e)))
      × (open_at (alone_at meets b e) (suc t) ≡ run_of (judged (is_free meets b t e.row) t st) (suc t) e)
  anti_one w b e t st low since h =
      let f = alone_at meets b e in
      let s = stretch w f (f t) t (suc t) (omega arith) (omega (arith, low)) (λ v p q. (let z : v ≡ t = omega (arith, p, q) in ap f z)) in (
        s.0 ∙ ap (λ x. total w (tells t (f t) x)) h,
        s.1 ∙ ap (λ x. goes t (f t) x) h ∙ goes_judged t e (is_free meets b t e.row) st since,
      )

  -- all left events
  pub anti_told : (w : Edge → ℕ) (a b : List CellEvent) (t : ℕ) (status : CellEvent → Option ℕ) → t < inf → ((e : CellEvent) → IsSince t (status e)) →
      ((e : CellEvent) → open_at (alone_at meets b e) t ≡ run_of (status e) t e) →
      total w (news t (suc t) (alone same_cells meets a b)) ≡ total (λ e. total w (tells t (alone_at meets b e t) (run_of (status e) t e))) a
  anti_told w a b t status low since h =
      flat w t a ∙ total_same _ _ a (λ e. (anti_one w b e t (status e) low (since e) (h e)).0)
    where
      flat : (w : Edge → ℕ) (t : ℕ) (a : List CellEvent) → total w (news t (suc t) (alone same_cells meets a b)) ≡ total (λ e. total w (news t (suc t) (runs same_cells (alone_at meets b e) inf))) a
      flat w t a = total-flat_map w (news_of t (suc t)) (alone same_cells meets a b)
          ∙ total-flat_map (λ x. total w (news_of t (suc t) x)) (λ e. runs same_cells (alone_at meets b e) inf) a
          ∙ total_same _ _ a (λ e. sym (total-flat_map w (news_of t (suc t)) (runs same_cells (alone_at meets b e) inf)))

same_run : (w : Edge → ℕ) (row : List Datum) (x y : List Edge) → total w (cond (same_cells row row) x y) ≡ total w x
same_run w row x y = ap (λ b. total w (cond b x y)) (same_itself row)

rows_case : (w : Edge → ℕ) (t : ℕ) (e : CellEvent) (free : Bool) (st : Option ℕ) → is_event e ≡ true → t < inf →
    (o : Bool) → (nat_lt e.start t && nat_le t e.end) ≡ o → (l : Bool) → (lives_at t e && free) ≡ l →
    total w (tells t (cond l (Some e.row) None) (run_of st t e))
    ≡ total (λ x. total (λ r. total w (end_of st t r)) (ended_of x)) (news_of t (suc t) e)
    + total (λ r. total w (flip_of free st t r)) (stays_of t e)
    + total (λ x. total (λ r. total w (begin_of free t r)) (started_of x)) (news_of t (suc t) e)
rows_case w t e true None v low o p true q = grind (arith, nat_tests)
rows_case w t e true None v low o p false q = grind (arith, nat_tests)
rows_case w t e false None v low o p true q = grind (arith, nat_tests)
rows_case w t e false None v low o p false q = grind (arith, nat_tests)
rows_case w t e true (Some s) v low true p true q = let z = same_itself e.row in grind (arith, nat_tests, z)
rows_case w t e true (Some s) v low true p false q = grind (arith, nat_tests)
rows_case w t e true (Some s) v low false p true q = grind (arith, nat_tests)
rows_case w t e true (Some s) v low false p false q = grind (arith, nat_tests)
rows_case w t e false (Some s) v low o p true q = grind (arith, nat_tests)
rows_case w t e false (Some s) v low o p false q = grind (arith, nat_tests)

stay_one : (v : HeldRow → ℕ) (t : ℕ) (e : CellEvent) → is_event e ≡ true → total v (open_of t e) ≡ total v (stays_of t e) + total (λ x. total v (ended_of x)) (news_of t (suc t) e)
stay_one v t e h = grind (arith, nat_tests)

-- what stays is what is kept once the ends left
pub stays_are : (t : ℕ) (a : List CellEvent) (rows rows1 : List HeldRow) (now : List Edge) → failing is_event a ≡ 0 → SameBag now (news t (suc t) a) → SameBag rows (opens t a) →
    ((w : HeldRow → ℕ) → total w rows ≡ total w rows1 + total w (ended_rows now)) → SameBag rows1 (flat_map (stays_of t) a)
stays_are t a rows rows1 now valid is h left = record {
  weigh = λ w.
      let x = left w in
      let y = h.weigh w in
      let e = total-flat_map w ended_of now ∙ is.weigh (λ x. total w (ended_of x)) ∙ total-flat_map (λ x. total w (ended_of x)) (news_of t (suc t)) a in
      let o = total-flat_map w (open_of t) a ∙ sum_eq is_event (λ e. total w (open_of t e)) (λ e. total w (stays_of t e) + total (λ x. total w (ended_of x)) (news_of t (suc t) e)) a (λ e k. stay_one w t e k) valid in
      let s = total-add (λ e. total w (stays_of t e)) (λ e. total (λ x. total w (ended_of x)) (news_of t (suc t) e)) a in
      let f = total-flat_map w (stays_of t) a in
      omega (arith, x, y, e, o, s, f);
}

-- what an instant tells, by the rows that end, stay and start, and their keys alone
module _ {K : Type 0} (key : List Datum → K) (meets : List Datum → List Datum → Bool) where
  module _ (a b : List CellEvent) (t : ℕ) (status : K → Option ℕ) (free : K → Bool) (low : t < inf) (valid : failing is_event a ≡ 0) (since : (k : K) → IsSince t (status k))
      (is_free_by : (e : CellEvent) → is_free meets b t e.row ≡ free (key e.row)) (runs_are : (e : CellEvent) → open_at (alone_at meets b e) t ≡ run_of (status (key e.row)) t e) where
    abbrev pub ends : (Edge → ℕ) → HeldRow → ℕ
    ends w r = total w (end_of (status (key r.cells)) t r)

    abbrev pub flips : (Edge → ℕ) → HeldRow → ℕ
    flips w r = total w (flip_of (free (key r.cells)) (status (key r.cells)) t r)

    abbrev pub begins : (Edge → ℕ) → HeldRow → ℕ
    begins w r = total w (begin_of (free (key r.cells)) t r)

    one : (w : Edge → ℕ) (e : CellEvent) → is_event e ≡ true →
        total w (tells t (alone_at meets b e t) (run_of (status (key e.row)) t e))
        ≡ total (λ x. total (ends w) (ended_of x)) (news_of t (suc t) e) + total (flips w) (stays_of t e) + total (λ x. total (begins w) (started_of x)) (news_of t (suc t) e)
    one w e v =
        let st = status (key e.row) in
        let f = free (key e.row) in
        let p = rows_case w t e f st v low (nat_lt e.start t && nat_le t e.end) refl (lives_at t e && f) refl in
        let q = ap (λ c. total w (tells t (cond (lives_at t e && c) (Some e.row) None) (run_of st t e))) (is_free_by e) in
        let x1 = ended_one (λ r. total w (end_of st t r)) t e v ∙ sym (ended_one (ends w) t e v) in
        let y1 = cond_row (λ r. total w (flip_of f st t r)) (nat_lt e.start t && nat_lt t e.end) (record { cells = e.row; start = e.start }) ∙ sym (cond_row (flips w) (nat_lt e.start t && nat_lt t e.end) (record { cells = e.row; start = e.start })) in
        let z1 = started_one (λ r. total w (begin_of f t r)) t e v ∙ sym (started_one (begins w) t e v) in
        omega (arith, p, q, x1, y1, z1)

    pub anti_rows : (w : Edge → ℕ) → total w (news t (suc t) (alone same_cells meets a b)) ≡ total (ends w) (ended_rows (news t (suc t) a)) + total (flips w) (flat_map (stays_of t) a) + total (begins w) (started_rows (news t (suc t) a))
    anti_rows w =
        let E : CellEvent → ℕ = λ e. total (λ x. total (ends w) (ended_of x)) (news_of t (suc t) e) in
        let F : CellEvent → ℕ = λ e. total (flips w) (stays_of t e) in
        let S : CellEvent → ℕ = λ e. total (λ x. total (begins w) (started_of x)) (news_of t (suc t) e) in
        let told = anti_told meets w a b t (λ e. status (key e.row)) low (λ e. since (key e.row)) runs_are in
        let each = sum_eq is_event (λ e. total w (tells t (alone_at meets b e t) (run_of (status (key e.row)) t e))) (λ e. E e + F e + S e) a (λ e v. one w e v) valid in
        let s1 = total-add (λ e. E e + F e) S a in
        let s2 = total-add E F a in
        let e1 = total-flat_map (ends w) ended_of (news t (suc t) a) ∙ total-flat_map (λ x. total (ends w) (ended_of x)) (news_of t (suc t)) a in
        let f1 = total-flat_map (flips w) (stays_of t) a in
        let g1 = total-flat_map (begins w) started_of (news t (suc t) a) ∙ total-flat_map (λ x. total (begins w) (started_of x)) (news_of t (suc t)) a in
        omega (arith, told, each, s1, s2, e1, f1, g1)
