-- A side of a Top: what is known of it as more edges come, the columns of what it shows, and how it is loaded.
use Rattle.std.specs.Prelude.{◌≡◌, ℕ, zero, suc, ◌+◌, ◌<◌, ◌≤◌, ◌&&◌, nat_eq, nat_lt, Bool, true, false, cond, List, [], ◌∷◌, ◌++◌, map, drop, replicate, All, refl}
use Rattle.std.proofs.Common.{sym, ◌∙◌, ap, arith}
use Rattle.std.proofs.lemmas.Bool.Decides.{nat_tests}
use Rattle.tw_rows.specs.Bag.{SameBag, total}
use Rattle.tw_rows.specs.Cells.{datum_kind}
use Rattle.tw_rows.specs.Event.{alive, cut}
use Rattle.tw_rows.specs.Instant.{inf}
use Rattle.tw_rows.specs.SameCells.{same_cells}
use Rattle.tw_rows.specs.declared.cells.Datum.{Datum}
use Rattle.tw_rows.specs.declared.edge.Edge.{Edge}
use Rattle.tw_rows.specs.declared.edge.HeldRow.{HeldRow}
use Rattle.tw_rows.specs.declared.kind.CellKind.{CellKind}
use Rattle.tw_rows.proofs.Bags.{SameBag-trans, total-append}
use Rattle.tw_rows.proofs.Lives.{alive_known}
use Rattle.edge_history.specs.History.{CellEvent}
use Rattle.edge_history.specs.Opens.{singles, ended_rows, started_rows}
use Rattle.edge_history.specs.Order.{failing, is_below, is_end, IsReal}
use Rattle.edge_history.proofs.Opening.{opens_known}
use Rattle.edge_history.proofs.Sums.{weaker}
use Rattle.edge_stream.proofs.CarriedParts.{none_fails}
use Rattle.key_nodes.specs.Coalesced.{how_often, rows_before}
use Rattle.key_nodes.proofs.Topping.{top_rows_same}
use Rattle.sweep_laws.specs.Queues.{Cells, rise, fall, open_starts}
use Rattle.sweep_laws.specs.Saving.{store_all, starts_of, rows_of, is_row_start, may_wait, are_row_starts, HaveBegun}
use Rattle.sweep_laws.proofs.Stored.{wait_parts, start_parts, due_wait, begun_later}
use Rattle.outer_top.specs.TopKeys.{TopEntry, kept_rows, value_of, meets, HasPassed}
use Rattle.outer_top.specs.TopEvents.{tops_at, AreSettled, TopHeld}
use Rattle.outer_top.specs.Sweeping.{has_begun}

-- WHAT IS KNOWN
-- queues depend on the rows before alone
starts_known : (f g : ℕ → List Cells) (r : Cells) (t : ℕ) → ((u : ℕ) → u < t → SameBag (f u) (g u)) → open_starts same_cells f r t ≡ open_starts same_cells g r t
starts_known f g r zero h = refl
starts_known f g r (suc t) h =
    let now = (h t (omega arith)).weigh (λ x. cond {A = ℕ} (same_cells r x) 1 0) in
    let past = before t (λ u low. h u (omega (arith, low))) in
    let up : rise same_cells f r t ≡ rise same_cells g r t = omega (arith, now, past) in
    let down : fall same_cells f r t ≡ fall same_cells g r t = omega (arith, now, past) in
    ap (λ q. drop (fall same_cells f r t) q ++ replicate (rise same_cells f r t) t) (starts_known f g r t (λ u low. h u (omega (arith, low))))
    ∙ (ap (λ n. drop n (open_starts same_cells g r t) ++ replicate (rise same_cells f r t) t) down
    ∙ ap (λ n. drop (fall same_cells g r t) (open_starts same_cells g r t) ++ replicate n t) up)
  where
    before : (t : ℕ) → ((u : ℕ) → u < t → SameBag (f u) (g u)) → how_often same_cells r (rows_before f t) ≡ how_often same_cells r (rows_before g t)
    before zero h = refl
    before (suc t) h = (h t (omega arith)).weigh (λ x. cond {A = ℕ} (same_cells r x) 1 0)

pub held_known : (columns : List ℕ) (by most c : ℕ) (a b : List CellEvent) (es : List TopEntry) (rows : List HeldRow) → c ≤ inf → SameBag (cut c a) (cut c b) →
    TopHeld columns by most a c es rows → TopHeld columns by most b c es rows
held_known columns by most c a b es rows low same h = record {
  keys = h.keys;
  kept = SameBag-trans _ _ _ h.kept (opens_known c a b low same);
  queues = λ r. h.queues r ∙ starts_known (tops_at columns by most a) (tops_at columns by most b) r c
      (λ u early. top_rows_same (meets columns) (value_of by) most (alive a u) (alive b u) (alive_known c u a b early low same));
}

-- THE COLUMNS OF WHAT IS SHOWN
module _ (kinds : List CellKind) where
  same_inf : nat_eq inf inf ≡ true
  same_inf = grind (arith, nat_tests)

  -- rows that began before a time, and tests of them
  begun_weighs : (to : ℕ) (rows : List HeldRow) → failing (is_row_start kinds to) (starts_of rows) ≡ failing (has_begun to (store_all kinds)) rows
  begun_weighs to [] = refl
  begun_weighs to (r ∷ rows) =
      let a = begun_weighs to rows in
      let b = ap (λ b. cond {A = ℕ} (b && has_begun to (store_all kinds) r) 0 1) same_inf in
      omega (arith, a, b)

  begun_stored : (to : ℕ) (rows : List HeldRow) → HaveBegun kinds to rows → failing (λ r. store_all kinds r.cells) rows ≡ 0
  begun_stored to rows h =
      weaker (has_begun to (store_all kinds)) (λ r. store_all kinds r.cells) rows (λ r k. second (nat_lt r.start to) (store_all kinds r.cells) k) (sym (begun_weighs to rows) ∙ h)
    where
      second : (a b : Bool) → (a && b) ≡ true → b ≡ true
      second true b h = h
      second false b h = absurd (cc)

  pub shown_begun : (c d : ℕ) (kept queues queues2 : List HeldRow) (waiting rest new due : List Edge) → c ≤ d → failing (may_wait kinds c) waiting ≡ 0 → HaveBegun kinds c kept →
      All IsReal new → All (λ e. map datum_kind e.cells ≡ kinds) new →
      ((w : Edge → ℕ) → total w due + total w rest ≡ total w waiting + total w (singles new)) → failing (is_below d) due ≡ 0 →
      ((to : ℕ) (p : List Datum → Bool) → failing (is_below to) due ≡ 0 → failing (λ x. p x.cells) due ≡ 0 → failing (λ r. p r.cells) kept ≡ 0 →
      failing (has_begun to p) queues ≡ 0 → failing (has_begun to p) queues2 ≡ 0) →
      HaveBegun kinds c queues → HaveBegun kinds d queues2
  shown_begun c d kept queues queues2 waiting rest new due low later began real cells parts below fits h =
      let put = waiting ++ singles new in
      let dues = due_wait kinds c d waiting put rest new due later real cells (λ w. total-append w waiting (singles new)) (λ w. parts w ∙ sym (total-append w waiting (singles new))) in
      let stored = weaker (may_wait kinds 0) (λ x. store_all kinds x.cells) due (λ x k. (wait_parts kinds 0 x k).3) dues in
      begun_weighs d queues2 ∙ fits d (store_all kinds) below stored (begun_stored c kept began) (sym (begun_weighs d queues) ∙ begun_later kinds c d queues low h)

  -- LOADING
  starts_begin : (to : ℕ) (starts : List Edge) → to ≤ inf → failing (is_row_start kinds to) starts ≡ 0 → (started_rows starts ≡ rows_of starts) × (ended_rows starts ≡ [])
  starts_begin to [] low h = (refl, refl)
  starts_begin to (e ∷ starts) low h =
      let r = starts_begin to starts low (omega (arith, h)) in
      let s = one (is_row_start kinds to e) refl (omega (arith, h)) in (
        (λ i. cond {A = List HeldRow} (s i) [] (record { cells = e.cells; start = e.sync } ∷ []) ++ r.0 i),
        (λ i. cond {A = List HeldRow} (s i) (record { cells = e.cells; start = e.other } ∷ []) [] ++ r.1 i),
      )
    where
      no_end : nat_eq e.other inf ≡ true → nat_lt e.sync to ≡ true → is_end e ≡ false
      no_end a b = grind (arith, nat_tests)

      one : (b : Bool) → is_row_start kinds to e ≡ b → cond {A = ℕ} b 0 1 ≡ 0 → is_end e ≡ false
      one true k z = (let p = start_parts kinds to e k in no_end p.0 p.1)
      one false k z = absurd (omega (arith, z))

  pub starts_loaded : (columns : List ℕ) (by most to : ℕ) (starts : List Edge) (lost0 lost1 won0 won1 : List (List Datum)) (es : List TopEntry) →
      HasPassed columns by most starts lost0 lost1 won0 won1 [] es → to ≤ inf → are_row_starts kinds to starts ≡ true → SameBag (kept_rows es) (rows_of starts)
  starts_loaded columns by most to starts lost0 lost1 won0 won1 es p low h =
      let s = starts_begin to starts low (none_fails (is_row_start kinds to) starts h) in
      record {
        weigh = λ w.
            let ended : (v : HeldRow → ℕ) → total v (ended_rows starts) ≡ 0 = λ v. ap (total v) s.1 in
            let r = p.rows (record { own = refl; ranked = refl }) (λ v. let e = ended v in omega (arith, e)) w in
            let e = ended w in
            let b = ap (total w) s.0 in
            omega (arith, r, e, b);
      }

pub loaded_settled : (columns : List ℕ) (by most : ℕ) (starts : List Edge) (lost0 lost1 won0 won1 : List (List Datum)) (es : List TopEntry) →
    HasPassed columns by most starts lost0 lost1 won0 won1 [] es → AreSettled columns by most es
loaded_settled columns by most starts lost0 lost1 won0 won1 es p = record {
  rows = p.kept (record { own = refl; ranked = refl });
  settled = p.settled refl;
  apart = p.apart;
}
