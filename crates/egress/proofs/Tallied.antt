-- Edges that are counted row by row.
use Rattle.std.specs.Prelude.{◌≡◌, ◌↔◌, IsTrue, ℕ, zero, suc, ◌+◌, ◌<◌, Bool, true, false, cond, List, [], ◌∷◌, ◌++◌, length, get_or, map, flat_map, take, refl}
use Rattle.std.specs.Ordering.{eq_by_cmp}
use Rattle.std.proofs.Common.{sym, ◌∙◌, ap, arith}
use Rattle.std.proofs.lemmas.Bool.{lt-ltb, ltb-true}
use Rattle.std.proofs.lemmas.List.{take_more}
use Rattle.tw_rows.specs.Bag.{total}
use Rattle.tw_rows.specs.Cells.{read_cells}
use Rattle.tw_rows.specs.Rows.{Row, row_cmp}
use Rattle.tw_rows.specs.declared.edge.Edge.{Edge}
use Rattle.tw_rows.specs.declared.edge.HeldRow.{HeldRow}
use Rattle.tw_rows.proofs.Bags.{total-append, total-map, total-flat_map}
use Rattle.edge_history.specs.Order.{failing, is_end}
use Rattle.edge_history.specs.Opens.{bare, ended_of, started_of, ended_rows, started_rows}
use Rattle.plan_model.specs.Opens.{how_often}

-- a test that none fails is passed at each place
pub passes_at : {X : Type 0} (q : X → Bool) (xs : List X) (i : ℕ) (d : X) → i < length xs → failing q xs ≡ 0 → q (get_or xs i d) ≡ true
passes_at q [] i d low none = absurd (omega (arith, low))
passes_at q (x ∷ xs) zero d low none = pick (q x) none
  where
    pick : (b : Bool) → cond {A = ℕ} b 0 1 + failing q xs ≡ 0 → b ≡ true
    pick true h = refl
    pick false h = absurd (omega (arith, h))
passes_at q (x ∷ xs) (suc i) d low none = passes_at q xs i d (omega (arith, low)) (omega (arith, none))

module _ (texts : List (List ℕ)) (r : Row) where
  abbrev pub ended_often : List Edge → ℕ
  ended_often es = how_often r (map (read_cells texts) (bare (ended_rows es)))

  abbrev pub started_often : List Edge → ℕ
  started_often es = how_often r (map (read_cells texts) (bare (started_rows es)))

  abbrev pub how_ended : Edge → ℕ
  how_ended e = how_often r (map (read_cells texts) (bare (ended_of e)))

  abbrev pub how_started : Edge → ℕ
  how_started e = how_often r (map (read_cells texts) (bare (started_of e)))

  abbrev weight : HeldRow → ℕ
  weight h = cond (eq_by_cmp row_cmp r (read_cells texts h.cells)) 1 0

  often : (rows : List HeldRow) → how_often r (map (read_cells texts) (bare rows)) ≡ total weight rows
  often rows =
      total-map (λ x. cond (eq_by_cmp row_cmp r x) 1 0) (read_cells texts) (bare rows)
      ∙ total-map (λ c. cond (eq_by_cmp row_cmp r (read_cells texts c)) 1 0) (λ h. h.cells) rows

  more : (f : Edge → List HeldRow) (es : List Edge) (i : ℕ) (d : Edge) → i < length es →
      total weight (flat_map f (take (i + 1) es)) ≡ total weight (flat_map f (take i es)) + total weight (f (get_or es i d))
  more f es i d low =
      ap (λ l. total weight (flat_map f l)) (take_more es i d low)
      ∙ total-flat_map weight f (take i es ++ get_or es i d ∷ [])
      ∙ total-append (λ x. total weight (f x)) (take i es) (get_or es i d ∷ [])
      ∙ (let a = total-flat_map weight f (take i es) in omega (arith, a))

  pub ended_more : (es : List Edge) (i : ℕ) (d : Edge) → i < length es →
      ended_often (take (i + 1) es) ≡ ended_often (take i es) + how_often r (map (read_cells texts) (bare (ended_of (get_or es i d))))
  ended_more es i d low =
      let a = often (ended_rows (take (i + 1) es)) in
      let b = often (ended_rows (take i es)) in
      let e = often (ended_of (get_or es i d)) in
      let c = more ended_of es i d low in
      omega (arith, a, b, c, e)

  pub started_more : (es : List Edge) (i : ℕ) (d : Edge) → i < length es →
      started_often (take (i + 1) es) ≡ started_often (take i es) + how_often r (map (read_cells texts) (bare (started_of (get_or es i d))))
  started_more es i d low =
      let a = often (started_rows (take (i + 1) es)) in
      let b = often (started_rows (take i es)) in
      let e = often (started_of (get_or es i d)) in
      let c = more started_of es i d low in
      omega (arith, a, b, c, e)

  -- an end edge ends its row, and starts none; any other starts it
  pub end_ends : (e : Edge) → is_end e ≡ true → how_often r (map (read_cells texts) (bare (ended_of e))) ≡ how_often r (read_cells texts e.cells ∷ [])
  end_ends e h = ap (λ b. how_often r (map (read_cells texts) (bare (cond b (record { cells = e.cells; start = e.other } ∷ []) [])))) h

  pub end_starts : (e : Edge) → is_end e ≡ true → how_often r (map (read_cells texts) (bare (started_of e))) ≡ 0
  end_starts e h = ap (λ b. how_often r (map (read_cells texts) (bare (cond b [] (record { cells = e.cells; start = e.sync } ∷ []))))) h

  pub start_ends : (e : Edge) → is_end e ≡ false → how_often r (map (read_cells texts) (bare (ended_of e))) ≡ 0
  start_ends e h = ap (λ b. how_often r (map (read_cells texts) (bare (cond b (record { cells = e.cells; start = e.other } ∷ []) [])))) h

  pub start_starts : (e : Edge) → is_end e ≡ false → how_often r (map (read_cells texts) (bare (started_of e))) ≡ how_often r (read_cells texts e.cells ∷ [])
  start_starts e h = ap (λ b. how_often r (map (read_cells texts) (bare (cond b [] (record { cells = e.cells; start = e.sync } ∷ []))))) h

pub one_ended : (e : Edge) → is_end e ≡ true → 1 ≡ length (ended_of e)
one_ended e h = ap (λ b. length {A = HeldRow} (cond b (record { cells = e.cells; start = e.other } ∷ []) [])) (sym h)

pub none_started : (e : Edge) → is_end e ≡ true → 0 ≡ length (started_of e)
none_started e h = ap (λ b. length {A = HeldRow} (cond b [] (record { cells = e.cells; start = e.sync } ∷ []))) (sym h)

pub none_ended : (e : Edge) → is_end e ≡ false → 0 ≡ length (ended_of e)
none_ended e h = ap (λ b. length {A = HeldRow} (cond b (record { cells = e.cells; start = e.other } ∷ []) [])) (sym h)

pub one_started : (e : Edge) → is_end e ≡ false → 1 ≡ length (started_of e)
one_started e h = ap (λ b. length {A = HeldRow} (cond b [] (record { cells = e.cells; start = e.sync } ∷ []))) (sym h)

pub is_end_from : (b : Bool) (e : Edge) → (IsTrue b ↔ (e.other < e.sync)) → b ≡ true → is_end e ≡ true
is_end_from b e h t = lt-ltb e.other e.sync (h.0 t)

pub no_end_from : (b : Bool) (e : Edge) → (IsTrue b ↔ (e.other < e.sync)) → b ≡ false → is_end e ≡ false
no_end_from b e h t = pick (is_end e) refl
  where
    pick : (x : Bool) → is_end e ≡ x → x ≡ false
    pick false f = refl
    pick true f = absurd (let z : b ≡ true = h.1 (ltb-true e.other e.sync f) in cc)
