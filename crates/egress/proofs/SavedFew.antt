-- There are as many entries as rows that are alive: each row has as many entries as open starts.
use Rattle.std.specs.Prelude.{◌≡◌, ◌≤◌, ◌+◌, ℕ, zero, suc, not, Bool, true, false, cond, List, [], ◌∷◌, map, filter, length, refl}
use Rattle.std.specs.Ordering.{eq_by_cmp}
use Rattle.std.proofs.Common.{sym, ◌∙◌, ap, arith}
use Rattle.std.proofs.lemmas.List.{length-map}
use Rattle.tw_rows.specs.Cells.{read_cells}
use Rattle.tw_rows.specs.Event.{alive}
use Rattle.tw_rows.specs.Rows.{Row, row_cmp}
use Rattle.tw_rows.specs.SameCells.{same_cells}
use Rattle.tw_rows.specs.declared.edge.Edge.{Edge}
use Rattle.tw_rows.specs.declared.kind.Kind.{Kind}
use Rattle.edge_stream.specs.declared.saved.SavedEntry.{SavedEntry}
use Rattle.edge_history.specs.History.{of}
use Rattle.edge_history.specs.Order.{failing}
use Rattle.plan_laws.specs.Places.{read_events, AreDistinct, EdgesArePlaced}
use Rattle.plan_model.specs.Opens.{how_often, before}
use Rattle.plan_model.proofs.Counting.{open_length}
use Rattle.plan_model.proofs.InOrder.{same_row, row_itself}
use Rattle.plan_laws.specs.RowCells.{cells_of}
use Rattle.egress.specs.Kept.{are_placed}
use Rattle.egress.specs.Saving.{starts_of, Resumes}
use Rattle.egress.proofs.Counted.{either_way}
use Rattle.egress.proofs.Reading.{placed_if, placed_all, same_place, stands_itself}
use Rattle.egress.proofs.Taking.{first_passes}

-- lists in which each row stands as often are equally long
abbrev others : Row → List Row → List Row
others k rows = filter (λ x. not (eq_by_cmp row_cmp k x)) rows

parted : (k : Row) (rows : List Row) → length rows ≡ how_often k rows + length (others k rows)
parted k [] = refl
parted k (x ∷ xs) = pick (eq_by_cmp row_cmp k x) (parted k xs)
  where
    pick : (b : Bool) → length xs ≡ how_often k xs + length (others k xs) → suc (length xs) ≡ (cond b 1 0 + how_often k xs) + length (cond (not b) (x ∷ others k xs) (others k xs))
    pick true h = omega (arith, h)
    pick false h = omega (arith, h)

none_other : (k : Row) (rows : List Row) → how_often k (others k rows) ≡ 0
none_other k [] = refl
none_other k (x ∷ xs) = pick (eq_by_cmp row_cmp k x) refl (none_other k xs)
  where
    pick : (b : Bool) → eq_by_cmp row_cmp k x ≡ b → how_often k (others k xs) ≡ 0 → how_often k (cond (not b) (x ∷ others k xs) (others k xs)) ≡ 0
    pick true e h = h
    pick false e h = let z = ap (λ b. cond {A = ℕ} b 1 0) e in omega (arith, z, h)

all_others : (k r : Row) → eq_by_cmp row_cmp k r ≡ false → (rows : List Row) → how_often r (others k rows) ≡ how_often r rows
all_others k r apart [] = refl
all_others k r apart (x ∷ xs) = pick (eq_by_cmp row_cmp k x) refl (eq_by_cmp row_cmp r x) refl (all_others k r apart xs)
  where
    pick : (b : Bool) → eq_by_cmp row_cmp k x ≡ b → (c : Bool) → eq_by_cmp row_cmp r x ≡ c → how_often r (others k xs) ≡ how_often r xs →
        how_often r (cond (not b) (x ∷ others k xs) (others k xs)) ≡ how_often r (x ∷ xs)
    pick false e c f h = ap (λ n. cond {A = ℕ} (eq_by_cmp row_cmp r x) 1 0 + n) h
    pick true e false f h = let z = ap (λ b. cond {A = ℕ} b 1 0) f in omega (arith, z, h)
    pick true e true f h =
        let is : k ≡ r = same_row k x e ∙ sym (same_row r x f) in
        absurd (let z : false ≡ true = sym apart ∙ ap (eq_by_cmp row_cmp k) (sym is) ∙ row_itself k in cc)

often_others : (k r : Row) (rows : List Row) → how_often r (others k rows) ≡ cond (eq_by_cmp row_cmp k r) 0 (how_often r rows)
often_others k r rows = pick (eq_by_cmp row_cmp k r) refl
  where
    pick : (b : Bool) → eq_by_cmp row_cmp k r ≡ b → how_often r (others k rows) ≡ cond b 0 (how_often r rows)
    pick true e = ap (λ q. how_often q (others k rows)) (sym (same_row k r e)) ∙ none_other k rows
    pick false e = all_others k r e rows

same_counts : (n : ℕ) (xs ys : List Row) → length xs ≤ n → ((r : Row) → how_often r xs ≡ how_often r ys) → length xs ≡ length ys
same_counts n [] [] low h = refl
same_counts n [] (y ∷ ys) low h = absurd (let z = h y in let one = ap (λ b. cond {A = ℕ} b 1 0) (row_itself y) in omega (arith, z, one))
same_counts zero (x ∷ xs) ys low h = absurd (omega (arith, low))
same_counts (suc n) (x ∷ xs) ys low h =
    let one = ap (λ b. cond {A = ℕ} b 1 0) (row_itself x) in
    let a = parted x (x ∷ xs) in
    let b = parted x ys in
    let rest = same_counts n (others x (x ∷ xs)) (others x ys) (omega (arith, a, one, low))
    (λ r. often_others x r (x ∷ xs) ∙ ap (λ k. cond (eq_by_cmp row_cmp x r) 0 k) (h r) ∙ sym (often_others x r ys)) in
    let own = h x in
    omega (arith, a, b, rest, own)

-- a row stands as often among the entries' rows as it has entries
module _ (texts : List (List ℕ)) (apart : AreDistinct texts) where
  abbrev row_of : SavedEntry → Row
  row_of e = read_cells texts e.cells

  often_saved : (r : Row) (saved : List SavedEntry) → failing (λ e. are_placed texts e.cells) saved ≡ 0 → how_often r (map row_of saved) ≡ length (starts_of saved (cells_of texts r))
  often_saved r [] none = refl
  often_saved r (e ∷ es) none =
      let parts = first_passes (are_placed texts e.cells) (failing (λ (x : SavedEntry). are_placed texts x.cells) es) none in
      let is = same_place texts apart (row_of e) e.cells (stands_itself texts e.cells (placed_if texts e.cells parts.0)) r in
      pick (eq_by_cmp row_cmp r (row_of e)) (same_cells e.cells (cells_of texts r)) (either_way r (row_of e) ∙ sym is) (often_saved r es parts.1)
    where
      pick : (a b : Bool) → a ≡ b → how_often r (map row_of es) ≡ length (starts_of es (cells_of texts r)) →
          cond {A = ℕ} a 1 0 + how_often r (map row_of es)
          ≡ length (map (λ x. x.sync) (cond b (e ∷ filter (λ x. same_cells x.cells (cells_of texts r)) es) (filter (λ x. same_cells x.cells (cells_of texts r)) es)))
      pick true true same h = omega (arith, h)
      pick true false same h = absurd (cc)
      pick false true same h = absurd (cc)
      pick false false same h = omega (arith, h)

  pub few_saved : (h : List Edge) (c : ℕ) → EdgesArePlaced texts h → (kinds : List Kind) (saved : List SavedEntry) → Resumes kinds saved c texts h →
      length saved ≡ length (before (alive (read_events texts (of h))) c)
  few_saved h c placed kinds saved resumes =
      let rows = alive (read_events texts (of h)) in
      let none = resumes.cells (are_placed texts) (placed_all texts h placed) in
      let n = length-map saved row_of in
      let same = same_counts (length (map row_of saved)) (map row_of saved) (before rows c) (omega arith)
      (λ r. often_saved r saved none ∙ ap length (resumes.opened r) ∙ open_length rows r c) in
      omega (arith, n, same)
