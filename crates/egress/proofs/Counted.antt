-- Rows that are counted in moves.
use Rattle.std.specs.Prelude.{◌≡◌, ℕ, zero, suc, ◌+◌, ◌<◌, ◌||◌, Bool, true, false, cond, List, [], ◌∷◌, ◌++◌, length, get_or, map, refl}
use Rattle.std.specs.List.{AllByRecursion}
use Rattle.std.specs.List.Sorted.{IsStrictlySortedBy}
use Rattle.std.specs.Ordering.{eq_by_cmp}
use Rattle.std.specs.Cmp.{tied_itself}
use Rattle.std.specs.declared.cmp.Ordering.TheVariants.{Less}
use Rattle.std.proofs.Common.{sym, ◌∙◌, ap, arith}
use Rattle.tw_rows.specs.Bag.{total}
use Rattle.tw_rows.specs.Cells.{read_cells}
use Rattle.tw_rows.specs.RowOrder.{row_cmp_total}
use Rattle.tw_rows.specs.Rows.{Row, row_cmp}
use Rattle.tw_rows.specs.declared.edge.Edge.{Edge}
use Rattle.tw_rows.specs.declared.edge.HeldRow.{HeldRow}
use Rattle.tw_rows.proofs.Bags.{total-append}
use Rattle.edge_history.specs.Order.{is_end}
use Rattle.edge_history.specs.Opens.{bare, ended_of, started_of}
use Rattle.plan_model.specs.Opens.{how_often}
use Rattle.plan_model.proofs.InOrder.{member, same_row, row_itself, member_first, member_later}
use Rattle.egress.specs.declared.moves.Moves.{Moves}
use Rattle.egress.specs.Kept.{rows_of}
use Rattle.egress.proofs.Touched.{first_below}

one_way : (q r : Row) → eq_by_cmp row_cmp q r ≡ true → eq_by_cmp row_cmp r q ≡ true
one_way q r e = let same = same_row q r e in ap (λ x. eq_by_cmp row_cmp x q) (sym same) ∙ row_itself q

pub either_way : (q r : Row) → eq_by_cmp row_cmp q r ≡ eq_by_cmp row_cmp r q
either_way q r = pick (eq_by_cmp row_cmp q r) (eq_by_cmp row_cmp r q) refl refl
  where
    pick : (b c : Bool) → eq_by_cmp row_cmp q r ≡ b → eq_by_cmp row_cmp r q ≡ c → b ≡ c
    pick true c e f = sym (one_way q r e) ∙ f
    pick false true e f = absurd (let z = one_way r q f in cc)
    pick false false e f = refl

-- the first of rows in order is none of the others
pub apart : (k : Row) (rest : List Row) → AllByRecursion (λ y. row_cmp k y ≡ Less) rest → member k rest ≡ false
apart k rest h = pick (member k rest) refl
  where
    pick : (b : Bool) → member k rest ≡ b → b ≡ false
    pick false e = refl
    pick true e = absurd (let z = first_below k rest h k e in let w = tied_itself row_cmp_total k in cc)

-- and none of the others is the first
later_apart : (k : Row) (rest : List Row) → AllByRecursion (λ y. row_cmp k y ≡ Less) rest → (r : Row) → member r rest ≡ true → eq_by_cmp row_cmp r k ≡ false
later_apart k rest h r m = pick (eq_by_cmp row_cmp r k) refl
  where
    pick : (b : Bool) → eq_by_cmp row_cmp r k ≡ b → b ≡ false
    pick false e = refl
    pick true e = absurd (let z = first_below k rest h r m in let y : row_cmp k r ≡ row_cmp k k = ap (row_cmp k) (same_row r k e) in let w = tied_itself row_cmp_total k in cc)

-- ONE EDGE
plus_none : (b : Bool) → cond {A = ℕ} b 1 0 + 0 ≡ cond {A = ℕ} b 1 0
plus_none true = refl
plus_none false = refl

no_weight : (b : Bool) → 0 ≡ cond {A = ℕ} b 0 0
no_weight true = refl
no_weight false = refl

pub ended_by : (texts : List (List ℕ)) (r : Row) (e : Edge) → how_often r (map (read_cells texts) (bare (ended_of e))) ≡ cond (eq_by_cmp row_cmp r (read_cells texts e.cells)) (length (ended_of e)) 0
ended_by texts r e = pick (is_end e)
  where
    pick : (b : Bool) → how_often r (map (read_cells texts) (bare (cond b (record { cells = e.cells; start = e.other } ∷ []) [])))
        ≡ cond (eq_by_cmp row_cmp r (read_cells texts e.cells)) (length {A = HeldRow} (cond b (record { cells = e.cells; start = e.other } ∷ []) [])) 0
    pick true = plus_none (eq_by_cmp row_cmp r (read_cells texts e.cells))
    pick false = no_weight (eq_by_cmp row_cmp r (read_cells texts e.cells))

pub started_by : (texts : List (List ℕ)) (r : Row) (e : Edge) → how_often r (map (read_cells texts) (bare (started_of e))) ≡ cond (eq_by_cmp row_cmp r (read_cells texts e.cells)) (length (started_of e)) 0
started_by texts r e = pick (is_end e)
  where
    pick : (b : Bool) → how_often r (map (read_cells texts) (bare (cond b [] (record { cells = e.cells; start = e.sync } ∷ []))))
        ≡ cond (eq_by_cmp row_cmp r (read_cells texts e.cells)) (length {A = HeldRow} (cond b [] (record { cells = e.cells; start = e.sync } ∷ []))) 0
    pick true = no_weight (eq_by_cmp row_cmp r (read_cells texts e.cells))
    pick false = plus_none (eq_by_cmp row_cmp r (read_cells texts e.cells))

-- MOVES, of which a count `f` is added up row by row
module _ (f : Moves → ℕ) (texts : List (List ℕ)) where
  abbrev pub counted : List Moves → Row → ℕ
  counted touched r = total (λ m. cond (eq_by_cmp row_cmp r (read_cells texts m.cells)) (f m) 0) touched

  counted_push : (xs : List Moves) (m : Moves) (r : Row) → counted (xs ++ m ∷ []) r ≡ counted xs r + cond (eq_by_cmp row_cmp r (read_cells texts m.cells)) (f m) 0
  counted_push xs m r = let a = total-append (λ x. cond (eq_by_cmp row_cmp r (read_cells texts x.cells)) (f x) 0) xs (m ∷ []) in omega (arith, a)

  -- moves of one more row
  pub counted_new : (e : Edge) (n : ℕ) (old mid new : List Moves) (made : Moves) → old ≡ mid → new ≡ mid ++ made ∷ [] → made.cells ≡ e.cells → f made ≡ n →
      (r : Row) (often : ℕ) → often ≡ cond (eq_by_cmp row_cmp r (read_cells texts e.cells)) n 0 → counted new r ≡ counted old r + often
  counted_new e n old mid new made same is cells is_n r often is_often =
      ap (λ l. counted l r) is ∙ counted_push mid made r
      ∙ (λ i. counted (sym same i) r + cond (eq_by_cmp row_cmp r (read_cells texts (cells i))) (is_n i) 0)
      ∙ ap (λ x. counted old r + x) (sym is_often)

  -- more moves of the last row
  pub counted_more : (e : Edge) (n : ℕ) (old mid new : List Moves) (last more : Moves) → old ≡ mid ++ last ∷ [] → new ≡ mid ++ more ∷ [] → more.cells ≡ last.cells → last.cells ≡ e.cells →
      f more ≡ f last + n → (r : Row) (often : ℕ) → often ≡ cond (eq_by_cmp row_cmp r (read_cells texts e.cells)) n 0 → counted new r ≡ counted old r + often
  counted_more e n old mid new last more was is cells same is_n r often is_often =
      ap (λ l. counted l r) is ∙ counted_push mid more r
      ∙ (λ i. counted mid r + cond (eq_by_cmp row_cmp r (read_cells texts (cells i))) (is_n i) 0)
      ∙ split (eq_by_cmp row_cmp r (read_cells texts last.cells)) (counted mid r) (f last)
      ∙ (λ i. (counted mid r + cond (eq_by_cmp row_cmp r (read_cells texts last.cells)) (f last) 0) + cond (eq_by_cmp row_cmp r (read_cells texts (same i))) n 0)
      ∙ (λ i. sym (ap (λ l. counted l r) was ∙ counted_push mid last r) i + sym is_often i)
    where
      split : (b : Bool) (x y : ℕ) → x + cond b (y + n) 0 ≡ (x + cond b y 0) + cond b n 0
      split true x y = omega arith
      split false x y = omega arith

  -- a row of which no moves are
  pub counted_none : (xs : List Moves) (r : Row) → member r (rows_of texts xs) ≡ false → counted xs r ≡ 0
  counted_none [] r e = refl
  counted_none (x ∷ xs) r e = pick (eq_by_cmp row_cmp r (read_cells texts x.cells)) (member r (rows_of texts xs)) refl e (counted_none xs r)
    where
      pick : (b c : Bool) → member r (rows_of texts xs) ≡ c → (b || c) ≡ false → (member r (rows_of texts xs) ≡ false → counted xs r ≡ 0) → cond b (f x) 0 + counted xs r ≡ 0
      pick true c is h rest = absurd (cc)
      pick false c is h rest = let z = rest (is ∙ h) in omega (arith, z)

  member_at : (xs : List Moves) (i : ℕ) (d : Moves) → i < length xs → member (read_cells texts (get_or xs i d).cells) (rows_of texts xs) ≡ true
  member_at [] i d low = absurd (omega (arith, low))
  member_at (x ∷ xs) zero d low = member_first (read_cells texts x.cells) (rows_of texts xs)
  member_at (x ∷ xs) (suc i) d low = member_later (read_cells texts (get_or xs i d).cells) (read_cells texts x.cells) (rows_of texts xs) (member_at xs i d (omega (arith, low)))

  -- where each row stands once its own moves are all of it
  pub counted_own : (xs : List Moves) (i : ℕ) (d : Moves) → i < length xs → IsStrictlySortedBy row_cmp (rows_of texts xs) → counted xs (read_cells texts (get_or xs i d).cells) ≡ f (get_or xs i d)
  unfolding IsStrictlySortedBy
  counted_own [] i d low h = absurd (omega (arith, low))
  counted_own (x ∷ xs) zero d low h =
      let a = ap (λ b. cond b (f x) 0) (row_itself (read_cells texts x.cells)) in
      let b = counted_none xs (read_cells texts x.cells) (apart (read_cells texts x.cells) (rows_of texts xs) h.0) in
      omega (arith, a, b)
  counted_own (x ∷ xs) (suc i) d low h =
      let inside : i < length xs = omega (arith, low) in
      let a = ap (λ b. cond b (f x) 0) (later_apart (read_cells texts x.cells) (rows_of texts xs) h.0 (read_cells texts (get_or xs i d).cells) (member_at xs i d inside)) in
      let b = counted_own xs i d inside h.1 in
      omega (arith, a, b)
