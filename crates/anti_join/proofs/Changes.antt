-- What one edge changes, in the words of the code.
use Rattle.std.specs.Prelude.{◌≡◌, ℕ, ◌+◌, ◌≤◌, nat_eq, not, ◌&&◌, Bool, true, false, cond, Some, None, List, [], ◌∷◌, ◌++◌, map, filter, flat_map, refl}
use Rattle.std.proofs.Common.{sym, ◌∙◌, ap, subst, arith}
use Rattle.std.proofs.lemmas.Bool.{eqb-true}
use Rattle.tw_rows.specs.Bag.{SameBag, total}
use Rattle.tw_rows.specs.SameCells.{same_cells, cells_are_same}
use Rattle.tw_rows.specs.declared.cells.Datum.{Datum}
use Rattle.tw_rows.specs.declared.edge.Edge.{Edge}
use Rattle.tw_rows.specs.declared.edge.HeldRow.{HeldRow}
use Rattle.edge_history.specs.Order.{many, is_end}
use Rattle.edge_history.specs.Opens.{ended_of}
use Rattle.synopsis.specs.Held.{key_of, is_of_key}
use Rattle.sweep_laws.specs.Moves.{Adds}
use Rattle.sweep_laws.specs.Antijoining.{flip_end, flip_start}
use Rattle.anti_join.specs.Free.{is_free_key, free_since, status_of, told_since}
use Rattle.anti_join.proofs.Keys.{forgotten, put_in}
use Rattle.anti_join.proofs.Flips.{OneMore, adds_key, adds_nothing, end_of_key, end_of_none, start_of_key, start_of_none, same_end, same_start}

-- a right row more, whose key was written
pub more_by : (rk columns : List ℕ) (v items cells : List Datum) (start : ℕ) (fewer more : List HeldRow) → columns ≡ rk → v ≡ key_of columns items → items ≡ cells →
    ((w : HeldRow → ℕ) → total w more ≡ total w fewer + w (record { cells = cells; start = start })) → OneMore rk v fewer more
more_by rk columns v items cells start fewer more e is same put = record {
  count = λ l.
      put (λ r. cond (is_of_key rk l r) 1 0)
      ∙ ap (λ k. many (is_of_key rk l) fewer + cond (same_cells k l) 1 0) (sym (is ∙ (ap (λ c. key_of c items) e ∙ ap (key_of rk) same)));
}

-- whether a key is free, as the code asks for it
pub free_by : (rk k : List ℕ) (rows : List HeldRow) (cells v : List Datum) (b : Bool) → k ≡ rk → cells ≡ v → b ≡ is_free_key k rows cells → is_free_key rk rows v ≡ b
free_by rk k rows cells v b e f h = sym (h ∙ (λ i. is_free_key (e i) rows (f i)))

module _ (lk rk : List ℕ) (t : ℕ) where
  -- a right row comes
  pub row_comes : (v : List Datum) (right right2 times left : List HeldRow) (a0 a1 : List Edge) → OneMore rk v right right2 →
      (is_free_key rk right v ≡ true → a1 ≡ a0 ++ map (told_since (Some (free_since lk times v)) t) (filter (is_of_key lk v) left)) → (is_free_key rk right v ≡ false → a1 ≡ a0) →
      Adds a0 a1 (flat_map (λ r. flip_end (is_free_key rk right2 (key_of lk r.cells)) (status_of lk rk right times (key_of lk r.cells)) t r) left)
  row_comes v right right2 times left a0 a1 one free blocked = go (is_free_key rk right v) refl
    where
      go : (b : Bool) → is_free_key rk right v ≡ b → Adds a0 a1 (flat_map (λ r. flip_end (is_free_key rk right2 (key_of lk r.cells)) (status_of lk rk right times (key_of lk r.cells)) t r) left)
      go true h = adds_key lk v left (told_since (Some (free_since lk times v)) t) _ a0 a1 (free h) (λ w r. end_of_key lk rk v right right2 one times t (free_since lk times v) w r h refl)
      go false h =
          subst (λ (x : List Edge). Adds a0 x (flat_map (λ r. flip_end (is_free_key rk right2 (key_of lk r.cells)) (status_of lk rk right times (key_of lk r.cells)) t r) left)) (sym (blocked h))
          (adds_nothing left _ a0 (λ w r. end_of_none lk rk v right right2 one times t w r h))

  -- no right row comes
  pub none_comes : (right right2 times left : List HeldRow) (a : List Edge) → right2 ≡ right →
      Adds a a (flat_map (λ r. flip_end (is_free_key rk right2 (key_of lk r.cells)) (status_of lk rk right times (key_of lk r.cells)) t r) left)
  none_comes right right2 times left a same =
      adds_nothing left _ a (λ w r. same_end w (is_free_key rk right (key_of lk r.cells)) (is_free_key rk right2 (key_of lk r.cells)) (free_since lk times (key_of lk r.cells)) t r
      (ap (λ x. is_free_key rk x (key_of lk r.cells)) same))

  -- a right row goes, and leaves its key free, or not
  pub row_goes : (v : List Datum) (right right2 times left : List HeldRow) (a0 a1 : List Edge) → OneMore rk v right2 right → is_free_key rk right2 v ≡ true →
      a1 ≡ a0 ++ map (told_since None t) (filter (is_of_key lk v) left) →
      Adds a0 a1 (flat_map (λ r. flip_start (is_free_key rk right2 (key_of lk r.cells)) (status_of lk rk right times (key_of lk r.cells)) t r) left)
  row_goes v right right2 times left a0 a1 one free is =
      adds_key lk v left (told_since None t) _ a0 a1 is (λ w r. start_of_key lk rk v right2 right one times t w r free)

  pub row_goes_on : (v : List Datum) (right right2 times left : List HeldRow) (a : List Edge) → OneMore rk v right2 right → is_free_key rk right2 v ≡ false →
      Adds a a (flat_map (λ r. flip_start (is_free_key rk right2 (key_of lk r.cells)) (status_of lk rk right times (key_of lk r.cells)) t r) left)
  row_goes_on v right right2 times left a one blocked = adds_nothing left _ a (λ w r. start_of_none lk rk v right2 right one times t w r blocked)

  pub none_goes : (right right2 times left : List HeldRow) (a : List Edge) → right2 ≡ right →
      Adds a a (flat_map (λ r. flip_start (is_free_key rk right2 (key_of lk r.cells)) (status_of lk rk right times (key_of lk r.cells)) t r) left)
  none_goes right right2 times left a same =
      adds_nothing left _ a (λ w r. same_start w (is_free_key rk right (key_of lk r.cells)) (is_free_key rk right2 (key_of lk r.cells)) (free_since lk times (key_of lk r.cells)) t r
      (ap (λ x. is_free_key rk x (key_of lk r.cells)) same))

  pub since_same : (right right2 : List HeldRow) (k : List Datum) (s : ℕ) → right2 ≡ right → s ≡ cond (not (is_free_key rk right k) && is_free_key rk right2 k) t s
  since_same right right2 k s same = go (is_free_key rk right k) ∙ ap (λ x. cond (not (is_free_key rk right k) && is_free_key rk x k) t s) (sym same)
    where
      go : (b : Bool) → s ≡ cond (not b && b) t s
      go true = refl
      go false = refl

-- the time of a key is set, by a row of the key
module _ (lk columns : List ℕ) (v cells : List Datum) (t : ℕ) (old new : List HeldRow) (by : columns ≡ lk) (own : key_of lk cells ≡ v)
    (put : SameBag new (record { cells = cells; start = t } ∷ filter (λ r. not (is_of_key columns (key_of columns cells) r)) old)) where
  put_by : SameBag new (record { cells = cells; start = t } ∷ filter (λ r. not (is_of_key lk (key_of lk cells) r)) old)
  put_by = subst (λ (c : List ℕ). SameBag new (record { cells = cells; start = t } ∷ filter (λ r. not (is_of_key c (key_of c cells) r)) old)) by put

  pub set_since : (k : List Datum) → free_since lk new k ≡ cond (same_cells v k) t (free_since lk old k)
  set_since k = put_in lk k (λ r. r.start) (record { cells = cells; start = t }) old new put_by ∙ ap (λ x. cond (same_cells x k) t (free_since lk old k)) own

  pub set_early : (k : List Datum) → free_since lk old k ≤ t → free_since lk new k ≤ t
  set_early k low = pick (same_cells v k) (set_since k)
    where
      pick : (b : Bool) → free_since lk new k ≡ cond b t (free_since lk old k) → free_since lk new k ≤ t
      pick true h = omega (arith, h)
      pick false h = omega (arith, h, low)

  pub set_few : (left : List HeldRow) (k : List Datum) → 1 ≤ many (is_of_key lk v) left → many (is_of_key lk k) left ≡ 0 → many (is_of_key lk k) new ≤ many (is_of_key lk k) old
  set_few left k some none = pick (same_cells v k) refl (put_in lk k (λ r. 1) (record { cells = cells; start = t }) old new put_by ∙ ap (λ x. cond (same_cells x k) 1 (many (is_of_key lk k) old)) own)
    where
      pick : (b : Bool) → same_cells v k ≡ b → many (is_of_key lk k) new ≡ cond (same_cells v k) 1 (many (is_of_key lk k) old) → many (is_of_key lk k) new ≤ many (is_of_key lk k) old
      pick true e h = let z = ap (λ x. many (is_of_key lk x) left) (cells_are_same v k e) in absurd (omega (arith, z, some, none))
      pick false e h = let z = ap (λ b. cond {A = ℕ} b 1 (many (is_of_key lk k) old)) e in omega (arith, h, z)

-- a key of no left row is another than that of a left row
pub other_key : (lk : List ℕ) (left : List HeldRow) (v k : List Datum) → many (is_of_key lk v) left ≡ 0 → 1 ≤ many (is_of_key lk k) left → same_cells v k ≡ true → ⊥
other_key lk left v k none some e = let z = ap (λ x. many (is_of_key lk x) left) (cells_are_same v k e) in omega (arith, z, none, some)

pub set_none : (lk : List ℕ) (left : List HeldRow) (v k : List Datum) (t s : ℕ) → many (is_of_key lk v) left ≡ 0 → 1 ≤ many (is_of_key lk k) left → s ≡ cond (same_cells v k) t s
set_none lk left v k t s none some = go (same_cells v k) refl
  where
    go : (b : Bool) → same_cells v k ≡ b → s ≡ cond b t s
    go true e = absurd (other_key lk left v k none some e)
    go false e = refl

-- the time of a key without left rows is forgotten
module _ (lk columns : List ℕ) (cells : List Datum) (left old new : List HeldRow) (by : columns ≡ lk) (none : many (is_of_key lk (key_of lk cells)) left ≡ 0)
    (gone : SameBag new (filter (λ r. not (is_of_key columns (key_of columns cells) r)) old)) where
  gone_by : SameBag new (filter (λ r. not (is_of_key lk (key_of lk cells) r)) old)
  gone_by = subst (λ (c : List ℕ). SameBag new (filter (λ r. not (is_of_key c (key_of c cells) r)) old)) by gone

  pub forget_same : (k : List Datum) → 1 ≤ many (is_of_key lk k) left → free_since lk new k ≡ free_since lk old k
  forget_same k some = pick (same_cells (key_of lk cells) k) refl (forgotten lk (key_of lk cells) k (λ r. r.start) old new gone_by)
    where
      pick : (b : Bool) → same_cells (key_of lk cells) k ≡ b → free_since lk new k ≡ cond (same_cells (key_of lk cells) k) 0 (free_since lk old k) → free_since lk new k ≡ free_since lk old k
      pick true e h = absurd (other_key lk left (key_of lk cells) k none some e)
      pick false e h = h ∙ ap (λ b. cond b 0 (free_since lk old k)) e

  pub forget_less : (k : List Datum) → free_since lk new k ≤ free_since lk old k
  forget_less k = pick (same_cells (key_of lk cells) k) (forgotten lk (key_of lk cells) k (λ r. r.start) old new gone_by)
    where
      pick : (b : Bool) → free_since lk new k ≡ cond b 0 (free_since lk old k) → free_since lk new k ≤ free_since lk old k
      pick true h = omega (arith, h)
      pick false h = omega (arith, h)

  pub forget_fewer : (k : List Datum) → many (is_of_key lk k) new ≤ many (is_of_key lk k) old
  forget_fewer k = pick (same_cells (key_of lk cells) k) (forgotten lk (key_of lk cells) k (λ r. 1) old new gone_by)
    where
      pick : (b : Bool) → many (is_of_key lk k) new ≡ cond b 0 (many (is_of_key lk k) old) → many (is_of_key lk k) new ≤ many (is_of_key lk k) old
      pick true h = omega (arith, h)
      pick false h = omega (arith, h)

  pub forget_gone : (k : List Datum) → same_cells (key_of lk cells) k ≡ true → many (is_of_key lk k) new ≡ 0
  forget_gone k e = forgotten lk (key_of lk cells) k (λ r. 1) old new gone_by ∙ ap (λ b. cond b 0 (many (is_of_key lk k) old)) e

-- the key of the row that an edge ends, where it ends one
pub ended_key : (lk : List ℕ) (x : Edge) (k : List Datum) → 1 ≤ many (is_of_key lk k) (ended_of x) → (is_end x ≡ true) × (same_cells (key_of lk x.cells) k ≡ true)
ended_key lk x k some = (first (is_end x) refl some, second (is_end x) (same_cells (key_of lk x.cells) k) refl some)
  where
    first : (b : Bool) → is_end x ≡ b → 1 ≤ many (is_of_key lk k) (cond b (record { cells = x.cells; start = x.other } ∷ []) []) → is_end x ≡ true
    first true e h = e
    first false e h = absurd (omega (arith, h))

    second : (b c : Bool) → same_cells (key_of lk x.cells) k ≡ c → 1 ≤ many (is_of_key lk k) (cond b (record { cells = x.cells; start = x.other } ∷ []) []) → same_cells (key_of lk x.cells) k ≡ true
    second b true e h = e
    second false false e h = absurd (omega (arith, h))
    second true false e h = let z = ap (λ b. cond {A = ℕ} b 1 0) e in absurd (omega (arith, h, z))

pub is_zero : (n : ℕ) → nat_eq n 0 ≡ true → n ≡ 0
is_zero n h = eqb-true n 0 h

pub not_zero : (n : ℕ) → nat_eq n 0 ≡ false → n ≡ 0 → ⊥
not_zero n h z = cc (ap (λ x. nat_eq x 0) z, h)
