-- What is told of rows with their ends.
use Rattle.std.specs.Prelude.{◌≡◌, ℕ, ◌+◌, ◌<◌, Bool, true, false, cond, List, [], ◌∷◌, ◌++◌, length, get_or, take, map, filter, refl}
use Rattle.std.proofs.Common.{sym, ◌∙◌, ap, subst, arith, append_assoc}
use Rattle.std.proofs.lemmas.List.{take_more, map-append}
use Rattle.tw_rows.specs.Bag.{total}
use Rattle.tw_rows.specs.Words.{word_of_cells}
use Rattle.tw_rows.specs.declared.cells.Datum.{Datum}
use Rattle.tw_rows.specs.declared.edge.Edge.{Edge}
use Rattle.tw_rows.specs.declared.edge.HeldRow.{HeldRow}
use Rattle.tw_rows.proofs.Bags.{total-append}
use Rattle.synopsis.specs.Held.{key_of, is_of_key}
use Rattle.plan_model.specs.Keys.{paired_row}
use Rattle.sweep_laws.specs.Moves.{Adds, told_at}
use Rattle.sweep_laws.specs.Pairs.{partners, all_partners}
use Rattle.sweep_laws.proofs.Adding.{adds_none, adds_then}
use Rattle.temporal_join.specs.declared.lives.Life.{Life}
use Rattle.temporal_join.specs.declared.pairs.Pairing.{Pairing}
use Rattle.temporal_join.specs.Joined.{join_meets}
use Rattle.temporal_join.specs.Lives.{LivesView, row_of, life_rows, ends_at, lasts}
use Rattle.temporal_join.specs.Pairing.{own_key, other_key, pair_with, told_pairs, EndsTold, StartsTold}
use Rattle.temporal_join.proofs.Living.{test_zero}
use Rattle.temporal_join.proofs.Partners.{row_told}

-- ROW AFTER ROW
module _ (f : HeldRow → Edge) (p : HeldRow → Bool) where
  abbrev told_of : List Life → List Edge
  told_of xs = map f (filter p (life_rows xs))

  told_one : (b : Bool) (r : HeldRow) → map f (cond b (r ∷ []) []) ≡ cond b (f r ∷ []) []
  told_one true r = refl
  told_one false r = refl

  told_front : (b : Bool) (r : HeldRow) (xs ys zs : List HeldRow) → map f xs ≡ map f ys ++ map f zs → map f (cond b (r ∷ xs) xs) ≡ map f (cond b (r ∷ ys) ys) ++ map f zs
  told_front true r xs ys zs h = ap (λ l. f r ∷ l) h
  told_front false r xs ys zs h = h

  told_append : (xs ys : List Life) → told_of (xs ++ ys) ≡ told_of xs ++ told_of ys
  told_append [] ys = refl
  told_append (x ∷ xs) ys = told_front (p (row_of x)) (row_of x) (filter p (life_rows (xs ++ ys))) (filter p (life_rows xs)) (filter p (life_rows ys)) (told_append xs ys)

  pub tell_more : (lives : List Life) (i : ℕ) (x : Life) (a0 a1 a2 : List Edge) → i < length lives → x ≡ get_or lives i x → a2 ≡ a1 ++ cond (p (row_of x)) (f (row_of x) ∷ []) [] →
      a1 ≡ a0 ++ map f (filter p (life_rows (take i lives))) → a2 ≡ a0 ++ map f (filter p (life_rows (take (i + 1) lives)))
  tell_more lives i x a0 a1 a2 low is pushed before =
      let next = ap told_of (take_more lives i x low ∙ ap (λ y. take i lives ++ y ∷ []) (sym is)) ∙ told_append (take i lives) (x ∷ []) in
      let one : told_of (x ∷ []) ≡ cond (p (row_of x)) (f (row_of x) ∷ []) [] = told_one (p (row_of x)) (row_of x) in
      pushed ∙ (ap (λ l. l ++ cond (p (row_of x)) (f (row_of x) ∷ []) []) before
      ∙ (append_assoc a0 (told_of (take i lives)) (cond (p (row_of x)) (f (row_of x) ∷ []) [])
      ∙ ap (λ l. a0 ++ l) (ap (λ l. told_of (take i lives) ++ l) (sym one) ∙ sym next)))

-- the same, by the test that the code has
pub tell_next : (f : HeldRow → Edge) (columns columns2 : List ℕ) (key : List Datum) (lives : List Life) (i : ℕ) (y : Life) (a0 a1 a2 : List Edge) → i < length lives → y ≡ get_or lives i y → columns2 ≡ columns →
    y.word ≡ word_of_cells (key_of columns y.edge.cells) →
    (y.word ≡ word_of_cells (key_of columns2 y.edge.cells) → a2 ≡ a1 ++ cond (is_of_key columns2 key (row_of y)) (f (row_of y) ∷ []) []) →
    a1 ≡ a0 ++ map f (filter (is_of_key columns key) (life_rows (take i lives))) → a2 ≡ a0 ++ map f (filter (is_of_key columns key) (life_rows (take (i + 1) lives)))
tell_next f columns columns2 key lives i y a0 a1 a2 low is same own told before =
    let own2 = own ∙ ap (λ (k : List ℕ). word_of_cells (key_of k y.edge.cells)) (sym same) in
    tell_more f (is_of_key columns key) lives i y a0 a1 a2 low is (told own2 ∙ ap (λ (k : List ℕ). a1 ++ cond (is_of_key k key (row_of y)) (f (row_of y) ∷ []) []) same) before

-- MORE ROWS
partners_append : (meets : List Datum → List Datum → Bool) (pair : List Datum → List Datum → List Datum) (right : Bool) (xs zs ys : List HeldRow) →
    all_partners meets pair right (xs ++ zs) ys ≡ all_partners meets pair right xs ys ++ all_partners meets pair right zs ys
partners_append meets pair right [] zs ys = refl
partners_append meets pair right (x ∷ xs) zs ys =
    ap (λ l. partners meets pair right x ys ++ l) (partners_append meets pair right xs zs ys)
    ∙ sym (append_assoc (partners meets pair right x ys) (all_partners meets pair right xs ys) (all_partners meets pair right zs ys))

pub pairs_more : (p : Pairing) (starts : Bool) (xs : List Life) (x : Life) (ys : List HeldRow) (a0 a1 a2 : List Edge) → Adds a0 a1 (told_pairs p starts (map row_of xs) ys) →
    Adds a1 a2 (told_pairs p starts (row_of x ∷ []) ys) → Adds a0 a2 (told_pairs p starts (map row_of (xs ++ x ∷ [])) ys)
pairs_more p starts xs x ys a0 a1 a2 h k =
    let meets = join_meets p.left_key.now p.right_key.now in
    subst (λ l. Adds a0 a2 l)
    (sym (ap (λ l. told_pairs p starts l ys) (map-append row_of xs (x ∷ [])) ∙ (ap (map (told_at starts p.at)) (partners_append meets (paired_row p.right_key.now) p.right (map row_of xs) (row_of x ∷ []) ys) ∙ map-append (told_at starts p.at) (all_partners meets (paired_row p.right_key.now) p.right (map row_of xs) ys) (all_partners meets (paired_row p.right_key.now) p.right (row_of x ∷ []) ys))))
    (adds_then a0 a1 a2 _ _ h k)

-- what is told of one row is what is told of its pairs
pub one_told : (p : Pairing) (starts : Bool) (x : Life) (others : LivesView) (word : ℕ) (cells : List Datum) (a0 a1 : List Edge) → cells ≡ x.edge.cells → others.columns ≡ other_key p →
    a1 ≡ a0 ++ map (λ y. told_at starts p.at (pair_with p (record { cells = cells; start = x.edge.sync }) y))
    (filter (is_of_key others.columns (key_of (own_key p) cells)) (life_rows others.lives)) → Adds a0 a1 (told_pairs p starts (row_of x ∷ []) (life_rows others.lives))
one_told p starts x others word cells a0 a1 same by is =
    subst (λ (l : List Datum). Adds a0 a1 (told_pairs p starts (record { cells = l; start = x.edge.sync } ∷ []) (life_rows others.lives))) same
    (row_told p.left_key.now p.right_key.now p.right starts p.at (record { cells = cells; start = x.edge.sync }) (life_rows others.lives) others.columns (key_of (own_key p) cells) a0 a1 by refl is)

-- THE ENDS AND THE STARTS
pub ends_none : (p : Pairing) (own others : LivesView) (a : List Edge) → EndsTold p own own others a a
ends_none p own others a = record { ended = []; at = refl; lasting = refl; parts = λ v. omega arith; told = λ by other. adds_none a }

pub ends_more : (p : Pairing) (own own1 own2 others : LivesView) (x : Life) (a0 a1 a2 : List Edge) → ends_at p.at x ≡ true → lasts x ≡ true → ((v : Life → ℕ) → total v own1.lives ≡ total v own2.lives + v x) →
    (own.columns ≡ own_key p → others.columns ≡ other_key p → Adds a1 a2 (told_pairs p false (row_of x ∷ []) (life_rows others.lives))) → EndsTold p own own1 others a0 a1 → EndsTold p own own2 others a0 a2
ends_more p own own1 own2 others x a0 a1 a2 at lasting out told h = record {
  ended = h.ended ++ x ∷ [];
  at = (let a = total-append (λ (l : Life). cond {A = ℕ} (ends_at p.at l) 0 1) h.ended (x ∷ []) in let b = test_zero (ends_at p.at x) at in let z = h.at in omega (arith, a, b, z));
  lasting = (let a = total-append (λ (l : Life). cond {A = ℕ} (lasts l) 0 1) h.ended (x ∷ []) in let b = test_zero (lasts x) lasting in let z = h.lasting in omega (arith, a, b, z));
  parts = λ v. (let a = total-append v h.ended (x ∷ []) in let b = out v in let z = h.parts v in omega (arith, a, b, z));
  told = λ by other. pairs_more p false h.ended x (life_rows others.lives) a0 a1 a2 (h.told by other) (told by other);
}

pub starts_none : (p : Pairing) (own others : LivesView) (a : List Edge) → StartsTold p own own others [] a a
starts_none p own others a = record { begun = []; are = refl; parts = λ v. omega arith; told = λ by other. adds_none a }

pub starts_more : (p : Pairing) (own own1 own2 others : LivesView) (now : List Edge) (i : ℕ) (e : Edge) (a0 a1 a2 : List Edge) → i < length now → e ≡ get_or now i e → own1.columns ≡ own.columns →
    StartsTold p own1 own2 others (e ∷ []) a1 a2 → StartsTold p own own1 others (take i now) a0 a1 → StartsTold p own own2 others (take (i + 1) now) a0 a2
starts_more p own own1 own2 others now i e a0 a1 a2 low is same k h = record {
  begun = h.begun ++ k.begun;
  are = map-append (λ (l : Life). l.edge) h.begun k.begun ∙ ((λ n. h.are n ++ k.are n) ∙ sym (take_more now i e low ∙ ap (λ y. take i now ++ y ∷ []) (sym is)));
  parts = λ v. (let a = total-append v h.begun k.begun in let b = k.parts v in let z = h.parts v in omega (arith, a, b, z));
  told = λ by other.
      let meets = join_meets p.left_key.now p.right_key.now in
      let ys = life_rows others.lives in
      subst (λ l. Adds a0 a2 l)
      (sym (ap (λ l. told_pairs p true l ys) (map-append row_of h.begun k.begun) ∙ (ap (map (told_at true p.at)) (partners_append meets (paired_row p.right_key.now) p.right (map row_of h.begun) (map row_of k.begun) ys) ∙ map-append (told_at true p.at) (all_partners meets (paired_row p.right_key.now) p.right (map row_of h.begun) ys) (all_partners meets (paired_row p.right_key.now) p.right (map row_of k.begun) ys))))
      (adds_then a0 a1 a2 _ _ (h.told by other) (k.told (same ∙ by) other));
}

pub starts_one : (p : Pairing) (own own2 others : LivesView) (e : Edge) (x : Life) (a0 a1 : List Edge) → x.edge ≡ e → ((v : Life → ℕ) → total v own2.lives ≡ total v own.lives + v x) →
    (own.columns ≡ own_key p → others.columns ≡ other_key p → Adds a0 a1 (told_pairs p true (row_of x ∷ []) (life_rows others.lives))) → StartsTold p own own2 others (e ∷ []) a0 a1
starts_one p own own2 others e x a0 a1 is put told = record { begun = x ∷ []; are = ap (λ y. y ∷ []) is; parts = λ v. (let a = put v in omega (arith, a)); told = told }
