-- Rows by their keys, and the times that are kept of keys.
use Rattle.std.specs.Prelude.{◌≡◌, ℕ, ◌+◌, ◌≤◌, nat_eq, not, Bool, true, false, cond, List, [], ◌∷◌, filter, length, get_or, drop, refl}
use Rattle.std.proofs.Common.{sym, ◌∙◌, ap, subst, arith}
use Rattle.std.proofs.lemmas.Bool.{eqb-true, eq-eqb, and_from}
use Rattle.tw_rows.specs.Bag.{SameBag, total}
use Rattle.tw_rows.specs.SameCells.{same_cells, cells_are_same, same_itself}
use Rattle.tw_rows.specs.declared.cells.Datum.{Datum}
use Rattle.tw_rows.specs.declared.edge.HeldRow.{HeldRow}
use Rattle.tw_rows.proofs.Bags.{total-filter, total-add, total_same, total_zero}
use Rattle.edge_history.specs.Order.{many}
use Rattle.edge_history.specs.Opens.{is_held}
use Rattle.synopsis.specs.Held.{key_of, is_of_key}
use Rattle.anti_join.specs.Free.{free_since}

both : (b : Bool) (n : ℕ) → n ≡ cond b n 0 + cond (not b) n 0
both true n = omega arith
both false n = omega arith

-- the items that pass a test, and the others
pub parted : {X : Type 0} (w : X → ℕ) (p : X → Bool) (xs : List X) → total w xs ≡ total w (filter p xs) + total w (filter (λ x. not (p x)) xs)
parted w p xs =
    let a = total-filter w p xs in
    let b = total-filter w (λ x. not (p x)) xs in
    let c = total-add (λ x. cond (p x) (w x) 0) (λ x. cond (not (p x)) (w x) 0) xs in
    let d = total_same w (λ x. cond (p x) (w x) 0 + cond (not (p x)) (w x) 0) xs (λ x. both (p x) (w x)) in
    omega (arith, a, b, c, d)

pub ones : {X : Type 0} (xs : List X) → total (λ x. 1) xs ≡ length xs
ones [] = refl
ones (x ∷ xs) = let h = ones xs in omega (arith, h)

pub weigh_none : {X : Type 0} (w : X → ℕ) (l : List X) → length l ≡ 0 → total w l ≡ 0
weigh_none w [] h = refl
weigh_none w (y ∷ l) h = absurd (omega (arith, h))

-- where at most one item passes, the first that passes is the only one
pub only_one : {X : Type 0} (p : X → Bool) (xs ys : List X) (x : X) → many p xs ≤ 1 → filter p xs ≡ x ∷ ys → (w : X → ℕ) → total w xs ≡ total w (filter (λ x. not (p x)) xs) + w x
only_one p xs ys x few is w =
    let a = total-filter (λ x. 1) p xs in
    let b = ap (total (λ x. 1)) is in
    let n = ones ys in
    let z : length ys ≡ 0 = omega (arith, a, b, n, few) in
    let e = parted w p xs in
    let f = ap (total w) is in
    let g = weigh_none w ys z in
    omega (arith, e, f, g)

-- where none passes, all others are all
pub all_others : {X : Type 0} (p : X → Bool) (xs : List X) → filter p xs ≡ [] → SameBag xs (filter (λ x. not (p x)) xs)
all_others p xs is = record {
  weigh = λ w.
      let e = parted w p xs in
      let f = ap (total w) is in
      omega (arith, e, f);
}

-- how many are kept
pub kept_length : {X : Type 0} (p : X → Bool) (xs : List X) → length (filter p xs) ≡ many p xs
kept_length p xs = sym (ones (filter p xs)) ∙ total-filter (λ x. 1) p xs

-- the first that is kept passes
pub first_passes : {X : Type 0} (p : X → Bool) (xs ys : List X) (x : X) → filter p xs ≡ x ∷ ys → p x ≡ true
first_passes p [] ys x h = absurd (cc)
first_passes p (y ∷ xs) ys x h = go (p y) refl h (λ k. first_passes p xs ys x k)
  where
    go : (b : Bool) → p y ≡ b → cond b (y ∷ filter p xs) (filter p xs) ≡ x ∷ ys → (filter p xs ≡ x ∷ ys → p x ≡ true) → p x ≡ true
    go true e k rest = let same : x ≡ y = cc in ap p same ∙ e
    go false e k rest = rest k

pub is_none : {X : Type 0} (xs : List X) → nat_eq (length xs) 0 ≡ true → xs ≡ []
is_none [] h = refl
is_none (x ∷ xs) h = absurd (let z = eqb-true (length (x ∷ xs)) 0 h in omega (arith, z))

pub head_is : {X : Type 0} (xs : List X) (x : X) → nat_eq (length xs) 0 ≡ false → x ≡ get_or xs 0 x → xs ≡ x ∷ drop 1 xs
head_is [] x h is = absurd (cc)
head_is (y ∷ xs) x h is = ap (λ z. z ∷ xs) (sym is)

-- where a row that passes was taken, the only one, the others are left
pub taken_one : (p : HeldRow → Bool) (old new ys : List HeldRow) (x : HeldRow) (b : Bool) → many p old ≤ 1 → filter p old ≡ x ∷ ys →
    (b ≡ true → (w : HeldRow → ℕ) → total w old ≡ total w new + w x) → (b ≡ false → many (is_held x.cells x.start) old ≡ 0) → SameBag new (filter (λ r. not (p r)) old)
taken_one p old new ys x true few is taken none = record {
  weigh = λ w.
      let o = only_one p old ys x few is w in
      let t = taken refl w in
      omega (arith, o, t);
}
taken_one p old new ys x false few is taken none =
    let o = only_one p old ys x few is (λ r. cond (is_held x.cells x.start r) 1 0) in
    let z : is_held x.cells x.start x ≡ true = and_from _ _ (eq-eqb x.start x.start refl) (same_itself x.cells) in
    let y = ap (λ b. cond {A = ℕ} b 1 0) z in
    let n = none refl in
    absurd (omega (arith, o, y, n))

-- the time of a key: that of the row of the key, which is the only one
pub since_one : (key : List ℕ) (k : List Datum) (rows ys : List HeldRow) (x : HeldRow) → many (is_of_key key k) rows ≤ 1 → filter (is_of_key key k) rows ≡ x ∷ ys → x.start ≡ free_since key rows k
since_one key k rows ys x few is =
    let o = only_one (is_of_key key k) rows ys x few is (λ r. cond (is_of_key key k r) r.start 0) in
    let n = total-filter (λ r. cond (is_of_key key k r) r.start 0) (λ r. not (is_of_key key k r)) rows in
    let z = total_same (λ r. cond (not (is_of_key key k r)) (cond (is_of_key key k r) r.start 0) 0) (λ r. 0) rows (λ r. neither (is_of_key key k r) r.start) in
    let t = total_zero rows in
    let y = ap (λ b. cond {A = ℕ} b x.start 0) (first_passes (is_of_key key k) rows ys x is) in
    omega (arith, o, n, z, t, y)
  where
    neither : (b : Bool) (n : ℕ) → cond (not b) (cond b n 0) 0 ≡ 0
    neither true n = refl
    neither false n = refl

pub since_none : (key : List ℕ) (k : List Datum) (rows : List HeldRow) → filter (is_of_key key k) rows ≡ [] → 0 ≡ free_since key rows k
since_none key k rows is = sym (ap (total (λ (r : HeldRow). r.start)) is) ∙ total-filter (λ r. r.start) (is_of_key key k) rows

-- keys that are equal
pub same_sym : (xs ys : List Datum) → same_cells xs ys ≡ same_cells ys xs
same_sym xs ys = go (same_cells xs ys) refl (same_cells ys xs) refl
  where
    turn : (xs ys : List Datum) → same_cells xs ys ≡ true → same_cells ys xs ≡ true
    turn xs ys h = subst (λ (l : List Datum). same_cells l xs ≡ true) (cells_are_same xs ys h) (same_itself xs)

    go : (a : Bool) → same_cells xs ys ≡ a → (b : Bool) → same_cells ys xs ≡ b → same_cells xs ys ≡ same_cells ys xs
    go true h b k = h ∙ sym (turn xs ys h)
    go false h false k = h ∙ sym k
    go false h true k = let t = turn ys xs k in absurd (cc (t, h))

-- a row of one key is of another exactly where the keys are equal
pub of_key : (key : List ℕ) (k l : List Datum) (r : HeldRow) → is_of_key key k r ≡ true → is_of_key key l r ≡ same_cells k l
of_key key k l r h = ap (λ x. same_cells x l) (cells_are_same (key_of key r.cells) k h)

-- of the rows without one key those of another
pub others_of : (key : List ℕ) (k l : List Datum) (v : HeldRow → ℕ) (rows : List HeldRow) →
    total (λ r. cond (is_of_key key l r) (v r) 0) (filter (λ r. not (is_of_key key k r)) rows) ≡ cond (same_cells k l) 0 (total (λ r. cond (is_of_key key l r) (v r) 0) rows)
others_of key k l v rows =
    total-filter (λ r. cond (is_of_key key l r) (v r) 0) (λ r. not (is_of_key key k r)) rows
    ∙ total_same _ _ rows (λ r. one r (is_of_key key k r) refl (same_cells k l) refl)
    ∙ all (same_cells k l)
  where
    all : (b : Bool) → total (λ r. cond b 0 (cond (is_of_key key l r) (v r) 0)) rows ≡ cond b 0 (total (λ r. cond (is_of_key key l r) (v r) 0) rows)
    all true = total_zero rows
    all false = refl

    one : (r : HeldRow) (a : Bool) → is_of_key key k r ≡ a → (s : Bool) → same_cells k l ≡ s →
        cond (not a) (cond (is_of_key key l r) (v r) 0) 0 ≡ cond s 0 (cond (is_of_key key l r) (v r) 0)
    one r true h true g = refl
    one r true h false g = sym (ap (λ b. cond {A = ℕ} b (v r) 0) (of_key key k l r h ∙ g))
    one r false h true g = ap (λ b. cond {A = ℕ} b (v r) 0) (ap (λ x. is_of_key key x r) (sym (cells_are_same k l g)) ∙ h)
    one r false h false g = refl

-- what is kept of keys where one is forgotten
pub forgotten : (key : List ℕ) (k l : List Datum) (v : HeldRow → ℕ) (old new : List HeldRow) → SameBag new (filter (λ r. not (is_of_key key k r)) old) →
    total (λ r. cond (is_of_key key l r) (v r) 0) new ≡ cond (same_cells k l) 0 (total (λ r. cond (is_of_key key l r) (v r) 0) old)
forgotten key k l v old new h = h.weigh (λ r. cond (is_of_key key l r) (v r) 0) ∙ others_of key k l v old

-- where one is set
pub put_in : (key : List ℕ) (l : List Datum) (v : HeldRow → ℕ) (row : HeldRow) (old new : List HeldRow) →
    SameBag new (row ∷ filter (λ r. not (is_of_key key (key_of key row.cells) r)) old) →
    total (λ r. cond (is_of_key key l r) (v r) 0) new ≡ cond (same_cells (key_of key row.cells) l) (v row) (total (λ r. cond (is_of_key key l r) (v r) 0) old)
put_in key l v row old new h =
    let a = h.weigh (λ r. cond (is_of_key key l r) (v r) 0) in
    let b = others_of key (key_of key row.cells) l v old in
    go (same_cells (key_of key row.cells) l) a b
  where
    go : (s : Bool) → total (λ r. cond (is_of_key key l r) (v r) 0) new ≡ cond s (v row) 0 + total (λ r. cond (is_of_key key l r) (v r) 0) (filter (λ r. not (is_of_key key (key_of key row.cells) r)) old) →
        total (λ r. cond (is_of_key key l r) (v r) 0) (filter (λ r. not (is_of_key key (key_of key row.cells) r)) old) ≡ cond s 0 (total (λ r. cond (is_of_key key l r) (v r) 0) old) →
        total (λ r. cond (is_of_key key l r) (v r) 0) new ≡ cond s (v row) (total (λ r. cond (is_of_key key l r) (v r) 0) old)
    go true a b = omega (arith, a, b)
    go false a b = omega (arith, a, b)

-- at most one row of each key is kept where one is forgotten, and where another is put in its place
pub few_left : (key key2 : List ℕ) (k : List Datum) (old new : List HeldRow) → key2 ≡ key → ((l : List Datum) → many (is_of_key key l) old ≤ 1) →
    SameBag new (filter (λ r. not (is_of_key key k r)) old) → (l : List Datum) → many (is_of_key key2 l) new ≤ 1
few_left key key2 k old new e few h l = subst (λ (x : List ℕ). many (is_of_key x l) new ≤ 1) (sym e) (pick (same_cells k l) (forgotten key k l (λ r. 1) old new h))
  where
    pick : (b : Bool) → many (is_of_key key l) new ≡ cond b 0 (many (is_of_key key l) old) → many (is_of_key key l) new ≤ 1
    pick true z = omega (arith, z)
    pick false z = let f = few l in omega (arith, z, f)

pub few_put : (key key2 : List ℕ) (k cells : List Datum) (at : ℕ) (old mid new : List HeldRow) → key2 ≡ key → k ≡ key_of key cells → ((l : List Datum) → many (is_of_key key l) old ≤ 1) →
    SameBag mid (filter (λ r. not (is_of_key key k r)) old) → ((w : HeldRow → ℕ) → total w new ≡ total w mid + w (record { cells = cells; start = at })) →
    (l : List Datum) → many (is_of_key key2 l) new ≤ 1
few_put key key2 k cells at old mid new e own few h put l =
    subst (λ (x : List ℕ). many (is_of_key x l) new ≤ 1) (sym e)
    (pick (same_cells k l) (forgotten key k l (λ r. 1) old mid h)
    (put (λ r. cond (is_of_key key l r) 1 0) ∙ ap (λ x. many (is_of_key key l) mid + cond (same_cells x l) 1 0) (sym own)))
  where
    pick : (b : Bool) → many (is_of_key key l) mid ≡ cond b 0 (many (is_of_key key l) old) → many (is_of_key key l) new ≡ many (is_of_key key l) mid + cond b 1 0 → many (is_of_key key l) new ≤ 1
    pick true z y = omega (arith, z, y)
    pick false z y = let f = few l in omega (arith, z, y, f)
