-- Keys of rows, and the last start of the rows of one.
use Rattle.std.specs.Prelude.{◌≡◌, ℕ, ◌+◌, ◌≤◌, ◌&&◌, nat_eq, nat_lt, Bool, true, false, cond, List, [], ◌∷◌, filter, refl}
use Rattle.std.proofs.Common.{sym, ◌∙◌, ap, subst, arith}
use Rattle.std.proofs.lemmas.Bool.Decides.{nat_tests}
use Rattle.tw_rows.specs.Bag.{total}
use Rattle.tw_rows.specs.SameCells.{same_cells, same_itself, cells_are_same}
use Rattle.tw_rows.specs.declared.cells.Datum.{Datum}
use Rattle.tw_rows.specs.declared.edge.HeldRow.{HeldRow}
use Rattle.tw_rows.proofs.Bags.{total-filter}
use Rattle.key_nodes.specs.Runs.{Tells}
use Rattle.synopsis.specs.Held.{key_of, is_of_key}
use Rattle.session_window.specs.Lasts.{IsLastStart}
use Rattle.session_window.proofs.Members.{In, found, counted, uncounted, none_pass}

-- the test of cells tells whether they are equal
pub cells_tell : Tells same_cells
cells_tell x y = (λ h. cells_are_same x y h, λ e. subst (λ z. same_cells x z ≡ true) e (same_itself x))

pub same_turned : (x y : List Datum) → same_cells x y ≡ same_cells y x
same_turned x y = pick (same_cells x y) refl (same_cells y x) refl
  where
    pick : (b : Bool) → same_cells x y ≡ b → (c : Bool) → same_cells y x ≡ c → b ≡ c
    pick true e true f = refl
    pick false e false f = refl
    pick true e false f = sym (sym f ∙ subst (λ z. same_cells z x ≡ true) (cells_are_same x y e) (same_itself x))
    pick false e true f = sym e ∙ subst (λ z. same_cells z y ≡ true) (cells_are_same y x f) (same_itself y)

-- the row has its own key, and rows of a key have that key
pub of_own_key : (columns : List ℕ) (r : HeldRow) → is_of_key columns (key_of columns r.cells) r ≡ true
of_own_key columns r = same_itself (key_of columns r.cells)

pub key_is : (columns : List ℕ) (key : List Datum) (r : HeldRow) → is_of_key columns key r ≡ true → key_of columns r.cells ≡ key
key_is columns key r h = cells_are_same (key_of columns r.cells) key h

both : (a b : Bool) → a ≡ true → b ≡ true → (a && b) ≡ true
both true b h k = k
both false b h k = absurd (cc)

pub equal : (m n : ℕ) → nat_eq m n ≡ true → m ≡ n
equal m n h = grind (arith, nat_tests)

not_above : (m n : ℕ) → nat_lt m n ≡ false → n ≤ m
not_above m n h = grind (arith, nat_tests)

never_above : (m n : ℕ) → n ≤ m → nat_lt m n ≡ false
never_above m n h = grind (arith, nat_tests)

pub same_number : (m n : ℕ) → m ≡ n → nat_eq m n ≡ true
same_number m n h = grind (arith, nat_tests)

in_filter : (p : HeldRow → Bool) (r : HeldRow) (rows : List HeldRow) → In r rows → p r ≡ true → In r (filter p rows)
in_filter p r rows i h = record {
  within = λ w.
      let a = i.within (λ x. cond (p x) (w x) 0) in
      let b = total-filter w p rows in
      let c = ap (λ b. cond (b) (w r) 0) h in
      omega (arith, a, b, c);
}

of_filter : (p : HeldRow → Bool) (r : HeldRow) (rows : List HeldRow) → In r (filter p rows) → In r rows × (p r ≡ true)
of_filter p r rows i = (record { within = λ w. whole w }, passing (p r) refl)
  where
    less : (w : HeldRow → ℕ) (xs : List HeldRow) → total w (filter p xs) ≤ total w xs
    less w [] = omega arith
    less w (x ∷ xs) = one (p x) (less w xs)
      where
        one : (b : Bool) → total w (filter p xs) ≤ total w xs → total w (cond b (x ∷ filter p xs) (filter p xs)) ≤ w x + total w xs
        one true h = omega (arith, h)
        one false h = omega (arith, h)

    whole : (w : HeldRow → ℕ) → w r ≤ total w rows
    whole w = let a = i.within w in let b = less w rows in omega (arith, a, b)

    none : (xs : List HeldRow) → total (λ x. cond {A = ℕ} (p x) 0 1) (filter p xs) ≡ 0
    none [] = refl
    none (x ∷ xs) = one (p x) refl (none xs)
      where
        one : (b : Bool) → p x ≡ b → total (λ x. cond {A = ℕ} (p x) 0 1) (filter p xs) ≡ 0 → total (λ x. cond {A = ℕ} (p x) 0 1) (cond b (x ∷ filter p xs) (filter p xs)) ≡ 0
        one true e h = let z = ap (λ b. cond {A = ℕ} b 0 1) e in omega (arith, z, h)
        one false e h = h

    passing : (b : Bool) → p r ≡ b → p r ≡ true
    passing true e = e
    passing false e = absurd (
        let a = i.within (λ x. cond {A = ℕ} (p x) 0 1) in
        let b = none rows in
        let z = ap (λ b. cond {A = ℕ} b 0 1) e in
        omega (arith, a, b, z))

-- the row that starts last
pub last_there : (p : HeldRow → Bool) (rows : List HeldRow) (s : ℕ) → IsLastStart s (filter p rows) → (r : HeldRow) × (r.start ≡ s) × (p r ≡ true) × In r rows
last_there p rows s h =
    let f = found (λ (r : HeldRow). nat_eq r.start s) (filter p rows) h.there in
    let o = of_filter p f.0 rows f.2 in
    (f.0, equal f.0.start s f.1, o.1, o.0)

pub last_late : (p : HeldRow → Bool) (rows : List HeldRow) (s : ℕ) → IsLastStart s (filter p rows) → (r : HeldRow) → In r rows → p r ≡ true → r.start ≤ s
last_late p rows s h r i k = not_above s r.start (uncounted (λ (x : HeldRow). nat_lt s x.start) r (filter p rows) (in_filter p r rows i k) h.none_later)

pub last_if : (p : HeldRow → Bool) (rows : List HeldRow) (s : ℕ) (r : HeldRow) → In r rows → p r ≡ true → r.start ≡ s →
    ((x : HeldRow) → In x rows → p x ≡ true → x.start ≤ s) → IsLastStart s (filter p rows)
last_if p rows s r i k e late = record {
  there = counted (λ (x : HeldRow). nat_eq x.start s) r (filter p rows) (in_filter p r rows i k) (same_number r.start s e);
  none_later = none_pass (λ (x : HeldRow). nat_lt s x.start) (filter p rows) (λ x j. let o = of_filter p x rows j in never_above s x.start (late x o.0 o.1));
}
