-- Rows in a line, and those that are found by their cells.
use Rattle.std.specs.Prelude.{◌≡◌, ℕ, ◌+◌, ◌<◌, ◌≤◌, nat_eq, Bool, true, false, cond, List, [], ◌∷◌, ◌++◌, length, map, get_or, take, drop, refl}
use Rattle.std.proofs.Common.{sym, ◌∙◌, ap, arith}
use Rattle.std.proofs.lemmas.Bool.{and_parts}
use Rattle.std.proofs.lemmas.Bool.Decides.{nat_tests}
use Rattle.std.proofs.lemmas.List.{take_more, map-append, append_assoc}
use Rattle.tw_rows.specs.Bag.{SameBag, total}
use Rattle.tw_rows.specs.SameCells.{same_cells, cells_are_same}
use Rattle.tw_rows.specs.declared.cells.Datum.{Datum}
use Rattle.tw_rows.specs.declared.edge.Edge.{Edge}
use Rattle.tw_rows.specs.declared.edge.HeldRow.{HeldRow}
use Rattle.tw_rows.proofs.Bags.{total-append}
use Rattle.edge_history.specs.Order.{many}
use Rattle.edge_history.specs.Opens.{is_held}
use Rattle.plan_laws.proofs.Holding.{length_total}
use Rattle.edge_stream.specs.declared.saved.SavedEntry.{SavedEntry}
use Rattle.edge_stream.specs.Entries.{entry_of, entries_of}

equal_of : (a b : ℕ) → nat_eq a b ≡ true → a ≡ b
equal_of a b h = grind (arith, nat_tests)

row_is : (cells : List Datum) (start : ℕ) (r : HeldRow) → is_held cells start r ≡ true → r ≡ record { cells = cells; start = start }
row_is cells start r h =
    let p = and_parts (nat_eq r.start start) (same_cells r.cells cells) h in
    let a = cells_are_same r.cells cells p.1 in
    let b = equal_of r.start start p.0 in
    λ i. record { cells = a i; start = b i }

-- the row that stands first
pub first_is : (rows : List HeldRow) (x : HeldRow) (cells : List Datum) (start : ℕ) → 0 < length rows → x ≡ get_or rows 0 x → is_held cells start x ≡ true →
    (rest : List HeldRow) × (rows ≡ record { cells = cells; start = start } ∷ rest)
first_is [] x cells start low is h = absurd (omega (arith, low))
first_is (y ∷ rest) x cells start low is h = (rest, ap (λ z. z ∷ rest) (sym is ∙ row_is cells start x h))

pub first_goes : (w : HeldRow → ℕ) (rows rest : List HeldRow) (x : HeldRow) → 0 < length rows → x ≡ get_or rows 0 x → rest ≡ drop 1 rows → total w rows ≡ w x + total w rest
first_goes w [] rest x low is gone = absurd (omega (arith, low))
first_goes w (y ∷ rows) rest x low is gone = let a = ap w is in let b = ap (total w) gone in omega (arith, a, b)

pub named_goes : (w : HeldRow → ℕ) (rows rest others : List HeldRow) (x : HeldRow) → rows ≡ x ∷ others → rest ≡ drop 1 rows → total w rows ≡ w x + total w rest
named_goes w rows rest others x is gone = let a = ap (total w) is in let b = ap (total w) (gone ∙ ap (drop 1) is) in omega (arith, a, b)

-- both lists, as one
module _ (found line found2 line2 : List HeldRow) where
  pub both_added : (x : HeldRow) → ((w : HeldRow → ℕ) → total w found2 + total w line2 ≡ (total w found + total w line) + w x) →
      (w : HeldRow → ℕ) → total w (found2 ++ line2) ≡ total w (found ++ line) + w x
  both_added x h w = let a = total-append w found line in let b = total-append w found2 line2 in let k = h w in omega (arith, a, b, k)

  pub both_same : ((w : HeldRow → ℕ) → total w found2 + total w line2 ≡ total w found + total w line) → SameBag (found ++ line) (found2 ++ line2)
  both_same h = record { weigh = λ w. let a = total-append w found line in let b = total-append w found2 line2 in let k = h w in omega (arith, a, b, k) }

  pub one_longer : (x : HeldRow) → ((w : HeldRow → ℕ) → total w found2 + total w line2 ≡ (total w found + total w line) + w x) → length (found2 ++ line2) ≡ length (found ++ line) + 1
  one_longer x h =
      let a = both_added x h (λ r. 1) in
      let b = length_total (found ++ line) in
      let c = length_total (found2 ++ line2) in
      omega (arith, a, b, c)

  pub as_long : ((w : HeldRow → ℕ) → total w found2 + total w line2 ≡ total w found + total w line) → length (found2 ++ line2) ≡ length (found ++ line)
  as_long h =
      let a = (both_same h).weigh (λ r. 1) in
      let b = length_total (found ++ line) in
      let c = length_total (found2 ++ line2) in
      omega (arith, a, b, c)

pub none_here : (p : HeldRow → Bool) (found line : List HeldRow) → line ≡ [] → many p found ≡ 0 → many p (found ++ line) ≡ 0
none_here p found line none h =
    let a = total-append (λ (x : HeldRow). cond {A = ℕ} (p x) 1 0) found line in
    let b = ap (total (λ (x : HeldRow). cond {A = ℕ} (p x) 1 0)) none in
    omega (arith, a, b, h)

-- the first row is taken out
module _ (found line line2 rest : List HeldRow) (x : HeldRow) (is : line ≡ x ∷ rest) (gone : line2 ≡ drop 1 line) where
  pub first_taken : (w : HeldRow → ℕ) → total w (found ++ line) ≡ total w (found ++ line2) + w x
  first_taken w =
      let a = total-append w found line in
      let b = total-append w found line2 in
      let c = named_goes w line line2 rest x is gone in
      omega (arith, a, b, c)

  pub first_shortens : length (found ++ line) ≡ length (found ++ line2) + 1
  first_shortens =
      let a = first_taken (λ r. 1) in
      let b = length_total (found ++ line) in
      let c = length_total (found ++ line2) in
      omega (arith, a, b, c)

-- once all are found by their cells, a row is taken out of those, if it is there
module _ (found line found2 line2 found3 : List HeldRow) (x : HeldRow) (same : (w : HeldRow → ℕ) → total w found2 + total w line2 ≡ total w found + total w line) where
  pub found_taken : ((w : HeldRow → ℕ) → total w found2 ≡ total w found3 + w x) → (w : HeldRow → ℕ) → total w (found ++ line) ≡ total w (found3 ++ line2) + w x
  found_taken h = both_added found3 line2 found line x (λ w. let a = same w in let b = h w in omega (arith, a, b))

  pub still_same : found3 ≡ found2 → SameBag (found ++ line) (found3 ++ line2)
  still_same e = both_same found line found3 line2 (λ w. let a = same w in let b = ap (total w) e in omega (arith, a, b))

  pub shorter_by : (n m : ℕ) (b : Bool) → n ≡ length (found ++ line) → (b ≡ true → (w : HeldRow → ℕ) → total w found2 ≡ total w found3 + w x) → (b ≡ false → found3 ≡ found2) →
      (b ≡ true → m + 1 ≡ n) → (b ≡ false → m ≡ n) → m ≡ length (found3 ++ line2)
  shorter_by n m true is taken kept less same_count =
      let a = one_longer found3 line2 found line x (λ w. let a = same w in let b = taken refl w in omega (arith, a, b)) in
      let b = less refl in
      omega (arith, a, b, is)
  shorter_by n m false is taken kept less same_count =
      let a = as_long found line found3 line2 (λ w. let a = same w in let b = ap (total w) (kept refl) in omega (arith, a, b)) in
      let b = same_count refl in
      omega (arith, a, b, is)

  pub some_there : (n : ℕ) (b : Bool) → n ≡ length (found ++ line) → (b ≡ true → (w : HeldRow → ℕ) → total w found2 ≡ total w found3 + w x) → b ≡ true → 1 ≤ n
  some_there n b is taken e =
      let a = one_longer found3 line2 found line x (λ w. let a = same w in let b = taken e w in omega (arith, a, b)) in
      omega (arith, a, is)

-- one more of a line was saved
pub saved_more : {X : Type 0} (f : X → SavedEntry) (old now next : List SavedEntry) (xs : List X) (i : ℕ) (x : X) → i < length xs → x ≡ get_or xs i x →
    now ≡ old ++ map f (take i xs) → next ≡ now ++ f x ∷ [] → next ≡ old ++ map f (take (i + 1) xs)
saved_more f old now next xs i x low is so_far pushed =
    pushed ∙ ap (λ l. l ++ f x ∷ []) so_far ∙ append_assoc old (map f (take i xs)) (f x ∷ [])
    ∙ ap (λ l. old ++ l) (sym (map-append f (take i xs) (x ∷ []))) ∙ ap (λ l. old ++ map f l) (ap (λ y. take i xs ++ y ∷ []) is ∙ sym (take_more xs i x low))

-- what two parts of a queue were saved as is what the whole is
pub saved_both : (part : ℕ) (old mid new : List SavedEntry) (xs ys : List Edge) → mid ≡ old ++ entries_of part xs → new ≡ mid ++ entries_of part ys → new ≡ old ++ entries_of part (xs ++ ys)
saved_both part old mid new xs ys first second =
    second ∙ ap (λ l. l ++ entries_of part ys) first ∙ append_assoc old (entries_of part xs) (entries_of part ys) ∙ ap (λ l. old ++ l) (sym (map-append (entry_of part) xs ys))
