-- The rows of one key among the sessions that go on.
use Rattle.std.specs.Prelude.{◌≡◌, ℕ, ◌+◌, ◌<◌, ◌≤◌, max, nat_eq, nat_lt, Bool, true, false, cond, Option, None, Some, is_some, List, [], ◌∷◌, ◌++◌, filter, length, slice_get, Vec, refl}
use Rattle.std.specs.List.{swap_remove}
use Rattle.std.specs.Option.{option_map}
use Rattle.std.specs.Map.{values_of, lookup}
use Rattle.std.proofs.Common.{sym, ◌∙◌, ap, subst, arith}
use Rattle.std.proofs.lemmas.Bool.Decides.{nat_tests}
use Rattle.std.proofs.lemmas.Option.{slice_get-map}
use Rattle.tw_rows.specs.Bag.{total}
use Rattle.tw_rows.proofs.Bags.{total-append}
use Rattle.tw_rows.specs.declared.cells.Datum.{Datum}
use Rattle.tw_rows.specs.declared.edge.HeldRow.{HeldRow}
use Rattle.edge_history.specs.Order.{many, failing}
use Rattle.synopsis.specs.Buckets.{Entry, rows_in, strays, has_rows, AreKeyed}
use Rattle.synopsis.proofs.Keyed.{gone_weighs, rows_weigh}
use Rattle.session_window.specs.Lasts.{IsLastStart}

abbrev value_of : Option (List HeldRow) → List HeldRow
value_of None = []
value_of (Some x) = x

-- of a filter only those count that are kept
pub many_kept : (p : HeldRow → Bool) (xs : List HeldRow) → many p xs ≡ length (filter p xs)
many_kept p [] = refl
many_kept p (x ∷ xs) = pick (p x) (many_kept p xs)
  where
    pick : (b : Bool) → many p xs ≡ length (filter p xs) → cond b 1 0 + many p xs ≡ length (cond b (x ∷ filter p xs) (filter p xs))
    pick true h = omega (arith, h)
    pick false h = omega (arith, h)

-- a session has a row, and so its key has one
pub some_rows : (p : HeldRow → Bool) (xs b : List HeldRow) → b ≡ filter p xs → 1 ≤ length b → false ≡ nat_eq (many p xs) 0
some_rows p xs b is l =
    let n = many_kept p xs in
    let e = ap (λ (l : List HeldRow). length l) is in
    sym (not_zero (many p xs) (omega (arith, l, n, e)))
  where
    not_zero : (n : ℕ) → 1 ≤ n → nat_eq n 0 ≡ false
    not_zero n k = grind (arith, nat_tests)

pub session_filled : {S : Type 0} (test : Vec Datum S → Bool) (es : List (Entry S)) (b : List HeldRow) → lookup test es ≡ Some b → failing has_rows es ≡ 0 → 1 ≤ length b
session_filled test [] b h f = absurd (cc)
session_filled {S} test (e ∷ es) b h f = go (test e.0) h (nat_lt 0 (length e.1)) refl (λ k g. session_filled test es b k g)
  where
    long : (n : ℕ) → nat_lt 0 n ≡ true → 1 ≤ n
    long n k = grind (arith, nat_tests)

    go : (t : Bool) → cond t (Some e.1) (lookup test es) ≡ Some b → (c : Bool) → nat_lt 0 (length e.1) ≡ c → (lookup test es ≡ Some b → failing has_rows es ≡ 0 → 1 ≤ length b) → 1 ≤ length b
    go t k false n rest = absurd (let z = ap (λ b. cond {A = ℕ} b 0 1) n in omega (arith, z, f))
    go true k true n rest =
        let same : e.1 ≡ b = ap (λ (o : Option (List HeldRow)). value_of o) k in
        subst (λ (l : List HeldRow). 1 ≤ length l) same (long (length e.1) n)
    go false k true n rest = rest k (let z = ap (λ b. cond {A = ℕ} b 0 1) n in omega (arith, z, f))

pub no_rows : (p : HeldRow → Bool) (xs : List HeldRow) → [] ≡ filter p xs → true ≡ nat_eq (many p xs) 0
no_rows p xs is =
    let n = many_kept p xs in
    let e = ap (λ (l : List HeldRow). length l) is in
    sym (zero_is (many p xs) (omega (arith, n, e)))
  where
    zero_is : (n : ℕ) → n ≡ 0 → nat_eq n 0 ≡ true
    zero_is n k = grind (arith, nat_tests)

-- the entry that was taken out, and what is left
pub record Left {S : Type 0} (es fs : List (Entry S)) (b : List HeldRow) : Type 0 where
  pub entry : Entry S
  pub rows : entry.1 ≡ b
  pub weighs : (v : Entry S → ℕ) → total v fs + v entry ≡ total v es

pub left_by : {S : Type 0} (es fs : List (Entry S)) (i : ℕ) (p : Entry S) → Some p ≡ slice_get es i → fs ≡ swap_remove es i p → Left es fs p.1
left_by es fs i p at is = record { entry = p; rows = refl; weighs = λ v. gone_weighs v es fs i p (sym at) is }

pub left_rows : {S : Type 0} (es fs : List (Entry S)) (b : List HeldRow) → Left es fs b → (w : HeldRow → ℕ) → total w (rows_in es) ≡ total w (rows_in fs) + total w b
left_rows es fs b l w =
    let a = rows_weigh w es in
    let c = rows_weigh w fs in
    let d = l.weighs (λ e. total w e.1) in
    let e = ap (total w) l.rows in
    omega (arith, a, c, d, e)

pub left_keyed : {S : Type 0} (es fs : List (Entry S)) (b : List HeldRow) → Left es fs b → (columns : List ℕ) → AreKeyed columns es → AreKeyed columns fs
left_keyed es fs b l columns k = record {
  own = (let a = l.weighs (strays columns) in let o = k.own in omega (arith, a, o));
  filled = (let a = l.weighs (λ e. cond (has_rows e) 0 1) in let o = k.filled in omega (arith, a, o));
}

-- what stands at the place of a key
pub value_at : {S : Type 0} (es : List (Entry S)) (i : ℕ) (p : Entry S) (o : Option (List HeldRow)) → Some p ≡ slice_get es i → slice_get (values_of es) i ≡ o → Some p.1 ≡ o
value_at {S} es i p o at is = ap (option_map (λ (e : Entry S). e.1)) at ∙ sym (slice_get-map (λ (e : Entry S). e.1) es i) ∙ is

pub none_at : {S : Type 0} (es : List (Entry S)) (i : ℕ) (o : Option (List HeldRow)) → None ≡ slice_get es i → slice_get (values_of es) i ≡ o → None ≡ o
none_at {S} es i o at is = ap (option_map (λ (e : Entry S). e.1)) at ∙ sym (slice_get-map (λ (e : Entry S). e.1) es i) ∙ is

pub none_is : (o : Option (List HeldRow)) → false ≡ is_some o → None ≡ o
none_is None h = refl
none_is (Some x) h = absurd (cc)

-- the last start, with one row more
pub last_more : (last start : ℕ) (rows : List HeldRow) (r : HeldRow) → r.start ≡ start → IsLastStart last rows → IsLastStart (max last start) (rows ++ r ∷ [])
last_more last start rows r e h = record { there = there; none_later = none }
  where
    at_last : (m : ℕ) → m ≡ last → many (λ (x : HeldRow). nat_eq x.start m) rows ≡ many (λ (x : HeldRow). nat_eq x.start last) rows
    at_last m k = ap (λ n. many (λ (x : HeldRow). nat_eq x.start n) rows) k

    own : (m : ℕ) → m ≡ start → cond {A = ℕ} (nat_eq r.start m) 1 0 ≡ 1
    own m k = ap (λ b. cond {A = ℕ} b 1 0) (same r.start m (omega (arith, e, k)))
      where
        same : (m n : ℕ) → m ≡ n → nat_eq m n ≡ true
        same m n k = grind (arith, nat_tests)

    there : 1 ≤ many (λ (x : HeldRow). nat_eq x.start (max last start)) (rows ++ r ∷ [])
    there = pick (nat_lt last start) refl
      where
        pick : (b : Bool) → nat_lt last start ≡ b → 1 ≤ many (λ (x : HeldRow). nat_eq x.start (max last start)) (rows ++ r ∷ [])
        pick true k =
            let a = total-append (λ (x : HeldRow). cond {A = ℕ} (nat_eq x.start (max last start)) 1 0) rows (r ∷ []) in
            let b = own (max last start) (top last start k) in
            omega (arith, a, b)
          where
            top : (m n : ℕ) → nat_lt m n ≡ true → max m n ≡ n
            top m n k = let l : m < n = grind (arith, nat_tests) in omega (arith, l)
        pick false k =
            let a = total-append (λ (x : HeldRow). cond {A = ℕ} (nat_eq x.start (max last start)) 1 0) rows (r ∷ []) in
            let b = at_last (max last start) (top last start k) in
            let c = h.there in
            omega (arith, a, b, c)
          where
            top : (m n : ℕ) → nat_lt m n ≡ false → max m n ≡ m
            top m n k = let l : n ≤ m = grind (arith, nat_tests) in omega (arith, l)

    fewer : (m n : ℕ) → n ≤ m → (xs : List HeldRow) → many (λ x. nat_lt m x.start) xs ≤ many (λ x. nat_lt n x.start) xs
    fewer m n l [] = omega arith
    fewer m n l (x ∷ xs) = let a = one x.start in let b = fewer m n l xs in omega (arith, a, b)
      where
        one : (s : ℕ) → cond {A = ℕ} (nat_lt m s) 1 0 ≤ cond (nat_lt n s) 1 0
        one s = grind (arith, nat_tests)

    none : many (λ (x : HeldRow). nat_lt (max last start) x.start) (rows ++ r ∷ []) ≡ 0
    none =
        let a = total-append (λ (x : HeldRow). cond {A = ℕ} (nat_lt (max last start) x.start) 1 0) rows (r ∷ []) in
        let b = fewer (max last start) last (omega arith) rows in
        let c = h.none_later in
        let d = ap (λ b. cond {A = ℕ} b 1 0) (low (max last start) r.start (omega (arith, e))) in
        omega (arith, a, b, c, d)
      where
        low : (m n : ℕ) → n ≤ m → nat_lt m n ≡ false
        low m n l = grind (arith, nat_tests)

pub last_one : (r : HeldRow) (start : ℕ) → r.start ≡ start → IsLastStart start (r ∷ [])
last_one r start e = record {
  there = (let a = ap (λ b. cond {A = ℕ} b 1 0) (same r.start start e) in omega (arith, a));
  none_later = (let a = ap (λ b. cond {A = ℕ} b 1 0) (low start r.start (omega (arith, e))) in omega (arith, a));
}
  where
    same : (m n : ℕ) → m ≡ n → nat_eq m n ≡ true
    same m n k = grind (arith, nat_tests)

    low : (m n : ℕ) → n ≤ m → nat_lt m n ≡ false
    low m n l = grind (arith, nat_tests)
