-- What groups weigh where one is put in, or written anew.
use Rattle.std.specs.Prelude.{◌≡◌, ℕ, suc, ◌+◌, ◌<◌, ◌==◌, nat_lt, Bool, true, false, cond, Option, Some, None, unwrap_or, Result, Ok, Err, OnErr, List, [], ◌∷◌, ◌++◌, refl}
use Rattle.std.specs.Map.{lookup, set_value, remove_entry}
use Rattle.std.specs.declared.cmp.Ordering.{Ordering}
use Rattle.std.specs.declared.cmp.Ordering.TheVariants.{Less, Equal, Greater}
use Rattle.std.specs.Ordering.{nat_cmp, is_eq, match_ordering}
use Rattle.std.specs.BTreeMap.{is_at, insert_entry}
use Rattle.std.proofs.Common.{sym, ◌∙◌, ap, arith}
use Rattle.std.proofs.lemmas.Bool.Decides.{nat_tests}
use Rattle.tw_rows.specs.Bag.{total}
use Rattle.tw_rows.specs.declared.cells.Datum.{Datum}
use Rattle.tw_rows.specs.declared.edge.HeldRow.{HeldRow}
use Rattle.tw_rows.proofs.Bags.{total-append, total-flat_map}
use Rattle.edge_history.specs.Order.{failing}
use Rattle.outer_top.specs.Ranks.{Group, rows_in, strays, AreRanked, AreBelow, AreFrom}

pub at_same : (k q : ℕ) → is_eq (nat_cmp k q) ≡ true → q ≡ k
at_same k q h = go (nat_lt k q) refl (k == q) refl h
  where
    go : (a : Bool) → nat_lt k q ≡ a → (b : Bool) → (k == q) ≡ b → is_eq (cond a Less (cond b Equal Greater)) ≡ true → q ≡ k
    go true x b y h = absurd (cc)
    go false x true y h = grind (arith, nat_tests)
    go false x false y h = absurd (cc)

pub cmp_less : (k q : ℕ) → nat_cmp k q ≡ Less → k < q
cmp_less k q h = go (nat_lt k q) refl (k == q) h
  where
    go : (a : Bool) → nat_lt k q ≡ a → (b : Bool) → cond a Less (cond b Equal Greater) ≡ Less → k < q
    go true x b h = grind (arith, nat_tests)
    go false x true h = absurd (cc)
    go false x false h = absurd (cc)

-- the rows of a key are written anew
pub written : (v : Group → ℕ) (es : List Group) (k : ℕ) (b c : List HeldRow) → lookup (is_at (nat_cmp k)) es ≡ Some b →
    total v (set_value (is_at (nat_cmp k)) es c) + v (k, b) ≡ total v es + v (k, c)
written v [] k b c h = absurd (cc)
written v (e ∷ es) k b c h = go (is_eq (nat_cmp k e.0)) refl h (written v es k b c)
  where
    go : (t : Bool) → is_eq (nat_cmp k e.0) ≡ t → cond t (Some e.1) (lookup (is_at (nat_cmp k)) es) ≡ Some b →
        (lookup (is_at (nat_cmp k)) es ≡ Some b → total v (set_value (is_at (nat_cmp k)) es c) + v (k, b) ≡ total v es + v (k, c)) →
        total v (cond t ((e.0, c) ∷ es) (e ∷ set_value (is_at (nat_cmp k)) es c)) + v (k, b) ≡ total v (e ∷ es) + v (k, c)
    go true is h rest =
        let key = at_same k e.0 is in
        let x = ap (λ n. v (n, c)) key in
        let y = ap (λ n. v (n, e.1)) key in
        let z = ap (λ l. v (k, l)) (ap (λ o. unwrap_or o b) h) in
        omega (arith, x, y, z)
    go false is h rest = let r = rest h in omega (arith, r)

-- a group comes, of a rank that none had
pub inserted : (v : Group → ℕ) (es : List Group) (k : ℕ) (x : List HeldRow) → lookup (is_at (nat_cmp k)) es ≡ None →
    total v (insert_entry nat_cmp es k x) ≡ total v es + v (k, x)
inserted v [] k x h = omega arith
inserted v (e ∷ es) k x h = go (nat_cmp k e.0) h (inserted v es k x)
  where
    go : (o : Ordering) → cond (is_eq o) (Some e.1) (lookup (is_at (nat_cmp k)) es) ≡ None →
        (lookup (is_at (nat_cmp k)) es ≡ None → total v (insert_entry nat_cmp es k x) ≡ total v es + v (k, x)) →
        total v (match_ordering o ((k, x) ∷ e ∷ es) ((e.0, x) ∷ es) (e ∷ insert_entry nat_cmp es k x)) ≡ total v (e ∷ es) + v (k, x)
    go Less h rest = omega arith
    go Equal h rest = absurd (cc)
    go Greater h rest = let r = rest h in omega (arith, r)

-- a rank that is above all of them is none of theirs, and likewise below
pub absent_above : (es : List Group) (k : ℕ) → AreBelow k es → lookup (is_at (nat_cmp k)) es ≡ None
absent_above [] k h = refl
absent_above (e ∷ es) k h = go (is_eq (nat_cmp k e.0)) refl (absent_above es k (let z = h in omega (arith, z)))
  where
    go : (t : Bool) → is_eq (nat_cmp k e.0) ≡ t → lookup (is_at (nat_cmp k)) es ≡ None → cond t (Some e.1) (lookup (is_at (nat_cmp k)) es) ≡ None
    go true is rest = let key = at_same k e.0 is in let z : e.0 < k = grind (arith, nat_tests, h) in absurd (omega (arith, key, z))
    go false is rest = rest

-- below all of them it comes first
pub insert_front : (es : List Group) (k : ℕ) (x : List HeldRow) → AreFrom (suc k) es → insert_entry nat_cmp es k x ≡ (k, x) ∷ es
insert_front [] k x h = refl
insert_front (e ∷ es) k x h = go (nat_lt k e.0) refl
  where
    go : (a : Bool) → nat_lt k e.0 ≡ a → match_ordering (cond a Less (cond (k == e.0) Equal Greater)) ((k, x) ∷ e ∷ es) ((e.0, x) ∷ es) (e ∷ insert_entry nat_cmp es k x) ≡ (k, x) ∷ e ∷ es
    go true is = refl
    go false is = let z : k < e.0 = grind (arith, nat_tests, h) in let y : k < e.0 → nat_lt k e.0 ≡ true = λ q. grind (arith, nat_tests) in let t = y z in absurd (cc (is, t))

-- the rows of a key are what they were
pub set_again : (es : List Group) (k : ℕ) (b : List HeldRow) → lookup (is_at (nat_cmp k)) es ≡ Some b → set_value (is_at (nat_cmp k)) es b ≡ es
set_again [] k b h = refl
set_again (e ∷ es) k b h = go (is_eq (nat_cmp k e.0)) h (set_again es k b)
  where
    go : (t : Bool) → cond t (Some e.1) (lookup (is_at (nat_cmp k)) es) ≡ Some b → (lookup (is_at (nat_cmp k)) es ≡ Some b → set_value (is_at (nat_cmp k)) es b ≡ es) →
        cond t ((e.0, b) ∷ es) (e ∷ set_value (is_at (nat_cmp k)) es b) ≡ e ∷ es
    go true h rest = ap (λ l. (e.0, l) ∷ es) (sym (ap (λ o. unwrap_or o b) h))
    go false h rest = ap (λ l. e ∷ l) (rest h)

-- a group goes that has no row any more
pub removed : (v : Group → ℕ) (es : List Group) (k : ℕ) (b : List HeldRow) → lookup (is_at (nat_cmp k)) es ≡ Some b →
    total v (remove_entry (is_at (nat_cmp k)) (set_value (is_at (nat_cmp k)) es [])) + v (k, b) ≡ total v es
removed v [] k b h = absurd (cc)
removed v (e ∷ es) k b h = go (is_eq (nat_cmp k e.0)) refl h (removed v es k b)
  where
    again : (t : Bool) → is_eq (nat_cmp k e.0) ≡ t → (xs : List Group) → remove_entry (is_at (nat_cmp k)) (cond t ((e.0, []) ∷ es) (e ∷ xs)) ≡ cond t es (e ∷ remove_entry (is_at (nat_cmp k)) xs)
    again true is xs = ap (λ t. cond t es ((e.0, []) ∷ remove_entry (is_at (nat_cmp k)) es)) is
    again false is xs = ap (λ t. cond t xs (e ∷ remove_entry (is_at (nat_cmp k)) xs)) is

    go : (t : Bool) → is_eq (nat_cmp k e.0) ≡ t → cond t (Some e.1) (lookup (is_at (nat_cmp k)) es) ≡ Some b →
        (lookup (is_at (nat_cmp k)) es ≡ Some b → total v (remove_entry (is_at (nat_cmp k)) (set_value (is_at (nat_cmp k)) es [])) + v (k, b) ≡ total v es) →
        total v (remove_entry (is_at (nat_cmp k)) (cond t ((e.0, []) ∷ es) (e ∷ set_value (is_at (nat_cmp k)) es []))) + v (k, b) ≡ total v (e ∷ es)
    go true is h rest =
        let key = at_same k e.0 is in
        let y = ap (λ n. v (n, e.1)) key in
        let z = ap (λ l. v (k, l)) (ap (λ o. unwrap_or o b) h) in
        let a = ap (total v) (again true is (set_value (is_at (nat_cmp k)) es [])) in
        omega (arith, y, z, a)
    go false is h rest =
        let r = rest h in
        let a = ap (total v) (again false is (set_value (is_at (nat_cmp k)) es [])) in
        omega (arith, r, a)

pub rows_weigh : (w : HeldRow → ℕ) (es : List Group) → total w (rows_in es) ≡ total (λ g. total w g.1) es
rows_weigh w es = total-flat_map w (λ (g : Group). g.1) es

-- a row is put into its group
module _ (es : List Group) (k : ℕ) (b c : List HeldRow) (r : HeldRow) (is : c ≡ b ++ r ∷ []) (there : lookup (is_at (nat_cmp k)) es ≡ Some b) where
  pub more_rows : (w : HeldRow → ℕ) → total w (rows_in (set_value (is_at (nat_cmp k)) es c)) ≡ total w (rows_in es) + w r
  more_rows w =
      let m = written (λ g. total w g.1) es k b c there in
      let a = ap (total w) is ∙ total-append w b (r ∷ []) in
      let x = rows_weigh w es in
      let y = rows_weigh w (set_value (is_at (nat_cmp k)) es c) in
      omega (arith, m, a, x, y)

  pub more_ranked : (rank : List Datum → ℕ → Bool) → rank r.cells k ≡ true → AreRanked rank es → AreRanked rank (set_value (is_at (nat_cmp k)) es c)
  more_ranked rank own h =
      let v : HeldRow → ℕ = λ x. cond {A = ℕ} (rank x.cells k) 0 1 in
      let m = written (strays rank) es k b c there in
      let a = ap (total v) is ∙ total-append v b (r ∷ []) in
      let z : v r ≡ 0 = ap (λ b. cond {A = ℕ} b 0 1) own in
      omega (arith, m, a, z, h)

  pub same_ranks : (p : ℕ → Bool) → failing (λ (g : Group). p g.0) es ≡ 0 → failing (λ (g : Group). p g.0) (set_value (is_at (nat_cmp k)) es c) ≡ 0
  same_ranks p h = let m = written (λ g. cond {A = ℕ} (p g.0) 0 1) es k b c there in omega (arith, m, h)

-- a group of one row comes
module _ (es : List Group) (k : ℕ) (c : List HeldRow) (r : HeldRow) (is : c ≡ r ∷ []) (there : lookup (is_at (nat_cmp k)) es ≡ None) where
  pub new_rows : (w : HeldRow → ℕ) → total w (rows_in (insert_entry nat_cmp es k c)) ≡ total w (rows_in es) + w r
  new_rows w =
      let m = inserted (λ g. total w g.1) es k c there in
      let a = ap (total w) is in
      let x = rows_weigh w es in
      let y = rows_weigh w (insert_entry nat_cmp es k c) in
      omega (arith, m, a, x, y)

  pub new_ranked : (rank : List Datum → ℕ → Bool) → rank r.cells k ≡ true → AreRanked rank es → AreRanked rank (insert_entry nat_cmp es k c)
  new_ranked rank own h =
      let v : HeldRow → ℕ = λ x. cond {A = ℕ} (rank x.cells k) 0 1 in
      let m = inserted (strays rank) es k c there in
      let a = ap (total v) is in
      let z : v r ≡ 0 = ap (λ b. cond {A = ℕ} b 0 1) own in
      omega (arith, m, a, z, h)

  pub new_ranks : (p : ℕ → Bool) → p k ≡ true → failing (λ (g : Group). p g.0) es ≡ 0 → failing (λ (g : Group). p g.0) (insert_entry nat_cmp es k c) ≡ 0
  new_ranks p fits h =
      let m = inserted (λ g. cond {A = ℕ} (p g.0) 0 1) es k c there in
      let z = ap (λ b. cond {A = ℕ} b 0 1) fits in
      omega (arith, m, z, h)

-- a row is taken out of its group
module _ (es : List Group) (k : ℕ) (b c : List HeldRow) (r : HeldRow) (is : (w : HeldRow → ℕ) → total w b ≡ total w c + w r) (there : lookup (is_at (nat_cmp k)) es ≡ Some b) where
  pub less_rows : (w : HeldRow → ℕ) → total w (rows_in es) ≡ total w (rows_in (set_value (is_at (nat_cmp k)) es c)) + w r
  less_rows w =
      let m = written (λ g. total w g.1) es k b c there in
      let a = is w in
      let x = rows_weigh w es in
      let y = rows_weigh w (set_value (is_at (nat_cmp k)) es c) in
      omega (arith, m, a, x, y)

  pub less_ranked : (rank : List Datum → ℕ → Bool) → AreRanked rank es → AreRanked rank (set_value (is_at (nat_cmp k)) es c)
  less_ranked rank h =
      let m = written (strays rank) es k b c there in
      let a = is (λ x. cond {A = ℕ} (rank x.cells k) 0 1) in
      omega (arith, m, a, h)

  pub less_ranks : (p : ℕ → Bool) → failing (λ (g : Group). p g.0) es ≡ 0 → failing (λ (g : Group). p g.0) (set_value (is_at (nat_cmp k)) es c) ≡ 0
  less_ranks p h = let m = written (λ g. cond {A = ℕ} (p g.0) 0 1) es k b c there in omega (arith, m, h)

  -- its last one
  pub no_rows : c ≡ [] → (w : HeldRow → ℕ) → total w (rows_in es) ≡ total w (rows_in (remove_entry (is_at (nat_cmp k)) (set_value (is_at (nat_cmp k)) es []))) + w r
  no_rows none w =
      let m = removed (λ g. total w g.1) es k b there in
      let a = is w in
      let n = ap (total w) none in
      let x = rows_weigh w es in
      let y = rows_weigh w (remove_entry (is_at (nat_cmp k)) (set_value (is_at (nat_cmp k)) es [])) in
      omega (arith, m, a, n, x, y)

  pub no_ranked : (rank : List Datum → ℕ → Bool) → AreRanked rank es → AreRanked rank (remove_entry (is_at (nat_cmp k)) (set_value (is_at (nat_cmp k)) es []))
  no_ranked rank h = let m = removed (strays rank) es k b there in omega (arith, m, h)

  pub no_ranks : (p : ℕ → Bool) → failing (λ (g : Group). p g.0) es ≡ 0 → failing (λ (g : Group). p g.0) (remove_entry (is_at (nat_cmp k)) (set_value (is_at (nat_cmp k)) es [])) ≡ 0
  no_ranks p h = let m = removed (λ g. cond {A = ℕ} (p g.0) 0 1) es k b there in omega (arith, m, h)

-- a fact that holds whatever the result
pub always : {A B : Type 0} (r : Result A B) (P : Type 0) → P → OnErr r P
always (Ok a) P h = tt
always (Err b) P h = h
