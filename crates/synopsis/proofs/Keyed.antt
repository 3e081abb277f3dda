-- Rows in buckets: what changes where one bucket does, and which rows are those of a key.
use Rattle.std.specs.Prelude.{◌≡◌, ℕ, zero, suc, ◌+◌, ◌≤◌, ◌<◌, ◌==◌, nat_eq, nat_lt, Bool, true, false, cond, Option, Some, None, is_some, IfSome, Result, Ok, Err, OnErr, List, [], ◌∷◌, ◌++◌, filter, flat_map, length, slice_get, get_or, drop, Vec, refl}
use Rattle.std.specs.List.{swap_remove, IsDistinct, AllByRecursion}
use Rattle.std.specs.Map.{keys_of, values_of, lookup, set_value}
use Rattle.std.proofs.Common.{sym, ◌∙◌, ap, arith, length-append}
use Rattle.std.proofs.lemmas.Bool.{and_parts, eqb-true}
use Rattle.std.proofs.lemmas.Bool.Decides.{nat_tests}
use Rattle.std.proofs.lemmas.List.Sums.{sum_by-swap_remove}
use Rattle.std.proofs.lemmas.Map.Keys.{IsDistinct-head, IsDistinct-tail}
use Rattle.std.proofs.lemmas.Option.{get_or_from_slice_get, slice_get_within, slice_get-map}
use Rattle.std.specs.Option.{option_map}
use Rattle.indexmap.specs.IndexMap.{IndexMap, get, insert_entry, set_value_at}
use Rattle.indexmap.proofs.CallerLemmas.{insert_entry-new}
use Rattle.std.specs.Cmp.Lexicographic.{pointwise}
use Rattle.tw_rows.specs.contracts.cells.DatumPartialEq.TheImpl as datum_block
use Rattle.tw_rows.proofs.CellEquality.{cells_eq_same}
use Rattle.tw_rows.specs.Bag.{total}
use Rattle.tw_rows.specs.SameCells.{same_cells, cells_are_same, same_itself}
use Rattle.tw_rows.specs.declared.cells.Datum.{Datum}
use Rattle.tw_rows.specs.declared.edge.HeldRow.{HeldRow}
use Rattle.tw_rows.proofs.Bags.{total-append, total-flat_map, total-is-sum_by}
use Rattle.edge_history.specs.Order.{many, failing}
use Rattle.edge_history.specs.Opens.{is_held}
use Rattle.synopsis.specs.Held.{key_of, is_of_key}
use Rattle.synopsis.specs.Buckets.{Entry, rows_in, blocks_in, strays, has_rows, AreKeyed}

abbrev value_or : {X : Type 0} → X → Option X → X
value_or d None = d
value_or d (Some x) = x

-- the bucket that a test finds, and what it weighs to put another one in its place
pub record Found {S : Type 0} (test : Vec Datum S → Bool) (es : List (Entry S)) (b : List HeldRow) : Type 0 where
  pub key : Vec Datum S
  pub passes : test key ≡ true
  pub moved : (v : Entry S → ℕ) (c : List HeldRow) → total v (set_value test es c) + v (key, b) ≡ total v es + v (key, c)

module _ {S : Type 0} (test : Vec Datum S → Bool) where
  pub found : (es : List (Entry S)) (b : List HeldRow) → lookup test es ≡ Some b → Found test es b
  found [] b h = absurd (cc)
  found (e ∷ es) b h = go (test e.0) refl h (found es b)
    where
      go : (t : Bool) → test e.0 ≡ t → cond t (Some e.1) (lookup test es) ≡ Some b → (lookup test es ≡ Some b → Found test es b) → Found test (e ∷ es) b
      go true is h rest =
          let same : e.1 ≡ b = ap (value_or b) h in
          record {
            key = e.0;
            passes = is;
            moved = λ v c.
                let x = ap (λ t. total v (cond t ((e.0, c) ∷ es) (e ∷ set_value test es c))) is in
                let y = ap (λ l. v (e.0, l)) same in
                omega (arith, x, y);
          }
      go false is h rest =
          let r = rest h in
          record {
            key = r.key;
            passes = r.passes;
            moved = λ v c.
                let x = ap (λ t. total v (cond t ((e.0, c) ∷ es) (e ∷ set_value test es c))) is in
                let y = r.moved v c in
                omega (arith, x, y);
          }

  -- the bucket that is there already in its place
  pub set_again : (es : List (Entry S)) (b : List HeldRow) → lookup test es ≡ Some b → set_value test es b ≡ es
  set_again [] b h = refl
  set_again (e ∷ es) b h = go (test e.0) h (set_again es b)
    where
      go : (t : Bool) → cond t (Some e.1) (lookup test es) ≡ Some b → (lookup test es ≡ Some b → set_value test es b ≡ es) → cond t ((e.0, b) ∷ es) (e ∷ set_value test es b) ≡ e ∷ es
      go true h rest = ap (λ l. (e.0, l) ∷ es) (sym (ap (value_or b) h))
      go false h rest = ap (λ l. e ∷ l) (rest h)

-- the rows of a bucket that fail a test, where a row that passes comes or one goes
pub rows_weigh : {S : Type 0} (w : HeldRow → ℕ) (es : List (Entry S)) → total w (rows_in es) ≡ total (λ e. total w e.1) es
rows_weigh {S} w es = total-flat_map w (λ (e : Entry S). e.1) es

-- a row passes the test of its own key
pub own_key : (columns : List ℕ) (cells : List Datum) (start : ℕ) (values : List Datum) → values ≡ key_of columns cells →
    is_of_key columns values (record { cells = cells; start = start }) ≡ true
own_key columns cells start values is = ap (same_cells (key_of columns cells)) is ∙ same_itself (key_of columns cells)

positive : (n : ℕ) → 0 < n → nat_lt 0 n ≡ true
positive n h = grind (arith, nat_tests)

some_rows : (b : List HeldRow) (r : HeldRow) → nat_lt 0 (length (b ++ r ∷ [])) ≡ true
some_rows b r = let h = length-append b (r ∷ []) in positive (length (b ++ r ∷ [])) (omega (arith, h))

cond_zero : (b : Bool) → b ≡ true → ◌≡◌ {A = ℕ} (cond b 0 1) 0
cond_zero b h = ap (λ t. cond {A = ℕ} t 0 1) h

cond_one : (b : Bool) → b ≡ false → ◌≡◌ {A = ℕ} (cond b 0 1) 1
cond_one b h = ap (λ t. cond {A = ℕ} t 0 1) h

-- a row that has its key is put into the bucket of the key
module _ {S : Type 0} (test : Vec Datum S → Bool) (values : List Datum) (tests : (k : Vec Datum S) → test k ≡ same_cells values k.items) where
  pub keys_agree : (k : Vec Datum S) → test k ≡ true → values ≡ k.items
  keys_agree k h = cells_are_same values k.items (sym (tests k) ∙ h)

  pub put_weighs : (es : List (Entry S)) (b c : List HeldRow) (cells : List Datum) (start : ℕ) → lookup test es ≡ Some b →
      c ≡ b ++ record { cells = cells; start = start } ∷ [] → (w : HeldRow → ℕ) →
      total w (rows_in (set_value test es c)) ≡ total w (rows_in es) + w (record { cells = cells; start = start })
  put_weighs es b c cells start h is w =
      let row : HeldRow = record { cells = cells; start = start } in
      let f = found test es b h in
      let m = f.moved (λ e. total w e.1) c in
      let a = ap (total w) is ∙ total-append w b (row ∷ []) in
      let x = rows_weigh w es in
      let y = rows_weigh w (set_value test es c) in
      omega (arith, m, a, x, y)

  pub put_keyed : (es : List (Entry S)) (b c : List HeldRow) (cells : List Datum) (start : ℕ) → lookup test es ≡ Some b →
      c ≡ b ++ record { cells = cells; start = start } ∷ [] → (columns : List ℕ) → values ≡ key_of columns cells → AreKeyed columns es → AreKeyed columns (set_value test es c)
  put_keyed es b c cells start h is columns key keyed =
      let row : HeldRow = record { cells = cells; start = start } in
      let f = found test es b h in
      let m = f.moved (strays columns) c in
      let p : HeldRow → Bool = is_of_key columns f.key.items in
      let w : HeldRow → ℕ = λ r. cond {A = ℕ} (p r) 0 1 in
      let a = ap (total w) is ∙ total-append w b (row ∷ []) in
      let own = cond_zero (p row) (own_key columns cells start f.key.items (sym (keys_agree f.key f.passes) ∙ key)) in
      let n = f.moved (λ e. cond {A = ℕ} (has_rows e) 0 1) c in
      let full = cond_zero (nat_lt 0 (length c)) (ap (λ (l : List HeldRow). nat_lt 0 (length l)) is ∙ some_rows b row) in
      let o = keyed.own in
      let fill = keyed.filled in
      record { own = omega (arith, m, a, own, o); filled = omega (arith, n, full, fill) }

-- an empty bucket goes
pub gone_weighs : {S : Type 0} (v : Entry S → ℕ) (es fs : List (Entry S)) (i : ℕ) (p : Entry S) → slice_get es i ≡ Some p → fs ≡ swap_remove es i p →
    total v fs + v p ≡ total v es
gone_weighs v es fs i p at is =
    let low = slice_get_within es i p at in
    let a = sum_by-swap_remove v es i p low in
    let b = total-is-sum_by v es in
    let c = ap (total v) is ∙ total-is-sum_by v (swap_remove es i p) in
    let d = ap v (get_or_from_slice_get es i p p at) in
    omega (arith, a, b, c, d)

-- what is taken out at the place of an empty bucket
pub record Gone {S : Type 0} (es fs : List (Entry S)) : Type 0 where
  pub entry : Entry S
  pub bare : entry.1 ≡ []
  pub weighs : (v : Entry S → ℕ) → total v fs + v entry ≡ total v es

pub gone : {S : Type 0} (es fs : List (Entry S)) (i : ℕ) (r : Option (Entry S)) (k : Vec Datum S) → r ≡ slice_get es i → IfSome r (λ p. fs ≡ swap_remove es i p) →
    slice_get es i ≡ Some (k, []) → Gone es fs
gone {S} es fs i None k is set at = let none : ◌≡◌ {A = Option (Entry S)} None (Some (k, [])) = is ∙ at in absurd (cc (none))
gone {S} es fs i (Some p) k is set at =
    let some : ◌≡◌ {A = Option (Entry S)} (Some p) (Some (k, [])) = is ∙ at in
    record {
      entry = p;
      bare = ap (λ (o : Option (Entry S)). (value_or p o).1) some;
      weighs = λ v. gone_weighs v es fs i p (sym is) set;
    }

pub gone_rows : {S : Type 0} (es fs : List (Entry S)) → Gone es fs → (w : HeldRow → ℕ) → total w (rows_in fs) ≡ total w (rows_in es)
gone_rows es fs g w =
    let a = g.weighs (λ e. total w e.1) in
    let b = ap (total w) g.bare in
    let x = rows_weigh w es in
    let y = rows_weigh w fs in
    omega (arith, a, b, x, y)

-- no row has a key where no bucket has it, and else those of the bucket have it
module _ {S : Type 0} (eq : Vec Datum S → Vec Datum S → Bool) (eqs : (k l : Vec Datum S) → eq k l ≡ same_cells k.items l.items)
    (test : Vec Datum S → Bool) (values : List Datum) (tests : (k : Vec Datum S) → test k ≡ same_cells values k.items) (columns : List ℕ) where
  all_pass : (p : HeldRow → Bool) (b : List HeldRow) → failing p b ≡ 0 → filter p b ≡ b
  all_pass p [] h = refl
  all_pass p (r ∷ b) h = go (p r) h (all_pass p b)
    where
      go : (t : Bool) → cond t 0 1 + failing p b ≡ 0 → (failing p b ≡ 0 → filter p b ≡ b) → cond t (r ∷ filter p b) (filter p b) ≡ r ∷ b
      go true h rest = ap (λ l. r ∷ l) (rest (omega (arith, h)))
      go false h rest = absurd (omega (arith, h))

  -- rows of another key
  none_pass : (k : Vec Datum S) (b : List HeldRow) → failing (is_of_key columns k.items) b ≡ 0 → test k ≡ false → filter (is_of_key columns values) b ≡ []
  none_pass k [] h apart = refl
  none_pass k (r ∷ b) h apart = go (is_of_key columns k.items r) refl (is_of_key columns values r) refl h (λ g. none_pass k b g apart)
    where
      go : (s : Bool) → is_of_key columns k.items r ≡ s → (t : Bool) → is_of_key columns values r ≡ t → cond s 0 1 + failing (is_of_key columns k.items) b ≡ 0 →
          (failing (is_of_key columns k.items) b ≡ 0 → filter (is_of_key columns values) b ≡ []) →
          cond t (r ∷ filter (is_of_key columns values) b) (filter (is_of_key columns values) b) ≡ []
      go false is t does h rest = absurd (omega (arith, h))
      go true is false does h rest = rest (omega (arith, h))
      go true is true does h rest =
          let a = cells_are_same (key_of columns r.cells) k.items is in
          let b = cells_are_same (key_of columns r.cells) values does in
          let same : test k ≡ true = tests k ∙ (ap (same_cells values) (sym a ∙ b) ∙ same_itself values) in
          absurd (cc (same, apart))

  filter-append : (p : HeldRow → Bool) (b c : List HeldRow) → filter p (b ++ c) ≡ filter p b ++ filter p c
  filter-append p [] c = refl
  filter-append p (r ∷ b) c = go (p r) (filter-append p b c)
    where
      go : (t : Bool) → filter p (b ++ c) ≡ filter p b ++ filter p c → cond t (r ∷ filter p (b ++ c)) (filter p (b ++ c)) ≡ cond t (r ∷ filter p b) (filter p b) ++ filter p c
      go true h = ap (λ l. r ∷ l) h
      go false h = h

  append-nil : (b : List HeldRow) → b ++ [] ≡ b
  append-nil [] = refl
  append-nil (r ∷ b) = ap (λ l. r ∷ l) (append-nil b)

  -- behind the bucket of a key there is none of the same key
  none_behind : (k : Vec Datum S) (es : List (Entry S)) → values ≡ k.items → AllByRecursion (λ y. eq k y ≡ false) (keys_of es) → total (strays columns) es ≡ 0 →
      filter (is_of_key columns values) (rows_in es) ≡ []
  none_behind k [] is others own = refl
  none_behind k (e ∷ es) is others own =
      let apart : test e.0 ≡ false = tests e.0 ∙ (ap (λ l. same_cells l e.0.items) is ∙ (sym (eqs k e.0) ∙ others.0)) in
      filter-append (is_of_key columns values) e.1 (rows_in es)
      ∙ (ap (λ l. l ++ filter (is_of_key columns values) (rows_in es)) (none_pass e.0 e.1 (omega (arith, own)) apart)
      ∙ none_behind k es is others.1 (omega (arith, own)))

  pub rows_are : (es : List (Entry S)) → IsDistinct eq (keys_of es) → total (strays columns) es ≡ 0 →
      filter (is_of_key columns values) (rows_in es) ≡ value_or [] (lookup test es)
  rows_are [] apart own = refl
  rows_are (e ∷ es) apart own =
      filter-append (is_of_key columns values) e.1 (rows_in es)
      ∙ go (test e.0) refl (rows_are es (IsDistinct-tail eq e.0 (keys_of es) apart) (omega (arith, own)))
    where
      go : (t : Bool) → test e.0 ≡ t → filter (is_of_key columns values) (rows_in es) ≡ value_or [] (lookup test es) →
          filter (is_of_key columns values) e.1 ++ filter (is_of_key columns values) (rows_in es) ≡ value_or [] (cond t (Some e.1) (lookup test es))
      go true is rest =
          let same : values ≡ e.0.items = cells_are_same values e.0.items (sym (tests e.0) ∙ is) in
          let none = none_behind e.0 es same (IsDistinct-head eq e.0 (keys_of es) apart) (omega (arith, own)) in
          let all : filter (is_of_key columns values) e.1 ≡ e.1 = all_pass (is_of_key columns values) e.1 (ap (λ l. failing (is_of_key columns l) e.1) same ∙ (let h : strays columns e ≡ 0 = omega (arith, own) in h)) in
          ap (λ l. l ++ filter (is_of_key columns values) (rows_in es)) all ∙ (ap (λ l. e.1 ++ l) none ∙ append-nil e.1)
      go false is rest =
          ap (λ l. l ++ filter (is_of_key columns values) (rows_in es)) (none_pass e.0 e.1 (let h : strays columns e ≡ 0 = omega (arith, own) in h) is) ∙ rest

-- rows with cells and a start are among those of the key of the cells
pub held_of_key : (columns : List ℕ) (cells : List Datum) (start : ℕ) (rows : List HeldRow) →
    many (is_held cells start) (filter (is_of_key columns (key_of columns cells)) rows) ≡ many (is_held cells start) rows
held_of_key columns cells start [] = refl
held_of_key columns cells start (r ∷ rows) = go (is_of_key columns (key_of columns cells) r) refl (is_held cells start r) refl (held_of_key columns cells start rows)
  where
    go : (t : Bool) → is_of_key columns (key_of columns cells) r ≡ t → (u : Bool) → is_held cells start r ≡ u →
        many (is_held cells start) (filter (is_of_key columns (key_of columns cells)) rows) ≡ many (is_held cells start) rows →
        many (is_held cells start) (cond t (r ∷ filter (is_of_key columns (key_of columns cells)) rows) (filter (is_of_key columns (key_of columns cells)) rows))
        ≡ cond u 1 0 + many (is_held cells start) rows
    go true is u held rest = let a = ap (λ t. cond {A = ℕ} t 1 0) held in omega (arith, a, rest)
    go false is false held rest = omega (arith, rest)
    go false is true held rest =
        let p = and_parts (nat_eq r.start start) (same_cells r.cells cells) held in
        let e = cells_are_same r.cells cells p.1 in
        let same : is_of_key columns (key_of columns cells) r ≡ true = ap (λ l. same_cells (key_of columns l) (key_of columns cells)) e ∙ same_itself (key_of columns cells) in
        absurd (cc (same, is))

-- the tests with which a map finds its keys
abbrev pub key_test : {S : Type 0} → List Datum → Vec Datum S → Bool
key_test values k = pointwise datum_block.ghosts.eq values k.items

abbrev pub key_eq : {S : Type 0} → Vec Datum S → Vec Datum S → Bool
key_eq k l = pointwise datum_block.ghosts.eq k.items l.items

pub key_tests : {S : Type 0} (values : List Datum) (k : Vec Datum S) → key_test values k ≡ same_cells values k.items
key_tests values k = cells_eq_same values k.items

pub key_eqs : {S : Type 0} (k l : Vec Datum S) → key_eq k l ≡ same_cells k.items l.items
key_eqs k l = cells_eq_same k.items l.items

-- another bucket at a place
pub record Moved {S : Type 0} (es es1 : List (Entry S)) (b c : List HeldRow) : Type 0 where
  pub key : Vec Datum S
  pub weighs : (v : Entry S → ℕ) → total v es1 + v (key, b) ≡ total v es + v (key, c)

pub moved : {S : Type 0} (es : List (Entry S)) (i : ℕ) (k : Vec Datum S) (b c : List HeldRow) → slice_get es i ≡ Some (k, b) → Moved es (set_value_at es i c) b c
moved [] i k b c at = absurd (cc)
moved {S} (e ∷ es) zero k b c at =
    let same : e ≡ (k, b) = ap (value_or e) at in
    record {
      key = k;
      weighs = λ v.
          let x = ap v same in
          let y = ap (λ (f : Entry S). v (f.0, c)) same in
          omega (arith, x, y);
    }
moved (e ∷ es) (suc i) k b c at =
    let r = moved es i k b c at in
    record { key = r.key; weighs = λ v. (let x = r.weighs v in omega (arith, x)) }

-- the bucket that is there already in its place, and what is there then
pub same_at : {S : Type 0} (es : List (Entry S)) (i : ℕ) (k : Vec Datum S) (b : List HeldRow) → slice_get es i ≡ Some (k, b) → set_value_at es i b ≡ es
same_at [] i k b at = refl
same_at {S} (e ∷ es) zero k b at = ap (λ (f : Entry S). (e.0, f.1) ∷ es) (sym (let same : e ≡ (k, b) = ap (value_or e) at in same))
same_at (e ∷ es) (suc i) k b at = ap (λ l. e ∷ l) (same_at es i k b at)

pub set_there : {S : Type 0} (es : List (Entry S)) (i : ℕ) (k : Vec Datum S) (b c : List HeldRow) → slice_get es i ≡ Some (k, b) → slice_get (set_value_at es i c) i ≡ Some (k, c)
set_there [] i k b c at = absurd (cc)
set_there {S} (e ∷ es) zero k b c at = ap (λ (f : Entry S). Some (f.0, c)) (let same : e ≡ (k, b) = ap (value_or e) at in same)
set_there (e ∷ es) (suc i) k b c at = set_there es i k b c at

-- the bucket of a key, by its place
pub found_at : {S : Type 0} (es : List (Entry S)) (i : ℕ) (k : Vec Datum S) (b : List HeldRow) (o : Option (List HeldRow)) → slice_get es i ≡ Some (k, b) →
    slice_get (values_of es) i ≡ o → Some b ≡ o
found_at {S} es i k b o at is = sym (slice_get-map (λ (e : Entry S). e.1) es i ∙ ap (option_map (λ (e : Entry S). e.1)) at) ∙ is

pub no_bucket : (o : Option (List HeldRow)) → false ≡ is_some o → None ≡ o
no_bucket None h = refl
no_bucket (Some b) h = absurd (cc)

-- a row is taken out of its bucket, which goes where it is left empty
module _ {S : Type 0} (es es1 : List (Entry S)) (b c : List HeldRow) (cells : List Datum) (start : ℕ) (m : Moved es es1 b c)
    (is : (w : HeldRow → ℕ) → total w b ≡ total w c + w (record { cells = cells; start = start })) where
  pub left_weighs : (w : HeldRow → ℕ) → total w (rows_in es) ≡ total w (rows_in es1) + w (record { cells = cells; start = start })
  left_weighs w =
      let n = m.weighs (λ e. total w e.1) in
      let a = is w in
      let x = rows_weigh w es in
      let y = rows_weigh w es1 in
      omega (arith, n, a, x, y)

  left_own : (columns : List ℕ) → total (strays columns) es ≡ 0 → total (strays columns) es1 ≡ 0
  left_own columns own =
      let p : HeldRow → Bool = is_of_key columns m.key.items in
      let n = m.weighs (strays columns) in
      let a = is (λ r. cond {A = ℕ} (p r) 0 1) in
      omega (arith, n, a, own)

  -- a bucket that keeps a row stays
  pub left_keyed : 1 ≤ length c → (columns : List ℕ) → AreKeyed columns es → AreKeyed columns es1
  left_keyed some columns keyed =
      let n = m.weighs (λ e. cond {A = ℕ} (has_rows e) 0 1) in
      let full = cond_zero (nat_lt 0 (length c)) (positive (length c) (omega (arith, some))) in
      let fill = keyed.filled in
      record { own = left_own columns keyed.own; filled = omega (arith, n, full, fill) }

  module _ (fs : List (Entry S)) (g : Gone es1 fs) where
    pub let_go_weighs : (w : HeldRow → ℕ) → total w (rows_in es) ≡ total w (rows_in fs) + w (record { cells = cells; start = start })
    let_go_weighs w = let a = left_weighs w in let b = gone_rows es1 fs g w in omega (arith, a, b)

    pub let_go_keyed : c ≡ [] → (columns : List ℕ) → AreKeyed columns es → AreKeyed columns fs
    let_go_keyed empty columns keyed =
        let v : Entry S → ℕ = λ e. cond {A = ℕ} (has_rows e) 0 1 in
        let n = m.weighs v in
        let one = cond_one (nat_lt 0 (length c)) (ap (λ (l : List HeldRow). nat_lt 0 (length l)) empty) in
        let other = cond_one (nat_lt 0 (length g.entry.1)) (ap (λ (l : List HeldRow). nat_lt 0 (length l)) g.bare) in
        let a = g.weighs v in
        let o = g.weighs (strays columns) in
        let own = left_own columns keyed.own in
        let fill = keyed.filled in
        record { own = omega (arith, o, own); filled = omega (arith, n, one, other, a, fill) }

pub none_left : (xs : List HeldRow) → (length xs == 0) ≡ true → xs ≡ []
none_left [] h = refl
none_left (x ∷ xs) h = absurd (let e = eqb-true (length (x ∷ xs)) 0 h in omega (arith, e))

pub some_left : (xs : List HeldRow) → (length xs == 0) ≡ false → 1 ≤ length xs
some_left [] h = absurd (cc)
some_left (x ∷ xs) h = omega arith

-- the rows of a key are those of the bucket that is found
pub rows_found : {S : Type 0} (es : List (Entry S)) (values : List Datum) (o : Option (List HeldRow)) → o ≡ lookup (key_test values) es → IsDistinct key_eq (keys_of es) →
    (columns : List ℕ) → AreKeyed columns es → value_or [] o ≡ filter (is_of_key columns values) (rows_in es)
rows_found es values o is apart columns keyed =
    ap (value_or []) is ∙ sym (rows_are key_eq key_eqs (key_test values) values (key_tests values) columns es apart keyed.own)

-- where the bucket that is found has no such row, there is none
pub none_held : {S : Type 0} (es : List (Entry S)) (values : List Datum) (o : Option (List HeldRow)) (cells : List Datum) (start : ℕ) → o ≡ lookup (key_test values) es →
    IsDistinct key_eq (keys_of es) → many (is_held cells start) (value_or [] o) ≡ 0 → (columns : List ℕ) → values ≡ key_of columns cells → AreKeyed columns es →
    many (is_held cells start) (rows_in es) ≡ 0
none_held es values o cells start is apart none columns key keyed =
    sym (held_of_key columns cells start (rows_in es))
    ∙ (ap (λ l. many (is_held cells start) (filter (is_of_key columns l) (rows_in es))) (sym key)
    ∙ (ap (many (is_held cells start)) (sym (rows_found es values o is apart columns keyed)) ∙ none))

-- a new bucket comes last
module _ {S T : Type 0} (m n : IndexMap (Vec Datum S) (List HeldRow) T) (values : List Datum) (k : Vec Datum S) (c b : List HeldRow) (cells : List Datum) (start : ℕ)
    (key : k.items ≡ values) (none : None ≡ lookup (key_test values) m.entries) (l : IndexMap (Vec Datum S) (List HeldRow) T) (same : l ≡ m)
    (is : n.entries ≡ insert_entry key_eq l.entries k c)
    (empty : b ≡ []) (row : c ≡ b ++ record { cells = cells; start = start } ∷ []) where
  comes_last : n.entries ≡ m.entries ++ (k, c) ∷ []
  comes_last =
      let absent : get key_eq m k ≡ None = ap (λ (l : List Datum). lookup (key_test l) m.entries) key ∙ sym none in
      is ∙ (ap (λ (x : IndexMap (Vec Datum S) (List HeldRow) T). insert_entry key_eq x.entries k c) same ∙ insert_entry-new key_eq m k c absent)

  alone : c ≡ record { cells = cells; start = start } ∷ []
  alone = row ∙ ap (λ (l : List HeldRow). l ++ record { cells = cells; start = start } ∷ []) empty

  pub new_weighs : (w : HeldRow → ℕ) → total w (rows_in n.entries) ≡ total w (rows_in m.entries) + w (record { cells = cells; start = start })
  new_weighs w =
      let v : Entry S → ℕ = λ e. total w e.1 in
      let x = rows_weigh w n.entries in
      let y = rows_weigh w m.entries in
      let a = ap (total v) comes_last ∙ total-append v m.entries ((k, c) ∷ []) in
      let b = ap (total w) alone in
      omega (arith, x, y, a, b)

  pub new_keyed : (columns : List ℕ) → values ≡ key_of columns cells → AreKeyed columns m.entries → AreKeyed columns n.entries
  new_keyed columns own keyed =
      let r : HeldRow = record { cells = cells; start = start } in
      let a = ap (total (strays columns)) comes_last ∙ total-append (strays columns) m.entries ((k, c) ∷ []) in
      let p = ap (failing (is_of_key columns k.items)) alone in
      let q = cond_zero (is_of_key columns k.items r) (own_key columns cells start k.items (key ∙ own)) in
      let f : Entry S → ℕ = λ e. cond {A = ℕ} (has_rows e) 0 1 in
      let d = ap (total f) comes_last ∙ total-append f m.entries ((k, c) ∷ []) in
      let e = cond_zero (nat_lt 0 (length c)) (ap (λ (l : List HeldRow). nat_lt 0 (length l)) alone) in
      let o = keyed.own in
      let fill = keyed.filled in
      record { own = omega (arith, a, p, q, o); filled = omega (arith, d, e, fill) }

-- buckets in their order
pub blocks_flat : {S : Type 0} (es : List (Entry S)) → rows_in es ≡ flat_map (λ b. b) (blocks_in es)
blocks_flat [] = refl
blocks_flat (e ∷ es) = ap (λ l. e.1 ++ l) (blocks_flat es)

pub few_blocks : {S : Type 0} (es : List (Entry S)) → failing has_rows es ≡ 0 → length es ≤ length (rows_in es)
few_blocks [] h = omega arith
few_blocks (e ∷ es) h =
    let r = few_blocks es (omega (arith, h)) in
    let a = length-append e.1 (rows_in es) in
    let b = some_there (length e.1) (omega (arith, h)) in
    omega (arith, r, a, b)
  where
    some_there : (n : ℕ) → ◌≡◌ {A = ℕ} (cond (nat_lt 0 n) 0 1) 0 → 1 ≤ n
    some_there n h = grind (arith, nat_tests)

pub ones : {X : Type 0} (xs : List X) → length xs ≡ total (λ x. 1) xs
ones [] = refl
ones (x ∷ xs) = let h = ones xs in omega (arith, h)

-- of two lists, an item of the first, and an item of the second
pub in_first : {X : Type 0} (xs ys : List X) (i : ℕ) (d : X) → i < length xs → slice_get (xs ++ ys) i ≡ Some (get_or xs i d)
in_first [] ys i d h = absurd (omega (arith, h))
in_first (x ∷ xs) ys zero d h = refl
in_first (x ∷ xs) ys (suc i) d h = in_first xs ys i d (omega (arith, h))

pub in_second : {X : Type 0} (xs ys : List X) (i j : ℕ) → j + length xs ≡ i → slice_get (xs ++ ys) i ≡ slice_get ys j
in_second [] ys i j h = ap (slice_get ys) (let e : i ≡ j = omega (arith, h) in e)
in_second (x ∷ xs) ys zero j h = absurd (omega (arith, h))
in_second (x ∷ xs) ys (suc i) j h = in_second xs ys i j (omega (arith, h))

-- the rows from a bucket on are its own and those behind it
pub rows_from : {S : Type 0} (es : List (Entry S)) (k : ℕ) (b : List HeldRow) → slice_get (values_of es) k ≡ Some b → rows_in (drop k es) ≡ b ++ rows_in (drop (suc k) es)
rows_from [] k b h = absurd (cc)
rows_from (e ∷ es) zero b h = ap (λ l. l ++ rows_in es) (ap (value_or []) h)
rows_from (e ∷ es) (suc k) b h = rows_from es k b h

-- the walk past a bucket, and its end within one
module _ {S : Type 0} (es : List (Entry S)) (k left i : ℕ) (b : List HeldRow) (at : slice_get (values_of es) k ≡ Some b)
    (same : slice_get (rows_in (drop k es)) left ≡ slice_get (rows_in es) i) where
  pub walked : (d : HeldRow) → left < length b → slice_get (rows_in es) i ≡ Some (get_or b left d)
  walked d low = sym same ∙ (ap (λ (l : List HeldRow). slice_get l left) (rows_from es k b at) ∙ in_first b (rows_in (drop (suc k) es)) left d low)

  pub passed : (m next : ℕ) → m ≡ k + 1 → next + length b ≡ left → slice_get (rows_in (drop m es)) next ≡ slice_get (rows_in es) i
  passed m next more rest =
      ap (λ n. slice_get (rows_in (drop n es)) next) (let e : m ≡ suc k = omega (arith, more) in e)
      ∙ (sym (in_second b (rows_in (drop (suc k) es)) left next rest) ∙ (ap (λ (l : List HeldRow). slice_get l left) (sym (rows_from es k b at)) ∙ same))

  pub still_within : (m next : ℕ) → m ≡ k + 1 → next + length b ≡ left → left < length (rows_in (drop k es)) → next < length (rows_in (drop m es))
  still_within m next more rest low =
      let a = ap (λ (l : List HeldRow). length l) (rows_from es k b at) ∙ length-append b (rows_in (drop (suc k) es)) in
      let e = ap (λ n. length (rows_in (drop n es))) (let e : m ≡ suc k = omega (arith, more) in e) in
      omega (arith, a, e, rest, low)

pub always : {T E : Type 0} (r : Result T E) (P : Type 0) → P → OnErr r P
always (Ok x) P p = tt
always (Err e) P p = p
