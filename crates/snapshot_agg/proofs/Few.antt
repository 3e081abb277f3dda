-- How much a group keeps: keys with rows are no more than the rows.
use Rattle.std.specs.Prelude.{◌≡◌, ℕ, suc, ◌+◌, ◌*◌, ◌≤◌, nat_lt, nat_le, Bool, true, false, cond, Option, Some, List, [], ◌∷◌, Vec, map, length, slice_get, refl}
use Rattle.std.specs.List.{IsDistinct, AllByRecursion}
use Rattle.std.specs.Map.{keys_of}
use Rattle.std.proofs.Common.{sym, ◌∙◌, ap, subst, arith}
use Rattle.std.proofs.Math.Nat.{mul-le-mul_left}
use Rattle.std.proofs.lemmas.Bool.Decides.{nat_tests}
use Rattle.std.proofs.lemmas.Map.Entries.{hash_map_get_place}
use Rattle.indexmap.specs.IndexMap.{IndexMap, IsUnique}
use Rattle.tw_rows.specs.Bag.{SameBag, total}
use Rattle.tw_rows.specs.SameCells.{same_cells, cells_are_same, same_itself, same_cells_equiv}
use Rattle.tw_rows.specs.declared.cells.Datum.{Datum}
use Rattle.tw_rows.specs.declared.edge.Edge.{Edge}
use Rattle.tw_rows.specs.declared.edge.HeldRow.{HeldRow}
use Rattle.tw_rows.proofs.Bags.{total-map, total-filter, total-flat_map, total_same, total_swap}
use Rattle.edge_history.specs.Order.{failing}
use Rattle.edge_history.specs.History.{CellEvent, of}
use Rattle.edge_history.specs.Opens.{open_of, opens, bare}
use Rattle.edge_history.proofs.Sums.{sum_le}
use Rattle.key_nodes.specs.Groups.{has_key}
use Rattle.key_nodes.proofs.Bags.{total_le}
use Rattle.plan_laws.specs.Keeping.{plain_cells}
use Rattle.plan_laws.proofs.Holding.{length_total}
use Rattle.plan_laws.specs.Held.{reaching, may_hold}
use Rattle.plan_model.specs.declared.agg.Agg.{Agg}
use Rattle.plan_model.specs.declared.node.Node.TheVariants.{Group}
use Rattle.plan_model.specs.Nodes.{node_in}
use Rattle.plan_model.specs.RowOps.{group_row_in}
use Rattle.sweep_laws.specs.Grouping.{row_of_run}
use Rattle.snapshot_agg.specs.declared.totals.Totals.{Totals}
use Rattle.snapshot_agg.specs.Words.{key_data, tell}
use Rattle.snapshot_agg.specs.Totaled.{IsTotalOf, Totaled, totals_of, run_from, run_of}
use Rattle.synopsis.proofs.Keyed.{key_eq}
use Rattle.snapshot_agg.proofs.Answering.{passes}
use Rattle.snapshot_agg.proofs.Kept.{length_map}
use Rattle.snapshot_agg.proofs.Keyed.{found_at, data_apart}
use Rattle.snapshot_agg.proofs.Totaling.{of_key}

-- ENTRIES OF A MAP
-- what is so of the key at each place is so of all keys
pub keys_pass : {K V : Type 0} (test : K → Bool) (es : List (K × V)) →
    ((i : ℕ) (k : K) (v : V) → slice_get es i ≡ Some (k, v) → test k ≡ true) → failing test (keys_of es) ≡ 0
keys_pass test [] h = refl
keys_pass test (e ∷ es) h =
    let z = passes (test e.0) (h 0 e.0 e.1 refl) in
    let r = keys_pass test es (λ i k v is. h (suc i) k v is) in
    omega (arith, z, r)

-- the keys of a map stand there once
none_more : (k q : List Datum) (ks : List (List Datum)) → same_cells k q ≡ true → AllByRecursion (λ y. same_cells k y ≡ false) ks → total (λ x. cond {A = ℕ} (same_cells x q) 1 0) ks ≡ 0
none_more k q [] e h = refl
none_more k q (x ∷ ks) e h = pick (same_cells x q) refl (none_more k q ks e h.1)
  where
    pick : (b : Bool) → same_cells x q ≡ b → total (λ x. cond {A = ℕ} (same_cells x q) 1 0) ks ≡ 0 → total (λ x. cond {A = ℕ} (same_cells x q) 1 0) (x ∷ ks) ≡ 0
    pick true z r =
        let a = ap (same_cells k) (cells_are_same x q z ∙ sym (cells_are_same k q e)) in
        let b = sym (same_itself k) ∙ sym a ∙ h.0 in
        absurd (cc)
    pick false z r = let a = ap (λ b. cond {A = ℕ} b 1 0) z in omega (arith, a, r)

pub stand_once : (ks : List (List Datum)) → IsDistinct same_cells ks → (q : List Datum) → total (λ x. cond {A = ℕ} (same_cells x q) 1 0) ks ≤ 1
unfolding IsDistinct
stand_once [] h q = omega arith
stand_once (k ∷ ks) h q = pick (same_cells k q) refl (stand_once ks h.1 q)
  where
    pick : (b : Bool) → same_cells k q ≡ b → total (λ x. cond {A = ℕ} (same_cells x q) 1 0) ks ≤ 1 → total (λ x. cond {A = ℕ} (same_cells x q) 1 0) (k ∷ ks) ≤ 1
    pick true z rest = let a = ap (λ b. cond {A = ℕ} b 1 0) z in let r = none_more k q ks z h.0 in omega (arith, a, r)
    pick false z r = let a = ap (λ b. cond {A = ℕ} b 1 0) z in omega (arith, a, r)

-- keys with rows
abbrev pub has_some : List ℕ → List HeldRow → List Datum → Bool
has_some key rows k = nat_lt 0 (length (of_key key k rows))

some_counts : (n : ℕ) → nat_lt 0 n ≡ true → 1 ≤ n
some_counts n h = grind (arith, nat_tests)

pub few_keys : (key : List ℕ) (rows : List HeldRow) (ks : List (List Datum)) → IsDistinct same_cells ks → failing (has_some key rows) ks ≡ 0 → length ks ≤ length rows
few_keys key rows ks once here =
    let a = length_total ks in
    let b = sum_le (has_some key rows) (λ k. 1) (λ k. length (of_key key k rows)) ks (λ k h. some_counts (length (of_key key k rows)) h) here in
    let c = total_same (λ k. length (of_key key k rows)) (λ k. total (λ (r : HeldRow). cond {A = ℕ} (same_cells k (key_data key r.cells)) 1 0) rows) ks
    (λ k. length_total (of_key key k rows) ∙ total-filter (λ x. 1) (has_key (key_data key) same_cells k) (bare rows) ∙ total-map (λ x. cond {A = ℕ} (same_cells k (key_data key x)) 1 0) (λ (r : HeldRow). r.cells) rows) in
    let d = total_swap (λ k (r : HeldRow). cond {A = ℕ} (same_cells k (key_data key r.cells)) 1 0) ks rows in
    let e = total_le (λ (r : HeldRow). total (λ k. cond {A = ℕ} (same_cells k (key_data key r.cells)) 1 0) ks) (λ r. 1) rows (λ r. stand_once ks once (key_data key r.cells)) in
    let f = length_total rows in
    omega (arith, a, b, c, d, e, f)

some_rows : (aggs : List Agg) (k : List Datum) (xs : List (List Datum)) (row : List Datum) → Some row ≡ group_row_in plain_cells aggs k xs → nat_lt 0 (length xs) ≡ true
some_rows aggs k [] row h = absurd (cc)
some_rows aggs k (x ∷ xs) row h = above (length xs)
  where
    above : (n : ℕ) → nat_lt 0 (suc n) ≡ true
    above n = grind (arith, nat_tests)

keys_length : {K V : Type 0} (es : List (K × V)) → length (keys_of es) ≡ length es
keys_length [] = refl
keys_length (e ∷ es) = let r = keys_length es in omega (arith, r)

-- each key of a row that is told has a row
pub few_runs : {S : Type 0} (key : List ℕ) (aggs : List Agg) (rows : List HeldRow) (running : IndexMap (List Datum) HeldRow S) → IsUnique same_cells running →
    ((k : List Datum) → row_of_run (run_of running k) ≡ tell key aggs k (bare rows)) → length running.entries ≤ length rows
few_runs key aggs rows running once steady =
    let f = few_keys key rows (keys_of running.entries) once
    (keys_pass (has_some key rows) running.entries (λ i k r is. some_rows aggs k (of_key key k rows) r.cells
    (ap (λ o. row_of_run (run_from o)) (sym (hash_map_get_place same_cells_equiv running i k r once is)) ∙ steady k))) in
    let e = keys_length running.entries in
    omega (arith, f, e)

-- and so has each key that has totals
counts_some : (o : Option Totals) (t : Totals) (aggs : List Agg) (rs : List (List Datum)) → o ≡ Some t → IsTotalOf o aggs rs → nat_lt 0 (length rs) ≡ true
counts_some o t aggs rs is h =
    let z = subst (λ x. IsTotalOf x aggs rs) is h in
    let n = z.0.is_count in
    let m = z.1 in
    above (length rs) (omega (arith, n, m))
  where
    above : (n : ℕ) → 1 ≤ n → nat_lt 0 n ≡ true
    above n low = grind (arith, nat_tests)

pub few_totals : {S T : Type 0} (key : List ℕ) (aggs : List Agg) (rows : List HeldRow) (totals : IndexMap (Vec Datum S) Totals T) → IsUnique key_eq totals →
    Totaled key aggs rows totals → length totals.entries ≤ length rows
few_totals {S} key aggs rows totals once h =
    let data_of : Vec Datum S → List Datum = λ k. k.items in
    let ks = keys_of totals.entries in
    let p = keys_pass (λ k. has_some key rows (data_of k)) totals.entries (λ i k t is. counts_some (totals_of totals (data_of k)) t aggs (of_key key (data_of k) rows) (found_at totals i k t once is) (h.of_key (data_of k))) in
    let f = few_keys key rows (map data_of ks) (data_apart ks once) (total-map (λ k. cond {A = ℕ} (has_some key rows k) 0 1) data_of ks ∙ p) in
    let l = length_map data_of ks in
    let e = keys_length totals.entries in
    omega (arith, f, l, e)

-- a row is open of an event that does not end before
open_counts : (to : ℕ) (e : CellEvent) → total (λ x. 1) (open_of to e) ≤ cond {A = ℕ} (nat_le to e.end) 1 0
open_counts to e = grind (arith, nat_tests)

pub open_rows : (to : ℕ) (rows : List HeldRow) (es : List CellEvent) → SameBag rows (opens to es) → length rows ≤ reaching to es
open_rows to rows es same =
    let a = length_total rows in
    let b = same.weigh (λ r. 1) in
    let c = total-flat_map (λ (r : HeldRow). 1) (open_of to) es in
    let d = total_le (λ e. total (λ (x : HeldRow). 1) (open_of to e)) (λ e. cond {A = ℕ} (nat_le to e.end) 1 0) es (λ e. open_counts to e) in
    omega (arith, a, b, c, d)

-- all together
pub group_held : (key : List ℕ) (aggs : List Agg) (x rows keys runs waiting : ℕ) (hl hr : List Edge) → rows ≤ reaching x (of hl) → rows + waiting ≤ 2 * reaching x (of hl) →
    keys ≤ rows → runs ≤ rows →
    rows + rows * length aggs + keys + runs + waiting ≤ may_hold (Group 0 key aggs) x x (of hl) (of hr) (node_in plain_cells (Group 0 key aggs) (of hl) (of hr))
group_held key aggs x rows keys runs waiting hl hr low both fk fr =
    go (reaching x (of hl)) (reaching x (of hr)) (length aggs) low both
  where
    go : (l r a : ℕ) → rows ≤ l → rows + waiting ≤ 2 * l → rows + rows * a + keys + runs + waiting ≤ (4 + a) * ((l + r) + 0 + 0)
    go l r a p q = let m = mul-le-mul_left a p in omega (arith, m, fk, fr, p, q)
