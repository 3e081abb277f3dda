-- Times that are taken from edges, one a key.
use Rattle.std.specs.Prelude.{◌≡◌, ℕ, ◌+◌, ◌<◌, ◌≤◌, nat_eq, false, not, cond, List, ◌∷◌, filter, length, get_or, take}
use Rattle.std.specs.Prelude.{Result}
use Rattle.std.specs.Result.{IsErrAnd, IfErr}
use Rattle.std.proofs.lemmas.Result.{err_from_is_err_and}
use Rattle.std.proofs.Common.{sym, ◌∙◌, ap, subst, arith}
use Rattle.std.proofs.lemmas.Bool.Decides.{nat_tests}
use Rattle.tw_rows.specs.Bag.{SameBag}
use Rattle.tw_rows.specs.SameCells.{same_itself}
use Rattle.tw_rows.specs.declared.cells.Datum.{Datum}
use Rattle.tw_rows.specs.declared.edge.Edge.{Edge}
use Rattle.tw_rows.specs.declared.edge.HeldRow.{HeldRow}
use Rattle.tw_rows.proofs.Bags.{total-map}
use Rattle.tw_rows.proofs.Fronts.{total_more, total_part}
use Rattle.edge_history.specs.Order.{many}
use Rattle.edge_stream.specs.declared.saved.LoadFault.{LoadFault}
use Rattle.synopsis.specs.Held.{key_of, is_of_key}
use Rattle.sweep_laws.specs.Saving.{rows_of}
use Rattle.anti_join.specs.Times.{HaveOneTime}
use Rattle.anti_join.proofs.Keys.{parted, kept_length, weigh_none}

abbrev row : Edge → HeldRow
row e = record { cells = e.cells; start = e.sync }

-- one more, whose key no row so far has
pub start_more : (key own : List ℕ) (edges : List Edge) (i : ℕ) (x : Edge) (cells : List Datum) (old new : List HeldRow) → i < length edges → x ≡ get_or edges i x → cells ≡ x.cells → own ≡ key →
    many (is_of_key own (key_of own x.cells)) old ≡ 0 → SameBag old (rows_of (take i edges)) →
    SameBag new (record { cells = cells; start = x.sync } ∷ filter (λ r. not (is_of_key own (key_of own cells) r)) old) → SameBag new (rows_of (take (i + 1) edges))
start_more key own edges i x cells old new low is same by free before put = record {
  weigh = λ w.
      let h = put_by.weigh w in
      let r = ap (λ (l : List Datum). w (record { cells = l; start = x.sync })) same in
      let p = parted w (is_of_key key (key_of key cells)) old in
      let z = weigh_none w (filter (is_of_key key (key_of key cells)) old) (let l = kept_length (is_of_key key (key_of key cells)) old in let n = none in omega (arith, l, n)) in
      let b = before.weigh w in
      let c = total-map w row (take i edges) in
      let d = total-map w row (take (i + 1) edges) in
      let m = total_more (λ e. w (row e)) edges i x low in
      let g = ap (λ (e : Edge). w (row e)) is in
      omega (arith, h, r, p, z, b, c, d, m, g);
}
  where
    put_by : SameBag new (record { cells = cells; start = x.sync } ∷ filter (λ r. not (is_of_key key (key_of key cells) r)) old)
    put_by = subst (λ (k : List ℕ). SameBag new (record { cells = cells; start = x.sync } ∷ filter (λ r. not (is_of_key k (key_of k cells) r)) old)) by put

    none : many (is_of_key key (key_of key cells)) old ≡ 0
    none =
        ap (λ (l : List Datum). many (is_of_key key (key_of key l)) old) same
        ∙ subst (λ (k : List ℕ). many (is_of_key k (key_of k x.cells)) old ≡ 0) by free

-- a start whose key some row so far has: then the key has two
pub start_twice : (key own : List ℕ) (edges : List Edge) (i : ℕ) (x : Edge) (old : List HeldRow) → i < length edges → x ≡ get_or edges i x → own ≡ key →
    nat_eq (many (is_of_key own (key_of own x.cells)) old) 0 ≡ false → SameBag old (rows_of (take i edges)) → HaveOneTime key edges → ⊥
start_twice key own edges i x old low is by some before one =
    let k = key_of key x.cells in
    let b = before.weigh (λ r. cond (is_of_key key (key_of key x.cells) r) 1 0) in
    let c = total-map (λ r. cond {A = ℕ} (is_of_key key (key_of key x.cells) r) 1 0) row (take i edges) in
    let d = total-map (λ r. cond {A = ℕ} (is_of_key key (key_of key x.cells) r) 1 0) row edges in
    let o = one (key_of key x.cells) in
    let p = total_part (λ e. cond {A = ℕ} (is_of_key key (key_of key x.cells) (row e)) 1 0) edges i x low in
    let g = ap (λ (e : Edge). cond {A = ℕ} (is_of_key key (key_of key x.cells) (row e)) 1 0) is in
    let s = ap (λ t. cond {A = ℕ} t 1 0) (same_itself (key_of key x.cells)) in
    let n = there (many (is_of_key key (key_of key x.cells)) old) (subst (λ (l : List ℕ). nat_eq (many (is_of_key l (key_of l x.cells)) old) 0 ≡ false) by some) in
    omega (arith, b, c, d, o, p, g, s, n)
  where
    there : (n : ℕ) → nat_eq n 0 ≡ false → 1 ≤ n
    there n h = grind (arith, nat_tests)

-- what was found of the rows, of the edges
pub one_time : (key own : List ℕ) (edges : List Edge) (rows : List HeldRow) → own ≡ key → SameBag rows (rows_of edges) → ((k : List Datum) → many (is_of_key own k) rows ≤ 1) → HaveOneTime key edges
one_time key own edges rows by same one k =
    let a = same.weigh (λ r. cond (is_of_key key k r) 1 0) in
    let b = subst (λ (l : List ℕ). many (is_of_key l k) rows ≤ 1) by (one k) in
    omega (arith, a, b)

-- what holds of a fault holds of what `?` hands on of it
pub handed_on : {T : Type 0} (e : LoadFault) (r : Result T LoadFault) (P : LoadFault → Type 0) → IsErrAnd r (λ y. y ≡ e) → P e → IfErr r P
handed_on e r P is p = let x = err_from_is_err_and r is in subst (λ z. IfErr z P) (sym x.1) (subst P (sym x.2) p)
