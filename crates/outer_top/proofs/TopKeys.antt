-- Keys whose rows change.
use Rattle.std.specs.Prelude.{◌≡◌, ℕ, ◌+◌, ◌≤◌, ◌||◌, Bool, true, false, cond, Option, Some, None, IfSome, List, [], ◌∷◌, ◌++◌, slice_get, refl}
use Rattle.std.specs.List.{swap_remove, IsDistinct, AllByRecursion}
use Rattle.std.specs.Map.{lookup, set_value, keys_of, values_of}
use Rattle.std.proofs.Common.{sym, ◌∙◌, ap, subst, arith}
use Rattle.std.proofs.lemmas.List.Sums.{sum_by-swap_remove}
use Rattle.std.proofs.lemmas.Map.Keys.{IsDistinct-head, IsDistinct-tail}
use Rattle.std.proofs.lemmas.Option.{get_or_from_slice_get, slice_get_within, slice_get-map, same_Some}
use Rattle.std.specs.Option.{option_map}
use Rattle.tw_rows.specs.Bag.{total}
use Rattle.tw_rows.specs.SameCells.{same_cells, cells_are_same}
use Rattle.tw_rows.specs.declared.cells.Datum.{Datum}
use Rattle.tw_rows.specs.declared.edge.Edge.{Edge}
use Rattle.tw_rows.specs.declared.edge.HeldRow.{HeldRow}
use Rattle.tw_rows.proofs.Bags.{total-append, total-flat_map, total-is-sum_by}
use Rattle.edge_history.specs.Order.{failing}
use Rattle.edge_history.specs.Opens.{bare}
use Rattle.synopsis.specs.Held.{is_of_key}
use Rattle.outer_top.specs.Ranks.{rows_in}
use Rattle.outer_top.specs.Shown.{rows_of, shown_of, rank_strays, is_settled, IsBare, HasChanged, HasSettled}
use Rattle.outer_top.specs.TopKeys.{TopEntry, kept_rows, shown_rows, key_strays, AreKept, rows_at, ChangesKey, Gone, SettlesKey}
use Rattle.outer_top.specs.declared.ranked.Ranked.{Ranked}
use Rattle.outer_top.proofs.Changing.{bare_weighs}

abbrev ranked_or : Ranked → Option Ranked → Ranked
ranked_or d None = d
ranked_or d (Some x) = x

-- the rows of a key that is found are written anew
pub written : (key : List Datum) (es : List TopEntry) (b c : Ranked) → lookup (same_cells key) es ≡ Some b → (v : TopEntry → ℕ) →
    total v (set_value (same_cells key) es c) + v (key, b) ≡ total v es + v (key, c)
written key [] b c h v = absurd (cc)
written key (e ∷ es) b c h v = go (same_cells key e.0) refl h (written key es b c)
  where
    go : (t : Bool) → same_cells key e.0 ≡ t → cond t (Some e.1) (lookup (same_cells key) es) ≡ Some b →
        (lookup (same_cells key) es ≡ Some b → (v : TopEntry → ℕ) → total v (set_value (same_cells key) es c) + v (key, b) ≡ total v es + v (key, c)) →
        total v (cond t ((e.0, c) ∷ es) (e ∷ set_value (same_cells key) es c)) + v (key, b) ≡ total v (e ∷ es) + v (key, c)
    go true is h rest =
        let k = cells_are_same key e.0 is in
        let x = ap (λ l. v (l, b)) k in
        let y = ap (λ l. v (l, c)) k in
        let z = ap (λ r. v (e.0, r)) (same_Some e.1 b h) in
        omega (arith, x, y, z)
    go false is h rest = let r = rest h v in omega (arith, r)

-- what is found weighs no more than all
found_low : (key : List Datum) (v : TopEntry → ℕ) (es : List TopEntry) (b : Ranked) → lookup (same_cells key) es ≡ Some b → v (key, b) ≤ total v es
found_low key v [] b h = absurd (cc)
found_low key v (e ∷ es) b h = go (same_cells key e.0) refl h (found_low key v es b)
  where
    go : (t : Bool) → same_cells key e.0 ≡ t → cond t (Some e.1) (lookup (same_cells key) es) ≡ Some b → (lookup (same_cells key) es ≡ Some b → v (key, b) ≤ total v es) → v (key, b) ≤ v e + total v es
    go true is h rest =
        let x = ap (λ l. v (l, b)) (cells_are_same key e.0 is) in
        let z = ap (λ r. v (e.0, r)) (same_Some e.1 b h) in
        omega (arith, x, z)
    go false is h rest = let r = rest h in omega (arith, r)

pub changes_found : (key : List Datum) (rank : ℕ) (edge : Edge) (lost0 lost1 won0 won1 : List (List Datum)) (es fs : List TopEntry) (b c : Ranked) → IsDistinct same_cells (keys_of es) → Some b ≡ lookup (same_cells key) es →
    fs ≡ set_value (same_cells key) es c → HasChanged rank edge lost0 lost1 won0 won1 b c → ChangesKey key rank edge lost0 lost1 won0 won1 es fs
changes_found key rank edge lost0 lost1 won0 won1 es fs b c apart there is changed = record {
  before = b;
  after = c;
  apart = apart;
  low = λ v none. found_low key v es b (sym there);
  found = ap rows_at (sym there);
  changed = changed;
  weighs = λ v none. (let w = written key es b c (sym there) v in let e = ap (total v) is in omega (arith, w, e));
}

pub bare_rows : (r : Ranked) → IsBare r → rows_of r ≡ []
bare_rows r b = (λ i. rows_in (b.none_shown i) ++ rows_in (b.none_hidden i))

pub changes_new : (key : List Datum) (rank : ℕ) (edge : Edge) (lost0 lost1 won0 won1 : List (List Datum)) (es fs : List TopEntry) (b c : Ranked) → IsDistinct same_cells (keys_of es) → None ≡ lookup (same_cells key) es →
    fs ≡ es ++ (key, c) ∷ [] → IsBare b → HasChanged rank edge lost0 lost1 won0 won1 b c → ChangesKey key rank edge lost0 lost1 won0 won1 es fs
changes_new key rank edge lost0 lost1 won0 won1 es fs b c apart none is empty changed = record {
  before = b;
  after = c;
  apart = apart;
  low = λ v bare. (let z = bare b empty in omega (arith, z));
  found = ap rows_at (sym none) ∙ sym (bare_rows b empty);
  changed = changed;
  weighs = λ v bare. (let a = ap (total v) is ∙ total-append v es ((key, c) ∷ []) in let z = bare b empty in omega (arith, a, z));
}

-- LETTING GO
gone_weighs : (v : TopEntry → ℕ) (es fs : List TopEntry) (i : ℕ) (p : TopEntry) → slice_get es i ≡ Some p → fs ≡ swap_remove es i p → total v fs + v p ≡ total v es
gone_weighs v es fs i p at is =
    let low = slice_get_within es i p at in
    let a = sum_by-swap_remove v es i p low in
    let b = total-is-sum_by v es in
    let c = ap (total v) is ∙ total-is-sum_by v (swap_remove es i p) in
    let d = ap v (get_or_from_slice_get es i p p at) in
    omega (arith, a, b, c, d)

pub let_go : (key : List Datum) (es fs : List TopEntry) (i : ℕ) (o : Option TopEntry) (r : Ranked) → slice_get (values_of es) i ≡ lookup (same_cells key) es → o ≡ slice_get es i →
    IfSome o (λ p. fs ≡ swap_remove es i p) → lookup (same_cells key) es ≡ Some r → IsBare r → Gone es fs
let_go key es fs i None r value is set there empty =
    let none : ◌≡◌ {A = Option Ranked} None (Some r) = ap (option_map (λ (e : TopEntry). e.1)) is ∙ (sym (slice_get-map (λ (e : TopEntry). e.1) es i) ∙ (value ∙ there)) in absurd (cc (none))
let_go key es fs i (Some p) r value is set there empty =
    let some : ◌≡◌ {A = Option Ranked} (Some p.1) (Some r) = ap (option_map (λ (e : TopEntry). e.1)) is ∙ (sym (slice_get-map (λ (e : TopEntry). e.1) es i) ∙ (value ∙ there)) in
    record {
      entry = p;
      bare = subst IsBare (sym (same_Some p.1 r some)) empty;
      weighs = λ v. gone_weighs v es fs i p (sym is) set;
    }

-- SETTLING
pub rows_weigh : (w : HeldRow → ℕ) (es : List TopEntry) → total w (kept_rows es) ≡ total (λ e. total w (rows_of e.1)) es
rows_weigh w es = total-flat_map w (λ (e : TopEntry). rows_of e.1) es

pub shown_weigh : (w : List Datum → ℕ) (es : List TopEntry) → total w (shown_rows es) ≡ total (λ e. total w (shown_of e.1)) es
shown_weigh w es = total-flat_map w (λ (e : TopEntry). shown_of e.1) es

-- behind a key, and where a key is not found, no key is the same
behind : (key k : List Datum) (most : ℕ) (q : List Datum → Bool) (es : List TopEntry) → key ≡ k → AllByRecursion (λ y. same_cells k y ≡ false) (keys_of es) →
    failing (λ e. is_settled most e.1 || (same_cells key e.0 || q e.0)) es ≡ 0 → failing (λ e. is_settled most e.1 || q e.0) es ≡ 0
behind key k most q [] is others h = refl
behind key k most q (e ∷ es) is others h =
    let r = behind key k most q es is others.1 (omega (arith, h)) in
    let n = ap (λ l. same_cells l e.0) is ∙ others.0 in
    let z = ap (λ b. cond {A = ℕ} (is_settled most e.1 || (b || q e.0)) 0 1) (sym n) in
    omega (arith, r, z, h)

absent : (key : List Datum) (most : ℕ) (q : List Datum → Bool) (es : List TopEntry) → lookup (same_cells key) es ≡ None →
    failing (λ e. is_settled most e.1 || (same_cells key e.0 || q e.0)) es ≡ 0 → failing (λ e. is_settled most e.1 || q e.0) es ≡ 0
absent key most q [] none h = refl
absent key most q (e ∷ es) none h = go (same_cells key e.0) refl none h (absent key most q es)
  where
    go : (t : Bool) → same_cells key e.0 ≡ t → cond t (Some e.1) (lookup (same_cells key) es) ≡ None →
        cond {A = ℕ} (is_settled most e.1 || (t || q e.0)) 0 1 + failing (λ e. is_settled most e.1 || (same_cells key e.0 || q e.0)) es ≡ 0 →
        (lookup (same_cells key) es ≡ None → failing (λ e. is_settled most e.1 || (same_cells key e.0 || q e.0)) es ≡ 0 → failing (λ e. is_settled most e.1 || q e.0) es ≡ 0) →
        cond {A = ℕ} (is_settled most e.1 || q e.0) 0 1 + failing (λ e. is_settled most e.1 || q e.0) es ≡ 0
    go true is n h rest = absurd (cc)
    go false is n h rest = let r = rest n (omega (arith, h)) in omega (arith, r, h)

set_settled : (key : List Datum) (most : ℕ) (q : List Datum → Bool) (es : List TopEntry) (c : Ranked) → IsDistinct same_cells (keys_of es) → is_settled most c ≡ true →
    failing (λ e. is_settled most e.1 || (same_cells key e.0 || q e.0)) es ≡ 0 → failing (λ e. is_settled most e.1 || q e.0) (set_value (same_cells key) es c) ≡ 0
set_settled key most q [] c apart ok h = refl
set_settled key most q (e ∷ es) c apart ok h = go (same_cells key e.0) refl h (set_settled key most q es c (IsDistinct-tail same_cells e.0 (keys_of es) apart) ok)
  where
    go : (t : Bool) → same_cells key e.0 ≡ t → cond {A = ℕ} (is_settled most e.1 || (t || q e.0)) 0 1 + failing (λ e. is_settled most e.1 || (same_cells key e.0 || q e.0)) es ≡ 0 →
        (failing (λ e. is_settled most e.1 || (same_cells key e.0 || q e.0)) es ≡ 0 → failing (λ e. is_settled most e.1 || q e.0) (set_value (same_cells key) es c) ≡ 0) →
        failing (λ e. is_settled most e.1 || q e.0) (cond t ((e.0, c) ∷ es) (e ∷ set_value (same_cells key) es c)) ≡ 0
    go true is h rest =
        let b = behind key e.0 most q es (cells_are_same key e.0 is) (IsDistinct-head same_cells e.0 (keys_of es) apart) (omega (arith, h)) in
        let z = ap (λ b. cond {A = ℕ} (b || q e.0) 0 1) ok in
        omega (arith, b, z)
    go false is h rest = let r = rest (omega (arith, h)) in omega (arith, r, h)

module _ (key : List Datum) (most : ℕ) (lost0 lost1 won0 won1 : List (List Datum)) (es : List TopEntry) where
  pub settles_none : None ≡ lookup (same_cells key) es → lost1 ≡ lost0 → won1 ≡ won0 → SettlesKey key most lost0 lost1 won0 won1 es es
  settles_none none l w = record {
    rows = λ w. refl;
    moved = λ v. (let a = ap (total v) l in let b = ap (total v) w in omega (arith, a, b));
    fits = λ p own z. ap (failing p) w ∙ z;
    kept = λ columns rank_of h. h;
    settled = λ q h. absent key most q es (sym none) h;
  }

  module _ (fs : List TopEntry) (b c : Ranked) (apart : IsDistinct same_cells (keys_of es)) (there : Some b ≡ lookup (same_cells key) es)
      (is : fs ≡ set_value (same_cells key) es c) (s : HasSettled most lost0 lost1 won0 won1 b c) where
    moves : (v : TopEntry → ℕ) → total v fs + v (key, b) ≡ total v es + v (key, c)
    moves v = let w = written key es b c (sym there) v in let e = ap (total v) is in omega (arith, w, e)

    pub settles_found : SettlesKey key most lost0 lost1 won0 won1 es fs
    settles_found = record {
      rows = λ w. (let m = moves (λ e. total w (rows_of e.1)) in let a = rows_weigh w es in let d = rows_weigh w fs in let r = s.rows w in omega (arith, m, a, d, r));
      moved = λ w. (let m = moves (λ e. total w (shown_of e.1)) in let a = shown_weigh w es in let d = shown_weigh w fs in let r = s.moved w in omega (arith, m, a, d, r));
      fits = λ p own z. s.fits p (found_fits p own) z;
      kept = λ columns rank_of h. record {
        own = (let m = moves (key_strays columns) in let r = s.rows (λ r. cond {A = ℕ} (is_of_key columns key r) 0 1) in let o = h.own in omega (arith, m, r, o));
        ranked = ranks columns rank_of h;
      };
      settled = λ q h. ap (failing (λ e. is_settled most e.1 || q e.0)) is ∙ set_settled key most q es c apart s.settled h;
    }
      where
        found_fits : (p : List Datum → Bool) → failing p (bare (kept_rows es)) ≡ 0 → failing p (bare (rows_of b)) ≡ 0
        found_fits p own =
            let v : HeldRow → ℕ = λ r. cond {A = ℕ} (p r.cells) 0 1 in
            let x = bare_weighs p (kept_rows es) in
            let y = bare_weighs p (rows_of b) in
            let a = rows_weigh v es in
            let l = found_low key (λ e. total v (rows_of e.1)) es b (sym there) in
            omega (arith, x, y, a, l, own)

        ranks : (columns : List ℕ) (rank_of : List Datum → ℕ → Bool) → AreKept columns rank_of es → total (λ e. rank_strays rank_of e.1) fs ≡ 0
        ranks columns rank_of h =
            let m = moves (λ e. rank_strays rank_of e.1) in
            let o = h.ranked in
            let before = found_low key (λ e. rank_strays rank_of e.1) es b (sym there) in
            let z : rank_strays rank_of b ≡ 0 = omega (arith, before, o) in
            let y = s.ranked rank_of z in
            omega (arith, m, o, y)

    pub settles_gone : (gs : List TopEntry) → IsBare c → Gone fs gs → SettlesKey key most lost0 lost1 won0 won1 es gs
    settles_gone gs empty g = record {
      rows = λ w. (let a = gone_low (λ e. total w (rows_of e.1)) in let n = no_rows w g.entry.1 g.bare in let x = rows_weigh w fs in let y = rows_weigh w gs in let r = settles_found.rows w in omega (arith, a, n, x, y, r));
      moved = λ w. (let a = gone_low (λ e. total w (shown_of e.1)) in let n = no_shown w g.entry.1 g.bare in let x = shown_weigh w fs in let y = shown_weigh w gs in let r = settles_found.moved w in omega (arith, a, n, x, y, r));
      fits = settles_found.fits;
      kept = λ columns rank_of h. (
          let k = settles_found.kept columns rank_of h in
          let o = k.own in
          let r = k.ranked in
          let a = gone_low (key_strays columns) in
          let b = gone_low (λ e. rank_strays rank_of e.1) in
          record { own = omega (arith, o, a); ranked = omega (arith, r, b) }
          );
      settled = λ q h. (let a = gone_low (λ e. cond {A = ℕ} (is_settled most e.1 || q e.0) 0 1) in let r = settles_found.settled q h in omega (arith, a, r));
    }
      where
        gone_low : (v : TopEntry → ℕ) → total v gs + v g.entry ≡ total v fs
        gone_low v = g.weighs v

        no_rows : (w : HeldRow → ℕ) (r : Ranked) → IsBare r → total w (rows_of r) ≡ 0
        no_rows w r b = ap (total w) (bare_rows r b)

        no_shown : (w : List Datum → ℕ) (r : Ranked) → IsBare r → total w (shown_of r) ≡ 0
        no_shown w r b = ap (λ gs. total w (bare (rows_in gs))) b.none_shown

-- what is written at a key is there
pub set_there : (key : List Datum) (es fs : List TopEntry) (b c : Ranked) → Some b ≡ lookup (same_cells key) es → fs ≡ set_value (same_cells key) es c → lookup (same_cells key) fs ≡ Some c
set_there key es fs b c there is = ap (lookup (same_cells key)) is ∙ here es (sym there)
  where
    here : (es : List TopEntry) → lookup (same_cells key) es ≡ Some b → lookup (same_cells key) (set_value (same_cells key) es c) ≡ Some c
    here [] h = absurd (cc)
    here (e ∷ es) h = go (same_cells key e.0) refl h (here es)
      where
        go : (t : Bool) → same_cells key e.0 ≡ t → cond t (Some e.1) (lookup (same_cells key) es) ≡ Some b →
            (lookup (same_cells key) es ≡ Some b → lookup (same_cells key) (set_value (same_cells key) es c) ≡ Some c) →
            lookup (same_cells key) (cond t ((e.0, c) ∷ es) (e ∷ set_value (same_cells key) es c)) ≡ Some c
        go true is h rest = ap (λ t. cond t (Some c) (lookup (same_cells key) es)) is
        go false is h rest = ap (λ t. cond t (Some e.1) (lookup (same_cells key) (set_value (same_cells key) es c))) is ∙ rest h
