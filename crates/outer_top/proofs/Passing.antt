-- The rows of a top go on past an instant.
use Rattle.std.specs.Prelude.{◌≡◌, ℕ, zero, suc, ◌+◌, ◌<◌, ◌≤◌, ◌||◌, ℤ, nat_eq, Bool, true, false, cond, Some, List, [], ◌∷◌, ◌++◌, flat_map, take, drop, length, get_or, refl}
use Rattle.std.specs.List.{IsDistinct, AllByRecursion}
use Rattle.std.specs.Map.{lookup, keys_of}
use Rattle.std.specs.Ordering.{int_eq}
use Rattle.std.proofs.Common.{sym, ◌∙◌, ap, subst, arith}
use Rattle.std.proofs.lemmas.Bool.{and_parts}
use Rattle.std.proofs.lemmas.Bool.Decides.{Decides-int_eq}
use Rattle.std.proofs.lemmas.Int.{ints}
use Rattle.std.proofs.lemmas.List.{take_all}
use Rattle.std.proofs.lemmas.Map.Keys.{IsDistinct-head, IsDistinct-tail}
use Rattle.tw_rows.specs.Bag.{total}
use Rattle.tw_rows.specs.SameCells.{same_cells, cells_are_same, same_itself}
use Rattle.tw_rows.specs.declared.cells.Datum.{Datum}
use Rattle.tw_rows.specs.declared.edge.Edge.{Edge}
use Rattle.tw_rows.specs.declared.edge.HeldRow.{HeldRow}
use Rattle.tw_rows.proofs.Bags.{total-append}
use Rattle.edge_history.specs.Order.{is_end, failing, many}
use Rattle.edge_history.specs.Opens.{bare, is_held, ended_of, started_of, ended_rows, started_rows}
use Rattle.synopsis.specs.Held.{key_of, is_of_key}
use Rattle.sweep_laws.specs.Moves.{HoldsEnded}
use Rattle.sweep_laws.proofs.Adding.{moved_more, rows_more}
use Rattle.sweep_laws.proofs.Instants.{drop_at, drop_past}
use Rattle.outer_top.specs.Ranks.{value_at, has_rank, IsOnlyRank}
use Rattle.outer_top.specs.Shown.{rows_of, shown_of, rank_strays, is_settled, IsBare, Shows}
use Rattle.outer_top.specs.TopKeys.{TopEntry, kept_rows, shown_rows, key_strays, rows_at, ChangesKey, SettlesKey, value_of, AreTopRows, unsettled, is_named, HasTaken, HasSettledKeys, HasPassed}
use Rattle.outer_top.specs.declared.ranked.Ranked.{Ranked}
use Rattle.outer_top.proofs.Changing.{bare_weighs}
use Rattle.outer_top.proofs.TopKeys.{bare_rows, rows_weigh, shown_weigh}

-- RANKS
-- a value has one rank alone
pub one_rank : (value : List Datum → ℤ) (cells : List Datum) (rank : ℕ) → has_rank value cells rank ≡ true → IsOnlyRank (has_rank value) cells rank
unfolding value_at
one_rank value cells rank is = λ n also. same n (int_eq (value cells) (value_at n)) refl also (int_eq (value cells) (value_at rank)) refl is
  where
    same : (n : ℕ) (a : Bool) → int_eq (value cells) (value_at n) ≡ a → a ≡ true → (b : Bool) → int_eq (value cells) (value_at rank) ≡ b → b ≡ true → n ≡ rank
    same n true x h true y k = grind (arith, ints, Decides-int_eq)
    same n false x h b y k = absurd (cc)
    same n true x h false y k = absurd (cc)

-- THE ROW OF AN EDGE
-- the rows of other keys hold none with these cells
other_keys : (columns : List ℕ) (cells : List Datum) (start : ℕ) (k : List Datum) (rows : List HeldRow) → failing (is_of_key columns k) rows ≡ 0 → same_cells (key_of columns cells) k ≡ false →
    many (is_held cells start) rows ≡ 0
other_keys columns cells start k [] own apart = refl
other_keys columns cells start k (r ∷ rows) own apart = go (is_held cells start r) refl (is_of_key columns k r) refl own (λ h. other_keys columns cells start k rows h apart)
  where
    go : (b : Bool) → is_held cells start r ≡ b → (q : Bool) → is_of_key columns k r ≡ q → cond {A = ℕ} q 0 1 + failing (is_of_key columns k) rows ≡ 0 →
        (failing (is_of_key columns k) rows ≡ 0 → many (is_held cells start) rows ≡ 0) → cond {A = ℕ} b 1 0 + many (is_held cells start) rows ≡ 0
    go b held false of h rest = absurd (omega (arith, h))
    go false held true of h rest = let z = rest (omega (arith, h)) in omega (arith, z)
    go true held true of h rest =
        let same = cells_are_same r.cells cells (and_parts (nat_eq r.start start) (same_cells r.cells cells) held).1 in
        let key = cells_are_same (key_of columns r.cells) k of in
        let z : same_cells (key_of columns cells) k ≡ true = ap (same_cells (key_of columns cells)) (sym key ∙ ap (key_of columns) same) ∙ same_itself (key_of columns cells) in
        absurd (cc (z, apart))

held_append : (cells : List Datum) (start : ℕ) (xs ys : List HeldRow) → many (is_held cells start) (xs ++ ys) ≡ many (is_held cells start) xs + many (is_held cells start) ys
held_append cells start xs ys = total-append (λ r. cond {A = ℕ} (is_held cells start r) 1 0) xs ys

none_behind : (columns : List ℕ) (cells : List Datum) (start : ℕ) (k : List Datum) (es : List TopEntry) → key_of columns cells ≡ k → AllByRecursion (λ y. same_cells k y ≡ false) (keys_of es) →
    total (key_strays columns) es ≡ 0 → many (is_held cells start) (kept_rows es) ≡ 0
none_behind columns cells start k [] is others own = refl
none_behind columns cells start k (e ∷ es) is others own =
    let a = held_append cells start (rows_of e.1) (kept_rows es) in
    let b = other_keys columns cells start e.0 (rows_of e.1) (omega (arith, own)) (ap (λ l. same_cells l e.0) is ∙ others.0) in
    let c = none_behind columns cells start k es is others.1 (omega (arith, own)) in
    omega (arith, a, b, c)

held_at : (columns : List ℕ) (cells : List Datum) (start : ℕ) (es : List TopEntry) → IsDistinct same_cells (keys_of es) → total (key_strays columns) es ≡ 0 →
    many (is_held cells start) (kept_rows es) ≡ many (is_held cells start) (rows_at (lookup (same_cells (key_of columns cells)) es))
held_at columns cells start [] apart own = refl
held_at columns cells start (e ∷ es) apart own =
    held_append cells start (rows_of e.1) (kept_rows es)
    ∙ go (same_cells (key_of columns cells) e.0) refl (held_at columns cells start es (IsDistinct-tail same_cells e.0 (keys_of es) apart) (omega (arith, own)))
  where
    go : (t : Bool) → same_cells (key_of columns cells) e.0 ≡ t → many (is_held cells start) (kept_rows es) ≡ many (is_held cells start) (rows_at (lookup (same_cells (key_of columns cells)) es)) →
        many (is_held cells start) (rows_of e.1) + many (is_held cells start) (kept_rows es)
        ≡ many (is_held cells start) (rows_at (cond t (Some e.1) (lookup (same_cells (key_of columns cells)) es)))
    go true is rest =
        let n = none_behind columns cells start e.0 es (cells_are_same (key_of columns cells) e.0 is) (IsDistinct-head same_cells e.0 (keys_of es) apart) (omega (arith, own)) in
        omega (arith, n)
    go false is rest =
        let b = other_keys columns cells start e.0 (rows_of e.1) (omega (arith, own)) is in
        omega (arith, b, rest)

module _ (columns : List ℕ) (by : ℕ) (rank : ℕ) (edge : Edge) (lost0 lost1 won0 won1 : List (List Datum)) (es fs : List TopEntry) (ranked : has_rank (value_of by) edge.cells rank ≡ true)
    (c : ChangesKey (key_of columns edge.cells) rank edge lost0 lost1 won0 won1 es fs) where
  only : IsOnlyRank (has_rank (value_of by)) edge.cells rank
  only = one_rank (value_of by) edge.cells rank ranked

  no_rows : (w : HeldRow → ℕ) (r : Ranked) → IsBare r → total w (rows_of r) ≡ 0
  no_rows w r b = ap (total w) (bare_rows r b)

  no_shown : (w : List Datum → ℕ) (r : Ranked) → IsBare r → total w (shown_of r) ≡ 0
  no_shown w r b = ap (λ gs. total w (bare (flat_map (λ g. g.1) gs))) b.none_shown

  no_strays : (rank_of : List Datum → ℕ → Bool) (r : Ranked) → IsBare r → rank_strays rank_of r ≡ 0
  no_strays rank_of r b =
      let x = ap (λ gs. total (λ g. failing (λ r. rank_of r.cells g.0) g.1) gs) b.none_shown in
      let y = ap (λ gs. total (λ g. failing (λ r. rank_of r.cells g.0) g.1) gs) b.none_hidden in
      omega (arith, x, y)

  before_ranked : AreTopRows columns by es → rank_strays (has_rank (value_of by)) c.before ≡ 0
  before_ranked k =
      let l = c.low (λ e. rank_strays (has_rank (value_of by)) e.1) (λ r b. no_strays (has_rank (value_of by)) r b) in
      let r = k.ranked in
      omega (arith, l, r)

  rows_moved : (w : HeldRow → ℕ) → total w (kept_rows fs) + total w (rows_of c.before) ≡ total w (kept_rows es) + total w (rows_of c.after)
  rows_moved w =
      let m = c.weighs (λ e. total w (rows_of e.1)) (λ r b. no_rows w r b) in
      let x = rows_weigh w es in
      let y = rows_weigh w fs in
      omega (arith, m, x, y)

  pub edge_rows : AreTopRows columns by es → HoldsEnded edge (kept_rows es) → (w : HeldRow → ℕ) →
      total w (kept_rows fs) + total w (ended_of edge) ≡ total w (kept_rows es) + total w (started_of edge)
  edge_rows k held w =
      let m = rows_moved w in
      let h = held_at columns edge.cells edge.other es c.apart k.own ∙ ap (many (is_held edge.cells edge.other)) c.found in
      let r = c.changed.rows (has_rank (value_of by)) only (before_ranked k) (λ end. (let x = held end in omega (arith, h, x))) w in
      omega (arith, m, r)

  pub edge_more : (w : HeldRow → ℕ) → total w (kept_rows fs) ≤ total w (kept_rows es) + total w (started_of edge)
  edge_more w = let m = rows_moved w in let r = c.changed.more w in omega (arith, m, r)

  pub edge_moved : Shows lost0 lost1 won0 won1 (shown_rows es) (shown_rows fs)
  edge_moved w =
      let m = c.weighs (λ e. total w (shown_of e.1)) (λ r b. no_shown w r b) in
      let x = shown_weigh w es in
      let y = shown_weigh w fs in
      let r = c.changed.moved w in
      omega (arith, m, x, y, r)

  started_own : failing (is_of_key columns (key_of columns edge.cells)) (started_of edge) ≡ 0
  started_own = go (is_end edge)
    where
      go : (b : Bool) → failing (is_of_key columns (key_of columns edge.cells)) (cond b [] (record { cells = edge.cells; start = edge.sync } ∷ [])) ≡ 0
      go true = refl
      go false = ap (λ b. cond {A = ℕ} b 0 1 + 0) (same_itself (key_of columns edge.cells))

  pub edge_kept : AreTopRows columns by es → AreTopRows columns by fs
  edge_kept k = record {
    own = (
        let m = c.weighs (key_strays columns) (λ r b. no_rows (λ x. cond {A = ℕ} (is_of_key columns (key_of columns edge.cells) x) 0 1) r b) in
        let r = c.changed.more (λ x. cond {A = ℕ} (is_of_key columns (key_of columns edge.cells) x) 0 1) in
        let s = started_own in
        let o = k.own in
        omega (arith, m, r, s, o)
        );
    ranked = (
        let m = c.weighs (λ e. rank_strays (has_rank (value_of by)) e.1) (λ r b. no_strays (has_rank (value_of by)) r b) in
        let r = c.changed.ranked (has_rank (value_of by)) ranked (before_ranked k) in
        let o = k.ranked in
        omega (arith, m, r, o)
        );
  }

  pub edge_fits : (p : List Datum → Bool) → failing p (bare (kept_rows es)) ≡ 0 → p edge.cells ≡ true → failing p won0 ≡ 0 → failing p won1 ≡ 0
  edge_fits p own met z =
      let v : HeldRow → ℕ = λ r. cond {A = ℕ} (p r.cells) 0 1 in
      let x = bare_weighs p (kept_rows es) in
      let y = bare_weighs p (rows_of c.before) in
      let a = rows_weigh v es in
      let l = c.low (λ e. total v (rows_of e.1)) (λ r b. no_rows v r b) in
      c.changed.fits p (omega (arith, x, y, a, l, own)) met z

  pub edge_others : (p : List Datum → Ranked → Bool) → ((r : Ranked) → p (key_of columns edge.cells) r ≡ true) → failing (λ e. p e.0 e.1) es ≡ 0 → failing (λ e. p e.0 e.1) fs ≡ 0
  edge_others p all h =
      let m = c.weighs (λ e. cond {A = ℕ} (p e.0 e.1) 0 1) (λ r b. ap (λ t. cond {A = ℕ} t 0 1) (all r)) in
      let a = ap (λ t. cond {A = ℕ} t 0 1) (all c.before) in
      let b = ap (λ t. cond {A = ℕ} t 0 1) (all c.after) in
      omega (arith, m, a, b, h)

-- EDGE BY EDGE
named_here : (columns : List ℕ) (now : List Edge) (i : ℕ) (x : Edge) → i < length now → x ≡ get_or now i x → is_named columns now (key_of columns x.cells) ≡ true
named_here columns [] i x low is = absurd (omega (arith, low))
named_here columns (y ∷ now) zero x low is =
    ap (λ z. same_cells (key_of columns z.cells) (key_of columns x.cells) || is_named columns now (key_of columns x.cells)) (sym is)
    ∙ ap (λ b. b || is_named columns now (key_of columns x.cells)) (same_itself (key_of columns x.cells))
named_here columns (y ∷ now) (suc i) x low is =
    ap (λ b. same_cells (key_of columns y.cells) (key_of columns x.cells) || b) (named_here columns now i x (omega (arith, low)) is) ∙ last (same_cells (key_of columns y.cells) (key_of columns x.cells))
  where
    last : (b : Bool) → (b || true) ≡ true
    last true = refl
    last false = refl

or_true : (a b : Bool) → b ≡ true → (a || b) ≡ true
or_true true b h = refl
or_true false b h = h

pub taken_none : (columns : List ℕ) (by most : ℕ) (now : List Edge) (lost won : List (List Datum)) (es : List TopEntry) → HasTaken columns by most now 0 lost lost won won es es
taken_none columns by most now lost won es = record {
  kept = λ k. k;
  rows = λ k p w. omega arith;
  more = λ w. omega arith;
  moved = λ w. refl;
  fits = λ p own met z. z;
  named = λ h. some es h;
}
  where
    some : (es : List TopEntry) → unsettled most es ≡ 0 → failing (λ e. is_settled most e.1 || is_named columns now e.0) es ≡ 0
    some [] h = refl
    some (e ∷ es) h =
        let r = some es (omega (arith, h)) in
        let z = one (is_settled most e.1) (is_named columns now e.0) (omega (arith, h)) in
        omega (arith, r, z)
      where
        one : (a b : Bool) → cond {A = ℕ} a 0 1 ≡ 0 → cond {A = ℕ} (a || b) 0 1 ≡ 0
        one true b h = refl
        one false b h = absurd (omega (arith, h))

-- what all kept rows and all edges pass, all rows that are kept then pass
kept_fit : (columns : List ℕ) (by most : ℕ) (now : List Edge) (i : ℕ) (lost0 lost1 won0 won1 : List (List Datum)) (es fs : List TopEntry) →
    HasTaken columns by most now i lost0 lost1 won0 won1 es fs → (p : List Datum → Bool) → failing p (bare (kept_rows es)) ≡ 0 → failing (λ x. p x.cells) now ≡ 0 → failing p (bare (kept_rows fs)) ≡ 0
kept_fit columns by most now i lost0 lost1 won0 won1 es fs h p own met =
    let v : HeldRow → ℕ = λ r. cond {A = ℕ} (p r.cells) 0 1 in
    let x = bare_weighs p (kept_rows es) in
    let y = bare_weighs p (kept_rows fs) in
    let m = h.more v in
    let s = begun now i met in
    omega (arith, x, y, m, s, own)
  where
    begun : (now : List Edge) (i : ℕ) → failing (λ x. p x.cells) now ≡ 0 → total (λ r. cond {A = ℕ} (p r.cells) 0 1) (started_rows (take i now)) ≡ 0
    begun now zero met = refl
    begun [] (suc i) met = refl
    begun (x ∷ now) (suc i) met =
        let v : HeldRow → ℕ = λ r. cond {A = ℕ} (p r.cells) 0 1 in
        let a = total-append v (started_of x) (started_rows (take i now)) in
        let b = begun now i (omega (arith, met)) in
        let c = one (is_end x) (omega (arith, met)) in
        omega (arith, a, b, c)
      where
        one : (b : Bool) → cond {A = ℕ} (p x.cells) 0 1 ≡ 0 → total (λ (r : HeldRow). cond {A = ℕ} (p r.cells) 0 1) (cond b [] (record { cells = x.cells; start = x.sync } ∷ [])) ≡ 0
        one true z = refl
        one false z = omega (arith, z)

pass_at : (p : List Datum → Bool) (now : List Edge) (i : ℕ) (x : Edge) → i < length now → x ≡ get_or now i x → failing (λ y. p y.cells) now ≡ 0 → p x.cells ≡ true
pass_at p [] i x low is met = absurd (omega (arith, low))
pass_at p (y ∷ now) zero x low is met = ap (λ (z : Edge). p z.cells) is ∙ one (p y.cells) (omega (arith, met))
  where
    one : (b : Bool) → cond {A = ℕ} b 0 1 ≡ 0 → b ≡ true
    one true z = refl
    one false z = absurd (omega (arith, z))
pass_at p (y ∷ now) (suc i) x low is met = pass_at p now i x (omega (arith, low)) is (omega (arith, met))

same_fit : (p : List Datum → Bool) (es fs : List TopEntry) → ((w : HeldRow → ℕ) → total w (kept_rows fs) ≡ total w (kept_rows es)) → failing p (bare (kept_rows es)) ≡ 0 → failing p (bare (kept_rows fs)) ≡ 0
same_fit p es fs rows own =
    let v : HeldRow → ℕ = λ r. cond {A = ℕ} (p r.cells) 0 1 in
    let x = bare_weighs p (kept_rows es) in
    let y = bare_weighs p (kept_rows fs) in
    let m = rows v in
    omega (arith, x, y, m, own)

pub taken_more : (columns : List ℕ) (by most : ℕ) (now : List Edge) (i : ℕ) (x : Edge) (rank : ℕ) (lost0 lost1 lost2 won0 won1 won2 : List (List Datum)) (es fs gs : List TopEntry) →
    i < length now → x ≡ get_or now i x → HasTaken columns by most now i lost0 lost1 won0 won1 es fs → has_rank (value_of by) x.cells rank ≡ true →
    ChangesKey (key_of columns x.cells) rank x lost1 lost2 won1 won2 fs gs → HasTaken columns by most now (i + 1) lost0 lost2 won0 won2 es gs
taken_more columns by most now i x rank lost0 lost1 lost2 won0 won1 won2 es fs gs low is h ranked c = record {
  kept = λ k. edge_kept columns by rank x lost1 lost2 won1 won2 fs gs ranked c (h.kept k);
  rows = λ k p. moved_more now i x (kept_rows es) (kept_rows fs) (kept_rows gs) low is (λ held w. edge_rows columns by rank x lost1 lost2 won1 won2 fs gs ranked c (h.kept k) held w) (λ q. h.rows k q) p;
  more = λ w. (
      let a = h.more w in
      let b = edge_more columns by rank x lost1 lost2 won1 won2 fs gs ranked c w in
      let s = rows_more started_of w now i x low is in
      omega (arith, a, b, s)
      );
  moved = λ w. (let a = h.moved w in let b = edge_moved columns by rank x lost1 lost2 won1 won2 fs gs ranked c w in omega (arith, a, b));
  fits = λ p own met z. edge_fits columns by rank x lost1 lost2 won1 won2 fs gs ranked c p (kept_fit columns by most now i lost0 lost1 won0 won1 es fs h p own met) (pass_at p now i x low is met) (h.fits p own met z);
  named = λ s. edge_others columns by rank x lost1 lost2 won1 won2 fs gs ranked c (λ k r. is_settled most r || is_named columns now k)
      (λ r. or_true (is_settled most r) (is_named columns now (key_of columns x.cells)) (named_here columns now i x low is)) (h.named s);
}

pub settled_none : (columns : List ℕ) (by most : ℕ) (now : List Edge) (lost won : List (List Datum)) (es : List TopEntry) → HasSettledKeys columns by most now 0 lost lost won won es es
settled_none columns by most now lost won es = record { kept = λ k. k; rows = λ w. refl; moved = λ w. refl; fits = λ p own z. z; named = λ h. h }

pub settled_more : (columns : List ℕ) (by most : ℕ) (now : List Edge) (i : ℕ) (x : Edge) (lost0 lost1 lost2 won0 won1 won2 : List (List Datum)) (es fs gs : List TopEntry) →
    i < length now → x ≡ get_or now i x → HasSettledKeys columns by most now i lost0 lost1 won0 won1 es fs →
    SettlesKey (key_of columns x.cells) most lost1 lost2 won1 won2 fs gs → HasSettledKeys columns by most now (i + 1) lost0 lost2 won0 won2 es gs
settled_more columns by most now i x lost0 lost1 lost2 won0 won1 won2 es fs gs low is h s = record {
  kept = λ k. s.kept columns (has_rank (value_of by)) (h.kept k);
  rows = λ w. s.rows w ∙ h.rows w;
  moved = λ w. (let a = h.moved w in let b = s.moved w in omega (arith, a, b));
  fits = λ p own z. s.fits p (same_fit p es fs h.rows own) (h.fits p own z);
  named = λ z. s.settled (is_named columns (drop (i + 1) now))
      (subst (λ l. failing (λ e. is_settled most e.1 || is_named columns l e.0) fs ≡ 0) (drop_at now i x low ∙ ap (λ y. y ∷ drop (i + 1) now) (sym is)) (h.named z));
}

pub passed_by : (columns : List ℕ) (by most : ℕ) (now : List Edge) (i j : ℕ) (lost0 lost1 lost2 won0 won1 won2 : List (List Datum)) (es fs gs : List TopEntry) → length now ≤ i → length now ≤ j →
    HasTaken columns by most now i lost0 lost1 won0 won1 es fs → HasSettledKeys columns by most now j lost1 lost2 won1 won2 fs gs → IsDistinct same_cells (keys_of gs) →
    HasPassed columns by most now lost0 lost2 won0 won2 es gs
passed_by columns by most now i j lost0 lost1 lost2 won0 won1 won2 es fs gs all all2 t s apart = record {
  kept = λ k. s.kept (t.kept k);
  rows = λ k p w. (
      let a = t.rows k p w in
      let b = s.rows w in
      let x = ap (λ l. total w (ended_rows l)) whole in
      let y = ap (λ l. total w (started_rows l)) whole in
      omega (arith, a, b, x, y)
      );
  more = λ w. (let a = t.more w in let b = s.rows w in let y = ap (λ l. total w (started_rows l)) whole in omega (arith, a, b, y));
  moved = λ w. (let a = t.moved w in let b = s.moved w in omega (arith, a, b));
  fits = λ p own met z. s.fits p (kept_fit columns by most now i lost0 lost1 won0 won1 es fs t p own met) (t.fits p own met z);
  settled = λ h. none gs (subst (λ l. failing (λ e. is_settled most e.1 || is_named columns l e.0) gs ≡ 0) (drop_past now j all2) (s.named (t.named h)));
  apart = apart;
}
  where
    whole : take i now ≡ now
    whole = take_all i now all

    none : (gs : List TopEntry) → failing (λ e. is_settled most e.1 || false) gs ≡ 0 → unsettled most gs ≡ 0
    none [] h = refl
    none (e ∷ es) h =
        let r = none es (omega (arith, h)) in
        let z = one (is_settled most e.1) (omega (arith, h)) in
        omega (arith, r, z)
      where
        one : (a : Bool) → cond {A = ℕ} (a || false) 0 1 ≡ 0 → cond {A = ℕ} a 0 1 ≡ 0
        one true h = refl
        one false h = h

-- the same words for the columns as they stand
pub changes_like : (columns columns2 : List ℕ) (by by2 : ℕ) (x : Edge) (lost1 lost2 won1 won2 : List (List Datum)) (fs gs : List TopEntry) → columns2 ≡ columns → by2 ≡ by →
    ((rank : ℕ) × (has_rank (value_of by2) x.cells rank ≡ true) × ChangesKey (key_of columns2 x.cells) rank x lost1 lost2 won1 won2 fs gs) →
    (rank : ℕ) × (has_rank (value_of by) x.cells rank ≡ true) × ChangesKey (key_of columns x.cells) rank x lost1 lost2 won1 won2 fs gs
changes_like columns columns2 by by2 x lost1 lost2 won1 won2 fs gs ec eb r =
    subst (λ cs. (rank : ℕ) × (has_rank (value_of by) x.cells rank ≡ true) × ChangesKey (key_of cs x.cells) rank x lost1 lost2 won1 won2 fs gs) ec
    (subst (λ b. (rank : ℕ) × (has_rank (value_of b) x.cells rank ≡ true) × ChangesKey (key_of columns2 x.cells) rank x lost1 lost2 won1 won2 fs gs) eb r)

pub settles_like : (columns columns2 : List ℕ) (most most2 : ℕ) (x : Edge) (lost1 lost2 won1 won2 : List (List Datum)) (fs gs : List TopEntry) → columns2 ≡ columns → most2 ≡ most →
    SettlesKey (key_of columns2 x.cells) most2 lost1 lost2 won1 won2 fs gs → SettlesKey (key_of columns x.cells) most lost1 lost2 won1 won2 fs gs
settles_like columns columns2 most most2 x lost1 lost2 won1 won2 fs gs ec em r =
    subst (λ cs. SettlesKey (key_of cs x.cells) most lost1 lost2 won1 won2 fs gs) ec (subst (λ m. SettlesKey (key_of columns2 x.cells) m lost1 lost2 won1 won2 fs gs) em r)

pub keys_like : (columns columns2 : List ℕ) (by by2 most most2 : ℕ) (now : List Edge) (i : ℕ) (lost1 lost2 won1 won2 : List (List Datum)) (fs gs : List TopEntry) → columns2 ≡ columns → by2 ≡ by → most2 ≡ most →
    HasSettledKeys columns2 by2 most2 now i lost1 lost2 won1 won2 fs gs → HasSettledKeys columns by most now i lost1 lost2 won1 won2 fs gs
keys_like columns columns2 by by2 most most2 now i lost1 lost2 won1 won2 fs gs ec eb em r =
    subst (λ cs. HasSettledKeys cs by most now i lost1 lost2 won1 won2 fs gs) ec
    (subst (λ b. HasSettledKeys columns2 b most now i lost1 lost2 won1 won2 fs gs) eb (subst (λ m. HasSettledKeys columns2 by2 m now i lost1 lost2 won1 won2 fs gs) em r))
