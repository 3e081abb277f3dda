-- A row that comes or goes, and rows that are settled.
use Rattle.std.specs.Prelude.{◌≡◌, ◌⊎◌, ℕ, ◌+◌, ◌<◌, ◌≤◌, ◌&&◌, ◌||◌, nat_eq, nat_lt, nat_le, Bool, true, false, cond, List, [], ◌∷◌, length, refl}
use Rattle.std.proofs.Common.{◌∙◌, ap, arith, inl, inr}
use Rattle.std.proofs.lemmas.Bool.{and_parts}
use Rattle.std.proofs.lemmas.Bool.Decides.{nat_tests}
use Rattle.tw_rows.specs.Bag.{total}
use Rattle.tw_rows.specs.declared.cells.Datum.{Datum}
use Rattle.tw_rows.specs.declared.edge.Edge.{Edge}
use Rattle.tw_rows.specs.declared.edge.HeldRow.{HeldRow}
use Rattle.tw_rows.proofs.Bags.{total-append, total-map}
use Rattle.edge_history.specs.Order.{is_end, many, failing}
use Rattle.edge_history.specs.Opens.{bare, is_held, ended_of, started_of}
use Rattle.sweep_laws.specs.Moves.{HoldsEnded}
use Rattle.outer_top.specs.Ranks.{Group, rows_in, but_first, AreRanked, AreFew, AreEnough, FirstIsLeast, IsOnlyRank}
use Rattle.outer_top.specs.Shown.{rows_of, shown_of, rank_strays, first_is_least, is_none, is_settled, HasChanged, HasSettled}
use Rattle.outer_top.specs.declared.ranked.Ranked.{Ranked}

pub bare_weighs : (p : List Datum → Bool) (rows : List HeldRow) → failing p (bare rows) ≡ total (λ r. cond {A = ℕ} (p r.cells) 0 1) rows
bare_weighs p rows = total-map (λ (l : List Datum). cond {A = ℕ} (p l) 0 1) (λ (r : HeldRow). r.cells) rows

pub rows_weigh : (w : HeldRow → ℕ) (r : Ranked) → total w (rows_of r) ≡ total w (rows_in r.shown.entries) + total w (rows_in r.hidden.entries)
rows_weigh w r = total-append w (rows_in r.shown.entries) (rows_in r.hidden.entries)

end_is : (e : Edge) → is_end e ≡ true → (w : HeldRow → ℕ) → (total w (ended_of e) ≡ w (record { cells = e.cells; start = e.other })) × (total w (started_of e) ≡ 0)
end_is e end w = rw end (let a : w (record { cells = e.cells; start = e.other }) + 0 ≡ w (record { cells = e.cells; start = e.other }) = omega arith in (a, refl))

start_is : (e : Edge) → is_end e ≡ false → (w : HeldRow → ℕ) → (total w (ended_of e) ≡ 0) × (total w (started_of e) ≡ w (record { cells = e.cells; start = e.sync }))
start_is e end w = rw end (let a : w (record { cells = e.cells; start = e.sync }) + 0 ≡ w (record { cells = e.cells; start = e.sync }) = omega arith in (refl, a))

pub ends_there : (e : Edge) (b : Bool) → b ≡ true → (b ≡ true → e.other < e.sync) → is_end e ≡ true
ends_there e b is low = let l = low is in grind (arith, nat_tests)

pub starts_there : (e : Edge) (b : Bool) → b ≡ false → (e.other < e.sync → b ≡ true) → is_end e ≡ false
starts_there e b is low = pick (nat_lt e.other e.sync) refl
  where
    pick : (t : Bool) → nat_lt e.other e.sync ≡ t → nat_lt e.other e.sync ≡ false
    pick false h = h
    pick true h = absurd (let z = low (let l : e.other < e.sync = grind (arith, nat_tests) in l) in cc (z, is))

-- the row of an end is taken out, where it is there
pub end_changes : (rank : ℕ) (e : Edge) (lost0 lost1 won : List (List Datum)) (old new : Ranked) (there : Bool) → is_end e ≡ true →
    (there ≡ true → (w : HeldRow → ℕ) → total w (rows_in old.shown.entries) + total w (rows_in old.hidden.entries)
    ≡ total w (rows_in new.shown.entries) + total w (rows_in new.hidden.entries) + w (record { cells = e.cells; start = e.other })) →
    ((w : List Datum → ℕ) → total w (shown_of new) + total w lost1 ≡ total w (shown_of old) + total w lost0) →
    ((rank_of : List Datum → ℕ → Bool) → AreRanked rank_of old.shown.entries → AreRanked rank_of old.hidden.entries → AreRanked rank_of new.shown.entries × AreRanked rank_of new.hidden.entries) →
    (there ≡ false → (rank_of : List Datum → ℕ → Bool) → IsOnlyRank rank_of e.cells rank → AreRanked rank_of old.shown.entries → AreRanked rank_of old.hidden.entries →
    many (is_held e.cells e.other) (rows_in old.shown.entries) + many (is_held e.cells e.other) (rows_in old.hidden.entries) ≡ 0) →
    (there ≡ false → (new.shown.entries ≡ old.shown.entries) × (new.hidden.entries ≡ old.hidden.entries)) → HasChanged rank e lost0 lost1 won won old new
end_changes rank e lost0 lost1 won old new there end rows lost ranked missing none = record {
  rows = λ rank_of only own held w. taken there refl rank_of only own held w;
  more = λ w. less there refl w;
  moved = λ w. let l = lost w in omega (arith, l);
  fits = λ p own yes z. z;
  ranked = λ rank_of yes own. let r = ranked rank_of (omega (arith, own)) (omega (arith, own)) in let a = r.0 in let b = r.1 in omega (arith, a, b);
}
  where
    taken : (b : Bool) → there ≡ b → (rank_of : List Datum → ℕ → Bool) → IsOnlyRank rank_of e.cells rank → rank_strays rank_of old ≡ 0 → HoldsEnded e (rows_of old) →
        (w : HeldRow → ℕ) → total w (rows_of new) + total w (ended_of e) ≡ total w (rows_of old) + total w (started_of e)
    taken true is rank_of only own held w =
        let a = rows_weigh w old in
        let b = rows_weigh w new in
        let r = rows is w in
        let p = end_is e end w in
        let p0 = p.0 in
        let p1 = p.1 in
        omega (arith, a, b, r, p0, p1)
    taken false is rank_of only own held w =
        let m = missing is rank_of only (omega (arith, own)) (omega (arith, own)) in
        let a = rows_weigh (λ r. cond {A = ℕ} (is_held e.cells e.other r) 1 0) old in
        let h = held end in
        absurd (omega (arith, m, a, h))

    less : (b : Bool) → there ≡ b → (w : HeldRow → ℕ) → total w (rows_of new) ≤ total w (rows_of old) + total w (started_of e)
    less true is w =
        let a = rows_weigh w old in
        let b = rows_weigh w new in
        let r = rows is w in
        omega (arith, a, b, r)
    less false is w =
        let n = none is in
        let a = rows_weigh w old in
        let b = rows_weigh w new in
        let x = ap (λ gs. total w (rows_in gs)) n.0 in
        let y = ap (λ gs. total w (rows_in gs)) n.1 in
        omega (arith, a, b, x, y)

-- the row of a start is taken in
pub start_changes : (rank : ℕ) (e : Edge) (lost won0 won1 : List (List Datum)) (row : HeldRow) (old new : Ranked) → is_end e ≡ false → row ≡ record { cells = e.cells; start = e.sync } →
    ((w : HeldRow → ℕ) → total w (rows_in new.shown.entries) + total w (rows_in new.hidden.entries) ≡ total w (rows_in old.shown.entries) + total w (rows_in old.hidden.entries) + w row) →
    ((w : List Datum → ℕ) → total w (shown_of new) + total w won0 ≡ total w (shown_of old) + total w won1) →
    ((rank_of : List Datum → ℕ → Bool) → rank_of row.cells rank ≡ true → AreRanked rank_of old.shown.entries → AreRanked rank_of old.hidden.entries →
    AreRanked rank_of new.shown.entries × AreRanked rank_of new.hidden.entries) → HasChanged rank e lost lost won0 won1 old new
start_changes rank e lost won0 won1 row old new start is rows won ranked = record {
  rows = λ rank_of only own held w. added w;
  more = λ w. let a = added w in let p = start_is e start w in let p0 = p.0 in omega (arith, a, p0);
  moved = λ w. let l = won w in omega (arith, l);
  fits = λ p own yes z. (
      let v : HeldRow → ℕ = λ r. cond {A = ℕ} (p r.cells) 0 1 in
      let r = rows v in
      let s = ap (λ (x : HeldRow). cond {A = ℕ} (p x.cells) 0 1) is ∙ ap (λ b. cond {A = ℕ} b 0 1) yes in
      let x = bare_weighs p (rows_of old) in
      let y = bare_weighs p (rows_in new.shown.entries) in
      let a = rows_weigh v old in
      let l = won (λ l. cond {A = ℕ} (p l) 0 1) in
      omega (arith, r, s, x, y, a, l, own, z)
      );
  ranked = λ rank_of yes own. let r = ranked rank_of (ap (λ (x : HeldRow). rank_of x.cells rank) is ∙ yes) (omega (arith, own)) (omega (arith, own)) in let a = r.0 in let b = r.1 in omega (arith, a, b);
}
  where
    added : (w : HeldRow → ℕ) → total w (rows_of new) + total w (ended_of e) ≡ total w (rows_of old) + total w (started_of e)
    added w =
        let a = rows_weigh w old in
        let b = rows_weigh w new in
        let r = rows w in
        let p = start_is e start w in
        let p0 = p.0 in
        let p1 = p.1 in
        let s = ap w is in
        omega (arith, a, b, r, p0, p1, s)

-- WHAT IS SETTLED
both : (a b : Bool) → a ≡ true → b ≡ true → (a && b) ≡ true
both a b h k = rw (h, k) refl

pub settled_is : (most : ℕ) (r : Ranked) → AreFew most r.shown.entries → AreEnough most r.shown.entries r.hidden.entries → is_settled most r ≡ true
settled_is most r few enough =
    both (nat_lt (length (rows_in (but_first r.shown.entries))) most) _ (low (length (rows_in (but_first r.shown.entries))) few.few)
    (both (first_is_least r.shown.entries) _ (least r.shown.entries few.least)
    (elim enough [
      | inl none ↦ ap (λ gs. is_none gs || nat_le most (length (rows_in r.shown.entries))) none
      | inr some ↦ last (is_none r.hidden.entries) (length (rows_in r.shown.entries)) some
    ]))
  where
    low : (n : ℕ) → n < most → nat_lt n most ≡ true
    low n h = grind (arith, nat_tests)

    zero : (n : ℕ) → n ≡ 0 → nat_eq n 0 ≡ true
    zero n h = grind (arith, nat_tests)

    least : (gs : List Group) → FirstIsLeast gs → first_is_least gs ≡ true
    least [] h = refl
    least (g ∷ gs) h = zero (failing (λ x. nat_le g.0 x.0) gs) h

    last : (b : Bool) (n : ℕ) → most ≤ n → (b || nat_le most n) ≡ true
    last true n h = refl
    last false n h = grind (arith, nat_tests)

pub settled_few : (most : ℕ) (r : Ranked) → is_settled most r ≡ true → AreFew most r.shown.entries × AreEnough most r.shown.entries r.hidden.entries
settled_few most r h =
    let p = and_parts (nat_lt (length (rows_in (but_first r.shown.entries))) most) _ h in
    let q = and_parts (first_is_least r.shown.entries) _ p.1 in
    (record { few = low (length (rows_in (but_first r.shown.entries))) p.0; least = least r.shown.entries q.0 }, enough r.hidden.entries (length (rows_in r.shown.entries)) q.1)
  where
    low : (n : ℕ) → nat_lt n most ≡ true → n < most
    low n h = grind (arith, nat_tests)

    zero : (n : ℕ) → nat_eq n 0 ≡ true → n ≡ 0
    zero n h = grind (arith, nat_tests)

    least : (gs : List Group) → first_is_least gs ≡ true → FirstIsLeast gs
    least [] h = tt
    least (g ∷ gs) h = zero (failing (λ x. nat_le g.0 x.0) gs) h

    le : (n : ℕ) → nat_le most n ≡ true → most ≤ n
    le n h = grind (arith, nat_tests)

    enough : (gs : List Group) (n : ℕ) → (is_none gs || nat_le most n) ≡ true → (gs ≡ []) ⊎ (most ≤ n)
    enough [] n h = inl refl
    enough (g ∷ gs) n h = inr (le n h)

pub has_settled : (most : ℕ) (lost0 lost1 won0 won1 : List (List Datum)) (old new : Ranked) →
    ((w : HeldRow → ℕ) → total w (rows_in new.shown.entries) + total w (rows_in new.hidden.entries) ≡ total w (rows_in old.shown.entries) + total w (rows_in old.hidden.entries)) →
    ((w : List Datum → ℕ) → total w (shown_of new) + total w lost1 + total w won0 ≡ total w (shown_of old) + total w lost0 + total w won1) →
    ((rank_of : List Datum → ℕ → Bool) → AreRanked rank_of old.shown.entries → AreRanked rank_of old.hidden.entries → AreRanked rank_of new.shown.entries × AreRanked rank_of new.hidden.entries) →
    ((p : List Datum → Bool) → failing p (bare (rows_in old.shown.entries)) ≡ 0 → failing p (bare (rows_in old.hidden.entries)) ≡ 0 → failing p won0 ≡ 0 → failing p won1 ≡ 0) →
    AreFew most new.shown.entries → AreEnough most new.shown.entries new.hidden.entries → HasSettled most lost0 lost1 won0 won1 old new
has_settled most lost0 lost1 won0 won1 old new rows moved ranked fits few enough = record {
  fits = λ p own z. (
      let x = bare_weighs p (rows_of old) in
      let a = rows_weigh (λ r. cond {A = ℕ} (p r.cells) 0 1) old in
      let s = bare_weighs p (rows_in old.shown.entries) in
      let h = bare_weighs p (rows_in old.hidden.entries) in
      fits p (omega (arith, x, a, s, h, own)) (omega (arith, x, a, s, h, own)) z
      );
  rows = λ w. let a = rows_weigh w old in let b = rows_weigh w new in let r = rows w in omega (arith, a, b, r);
  moved = moved;
  ranked = λ rank_of own. let r = ranked rank_of (omega (arith, own)) (omega (arith, own)) in let a = r.0 in let b = r.1 in omega (arith, a, b);
  settled = settled_is most new few enough;
}
