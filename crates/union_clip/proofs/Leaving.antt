-- Rows that leave, in parts and edge by edge.
use Rattle.std.specs.Prelude.{◌≡◌, ℕ, ◌+◌, ◌<◌, ◌≤◌, ◌||◌, not, Bool, true, false, cond, List, [], ◌∷◌, ◌++◌, map, filter, length, get_or, take, drop, refl}
use Rattle.std.proofs.Common.{sym, ◌∙◌, ap, subst, arith}
use Rattle.std.proofs.lemmas.Bool.{eq-eqb, and_from}
use Rattle.std.proofs.lemmas.List.{drop_at, length-append}
use Rattle.tw_rows.specs.Bag.{SameBag, total}
use Rattle.tw_rows.specs.SameCells.{same_itself}
use Rattle.tw_rows.specs.declared.edge.Edge.{Edge}
use Rattle.tw_rows.specs.declared.edge.HeldRow.{HeldRow}
use Rattle.tw_rows.proofs.Bags.{total-append, total-map, total-filter, total-flat_map, total-add, total_same, total_zero, SameBag-refl, SameBag-map}
use Rattle.tw_rows.proofs.Fronts.{total_more, total_part}
use Rattle.edge_history.specs.Order.{many, is_end}
use Rattle.edge_history.specs.Opens.{ended_of, ended_rows, is_held}
use Rattle.sweep_laws.specs.Moves.{told_at}
use Rattle.sweep_laws.proofs.Adding.{adds_none, adds_then, adds_bag, rows_more}
use Rattle.union_clip.specs.Leaving.{row_named, Leave, EndsHeld}

-- ROWS THAT LEAVE
pub leave_none : (t : ℕ) (rows : List HeldRow) (a : List Edge) → Leave [] t rows rows a a
leave_none t rows a = record { rows = λ w. (omega arith); told = adds_none a }

pub leave_bag : (g g2 : List HeldRow) (t : ℕ) (old new : List HeldRow) (a0 a1 : List Edge) → SameBag g g2 → Leave g t old new a0 a1 → Leave g2 t old new a0 a1
leave_bag g g2 t old new a0 a1 s h = record {
  rows = λ w. (let a = h.rows w in let b = s.weigh w in omega (arith, a, b));
  told = adds_bag a0 a1 (map (told_at false t) g) (map (told_at false t) g2) h.told (SameBag-map (told_at false t) g g2 s);
}

pub leave_then : (g1 g2 g : List HeldRow) (t : ℕ) (r0 r1 r2 : List HeldRow) (a0 a1 a2 : List Edge) → Leave g1 t r0 r1 a0 a1 → Leave g2 t r1 r2 a1 a2 → SameBag (g1 ++ g2) g → Leave g t r0 r2 a0 a2
leave_then g1 g2 g t r0 r1 r2 a0 a1 a2 h k s = record {
  rows = λ w.
      let a = h.rows w in
      let b = k.rows w in
      let c = s.weigh w in
      let d = total-append w g1 g2 in
      omega (arith, a, b, c, d);
  told = adds_bag a0 a2 (map (told_at false t) g1 ++ map (told_at false t) g2) (map (told_at false t) g)
      (adds_then a0 a1 a2 (map (told_at false t) g1) (map (told_at false t) g2) h.told k.told)
      (record {
        weigh = λ w.
            let a = total-append w (map (told_at false t) g1) (map (told_at false t) g2) in
            let b = total-map w (told_at false t) g1 in
            let c = total-map w (told_at false t) g2 in
            let d = total-map w (told_at false t) g in
            let e = s.weigh (λ r. w (told_at false t r)) in
            let f = total-append (λ r. w (told_at false t r)) g1 g2 in
            omega (arith, a, b, c, d, e, f);
      });
}

-- nothing passes a test that nothing passes
pub leave_untested : (t : ℕ) (rows : List HeldRow) (a : List Edge) → Leave (filter (λ r. false) rows) t rows rows a a
leave_untested t rows a =
    leave_bag [] (filter (λ r. false) rows) t rows rows a a (record { weigh = λ w. sym (total-filter w (λ r. false) rows ∙ total_zero rows) }) (leave_none t rows a)

-- the rows that pass one test leave, and then of the others those that pass a second
pub leave_tested : (p q s : HeldRow → Bool) (t : ℕ) (r0 r1 r2 : List HeldRow) (a0 a1 a2 : List Edge) → ((r : HeldRow) → s r ≡ (p r || q r)) →
    Leave (filter p r0) t r0 r1 a0 a1 → Leave (filter q r1) t r1 r2 a1 a2 → Leave (filter s r0) t r0 r2 a0 a2
leave_tested p q s t r0 r1 r2 a0 a1 a2 either h k =
    leave_then (filter p r0) (filter q r1) (filter s r0) t r0 r1 r2 a0 a1 a2 h k
    (record {
      weigh = λ w.
          let v : HeldRow → ℕ = λ r. cond (q r) (w r) 0 in
          let a = total-append w (filter p r0) (filter q r1) in
          let b = total-filter w p r0 in
          let c = total-filter w q r1 in
          let d = total-filter w s r0 in
          let x = h.rows v in
          let y = total-filter v p r0 in
          let z = total_same (λ r. cond (s r) (w r) 0 + cond (p r) (v r) 0) (λ r. cond (p r) (w r) 0 + v r) r0
          (λ r. ap (λ b. cond b (w r) 0 + cond (p r) (cond (q r) (w r) 0) 0) (either r) ∙ both (p r) (q r) (w r)) in
          let z1 = total-add (λ r. cond (s r) (w r) 0) (λ r. cond (p r) (v r) 0) r0 in
          let z2 = total-add (λ r. cond (p r) (w r) 0) v r0 in
          omega (arith, a, b, c, d, x, y, z, z1, z2);
    })
  where
    both : (m n : Bool) (l : ℕ) → cond (m || n) l 0 + cond m (cond n l 0) 0 ≡ cond m l 0 + cond n l 0
    both true true l = refl
    both true false l = refl
    both false true l = omega arith
    both false false l = refl

-- ROWS THAT ARE TOLD AND THEN TAKEN OUT
-- what an edge names is there
pub names_itself : (x : Edge) → cond {A = ℕ} (is_held x.cells x.other (row_named x)) 1 0 ≡ 1
names_itself x = ap (λ b. cond {A = ℕ} b 1 0) (and_from _ _ (eq-eqb x.other x.other refl) (same_itself x.cells))

pub taken_more : (ends : List Edge) (i : ℕ) (x : Edge) (r0 r1 r2 : List HeldRow) (b : Bool) → i < length ends → x ≡ get_or ends i x →
    (b ≡ true → (w : HeldRow → ℕ) → total w r1 ≡ total w r2 + w (row_named x)) → (b ≡ false → many (is_held x.cells x.other) r1 ≡ 0) →
    ((w : HeldRow → ℕ) → total w (map row_named ends) ≤ total w r0) → ((w : HeldRow → ℕ) → total w r0 ≡ total w r1 + total w (map row_named (take i ends))) →
    (w : HeldRow → ℕ) → total w r0 ≡ total w r2 + total w (map row_named (take (i + 1) ends))
taken_more ends i x r0 r1 r2 true low is taken none fit before w =
    let a = taken refl w in
    let b = before w in
    let c = total-map w row_named (take i ends) in
    let d = total-map w row_named (take (i + 1) ends) in
    let e = total_more (λ y. w (row_named y)) ends i x low in
    let f = ap (λ y. w (row_named y)) is in
    omega (arith, a, b, c, d, e, f)
taken_more ends i x r0 r1 r2 false low is taken none fit before w =
    let v : HeldRow → ℕ = λ r. cond (is_held x.cells x.other r) 1 0 in
    let n = none refl in
    let b = before v in
    let g = fit v in
    let c = total-map v row_named (take i ends) in
    let d = total-map v row_named ends in
    let e = total_part (λ y. v (row_named y)) ends i x low in
    let f = ap (λ y. v (row_named y)) is in
    let o = names_itself x in
    absurd (omega (arith, n, b, g, c, d, e, f, o))

pub filter_fits : {X : Type 0} (w : X → ℕ) (p : X → Bool) (rows : List X) → total w (filter p rows) ≤ total w rows
filter_fits w p [] = omega arith
filter_fits w p (r ∷ rows) = go (p r) (filter_fits w p rows)
  where
    go : (b : Bool) → total w (filter p rows) ≤ total w rows → total w (cond b (r ∷ filter p rows) (filter p rows)) ≤ w r + total w rows
    go true h = omega (arith, h)
    go false h = omega (arith, h)

named_told : (t : ℕ) (rows : List HeldRow) → map row_named (map (told_at false t) rows) ≡ rows
named_told t [] = refl
named_told t (r ∷ rows) = ap (λ l. r ∷ l) (named_told t rows)

pub told_length : (t : ℕ) (rows : List HeldRow) (a0 a1 a2 : List Edge) (from : ℕ) → a1 ≡ a0 ++ map (told_at false t) rows → from ≡ length a0 → a2 ≡ a1 → from ≤ length a2
told_length t rows a0 a1 a2 from told at same =
    let a = ap (λ (l : List Edge). length l) (same ∙ told) in
    let b = length-append a0 (map (told_at false t) rows) in
    omega (arith, a, b, at)

-- the rows that pass a test were told, and then taken out
pub told_and_taken : (p : HeldRow → Bool) (t : ℕ) (old new found : List HeldRow) (a0 a1 ends : List Edge) (from : ℕ) → found ≡ filter p old → a1 ≡ a0 ++ map (told_at false t) found → from ≡ length a0 →
    ends ≡ drop from a1 → (((w : HeldRow → ℕ) → total w (map row_named ends) ≤ total w old) → (w : HeldRow → ℕ) → total w old ≡ total w new + total w (map row_named ends)) →
    Leave (filter p old) t old new a0 a1
told_and_taken p t old new found a0 a1 ends from is told at last taken = record {
  rows = λ w.
      let a = taken (λ v. (let b = ap (total v) named in let c = filter_fits v p old in omega (arith, b, c))) w in
      let d = ap (total w) named in
      omega (arith, a, d);
  told = record { added = map (told_at false t) (filter p old); is = told ∙ ap (λ l. a0 ++ map (told_at false t) l) is; bag = SameBag-refl (map (told_at false t) (filter p old)) };
}
  where
    named : map row_named ends ≡ filter p old
    named = ap (map row_named) (last ∙ (ap (drop from) told ∙ drop_at a0 (map (told_at false t) found) from (sym at))) ∙ (named_told t found ∙ is)

-- ROWS THAT END
unless : (b : Bool) (n : ℕ) → cond (not b) n 0 ≡ cond b 0 n
unless true n = refl
unless false n = refl

pub unless_clipped : (clipped : HeldRow → Bool) (w : HeldRow → ℕ) (ended : List HeldRow) → total w (filter (λ r. not (clipped r)) ended) ≡ total (λ r. cond (clipped r) 0 (w r)) ended
unless_clipped clipped w ended = total-filter w (λ r. not (clipped r)) ended ∙ total_same _ _ ended (λ r. unless (clipped r) (w r))

module _ (clipped : HeldRow → Bool) (t : ℕ) (x : Edge) where
  abbrev leavers : Bool → List HeldRow
  leavers b = filter (λ r. not (clipped r)) (cond b (row_named x ∷ []) [])

  -- an edge that is no end
  pub end_none : (rows : List HeldRow) (a : List Edge) → is_end x ≡ false → Leave (filter (λ r. not (clipped r)) (ended_of x)) t rows rows a a
  end_none rows a e = subst (λ b. Leave (leavers b) t rows rows a a) (sym e) (leave_none t rows a)

  -- an end whose row is not there: it was clipped
  pub end_missing : (rows rows2 : List HeldRow) (a : List Edge) → is_end x ≡ true → many (is_held x.cells x.other) rows ≡ 0 → rows2 ≡ rows → EndsHeld clipped (ended_of x) rows →
      Leave (filter (λ r. not (clipped r)) (ended_of x)) t rows rows2 a a
  end_missing rows rows2 a e none same h = subst (λ b. Leave (leavers b) t rows rows2 a a) (sym e) (pick (clipped (row_named x)) refl)
    where
      pick : (c : Bool) → clipped (row_named x) ≡ c → Leave (cond (not c) (row_named x ∷ []) []) t rows rows2 a a
      pick true k = record { rows = λ w. (let z = ap (total w) same in omega (arith, z)); told = adds_none a }
      pick false k =
          let v : HeldRow → ℕ = λ r. cond (is_held x.cells x.other r) 1 0 in
          let g = h.held v in
          let z = ap (λ b. total (λ r. cond {A = ℕ} (clipped r) 0 (cond (is_held x.cells x.other r) 1 0)) (cond b (row_named x ∷ []) [])) e in
          let y = ap (λ c. cond {A = ℕ} c 0 (cond (is_held x.cells x.other (row_named x)) 1 0)) k in
          let o = names_itself x in
          absurd (omega (arith, none, g, z, y, o))

  -- an end whose row is there: it was not clipped
  pub end_found : (rows rows2 : List HeldRow) (a0 a1 : List Edge) → is_end x ≡ true → ((w : HeldRow → ℕ) → total w rows ≡ total w rows2 + w (row_named x)) → a1 ≡ a0 ++ told_at false t (row_named x) ∷ [] →
      EndsHeld clipped (ended_of x) rows → Leave (filter (λ r. not (clipped r)) (ended_of x)) t rows rows2 a0 a1
  end_found rows rows2 a0 a1 e taken pushed h = subst (λ b. Leave (leavers b) t rows rows2 a0 a1) (sym e) (pick (clipped (row_named x)) refl)
    where
      pick : (c : Bool) → clipped (row_named x) ≡ c → Leave (cond (not c) (row_named x ∷ []) []) t rows rows2 a0 a1
      pick false k = record {
        rows = λ w. (let z = taken w in omega (arith, z));
        told = record { added = told_at false t (row_named x) ∷ []; is = pushed; bag = SameBag-refl (told_at false t (row_named x) ∷ []) };
      }
      pick true k =
          let n = h.none x.cells x.other k in
          let g = taken (λ r. cond (is_held x.cells x.other r) 1 0) in
          let o = names_itself x in
          absurd (omega (arith, n, g, o))

-- one more end
module _ (clipped : HeldRow → Bool) (t : ℕ) (now : List Edge) (i : ℕ) (x : Edge) (low : i < length now) (is : x ≡ get_or now i x) (r0 r1 : List HeldRow) (a0 a1 : List Edge)
    (h : EndsHeld clipped (ended_rows now) r0) (before : Leave (filter (λ r. not (clipped r)) (ended_rows (take i now))) t r0 r1 a0 a1) where
  pub ends_then : EndsHeld clipped (ended_of x) r1
  ends_then = record {
    held = λ w.
        let v : HeldRow → ℕ = λ r. cond (clipped r) 0 (w r) in
        let a = before.rows w in
        let b = unless_clipped clipped w (ended_rows (take i now)) in
        let c = h.held w in
        let d = total-flat_map v ended_of now in
        let e = total-flat_map v ended_of (take i now) in
        let f = total_part (λ y. total v (ended_of y)) now i x low in
        let g = ap (λ y. total v (ended_of y)) is in
        omega (arith, a, b, c, d, e, f, g);
    none = λ cells start k. (let a = before.rows (λ r. cond (is_held cells start r) 1 0) in let n = h.none cells start k in omega (arith, a, n));
  }

  pub ends_more : (r2 : List HeldRow) (a2 : List Edge) → Leave (filter (λ r. not (clipped r)) (ended_of x)) t r1 r2 a1 a2 → Leave (filter (λ r. not (clipped r)) (ended_rows (take (i + 1) now))) t r0 r2 a0 a2
  ends_more r2 a2 k =
      leave_then (filter (λ r. not (clipped r)) (ended_rows (take i now))) (filter (λ r. not (clipped r)) (ended_of x)) (filter (λ r. not (clipped r)) (ended_rows (take (i + 1) now))) t r0 r1 r2 a0 a1 a2 before k
      (record {
        weigh = λ w.
            let v : HeldRow → ℕ = λ r. cond (clipped r) 0 (w r) in
            let a = total-append w (filter (λ r. not (clipped r)) (ended_rows (take i now))) (filter (λ r. not (clipped r)) (ended_of x)) in
            let b = unless_clipped clipped w (ended_rows (take i now)) in
            let c = unless_clipped clipped w (ended_of x) in
            let d = unless_clipped clipped w (ended_rows (take (i + 1) now)) in
            let m = rows_more ended_of v now i x low is in
            omega (arith, a, b, c, d, m);
      })
