-- The entries of keys, as rows come and go.
use Rattle.std.specs.Prelude.{◌≡◌, ◌⊎◌, ℕ, zero, suc, ◌+◌, ◌<◌, ◌≤◌, ◌&&◌, nat_eq, nat_le, nat_lt, Bool, true, false, cond, min, Some, List, [], ◌∷◌, ◌++◌, All, filter, length, get_or, slice_get, map, refl}
use Rattle.std.proofs.Common.{inl, inr, sym, ◌∙◌, ap, subst, arith}
use Rattle.std.proofs.lemmas.Bool.Decides.{nat_tests}
use Rattle.std.proofs.lemmas.List.Elements.{All-head, All-tail}
use Rattle.tw_rows.specs.Bag.{total}
use Rattle.tw_rows.specs.Instant.{inf, later}
use Rattle.tw_rows.specs.SameCells.{same_cells, same_itself, cells_are_same}
use Rattle.tw_rows.specs.declared.cells.Datum.{Datum}
use Rattle.tw_rows.specs.declared.edge.Edge.{Edge}
use Rattle.tw_rows.specs.declared.edge.HeldRow.{HeldRow}
use Rattle.tw_rows.proofs.Bags.{total-append, total-map, total-filter, total_same, total_zero}
use Rattle.edge_history.specs.Order.{many, failing}
use Rattle.end_queue.specs.Pending.{Pending, put_pending, AreDueFrom}
use Rattle.synopsis.specs.Held.{key_of, is_of_key}
use Rattle.sweep_laws.specs.Moves.{Adds, told_at}
use Rattle.sweep_laws.proofs.Adding.{adds_none, adds_then, adds_bag}
use Rattle.sweep_sides.proofs.Queued.{put_weighs}
use Rattle.session_window.specs.Lasts.{IsLastStart}
use Rattle.session_window.specs.Kept.{is_for, is_for_at, keeps_to, waits_from, waits_below, is_placed_at, Await, Ends}
use Rattle.session_window.proofs.Members.{In, found, counted, all_pass, passes}
use Rattle.session_window.proofs.Keys.{key_is, last_there, last_late}
use Rattle.session_window.proofs.OpenKeys.{many_kept}
use Rattle.session_window.specs.Holding.{BeginsAt, IsNextTime}
use Rattle.sweep_laws.specs.Sweeps.{StartsAt}
use Rattle.edge_history.proofs.Sums.{weaker}

-- the number of entries of a key, by whether it has rows: with one row more, and an entry more where it had none
first_more : (n e : ℕ) → e ≡ cond (nat_eq n 0) 0 1 → e + cond (nat_eq n 0) 1 0 ≡ cond (nat_eq (n + 1) 0) 0 1
first_more n e h = pick (nat_eq n 0) refl
  where
    never : (m : ℕ) → 1 ≤ m → nat_eq m 0 ≡ false
    never m l = grind (arith, nat_tests)

    pick : (b : Bool) → nat_eq n 0 ≡ b → e + cond (nat_eq n 0) 1 0 ≡ cond (nat_eq (n + 1) 0) 0 1
    pick true q =
        let x = h ∙ ap (λ c. cond {A = ℕ} c 0 1) q in
        let y = ap (λ c. cond {A = ℕ} c 1 0) q in
        let z = ap (λ c. cond {A = ℕ} c 0 1) (never (n + 1) (omega arith)) in
        omega (arith, x, y, z)
    pick false q =
        let x = h ∙ ap (λ c. cond {A = ℕ} c 0 1) q in
        let y = ap (λ c. cond {A = ℕ} c 1 0) q in
        let z = ap (λ c. cond {A = ℕ} c 0 1) (never (n + 1) (omega arith)) in
        omega (arith, x, y, z)

-- THE ENTRY OF A ROW THAT IS PUT IN
pub entry_kept : (ends : List Pending) (p : Pending) (first none : Bool) → first ≡ none → first ≡ false → (w : Pending → ℕ) → total w ends ≡ total w ends + cond none (w p) 0
entry_kept ends p first none e h w = let z = ap (λ b. cond b (w p) 0) (sym e ∙ h) in omega (arith, z)

pub entry_put : (ends ends2 : List Pending) (at : ℕ) (e e2 : Edge) (first none : Bool) → ends2 ≡ put_pending (record { at = at; edge = e }) ends → e ≡ e2 → first ≡ none → first ≡ true →
    (w : Pending → ℕ) → total w ends2 ≡ total w ends + cond none (w (record { at = at; edge = e2 })) 0
entry_put ends ends2 at e e2 first none is same f h w =
    let a = ap (total w) is ∙ put_weighs w (record { at = at; edge = e }) ends in
    let b = ap (λ x. w (record { at = at; edge = x })) same in
    let c = ap (λ b. cond b (w (record { at = at; edge = e2 })) 0) (sym f ∙ h) in
    omega (arith, a, b, c)

-- an entry for a later time does not count among those before it
pub fewer_put : (t at : ℕ) (e : Edge) (ends ends2 : List Pending) → ends2 ≡ put_pending (record { at = at; edge = e }) ends → nat_lt t at ≡ true →
    many (waits_below (later 1 t)) ends2 ≤ many (waits_below (later 1 t)) ends
fewer_put t at e ends ends2 is h =
    let v : Pending → ℕ = λ p. cond (waits_below (later 1 t) p) 1 0 in
    let a = ap (total v) is ∙ put_weighs v (record { at = at; edge = e }) ends in
    let b = ap (λ b. cond {A = ℕ} b 1 0) (not_below at (later 1 t) (let l = lower t at h in omega (arith, l))) in
    omega (arith, a, b)
  where
    not_below : (m n : ℕ) → n ≤ m → nat_lt m n ≡ false
    not_below m n l = grind (arith, nat_tests)

    lower : (m n : ℕ) → nat_lt m n ≡ true → m < n
    lower m n l = grind (arith, nat_tests)

-- where the first entry was taken out, fewer are left before that time
pub popped_fewer : (t below : ℕ) (ends rest ends2 : List Pending) (p : Pending) → below ≡ later 1 t → ends ≡ p ∷ rest → p.at < below →
    many (waits_below (later 1 t)) ends2 ≤ many (waits_below (later 1 t)) rest → many (waits_below below) ends2 < many (waits_below below) ends
popped_fewer t below ends rest ends2 p e is low fewer =
    let a = ap (λ n. many (waits_below n) ends2) e in
    let b = ap (λ n. many (waits_below n) rest) e in
    let c = ap (λ (l : List Pending). many (waits_below below) l) is in
    let d = ap (λ b. cond {A = ℕ} b 1 0) (lower p.at below low) in
    omega (arith, a, b, c, d, fewer)
  where
    lower : (m n : ℕ) → m < n → nat_lt m n ≡ true
    lower m n l = grind (arith, nat_tests)

pub is_lower : (m n : ℕ) → nat_lt m n ≡ true → m < n
is_lower m n l = grind (arith, nat_tests)

pub not_before : (m n : ℕ) → nat_lt m n ≡ false → n ≤ m
not_before m n l = grind (arith, nat_tests)

-- the first entry
pub first_entry : (t : ℕ) (ends : List Pending) → 1 ≤ length ends → AreDueFrom 0 ends → ((p : Pending) → slice_get ends 0 ≡ Some p → t ≡ p.at) →
    (failing (waits_from t) ends ≡ 0) × BeginsAt t ends
first_entry t [] low order at = absurd (omega (arith, low))
first_entry t (p ∷ ps) low order at = let e = at p refl in (from t (p ∷ ps) (p.at) (omega (arith, e)) (omega arith, order.1), sym e)
  where
    low_enough : (m n : ℕ) → m ≤ n → nat_le m n ≡ true
    low_enough m n l = grind (arith, nat_tests)

    from : (t : ℕ) (xs : List Pending) (n : ℕ) → t ≤ n → AreDueFrom n xs → failing (waits_from t) xs ≡ 0
    from t [] n l h = refl
    from t (x ∷ xs) n l h =
        let a = h.0 in
        let z = ap (λ b. cond {A = ℕ} b 0 1) (low_enough t x.at (omega (arith, a, l))) in
        let r = from t xs x.at (omega (arith, a, l)) h.1 in
        omega (arith, z, r)

pub no_entry : (t : ℕ) (ends : List Pending) → length ends ≡ 0 → failing (waits_from t) ends ≡ 0
no_entry t [] h = refl
no_entry t (p ∷ ps) h = absurd (omega (arith, h))

-- the next time of edges that begin with one, and of entries
pub next_some : (t at : ℕ) (rest : List Edge) (ends : List Pending) (e : Edge) → 0 < length rest → ((d : Edge) → e ≡ get_or rest 0 d) → t ≡ min e.sync at → failing (waits_from at) ends ≡ 0 →
    (at ≡ inf) ⊎ BeginsAt at ends → IsNextTime t rest ends
next_some t at [] ends e low is least from found = absurd (omega (arith, low))
next_some t at (x ∷ xs) ends e low is least from found = record {
  of_edges = (let s = ap (λ (y : Edge). y.sync) (is e) in omega (arith, s, least));
  of_ends = weaker (waits_from at) (waits_from t) ends (λ p h. earlier p.at h) from;
  found = pick (nat_le e.sync at) refl;
}
  where
    earlier : (n : ℕ) → nat_le at n ≡ true → nat_le t n ≡ true
    earlier n h = let l : t ≤ at = omega (arith, least) in grind (arith, nat_tests)

    le : (m n : ℕ) → nat_le m n ≡ true → m ≤ n
    le m n h = grind (arith, nat_tests)

    gt : (m n : ℕ) → nat_le m n ≡ false → n ≤ m
    gt m n h = grind (arith, nat_tests)

    pick : (b : Bool) → nat_le e.sync at ≡ b → (t ≡ inf) ⊎ (StartsAt t (x ∷ xs) ⊎ BeginsAt t ends)
    pick true q = inr (inl (let s = ap (λ (y : Edge). y.sync) (is e) in let l = le e.sync at q in let z : x.sync ≡ t = omega (arith, s, l, least) in z))
    pick false q =
        let l = gt e.sync at q in
        let z : at ≡ t = omega (arith, l, least) in
        elim found [ inl f ↦ inl (sym z ∙ f) | inr f ↦ inr (inr (subst (λ n. BeginsAt n ends) z f)) ]

pub all_from : (t : ℕ) (ends : List Pending) → All (λ p. t ≤ p.at) ends → failing (waits_from t) ends ≡ 0
all_from t [] h = refl
all_from t (p ∷ ps) h =
    let a = All-head (λ (p : Pending). t ≤ p.at) p ps h in
    let z = ap (λ b. cond {A = ℕ} b 0 1) (low_enough t p.at a) in
    let r = all_from t ps (All-tail (λ (p : Pending). t ≤ p.at) p ps h) in
    omega (arith, z, r)
  where
    low_enough : (m n : ℕ) → m ≤ n → nat_le m n ≡ true
    low_enough m n l = grind (arith, nat_tests)

module _ (timeout : ℕ) (columns : List ℕ) where
  module _ (rows rows2 : List HeldRow) (ends ends2 : List Pending) (r : HeldRow) (p : Pending) (cells : p.edge.cells ≡ key_of columns r.cells)
      (come : (w : HeldRow → ℕ) → total w rows2 ≡ total w rows + w r)
      (more : (w : Pending → ℕ) → total w ends2 ≡ total w ends + cond (nat_eq (many (is_of_key columns (key_of columns r.cells)) rows) 0) (w p) 0) where
    pub one_opened : ((k : List Datum) → many (is_for k) ends ≡ cond (nat_eq (many (is_of_key columns k) rows) 0) 0 1) → (k : List Datum) →
        many (is_for k) ends2 ≡ cond (nat_eq (many (is_of_key columns k) rows2) 0) 0 1
    one_opened h k = pick (same_cells (key_of columns r.cells) k) refl
      where
        n : ℕ
        n = many (is_of_key columns k) rows

        own : same_cells p.edge.cells k ≡ same_cells (key_of columns r.cells) k
        own = ap (λ (l : List Datum). same_cells l k) cells

        pick : (b : Bool) → same_cells (key_of columns r.cells) k ≡ b → many (is_for k) ends2 ≡ cond (nat_eq (many (is_of_key columns k) rows2) 0) 0 1
        pick true e =
            let same = cells_are_same (key_of columns r.cells) k e in
            let a = more (λ q. cond (is_for k q) 1 0)
            ∙ ap (λ b. many (is_for k) ends + cond (nat_eq (many (is_of_key columns (key_of columns r.cells)) rows) 0) (cond b 1 0) 0) (own ∙ e)
            ∙ ap (λ l. many (is_for k) ends + cond (nat_eq (many (is_of_key columns l) rows) 0) 1 0) same in
            let b = come (λ x. cond (is_of_key columns k x) 1 0) ∙ ap (λ b. many (is_of_key columns k) rows + cond b 1 0) e in
            a ∙ first_more (many (is_of_key columns k) rows) (many (is_for k) ends) (h k) ∙ sym (ap (λ m. cond {A = ℕ} (nat_eq m 0) 0 1) b)
        pick false e =
            let a = more (λ q. cond (is_for k q) 1 0)
            ∙ ap (λ b. many (is_for k) ends + cond (nat_eq (many (is_of_key columns (key_of columns r.cells)) rows) 0) (cond b 1 0) 0) (own ∙ e) in
            let z = zero_either (nat_eq (many (is_of_key columns (key_of columns r.cells)) rows) 0) in
            let b = come (λ x. cond (is_of_key columns k x) 1 0) ∙ ap (λ b. many (is_of_key columns k) rows + cond b 1 0) e in
            let c : many (is_of_key columns k) rows2 ≡ many (is_of_key columns k) rows = omega (arith, b) in
            let d : many (is_for k) ends2 ≡ many (is_for k) ends = omega (arith, a, z) in
            d ∙ h k ∙ sym (ap (λ m. cond {A = ℕ} (nat_eq m 0) 0 1) c)
          where
            zero_either : (p : Bool) → cond {A = ℕ} p 0 0 ≡ 0
            zero_either p = grind arith

    pub opened : p.at ≡ later timeout r.start → Await timeout columns rows ends → Await timeout columns rows2 ends2
    opened at h = record {
      one = one_opened h.one;
      in_time = λ k n some. pick k n some (same_cells (key_of columns r.cells) k && nat_eq p.at n) refl;
    }
      where
        pick : (k : List Datum) (n : ℕ) → 1 ≤ many (is_for_at k n) ends2 → (b : Bool) → (same_cells (key_of columns r.cells) k && nat_eq p.at n) ≡ b → 1 ≤ many (keeps_to timeout columns k n) rows2
        pick k n some true e =
            let x = come (λ x. cond (keeps_to timeout columns k n x) 1 0) in
            let y = ap (λ b. cond {A = ℕ} b 1 0) (kept_at (same_cells (key_of columns r.cells) k) p.at (later timeout r.start) n at e) in
            omega (arith, x, y)
          where
            kept_at : (b : Bool) (m l n : ℕ) → m ≡ l → (b && nat_eq m n) ≡ true → (b && nat_le n l) ≡ true
            kept_at true m l n e h = grind (arith, nat_tests)
            kept_at false m l n e h = absurd (cc)
        pick k n some false e =
            let a = more (λ q. cond (is_for_at k n q) 1 0) in
            let own = ap (λ (l : List Datum). same_cells l k && nat_eq p.at n) cells ∙ e in
            let g = drop (nat_eq (many (is_of_key columns (key_of columns r.cells)) rows) 0) (is_for_at k n p) own in
            let t = h.in_time k n (omega (arith, a, g, some)) in
            let x = come (λ x. cond (keeps_to timeout columns k n x) 1 0) in
            omega (arith, x, t)
          where
            drop : (b c : Bool) → c ≡ false → cond {A = ℕ} b (cond c 1 0) 0 ≡ 0
            drop true true h = absurd (cc)
            drop true false h = refl
            drop false c h = refl

    -- the entries wait until the same time
    pub placed_opened : (u : ℕ) → p.at ≡ u → failing (is_placed_at u) ends ≡ 0 → failing (is_placed_at u) ends2 ≡ 0
    placed_opened u same h =
        let a = more (λ q. cond (is_placed_at u q) 0 1) in
        let g = drop (nat_eq (many (is_of_key columns (key_of columns r.cells)) rows) 0) (is_placed_at u p) (equal p.at u same) in
        omega (arith, a, g, h)
      where
        equal : (m n : ℕ) → m ≡ n → nat_eq m n ≡ true
        equal m n l = grind (arith, nat_tests)

        drop : (b c : Bool) → c ≡ true → cond {A = ℕ} b (cond c 0 1) 0 ≡ 0
        drop true true h = refl
        drop true false h = absurd (cc)
        drop false c h = refl

    -- the entries wait until a time or later
    pub later_opened : (u : ℕ) → u ≤ p.at → failing (waits_from u) ends ≡ 0 → failing (waits_from u) ends2 ≡ 0
    later_opened u low h =
        let a = more (λ q. cond (waits_from u q) 0 1) in
        let z = ap (λ b. cond {A = ℕ} b 0 1) (from u p.at low) in
        let g = drop (nat_eq (many (is_of_key columns (key_of columns r.cells)) rows) 0) (waits_from u p) (from u p.at low) in
        omega (arith, a, g, h)
      where
        from : (m n : ℕ) → m ≤ n → nat_le m n ≡ true
        from m n l = grind (arith, nat_tests)

        drop : (b c : Bool) → c ≡ true → cond {A = ℕ} b (cond c 0 1) 0 ≡ 0
        drop true true h = refl
        drop true false h = absurd (cc)
        drop false c h = refl

  -- THE ENTRY OF A KEY IS TAKEN OUT
  module _ (rows : List HeldRow) (ends rest : List Pending) (p : Pending) (k : List Datum) (cells : p.edge.cells ≡ k) (is : ends ≡ p ∷ rest) (h : Await timeout columns rows ends) where
    here : is_for k p ≡ true
    here = subst (λ (l : List Datum). same_cells p.edge.cells l ≡ true) cells (same_itself p.edge.cells)

    counts : (q : List Datum) → many (is_for q) ends ≡ cond (is_for q p) 1 0 + many (is_for q) rest
    counts q = ap (λ (l : List Pending). many (is_for q) l) is

    places : (q : List Datum) (n : ℕ) → many (is_for_at q n) ends ≡ cond (is_for_at q n p) 1 0 + many (is_for_at q n) rest
    places q n = ap (λ (l : List Pending). many (is_for_at q n) l) is

    -- it has rows
    pub has_rows : many (is_of_key columns k) rows ≡ 0 → ⊥
    has_rows none =
        let a = h.one k in
        let b = counts k in
        let c = ap (λ b. cond {A = ℕ} b 1 0) here in
        let d = ap (λ m. cond {A = ℕ} (nat_eq m 0) 0 1) none in
        let e : cond {A = ℕ} (nat_eq 0 0) 0 1 ≡ 0 = refl in
        absurd (omega (arith, a, b, c, d, e))

    -- and no other entry
    alone : many (is_for k) rest ≡ 0
    alone =
        let a = h.one k in
        let b = counts k in
        let c = ap (λ b. cond {A = ℕ} b 1 0) here in
        let d = at_most (nat_eq (many (is_of_key columns k) rows) 0) in
        omega (arith, a, b, c, d)
      where
        at_most : (b : Bool) → cond {A = ℕ} b 0 1 ≤ 1
        at_most b = grind arith

    other : (q : List Datum) → same_cells k q ≡ false → is_for q p ≡ false
    other q e = ap (λ (l : List Datum). same_cells l q) cells ∙ e

    -- it comes back with another time
    pub again : (ends2 : List Pending) (s : ℕ) → ((w : Pending → ℕ) → total w ends2 ≡ total w rest + w (record { at = later timeout s; edge = p.edge })) →
        IsLastStart s (filter (is_of_key columns k) rows) → Await timeout columns rows ends2
    again ends2 s put last = record {
      one = λ q. (let a = put (λ x. cond (is_for q x) 1 0) in let b = counts q in let c : many (is_for q) ends2 ≡ many (is_for q) ends = omega (arith, a, b) in c ∙ h.one q);
      in_time = λ q n some. pick q n some (same_cells p.edge.cells q && nat_eq (later timeout s) n) refl;
    }
      where
        pick : (q : List Datum) (n : ℕ) → 1 ≤ many (is_for_at q n) ends2 → (b : Bool) → (same_cells p.edge.cells q && nat_eq (later timeout s) n) ≡ b → 1 ≤ many (keeps_to timeout columns q n) rows
        pick q n some true e =
            let x = last_there (is_of_key columns k) rows s last in
            let key = subst (λ (l : List Datum). same_cells (key_of columns x.0.cells) l ≡ true) (sym cells ∙ cells_are_same p.edge.cells q (kept (same_cells p.edge.cells q) (later timeout s) n e).0) x.2 in
            counted (keeps_to timeout columns q n) x.0 rows x.3
            (both (is_of_key columns q x.0) (nat_le n (later timeout x.0.start)) key
            (ap (λ m. nat_le n (later timeout m)) x.1 ∙ (kept (same_cells p.edge.cells q) (later timeout s) n e).1))
          where
            kept : (b : Bool) (m n : ℕ) → (b && nat_eq m n) ≡ true → (b ≡ true) × (nat_le n m ≡ true)
            kept true m n g = (refl, grind (arith, nat_tests))
            kept false m n g = absurd (cc)

            both : (a b : Bool) → a ≡ true → b ≡ true → (a && b) ≡ true
            both true b h k = k
            both false b h k = absurd (cc)
        pick q n some false e =
            let a = put (λ x. cond (is_for_at q n x) 1 0) in
            let z = ap (λ b. cond {A = ℕ} b 1 0) e in
            let b = places q n in
            h.in_time q n (omega (arith, a, z, b, some))

    pub not_gone : filter (is_of_key columns k) rows ≡ [] → Await timeout columns rows rest
    not_gone none = absurd (has_rows (many_kept (is_of_key columns k) rows ∙ ap (λ (l : List HeldRow). length l) none))

    pub again_put : (ends2 : List Pending) (s : ℕ) (entry : Edge) (at : ℕ) → p.edge ≡ entry → at ≡ later timeout s → ends2 ≡ put_pending (record { at = at; edge = entry }) rest →
        IsLastStart s (filter (is_of_key columns k) rows) → Await timeout columns rows ends2
    again_put ends2 s entry at edge time put last = again ends2 s put_in last
      where
        put_in : (w : Pending → ℕ) → total w ends2 ≡ total w rest + w (record { at = later timeout s; edge = p.edge })
        put_in w =
            ap (total w) put ∙ (put_weighs w (record { at = at; edge = entry }) rest
            ∙ (ap (λ n. total w rest + w (record { at = n; edge = entry })) time ∙ ap (λ x. total w rest + w (record { at = later timeout s; edge = x })) (sym edge)))

    -- it goes with all rows of its key
    pub closed : (rows2 taken : List HeldRow) → ((w : HeldRow → ℕ) → total w rows ≡ total w rows2 + total w taken) → taken ≡ filter (is_of_key columns k) rows →
        Await timeout columns rows2 rest
    closed rows2 taken split own = record { one = one; in_time = in_time }
      where
        all_own : (w : HeldRow → ℕ) → total w taken ≡ total (λ r. cond (is_of_key columns k r) (w r) 0) rows
        all_own w = ap (total w) own ∙ total-filter w (is_of_key columns k) rows

        twice : (b : Bool) → cond {A = ℕ} b (cond b 1 0) 0 ≡ cond b 1 0
        twice b = grind arith

        gone : many (is_of_key columns k) rows2 ≡ 0
        gone =
            let a = split (λ r. cond (is_of_key columns k r) 1 0) in
            let b = all_own (λ r. cond (is_of_key columns k r) 1 0) in
            let c = total_same (λ r. cond (is_of_key columns k r) (cond (is_of_key columns k r) 1 0) 0) (λ r. cond (is_of_key columns k r) 1 0) rows (λ r. twice (is_of_key columns k r)) in
            omega (arith, a, b, c)

        apart_one : (q : List Datum) → same_cells k q ≡ false → (w : HeldRow → ℕ) (r : HeldRow) → cond (is_of_key columns k r) (cond (is_of_key columns q r) (w r) 0) 0 ≡ 0
        apart_one q e w r = go (is_of_key columns k r) refl
          where
            zero_either : (p : Bool) → cond {A = ℕ} p 0 0 ≡ 0
            zero_either p = grind arith

            go : (b : Bool) → is_of_key columns k r ≡ b → cond b (cond (is_of_key columns q r) (w r) 0) 0 ≡ 0
            go false f = refl
            go true f = ap (λ c. cond c (w r) 0) (ap (λ (l : List Datum). same_cells l q) (key_is columns k r f) ∙ e)

        none_taken : (q : List Datum) → same_cells k q ≡ false → (w : HeldRow → ℕ) → total (λ r. cond (is_of_key columns q r) (w r) 0) taken ≡ 0
        none_taken q e w =
            all_own (λ r. cond (is_of_key columns q r) (w r) 0)
            ∙ (total_same (λ r. cond (is_of_key columns k r) (cond (is_of_key columns q r) (w r) 0) 0) (λ r. 0) rows (λ r. apart_one q e w r) ∙ total_zero rows)

        one : (q : List Datum) → many (is_for q) rest ≡ cond (nat_eq (many (is_of_key columns q) rows2) 0) 0 1
        one q = pick (same_cells k q) refl
          where
            pick : (b : Bool) → same_cells k q ≡ b → many (is_for q) rest ≡ cond (nat_eq (many (is_of_key columns q) rows2) 0) 0 1
            pick true e = subst (λ (l : List Datum). many (is_for l) rest ≡ cond (nat_eq (many (is_of_key columns l) rows2) 0) 0 1) (cells_are_same k q e)
                (alone ∙ sym (ap (λ m. cond {A = ℕ} (nat_eq m 0) 0 1) gone))
            pick false e =
                let a = counts q in
                let b = ap (λ b. cond {A = ℕ} b 1 0) (other q e) in
                let c = none_taken q e (λ r. 1) in
                let d = split (λ r. cond (is_of_key columns q r) 1 0) in
                let n : many (is_for q) rest ≡ many (is_for q) ends = omega (arith, a, b) in
                let m : many (is_of_key columns q) rows ≡ many (is_of_key columns q) rows2 = omega (arith, c, d) in
                n ∙ h.one q ∙ ap (λ m. cond {A = ℕ} (nat_eq m 0) 0 1) m

        in_time : (q : List Datum) (n : ℕ) → 1 ≤ many (is_for_at q n) rest → 1 ≤ many (keeps_to timeout columns q n) rows2
        in_time q n some = pick (same_cells k q) refl
          where
            fewer : (a b : Bool) → cond {A = ℕ} (a && b) 1 0 ≤ cond a 1 0
            fewer a b = grind arith

            each : (xs : List Pending) → many (is_for_at q n) xs ≤ many (is_for q) xs
            each [] = omega arith
            each (x ∷ xs) = let a = fewer (same_cells x.edge.cells q) (nat_eq x.at n) in let b = each xs in omega (arith, a, b)

            as_cond : (a b : Bool) → cond {A = ℕ} (a && b) 1 0 ≡ cond a (cond b 1 0) 0
            as_cond a b = grind arith

            pick : (b : Bool) → same_cells k q ≡ b → 1 ≤ many (keeps_to timeout columns q n) rows2
            pick true e = absurd (
                let a = subst (λ (l : List Datum). many (is_for l) rest ≡ 0) (cells_are_same k q e) alone in
                let b = each rest in
                omega (arith, a, b, some))
            pick false e =
                let a = places q n in
                let t = h.in_time q n (omega (arith, a, some)) in
                let c = total_same (λ r. cond (keeps_to timeout columns q n r) 1 0) (λ r. cond (is_of_key columns q r) (cond (nat_le n (later timeout r.start)) 1 0) 0) taken
                (λ r. as_cond (is_of_key columns q r) (nat_le n (later timeout r.start))) in
                let d = none_taken q e (λ r. cond (nat_le n (later timeout r.start)) 1 0) in
                let s = split (λ r. cond (keeps_to timeout columns q n r) 1 0) in
                omega (arith, t, c, d, s)

  -- WHAT ENDS
  module _ (t : ℕ) where
    pub ends_none : (rows : List HeldRow) (answer : List Edge) → Ends timeout columns t rows rows answer answer
    ends_none rows answer = record {
      ended = [];
      split = λ w. (omega arith);
      due = refl;
      apart = λ key some. absurd (omega (arith, some));
      told = adds_none answer;
    }

    pub ends_then : (rows0 rows1 rows2 : List HeldRow) (a0 a1 a2 : List Edge) → Ends timeout columns t rows0 rows1 a0 a1 → Ends timeout columns t rows1 rows2 a1 a2 → Ends timeout columns t rows0 rows2 a0 a2
    ends_then rows0 rows1 rows2 a0 a1 a2 h k = record {
      ended = h.ended ++ k.ended;
      split = λ w. (let a = h.split w in let b = k.split w in let c = total-append w h.ended k.ended in omega (arith, a, b, c));
      due =
          let v : HeldRow → ℕ = λ r. cond (nat_le (later timeout r.start) t) 0 1 in
          let a = total-append v h.ended k.ended in
          let b = h.due in
          let c = k.due in
          omega (arith, a, b, c);
      apart = λ key some.
          let v : HeldRow → ℕ = λ r. cond (is_of_key columns key r) 1 0 in
          let a = total-append v h.ended k.ended in
          let s = k.split v in
          which (many (is_of_key columns key) h.ended) (many (is_of_key columns key) k.ended) (many (is_of_key columns key) rows1) (many (is_of_key columns key) rows2)
          (omega (arith, a, some)) (omega (arith, s)) (h.apart key) (k.apart key);
      told = adds_bag a0 a2 _ _ (adds_then a0 a1 a2 _ _ h.told k.told) (record {
        weigh = λ w.
            let a = total-append w (map (told_at false t) h.ended) (map (told_at false t) k.ended) in
            let b = total-map w (told_at false t) h.ended in
            let c = total-map w (told_at false t) k.ended in
            let d = total-map w (told_at false t) (h.ended ++ k.ended) in
            let e = total-append (λ r. w (told_at false t r)) h.ended k.ended in
            omega (arith, a, b, c, d, e);
      });
    }
      where
        which : (e f m n : ℕ) → 1 ≤ e + f → n ≤ m → (1 ≤ e → m ≡ 0) → (1 ≤ f → n ≡ 0) → n ≡ 0
        which zero f m n some low h k = k (omega (arith, some))
        which (suc e) f m n some low h k = let z = h (omega arith) in omega (arith, z, low)

    -- all rows of a key, the last of which started the timeout before t or earlier
    pub ends_key : (k : List Datum) (s : ℕ) (rows rows2 taken : List HeldRow) (a0 a1 : List Edge) → later timeout s ≤ t → IsLastStart s (filter (is_of_key columns k) rows) →
        ((w : HeldRow → ℕ) → total w rows ≡ total w rows2 + total w taken) → taken ≡ filter (is_of_key columns k) rows → Adds a0 a1 (map (told_at false t) taken) →
        Ends timeout columns t rows rows2 a0 a1
    ends_key k s rows rows2 taken a0 a1 low last split own told = record {
      ended = taken;
      split = split;
      due = all_pass (λ (r : HeldRow). nat_le (later timeout r.start) t) taken (λ r i. due r (in_rows r i) (passes (is_of_key columns k) r taken i all_of_key));
      apart = λ q some. apart q (found (is_of_key columns q) taken some);
      told = told;
    }
      where
        all_own : (w : HeldRow → ℕ) → total w taken ≡ total (λ r. cond (is_of_key columns k r) (w r) 0) rows
        all_own w = ap (total w) own ∙ total-filter w (is_of_key columns k) rows

        in_rows : (r : HeldRow) → In r taken → In r rows
        in_rows r i = record { within = λ w. (let a = i.within w in let b = split w in omega (arith, a, b)) }

        none_else : (b : Bool) → cond {A = ℕ} b (cond b 0 1) 0 ≡ 0
        none_else b = grind arith

        all_of_key : failing (is_of_key columns k) taken ≡ 0
        all_of_key =
            all_own (λ r. cond (is_of_key columns k r) 0 1)
            ∙ (total_same (λ r. cond (is_of_key columns k r) (cond (is_of_key columns k r) 0 1) 0) (λ r. 0) rows (λ r. none_else (is_of_key columns k r)) ∙ total_zero rows)

        early : (m n : ℕ) → m ≤ n → later timeout n ≤ t → nat_le (later timeout m) t ≡ true
        early m n l h = let x : later timeout m ≤ t = omega (arith, l, h) in grind (arith, nat_tests)

        due : (r : HeldRow) → In r rows → is_of_key columns k r ≡ true → nat_le (later timeout r.start) t ≡ true
        due r i h = early r.start s (last_late (is_of_key columns k) rows s last r i h) low

        twice : (b : Bool) → cond {A = ℕ} b (cond b 1 0) 0 ≡ cond b 1 0
        twice b = grind arith

        gone : many (is_of_key columns k) rows2 ≡ 0
        gone =
            let a = split (λ r. cond (is_of_key columns k r) 1 0) in
            let b = all_own (λ r. cond (is_of_key columns k r) 1 0) in
            let c = total_same (λ r. cond (is_of_key columns k r) (cond (is_of_key columns k r) 1 0) 0) (λ r. cond (is_of_key columns k r) 1 0) rows (λ r. twice (is_of_key columns k r)) in
            omega (arith, a, b, c)

        apart : (q : List Datum) → (r : HeldRow) × (is_of_key columns q r ≡ true) × In r taken → many (is_of_key columns q) rows2 ≡ 0
        apart q x =
            let e : k ≡ q = sym (key_is columns k x.0 (passes (is_of_key columns k) x.0 taken x.2 all_of_key)) ∙ key_is columns q x.0 x.1 in
            subst (λ (l : List Datum). many (is_of_key columns l) rows2 ≡ 0) e gone
