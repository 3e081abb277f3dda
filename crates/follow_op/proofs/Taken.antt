-- Rows that are told, taken out and put in, one after the other.
use Rattle.std.specs.Prelude.{◌≡◌, ℕ, zero, suc, ◌+◌, ◌*◌, ◌<◌, ◌≤◌, ◌||◌, nat_eq, nat_lt, Bool, true, false, cond, Some, List, [], ◌∷◌, ◌++◌, map, filter, flat_map, take, length, get_or, slice_get, refl}
use Rattle.std.proofs.Common.{sym, ◌∙◌, ap, subst, arith}
use Rattle.std.proofs.lemmas.Bool.{and_parts, eqb-true, eq-eqb, and_from}
use Rattle.std.proofs.lemmas.Bool.Decides.{nat_tests}
use Rattle.std.proofs.lemmas.List.{append_assoc, append-nil, map-append, take_more}
use Rattle.std.proofs.lemmas.Grind.{flat_map-append}
use Rattle.tw_rows.specs.Bag.{SameBag, total}
use Rattle.tw_rows.specs.Instant.{later}
use Rattle.tw_rows.specs.SameCells.{cells_are_same, same_itself}
use Rattle.tw_rows.specs.declared.cells.Datum.{Datum}
use Rattle.tw_rows.specs.declared.edge.Edge.{Edge}
use Rattle.tw_rows.specs.declared.edge.HeldRow.{HeldRow}
use Rattle.tw_rows.proofs.Bags.{total-append, total-map, total-filter, total_same, total_zero, SameBag-refl}
use Rattle.edge_history.specs.Order.{failing, many, rank}
use Rattle.edge_history.specs.Opens.{is_held}
use Rattle.edge_history.proofs.Sums.{sum_eq}
use Rattle.sweep_laws.specs.Saving.{rows_of}
use Rattle.sweep_laws.specs.Sweeps.{InOrder, SyncsRise}
use Rattle.sweep_laws.proofs.Ordering.{adds_order}
use Rattle.follow_op.specs.Followed.{match_told}
use Rattle.follow_op.specs.Waits.{still_waits, StartsRise, FirstWaits}

-- ROWS OF A KEY
-- what stands in a filtered list passes, and is there
pub filter_got : (p q : HeldRow → Bool) (xs : List HeldRow) (i : ℕ) (r : HeldRow) → slice_get (filter p xs) i ≡ Some r → q r ≡ true → (p r ≡ true) × (1 ≤ many q xs)
filter_got p q [] i r h k = absurd (cc)
filter_got p q (x ∷ xs) i r h k = go (p x) refl i h (λ j g. filter_got p q xs j r g k)
  where
    rest : (n : ℕ) → 1 ≤ n → 1 ≤ cond (q x) 1 0 + n
    rest n low = omega (arith, low)

    here : x ≡ r → 1 ≤ many q (x ∷ xs)
    here e = let z = ap (λ y. cond {A = ℕ} (q y) 1 0) e ∙ ap (λ b. cond {A = ℕ} b 1 0) k in omega (arith, z)

    go : (b : Bool) → p x ≡ b → (i : ℕ) → slice_get (cond b (x ∷ filter p xs) (filter p xs)) i ≡ Some r →
        ((j : ℕ) → slice_get (filter p xs) j ≡ Some r → (p r ≡ true) × (1 ≤ many q xs)) → (p r ≡ true) × (1 ≤ many q (x ∷ xs))
    go true is zero h ih = let e : x ≡ r = cc in (sym (ap p e) ∙ is, here e)
    go true is (suc j) h ih = let z = ih j h in (z.0, rest (many q xs) z.1)
    go false is i h ih = let z = ih i h in (z.0, rest (many q xs) z.1)

pub held_itself : (r : HeldRow) → is_held r.cells r.start r ≡ true
held_itself r = and_from _ _ (eq-eqb r.start r.start refl) (same_itself r.cells)

-- a row that is held is this one
held_is : (r x : HeldRow) → is_held r.cells r.start x ≡ true → x ≡ r
held_is r x h =
    let p = and_parts (nat_eq x.start r.start) _ h in
    let n = eqb-true x.start r.start p.0 in
    let e = cells_are_same x.cells r.cells p.1 in
    λ i. record { cells = e i; start = n i }

-- with no row of the key left, those that are left are the others
pub all_others : (p : HeldRow → Bool) (rows old : List HeldRow) → filter p rows ≡ [] → ((w : HeldRow → ℕ) → total (λ r. cond (p r) 0 (w r)) rows ≡ total (λ r. cond (p r) 0 (w r)) old) →
    (w : HeldRow → ℕ) → total w rows ≡ total (λ r. cond (p r) 0 (w r)) old
all_others p rows old none h w =
    let a = total-filter w p rows in
    let b = ap (total w) none in
    let c = split rows in
    let d = h w in
    omega (arith, a, b, c, d)
  where
    one : (b : Bool) (n : ℕ) → n ≡ cond b n 0 + cond b 0 n
    one true n = omega arith
    one false n = omega arith

    split : (xs : List HeldRow) → total w xs ≡ total (λ r. cond (p r) (w r) 0) xs + total (λ r. cond (p r) 0 (w r)) xs
    split [] = refl
    split (x ∷ xs) = let a = one (p x) (w x) in let b = split xs in omega (arith, a, b)

-- one row of the key less
pub other_rows : (p : HeldRow → Bool) (rows rows2 old : List HeldRow) (r x : HeldRow) → p r ≡ true → x ≡ r → ((w : HeldRow → ℕ) → total w rows ≡ total w rows2 + w x) →
    ((w : HeldRow → ℕ) → total (λ r. cond (p r) 0 (w r)) rows ≡ total (λ r. cond (p r) 0 (w r)) old) → (w : HeldRow → ℕ) → total (λ r. cond (p r) 0 (w r)) rows2 ≡ total (λ r. cond (p r) 0 (w r)) old
other_rows p rows rows2 old r x is same out h w =
    let a = out (λ r. cond (p r) 0 (w r)) in
    let b = ap (λ (y : HeldRow). cond (p y) 0 (w y)) same ∙ ap (λ t. cond t 0 (w r)) is in
    let c = h w in
    omega (arith, a, b, c)

-- and the rows that pass one more test less
pub others_more : (p q s : HeldRow → Bool) (rows0 rows1 rows2 : List HeldRow) → ((r : HeldRow) → s r ≡ (p r || q r)) →
    ((w : HeldRow → ℕ) → total w rows1 ≡ total (λ r. cond (p r) 0 (w r)) rows0) → ((w : HeldRow → ℕ) → total w rows2 ≡ total (λ r. cond (q r) 0 (w r)) rows1) →
    (w : HeldRow → ℕ) → total w rows2 ≡ total (λ r. cond (s r) 0 (w r)) rows0
others_more p q s rows0 rows1 rows2 either h k w =
    k w ∙ (h (λ r. cond (q r) 0 (w r)) ∙ total_same _ _ rows0 (λ r. both (p r) (q r) (w r) ∙ sym (ap (λ b. cond b 0 (w r)) (either r))))
  where
    both : (a b : Bool) (n : ℕ) → cond a 0 (cond b 0 n) ≡ cond (a || b) 0 n
    both true b n = refl
    both false b n = refl

-- ROWS WHOSE TIME IS OVER
-- one row of the queue less: it is taken out of the rows, if it is there
pub over_step : (p : HeldRow → Bool) (left left2 rest : List HeldRow) (r : HeldRow) (b : Bool) (cells : List Datum) → cells ≡ r.cells →
    (b ≡ true → (w : HeldRow → ℕ) → total w left ≡ total w left2 + w (record { cells = cells; start = r.start })) → (b ≡ false → many (is_held cells r.start) left ≡ 0) → (b ≡ false → left2 ≡ left) →
    SameBag left (filter p (r ∷ rest)) → SameBag left2 (filter p rest)
over_step p left left2 rest r b cells same out none stays h = go (p r) refl b refl h
  where
    named : HeldRow → ℕ
    named = λ x. cond (is_held r.cells r.start x) 1 0

    own : named r ≡ 1
    own = ap (λ t. cond {A = ℕ} t 1 0) (held_itself r)

    count : many (is_held cells r.start) left ≡ total named left
    count = ap (λ l. many (is_held l r.start) left) same

    -- a row that fails the test is not among those that pass it
    apart : (xs : List HeldRow) → p r ≡ false → total named (filter p xs) ≡ 0
    apart xs f = total-filter named p xs ∙ (total_same _ (λ x. 0) xs one ∙ total_zero xs)
      where
        one : (x : HeldRow) → cond (p x) (named x) 0 ≡ 0
        one x = pick (is_held r.cells r.start x) refl
          where
            zero_either : (c : Bool) → cond {A = ℕ} c 0 0 ≡ 0
            zero_either true = refl
            zero_either false = refl

            pick : (k : Bool) → is_held r.cells r.start x ≡ k → cond (p x) (cond {A = ℕ} k 1 0) 0 ≡ 0
            pick true e = ap (λ c. cond {A = ℕ} c 1 0) (ap p (held_is r x e) ∙ f)
            pick false e = zero_either (p x)

    go : (t : Bool) → p r ≡ t → (k : Bool) → b ≡ k → SameBag left (cond t (r ∷ filter p rest) (filter p rest)) → SameBag left2 (filter p rest)
    go true is true e g = record {
      weigh = λ w.
          let a = out e w in
          let c = g.weigh w in
          let d = ap (λ l. w (record { cells = l; start = r.start })) same in
          omega (arith, a, c, d);
    }
    go true is false e g =
        let z = none e in
        let a = g.weigh named in
        let c = count in
        let d = own in
        absurd (omega (arith, z, a, c, d))
    go false is true e g =
        let a = out e named in
        let c = g.weigh named in
        let d = ap (λ l. named (record { cells = l; start = r.start })) same in
        let o = own in
        let z = apart rest is in
        absurd (omega (arith, a, c, d, o, z))
    go false is false e g = subst (λ l. SameBag l (filter p rest)) (sym (stays e)) g

pub over_fewer : (left left2 : List HeldRow) (x : HeldRow) (b : Bool) → (b ≡ true → (w : HeldRow → ℕ) → total w left ≡ total w left2 + w x) → (b ≡ false → left2 ≡ left) →
    (w : HeldRow → ℕ) → total w left2 ≤ total w left
over_fewer left left2 x true out stays w = let a = out refl w in omega (arith, a)
over_fewer left left2 x false out stays w = let a = ap (total w) (stays refl) in omega (arith, a)

over_is : (within t : ℕ) (r : HeldRow) → later within r.start ≤ t → still_waits within t r ≡ false
over_is within t r low = grind (arith, nat_tests)

pub over_filter : (within t : ℕ) (r : HeldRow) (old rest : List HeldRow) → old ≡ r ∷ rest → later within r.start ≤ t → filter (still_waits within t) rest ≡ filter (still_waits within t) old
over_filter within t r old rest is low =
    sym (ap (filter (still_waits within t)) is ∙ ap (λ b. cond b (r ∷ filter (still_waits within t) rest) (filter (still_waits within t) rest)) (over_is within t r low))

pub rise_rest : (r : HeldRow) (old rest : List HeldRow) → old ≡ r ∷ rest → StartsRise 0 old → StartsRise 0 rest
rise_rest r old rest is h = weaken 0 r.start rest (omega arith) (subst (λ l. StartsRise 0 l) is h).1
  where
    weaken : (s n : ℕ) (xs : List HeldRow) → s ≤ n → StartsRise n xs → StartsRise s xs
    weaken s n [] low h = tt
    weaken s n (x ∷ xs) low h = (omega (arith, h, low), h.1)

-- where the time of the first row is not over, none is
pub all_wait : (within t : ℕ) (rows : List HeldRow) → StartsRise 0 rows → FirstWaits within t rows → filter (still_waits within t) rows ≡ rows
all_wait within t [] h f = refl
all_wait within t (r ∷ rows) h f = from r.start (r ∷ rows) f (omega arith, h.1)
  where
    waits : (s n : ℕ) → t < later within s → s ≤ n → nat_lt t (later within n) ≡ true
    waits s n a low = grind (arith, nat_tests)

    from : (s : ℕ) (xs : List HeldRow) → t < later within s → StartsRise s xs → filter (still_waits within t) xs ≡ xs
    from s [] a h = refl
    from s (x ∷ xs) a h =
        ap (λ b. cond b (x ∷ filter (still_waits within t) xs) (filter (still_waits within t) xs)) (waits s x.start a h.0)
        ∙ ap (λ l. x ∷ l) (from s xs a (stronger s x.start xs h.0 h.1))
      where
        stronger : (s n : ℕ) (xs : List HeldRow) → s ≤ n → StartsRise n xs → StartsRise s xs
        stronger s n [] low h = tt
        stronger s n (y ∷ ys) low h = (omega (arith, h, low), h.1)

-- WHAT IS TOLD
match_rank : (rk : List ℕ) (within t : ℕ) (right : List Datum) (r : HeldRow) → still_waits within t r ≡ true → cond {A = ℕ} (nat_eq (rank (match_told rk within t right r)) (suc (2 * t))) 0 1 ≡ 0
match_rank rk within t right r h = grind (arith, nat_tests)

passed : (p : HeldRow → Bool) (b : Bool) (n : ℕ) → n ≡ 0 → cond {A = ℕ} b n 0 ≡ 0
passed p true n e = e
passed p false n e = refl

pub matches_order : (rk : List ℕ) (within t : ℕ) (right : List Datum) (p : HeldRow → Bool) (rows : List HeldRow) (before after : List Edge) →
    after ≡ before ++ map (match_told rk within t right) (filter p rows) → failing (still_waits within t) rows ≡ 0 → InOrder (suc (2 * t)) before → InOrder (suc (2 * t)) after
matches_order rk within t right p rows before after is waits up =
    let f : HeldRow → Edge = match_told rk within t right in
    adds_order (suc (2 * t)) before after (map f (filter p rows)) (record { added = map f (filter p rows); is = is; bag = SameBag-refl _ })
    (total-map (λ e. cond (nat_eq (rank e) (suc (2 * t))) 0 1) f (filter p rows)
    ∙ (total-filter (λ r. cond (nat_eq (rank (f r)) (suc (2 * t))) 0 1) p rows
    ∙ (sum_eq (still_waits within t) _ (λ r. 0) rows (λ r h. passed p (p r) _ (match_rank rk within t right r h)) waits ∙ total_zero rows))) up

pub matches_weigh : (w : Edge → ℕ) (f : HeldRow → Edge) (p : HeldRow → Bool) (rows : List HeldRow) (before after : List Edge) → after ≡ before ++ map f (filter p rows) →
    total w after ≡ total w before + total (λ r. cond (p r) (w (f r)) 0) rows
matches_weigh w f p rows before after is =
    ap (total w) is ∙ (total-append w before (map f (filter p rows)) ∙ ap (λ n. total w before + n) (total-map w f (filter p rows) ∙ total-filter (λ r. w (f r)) p rows))

-- ROWS THAT START
pub flat_next : (f : Edge → List HeldRow) (now : List Edge) (i : ℕ) (x : Edge) (old before after : List HeldRow) → i < length now → x ≡ get_or now i x →
    before ≡ old ++ flat_map f (take i now) → after ≡ before ++ f x → after ≡ old ++ flat_map f (take (i + 1) now)
flat_next f now i x old before after low is so more =
    more
    ∙ (ap (λ l. l ++ f x) so
    ∙ (append_assoc old (flat_map f (take i now)) (f x)
    ∙ ap (λ l. old ++ l) (sym (ap (flat_map f) (take_more now i x low ∙ ap (λ y. take i now ++ y ∷ []) (sym is))
    ∙ (flat_map-append f (take i now) (x ∷ []) ∙ ap (λ l. flat_map f (take i now) ++ l) (append-nil (f x)))))))

-- LOADING
pub queued_next : (es : List Edge) (i : ℕ) (e : Edge) (cells : List Datum) (before after : List HeldRow) → i < length es → e ≡ get_or es i e → cells ≡ e.cells →
    before ≡ rows_of (take i es) → after ≡ before ++ record { cells = cells; start = e.sync } ∷ [] → after ≡ rows_of (take (i + 1) es)
queued_next es i e cells before after low is same so more =
    let g : Edge → HeldRow = λ x. record { cells = x.cells; start = x.sync } in
    more
    ∙ (ap (λ l. l ++ record { cells = cells; start = e.sync } ∷ []) so
    ∙ (ap (λ c. rows_of (take i es) ++ record { cells = c; start = e.sync } ∷ []) same
    ∙ sym (ap rows_of (take_more es i e low ∙ ap (λ y. take i es ++ y ∷ []) (sym is)) ∙ map-append g (take i es) (e ∷ []))))

pub rise_loaded : (s : ℕ) (es : List Edge) → SyncsRise s es → StartsRise s (rows_of es)
rise_loaded s [] h = tt
rise_loaded s (e ∷ es) h = (h.0, rise_loaded e.sync es h.1)
