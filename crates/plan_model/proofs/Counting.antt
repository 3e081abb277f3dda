-- How many lines a row has, and which starts they name.
use Rattle.std.specs.Prelude.{◌≡◌, ℕ, zero, suc, ◌+◌, Bool, true, false, ◌||◌, cond, List, [], ◌∷◌, ◌++◌, take, drop, length, replicate, map, flat_map, refl}
use Rattle.std.specs.Ordering.{eq_by_cmp}
use Rattle.std.proofs.Common.{sym, ◌∙◌, ap, arith, zero-add, add-zero, length-append, length-drop, length-take-le}
use Rattle.std.proofs.lemmas.List.{append-nil, length-replicate, drop-append-le, drop-drop, take-append-le}
use Rattle.std.proofs.lemmas.List.Concat.{flat_map-append}
use Rattle.tw_rows.specs.Instant.{instants}
use Rattle.tw_rows.specs.Rows.{Row, row_cmp}
use Rattle.plan_model.specs.Opens.{how_often, before, rise, fall, starts_before, ends_before, open_before, named_at}
use Rattle.plan_model.specs.Changes.{Started, Ended, in_row_order, row_ends, row_starts, changes_at, changes}
use Rattle.plan_model.specs.ChangeWords.{start_time, named_time, start_times, named_times}
use Rattle.plan_model.proofs.InOrder.{member, same_row, row_itself, member-in_row_order, Rises-in_row_order, flat_map_within}

-- as many start lines more than end lines as the row stands there
pub counts : (rows : ℕ → List Row) (r : Row) (t : ℕ) → length (starts_before rows r t) ≡ ends_before rows r t + how_often r (before rows t)
counts rows r zero = refl
counts rows r (suc t) =
    let a = counts rows r t in
    let b = length-append (starts_before rows r t) (replicate (rise rows r t) t) in
    let c = length-replicate (rise rows r t) t in
    omega (arith, a, b, c)

-- what is open after an instant: the earliest open starts are named, and the new ones are open
pub open_step : (rows : ℕ → List Row) (r : Row) (t : ℕ) → open_before rows r (suc t) ≡ drop (fall rows r t) (open_before rows r t) ++ replicate (rise rows r t) t
open_step rows r t =
    let a = counts rows r t in
    drop-append-le (ends_before rows r t + fall rows r t) (starts_before rows r t) (replicate (rise rows r t) t) (omega (arith, a))
    ∙ ap (λ l. l ++ replicate (rise rows r t) t) (sym (drop-drop (fall rows r t) (ends_before rows r t) (starts_before rows r t)))

pub open_length : (rows : ℕ → List Row) (r : Row) (t : ℕ) → length (open_before rows r t) ≡ how_often r (before rows t)
open_length rows r t = let a = counts rows r t in length-drop (ends_before rows r t) (starts_before rows r t) ∙ omega arith

take_none : {X : Type 0} (k : ℕ) → take {A = X} k [] ≡ []
take_none zero = refl
take_none (suc k) = refl

pub take_add : {X : Type 0} (n m : ℕ) (xs : List X) → take (n + m) xs ≡ take n xs ++ take m (drop n xs)
take_add zero m xs = rw (zero-add m) refl
take_add (suc n) m [] = take_none (suc n + m) ∙ sym (take_none m)
take_add (suc n) m (x ∷ xs) = let e : suc n + m ≡ suc (n + m) = omega arith in rw e (ap (λ l. x ∷ l) (take_add n m xs))

-- the starts that are named by an instant are the first ones, in order
pub named_step : (rows : ℕ → List Row) (r : Row) (t : ℕ) → take (ends_before rows r (suc t)) (starts_before rows r (suc t)) ≡ take (ends_before rows r t) (starts_before rows r t) ++ named_at rows r t
named_step rows r t =
    let a = counts rows r t in
    take-append-le (ends_before rows r t + fall rows r t) (starts_before rows r t) (replicate (rise rows r t) t) (omega (arith, a))
    ∙ take_add (ends_before rows r t) (fall rows r t) (starts_before rows r t)

pub flat_map-flat_map : {X Y Z : Type 0} (g : Y → List Z) (f : X → List Y) (xs : List X) → flat_map g (flat_map f xs) ≡ flat_map (λ x. flat_map g (f x)) xs
flat_map-flat_map g f [] = refl
flat_map-flat_map g f (x ∷ xs) = flat_map-append g (f x) (flat_map f xs) ∙ ap (λ l. flat_map g (f x) ++ l) (flat_map-flat_map g f xs)

pub flat_map_none : {X Y : Type 0} (f : X → List Y) (xs : List X) → ((x : X) → f x ≡ []) → flat_map f xs ≡ []
flat_map_none f [] h = refl
flat_map_none f (x ∷ xs) h = ap (λ l. l ++ flat_map f xs) (h x) ∙ flat_map_none f xs h

-- a row that isn't there stands there never
pub none_of : (r : Row) (rows : List Row) → member r rows ≡ false → how_often r rows ≡ 0
none_of r [] h = refl
none_of r (x ∷ xs) h = step (eq_by_cmp row_cmp r x) (member r xs) h (none_of r xs)
  where
    step : (a b : Bool) → (a || b) ≡ false → (b ≡ false → how_often r xs ≡ 0) → cond a 1 0 + how_often r xs ≡ 0
    step true b e k = absurd (cc)
    step false b e k = let z = k e in omega (arith, z)

apart_back : (q r : Row) → eq_by_cmp row_cmp q r ≡ false → eq_by_cmp row_cmp r q ≡ false
apart_back q r e = step (eq_by_cmp row_cmp r q) refl
  where
    step : (b : Bool) → eq_by_cmp row_cmp r q ≡ b → b ≡ false
    step false t = refl
    step true t = let same = same_row r q t in let z : eq_by_cmp row_cmp q r ≡ true = ap (eq_by_cmp row_cmp q) same ∙ row_itself q in absurd (cc)

-- what one row gives, picked from what all give
module _ {X : Type 0} (f : Row → List X) (r : Row) (rows : List Row) (others : (q : Row) → eq_by_cmp row_cmp r q ≡ false → f q ≡ []) where
  of_row : (b : Bool) (q : Row) → eq_by_cmp row_cmp r q ≡ b → f r ≡ [] → f q ≡ []
  of_row true q e none = ap f (sym (same_row r q e)) ∙ none
  of_row false q e none = others q e

  one_of : (q : Row) → member q (r ∷ []) ≡ true → q ≡ r
  one_of q m = step (eq_by_cmp row_cmp q r) refl m
    where
      step : (b : Bool) → eq_by_cmp row_cmp q r ≡ b → (b || false) ≡ true → q ≡ r
      step true t k = same_row q r t
      step false t k = absurd (cc)

  not_one : (q : Row) → member q (r ∷ []) ≡ false → eq_by_cmp row_cmp q r ≡ false
  not_one q m = step (eq_by_cmp row_cmp q r) m
    where
      step : (b : Bool) → (b || false) ≡ false → b ≡ false
      step true k = absurd (cc)
      step false k = refl

  pub picked : (member r rows ≡ false → f r ≡ []) → flat_map f (in_row_order rows) ≡ f r
  picked absent = pick (member r rows) refl
    where
      pick : (b : Bool) → member r rows ≡ b → flat_map f (in_row_order rows) ≡ f r
      pick true e = sym (flat_map_within f (in_row_order rows) (r ∷ []) (Rises-in_row_order rows) (λ q m. absurd (cc), tt) (record {
        within = λ q m. ap (λ x. member x (in_row_order rows)) (one_of q m) ∙ member-in_row_order r rows ∙ e;
        none = λ q m n. others q (apart_back q r (not_one q n));
      })) ∙ append-nil (f r)
      pick false e = flat_map_none f (in_row_order rows) (λ q. of_row (eq_by_cmp row_cmp r q) q refl (absent e)) ∙ sym (absent e)

if_so : {X : Type 0} (b : Bool) (x : X) → b ≡ true → cond b (x ∷ []) [] ≡ x ∷ []
if_so true x e = refl
if_so false x e = absurd (cc)

if_not : {X : Type 0} (b : Bool) (x : X) → b ≡ false → cond b (x ∷ []) [] ≡ []
if_not true x e = absurd (cc)
if_not false x e = refl

starts_of_replicate : (r q : Row) (t n : ℕ) → eq_by_cmp row_cmp r q ≡ true → start_times r (replicate n (Started t q)) ≡ replicate n t
starts_of_replicate r q t zero e = refl
starts_of_replicate r q t (suc n) e = ap (λ l. l ++ start_times r (replicate n (Started t q))) (if_so (eq_by_cmp row_cmp r q) t e) ∙ ap (λ l. t ∷ l) (starts_of_replicate r q t n e)

no_starts_of_replicate : (r q : Row) (t n : ℕ) → eq_by_cmp row_cmp r q ≡ false → start_times r (replicate n (Started t q)) ≡ []
no_starts_of_replicate r q t zero e = refl
no_starts_of_replicate r q t (suc n) e = ap (λ l. l ++ start_times r (replicate n (Started t q))) (if_not (eq_by_cmp row_cmp r q) t e) ∙ no_starts_of_replicate r q t n e

no_names_of_replicate : (r q : Row) (t n : ℕ) → named_times r (replicate n (Started t q)) ≡ []
no_names_of_replicate r q t zero = refl
no_names_of_replicate r q t (suc n) = no_names_of_replicate r q t n

names_of_map : (r q : Row) (t : ℕ) (ss : List ℕ) → eq_by_cmp row_cmp r q ≡ true → named_times r (map (λ s. Ended t s q) ss) ≡ ss
names_of_map r q t [] e = refl
names_of_map r q t (s ∷ ss) e = ap (λ l. l ++ named_times r (map (λ s. Ended t s q) ss)) (if_so (eq_by_cmp row_cmp r q) s e) ∙ ap (λ l. s ∷ l) (names_of_map r q t ss e)

no_names_of_map : (r q : Row) (t : ℕ) (ss : List ℕ) → eq_by_cmp row_cmp r q ≡ false → named_times r (map (λ s. Ended t s q) ss) ≡ []
no_names_of_map r q t [] e = refl
no_names_of_map r q t (s ∷ ss) e = ap (λ l. l ++ named_times r (map (λ s. Ended t s q) ss)) (if_not (eq_by_cmp row_cmp r q) s e) ∙ no_names_of_map r q t ss e

no_starts_of_map : (r q : Row) (t : ℕ) (ss : List ℕ) → start_times r (map (λ s. Ended t s q) ss) ≡ []
no_starts_of_map r q t [] = refl
no_starts_of_map r q t (s ∷ ss) = no_starts_of_map r q t ss

pub no_rise : (rows : ℕ → List Row) (r : Row) (t : ℕ) → member r (rows t) ≡ false → rise rows r t ≡ 0
no_rise rows r t m = let z = none_of r (rows t) m in omega (arith, z)

pub no_fall : (rows : ℕ → List Row) (r : Row) (t : ℕ) → member r (before rows t) ≡ false → fall rows r t ≡ 0
no_fall rows r t m = let z = none_of r (before rows t) m in omega (arith, z)

pub no_row_starts : (rows : ℕ → List Row) (r : Row) (t : ℕ) → rise rows r t ≡ 0 → row_starts rows t r ≡ []
no_row_starts rows r t e = ap (λ n. replicate n (Started t r)) e

pub no_row_ends : (rows : ℕ → List Row) (r : Row) (t : ℕ) → fall rows r t ≡ 0 → row_ends rows t r ≡ []
no_row_ends rows r t e = ap (λ n. map (λ s. Ended t s r) (take n (open_before rows r t))) e

-- a row has a start line at an instant for each by which it rises
pub starts_at : (rows : ℕ → List Row) (r : Row) (t : ℕ) → start_times r (changes_at rows t) ≡ replicate (rise rows r t) t
unfolding changes_at
starts_at rows r t =
    flat_map-append (start_time r) (flat_map (row_ends rows t) (in_row_order (before rows t))) (flat_map (row_starts rows t) (in_row_order (rows t)))
    ∙ ap (λ l. l ++ start_times r (flat_map (row_starts rows t) (in_row_order (rows t)))) (
    flat_map-flat_map (start_time r) (row_ends rows t) (in_row_order (before rows t))
    ∙ flat_map_none _ (in_row_order (before rows t)) (λ q. no_starts_of_map r q t (named_at rows q t)))
    ∙ flat_map-flat_map (start_time r) (row_starts rows t) (in_row_order (rows t))
    ∙ picked (λ q. start_times r (row_starts rows t q)) r (rows t)
    (λ q e. no_starts_of_replicate r q t (rise rows q t) e)
    (λ m. ap (start_times r) (no_row_starts rows r t (no_rise rows r t m)))
    ∙ starts_of_replicate r r t (rise rows r t) (row_itself r)

-- and its end lines name the earliest open starts
pub names_at : (rows : ℕ → List Row) (r : Row) (t : ℕ) → named_times r (changes_at rows t) ≡ named_at rows r t
unfolding changes_at
names_at rows r t =
    flat_map-append (named_time r) (flat_map (row_ends rows t) (in_row_order (before rows t))) (flat_map (row_starts rows t) (in_row_order (rows t)))
    ∙ ap (λ l. named_times r (flat_map (row_ends rows t) (in_row_order (before rows t))) ++ l) (
    flat_map-flat_map (named_time r) (row_starts rows t) (in_row_order (rows t))
    ∙ flat_map_none _ (in_row_order (rows t)) (λ q. no_names_of_replicate r q t (rise rows q t)))
    ∙ append-nil (named_times r (flat_map (row_ends rows t) (in_row_order (before rows t))))
    ∙ flat_map-flat_map (named_time r) (row_ends rows t) (in_row_order (before rows t))
    ∙ picked (λ q. named_times r (row_ends rows t q)) r (before rows t)
    (λ q e. no_names_of_map r q t (named_at rows q t) e)
    (λ m. ap (named_times r) (no_row_ends rows r t (no_fall rows r t m)))
    ∙ names_of_map r r t (named_at rows r t) (row_itself r)

pub instants-add : (a n m : ℕ) → instants a (n + m) ≡ instants a n ++ instants (a + n) m
instants-add a zero m = rw (zero-add, add-zero) refl
instants-add a (suc n) m =
    let e : suc n + m ≡ suc (n + m) = omega arith in
    let f : a + suc n ≡ suc a + n = omega arith in
    rw (e, f) (ap (λ l. a ∷ l) (instants-add (suc a) n m))

pub changes-add : (rows : ℕ → List Row) (a n m : ℕ) → changes rows a (n + m) ≡ changes rows a n ++ changes rows (a + n) m
unfolding changes
changes-add rows a n m = ap (flat_map (changes_at rows)) (instants-add a n m) ∙ flat_map-append (changes_at rows) (instants a n) (instants (a + n) m)

-- one instant more
pub changes_more : (rows : ℕ → List Row) (n : ℕ) → changes rows 0 (suc n) ≡ changes rows 0 n ++ changes_at rows n
unfolding changes
changes_more rows n =
    let e : suc n ≡ n + 1 = omega arith in
    ap (changes rows 0) e ∙ (changes-add rows 0 n 1 ∙ ap (λ l. changes rows 0 n ++ l) (append-nil (changes_at rows (0 + n)) ∙ ap (changes_at rows) (zero-add n)))

pub starts_below : (rows : ℕ → List Row) (r : Row) (n : ℕ) → start_times r (changes rows 0 n) ≡ starts_before rows r n
unfolding changes
starts_below rows r zero = refl
starts_below rows r (suc n) =
    ap (start_times r) (changes_more rows n)
    ∙ flat_map-append (start_time r) (changes rows 0 n) (changes_at rows n)
    ∙ ap (λ l. l ++ start_times r (changes_at rows n)) (starts_below rows r n)
    ∙ ap (λ l. starts_before rows r n ++ l) (starts_at rows r n)

pub names_below : (rows : ℕ → List Row) (r : Row) (n : ℕ) → named_times r (changes rows 0 n) ≡ take (ends_before rows r n) (starts_before rows r n)
unfolding changes
names_below rows r zero = refl
names_below rows r (suc n) =
    ap (named_times r) (changes_more rows n)
    ∙ flat_map-append (named_time r) (changes rows 0 n) (changes_at rows n)
    ∙ ap (λ l. l ++ named_times r (changes_at rows n)) (names_below rows r n)
    ∙ ap (λ l. take (ends_before rows r n) (starts_before rows r n) ++ l) (names_at rows r n)
    ∙ sym (named_step rows r n)

-- up to an instant a row has as many start lines more than end lines as it stands there
pub lines_balance : (rows : ℕ → List Row) (r : Row) (n : ℕ) → length (start_times r (changes rows 0 n)) ≡ length (named_times r (changes rows 0 n)) + how_often r (before rows n)
lines_balance rows r n =
    let a = counts rows r n in
    let b = ap length (starts_below rows r n) in
    let c = ap length (names_below rows r n) in
    let d = length-take-le (ends_before rows r n) (starts_before rows r n) (omega (arith, a)) in
    omega (arith, a, b, c, d)

pub how_many_starts : (rows : ℕ → List Row) (r : Row) (t : ℕ) → length (start_times r (changes_at rows t)) ≡ rise rows r t
how_many_starts rows r t = ap length (starts_at rows r t) ∙ length-replicate (rise rows r t) t

pub how_many_ends : (rows : ℕ → List Row) (r : Row) (t : ℕ) → length (named_times r (changes_at rows t)) ≡ fall rows r t
how_many_ends rows r t = ap length (names_at rows r t) ∙ length-take-le (fall rows r t) (open_before rows r t) (let a = open_length rows r t in omega (arith, a))
