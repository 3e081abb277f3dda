-- How many edges come below a time: of a queue in order, between two ranks, and of several lists.
use Rattle.std.specs.Prelude.{◌≡◌, ℕ, zero, suc, ◌+◌, ◌*◌, ◌<◌, ◌≤◌, ◌⊎◌, nat_lt, nat_le, Bool, true, false, cond, List, [], ◌∷◌, ◌++◌, filter, length, take, drop, get_or, refl}
use Rattle.std.specs.Prelude.{Vec, Option, Some, None, slice_get, unwrap_or, is_some, IfSome, IsNone}
use Rattle.std.specs.BTreeMap.Range.{entries_between}
use Rattle.std.specs.declared.ops.Bound.TheVariants.{Included, Excluded}
use Rattle.std.specs.Ordering.{nat_cmp}
use Rattle.std.proofs.Common.{sym, ◌∙◌, ap, subst, arith, inl, inr}
use Rattle.std.proofs.lemmas.Bool.{cases_lt}
use Rattle.std.proofs.lemmas.Bool.Decides.{nat_tests}
use Rattle.tw_rows.specs.Bag.{SameBag}
use Rattle.tw_rows.specs.declared.edge.Edge.{Edge}
use Rattle.tw_rows.proofs.Bags.{total-append}
use Rattle.tw_rows.proofs.Fronts.{total_more}
use Rattle.edge_history.specs.Order.{rank, failing, is_below, is_from, Rises}
use Rattle.edge_history.proofs.Sums.{failing-append, failing-kept}
use Rattle.ingress.specs.Ranks.{is_between, AreRanked, edges_at as edges_of_ranks}
use Rattle.edge_stream.specs.Listing.{EdgeListView}
use Rattle.edge_stream.specs.Reading.{first_sync}
use Rattle.edge_stream.specs.Lists.{edges_at}
use Rattle.ingress.specs.Slices.{count_below, all_below, edges_of}
use Rattle.ingress.proofs.Ranked.{rank_low, rank_high}
use Rattle.ingress.proofs.Merged.{between_held}
use Rattle.ingress.proofs.SliceEnds.{counts_rise}

pub none_below_zero : (es : List Edge) → count_below 0 es ≡ 0
none_below_zero [] = refl
none_below_zero (e ∷ es) = let rest = none_below_zero es in let a : cond {A = ℕ} (nat_lt e.sync 0) 1 0 ≡ 0 = grind (arith, nat_tests) in omega (arith, a, rest)

-- none come below
pub none_counted : (x : ℕ) (es : List Edge) → failing (is_from x) es ≡ 0 → count_below x es ≡ 0
none_counted x [] h = refl
none_counted x (e ∷ es) h =
    let t : cond {A = ℕ} (nat_lt e.sync x) 1 0 ≡ 0 = grind (arith, nat_tests) in
    let others : failing (is_from x) es ≡ 0 = grind (arith, nat_tests) in
    let rest = none_counted x es others in omega (arith, t, rest)

-- edges in order from the rank of a time on
pub none_before : (x r : ℕ) (es : List Edge) → 2 * x ≤ r → Rises r es → count_below x es ≡ 0
none_before x r [] le h = refl
none_before x r (e ∷ es) le h =
    let high = rank_high e in let first = h.0 in
    let t : cond {A = ℕ} (nat_lt e.sync x) 1 0 ≡ 0 = (let k : x ≤ e.sync = omega (arith, high, first, le) in grind (arith, nat_tests)) in
    let rest = none_before x (rank e) es (omega (arith, le, first)) h.1 in omega (arith, t, rest)

-- the first sync from f on of edges in order is s: no more of them come before it than before f, and one comes at it
pub record StartsAt (f s : ℕ) (es : List Edge) : Type 0 where
  pub from : f ≤ s
  pub none : (x : ℕ) → f ≤ x → x ≤ s → count_below x es ≡ count_below f es
  pub some : count_below s es < count_below (s + 1) es

counted_once : (x : ℕ) (e : Edge) → e.sync < x → cond {A = ℕ} (nat_lt e.sync x) 1 0 ≡ 1
counted_once x e less = let k : nat_lt e.sync x ≡ true = grind (arith, nat_tests) in ap (λ b. cond {A = ℕ} b 1 0) k

pub queue_first : (f r : ℕ) (es : List Edge) (s : ℕ) → Rises r es → Some s ≡ first_sync (filter (is_from f) es) → StartsAt f s es
queue_first f r [] s h is = absurd (cc)
queue_first f r (e ∷ es) s h is = go (λ k. queue_first f (rank e) es s h.1 k) (cases_lt e.sync f)
  where
    go : (Some s ≡ first_sync (filter (is_from f) es) → StartsAt f s es) → (e.sync < f) ⊎ (f ≤ e.sync) → StartsAt f s (e ∷ es)
    go next (inl early) =
        let t : nat_le f e.sync ≡ false = grind (arith, nat_tests) in
        let later = next (is ∙ ap (λ b. first_sync (cond b (e ∷ filter (is_from f) es) (filter (is_from f) es))) t) in
        let here = counted_once f e early in
        record {
          from = later.from;
          none = λ x low high. (let a = counted_once x e (omega (arith, early, low)) in let c = later.none x low high in omega (arith, a, here, c));
          some = (
              let a = counted_once s e (omega (arith, early, later.from)) in
              let b = counted_once (s + 1) e (omega (arith, early, later.from)) in
              let c = later.some in
              omega (arith, a, b, c));
        }
    go next (inr late) =
        let t : nat_le f e.sync ≡ true = grind (arith, nat_tests) in
        let first : Some s ≡ Some e.sync = is ∙ ap (λ b. first_sync (cond b (e ∷ filter (is_from f) es) (filter (is_from f) es))) t in
        let same : s ≡ e.sync = cc in
        let l = rank_low e in
        let all : Rises (2 * e.sync) (e ∷ es) = (l, h.1) in
        let here = none_before f (2 * e.sync) (e ∷ es) (omega (arith, late)) all in
        record {
          from = omega (arith, same, late);
          none = λ x low high. (let a = none_before x (2 * e.sync) (e ∷ es) (omega (arith, high, same)) all in omega (arith, a, here));
          some = (let a = none_before s (2 * e.sync) (e ∷ es) (omega (arith, same)) all in let b = counted_once (s + 1) e (omega (arith, same)) in omega (arith, a, b));
        }

-- and where there is none, no more come before any later time
pub queue_over : (f : ℕ) (es : List Edge) → None ≡ first_sync (filter (is_from f) es) → (x : ℕ) → f ≤ x → count_below x es ≡ count_below f es
queue_over f [] is x le = refl
queue_over f (e ∷ es) is x le = go (λ k. queue_over f es k x le) (cases_lt e.sync f)
  where
    go : (None ≡ first_sync (filter (is_from f) es) → count_below x es ≡ count_below f es) → (e.sync < f) ⊎ (f ≤ e.sync) → count_below x (e ∷ es) ≡ count_below f (e ∷ es)
    go next (inl early) =
        let t : nat_le f e.sync ≡ false = grind (arith, nat_tests) in
        let rest = next (is ∙ ap (λ b. first_sync (cond b (e ∷ filter (is_from f) es) (filter (is_from f) es))) t) in
        let a = counted_once x e (omega (arith, early, le)) in
        let b = counted_once f e early in
        omega (arith, a, b, rest)
    go next (inr late) =
        let t : nat_le f e.sync ≡ true = grind (arith, nat_tests) in
        absurd (let k : None ≡ Some e.sync = is ∙ ap (λ b. first_sync (cond b (e ∷ filter (is_from f) es) (filter (is_from f) es))) t in cc)

-- the edges of the ranks between those of two times
one_between : (a b : ℕ) (x : ℕ) (e : Edge) → a ≤ x → x ≤ b →
    cond {A = ℕ} (nat_lt e.sync x) 1 0 ≡ cond (nat_lt e.sync a) 1 0 + cond (is_between (2 * a) (2 * b) e) (cond (nat_lt e.sync x) 1 0) 0
one_between a b x e la lb = let l = rank_low e in let h = rank_high e in go (cases_lt e.sync a) (cases_lt e.sync x)
  where
    go : (e.sync < a) ⊎ (a ≤ e.sync) → (e.sync < x) ⊎ (x ≤ e.sync) →
        cond {A = ℕ} (nat_lt e.sync x) 1 0 ≡ cond (nat_lt e.sync a) 1 0 + cond (is_between (2 * a) (2 * b) e) (cond (nat_lt e.sync x) 1 0) 0
    go (inl p) q = let l = rank_low e in let h = rank_high e in grind (arith, nat_tests)
    go (inr p) (inl q) = let l = rank_low e in let h = rank_high e in grind (arith, nat_tests)
    go (inr p) (inr q) = grind (arith, nat_tests)

pub between_counts : (a b x : ℕ) (es : List Edge) → a ≤ x → x ≤ b → count_below x es ≡ count_below a es + count_below x (filter (is_between (2 * a) (2 * b)) es)
between_counts a b x [] la lb = refl
between_counts a b x (e ∷ es) la lb =
    let one = one_between a b x e la lb in let rest = between_counts a b x es la lb in
    go (is_between (2 * a) (2 * b) e) one rest
  where
    go : (t : Bool) → cond {A = ℕ} (nat_lt e.sync x) 1 0 ≡ cond (nat_lt e.sync a) 1 0 + cond t (cond (nat_lt e.sync x) 1 0) 0 →
        count_below x es ≡ count_below a es + count_below x (filter (is_between (2 * a) (2 * b)) es) →
        count_below x (e ∷ es) ≡ count_below a (e ∷ es) + count_below x (cond t (e ∷ filter (is_between (2 * a) (2 * b)) es) (filter (is_between (2 * a) (2 * b)) es))
    go true one rest = omega (arith, one, rest)
    go false one rest = omega (arith, one, rest)

between_below : (a b : ℕ) (es : List Edge) → count_below b (filter (is_between (2 * a) (2 * b)) es) ≡ length (filter (is_between (2 * a) (2 * b)) es)
between_below a b [] = refl
between_below a b (e ∷ es) = go (is_between (2 * a) (2 * b) e) refl (between_below a b es)
  where
    go : (t : Bool) → is_between (2 * a) (2 * b) e ≡ t → count_below b (filter (is_between (2 * a) (2 * b)) es) ≡ length (filter (is_between (2 * a) (2 * b)) es) →
        count_below b (cond t (e ∷ filter (is_between (2 * a) (2 * b)) es) (filter (is_between (2 * a) (2 * b)) es)) ≡
        length (cond t (e ∷ filter (is_between (2 * a) (2 * b)) es) (filter (is_between (2 * a) (2 * b)) es))
    go true k rest =
        let r : rank e < 2 * b = grind (arith, nat_tests) in
        let l = rank_low e in
        let n : cond {A = ℕ} (nat_lt e.sync b) 1 0 ≡ 1 = (let q : e.sync < b = omega (arith, l, r) in grind (arith, nat_tests)) in
        omega (arith, n, rest)
    go false k rest = rest

-- so many more come below b than below a
pub between_length : (a b : ℕ) (es : List Edge) → a ≤ b → count_below b es ≡ count_below a es + length (filter (is_between (2 * a) (2 * b)) es)
between_length a b es le = let c = between_counts a b b es le (omega arith) in let d = between_below a b es in omega (arith, c, d)

module _ {S : Type 0} where
  -- what a map by rank finds between the ranks of two times
  pub between_found : (a b r s : ℕ) (es : List (ℕ × Vec Edge S)) (edges : List Edge) → edges_of_ranks es ≡ edges → AreRanked 0 es → r ≡ 2 * a → s ≡ 2 * b →
      (found : List Edge) → found ≡ edges_of_ranks (entries_between nat_cmp (Included r) (Excluded s) es) → filter (is_between (2 * a) (2 * b)) edges ≡ found
  between_found a b r s es edges view h low high found is =
      ap (λ k. filter (is_between k (2 * b)) edges) (sym low) ∙ ap (λ k. filter (is_between r k) edges) (sym high) ∙ sym (between_held r s es edges view h found is)

-- the first of them, in order
module _ (a b : ℕ) (es : List Edge) (e : Edge) (rest : List Edge) (are : filter (is_between (2 * a) (2 * b)) es ≡ e ∷ rest) (rises : Rises (2 * a) (e ∷ rest)) where
  first_in : is_between (2 * a) (2 * b) e ≡ true
  first_in = let k = ap (failing (is_between (2 * a) (2 * b))) (sym are) ∙ failing-kept (is_between (2 * a) (2 * b)) es in grind (arith, nat_tests)

  pub first_within : (a ≤ e.sync) × (e.sync < b)
  first_within =
      let l = rank_low e in let h = rank_high e in
      let p : 2 * a ≤ rank e = (let k = first_in in grind (arith, nat_tests)) in
      let q : rank e < 2 * b = (let k = first_in in grind (arith, nat_tests)) in
      (omega (arith, h, p), omega (arith, l, q))

  counted : (x : ℕ) → a ≤ x → x ≤ b → count_below x es ≡ count_below a es + count_below x (e ∷ rest)
  counted x la lb = between_counts a b x es la lb ∙ ap (λ l. count_below a es + count_below x l) are

  pub first_none : count_below e.sync es ≡ count_below a es
  first_none =
      let w = first_within in
      let c = counted e.sync w.0 (let k = w.1 in omega (arith, k)) in
      let l = rank_low e in
      let n = none_before e.sync (rank e) (e ∷ rest) l ((omega arith), rises.1) in
      omega (arith, c, n)

  pub first_some : count_below e.sync es < count_below (e.sync + 1) es
  first_some =
      let w = first_within in
      let c = counted (e.sync + 1) (let k = w.0 in omega (arith, k)) (let k = w.1 in omega (arith, k)) in
      let n = first_none in
      let d : cond {A = ℕ} (nat_lt e.sync (e.sync + 1)) 1 0 ≡ 1 = grind (arith, nat_tests) in
      omega (arith, c, n, d)

pub first_item : (xs : List Edge) (e : Edge) → Some e ≡ slice_get xs 0 → xs ≡ e ∷ drop 1 xs
first_item [] e h = absurd (cc)
first_item (x ∷ xs) e h = ap (λ o. unwrap_or o e ∷ xs) (sym h)

pub no_first : (xs : List Edge) → None ≡ slice_get xs 0 → xs ≡ []
no_first [] h = refl
no_first (x ∷ xs) h = absurd (cc)

-- none of them
pub none_in : (a b : ℕ) (es : List Edge) → a ≤ b → filter (is_between (2 * a) (2 * b)) es ≡ [] → count_below b es ≡ count_below a es
none_in a b es le none = let c = between_length a b es le in let d = ap length none in omega (arith, c, d)

-- of a queue and others
module _ (queue others all : List Edge) (is : queue ++ others ≡ all) where
  both : (x : ℕ) → count_below x all ≡ count_below x queue + count_below x others
  both x = ap (count_below x) (sym is) ∙ total-append (λ e. cond (is_below x e) 1 0) queue others

  -- what is left of the room for the others
  module _ (a b : ℕ) (le : a ≤ b) (room : ℕ) where
    pub no_room : count_below a queue + room < count_below b queue → count_below a all + room < count_below b all
    no_room less = let p = both a in let q = both b in let r = counts_rise a b others le in omega (arith, p, q, r, less)

    module _ (rest : ℕ) (left : count_below b queue + rest ≡ count_below a queue + room) where
      pub room_none : count_below a others + rest < count_below b others → count_below a all + room < count_below b all
      room_none less = let p = both a in let q = both b in omega (arith, p, q, less, left)

      pub room_some : (k : ℕ) → count_below b others + k ≡ count_below a others + rest → count_below b all + k ≡ count_below a all + room
      room_some k same = let p = both a in let q = both b in omega (arith, p, q, same, left)

  -- the first sync from f on, of the queue where it is below o, the first of the others
  module _ (f o : ℕ) (from : f ≤ o) (none : count_below o others ≡ count_below f others) where
    pub queue_none : (s : ℕ) → f ≤ s → s ≤ o → count_below s queue ≡ count_below f queue → count_below s all ≡ count_below f all
    queue_none s low high same =
        let p = both f in let q = both s in let a = counts_rise f s others low in let b = counts_rise s o others high in omega (arith, p, q, a, b, none, same)

    pub queue_some : (s : ℕ) → count_below s queue < count_below (s + 1) queue → count_below s all < count_below (s + 1) all
    queue_some s more = let p = both s in let q = both (s + 1) in let a = counts_rise s (s + 1) others (omega arith) in omega (arith, p, q, a, more)

    pub others_some : count_below o others < count_below (o + 1) others → count_below o all < count_below (o + 1) all
    others_some more = let p = both o in let q = both (o + 1) in let a = counts_rise o (o + 1) queue (omega arith) in omega (arith, p, q, a, more)

-- of several lists
pub all_rise : (x z : ℕ) (lists : List (List Edge)) → x ≤ z → all_below x lists ≤ all_below z lists
all_rise x z [] le = omega arith
all_rise x z (l ∷ ls) le = let a = counts_rise x z l le in let b = all_rise x z ls le in omega (arith, a, b)

pub all_below_zero : (lists : List (List Edge)) → all_below 0 lists ≡ 0
all_below_zero [] = refl
all_below_zero (l ∷ ls) = let a = none_below_zero l in let b = all_below_zero ls in omega (arith, a, b)

-- the lists up to one, and those after it
pub all_parts : (x z : ℕ) (lists : List (List Edge)) (i : ℕ) (l : List Edge) → i < length lists → l ≡ get_or lists i l → x ≤ z →
    all_below x lists + (all_below z (take i lists) + count_below z l) ≤ all_below z lists + (all_below x (take i lists) + count_below x l)
all_parts x z [] i l low is le = absurd (omega (arith, low))
all_parts x z (k ∷ ks) zero l low is le =
    let a = ap (count_below x) is in let b = ap (count_below z) is in let c = all_rise x z ks le in omega (arith, a, b, c)
all_parts x z (k ∷ ks) (suc i) l low is le = let rest = all_parts x z ks i l (omega (arith, low)) is le in omega (arith, rest)

-- one list more, while no more comes than there is room for
pub all_more : (x z : ℕ) (lists : List (List Edge)) (i : ℕ) (l : List Edge) (room rest left : ℕ) → i < length lists → l ≡ get_or lists i l →
    all_below z (take i lists) + rest ≡ all_below x (take i lists) + room → count_below z l + left ≡ count_below x l + rest →
    all_below z (take (i + 1) lists) + left ≡ all_below x (take (i + 1) lists) + room
all_more x z lists i l room rest left low is so_far one =
    let a = total_more (λ l. count_below x l) lists i l low in let b = total_more (λ l. count_below z l) lists i l low in
    let c = ap (count_below x) is in let d = ap (count_below z) is in
    omega (arith, a, b, c, d, so_far, one)

-- and where more comes
pub all_past : (x z : ℕ) (lists : List (List Edge)) (i : ℕ) (l : List Edge) (room rest : ℕ) → i < length lists → l ≡ get_or lists i l → x ≤ z →
    all_below z (take i lists) + rest ≡ all_below x (take i lists) + room → count_below x l + rest < count_below z l →
    all_below x lists + room < all_below z lists
all_past x z lists i l room rest low is le so_far more = let a = all_parts x z lists i l low is le in omega (arith, a, so_far, more)

-- the first sync of the lists so far, and that of one more, which is no later
pub record FirstOf (from to : ℕ) (lists : List (List Edge)) (i first : ℕ) : Type 0 where
  pub low : from ≤ first
  pub high : first ≤ to
  pub none : all_below first (take i lists) ≡ all_below from (take i lists)
  pub some : first < to → all_below first (take i lists) < all_below (first + 1) (take i lists)

pub first_next : (from to : ℕ) (lists : List (List Edge)) (i first next : ℕ) (l : List Edge) → FirstOf from to lists i first → i < length lists → l ≡ get_or lists i l →
    (from ≤ next) × (next ≤ first) → count_below next l ≡ count_below from l → (next < first → count_below next l < count_below (next + 1) l) →
    FirstOf from to lists (i + 1) next
first_next from to lists i first next l f low is within none some =
    record {
      low = within.0;
      high = (let a = within.1 in let b = f.high in omega (arith, a, b));
      none = (
          let a = total_more (λ l. count_below next l) lists i l low in let b = total_more (λ l. count_below from l) lists i l low in
          let c = ap (count_below next) is in let d = ap (count_below from) is in
          let e = all_rise from next (take i lists) within.0 in let g = all_rise next first (take i lists) within.1 in
          let h = f.none in omega (arith, a, b, c, d, e, g, h, none));
      some = λ early. first_some_more (cases_lt next first) early;
    }
  where
    first_some_more : (next < first) ⊎ (first ≤ next) → next < to → all_below next (take (i + 1) lists) < all_below (next + 1) (take (i + 1) lists)
    first_some_more (inl less) early =
        let a = total_more (λ l. count_below next l) lists i l low in let b = total_more (λ l. count_below (next + 1) l) lists i l low in
        let c = ap (count_below next) is in let d = ap (count_below (next + 1)) is in
        let e = all_rise next (next + 1) (take i lists) (omega arith) in
        let g = some less in omega (arith, a, b, c, d, e, g)
    first_some_more (inr le) early =
        let same : next ≡ first = (let k = within.1 in omega (arith, le, k)) in
        let a = total_more (λ l. count_below next l) lists i l low in let b = total_more (λ l. count_below (next + 1) l) lists i l low in
        let c = ap (count_below next) is in let d = ap (count_below (next + 1)) is in
        let e = counts_rise next (next + 1) l (omega arith) in
        let g : all_below next (take i lists) < all_below (next + 1) (take i lists) =
        subst (λ n. all_below n (take i lists) < all_below (n + 1) (take i lists)) (sym same) (f.some (omega (arith, same, early))) in
        omega (arith, a, b, c, d, e, g)

pub if_some : (o : Option ℕ) (P Q : ℕ → Type 0) → ((k : ℕ) → P k → Q k) → IfSome o P → IfSome o Q
if_some None P Q f h = tt
if_some (Some k) P Q f h = f k h

-- what is left of the room
pub room_found : (o : Option ℕ) (a b : ℕ) → is_some o ≡ true → IfSome o (λ rest. a + rest ≡ b) → a ≤ b
room_found None a b some h = absurd (cc)
room_found (Some rest) a b some h = omega (arith, h)

pub room_missing : (o : Option ℕ) (P : Type 0) → is_some o ≡ false → (IsNone o → P) → P
room_missing None P none f = f refl
room_missing (Some rest) P none f = absurd (cc)

-- a test that did not pass
pub not_before : (t : Bool) (a b : ℕ) → (a < b → t ≡ true) → t ≡ false → b ≤ a
not_before t a b f failed = go (cases_lt a b)
  where
    go : (a < b) ⊎ (b ≤ a) → b ≤ a
    go (inl less) = absurd (let y = f less in cc)
    go (inr le) = le

-- the edges of lists that wait below p
filter_counts : (x p : ℕ) (es : List Edge) → x ≤ p → count_below x (filter (is_below p) es) ≡ count_below x es
filter_counts x p [] le = refl
filter_counts x p (e ∷ es) le = go (cases_lt e.sync p) (filter_counts x p es le)
  where
    go : (e.sync < p) ⊎ (p ≤ e.sync) → count_below x (filter (is_below p) es) ≡ count_below x es → count_below x (filter (is_below p) (e ∷ es)) ≡ count_below x (e ∷ es)
    go (inl q) rest = grind (arith, nat_tests)
    go (inr q) rest = let t : cond {A = ℕ} (nat_lt e.sync x) 1 0 ≡ 0 = grind (arith, nat_tests) in grind (arith, nat_tests)

one_list : (x p : ℕ) (xs es : List Edge) → x ≤ p → SameBag xs (filter (is_below p) es) → count_below x xs ≡ count_below x es
one_list x p xs es le same = same.weigh (λ e. cond (is_below x e) 1 0) ∙ filter_counts x p es le

pub lists_count : (x p : ℕ) (waiting : List (List Edge)) (lists : List EdgeListView) → x ≤ p → ((s : ℕ) → SameBag (edges_at lists s) (filter (is_below p) (get_or waiting s []))) →
    count_below x (edges_of lists) ≡ all_below x waiting
lists_count x p [] [] le same = refl
lists_count x p [] (l ∷ ls) le same =
    let a = one_list x p l.edges [] le (same 0) in
    let b = lists_count x p [] ls le (λ s. same (suc s)) in
    let c = total-append (λ e. cond (is_below x e) 1 0) l.edges (edges_of ls) in
    omega (arith, a, b, c)
lists_count x p (w ∷ ws) [] le same =
    let a = one_list x p [] w le (same 0) in
    let b = lists_count x p ws [] le (λ s. same (suc s)) in
    omega (arith, a, b)
lists_count x p (w ∷ ws) (l ∷ ls) le same =
    let a = one_list x p l.edges w le (same 0) in
    let b = lists_count x p ws ls le (λ s. same (suc s)) in
    let c = total-append (λ e. cond (is_below x e) 1 0) l.edges (edges_of ls) in
    omega (arith, a, b, c)

pub lists_below : (p : ℕ) (waiting : List (List Edge)) (lists : List EdgeListView) → ((s : ℕ) → SameBag (edges_at lists s) (filter (is_below p) (get_or waiting s []))) →
    failing (is_below p) (edges_of lists) ≡ 0
lists_below p waiting [] same = refl
lists_below p [] (l ∷ ls) same = failing-append (is_below p) l.edges (edges_of ls)
    ((same 0).weigh (λ e. cond (is_below p e) 0 1) ∙ failing-kept (is_below p) []) (lists_below p [] ls (λ s. same (suc s)))
lists_below p (w ∷ ws) (l ∷ ls) same = failing-append (is_below p) l.edges (edges_of ls)
    ((same 0).weigh (λ e. cond (is_below p e) 0 1) ∙ failing-kept (is_below p) w) (lists_below p ws ls (λ s. same (suc s)))

-- none of the lists has edges below a time
pub none_of_lists : (t : ℕ) (lists : List (List Edge)) → ((s : ℕ) → failing (is_from t) (get_or lists s []) ≡ 0) → all_below t lists ≡ 0
none_of_lists t [] h = refl
none_of_lists t (l ∷ ls) h = let a = none_counted t l (h 0) in let b = none_of_lists t ls (λ s. h (suc s)) in omega (arith, a, b)
