-- What becomes of the rows of a key where the group of the least rank that is shown is hidden, and where that of the greatest
-- rank that is hidden is shown.
use Rattle.std.specs.Prelude.{◌≡◌, ℕ, zero, suc, ◌+◌, ◌-◌, ◌<◌, ◌≤◌, ◌==◌, nat_eq, nat_lt, nat_le, Bool, true, false, cond, Option, Some, None, Result, Ok, Err, OnOk, OnErr, slice_get, List, [], ◌∷◌, ◌++◌, length, refl}
use Rattle.std.specs.List.{All}
use Rattle.std.specs.Map.{lookup, keys_of}
use Rattle.std.specs.declared.cmp.Ordering.TheVariants.{Less, Equal, Greater}
use Rattle.std.specs.Ordering.{nat_cmp, is_gt, is_lt}
use Rattle.std.specs.BTreeMap.{is_at, insert_entry}
use Rattle.std.specs.BTreeMap.Range.{IsLeBy, IsLtBy}
use Rattle.std.proofs.Common.{sym, ◌∙◌, ap, subst, arith}
use Rattle.std.proofs.lemmas.List.{length-append}
use Rattle.std.proofs.lemmas.List.Elements.{All-head, All-tail}
use Rattle.std.proofs.lemmas.Bool.Decides.{nat_tests}
use Rattle.tw_rows.specs.Bag.{total}
use Rattle.tw_rows.specs.declared.cells.Datum.{Datum}
use Rattle.tw_rows.specs.declared.edge.HeldRow.{HeldRow}
use Rattle.tw_rows.proofs.Bags.{total-append, total-map}
use Rattle.edge_history.specs.Order.{failing}
use Rattle.edge_history.specs.Opens.{bare}
use Rattle.outer_top.specs.Ranks.{Group, rows_in, strays, AreRanked, AreBelow, AreFrom, AreApart, AreFew}
use Rattle.outer_top.proofs.Weighing.{cmp_less, inserted, absent_above, insert_front, rows_weigh}

not_above : (k q : ℕ) → is_gt (nat_cmp k q) ≡ false → k ≤ q
not_above k q h = go (nat_lt k q) refl (k == q) refl h
  where
    go : (a : Bool) → nat_lt k q ≡ a → (b : Bool) → (k == q) ≡ b → is_gt (cond a Less (cond b Equal Greater)) ≡ false → k ≤ q
    go true x b y h = grind (arith, nat_tests)
    go false x true y h = grind (arith, nat_tests)
    go false x false y h = absurd (cc)

abbrev group_or : Group → Option Group → Group
group_or d None = d
group_or d (Some x) = x

pub from_all : (k : ℕ) (es : List Group) → All (IsLtBy nat_cmp k) (keys_of es) → AreFrom (suc k) es
from_all k [] h = refl
from_all k (e ∷ es) h =
    let a = cmp_less k e.0 (All-head (IsLtBy nat_cmp k) e.0 (keys_of es) h) in
    let r = from_all k es (All-tail (IsLtBy nat_cmp k) e.0 (keys_of es) h) in
    let z : cond {A = ℕ} (nat_le (suc k) e.0) 0 1 ≡ 0 = grind (arith, nat_tests) in
    omega (arith, r, z)

pub from_least : (k : ℕ) (es : List Group) → All (IsLeBy nat_cmp k) (keys_of es) → AreFrom k es
from_least k [] h = refl
from_least k (e ∷ es) h =
    let a = not_above k e.0 (All-head (IsLeBy nat_cmp k) e.0 (keys_of es) h) in
    let r = from_least k es (All-tail (IsLeBy nat_cmp k) e.0 (keys_of es) h) in
    let z : cond {A = ℕ} (nat_le k e.0) 0 1 ≡ 0 = grind (arith, nat_tests) in
    omega (arith, r, z)

pub below_all : (k : ℕ) (es : List Group) → All (λ q. IsLtBy nat_cmp q k) (keys_of es) → AreBelow k es
below_all k [] h = refl
below_all k (e ∷ es) h =
    let a = cmp_less e.0 k (All-head (λ q. IsLtBy nat_cmp q k) e.0 (keys_of es) h) in
    let r = below_all k es (All-tail (λ q. IsLtBy nat_cmp q k) e.0 (keys_of es) h) in
    let z : cond {A = ℕ} (nat_lt e.0 k) 0 1 ≡ 0 = grind (arith, nat_tests) in
    omega (arith, r, z)

-- the first group is so
pub few_from : (es : List Group) (k : ℕ) (b : List HeldRow) (count most : ℕ) → slice_get es 0 ≡ Some (k, b) → All (IsLeBy nat_cmp k) (keys_of es) →
    count ≡ length (rows_in es) → count - length b < most → AreFew most es
few_from [] k b count most at least is low = absurd (cc (at))
few_from (e ∷ es) k b count most at least is low =
    let key = ap (λ (o : Option Group). group_or e o) at in
    let a = length-append e.1 (rows_in es) in
    let n = ap (λ (g : Group). length g.1) key in
    let f = ap (λ (g : Group). g.0) key in
    let m = from_least k es (All-tail (IsLeBy nat_cmp k) e.0 (keys_of es) least) in
    record { few = omega (arith, a, n, is, low); least = ap (λ q. failing (λ (g : Group). nat_le q g.0) es) f ∙ m }

pub first_within : (es : List Group) (k : ℕ) (b : List HeldRow) (count : ℕ) → slice_get es 0 ≡ Some (k, b) → count ≡ length (rows_in es) → length b ≤ count
first_within [] k b count at is = absurd (cc (at))
first_within (e ∷ es) k b count at is =
    let key = ap (λ (o : Option Group). group_or e o) at in
    let a = length-append e.1 (rows_in es) in
    let n = ap (λ (g : Group). length g.1) key in
    omega (arith, a, n, is)

pub few_none : (es : List Group) (most : ℕ) → 1 ≤ most → es ≡ [] → AreFew most es
few_none [] most low is = record { few = omega (arith, low); least = tt }
few_none (e ∷ es) most low is = absurd (cc (is))

pub none_if : (es : List Group) → (0 < length es → ◌≡◌ {A = Bool} false true) → es ≡ []
none_if [] h = refl
none_if (e ∷ es) h = let z = h (omega arith) in absurd (cc (z))

-- one more hidden group, below all that are shown
apart_more : (shown hidden : List Group) (k : ℕ) (b : List HeldRow) → lookup (is_at (nat_cmp k)) hidden ≡ None → AreApart shown hidden → AreFrom (suc k) shown →
    AreApart shown (insert_entry nat_cmp hidden k b)
apart_more [] hidden k b none h low = refl
apart_more (s ∷ shown) hidden k b none h low =
    let i = inserted (λ g. cond {A = ℕ} (nat_lt g.0 s.0) 0 1) hidden k b none in
    let x : failing (λ g. nat_lt g.0 s.0) hidden ≡ 0 = omega (arith, h) in
    let y : AreApart shown hidden = omega (arith, h) in
    let l : AreFrom (suc k) shown = omega (arith, low) in
    let r = apart_more shown hidden k b none y l in
    let z : cond {A = ℕ} (nat_lt k s.0) 0 1 ≡ 0 = grind (arith, nat_tests, low) in
    omega (arith, i, x, z, r)

-- THE LEAST GROUP THAT IS SHOWN IS HIDDEN
module _ (shown0 shown1 hidden0 hidden1 : List Group) (k : ℕ) (b : List HeldRow) (popped : shown0 ≡ (k, b) ∷ shown1)
    (above : All (IsLtBy nat_cmp k) (keys_of shown1)) (apart : AreApart shown0 hidden0) where
  parts : AreApart ((k, b) ∷ shown1) hidden0
  parts = sym (ap (λ (l : List Group). total (λ s. failing (λ (h : Group). nat_lt h.0 s.0) hidden0) l) popped) ∙ apart

  below : AreBelow k hidden0
  below = let p = parts in omega (arith, p)

  none : lookup (is_at (nat_cmp k)) hidden0 ≡ None
  none = absent_above hidden0 k below

  pub hidden_apart : {A B : Type 0} (r : Result A B) → OnOk r (hidden1 ≡ insert_entry nat_cmp hidden0 k b) → OnErr r (hidden1 ≡ hidden0) → AreApart shown1 hidden1
  hidden_apart (Ok x) put same =
      let p = parts in
      let q : AreApart shown1 hidden0 = omega (arith, p) in
      ap (λ l. total (λ (s : Group). failing (λ (h : Group). nat_lt h.0 s.0) l) shown1) put ∙ apart_more shown1 hidden0 k b none q (from_all k shown1 above)
  hidden_apart (Err x) put same =
      let p = parts in
      let q : AreApart shown1 hidden0 = omega (arith, p) in
      ap (λ l. total (λ (s : Group). failing (λ (h : Group). nat_lt h.0 s.0) l) shown1) same ∙ q

  pub hidden_weighs : hidden1 ≡ insert_entry nat_cmp hidden0 k b → (v : Group → ℕ) → total v shown1 + total v hidden1 ≡ total v shown0 + total v hidden0
  hidden_weighs put v =
      let a = ap (total v) put ∙ inserted v hidden0 k b none in
      let c = ap (total v) popped in
      omega (arith, a, c)

  pub hidden_count : (n : ℕ) → n ≡ length (rows_in shown0) → n - length b ≡ length (rows_in shown1)
  hidden_count n is =
      let a = ap (λ (l : List Group). length (rows_in l)) popped in
      let c = length-append b (rows_in shown1) in
      omega (arith, is, a, c)

  pub hidden_lost : (w : List Datum → ℕ) (old new : List (List Datum)) → total w new ≡ total w old + total w (bare b) →
      total w (bare (rows_in shown1)) + total w new ≡ total w (bare (rows_in shown0)) + total w old
  hidden_lost w old new h =
      let a = ap (λ (l : List Group). total w (bare (rows_in l))) popped in
      let x = total-map w (λ (r : HeldRow). r.cells) (b ++ rows_in shown1) in
      let y = total-append (λ (r : HeldRow). w r.cells) b (rows_in shown1) in
      let u = total-map w (λ (r : HeldRow). r.cells) b in
      let t = total-map w (λ (r : HeldRow). r.cells) (rows_in shown1) in
      omega (arith, h, a, x, y, u, t)

  pub hidden_rows : hidden1 ≡ insert_entry nat_cmp hidden0 k b → (w : HeldRow → ℕ) → total w (rows_in shown1) + total w (rows_in hidden1) ≡ total w (rows_in shown0) + total w (rows_in hidden0)
  hidden_rows put w =
      let h = hidden_weighs put (λ g. total w g.1) in
      let a = rows_weigh w shown0 in
      let c = rows_weigh w shown1 in
      let d = rows_weigh w hidden0 in
      let e = rows_weigh w hidden1 in
      omega (arith, h, a, c, d, e)

  pub hidden_ranked : hidden1 ≡ insert_entry nat_cmp hidden0 k b → (rank : List Datum → ℕ → Bool) → AreRanked rank shown0 → AreRanked rank hidden0 → AreRanked rank shown1 × AreRanked rank hidden1
  hidden_ranked put rank s h = let m = hidden_weighs put (strays rank) in (omega (arith, m, s, h), omega (arith, m, s, h))

-- THE GREATEST GROUP THAT IS HIDDEN IS SHOWN
module _ (shown0 shown1 hidden0 hidden1 : List Group) (k : ℕ) (b : List HeldRow) (popped : hidden0 ≡ hidden1 ++ (k, b) ∷ [])
    (all_below : All (λ q. IsLtBy nat_cmp q k) (keys_of hidden1)) (apart : AreApart shown0 hidden0) where
  split : (v : Group → ℕ) → total v hidden0 ≡ total v hidden1 + v (k, b)
  split v = let a = ap (total v) popped ∙ total-append v hidden1 ((k, b) ∷ []) in omega (arith, a)

  both : (shown : List Group) → AreApart shown hidden0 → AreApart shown hidden1 × AreFrom (suc k) shown
  both [] h = (refl, refl)
  both (s ∷ shown) h =
      let a = split (λ g. cond {A = ℕ} (nat_lt g.0 s.0) 0 1) in
      let r = both shown (omega (arith, h)) in
      let x = r.0 in
      let y = r.1 in
      let z : cond {A = ℕ} (nat_lt k s.0) 0 1 ≡ 0 = omega (arith, a, h) in
      let n : cond {A = ℕ} (nat_le (suc k) s.0) 0 1 ≡ 0 = grind (arith, nat_tests, z) in
      (omega (arith, a, h, x), omega (arith, n, y))

  pub rest_apart : AreApart shown0 hidden1
  rest_apart = (both shown0 apart).0

  pub kept_apart : shown1 ≡ shown0 → AreApart shown1 hidden1
  kept_apart same = ap (λ (l : List Group). total (λ s. failing (λ (h : Group). nat_lt h.0 s.0) hidden1) l) same ∙ rest_apart

  front : shown1 ≡ insert_entry nat_cmp shown0 k b → shown1 ≡ (k, b) ∷ shown0
  front put = put ∙ insert_front shown0 k b (both shown0 apart).1

  pub shown_apart : shown1 ≡ insert_entry nat_cmp shown0 k b → AreApart shown1 hidden1
  shown_apart put =
      let a = ap (λ (l : List Group). total (λ s. failing (λ (h : Group). nat_lt h.0 s.0) hidden1) l) (front put) in
      let c = below_all k hidden1 all_below in
      let d = rest_apart in
      omega (arith, a, c, d)

  pub shown_weighs : shown1 ≡ insert_entry nat_cmp shown0 k b → (v : Group → ℕ) → total v shown1 + total v hidden1 ≡ total v shown0 + total v hidden0
  shown_weighs put v =
      let a = ap (total v) (front put) in
      let c = split v in
      omega (arith, a, c)

  pub shown_rows : shown1 ≡ insert_entry nat_cmp shown0 k b → (w : HeldRow → ℕ) → total w (rows_in shown1) + total w (rows_in hidden1) ≡ total w (rows_in shown0) + total w (rows_in hidden0)
  shown_rows put w =
      let h = shown_weighs put (λ g. total w g.1) in
      let a = rows_weigh w shown0 in
      let c = rows_weigh w shown1 in
      let d = rows_weigh w hidden0 in
      let e = rows_weigh w hidden1 in
      omega (arith, h, a, c, d, e)

  pub shown_ranked : shown1 ≡ insert_entry nat_cmp shown0 k b → (rank : List Datum → ℕ → Bool) → AreRanked rank shown0 → AreRanked rank hidden0 → AreRanked rank shown1 × AreRanked rank hidden1
  shown_ranked put rank s h = let m = shown_weighs put (strays rank) in (omega (arith, m, s, h), omega (arith, m, s, h))

  pub shown_count : shown1 ≡ insert_entry nat_cmp shown0 k b → (n : ℕ) → n ≡ length (rows_in shown0) → n + length b ≡ length (rows_in shown1)
  shown_count put n is =
      let a = ap (λ (l : List Group). length (rows_in l)) (front put) in
      let c = length-append b (rows_in shown0) in
      omega (arith, is, a, c)

  pub shown_won : shown1 ≡ insert_entry nat_cmp shown0 k b → (w : List Datum → ℕ) (old new : List (List Datum)) → total w new ≡ total w old + total w (bare b) →
      total w (bare (rows_in shown1)) + total w old ≡ total w (bare (rows_in shown0)) + total w new
  shown_won put w old new h =
      let a = ap (λ (l : List Group). total w (bare (rows_in l))) (front put) in
      let x = total-map w (λ (r : HeldRow). r.cells) (b ++ rows_in shown0) in
      let y = total-append (λ (r : HeldRow). w r.cells) b (rows_in shown0) in
      let u = total-map w (λ (r : HeldRow). r.cells) b in
      let t = total-map w (λ (r : HeldRow). r.cells) (rows_in shown0) in
      omega (arith, h, a, x, y, u, t)

  weaker : (es : List Group) → AreFrom (suc k) es → AreFrom k es
  weaker [] h = refl
  weaker (e ∷ es) h =
      let r = weaker es (omega (arith, h)) in
      let z : cond {A = ℕ} (nat_le k e.0) 0 1 ≡ 0 = grind (arith, nat_tests, h) in
      omega (arith, r, z)

  pub shown_few : shown1 ≡ insert_entry nat_cmp shown0 k b → (n most : ℕ) → n ≡ length (rows_in shown0) → n < most → AreFew most shown1
  shown_few put n most is low =
      let c : AreFew most ((k, b) ∷ shown0) = record { few = omega (arith, is, low); least = weaker shown0 (both shown0 apart).1 } in
      subst (AreFew most) (sym (front put)) c

-- A ROW COMES
-- a rank up to that of some hidden group is below all that are shown
pub below_shown : (shown hidden : List Group) (i k : ℕ) (g : Group) → slice_get hidden i ≡ Some g → k ≤ g.0 → AreApart shown hidden → AreFrom (suc k) shown
below_shown [] hidden i k g at low h = refl
below_shown (s ∷ shown) hidden i k g at low h =
    let r = below_shown shown hidden i k g at low (omega (arith, h)) in
    let a = among hidden i (omega (arith, h)) at in
    let z : cond {A = ℕ} (nat_le (suc k) s.0) 0 1 ≡ 0 = grind (arith, nat_tests, a, low) in
    omega (arith, r, z)
  where
    among : (hs : List Group) (i : ℕ) → failing (λ (x : Group). nat_lt x.0 s.0) hs ≡ 0 → slice_get hs i ≡ Some g → g.0 < s.0
    among [] i h at = absurd (cc (at))
    among (x ∷ hs) zero h at =
        let same = ap (λ (o : Option Group). (group_or x o).0) at in
        let z : x.0 < s.0 = grind (arith, nat_tests, h) in
        omega (arith, same, z)
    among (x ∷ hs) (suc i) h at = among hs i (omega (arith, h)) at

-- where no key is above one that is below k, all are below k
pub all_upto : (k u : ℕ) (es : List Group) → u < k → All (λ q. is_lt (nat_cmp u q) ≡ false) (keys_of es) → AreBelow k es
all_upto k u [] low h = refl
all_upto k u (e ∷ es) low h =
    let r = all_upto k u es low (All-tail (λ q. is_lt (nat_cmp u q) ≡ false) e.0 (keys_of es) h) in
    let a = not_below u e.0 (All-head (λ q. is_lt (nat_cmp u q) ≡ false) e.0 (keys_of es) h) in
    let z : cond {A = ℕ} (nat_lt e.0 k) 0 1 ≡ 0 = grind (arith, nat_tests, a, low) in
    omega (arith, r, z)
  where
    not_below : (u q : ℕ) → is_lt (nat_cmp u q) ≡ false → q ≤ u
    not_below u q h = go (nat_lt u q) refl (u == q) h
      where
        go : (a : Bool) → nat_lt u q ≡ a → (b : Bool) → is_lt (cond a Less (cond b Equal Greater)) ≡ false → q ≤ u
        go true x b h = absurd (cc)
        go false x b h = grind (arith, nat_tests)

pub none_below : (k : ℕ) (es : List Group) → es ≡ [] → AreBelow k es
none_below k es is = ap (λ l. failing (λ (g : Group). nat_lt g.0 k) l) is

-- the keys of the hidden groups stay below those that are shown, and the other way round
pub hidden_put : (shown hidden hidden1 : List Group) (k : ℕ) → ((p : ℕ → Bool) → p k ≡ true → failing (λ (g : Group). p g.0) hidden ≡ 0 → failing (λ (g : Group). p g.0) hidden1 ≡ 0) →
    AreApart shown hidden → AreFrom (suc k) shown → AreApart shown hidden1
hidden_put [] hidden hidden1 k keys h low = refl
hidden_put (s ∷ shown) hidden hidden1 k keys h low =
    let r = hidden_put shown hidden hidden1 k keys (omega (arith, h)) (omega (arith, low)) in
    let z : nat_lt k s.0 ≡ true = grind (arith, nat_tests, low) in
    let a = keys (λ n. nat_lt n s.0) z (omega (arith, h)) in
    omega (arith, r, a)

pub hidden_put_or : {A B : Type 0} (shown hidden hidden1 : List Group) (k : ℕ) (r : Result A B) →
    OnOk r ((p : ℕ → Bool) → p k ≡ true → failing (λ (g : Group). p g.0) hidden ≡ 0 → failing (λ (g : Group). p g.0) hidden1 ≡ 0) → OnErr r (hidden1 ≡ hidden) →
    AreApart shown hidden → AreFrom (suc k) shown → AreApart shown hidden1
hidden_put_or shown hidden hidden1 k (Ok x) keys same h low = hidden_put shown hidden hidden1 k keys h low
hidden_put_or shown hidden hidden1 k (Err x) keys same h low = ap (λ l. total (λ (s : Group). failing (λ (g : Group). nat_lt g.0 s.0) l) shown) same ∙ h

is_zero : (n : ℕ) → n ≡ 0 → nat_eq n 0 ≡ true
is_zero n h = grind (arith, nat_tests)

-- the same of each group that is shown, as a test of its rank
all_clear : (hidden gs : List Group) → AreApart gs hidden → failing (λ (g : Group). nat_eq (failing (λ (x : Group). nat_lt x.0 g.0) hidden) 0) gs ≡ 0
all_clear hidden [] h = refl
all_clear hidden (g ∷ gs) h =
    let r = all_clear hidden gs (omega (arith, h)) in
    let z = ap (λ b. cond {A = ℕ} b 0 1) (is_zero (failing (λ (x : Group). nat_lt x.0 g.0) hidden) (omega (arith, h))) in
    omega (arith, r, z)

clear_apart : (hidden gs : List Group) → failing (λ (g : Group). nat_eq (failing (λ (x : Group). nat_lt x.0 g.0) hidden) 0) gs ≡ 0 → AreApart gs hidden
clear_apart hidden [] h = refl
clear_apart hidden (g ∷ gs) h =
    let r = clear_apart hidden gs (omega (arith, h)) in
    let z : failing (λ (x : Group). nat_lt x.0 g.0) hidden ≡ 0 = zero_of (failing (λ (x : Group). nat_lt x.0 g.0) hidden) (omega (arith, h)) in
    omega (arith, r, z)
  where
    zero_of : (n : ℕ) → cond {A = ℕ} (nat_eq n 0) 0 1 ≡ 0 → n ≡ 0
    zero_of n h = grind (arith, nat_tests)

pub shown_put : (shown shown1 hidden : List Group) (k : ℕ) → ((p : ℕ → Bool) → p k ≡ true → failing (λ (g : Group). p g.0) shown ≡ 0 → failing (λ (g : Group). p g.0) shown1 ≡ 0) →
    AreApart shown hidden → AreBelow k hidden → AreApart shown1 hidden
shown_put shown shown1 hidden k keys h low =
    clear_apart hidden shown1 (keys (λ n. nat_eq (failing (λ (x : Group). nat_lt x.0 n) hidden) 0) (is_zero (failing (λ (x : Group). nat_lt x.0 k) hidden) low) (all_clear hidden shown h))

pub shown_cut : (shown shown1 hidden : List Group) → ((p : ℕ → Bool) → failing (λ (g : Group). p g.0) shown ≡ 0 → failing (λ (g : Group). p g.0) shown1 ≡ 0) →
    AreApart shown hidden → AreApart shown1 hidden
shown_cut shown shown1 hidden keys h = clear_apart hidden shown1 (keys (λ n. nat_eq (failing (λ (x : Group). nat_lt x.0 n) hidden) 0) (all_clear hidden shown h))

pub hidden_cut : (shown hidden hidden1 : List Group) → ((p : ℕ → Bool) → failing (λ (g : Group). p g.0) hidden ≡ 0 → failing (λ (g : Group). p g.0) hidden1 ≡ 0) →
    AreApart shown hidden → AreApart shown hidden1
hidden_cut [] hidden hidden1 keys h = refl
hidden_cut (s ∷ shown) hidden hidden1 keys h =
    let r = hidden_cut shown hidden hidden1 keys (omega (arith, h)) in
    let a = keys (λ n. nat_lt n s.0) (omega (arith, h)) in
    omega (arith, r, a)

pub one_more : (es fs : List Group) (r : HeldRow) → ((w : HeldRow → ℕ) → total w (rows_in fs) ≡ total w (rows_in es) + w r) → length (rows_in fs) ≡ length (rows_in es) + 1
one_more es fs r h = let a = h (λ x. 1) in let b = ones (rows_in es) in let c = ones (rows_in fs) in omega (arith, a, b, c)
  where
    ones : (xs : List HeldRow) → total (λ x. 1) xs ≡ length xs
    ones [] = refl
    ones (x ∷ xs) = let o = ones xs in omega (arith, o)

pub bare_more : (es fs : List Group) (r : HeldRow) → ((w : HeldRow → ℕ) → total w (rows_in fs) ≡ total w (rows_in es) + w r) → (w : List Datum → ℕ) →
    total w (bare (rows_in fs)) ≡ total w (bare (rows_in es)) + w r.cells
bare_more es fs r h w =
    let a = h (λ x. w x.cells) in
    let b = total-map w (λ (x : HeldRow). x.cells) (rows_in es) in
    let c = total-map w (λ (x : HeldRow). x.cells) (rows_in fs) in
    omega (arith, a, b, c)
