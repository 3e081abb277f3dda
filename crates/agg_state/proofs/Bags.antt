-- Bags of ints that change by one, and what is kept of them.
use Rattle.std.specs.Prelude.{◌≡◌, ℕ, zero, suc, ◌+◌, ◌*◌, ◌-◌, ◌^◌, ◌<◌, ◌≤◌, ℤ, pos, negsuc, ◌+ℤ◌, ◌-ℤ◌, ◌≤ℤ◌, int_lt, int_le, Bool, true, false, cond, not, ◌||◌, Option, Some, None, IsSome, unwrap_or, List, [], ◌∷◌, length, refl}
use Rattle.std.specs.List.{list_any}
use Rattle.std.specs.Ordering.{int_cmp, int_eq, is_gt, is_lt}
use Rattle.std.specs.BTreeMap.{BTreeMap, get, is_at, IsLowerBound, IsUpperBound, WritesThrough, btree_map_len}
use Rattle.std.specs.Map.{lookup}
use Rattle.std.specs.Int.Signed.{mag}
use Rattle.std.proofs.Common.{sym, ◌∙◌, ap, subst, arith}
use Rattle.std.proofs.lemmas.Int.{ints}
use Rattle.std.proofs.lemmas.Bool.Decides.{Decides-int_eq}
use Rattle.tw_rows.specs.Bag.{SameBag}
use Rattle.plan_model.specs.Amounts.{exact_sum, least_int, greatest_int, is_outside_i64}
use Rattle.plan_model.proofs.Aggregates.{length_same, sum_same, least_is, greatest_is}
use Rattle.agg_state.specs.Amounts.{wide, times, IsCounted, IsSummed, IsBag}

-- NUMBERS
pub one_less : (v : ℤ) (bag rest : List ℤ) → SameBag bag (v ∷ rest) → length bag ≡ suc (length rest)
one_less v bag rest h = length_same bag (v ∷ rest) h

pub count_more : (n : ℕ) (v : ℤ) (bag : List ℤ) → length bag < 2 ^ 63 → IsCounted n bag → IsCounted (n + 1) (v ∷ bag)
count_more n v bag low h = let a = h.is_count in record { is_count = omega (arith, a); few = omega (arith, a, low) }

pub count_less : (n : ℕ) (v : ℤ) (bag rest : List ℤ) → IsCounted n bag → SameBag bag (v ∷ rest) → IsCounted (n - 1) rest
count_less n v bag rest h same =
    let a = h.is_count in let b = h.few in let c = one_less v bag rest same in
    record { is_count = omega (arith, a, c); few = omega (arith, b) }

-- SUMS
pub inside : (v : ℤ) → mag v < 2 ^ 63 → is_outside_i64 v ≡ false
inside v h = grind (arith, ints)

abbrev IsWithin : ℤ → ℕ → Type 0
IsWithin s n = (pos 0 ≤ℤ (s +ℤ pos (n * 2 ^ 63))) × (s ≤ℤ pos (n * 2 ^ 63))

value_fits : (v : ℤ) → is_outside_i64 v ≡ false → (pos 0 ≤ℤ (v +ℤ pos (2 ^ 63))) × (v ≤ℤ pos (2 ^ 63))
value_fits v h = (grind (arith, ints), grind (arith, ints))

sum_step : (v s : ℤ) (n : ℕ) → pos 0 ≤ℤ (v +ℤ pos (2 ^ 63)) → v ≤ℤ pos (2 ^ 63) → IsWithin s n → IsWithin (v +ℤ s) (suc n)
sum_step v s n a b h = (let c = h.0 in omega (arith, ints, a, c), let c = h.1 in omega (arith, ints, b, c))

sum_fits : (bag : List ℤ) → wide bag ≡ 0 → IsWithin (exact_sum bag) (length bag)
sum_fits [] h = (omega (arith, ints), omega (arith, ints))
sum_fits (x ∷ xs) h = head (is_outside_i64 x) refl (sum_fits xs (let z = h in omega (arith, z)))
  where
    head : (b : Bool) → is_outside_i64 x ≡ b → IsWithin (exact_sum xs) (length xs) → IsWithin (exact_sum (x ∷ xs)) (length (x ∷ xs))
    head true e i = let z = ap (λ b. cond {A = ℕ} b 1 0) e in absurd (omega (arith, h, z))
    head false e i = let f = value_fits x e in sum_step x (exact_sum xs) (length xs) f.0 f.1 i

-- a sum of at most 2^63 ints is well within 128 bits
pub sum_small : (s : ℤ) (n : ℕ) (bag : List ℤ) → IsSummed s n bag → (negsuc (2 ^ 126) ≤ℤ s) × (s ≤ℤ pos (2 ^ 126))
sum_small s n bag h =
    let a = h.is_count in let b = h.few in
    subst (λ z. (negsuc (2 ^ 126) ≤ℤ z) × (z ≤ℤ pos (2 ^ 126))) (sym h.is_sum)
    (small (exact_sum bag) (length bag) (sum_fits bag h.narrow) (omega (arith, a, b)))
  where
    small : (z : ℤ) (n : ℕ) → IsWithin z n → n ≤ 2 ^ 63 → (negsuc (2 ^ 126) ≤ℤ z) × (z ≤ℤ pos (2 ^ 126))
    small z n h low = (let c = h.0 in omega (arith, ints, c), let c = h.1 in omega (arith, ints, c))

pub sum_more : (s r v : ℤ) (n : ℕ) (bag : List ℤ) → length bag < 2 ^ 63 → mag v < 2 ^ 63 → r ≡ s +ℤ v → IsSummed s n bag → IsSummed r (n + 1) (v ∷ bag)
sum_more s r v n bag low fits is h =
    let a = h.is_count in
    let b = h.is_sum in
    let c = h.narrow in
    let d = ap (λ b. cond {A = ℕ} b 1 0) (inside v fits) in
    record { is_sum = omega (arith, ints, is, b); is_count = omega (arith, a); few = omega (arith, a, low); narrow = omega (arith, c, d) }

pub sum_less : (s r v : ℤ) (n : ℕ) (bag rest : List ℤ) → r ≡ s -ℤ v → IsSummed s n bag → SameBag bag (v ∷ rest) → IsSummed r (n - 1) rest
sum_less s r v n bag rest is h same =
    let a = h.is_count in
    let b = h.few in
    let c = one_less v bag rest same in
    let d = h.is_sum ∙ sum_same bag (v ∷ rest) same in
    let e = h.narrow in
    let f = same.weigh (λ x. cond (is_outside_i64 x) 1 0) in
    record { is_sum = omega (arith, ints, is, d); is_count = omega (arith, a, c); few = omega (arith, b); narrow = omega (arith, e, f) }

-- HOW OFTEN INTS STAND IN A BAG
at_is : (a b : ℤ) → is_at (int_cmp a) b ≡ int_eq b a
at_is a b = grind (arith, ints)

itself : (v : ℤ) → int_eq v v ≡ true
itself v = (Decides-int_eq v v).1 refl

there_itself : (v : ℤ) (bag : List ℤ) → 1 ≤ times v (v ∷ bag)
there_itself v bag = let a = ap (λ b. cond {A = ℕ} b 1 0) (itself v) in omega (arith, a)

pub times_within : (v : ℤ) (bag : List ℤ) → times v bag ≤ length bag
times_within v [] = omega arith
times_within v (x ∷ xs) = let h = times_within v xs in let z = one (int_eq v x) in omega (arith, h, z)
  where
    one : (b : Bool) → cond {A = ℕ} b 1 0 ≤ 1
    one true = omega arith
    one false = omega arith

none_passes : (p : ℤ → Bool) (xs : List ℤ) → ((x : ℤ) → 1 ≤ times x xs → p x ≡ false) → list_any p xs ≡ false
none_passes p [] h = refl
none_passes p (x ∷ xs) h =
    let a = h x (there_itself x xs) in
    let b = none_passes p xs (λ y k. h y (omega (arith, k))) in
    grind (arith, a, b)

member_fails : (p : ℤ → Bool) (k : ℤ) (xs : List ℤ) → list_any p xs ≡ false → 1 ≤ times k xs → p k ≡ false
member_fails p k [] h there = absurd (omega (arith, there))
member_fails p k (x ∷ xs) h there = pick (int_eq k x) refl (λ r. member_fails p k xs (rest (p x) (list_any p xs) h) r)
  where
    rest : (a b : Bool) → (a || b) ≡ false → b ≡ false
    rest a b e = grind arith

    first : (a b : Bool) → (a || b) ≡ false → a ≡ false
    first a b e = grind arith

    pick : (b : Bool) → int_eq k x ≡ b → (1 ≤ times k xs → p k ≡ false) → p k ≡ false
    pick true e r = ap p ((Decides-int_eq k x).0 e) ∙ first (p x) (list_any p xs) h
    pick false e r = let z = ap (λ b. cond {A = ℕ} b 1 0) e in r (omega (arith, there, z))

-- THE INTS IN ORDER
some_of : (o : Option ℕ) → 1 ≤ unwrap_or o 0 → IsSome o
some_of None h = absurd (omega (arith, h))
some_of (Some n) h = refl

not_gone : (o : Option ℕ) (n : ℕ) → o ≡ Some n → (o ≡ Some 0 → ⊥) → 1 ≤ unwrap_or o 0
not_gone None n e h = absurd (cc)
not_gone (Some zero) n e h = absurd (h refl)
not_gone (Some (suc m)) n e h = omega arith

le_from_lt : (a b : ℤ) → int_lt a b ≡ false → int_le b a ≡ true
le_from_lt a b h = grind (arith, ints)

lt_from_cmp : (k x : ℤ) → is_gt (int_cmp k x) ≡ false → int_lt x k ≡ false
lt_from_cmp k x h = grind (arith, ints)

gt_from_cmp : (k x : ℤ) → is_lt (int_cmp k x) ≡ false → int_lt k x ≡ false
gt_from_cmp k x h = grind (arith, ints)

le_itself : (z : ℤ) → int_le z z ≡ true
le_itself z = grind (arith, ints)

both_ways : (x y : ℤ) → int_le x y ≡ true → int_le y x ≡ true → x ≡ y
both_ways x y h k = omega (arith, ints)

not_true : (b : Bool) → true ≡ not b → b ≡ false
not_true true h = absurd (cc)
not_true false h = refl

module _ (counts : BTreeMap ℤ ℕ) (len : ℕ) (bag : List ℤ) (k : ℤ) (n : ℕ) (h : IsBag counts len bag) (at : get int_cmp counts k ≡ Some n) where
  there : 1 ≤ times k bag
  there = let a = h.counted k in let b = not_gone (get int_cmp counts k) n at (h.there k) in omega (arith, a, b)

  found : (x : ℤ) → 1 ≤ times x bag → IsSome (get int_cmp counts x)
  found x more = some_of (get int_cmp counts x) (let a = h.counted x in omega (arith, a, more))

  pub first_is_least : IsLowerBound int_cmp counts k → k ≡ least_int bag
  first_is_least low = go bag (none_passes (λ v. int_lt v k) bag (λ x m. lt_from_cmp k x (low x (found x m)))) there
    where
      go : (xs : List ℤ) → list_any (λ v. int_lt v k) xs ≡ false → 1 ≤ times k xs → k ≡ least_int xs
      go [] none t = absurd (omega (arith, t))
      go (x ∷ xs) none t =
          let z = least_int (x ∷ xs) in
          let up : int_le k z ≡ true = least_is k x xs ∙ ap not none in
          let no : list_any (λ v. int_lt v z) (x ∷ xs) ≡ false = not_true _ (sym (le_itself z) ∙ least_is z x xs) in
          both_ways k z up (le_from_lt k z (member_fails (λ v. int_lt v z) k (x ∷ xs) no t))

  pub last_is_greatest : IsUpperBound int_cmp counts k → k ≡ greatest_int bag
  last_is_greatest low = go bag (none_passes (int_lt k) bag (λ x m. gt_from_cmp k x (low x (found x m)))) there
    where
      go : (xs : List ℤ) → list_any (int_lt k) xs ≡ false → 1 ≤ times k xs → k ≡ greatest_int xs
      go [] none t = absurd (omega (arith, t))
      go (x ∷ xs) none t =
          let z = greatest_int (x ∷ xs) in
          let down : int_le z k ≡ true = greatest_is k x xs ∙ ap not none in
          let no : list_any (int_lt z) (x ∷ xs) ≡ false = not_true _ (sym (le_itself z) ∙ greatest_is z x xs) in
          both_ways k z (le_from_lt z k (member_fails (int_lt z) k (x ∷ xs) no t)) down

some_there : (es : List (ℤ × ℕ)) (test : ℤ → Bool) → IsSome (lookup test es) → 0 < length es
some_there [] test h = absurd (cc)
some_there (e ∷ es) test h = omega arith

-- where ints are, entries are
pub none_there : (counts : BTreeMap ℤ ℕ) (len : ℕ) (bag : List ℤ) → IsBag counts len bag → 0 < length bag → 0 < btree_map_len counts
none_there counts len [] h low = absurd (omega (arith, low))
none_there counts len (x ∷ xs) h low =
    some_there counts.entries (is_at (int_cmp x)) (some_of (get int_cmp counts x) (let a = h.counted x in let b = there_itself x xs in omega (arith, a, b)))

-- ONE INT MORE OR LESS
module _ (old new : BTreeMap ℤ ℕ) (len m : ℕ) (v : ℤ) where
  abbrev Sets : Option ℕ → Type 0
  Sets o = (q : ℤ) → get int_cmp new q ≡ cond (is_at (int_cmp v) q) o (get int_cmp old q)

  -- what stands at an int now
  now_at : (o : Option ℕ) → Sets o → (q : ℤ) → get int_cmp new q ≡ cond (int_eq q v) o (get int_cmp old q)
  now_at o h q = h q ∙ ap (λ b. cond b o (get int_cmp old q)) (at_is v q)

  counted_by : (o : Option ℕ) (bag1 bag2 : List ℤ) → Sets o → IsBag old len bag1 →
      ((q : ℤ) → int_eq q v ≡ false → times q bag2 ≡ times q bag1) → unwrap_or o 0 ≡ times v bag2 →
      (q : ℤ) → unwrap_or (get int_cmp new q) 0 ≡ times q bag2
  counted_by o bag1 bag2 set h others own q = pick (int_eq q v) refl
    where
      pick : (b : Bool) → int_eq q v ≡ b → unwrap_or (get int_cmp new q) 0 ≡ times q bag2
      pick true e = ap (λ x. unwrap_or x 0) (now_at o set q ∙ ap (λ b. cond b o (get int_cmp old q)) e) ∙ own ∙ ap (λ z. times z bag2) (sym ((Decides-int_eq q v).0 e))
      pick false e = ap (λ x. unwrap_or x 0) (now_at o set q ∙ ap (λ b. cond b o (get int_cmp old q)) e) ∙ h.counted q ∙ sym (others q e)

  there_by : (o : Option ℕ) → Sets o → (o ≡ Some 0 → ⊥) → ((q : ℤ) → get int_cmp old q ≡ Some 0 → ⊥) → (q : ℤ) → get int_cmp new q ≡ Some 0 → ⊥
  there_by o set some before q = pick (int_eq q v) (now_at o set q)
    where
      pick : (b : Bool) → get int_cmp new q ≡ cond b o (get int_cmp old q) → get int_cmp new q ≡ Some 0 → ⊥
      pick true e z = some (sym e ∙ z)
      pick false e z = before q (sym e ∙ z)

  pub bag_more : (bag : List ℤ) (had : ℕ) → length bag < 2 ^ 63 → IsBag old len bag → had ≡ unwrap_or (get int_cmp old v) 0 → Sets (Some (had + 1)) → m ≡ len + 1 →
      IsBag new m (v ∷ bag)
  bag_more bag had low h is set one =
      let a = h.is_len in
      record {
        counted = counted_by (Some (had + 1)) bag (v ∷ bag) set h
            (λ q e. let z = ap (λ b. cond {A = ℕ} b 1 0) e in omega (arith, z))
            (let c = h.counted v in let z = ap (λ b. cond {A = ℕ} b 1 0) (itself v) in omega (arith, is, c, z));
        there = there_by (Some (had + 1)) set (λ e. absurd (let z = ap (λ o. unwrap_or o 1) e in omega (arith, z))) h.there;
        is_len = omega (arith, a, one);
        few = omega (arith, a, one, low);
      }

  module _ (bag rest : List ℤ) (h : IsBag old len bag) (same : SameBag bag (v ∷ rest)) where
    less_times : (q : ℤ) → times q bag ≡ cond (int_eq q v) 1 0 + times q rest
    less_times q = same.weigh (λ x. cond (int_eq q x) 1 0)

    less_len : m ≡ len - 1 → (m ≡ length rest) × (m ≤ 2 ^ 63)
    less_len one = let a = h.is_len in let b = h.few in let c = one_less v bag rest same in (omega (arith, a, c, one), omega (arith, b, one))

    pub bag_less : (o : Option ℕ) → unwrap_or (get int_cmp old v) 0 ≡ unwrap_or o 0 + 1 → (o ≡ Some 0 → ⊥) → Sets o → m ≡ len - 1 → IsBag new m rest
    bag_less o is some set one =
        let l = less_len one in
        record {
          counted = counted_by o bag rest set h
              (λ q e. let t = less_times q in let z = ap (λ b. cond {A = ℕ} b 1 0) e in omega (arith, t, z))
              (let t = less_times v in let c = h.counted v in let z = ap (λ b. cond {A = ℕ} b 1 0) (itself v) in omega (arith, is, c, t, z));
          there = there_by o set some h.there;
          is_len = l.0;
          few = l.1;
        }

    -- an int of the bag stands in it
    pub stands_there : 1 ≤ unwrap_or (get int_cmp old v) 0
    stands_there = let t = less_times v in let c = h.counted v in let z = ap (λ b. cond {A = ℕ} b 1 0) (itself v) in omega (arith, c, t, z)

-- a value written through what was lent, and one that was lent and left
pub written : (old new : BTreeMap ℤ ℕ) (v : ℤ) (n w : ℕ) → get int_cmp old v ≡ Some n → WritesThrough int_cmp (int_cmp v) old w new →
    (q : ℤ) → get int_cmp new q ≡ cond (is_at (int_cmp v) q) (Some w) (get int_cmp old q)
written old new v n w at h q = (h.3 (subst IsSome (sym at) refl)).0 q

pub left : (old new : BTreeMap ℤ ℕ) (v : ℤ) (n : ℕ) → get int_cmp old v ≡ Some n → WritesThrough int_cmp (int_cmp v) old n new →
    (q : ℤ) → get int_cmp new q ≡ get int_cmp old q
left old new v n at h q = written old new v n n at h q ∙ pick (is_at (int_cmp v) q) (at_is v q)
  where
    pick : (b : Bool) → b ≡ int_eq q v → cond b (Some n) (get int_cmp old q) ≡ get int_cmp old q
    pick true e = sym at ∙ ap (get int_cmp old) (sym ((Decides-int_eq q v).0 (sym e)))
    pick false e = refl

pub bag_small : (counts : BTreeMap ℤ ℕ) (len : ℕ) (bag other : List ℤ) → IsBag counts len bag → IsBag counts len other → length other < 2 ^ 63 → length bag < 2 ^ 63
bag_small counts len bag other h k low = let a = h.is_len in let b = k.is_len in omega (arith, a, b, low)

-- A BAG IN ANOTHER ORDER
pub counted_same : (n : ℕ) (a b : List ℤ) → SameBag a b → IsCounted n a → IsCounted n b
counted_same n a b same h = let e = length_same a b same in let c = h.is_count in record { is_count = omega (arith, c, e); few = h.few }

pub summed_same : (s : ℤ) (n : ℕ) (a b : List ℤ) → SameBag a b → IsSummed s n a → IsSummed s n b
summed_same s n a b same h =
    let e = length_same a b same in let c = h.is_count in
    record {
      is_sum = h.is_sum ∙ sum_same a b same;
      is_count = omega (arith, c, e);
      few = h.few;
      narrow = sym (same.weigh (λ x. cond (is_outside_i64 x) 1 0)) ∙ h.narrow;
    }

pub bag_same : (counts : BTreeMap ℤ ℕ) (n : ℕ) (a b : List ℤ) → SameBag a b → IsBag counts n a → IsBag counts n b
bag_same counts n a b same h =
    let e = length_same a b same in let c = h.is_len in
    record {
      counted = λ v. h.counted v ∙ same.weigh (λ x. cond (int_eq v x) 1 0);
      there = h.there;
      is_len = omega (arith, c, e);
      few = h.few;
    }
