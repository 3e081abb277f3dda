-- What is kept of the rows of a key, as rows come and go.
use Rattle.std.specs.Prelude.{◌≡◌, ℕ, zero, suc, ◌+◌, ◌^◌, ◌<◌, ◌≤◌, nat_lt, ℤ, pos, Bool, true, false, cond, ◌||◌, Option, Some, None, List, [], ◌∷◌, ◌++◌, map, length, get_or, take, refl}
use Rattle.std.specs.List.{list_any}
use Rattle.std.proofs.Common.{sym, ◌∙◌, ap, subst, arith, set}
use Rattle.std.proofs.lemmas.Bool.Decides.{nat_tests}
use Rattle.tw_rows.specs.Bag.{SameBag}
use Rattle.tw_rows.specs.declared.cells.Datum.{Datum}
use Rattle.tw_rows.specs.declared.cells.Datum.TheVariants.{Int}
use Rattle.tw_rows.proofs.Bags.{SameBag-map}
use Rattle.plan_laws.specs.Keeping.{plain_cells}
use Rattle.plan_model.specs.declared.agg.Agg.{Agg}
use Rattle.plan_model.specs.declared.agg.Agg.TheVariants.{Count, Sum, Least, Greatest}
use Rattle.plan_model.specs.Amounts.{most_rows, exact_sum, least_int, greatest_int, is_outside_i64}
use Rattle.plan_model.specs.RowOps.{int_in, agg_in, group_row_in, has_large_sum_in, is_undefined_group_in}
use Rattle.plan_model.proofs.Aggregates.{length_same}
use Rattle.agg_state.specs.Amounts.{told}
use Rattle.agg_state.specs.Standing.{count_stands, sum_stands, least_stands, greatest_stands}
use Rattle.agg_state.proofs.Bags.{counted_same, summed_same, bag_same}
use Rattle.snapshot_agg.specs.declared.state.State.{State}
use Rattle.snapshot_agg.specs.declared.state.State.TheVariants.{Counted, Summed, Lowest, Highest}
use Rattle.snapshot_agg.specs.States.{seen_int, seen, IsFor, StandsAs, IsStateOf, AreStatesOf, IsTotals, told_of, told_row}

pub length_map : {X Y : Type 0} (f : X → Y) (xs : List X) → length (map f xs) ≡ length xs
length_map f [] = refl
length_map f (x ∷ xs) = let h = length_map f xs in omega (arith, h)

-- ONE STATE
stands_same : (s : State) (a b : List ℤ) → SameBag a b → StandsAs s a → StandsAs s b
stands_same (Counted s) a b same h = counted_same _ a b same h
stands_same (Summed column s) a b same h = summed_same _ _ a b same h
stands_same (Lowest column s) a b same h = bag_same _ _ a b same h
stands_same (Highest column s) a b same h = bag_same _ _ a b same h

state_same : (s : State) (a : Agg) (xs ys : List (List Datum)) → SameBag xs ys → IsStateOf s a xs → IsStateOf s a ys
state_same s a xs ys same h = record { is_for = h.is_for; stands = stands_same s (seen a xs) (seen a ys) (SameBag-map (seen_int a) xs ys same) h.stands }

-- the int that a state takes in of a row
abbrev pub taken_int : State → List Datum → ℤ
taken_int (Counted s) row = pos 0
taken_int (Summed column s) row = int_in plain_cells column row
taken_int (Lowest column s) row = int_in plain_cells column row
taken_int (Highest column s) row = int_in plain_cells column row

taken_is : (s : State) (a : Agg) (row : List Datum) → IsFor s a → taken_int s row ≡ seen_int a row
taken_is (Counted s) Count row h = refl
taken_is (Counted s) (Sum c) row h = absurd h
taken_is (Counted s) (Least c) row h = absurd h
taken_is (Counted s) (Greatest c) row h = absurd h
taken_is (Summed column s) Count row h = absurd h
taken_is (Summed column s) (Sum c) row h = ap (λ n. int_in plain_cells n row) h
taken_is (Summed column s) (Least c) row h = absurd h
taken_is (Summed column s) (Greatest c) row h = absurd h
taken_is (Lowest column s) Count row h = absurd h
taken_is (Lowest column s) (Sum c) row h = absurd h
taken_is (Lowest column s) (Least c) row h = ap (λ n. int_in plain_cells n row) h
taken_is (Lowest column s) (Greatest c) row h = absurd h
taken_is (Highest column s) Count row h = absurd h
taken_is (Highest column s) (Sum c) row h = absurd h
taken_is (Highest column s) (Least c) row h = absurd h
taken_is (Highest column s) (Greatest c) row h = ap (λ n. int_in plain_cells n row) h

pub add_bag : (s : State) (a : Agg) (rows : List (List Datum)) → IsStateOf s a rows → length rows < 2 ^ 63 → (bag : List ℤ) × StandsAs s bag × (length bag < 2 ^ 63)
add_bag s a rows h low = (seen a rows, h.stands, let e = length_map (seen_int a) rows in omega (arith, e, low))

pub value_bag : (s : State) (a : Agg) (rows : List (List Datum)) → IsStateOf s a rows → 0 < length rows → (bag : List ℤ) × StandsAs s bag × (0 < length bag)
value_bag s a rows h low = (seen a rows, h.stands, let e = length_map (seen_int a) rows in omega (arith, e, low))

less_ints : (s : State) (a : Agg) (rows rest : List (List Datum)) (cells : List Datum) (v : ℤ) → IsFor s a → v ≡ taken_int s cells → SameBag rows (cells ∷ rest) →
    SameBag (seen a rows) (v ∷ seen a rest)
less_ints s a rows rest cells v h is same =
    subst (λ z. SameBag (seen a rows) (z ∷ seen a rest)) (sym (is ∙ taken_is s a cells h)) (SameBag-map (seen_int a) rows (cells ∷ rest) same)

pub remove_bag : (s : State) (a : Agg) (rows rest : List (List Datum)) (cells : List Datum) (v : ℤ) → v ≡ taken_int s cells → IsStateOf s a rows → SameBag rows (cells ∷ rest) →
    (bag : List ℤ) × (others : List ℤ) × StandsAs s bag × SameBag bag (v ∷ others)
remove_bag s a rows rest cells v is h same = (seen a rows, seen a rest, h.stands, less_ints s a rows rest cells v h.is_for is same)

pub state_added : (s s2 : State) (a : Agg) (rows : List (List Datum)) (cells : List Datum) (v : ℤ) → v ≡ taken_int s cells → (IsFor s a → IsFor s2 a) →
    ((bag : List ℤ) → StandsAs s bag → StandsAs s2 (v ∷ bag)) → IsStateOf s a rows → IsStateOf s2 a (cells ∷ rows)
state_added s s2 a rows cells v is still step h = record {
  is_for = still h.is_for;
  stands = subst (λ z. StandsAs s2 (z ∷ seen a rows)) (is ∙ taken_is s a cells h.is_for) (step (seen a rows) h.stands);
}

pub state_less : (s s2 : State) (a : Agg) (rows rest : List (List Datum)) (cells : List Datum) (v : ℤ) → v ≡ taken_int s cells → (IsFor s a → IsFor s2 a) →
    ((bag others : List ℤ) → StandsAs s bag → SameBag bag (v ∷ others) → StandsAs s2 others) → IsStateOf s a rows → SameBag rows (cells ∷ rest) → IsStateOf s2 a rest
state_less s s2 a rows rest cells v is still step h same = record {
  is_for = still h.is_for;
  stands = step (seen a rows) (seen a rest) h.stands (less_ints s a rows rest cells v h.is_for is same);
}

not_many : (n : ℕ) → n ≤ 2 ^ 62 → nat_lt most_rows n ≡ false
unfolding most_rows
not_many n h = grind (arith, nat_tests)

told_few : (made : List ℤ → ℤ) (large : List ℤ → Bool) (a : Agg) (rows : List (List Datum)) → length rows ≤ 2 ^ 62 →
    told made large (seen a rows) ≡ cond (large (seen a rows)) None (Some (made (seen a rows)))
told_few made large a rows low =
    ap (λ b. cond (b || large (seen a rows)) None (Some (made (seen a rows))))
    (ap (nat_lt most_rows) (length_map (seen_int a) rows) ∙ not_many (length rows) low)

-- what the aggregate of a state told of its bag
abbrev pub Tells : State → Option ℤ → Type 0
Tells (Counted s) r = (bag : List ℤ) → count_stands s bag → r ≡ told (λ bag. pos (length bag)) (λ bag. false) bag
Tells (Summed column s) r = (bag : List ℤ) → sum_stands s bag → r ≡ told exact_sum (λ bag. is_outside_i64 (exact_sum bag)) bag
Tells (Lowest column s) r = (bag : List ℤ) → least_stands s bag → r ≡ told least_int (λ bag. false) bag
Tells (Highest column s) r = (bag : List ℤ) → greatest_stands s bag → r ≡ told greatest_int (λ bag. false) bag

state_tells : (s : State) (a : Agg) (rows : List (List Datum)) (r : Option ℤ) → length rows ≤ 2 ^ 62 → Tells s r → IsFor s a → StandsAs s (seen a rows) → r ≡ told_of a rows
state_tells (Counted s) Count rows r low t h i = t (seen Count rows) i ∙ told_few (λ bag. pos (length bag)) (λ bag. false) Count rows low ∙ ap (λ n. Some (pos n)) (length_map (seen_int Count) rows)
state_tells (Counted s) (Sum c) rows r low t h i = absurd h
state_tells (Counted s) (Least c) rows r low t h i = absurd h
state_tells (Counted s) (Greatest c) rows r low t h i = absurd h
state_tells (Summed column s) Count rows r low t h i = absurd h
state_tells (Summed column s) (Sum c) rows r low t h i = t (seen (Sum c) rows) i ∙ told_few exact_sum (λ bag. is_outside_i64 (exact_sum bag)) (Sum c) rows low
state_tells (Summed column s) (Least c) rows r low t h i = absurd h
state_tells (Summed column s) (Greatest c) rows r low t h i = absurd h
state_tells (Lowest column s) Count rows r low t h i = absurd h
state_tells (Lowest column s) (Sum c) rows r low t h i = absurd h
state_tells (Lowest column s) (Least c) rows r low t h i = t (seen (Least c) rows) i ∙ told_few least_int (λ bag. false) (Least c) rows low
state_tells (Lowest column s) (Greatest c) rows r low t h i = absurd h
state_tells (Highest column s) Count rows r low t h i = absurd h
state_tells (Highest column s) (Sum c) rows r low t h i = absurd h
state_tells (Highest column s) (Least c) rows r low t h i = absurd h
state_tells (Highest column s) (Greatest c) rows r low t h i = t (seen (Greatest c) rows) i ∙ told_few greatest_int (λ bag. false) (Greatest c) rows low

pub tells : (s : State) (a : Agg) (rows : List (List Datum)) (r : Option ℤ) → length rows ≤ 2 ^ 62 → Tells s r → IsStateOf s a rows → r ≡ told_of a rows
tells s a rows r low t h = state_tells s a rows r low t h.is_for h.stands

-- MANY STATES
states_same : (ss : List State) (bs : List Agg) (xs ys : List (List Datum)) → SameBag xs ys → AreStatesOf ss bs xs → AreStatesOf ss bs ys
states_same [] [] xs ys same h = tt
states_same (s ∷ ss) (a ∷ bs) xs ys same h = (state_same s a xs ys same h.0, states_same ss bs xs ys same h.1)
states_same [] (a ∷ bs) xs ys same h = absurd h
states_same (s ∷ ss) [] xs ys same h = absurd h

pub totals_same : (n : ℕ) (ss : List State) (bs : List Agg) (xs ys : List (List Datum)) → SameBag xs ys → IsTotals n ss bs xs → IsTotals n ss bs ys
totals_same n ss bs xs ys same h = record { is_count = h.is_count ∙ length_same xs ys same; few = h.few; are_states = states_same ss bs xs ys same h.are_states }

pub states_push : (ss : List State) (bs : List Agg) (s : State) (a : Agg) (rows : List (List Datum)) → AreStatesOf ss bs rows → IsStateOf s a rows → AreStatesOf (ss ++ s ∷ []) (bs ++ a ∷ []) rows
states_push [] [] s a rows h i = (i, tt)
states_push (x ∷ ss) (b ∷ bs) s a rows h i = (h.0, states_push ss bs s a rows h.1 i)
states_push [] (b ∷ bs) s a rows h i = absurd h
states_push (x ∷ ss) [] s a rows h i = absurd h

-- the first i states are kept of the new rows already
abbrev pub AreMixed : ℕ → List State → List Agg → List (List Datum) → List (List Datum) → Type 0
AreMixed zero ss bs new old = AreStatesOf ss bs old
AreMixed (suc i) [] [] new old = Unit {0}
AreMixed (suc i) (s ∷ ss) (a ∷ bs) new old = IsStateOf s a new × AreMixed i ss bs new old
AreMixed (suc i) ss bs new old = ⊥

pub mixed_at : (i : ℕ) (ss : List State) (bs : List Agg) (new old : List (List Datum)) (s : State) → i < length ss → AreMixed i ss bs new old → s ≡ get_or ss i s → (a : Agg) × IsStateOf s a old
mixed_at zero [] bs new old s low h is = absurd (omega (arith, low))
mixed_at zero (x ∷ ss) [] new old s low h is = absurd h
mixed_at zero (x ∷ ss) (a ∷ bs) new old s low h is = (a, subst (λ y. IsStateOf y a old) (sym is) h.0)
mixed_at (suc i) [] bs new old s low h is = absurd (omega (arith, low))
mixed_at (suc i) (x ∷ ss) [] new old s low h is = absurd h
mixed_at (suc i) (x ∷ ss) (a ∷ bs) new old s low h is = mixed_at i ss bs new old s (omega (arith, low)) h.1 is

pub mixed_set : (i : ℕ) (ss : List State) (bs : List Agg) (new old : List (List Datum)) (s s2 : State) → i < length ss → s ≡ get_or ss i s → ((a : Agg) → IsStateOf s a old → IsStateOf s2 a new) →
    AreMixed i ss bs new old → AreMixed (suc i) (set ss i s2) bs new old
mixed_set zero [] bs new old s s2 low is step h = absurd (omega (arith, low))
mixed_set zero (x ∷ ss) [] new old s s2 low is step h = absurd h
mixed_set zero (x ∷ ss) (a ∷ bs) new old s s2 low is step h = (step a (subst (λ y. IsStateOf y a old) (sym is) h.0), h.1)
mixed_set (suc i) [] bs new old s s2 low is step h = absurd (omega (arith, low))
mixed_set (suc i) (x ∷ ss) [] new old s s2 low is step h = absurd h
mixed_set (suc i) (x ∷ ss) (a ∷ bs) new old s s2 low is step h = (h.0, mixed_set i ss bs new old s s2 (omega (arith, low)) is step h.1)

pub mixed_end : (i : ℕ) (ss : List State) (bs : List Agg) (new old : List (List Datum)) → length ss ≤ i → AreMixed i ss bs new old → AreStatesOf ss bs new
mixed_end zero [] [] new old low h = tt
mixed_end zero [] (a ∷ bs) new old low h = absurd h
mixed_end zero (x ∷ ss) bs new old low h = absurd (omega (arith, low))
mixed_end (suc i) [] [] new old low h = tt
mixed_end (suc i) [] (a ∷ bs) new old low h = absurd h
mixed_end (suc i) (x ∷ ss) [] new old low h = absurd h
mixed_end (suc i) (x ∷ ss) (a ∷ bs) new old low h = (h.0, mixed_end i ss bs new old (omega (arith, low)) h.1)

-- THE ROW OF A GROUP
-- the aggregate of a state, among the others
pub record At (ss : List State) (bs : List Agg) (i : ℕ) (s : State) (rows : List (List Datum)) : Type 0 where
  pub agg : Agg
  pub is : IsStateOf s agg rows
  pub more : take (suc i) bs ≡ take i bs ++ agg ∷ []
  pub there : (p : Agg → Bool) → p agg ≡ true → list_any p bs ≡ true

pub or_last : (a b : Bool) → b ≡ true → (a || b) ≡ true
or_last true b e = refl
or_last false b e = e

pub states_at : (i : ℕ) (ss : List State) (bs : List Agg) (s : State) (rows : List (List Datum)) → i < length ss → s ≡ get_or ss i s → AreStatesOf ss bs rows → At ss bs i s rows
states_at i [] bs s rows low is h = absurd (omega (arith, low))
states_at i (x ∷ ss) [] s rows low is h = absurd h
states_at zero (x ∷ ss) (a ∷ bs) s rows low is h = record {
  agg = a;
  is = subst (λ y. IsStateOf y a rows) (sym is) h.0;
  more = refl;
  there = λ p e. ap (λ b. b || list_any p bs) e;
}
states_at (suc i) (x ∷ ss) (a ∷ bs) s rows low is h =
    let r = states_at i ss bs s rows (omega (arith, low)) is h.1 in
    record { agg = r.agg; is = r.is; more = ap (λ l. a ∷ l) r.more; there = λ p e. or_last (p a) (list_any p bs) (r.there p e) }

pub states_all : (i : ℕ) (ss : List State) (bs : List Agg) (rows : List (List Datum)) → length ss ≤ i → AreStatesOf ss bs rows → take i bs ≡ bs
states_all zero [] [] rows low h = refl
states_all (suc i) [] [] rows low h = refl
states_all i [] (a ∷ bs) rows low h = absurd h
states_all i (x ∷ ss) [] rows low h = absurd h
states_all zero (x ∷ ss) (a ∷ bs) rows low h = absurd (omega (arith, low))
states_all (suc i) (x ∷ ss) (a ∷ bs) rows low h = ap (λ l. a ∷ l) (states_all i ss bs rows (omega (arith, low)) h.1)

-- the data of the aggregates
abbrev pub datum_of : List (List Datum) → Agg → Datum
datum_of rows a = Int (agg_in plain_cells a rows)

-- so far: the first aggregates are not too large, and their data are behind the key
pub record RowSoFar (k : List Datum) (bs : List Agg) (i : ℕ) (data0 : List Datum) (rows : List (List Datum)) : Type 0 where
  pub data_is : data0 ≡ k ++ map (datum_of rows) (take i bs)
  pub fine : list_any (has_large_sum_in plain_cells rows) (take i bs) ≡ false

map_more : {X Y : Type 0} (f : X → Y) (xs : List X) (x : X) → map f (xs ++ x ∷ []) ≡ map f xs ++ f x ∷ []
map_more f [] x = refl
map_more f (y ∷ xs) x = ap (λ l. f y ∷ l) (map_more f xs x)

any_more : {X : Type 0} (p : X → Bool) (xs : List X) (x : X) → p x ≡ false → list_any p xs ≡ false → list_any p (xs ++ x ∷ []) ≡ false
any_more p [] x e h = ap (λ b. b || false) e
any_more p (y ∷ xs) x e h = both (p y) (list_any p xs) h (any_more p xs x e)
  where
    both : (a b : Bool) → (a || b) ≡ false → (b ≡ false → list_any p (xs ++ x ∷ []) ≡ false) → (a || list_any p (xs ++ x ∷ [])) ≡ false
    both true b z r = absurd (cc)
    both false b z r = r z

append_assoc2 : {X : Type 0} (a b : List X) (x : X) → (a ++ b) ++ x ∷ [] ≡ a ++ (b ++ x ∷ [])
append_assoc2 [] b x = refl
append_assoc2 (y ∷ a) b x = ap (λ l. y ∷ l) (append_assoc2 a b x)

told_some : (a : Agg) (rows : List (List Datum)) (x : ℤ) → Some x ≡ told_of a rows → (has_large_sum_in plain_cells rows a ≡ false) × (x ≡ agg_in plain_cells a rows)
told_some a rows x h = pick (has_large_sum_in plain_cells rows a) refl h
  where
    pick : (b : Bool) → has_large_sum_in plain_cells rows a ≡ b → Some x ≡ cond b None (Some (agg_in plain_cells a rows)) → (has_large_sum_in plain_cells rows a ≡ false) × (x ≡ agg_in plain_cells a rows)
    pick true e z = absurd (cc)
    pick false e z = (e, (cc))

told_none : (a : Agg) (rows : List (List Datum)) → None ≡ told_of a rows → has_large_sum_in plain_cells rows a ≡ true
told_none a rows h = pick (has_large_sum_in plain_cells rows a) refl h
  where
    pick : (b : Bool) → has_large_sum_in plain_cells rows a ≡ b → None ≡ cond b None (Some (agg_in plain_cells a rows)) → has_large_sum_in plain_cells rows a ≡ true
    pick true e z = e
    pick false e z = absurd (cc)

-- the next aggregate is not too large either
pub fine_more : (bs : List Agg) (i : ℕ) (rows : List (List Datum)) (ss : List State) (s : State) (x : ℤ) → At ss bs i s rows →
    ((a : Agg) → IsStateOf s a rows → Some x ≡ told_of a rows) →
    list_any (has_large_sum_in plain_cells rows) (take i bs) ≡ false → list_any (has_large_sum_in plain_cells rows) (take (i + 1) bs) ≡ false
fine_more bs i rows ss s x at tells h =
    let e : take (i + 1) bs ≡ take i bs ++ at.agg ∷ [] = ap (λ n. take n bs) (let o : i + 1 ≡ suc i = omega arith in o) ∙ at.more in
    ap (list_any (has_large_sum_in plain_cells rows)) e ∙ any_more (has_large_sum_in plain_cells rows) (take i bs) at.agg (told_some at.agg rows x (tells at.agg at.is)).0 h

pub row_more : (k : List Datum) (bs : List Agg) (i : ℕ) (data0 data1 : List Datum) (rows : List (List Datum)) (ss : List State) (s : State) (x z : ℤ) → At ss bs i s rows →
    ((a : Agg) → IsStateOf s a rows → Some x ≡ told_of a rows) → z ≡ x → data1 ≡ data0 ++ Int z ∷ [] → RowSoFar k bs i data0 rows → RowSoFar k bs (i + 1) data1 rows
row_more k bs i data0 data1 rows ss s x z at tells same push h =
    let t = told_some at.agg rows x (tells at.agg at.is) in
    let e : take (i + 1) bs ≡ take i bs ++ at.agg ∷ [] = ap (λ n. take n bs) (let o : i + 1 ≡ suc i = omega arith in o) ∙ at.more in
    record {
      data_is = push ∙ ap (λ l. l ++ Int z ∷ []) h.data_is ∙ append_assoc2 k (map (datum_of rows) (take i bs)) (Int z)
          ∙ ap (λ y. k ++ (map (datum_of rows) (take i bs) ++ Int y ∷ [])) (same ∙ t.1)
          ∙ ap (λ l. k ++ l) (sym (map_more (datum_of rows) (take i bs) at.agg)) ∙ ap (λ l. k ++ map (datum_of rows) l) (sym e);
      fine = fine_more bs i rows ss s x at tells h.fine;
    }

pub undefined_at : (bs : List Agg) (i : ℕ) (rows : List (List Datum)) (ss : List State) (s : State) → At ss bs i s rows →
    ((a : Agg) → IsStateOf s a rows → None ≡ told_of a rows) → true ≡ is_undefined_group_in plain_cells bs rows
undefined_at bs i rows ss s at tells =
    sym (or_last (nat_lt most_rows (length rows)) (list_any (has_large_sum_in plain_cells rows) bs) (at.there (has_large_sum_in plain_cells rows) (told_none at.agg rows (tells at.agg at.is))))

pub row_undefined : (k : List Datum) (bs : List Agg) (i : ℕ) (rows : List (List Datum)) (ss : List State) (s : State) → At ss bs i s rows →
    ((a : Agg) → IsStateOf s a rows → None ≡ told_of a rows) → None ≡ told_row bs k rows
row_undefined k bs i rows ss s at tells = ap (λ b. cond b None (group_row_in plain_cells bs k rows)) (undefined_at bs i rows ss s at tells)

too_many : (n : ℕ) → 2 ^ 62 < n → nat_lt most_rows n ≡ true
unfolding most_rows
too_many n h = grind (arith, nat_tests)

pub undefined_many : (n : ℕ) (ss : List State) (bs : List Agg) (rows : List (List Datum)) → 2 ^ 62 < n → IsTotals n ss bs rows → true ≡ is_undefined_group_in plain_cells bs rows
undefined_many n ss bs rows low h =
    ap (λ b. b || list_any (has_large_sum_in plain_cells rows) bs) (sym (too_many (length rows) (let e = h.is_count in omega (arith, e, low))))

pub row_of_many : (n : ℕ) (ss : List State) (k : List Datum) (bs : List Agg) (rows : List (List Datum)) → 2 ^ 62 < n → IsTotals n ss bs rows → None ≡ told_row bs k rows
row_of_many n ss k bs rows low h = ap (λ b. cond b None (group_row_in plain_cells bs k rows)) (undefined_many n ss bs rows low h)

-- no aggregate is too large, and the rows are not too many
pub all_defined : (n i : ℕ) (ss : List State) (bs : List Agg) (rows : List (List Datum)) → n ≤ 2 ^ 62 → length ss ≤ i → IsTotals n ss bs rows →
    list_any (has_large_sum_in plain_cells rows) (take i bs) ≡ false → false ≡ is_undefined_group_in plain_cells bs rows
all_defined n i ss bs rows few low h fine =
    let all = states_all i ss bs rows low h.are_states in
    let few2 = not_many (length rows) (let e = h.is_count in omega (arith, e, few)) in
    sym (ap (λ b. b || list_any (has_large_sum_in plain_cells rows) bs) few2 ∙ (ap (list_any (has_large_sum_in plain_cells rows)) (sym all) ∙ fine))

pub row_whole : (n i : ℕ) (ss : List State) (k : List Datum) (bs : List Agg) (data0 : List Datum) (rows : List (List Datum)) → n ≤ 2 ^ 62 → 0 < length rows → length ss ≤ i →
    IsTotals n ss bs rows → RowSoFar k bs i data0 rows → Some data0 ≡ told_row bs k rows
row_whole n i ss k bs data0 rows few some low h r =
    let all = states_all i ss bs rows low h.are_states in
    told rows some (r.data_is ∙ ap (λ l. k ++ map (datum_of rows) l) all)
    ∙ ap (λ b. cond b None (group_row_in plain_cells bs k rows)) (all_defined n i ss bs rows few low h r.fine)
  where
    told : (rows : List (List Datum)) → 0 < length rows → data0 ≡ k ++ map (datum_of rows) bs → Some data0 ≡ group_row_in plain_cells bs k rows
    told [] s e = absurd (omega (arith, s))
    told (x ∷ rows) s e = ap Some e

pub few_rows : (n : ℕ) (ss : List State) (bs : List Agg) (rows : List (List Datum)) → n ≤ 2 ^ 62 → IsTotals n ss bs rows → length rows ≤ 2 ^ 62
few_rows n ss bs rows low h = let e = h.is_count in omega (arith, e, low)

pub some_rows : (n : ℕ) (ss : List State) (as2 bs : List Agg) (other rows : List (List Datum)) → IsTotals n ss as2 other → 0 < length other → IsTotals n ss bs rows → 0 < length rows
some_rows n ss as2 bs other rows h low k = let e = h.is_count in let f = k.is_count in omega (arith, e, f, low)
