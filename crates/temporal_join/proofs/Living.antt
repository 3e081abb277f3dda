-- Rows with their ends that come and go.
use Rattle.std.specs.Prelude.{◌≡◌, Option, Some, None, IfSome, ℕ, ◌+◌, ◌<◌, ◌≤◌, nat_eq, nat_lt, nat_le, min, not, Bool, true, false, cond, List, [], ◌∷◌, ◌++◌, length, get_or, take, drop, refl}
use Rattle.std.specs.List.{swap_remove}
use Rattle.std.specs.Option.{option_to_list}
use Rattle.std.proofs.Common.{sym, ◌∙◌, ap, arith}
use Rattle.std.proofs.lemmas.Bool.{eqb-true, and_parts}
use Rattle.std.proofs.lemmas.Bool.Decides.{nat_tests}
use Rattle.std.proofs.lemmas.List.Sums.{sum_by-swap_remove}
use Rattle.tw_rows.specs.Bag.{total}
use Rattle.tw_rows.proofs.Bags.{total-append, total-is-sum_by}
use Rattle.tw_rows.proofs.Fronts.{total_more, total_part}
use Rattle.edge_history.specs.Order.{failing}
use Rattle.edge_history.proofs.Sums.{weaker, failing-parts}
use Rattle.tw_rows.specs.declared.edge.Edge.{Edge}
use Rattle.temporal_join.proofs.Rowing.{rest_at}
use Rattle.temporal_join.specs.declared.lives.Life.{Life}
use Rattle.temporal_join.specs.Lives.{is_marked, lasts, ends_from, ends_at, is_begun, AreLives}

-- a test that no item fails passes at each place
pub zero_test : (b : Bool) → cond {A = ℕ} b 0 1 ≡ 0 → b ≡ true
zero_test true h = refl
zero_test false h = absurd (omega (arith, h))

pub test_zero : (b : Bool) → b ≡ true → cond {A = ℕ} b 0 1 ≡ 0
test_zero true h = refl
test_zero false h = absurd (cc (h))

pub passes_at : {X : Type 0} (p : X → Bool) (xs : List X) (i : ℕ) (x : X) → i < length xs → x ≡ get_or xs i x → failing p xs ≡ 0 → p x ≡ true
passes_at {X} p xs i x low is none =
    let a = total_part (λ (y : X). cond (p y) 0 1) xs i x low in
    let b = ap (λ (y : X). cond {A = ℕ} (p y) 0 1) is in
    zero_test (p x) (omega (arith, a, b, none))

pub passes_more : {X : Type 0} (p : X → Bool) (xs : List X) (i : ℕ) (x : X) → i < length xs → x ≡ get_or xs i x → p x ≡ true → failing p (take i xs) ≡ 0 → failing p (take (i + 1) xs) ≡ 0
passes_more {X} p xs i x low is passes none =
    let a = total_more (λ (y : X). cond (p y) 0 1) xs i x low in
    let b = ap (λ (y : X). cond {A = ℕ} (p y) 0 1) is in
    let c = test_zero (p x) passes in
    omega (arith, a, b, c, none)

le_true : (m n : ℕ) → m ≤ n → nat_le m n ≡ true
le_true m n h = grind (arith, nat_tests)

le_from : (m n : ℕ) → nat_le m n ≡ true → m ≤ n
le_from m n h = grind (arith, nat_tests)

lt_true : (m n : ℕ) → m < n → nat_lt m n ≡ true
lt_true m n h = grind (arith, nat_tests)

pub earlier : (s t : ℕ) (lives : List Life) → s ≤ t → failing (ends_from t) lives ≡ 0 → failing (ends_from s) lives ≡ 0
earlier s t lives low = weaker (ends_from t) (ends_from s) lives (λ l h. le_true s l.edge.other (let k = le_from t l.edge.other h in omega (arith, k, low)))

-- THE LEAST END
pub least_below : (lives : List Life) (i : ℕ) (x : Life) (m m2 : ℕ) → i < length lives → x ≡ get_or lives i x → m2 ≡ min m x.edge.other → failing (ends_from m) (take i lives) ≡ 0 →
    failing (ends_from m2) (take (i + 1) lives) ≡ 0
least_below lives i x m m2 low is least h =
    passes_more (ends_from m2) lives i x low is (le_true m2 x.edge.other (omega (arith, least))) (earlier m2 m (take i lives) (omega (arith, least)) h)

pub least_above : (lives : List Life) (i : ℕ) (x : Life) (t m m2 : ℕ) → i < length lives → x ≡ get_or lives i x → m2 ≡ min m x.edge.other →
    (failing (ends_from t) (take i lives) ≡ 0 → t ≤ m) → failing (ends_from t) (take (i + 1) lives) ≡ 0 → t ≤ m2
least_above lives i x t m m2 low is least before h =
    let v : Life → ℕ = λ l. cond (ends_from t l) 0 1 in
    let a = total_more v lives i x low in
    let b = ap v is in
    let c = le_from t x.edge.other (zero_test (ends_from t x) (omega (arith, a, b, h))) in
    let d = before (omega (arith, a, h)) in
    omega (arith, c, d, least)

-- ONE MORE
pub lives_put : (columns : List ℕ) (lives lives2 : List Life) (x : Life) (next next2 : ℕ) → lives2 ≡ lives ++ x ∷ [] → next2 ≡ min next x.edge.other → is_marked columns x ≡ true → x.edge.sync < x.edge.other →
    AreLives columns lives next → AreLives columns lives2 next2
lives_put columns lives lives2 x next next2 put least marked lasting are =
    let one : (p : Life → Bool) → p x ≡ true → failing p lives ≡ 0 → failing p lives2 ≡ 0 = λ p h k.
    let a = ap (failing p) put ∙ total-append (λ (l : Life). cond {A = ℕ} (p l) 0 1) lives (x ∷ []) in
    let b = test_zero (p x) h in
    omega (arith, a, b, k) in
    record {
      marked = one (is_marked columns) marked are.marked;
      lasting = one lasts (lt_true x.edge.sync x.edge.other lasting) are.lasting;
      later = one (ends_from next2) (le_true next2 x.edge.other (omega (arith, least))) (earlier next2 next lives (omega (arith, least)) are.later);
    }

-- fewer
pub lives_fewer : (columns : List ℕ) (lives lives2 : List Life) (x : Life) (next next2 : ℕ) → ((v : Life → ℕ) → total v lives ≡ total v lives2 + v x) → failing (ends_from next2) lives2 ≡ 0 →
    AreLives columns lives next → AreLives columns lives2 next2
lives_fewer columns lives lives2 x next next2 out later are =
    let one : (p : Life → Bool) → failing p lives ≡ 0 → failing p lives2 ≡ 0 = λ p k. (let a = out (λ l. cond (p l) 0 1) in omega (arith, a, k)) in
    record {
      marked = one (is_marked columns) are.marked;
      lasting = one lasts are.lasting;
      later = later;
    }

pub taken_weighs : (lives lives2 : List Life) (i : ℕ) (x : Life) → i < length lives → x ≡ get_or lives i x → lives2 ≡ swap_remove lives i x → (v : Life → ℕ) → total v lives ≡ total v lives2 + v x
taken_weighs lives lives2 i x low is taken v =
    let a = total-is-sum_by v lives in
    let b = ap (total v) taken ∙ total-is-sum_by v (swap_remove lives i x) in
    let c = sum_by-swap_remove v lives i x low in
    let d = ap v is in
    omega (arith, a, b, c, d)

-- none ends at a time before which none ends
pub none_early : (t next : ℕ) (lives : List Life) → t < next → failing (ends_from next) lives ≡ 0 → failing (λ l. not (ends_at t l)) lives ≡ 0
none_early t next lives low = weaker (ends_from next) (λ l. not (ends_at t l)) lives (λ l h. apart l.edge.other h)
  where
    apart : (e : ℕ) → nat_le next e ≡ true → not (nat_eq e t) ≡ true
    apart e h = grind (arith, nat_tests)

-- the last one taken out
pub popped : (o : Option Life) (lives lives1 lives2 : List Life) → lives ≡ lives1 → lives ≡ lives2 ++ option_to_list o → IfSome o (λ x. (v : Life → ℕ) → total v lives1 ≡ total v lives2 + v x)
popped None lives lives1 lives2 same is = tt
popped (Some x) lives lives1 lives2 same is = λ v.
    let a = ap (total v) (sym same) ∙ (ap (total v) is ∙ total-append v lives2 (x ∷ [])) in
    omega (arith, a)

pub front_are : (columns : List ℕ) (lives front back : List Life) (next : ℕ) → lives ≡ front ++ back → AreLives columns lives next → AreLives columns front next
front_are columns lives front back next is are =
    let one : (p : Life → Bool) → failing p lives ≡ 0 → failing p front ≡ 0 = λ p k. (failing-parts p front back (ap (failing p) (sym is) ∙ k)).0 in
    record { marked = one (is_marked columns) are.marked; lasting = one lasts are.lasting; later = one (ends_from next) are.later }

-- two times that are not the same
pub unequal : (b : Bool) → false ≡ b → not b ≡ true
unequal b h = ap not (sym h)

-- an edge that begins a row at a time
pub begun_parts : (t : ℕ) (e : Edge) → is_begun t e ≡ true → (e.sync ≡ t) × (e.sync < e.other)
begun_parts t e h = (at, before)
  where
    at : e.sync ≡ t
    at = eqb-true e.sync t (and_parts (nat_eq e.sync t) (nat_lt t e.other) h).0

    above : (m n : ℕ) → nat_lt m n ≡ true → m < n
    above m n h = grind (arith, nat_tests)

    before : e.sync < e.other
    before = let a = at in let b = above t e.other (and_parts (nat_eq e.sync t) (nat_lt t e.other) h).1 in omega (arith, a, b)

pub passes_any : {X : Type 0} (p : X → Bool) (xs : List X) (i : ℕ) (d : X) → i < length xs → failing p xs ≡ 0 → p (get_or xs i d) ≡ true
passes_any {X} p xs i d low none =
    let a = total_part (λ (y : X). cond (p y) 0 1) xs i d low in
    zero_test (p (get_or xs i d)) (omega (arith, a, none))

-- one of those that are left as they came
pub rest_passes : (p : Edge → Bool) (now first : List Edge) (i : ℕ) (x : Edge) → i < length first → drop i now ≡ drop i first → failing p first ≡ 0 → p (get_or now i x) ≡ true
rest_passes p now first i x low rest none =
    let at = rest_at now first i x rest in
    ap p at ∙ passes_any p first i x low none

pub ends_after : (t : ℕ) (e : Edge) → e.sync ≡ t → e.sync < e.other → cond {A = ℕ} (not (nat_eq e.other t)) 0 1 ≡ 0
ends_after t e at low = go t e.sync e.other at low
  where
    go : (t s o : ℕ) → s ≡ t → s < o → cond {A = ℕ} (not (nat_eq o t)) 0 1 ≡ 0
    go t s o at low = grind (arith, nat_tests)
