-- The rows of a group of keys alone: no two have the same key.
use Rattle.std.specs.Prelude.{◌≡◌, ℕ, zero, suc, ◌+◌, ◌<◌, ◌≤◌, nat_eq, Bool, true, false, cond, ◌||◌, IsTrue, Option, Some, option_to_list, List, [], ◌∷◌, length, map, filter, slice_get, slice_index_or, refl}
use Rattle.std.specs.List.{list_any}
use Rattle.std.proofs.Common.{sym, ◌∙◌, ap, arith}
use Rattle.std.proofs.lemmas.Bool.{eqb-true, or_parts}
use Rattle.std.proofs.lemmas.List.{append-nil, length-map}
use Rattle.tw_rows.specs.Instant.{inf}
use Rattle.tw_rows.specs.Bag.{total, SameBag}
use Rattle.tw_rows.specs.Event.{Event, alive}
use Rattle.tw_rows.proofs.Bags.{SameBag-refl, total-map, total-filter, total-flat_map}
use Rattle.key_nodes.specs.Runs.{Tells}
use Rattle.key_nodes.specs.Groups.{distinct, has_key}
use Rattle.key_nodes.proofs.Bags.{total_le}
use Rattle.key_nodes.proofs.Grouping.{alive_grouped}
use Rattle.plan_model.specs.declared.node.Node.{Node}
use Rattle.plan_model.specs.declared.node.Node.TheVariants.{Group, Anti}
use Rattle.plan_model.specs.IsPlan.{PlanParts, IsPlan, IsOfKeysAlone}
use Rattle.plan_model.specs.Keys.{value_ops}
use Rattle.plan_model.specs.Meaning.{Sources, events, node_events}
use Rattle.plan_model.specs.Nodes.{node_in}
use Rattle.plan_model.specs.RowOps.{RowOps, key_in, group_row_in, rows_of_key_in, row_of_group_in}
use Rattle.plan_model.proofs.Aggregates.{length_is, row_of_group_is}
use Rattle.plan_model.proofs.InOrder.{rows_equal_tells}
use Rattle.plan_model.proofs.Kept.{IsPlan-ordered}
use Rattle.plan_model.proofs.Plans.{over_nodes-is}
use Rattle.plan_laws.specs.OneAKey.{HasOneAKey}

pub count_is : {X : Type 0} (p : X → Bool) (xs : List X) → length (filter p xs) ≡ total (λ x. cond (p x) 1 0) xs
count_is p xs = length_is (filter p xs) ∙ total-filter (λ x. 1) p xs

-- lists that are as long and alike at each place are equal
pub alike_lists : {X : Type 0} (d : X) (xs ys : List X) → length xs ≡ length ys →
    ((i : ℕ) → i < length xs → slice_index_or xs i d ≡ slice_index_or ys i d) → xs ≡ ys
alike_lists d [] [] e h = refl
alike_lists d [] (y ∷ ys) e h = absurd (omega (arith, e))
alike_lists d (x ∷ xs) [] e h = absurd (omega (arith, e))
alike_lists d (x ∷ xs) (y ∷ ys) e h =
    ap (λ z. z ∷ xs) (h 0 (omega arith))
    ∙ ap (λ l. y ∷ l) (alike_lists d xs ys (omega (arith, e)) (λ i low. h (suc i) (omega (arith, low))))

tail_of : {X : Type 0} → List X → List X
tail_of [] = []
tail_of (x ∷ xs) = xs

-- what is equal over a list of columns is equal at each of them
at_column : {X : Type 0} (f g : ℕ → X) (c : ℕ) (columns : List ℕ) → map f columns ≡ map g columns →
    list_any (nat_eq c) columns ≡ true → f c ≡ g c
unfolding tail_of
at_column f g c [] h k = absurd (cc)
at_column f g c (d ∷ ds) h k = pick (nat_eq c d) refl (λ t. at_column f g c ds (ap tail_of h) t) k
  where
    head : f d ≡ g d
    head = ap (λ l. slice_index_or l 0 (f d)) h

    pick : (b : Bool) → nat_eq c d ≡ b → (list_any (nat_eq c) ds ≡ true → f c ≡ g c) →
        (b || list_any (nat_eq c) ds) ≡ true → f c ≡ g c
    pick true e rest t = (let same : c ≡ d = eqb-true c d e in rw same head)
    pick false e rest t = rest t

-- where the test is of one key alone, at most one of the distinct keys passes
module _ {R K : Type 0} (key : R → K) (same : K → K → Bool) (q : K → Bool)
    (one : (x y : R) → q (key x) ≡ true → q (key y) ≡ true → same (key x) (key y) ≡ true) where
  count : List R → ℕ
  count rows = total (λ k. cond (q k) 1 0) (distinct same (map key rows))

  none_else : (x : R) (ys : List R) → q (key x) ≡ true → list_any (same (key x)) (map key ys) ≡ false →
      total (λ k. cond (q k) 1 0) (distinct same (map key ys)) ≡ 0
  none_else x [] here none = refl
  none_else x (y ∷ ys) here none =
      let k = or_parts (same (key x) (key y)) (list_any (same (key x)) (map key ys)) none in
      pick (list_any (same (key y)) (map key ys)) (q (key y)) refl k.0 (none_else x ys here k.1)
    where
      pick : (a b : Bool) → q (key y) ≡ b → same (key x) (key y) ≡ false →
          total (λ k. cond (q k) 1 0) (distinct same (map key ys)) ≡ 0 →
          total (λ k. cond (q k) 1 0)
          (cond a (distinct same (map key ys)) (key y ∷ distinct same (map key ys))) ≡ 0
      pick true b e other rest = rest
      pick false true e other rest = (let z = one x y here e in absurd (cc))
      pick false false e other rest = rw e (let z : 0 + total (λ k. cond (q k) 1 0) (distinct same (map key ys)) ≡ 0 = omega (arith, rest) in z)

  pub one_passes : (rows : List R) → total (λ k. cond (q k) 1 0) (distinct same (map key rows)) ≤ 1
  one_passes [] = omega arith
  one_passes (x ∷ xs) =
      pick (list_any (same (key x)) (map key xs)) refl (q (key x)) refl (one_passes xs)
    where
      pick : (a : Bool) → list_any (same (key x)) (map key xs) ≡ a → (b : Bool) → q (key x) ≡ b →
          total (λ k. cond (q k) 1 0) (distinct same (map key xs)) ≤ 1 →
          total (λ k. cond (q k) 1 0) (cond a (distinct same (map key xs)) (key x ∷ distinct same (map key xs))) ≤ 1
      pick true d b e rest = rest
      pick false d true e rest = (let z = none_else x xs e d in rw e (omega (arith, z)))
      pick false d false e rest = rw e (omega (arith, rest))

module _ {X : Type 0} (ops : RowOps X) (tells : Tells ops.same) (key right_key : List ℕ)
    (all : (column : ℕ) → column < length key → IsTrue (list_any (nat_eq column) right_key)) where
  same_keys : (x y : List X) → key_in ops right_key (key_in ops key x) ≡ key_in ops right_key (key_in ops key y) →
      key_in ops key x ≡ key_in ops key y
  same_keys x y h =
      let lx = length-map key (λ column. slice_index_or x column ops.zero) in
      let ly = length-map key (λ column. slice_index_or y column ops.zero) in
      alike_lists ops.zero (key_in ops key x) (key_in ops key y) (lx ∙ sym ly)
      (λ i low. at_column (λ c. slice_index_or (key_in ops key x) c ops.zero)
      (λ c. slice_index_or (key_in ops key y) c ops.zero) i right_key h (all i (omega (arith, low, lx))))

  weigh_row : (values k : List X) (rows : List (List X)) →
      total (λ r. cond (has_key (key_in ops right_key) ops.same values r) 1 0) (option_to_list (group_row_in ops [] k rows))
      ≤ cond (ops.same values (key_in ops right_key k)) 1 0
  weigh_row values k [] = omega arith
  weigh_row values k (row ∷ rows) = rw (append-nil k) (omega arith)

  pub one_a_key : (of : ℕ) (a b : List (Event (List X))) (t : ℕ) → t < inf →
      HasOneAKey ops right_key (alive (node_in ops (Group of key []) a b) t)
  one_a_key of a b t low values =
      let w : List X → ℕ = λ r. cond (has_key (key_in ops right_key) ops.same values r) 1 0 in
      let q : List X → Bool = λ k. ops.same values (key_in ops right_key k) in
      let rows = alive a t in
      let tell = row_of_group_in ops key [] in
      let ks = distinct ops.same (map (key_in ops key) rows) in
      let c = count_is (has_key (key_in ops right_key) ops.same values) (alive (node_in ops (Group of key []) a b) t) in
      let bag = (alive_grouped (key_in ops key) ops.same ops.same tell tells tells (row_of_group_is ops key []) a rows t low
      (SameBag-refl rows)).weigh w in
      let f = total-flat_map w (λ k. option_to_list (tell k rows)) ks in
      let le = total_le (λ k. total w (option_to_list (tell k rows))) (λ k. cond (q k) 1 0) ks
      (λ k. weigh_row values k (rows_of_key_in ops key k rows)) in
      let one = one_passes (key_in ops key) ops.same q (λ x y h k.
      (tells (key_in ops key x) (key_in ops key y)).1 (same_keys x y
      (sym ((tells values (key_in ops right_key (key_in ops key x))).0 h)
      ∙ (tells values (key_in ops right_key (key_in ops key y))).0 k))) rows in
      omega (arith, c, bag, f, le, one)

pub anti_one_a_key : (plan : PlanParts) → IsPlan plan → (source : Sources) (i left right t : ℕ)
    (left_key right_key : List ℕ) → slice_get plan.nodes i ≡ Some (Anti left right left_key right_key) → t < inf →
    HasOneAKey value_ops right_key (alive (events source plan.nodes right) t)
anti_one_a_key plan kept source i left right t left_key right_key there low =
    go (slice_get plan.nodes right) refl (kept.nodes_are.each i (Anti left right left_key right_key) there).partnered
  where
    go : (o : Option Node) → slice_get plan.nodes right ≡ o → IsOfKeysAlone right_key o →
        HasOneAKey value_ops right_key (alive (events source plan.nodes right) t)
    go (Some (Group of key [])) e h =
        rw (over_nodes-is [] source node_events plan.nodes (IsPlan-ordered plan kept) right (Group of key []) e)
        (one_a_key value_ops rows_equal_tells key right_key h of (events source plan.nodes of) [] t low)
    go o e h = absurd h

-- by what is read of rows, element by element
module _ {X Y : Type 0} (f : X → Y) (before : RowOps X) (after : RowOps Y) (zeros : f before.zero ≡ after.zero)
    (told_before : Tells before.same) (told_after : Tells after.same) where
  at_read : (row : List X) (c : ℕ) → f (slice_index_or row c before.zero) ≡ slice_index_or (map f row) c after.zero
  at_read [] c = zeros
  at_read (x ∷ row) zero = refl
  at_read (x ∷ row) (suc c) = at_read row c

  key_read : (key : List ℕ) (row : List X) → map f (key_in before key row) ≡ key_in after key (map f row)
  key_read [] row = refl
  key_read (c ∷ key) row =
      ap (λ x. x ∷ map f (key_in before key row)) (at_read row c)
      ∙ ap (λ l. slice_index_or (map f row) c after.zero ∷ l) (key_read key row)

  one_read : (key : List ℕ) (values row : List X) (b : Bool) → before.same values (key_in before key row) ≡ b →
      cond b 1 0 ≤ cond (after.same (map f values) (key_in after key (map f row))) 1 0
  one_read key values row true e =
      let is = ap (map f) ((told_before values (key_in before key row)).0 e) ∙ key_read key row in
      rw ((told_after (map f values) (key_in after key (map f row))).1 is) (omega arith)
  one_read key values row false e = omega arith

  -- where at most one of the read rows has a key, so has at most one of the rows
  pub one_a_key_read : (key : List ℕ) (rows : List (List X)) → HasOneAKey after key (map (map f) rows) →
      HasOneAKey before key rows
  one_a_key_read key rows h values =
      let a = count_is (has_key (key_in before key) before.same values) rows in
      let b = count_is (has_key (key_in after key) after.same (map f values)) (map (map f) rows) in
      let m = total-map (λ r. cond (has_key (key_in after key) after.same (map f values) r) 1 0) (map f) rows in
      let le = total_le (λ r. cond (before.same values (key_in before key r)) 1 0)
      (λ r. cond (after.same (map f values) (key_in after key (map f r))) 1 0) rows
      (λ r. one_read key values r (before.same values (key_in before key r)) refl) in
      let k = h (map f values) in
      omega (arith, a, b, m, le, k)

pub one_a_key_same : {X : Type 0} (ops : RowOps X) (key : List ℕ) (xs ys : List (List X)) → SameBag xs ys →
    HasOneAKey ops key xs → HasOneAKey ops key ys
one_a_key_same ops key xs ys bag h values =
    let a = count_is (has_key (key_in ops key) ops.same values) xs in
    let b = count_is (has_key (key_in ops key) ops.same values) ys in
    let e = bag.weigh (λ r. cond (has_key (key_in ops key) ops.same values r) 1 0) in
    let k = h values in
    omega (arith, a, b, e, k)
