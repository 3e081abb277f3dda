-- The right operand of a step and its key, and the nodes that join, anti-join and follow make of them.
use Rattle.std.specs.Prelude.{◌≡◌, ℕ, zero, suc, ◌+◌, ◌<◌, ◌≤◌, nat_eq, Bool, true, false, cond, Option, Some, None, ok_or, Result, Ok, List, [], ◌∷◌, ◌++◌, map, length, slice_get, slice_index_or, All, refl}
use Rattle.std.specs.List.{list_any, find}
use lib.Pointwise.{pointwise}
use Rattle.std.proofs.Common.{sym, ◌∙◌, ap, subst, arith, append_assoc, append-nil, inl, inr}
use Rattle.std.proofs.lemmas.Bool.{eq-eqb, or_left, or_right, cases_lt}
use Rattle.std.proofs.lemmas.List.{length-map, length_push, get_or_at}
use Rattle.std.proofs.lemmas.List.Elements.{All-nil, All-cons, All-head, All-tail}
use Rattle.tw_rows.specs.declared.kind.CellKind.{CellKind}
use Rattle.tw_rows.specs.declared.kind.CellKind.TheVariants.{Whole}
use Rattle.tw_rows.specs.declared.schema.ColumnDef.{ColumnDef}
use Rattle.tw_rows.specs.declared.schema.StreamDef.{StreamDef}
use Rattle.tw_rows.specs.Instant.{instants}
use Rattle.plan_model.specs.declared.fault.QueryFault.{QueryFault}
use Rattle.plan_model.specs.declared.fault.QueryFault.TheVariants as F
use Rattle.plan_model.specs.declared.node.Node.{Node}
use Rattle.plan_model.specs.declared.node.Node.TheVariants.{Group, Join, Anti}
use Rattle.plan_model.specs.IsPlan.{kinds_of_schema, kinds_at, key_kinds, AreKeys, IsAggOver, IsOfKeysAlone}
use Rattle.plan_model.proofs.Growing.{get_of_new, kinds_grow, kinds_of_new}
use Rattle.query_plan.specs.Names.{key_of}
use Rattle.query_plan.proofs.Fitting.{key_of-is, keys_alike-same, kinds-group_schema, kinds-join_schema, no_aggs}
use Rattle.query_plan.proofs.Typing.{option_map_some}
use Rattle.query_plan.specs.Draft.{Named, Planned, Draft, and_then, needs, node_named, schema_at}
use Rattle.query_plan.specs.Steps.{operand, PlannedSides, named_sides, are_alike, sides, join_node, key_group, anti_node}
use Rattle.query_plan.proofs.Fits.{same_Ok, goes_on, takes, passes, IsFit, IsDraft, calm}

-- the operand that a name gives is one of the nodes
found_where : {X : Type 0} (P : X → Type 0) (b : Bool) (y x : X) (o : Option X) → P y → (o ≡ Some x → P x) → cond b (Some y) o ≡ Some x → P x
found_where P true y x o here later h = subst P (let same : y ≡ x = cc in same) here
found_where P false y x o here later h = later h

found_holds : {X : Type 0} (P : X → Type 0) (test : X → Bool) (xs : List X) (x : X) → All P xs → find test xs ≡ Some x → P x
found_holds P test [] x all h = absurd (cc)
found_holds P test (y ∷ ys) x all h = found_where P (test y) y x (find test ys) (All-head P y ys all) (found_holds P test ys x (All-tail P y ys all)) h

named_low : (d : Draft) (name : List ℕ) (at : ℕ) → All (λ n. n.node < length d.nodes) d.names → node_named d.names name ≡ Some at → at < length d.nodes
named_low d name at all h =
    let there = option_map_some (λ (n : Named). n.node) (find (λ (n : Named). pointwise nat_eq n.name name) d.names) at h in
    subst (λ k. k < length d.nodes) there.2 (found_holds (λ n. n.node < length d.nodes) (λ n. pointwise nat_eq n.name name) d.names there.0 all there.1)

some_from : {A : Type 0} (o : Option A) (fault : QueryFault) (a : A) → ok_or o fault ≡ Ok a → o ≡ Some a
some_from None fault a h = absurd (cc)
some_from (Some x) fault a h = ap Some (same_Ok x a h)

pub operand_low : (streams : List StreamDef) (item : ℕ) (d : Draft) (name : List ℕ) (at : ℕ) → IsDraft streams d → operand item d name ≡ Ok at → at < length d.nodes
operand_low streams item d name at kept h = named_low d name at kept.named (some_from (node_named d.names name) (F.UnknownName item) at h)

-- what is known of the sides of a step with a right operand, before their kinds are
record AreNamed (d : Draft) (at : ℕ) (s : PlannedSides) : Type 0 where
  low : s.right < length d.nodes
  keys : are_alike d at s ≡ true → AreKeys (kinds_at d.schemas at) (kinds_at d.schemas s.right) s.left_key s.right_key

pub record AreSides (d : Draft) (at : ℕ) (s : PlannedSides) : Type 0 where
  pub low : s.right < length d.nodes
  pub keys : AreKeys (kinds_at d.schemas at) (kinds_at d.schemas s.right) s.left_key s.right_key

named_are : (streams : List StreamDef) (item : ℕ) (d : Draft) (at : ℕ) (name : List ℕ) (key : List (List ℕ)) (s : PlannedSides) → IsDraft streams d → named_sides item d at name key ≡ Ok s → AreNamed d at s
named_are streams item d at name key s kept h =
    let reached = goes_on (operand item d name) (λ right.
    and_then (ok_or (key_of (schema_at d at) key) (F.UnknownName item)) (λ left_key.
    and_then (ok_or (key_of (schema_at d right) key) (F.UnknownName item)) (λ right_key.
    Ok (record { right = right; left_key = left_key; right_key = right_key })))) s h in
    let right = reached.0 in
    let on_left = takes (key_of (schema_at d at) key) (F.UnknownName item) (λ left_key.
    and_then (ok_or (key_of (schema_at d right) key) (F.UnknownName item)) (λ right_key.
    Ok (record { right = right; left_key = left_key; right_key = right_key }))) s reached.2 in
    let on_right = takes (key_of (schema_at d right) key) (F.UnknownName item) (λ right_key.
    Ok (record { right = right; left_key = on_left.0; right_key = right_key })) s on_left.2 in
    subst (AreNamed d at) (same_Ok (record { right = right; left_key = on_left.0; right_key = on_right.0 }) s on_right.2)
    (record {
      low = operand_low streams item d name right kept reached.1;
      keys = λ alike. record {
        on_left = (key_of-is (schema_at d at) key on_left.0 on_left.1).0;
        on_right = (key_of-is (schema_at d right) key on_right.0 on_right.1).0;
        alike = keys_alike-same (schema_at d at) (schema_at d right) on_left.0 on_right.0 alike;
      };
    })

-- sides that are named and alike
pub named_sides_are : (streams : List StreamDef) (item : ℕ) (d : Draft) (at : ℕ) (name : List ℕ) (key : List (List ℕ)) (s : PlannedSides) → IsDraft streams d → named_sides item d at name key ≡ Ok s → are_alike d at s ≡ true → AreSides d at s
named_sides_are streams item d at name key s kept h alike =
    let are = named_are streams item d at name key s kept h in
    record { low = are.low; keys = are.keys alike }

pub sides_are : (streams : List StreamDef) (item : ℕ) (d : Draft) (at : ℕ) (name : List ℕ) (key : List (List ℕ)) (s : PlannedSides) → IsDraft streams d → sides item d at name key ≡ Ok s → AreSides d at s
sides_are streams item d at name key s kept h =
    let named = goes_on (named_sides item d at name key) (λ x. and_then (needs (are_alike d at x) (F.TypeClash item)) (λ u. Ok x)) s h in
    let alike = passes (are_alike d at named.0) (F.TypeClash item) (λ u. Ok named.0) s named.2 in
    subst (AreSides d at) (same_Ok named.0 s alike.1) (named_sides_are streams item d at name key named.0 kept named.1 alike.0)

-- the numbers from a on
pub any_instant : (a n column : ℕ) → a ≤ column → column < a + n → list_any (nat_eq column) (instants a n) ≡ true
any_instant a zero column low high = absurd (omega arith)
any_instant a (suc n) column low high = elim (cases_lt a column) [
  | inl more ↦ or_right (nat_eq column a) (list_any (nat_eq column) (instants (suc a) n)) (any_instant (suc a) n column (omega (arith, more)) (omega (arith, high)))
  | inr here ↦ or_left (nat_eq column a) (list_any (nat_eq column) (instants (suc a) n)) (eq-eqb column a (omega (arith, low, here)))
]

pub instants_below : (a n most : ℕ) → a + n ≤ most → All (λ c. c < most) (instants a n)
instants_below a zero most h = All-nil (λ c. c < most)
instants_below a (suc n) most h = All-cons (λ c. c < most) a (instants (suc a) n) (omega arith) (instants_below (suc a) n most (omega (arith, h)))

-- a key of all columns has the kinds of all
all_columns : (before kinds : List CellKind) (a : ℕ) → length before ≡ a → key_kinds (before ++ kinds) (instants a (length kinds)) ≡ kinds
all_columns before [] a long = refl
all_columns before (k ∷ ks) a long =
    let here = get_or_at before k ks Whole a long in
    let others = all_columns (before ++ k ∷ []) ks (suc a) (let more = length_push before k in omega (arith, more, long)) in
    let same = subst (λ l. key_kinds l (instants (suc a) (length ks)) ≡ ks) (append_assoc before (k ∷ []) ks) others in
    λ i. here i ∷ same i

-- the columns of a node behind others have the kinds of its schema
pub kinds_of_last : (schemas : List (List ColumnDef)) (schema : List ColumnDef) (i : ℕ) → length schemas ≡ i → kinds_at (schemas ++ schema ∷ []) i ≡ kinds_of_schema schema
kinds_of_last schemas schema i here = ap (kinds_at (schemas ++ schema ∷ [])) (sym here) ∙ kinds_of_new schemas schema

-- a join over two nodes
pub join_fit : (streams : List StreamDef) (d : Draft) (at : ℕ) (s : PlannedSides) → at < length d.nodes → AreSides d at s → IsFit streams d.nodes d.schemas (join_node d at s).node (join_node d at s).schema
join_fit streams d at s low are = record {
  left_lower = low;
  right_lower = are.low;
  streamed = tt;
  over_events = calm d.nodes (join_node d at s).node refl refl;
  sound = are.keys;
  kinds = kinds-join_schema (schema_at d at) (schema_at d s.right) s.right_key;
  partnered = tt;
  counted = tt;
}

-- the kinds of a group of keys alone
key_group_kinds : (d : Draft) (s : PlannedSides) → kinds_of_schema (key_group d s).schema ≡ key_kinds (kinds_at d.schemas s.right) s.right_key
key_group_kinds d s = kinds-group_schema (schema_at d s.right) s.right_key [] [] (no_aggs (schema_at d s.right)) ∙ append-nil (key_kinds (kinds_at d.schemas s.right) s.right_key)

-- the group of the right keys, behind nodes and schemas of which the right operand is one as in the draft
pub group_fit : (streams : List StreamDef) (d : Draft) (at : ℕ) (s : PlannedSides) (nodes : List Node) (schemas : List (List ColumnDef)) → AreSides d at s → s.right < length nodes → kinds_at schemas s.right ≡ kinds_at d.schemas s.right →
    IsFit streams nodes schemas (key_group d s).node (key_group d s).schema
group_fit streams d at s nodes schemas are low same = record {
  left_lower = low;
  right_lower = tt;
  streamed = tt;
  over_events = calm nodes (Group s.right s.right_key []) refl refl;
  sound = (subst (λ r. All (λ column. column < length r) s.right_key) (sym same) are.keys.on_right, All-nil (IsAggOver (kinds_at schemas s.right)));
  kinds = kinds-group_schema (schema_at d s.right) s.right_key [] [] (no_aggs (schema_at d s.right)) ∙ ap (λ r. key_kinds r s.right_key ++ []) (sym same);
  partnered = tt;
  counted = tt;
}

-- the keys of an anti-join over such a group, whose columns are of these kinds
anti_keys : (l r : List CellKind) (left_key right_key : List ℕ) → AreKeys l r left_key right_key → AreKeys l (key_kinds r right_key) left_key (instants 0 (length right_key))
anti_keys l r left_key right_key keys =
    let long : length (key_kinds r right_key) ≡ length right_key = length-map right_key (λ column. slice_index_or r column Whole) in
    record {
      on_left = keys.on_left;
      on_right = instants_below 0 (length right_key) (length (key_kinds r right_key)) (omega (arith, long));
      alike = keys.alike ∙ sym (subst (λ n. key_kinds (key_kinds r right_key) (instants 0 n) ≡ key_kinds r right_key) long (all_columns [] (key_kinds r right_key) 0 refl));
    }

-- the anti-join with that group, which is the last node before it
pub anti_fit : (streams : List StreamDef) (d : Draft) (at : ℕ) (s : PlannedSides) (group : ℕ) (nodes : List Node) (schemas : List (List ColumnDef)) → AreSides d at s → length nodes ≡ group → length schemas ≡ group →
    at < length nodes → kinds_at schemas at ≡ kinds_at d.schemas at →
    IsFit streams (nodes ++ (key_group d s).node ∷ []) (schemas ++ (key_group d s).schema ∷ []) (anti_node d at s group).node (anti_node d at s group).schema
anti_fit streams d at s group nodes schemas are long as_long low same =
    let g = (key_group d s).node in
    let schema = (key_group d s).schema in
    let more : length (nodes ++ g ∷ []) ≡ length nodes + 1 = length_push nodes g in
    let on_left : kinds_at (schemas ++ schema ∷ []) at ≡ kinds_at d.schemas at = kinds_grow schemas schema at (omega (arith, low, long, as_long)) ∙ same in
    let on_right : kinds_at (schemas ++ schema ∷ []) group ≡ key_kinds (kinds_at d.schemas s.right) s.right_key = kinds_of_last schemas schema group as_long ∙ key_group_kinds d s in
    record {
      left_lower = omega (arith, low, more);
      right_lower = omega (arith, more, long);
      streamed = tt;
      over_events = calm (nodes ++ g ∷ []) (anti_node d at s group).node refl refl;
      sound = subst (λ l. AreKeys l (kinds_at (schemas ++ schema ∷ []) group) s.left_key (instants 0 (length s.right_key))) (sym on_left)
          (subst (λ r. AreKeys (kinds_at d.schemas at) r s.left_key (instants 0 (length s.right_key))) (sym on_right)
          (anti_keys (kinds_at d.schemas at) (kinds_at d.schemas s.right) s.left_key s.right_key are.keys));
      kinds = sym on_left;
      partnered = subst (IsOfKeysAlone (instants 0 (length s.right_key))) (sym (ap (slice_get (nodes ++ g ∷ [])) (sym long) ∙ get_of_new nodes g)) (λ column below. any_instant 0 (length s.right_key) column (omega arith) (omega (arith, below)));
      counted = tt;
    }
