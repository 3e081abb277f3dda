-- The fault of a step is that of the first row of the table that holds.
use Rattle.std.specs.Prelude.{◌≡◌, ℕ, ◌+◌, nat_le, nat_lt, Bool, true, false, not, ◌||◌, if◌then◌else◌, Option, Some, None, unwrap_or, is_none, ok_or, Result, Ok, Err, List, [], ◌∷◌, length, refl}
use Rattle.std.proofs.Common.{sym, ◌∙◌, ap}
use Rattle.tw_rows.specs.declared.kind.Kind.{Kind}
use Rattle.tw_rows.specs.declared.kind.Kind.TheVariants as K
use Rattle.plan_model.specs.declared.fault.QueryFault.{QueryFault}
use Rattle.plan_model.specs.declared.fault.QueryFault.TheVariants as F
use Rattle.plan_model.specs.declared.node.Node.TheVariants.{Where, Select, Union, Delay, Hop, Duration, Extend, Session, Clip, Top, Follow}
use Rattle.plan_model.specs.IsPlan.{most_nodes}
use Rattle.plan_model.specs.Reach.{event_level}
use Rattle.query_text.specs.declared.query.QueryStep.{QueryStep}
use Rattle.query_text.specs.declared.query.QueryStep.TheVariants as S
use Rattle.query_plan.specs.Names.{column_of, key_of, expr_of, exprs_of, tree_exprs, aggs_of}
use Rattle.query_plan.specs.Types.{same_kind, is_number, type_of, types_of, tree_types}
use Rattle.query_plan.specs.Schemas.{column_at, select_schema, same_kinds, keys_alike, aggs_fit, fills_fit}
use Rattle.query_plan.specs.Checked.{is_wide, has_twice}
use Rattle.query_plan.specs.Draft.{Draft, Planned, and_then, needs, node_named, schema_at, with_nodes, reaches_too_far, admitted}
use Rattle.query_plan.specs.Faults.{FaultRow, first_fault, fault_of, operand_or, key_or, unknown_sides, unlike_sides, is_test, lacks_events, step_rows, node_rows}
use Rattle.query_plan.specs.Steps.{alone, over_events, PlannedSides, named_sides, are_alike, sides, joined, is_window, is_top_count, join_node, key_group, anti_node, left_nodes, grouped, step_nodes}

abbrev row : Bool → QueryFault → FaultRow
row holds fault = record { holds = holds; fault = fault }

-- a test fails exactly where its row holds
needs_told : {B : Type 0} (test : Bool) (f : QueryFault) (next : Unit {0} → Result B QueryFault) (rest : List FaultRow) → fault_of (next tt) ≡ first_fault rest → fault_of (and_then (needs test f) next) ≡ first_fault (row (not test) f ∷ rest)
needs_told true f next rest h = h
needs_told false f next rest h = refl

takes_told : {A B : Type 0} (o : Option A) (f : QueryFault) (next : A → Result B QueryFault) (rest : List FaultRow) → ((a : A) → o ≡ Some a → fault_of (next a) ≡ first_fault rest) → fault_of (and_then (ok_or o f) next) ≡ first_fault (row (is_none o) f ∷ rest)
takes_told None f next rest h = refl
takes_told (Some a) f next rest h = h a refl

-- two rows of one fault are one
merged : (a b : Bool) (f : QueryFault) (rest : List FaultRow) → first_fault (row a f ∷ row b f ∷ rest) ≡ first_fault (row (a || b) f ∷ rest)
merged true b f rest = refl
merged false b f rest = refl

-- what was found is what stands in the row
found : {A : Type 0} (o : Option A) (d a : A) → o ≡ Some a → a ≡ unwrap_or o d
found o d a e = sym (ap (λ x. unwrap_or x d) e)

-- the right operand and the keys of a step
key_cases : {B : Type 0} (right : ℕ) (left_key : List ℕ) (o : Option (List ℕ)) (f : QueryFault) (next : PlannedSides → Result B QueryFault) (rest : List FaultRow) →
    ((s : PlannedSides) → s.right ≡ right → s.left_key ≡ left_key → s.right_key ≡ unwrap_or o [] → fault_of (next s) ≡ first_fault rest) →
    fault_of (and_then (and_then (ok_or o f) (λ k. Ok (record { right = right; left_key = left_key; right_key = k }))) next) ≡ first_fault (row (is_none o) f ∷ rest)
key_cases right left_key None f next rest h = refl
key_cases right left_key (Some k) f next rest h = h (record { right = right; left_key = left_key; right_key = k }) refl refl refl

named_cases : {B : Type 0} (a : Option ℕ) (b : Option (List ℕ)) (c : ℕ → Option (List ℕ)) (f : QueryFault) (next : PlannedSides → Result B QueryFault) (rest : List FaultRow) →
    ((s : PlannedSides) → s.right ≡ unwrap_or a 0 → s.left_key ≡ unwrap_or b [] → s.right_key ≡ unwrap_or (c (unwrap_or a 0)) [] → fault_of (next s) ≡ first_fault rest) →
    fault_of (and_then (and_then (ok_or a f) (λ right. and_then (ok_or b f) (λ left_key. and_then (ok_or (c right) f) (λ k. Ok (record { right = right; left_key = left_key; right_key = k }))))) next)
    ≡ first_fault (row (is_none a || (is_none b || is_none (c (unwrap_or a 0)))) f ∷ rest)
named_cases None b c f next rest h = refl
named_cases (Some right) None c f next rest h = refl
named_cases (Some right) (Some left_key) c f next rest h = key_cases right left_key (c right) f next rest h

regroup : {A B C : Type 0} (r : Result A QueryFault) (f : A → Result B QueryFault) (g : B → Result C QueryFault) → and_then (and_then r f) g ≡ and_then r (λ a. and_then (f a) g)
regroup (Ok a) f g = refl
regroup (Err fault) f g = refl

-- the rows of a step over the node of number `at`
module _ (item : ℕ) (d : Draft) (at : ℕ) where
  named_told : {B : Type 0} (name : List ℕ) (key : List (List ℕ)) (next : PlannedSides → Result B QueryFault) (rest : List FaultRow) →
      ((s : PlannedSides) → s.right ≡ operand_or d name → s.left_key ≡ key_or (schema_at d at) key → s.right_key ≡ key_or (schema_at d (operand_or d name)) key → fault_of (next s) ≡ first_fault rest) →
      fault_of (and_then (named_sides item d at name key) next) ≡ first_fault (row (unknown_sides d at name key) (F.UnknownName item) ∷ rest)
  named_told name key next rest h =
      named_cases (node_named d.names name) (key_of (schema_at d at) key) (λ right. key_of (schema_at d right) key) (F.UnknownName item) next rest h

  unlike : (name : List ℕ) (key : List (List ℕ)) (s : PlannedSides) → s.right ≡ operand_or d name → s.left_key ≡ key_or (schema_at d at) key → s.right_key ≡ key_or (schema_at d (operand_or d name)) key → not (are_alike d at s) ≡ unlike_sides d at name key
  unlike name key s r l k = λ i. not (keys_alike (schema_at d at) (schema_at d (r i)) (l i) (k i))

  sides_told : {B : Type 0} (name : List ℕ) (key : List (List ℕ)) (next : PlannedSides → Result B QueryFault) (rest : List FaultRow) → ((s : PlannedSides) → s.right ≡ operand_or d name → fault_of (next s) ≡ first_fault rest) →
      fault_of (and_then (sides item d at name key) next) ≡ first_fault (row (unknown_sides d at name key) (F.UnknownName item) ∷ row (unlike_sides d at name key) (F.TypeClash item) ∷ rest)
  sides_told name key next rest h =
      ap fault_of (regroup (named_sides item d at name key) (λ s. and_then (needs (are_alike d at s) (F.TypeClash item)) (λ u. Ok s)) next)
      ∙ named_told name key (λ s. and_then (and_then (needs (are_alike d at s) (F.TypeClash item)) (λ u. Ok s)) next) (row (unlike_sides d at name key) (F.TypeClash item) ∷ rest)
      (λ s r l k.
      ap fault_of (regroup (needs (are_alike d at s) (F.TypeClash item)) (λ u. Ok s) next)
      ∙ (needs_told (are_alike d at s) (F.TypeClash item) (λ u. next s) rest (h s r)
      ∙ ap (λ b. first_fault (row b (F.TypeClash item) ∷ rest)) (unlike name key s r l k)))

  -- both sides are of events
  events_told : {B : Type 0} (name : List ℕ) (right : ℕ) (next : Result B QueryFault) (rest : List FaultRow) → right ≡ operand_or d name → fault_of next ≡ first_fault rest →
      fault_of (and_then (over_events item d at) (λ u. and_then (over_events item d right) (λ u. next))) ≡ first_fault (row (lacks_events d at (operand_or d name)) (F.NotEventLevel item) ∷ rest)
  events_told name right next rest r h =
      needs_told (event_level d.nodes at) (F.NotEventLevel item) (λ u. and_then (over_events item d right) (λ u. next)) (row (not (event_level d.nodes right)) (F.NotEventLevel item) ∷ rest)
      (needs_told (event_level d.nodes right) (F.NotEventLevel item) (λ u. next) rest h)
      ∙ (merged (not (event_level d.nodes at)) (not (event_level d.nodes right)) (F.NotEventLevel item) rest
      ∙ ap (λ n. first_fault (row (lacks_events d at n) (F.NotEventLevel item) ∷ rest)) r)

  -- a test that has no kind, or another than Bool
  tested : {B : Type 0} (o : Option Kind) (next : Result B QueryFault) (rest : List FaultRow) → fault_of next ≡ first_fault rest →
      fault_of (and_then (ok_or o (F.TypeClash item)) (λ kind. and_then (needs (same_kind kind K.Bool) (F.TypeClash item)) (λ u. next))) ≡ first_fault (row (not (is_test o)) (F.TypeClash item) ∷ rest)
  tested None next rest h = refl
  tested (Some kind) next rest h = needs_told (same_kind kind K.Bool) (F.TypeClash item) (λ u. next) rest h

  pub step_told : (s : QueryStep) → fault_of (step_nodes item d at s) ≡ first_fault (step_rows item d at s)
  step_told (S.Where tree) =
      let schema = schema_at d at in
      takes_told (expr_of schema tree) (F.UnknownName item) (λ test. and_then (ok_or (type_of schema tree) (F.TypeClash item)) (λ kind. and_then (needs (same_kind kind K.Bool) (F.TypeClash item)) (λ u. alone d at (Where at test))))
      (row (not (is_test (type_of schema tree))) (F.TypeClash item) ∷ [])
      (λ test e. tested (type_of schema tree) (alone d at (Where at test)) [] refl)
  step_told (S.Select items) =
      let schema = schema_at d at in
      takes_told (exprs_of schema items) (F.UnknownName item) (λ exprs. and_then (ok_or (types_of schema items) (F.TypeClash item)) (λ types. Ok (record { node = Select at exprs; schema = select_schema items types } ∷ [])))
      (row (is_none (types_of schema items)) (F.TypeClash item) ∷ [])
      (λ exprs e. takes_told (types_of schema items) (F.TypeClash item) (λ types. Ok (record { node = Select at exprs; schema = select_schema items types } ∷ [])) [] (λ types f. refl))
  step_told (S.Union name) =
      takes_told (node_named d.names name) (F.UnknownName item) (λ right. and_then (needs (same_kinds (schema_at d at) (schema_at d right)) (F.TypeClash item)) (λ u. alone d at (Union at right)))
      (row (not (same_kinds (schema_at d at) (schema_at d (operand_or d name)))) (F.TypeClash item) ∷ [])
      (λ right e.
      needs_told (same_kinds (schema_at d at) (schema_at d right)) (F.TypeClash item) (λ u. alone d at (Union at right)) [] refl
      ∙ ap (λ r. first_fault (row (not (same_kinds (schema_at d at) (schema_at d r))) (F.TypeClash item) ∷ [])) (found (node_named d.names name) 0 right e))
  step_told (S.Delay by) = refl
  step_told (S.Duration by) =
      needs_told (event_level d.nodes at) (F.NotEventLevel item) (λ u. and_then (needs (nat_le 1 by) (F.BadWindow item)) (λ u. alone d at (Duration at by))) (row (not (nat_le 1 by)) (F.BadWindow item) ∷ [])
      (needs_told (nat_le 1 by) (F.BadWindow item) (λ u. alone d at (Duration at by)) [] refl)
  step_told (S.Extend by) = needs_told (event_level d.nodes at) (F.NotEventLevel item) (λ u. alone d at (Extend at by)) [] refl
  step_told (S.Hop size period) =
      needs_told (event_level d.nodes at) (F.NotEventLevel item) (λ u. and_then (needs (is_window size period) (F.BadWindow item)) (λ u. alone d at (Hop at size period))) (row (not (is_window size period)) (F.BadWindow item) ∷ [])
      (needs_told (is_window size period) (F.BadWindow item) (λ u. alone d at (Hop at size period)) [] refl)
  step_told (S.Session timeout names) =
      takes_told (key_of (schema_at d at) names) (F.UnknownName item) (λ key. and_then (over_events item d at) (λ u. and_then (needs (nat_le 1 timeout) (F.BadWindow item)) (λ u. alone d at (Session at timeout key))))
      (row (not (event_level d.nodes at)) (F.NotEventLevel item) ∷ row (not (nat_le 1 timeout)) (F.BadWindow item) ∷ [])
      (λ key e. needs_told (event_level d.nodes at) (F.NotEventLevel item) (λ u. and_then (needs (nat_le 1 timeout) (F.BadWindow item)) (λ u. alone d at (Session at timeout key))) (row (not (nat_le 1 timeout)) (F.BadWindow item) ∷ [])
      (needs_told (nat_le 1 timeout) (F.BadWindow item) (λ u. alone d at (Session at timeout key)) [] refl))
  step_told (S.Clip name key) =
      sides_told name key (λ s. and_then (over_events item d at) (λ u. and_then (over_events item d s.right) (λ u. alone d at (Clip at s.right s.left_key s.right_key)))) (row (lacks_events d at (operand_or d name)) (F.NotEventLevel item) ∷ [])
      (λ s r. events_told name s.right (alone d at (Clip at s.right s.left_key s.right_key)) [] r refl)
  step_told (S.Join name key) = sides_told name key (λ s. Ok (join_node d at s ∷ [])) [] (λ s r. refl)
  step_told (S.Anti name key) = sides_told name key (λ s. Ok (key_group d s ∷ anti_node d at s (length d.nodes) ∷ [])) [] (λ s r. refl)
  step_told (S.Left name key trees) =
      let schema = schema_at d at in
      let columns = schema_at d (operand_or d name) in
      let clash = F.TypeClash item in
      let types = tree_types schema trees in
      let misfit = not (fills_fit columns (key_or columns key) (unwrap_or types [])) in
      named_told name key (λ s.
      and_then (ok_or (tree_exprs schema trees) (F.UnknownName item)) (λ fills.
      and_then (needs (are_alike d at s) clash) (λ u.
      and_then (ok_or types clash) (λ ks.
      and_then (needs (fills_fit (schema_at d s.right) s.right_key ks) clash) (λ u. Ok (left_nodes d at s (length d.nodes) fills))))))
      (row (is_none (tree_exprs schema trees)) (F.UnknownName item) ∷ row (unlike_sides d at name key || (is_none types || misfit)) clash ∷ [])
      (λ s r l k.
      takes_told (tree_exprs schema trees) (F.UnknownName item) (λ fills.
      and_then (needs (are_alike d at s) clash) (λ u.
      and_then (ok_or types clash) (λ ks.
      and_then (needs (fills_fit (schema_at d s.right) s.right_key ks) clash) (λ u. Ok (left_nodes d at s (length d.nodes) fills)))))
      (row (unlike_sides d at name key || (is_none types || misfit)) clash ∷ [])
      (λ fills e.
      needs_told (are_alike d at s) clash (λ u.
      and_then (ok_or types clash) (λ ks.
      and_then (needs (fills_fit (schema_at d s.right) s.right_key ks) clash) (λ u. Ok (left_nodes d at s (length d.nodes) fills))))
      (row (is_none types || misfit) clash ∷ [])
      (takes_told types clash (λ ks. and_then (needs (fills_fit (schema_at d s.right) s.right_key ks) clash) (λ u. Ok (left_nodes d at s (length d.nodes) fills))) (row misfit clash ∷ [])
      (λ ks f.
      needs_told (fills_fit (schema_at d s.right) s.right_key ks) clash (λ u. Ok (left_nodes d at s (length d.nodes) fills)) [] refl
      ∙ (λ i. first_fault (row (not (fills_fit (schema_at d (r i)) (k i) (found types [] ks f i))) clash ∷ [])))
      ∙ merged (is_none types) misfit clash [])
      ∙ (ap (λ b. first_fault (row b clash ∷ row (is_none types || misfit) clash ∷ [])) (unlike name key s r l k)
      ∙ merged (unlike_sides d at name key) (is_none types || misfit) clash [])))
      ∙ merged (unknown_sides d at name key) (is_none (tree_exprs schema trees)) (F.UnknownName item) (row (unlike_sides d at name key || (is_none types || misfit)) clash ∷ [])
  step_told (S.Follow name key within) =
      sides_told name key (λ s. and_then (over_events item d at) (λ u. and_then (over_events item d s.right) (λ u. and_then (needs (nat_le 1 within) (F.BadWindow item)) (λ u. Ok (record { node = Follow at s.right s.left_key s.right_key within; schema = joined d at s } ∷ [])))))
      (row (lacks_events d at (operand_or d name)) (F.NotEventLevel item) ∷ row (not (nat_le 1 within)) (F.BadWindow item) ∷ [])
      (λ s r. events_told name s.right (and_then (needs (nat_le 1 within) (F.BadWindow item)) (λ u. Ok (record { node = Follow at s.right s.left_key s.right_key within; schema = joined d at s } ∷ []))) (row (not (nat_le 1 within)) (F.BadWindow item) ∷ []) r
      (needs_told (nat_le 1 within) (F.BadWindow item) (λ u. Ok (record { node = Follow at s.right s.left_key s.right_key within; schema = joined d at s } ∷ [])) [] refl))
  step_told (S.Group names aggs) =
      let schema = schema_at d at in
      let rest = row (not (aggs_fit schema aggs)) (F.TypeClash item) ∷ [] in
      takes_told (key_of schema names) (F.UnknownName item) (λ key. and_then (ok_or (aggs_of schema aggs) (F.UnknownName item)) (λ computed. and_then (needs (aggs_fit schema aggs) (F.TypeClash item)) (λ u. Ok (grouped d at key aggs computed))))
      (row (is_none (aggs_of schema aggs)) (F.UnknownName item) ∷ rest)
      (λ key e. takes_told (aggs_of schema aggs) (F.UnknownName item) (λ computed. and_then (needs (aggs_fit schema aggs) (F.TypeClash item)) (λ u. Ok (grouped d at key aggs computed))) rest
      (λ computed f. needs_told (aggs_fit schema aggs) (F.TypeClash item) (λ u. Ok (grouped d at key aggs computed)) [] refl))
      ∙ merged (is_none (key_of schema names)) (is_none (aggs_of schema aggs)) (F.UnknownName item) rest
  step_told S.Coalesce = refl
  step_told (S.Top count names by) =
      let schema = schema_at d at in
      let clash = not (is_number (column_at schema (unwrap_or (column_of schema by) 0)).kind) in
      let rest = row clash (F.TypeClash item) ∷ row (not (is_top_count count)) (F.BadWindow item) ∷ [] in
      takes_told (key_of schema names) (F.UnknownName item) (λ key. and_then (ok_or (column_of schema by) (F.UnknownName item)) (λ column.
      and_then (needs (is_number (column_at schema column).kind) (F.TypeClash item)) (λ u. and_then (needs (is_top_count count) (F.BadWindow item)) (λ u. alone d at (Top at key column count)))))
      (row (is_none (column_of schema by)) (F.UnknownName item) ∷ rest)
      (λ key e. takes_told (column_of schema by) (F.UnknownName item) (λ column.
      and_then (needs (is_number (column_at schema column).kind) (F.TypeClash item)) (λ u. and_then (needs (is_top_count count) (F.BadWindow item)) (λ u. alone d at (Top at key column count)))) rest
      (λ column f.
      needs_told (is_number (column_at schema column).kind) (F.TypeClash item) (λ u. and_then (needs (is_top_count count) (F.BadWindow item)) (λ u. alone d at (Top at key column count))) (row (not (is_top_count count)) (F.BadWindow item) ∷ [])
      (needs_told (is_top_count count) (F.BadWindow item) (λ u. alone d at (Top at key column count)) [] refl)
      ∙ ap (λ c. first_fault (row (not (is_number (column_at schema c).kind)) (F.TypeClash item) ∷ row (not (is_top_count count)) (F.BadWindow item) ∷ [])) (found (column_of schema by) 0 column f)))
      ∙ merged (is_none (key_of schema names)) (is_none (column_of schema by)) (F.UnknownName item) rest

-- a test that is turned twice is itself
twice : (b : Bool) → not (not b) ≡ b
twice true = refl
twice false = refl

lacks_told : {B : Type 0} (b : Bool) (f : QueryFault) (next : Unit {0} → Result B QueryFault) (rest : List FaultRow) → fault_of (next tt) ≡ first_fault rest → fault_of (and_then (needs (not b) f) next) ≡ first_fault (row b f ∷ rest)
lacks_told b f next rest h = needs_told (not b) f next rest h ∙ ap (λ t. first_fault (row t f ∷ rest)) (twice b)

-- so is the fault of the nodes that an item puts behind a draft
pub nodes_told : (item : ℕ) (d : Draft) (ps : List Planned) → fault_of (admitted item d ps) ≡ first_fault (node_rows item d ps)
nodes_told item d ps =
    let far = reaches_too_far (with_nodes d ps).nodes (length d.nodes) (length ps) in
    let many = nat_lt most_nodes (length d.nodes + length ps) in
    lacks_told far (F.ReachTooLong item) _ (row many (F.TooManyNodes item) ∷ row (is_wide ps) (F.TooManyColumns item) ∷ row (has_twice ps) (F.NameTaken item) ∷ [])
    (lacks_told many (F.TooManyNodes item) _ (row (is_wide ps) (F.TooManyColumns item) ∷ row (has_twice ps) (F.NameTaken item) ∷ [])
    (lacks_told (is_wide ps) (F.TooManyColumns item) _ (row (has_twice ps) (F.NameTaken item) ∷ [])
    (lacks_told (has_twice ps) (F.NameTaken item) (λ u. Ok (with_nodes d ps)) [] refl)))
