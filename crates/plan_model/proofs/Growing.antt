-- Lists of nodes to which one is put behind: what holds of the nodes before it stays, and what is found of it is made of that.
use Rattle.std.specs.Prelude.{◌≡◌, ℕ, ◌+◌, ◌<◌, ◌≤◌, true, Some, List, [], ◌∷◌, ◌++◌, length, slice_get, slice_index_or, unwrap_or, refl}
use Rattle.std.proofs.Common.{sym, ◌∙◌, ap, subst, arith, append_assoc, append-nil, inl, inr}
use Rattle.std.proofs.lemmas.List.{length-append, get_or_append_left}
use Rattle.std.proofs.lemmas.Option.{slice_get-get_or, slice_get_within}
use Rattle.std.proofs.lemmas.Bool.{cases_lt}
use Rattle.std.proofs.Math.Seq.{get_or-append_seam}
use Rattle.tw_rows.specs.declared.schema.ColumnDef.{ColumnDef}
use Rattle.tw_rows.specs.declared.schema.StreamDef.{StreamDef}
use Rattle.plan_model.specs.declared.node.Node.{Node}
use Rattle.plan_model.specs.declared.node.Node.TheVariants.{Source, Where, Select, Union, Delay, Hop, Duration, Extend, Session, Clip, Group, Join, Anti, Coalesce, Mean, Top, Follow}
use Rattle.plan_model.specs.Fold.{results_from, by_number}
use Rattle.plan_model.specs.IsPlan.{kinds_of_schema, kinds_at, kinds_of_stream, node_kinds, IsSoundOver, IsOverEvents, IsOfKeysAlone, HasKeysOnRight, IsCountedGroup, HasCountBelow, IsNode, AreNarrow, AreNodes, IsNewNode, most_reach}
use Rattle.plan_model.specs.Meaning.{left_child, right_child, left_of, right_of, over_nodes, HasLower}
use Rattle.plan_model.specs.Reach.{node_reach, reach, node_is_event_level, event_level}
use Rattle.plan_model.proofs.Folds.{length-results_from}
use Rattle.plan_model.proofs.Plans.{at_child_below, left_of_below}

length_more : {X : Type 0} (xs : List X) (x : X) → length (xs ++ x ∷ []) ≡ length xs + 1
length_more xs x = length-append xs (x ∷ [])

-- an item keeps its number, and the new one has the next
pub get_grows : {X : Type 0} (xs : List X) (x : X) (i : ℕ) → i < length xs → slice_get (xs ++ x ∷ []) i ≡ slice_get xs i
get_grows xs x i low =
    slice_get-get_or (xs ++ x ∷ []) i x (let more = length_more xs x in omega (arith, more, low))
    ∙ (ap Some (get_or_append_left xs (x ∷ []) x i low) ∙ sym (slice_get-get_or xs i x low))

pub get_of_new : {X : Type 0} (xs : List X) (x : X) → slice_get (xs ++ x ∷ []) (length xs) ≡ Some x
get_of_new xs x =
    slice_get-get_or (xs ++ x ∷ []) (length xs) x (let more = length_more xs x in omega (arith, more))
    ∙ ap Some (get_or-append_seam xs x [] x)

-- the results of a fold over a list that goes on
results_more : {N R : Type 0} (step : N → List R → R) (done : List R) (ns : List N) (n : N) →
    results_from step done (ns ++ n ∷ []) ≡ results_from step done ns ++ step n (done ++ results_from step done ns) ∷ []
results_more step done [] n = ap (λ d. step n d ∷ []) (sym (append-nil done))
results_more step done (m ∷ ns) n =
    ap (λ l. step m done ∷ l)
    (results_more step (done ++ step m done ∷ []) ns n
    ∙ ap (λ d. results_from step (done ++ step m done ∷ []) ns ++ step n d ∷ []) (append_assoc done (step m done ∷ []) (results_from step (done ++ step m done ∷ []) ns)))

module _ {R : Type 0} (none : R) (source : ℕ → R) (node : Node → R → R → R) (nodes : List Node) (n : Node) where
  -- one step of the fold over a plan
  abbrev stepped : Node → List R → R
  stepped = by_number none (λ m at. node m (left_of none source at m) (right_of none at m))

  abbrev found : List R
  found = results_from stepped [] nodes

  -- what was found of the earlier nodes stays
  pub over_nodes-grows : (i : ℕ) → i < length nodes → over_nodes none source node (nodes ++ n ∷ []) i ≡ over_nodes none source node nodes i
  over_nodes-grows i low =
      ap (λ l. slice_index_or l i none) (results_more stepped [] nodes n)
      ∙ get_or_append_left found (stepped n found ∷ []) none i (let same = length-results_from stepped [] nodes in omega (arith, same, low))

  -- and what is found of the new one is made of that
  pub over_nodes-of_new : over_nodes none source node (nodes ++ n ∷ []) (length nodes) ≡ node n (left_of none source (over_nodes none source node nodes) n) (right_of none (over_nodes none source node nodes) n)
  over_nodes-of_new =
      ap (λ l. slice_index_or l (length nodes) none) (results_more stepped [] nodes n)
      ∙ (ap (λ k. slice_index_or (found ++ stepped n found ∷ []) k none) (sym (length-results_from stepped [] nodes))
      ∙ get_or-append_seam found (stepped n found) [] none)

pub reach_grows : (nodes : List Node) (n : Node) (i : ℕ) → i < length nodes → reach (nodes ++ n ∷ []) i ≡ reach nodes i
reach_grows = over_nodes-grows 0 (λ s. 0) node_reach

pub reach_of_new : (nodes : List Node) (n : Node) → reach (nodes ++ n ∷ []) (length nodes) ≡ node_reach n (left_of 0 (λ s. 0) (reach nodes) n) (right_of 0 (reach nodes) n)
reach_of_new = over_nodes-of_new 0 (λ s. 0) node_reach

pub level_grows : (nodes : List Node) (n : Node) (i : ℕ) → i < length nodes → event_level (nodes ++ n ∷ []) i ≡ event_level nodes i
level_grows = over_nodes-grows true (λ s. true) node_is_event_level

pub level_of_new : (nodes : List Node) (n : Node) → event_level (nodes ++ n ∷ []) (length nodes) ≡ node_is_event_level n (left_of true (λ s. true) (event_level nodes) n) (right_of true (event_level nodes) n)
level_of_new = over_nodes-of_new true (λ s. true) node_is_event_level

pub kinds_grow : (schemas : List (List ColumnDef)) (schema : List ColumnDef) (i : ℕ) → i < length schemas → kinds_at (schemas ++ schema ∷ []) i ≡ kinds_at schemas i
kinds_grow schemas schema i low = ap kinds_of_schema (get_or_append_left schemas (schema ∷ []) [] i low)

pub kinds_of_new : (schemas : List (List ColumnDef)) (schema : List ColumnDef) → kinds_at (schemas ++ schema ∷ []) (length schemas) ≡ kinds_of_schema schema
kinds_of_new schemas schema = ap kinds_of_schema (get_or-append_seam schemas schema [] [])

-- what is asked of a node m over nodes, of which its children are some, holds of it where one more node is put behind these
module _ (streams : List StreamDef) (nodes : List Node) (schemas : List (List ColumnDef)) (n : Node) (schema : List ColumnDef) (one_each : length schemas ≡ length nodes)
    (i : ℕ) (within : i ≤ length nodes) (m : Node) (left_lower : HasLower i (left_child m)) (right_lower : HasLower i (right_child m)) where
  left_kinds : left_of [] (kinds_of_stream streams) (kinds_at (schemas ++ schema ∷ [])) m ≡ left_of [] (kinds_of_stream streams) (kinds_at schemas) m
  left_kinds = left_of_below [] (kinds_of_stream streams) (kinds_at (schemas ++ schema ∷ [])) (kinds_at schemas) i (λ j low. kinds_grow schemas schema j (omega (arith, low, within, one_each))) m left_lower

  right_kinds : right_of [] (kinds_at (schemas ++ schema ∷ [])) m ≡ right_of [] (kinds_at schemas) m
  right_kinds = at_child_below [] (kinds_at (schemas ++ schema ∷ [])) (kinds_at schemas) i (λ j low. kinds_grow schemas schema j (omega (arith, low, within, one_each))) (right_child m) right_lower

  levels_grow : IsOverEvents nodes m → IsOverEvents (nodes ++ n ∷ []) m
  levels_grow h = record {
    on_left = λ reads. left_of_below true (λ s. true) (event_level (nodes ++ n ∷ [])) (event_level nodes) i (λ j low. level_grows nodes n j (omega (arith, low, within))) m left_lower ∙ h.on_left reads;
    on_right = λ reads. at_child_below true (event_level (nodes ++ n ∷ [])) (event_level nodes) i (λ j low. level_grows nodes n j (omega (arith, low, within))) (right_child m) right_lower ∙ h.on_right reads;
  }

  sound_grows : IsSoundOver m (left_of [] (kinds_of_stream streams) (kinds_at schemas) m) (right_of [] (kinds_at schemas) m) →
      IsSoundOver m (left_of [] (kinds_of_stream streams) (kinds_at (schemas ++ schema ∷ [])) m) (right_of [] (kinds_at (schemas ++ schema ∷ [])) m)
  sound_grows h = subst (λ l. IsSoundOver m l (right_of [] (kinds_at (schemas ++ schema ∷ [])) m)) (sym left_kinds) (subst (λ r. IsSoundOver m (left_of [] (kinds_of_stream streams) (kinds_at schemas) m) r) (sym right_kinds) h)

  node_kinds_grow : node_kinds m (left_of [] (kinds_of_stream streams) (kinds_at schemas) m) (right_of [] (kinds_at schemas) m)
      ≡ node_kinds m (left_of [] (kinds_of_stream streams) (kinds_at (schemas ++ schema ∷ [])) m) (right_of [] (kinds_at (schemas ++ schema ∷ [])) m)
  node_kinds_grow =
      ap (λ l. node_kinds m l (right_of [] (kinds_at schemas) m)) (sym left_kinds)
      ∙ ap (node_kinds m (left_of [] (kinds_of_stream streams) (kinds_at (schemas ++ schema ∷ [])) m)) (sym right_kinds)

partner_grows : (nodes : List Node) (n : Node) (i : ℕ) → i ≤ length nodes → (m : Node) → HasLower i (right_child m) → HasKeysOnRight nodes m → HasKeysOnRight (nodes ++ n ∷ []) m
partner_grows nodes n i within (Source stream) lower h = tt
partner_grows nodes n i within (Where of test) lower h = tt
partner_grows nodes n i within (Select of items) lower h = tt
partner_grows nodes n i within (Union left right) lower h = tt
partner_grows nodes n i within (Delay of by) lower h = tt
partner_grows nodes n i within (Hop of size period) lower h = tt
partner_grows nodes n i within (Duration of by) lower h = tt
partner_grows nodes n i within (Extend of by) lower h = tt
partner_grows nodes n i within (Session of timeout key) lower h = tt
partner_grows nodes n i within (Clip left right left_key right_key) lower h = tt
partner_grows nodes n i within (Group of key aggs) lower h = tt
partner_grows nodes n i within (Join left right left_key right_key) lower h = tt
partner_grows nodes n i within (Anti left right left_key right_key) lower h =
    subst (IsOfKeysAlone right_key) (sym (get_grows nodes n right (let low : right < i = lower in omega (arith, low, within)))) h
partner_grows nodes n i within (Coalesce of) lower h = tt
partner_grows nodes n i within (Mean of at) lower h = tt
partner_grows nodes n i within (Top of key by count) lower h = tt
partner_grows nodes n i within (Follow left right left_key right_key within_time) lower h = tt

count_grows : (nodes : List Node) (n : Node) (i : ℕ) → i ≤ length nodes → (m : Node) → HasLower i (left_child m) → HasCountBelow nodes m → HasCountBelow (nodes ++ n ∷ []) m
count_grows nodes n i within (Source stream) lower h = tt
count_grows nodes n i within (Where of test) lower h = tt
count_grows nodes n i within (Select of items) lower h = tt
count_grows nodes n i within (Union left right) lower h = tt
count_grows nodes n i within (Delay of by) lower h = tt
count_grows nodes n i within (Hop of size period) lower h = tt
count_grows nodes n i within (Duration of by) lower h = tt
count_grows nodes n i within (Extend of by) lower h = tt
count_grows nodes n i within (Session of timeout key) lower h = tt
count_grows nodes n i within (Clip left right left_key right_key) lower h = tt
count_grows nodes n i within (Group of key aggs) lower h = tt
count_grows nodes n i within (Join left right left_key right_key) lower h = tt
count_grows nodes n i within (Anti left right left_key right_key) lower h = tt
count_grows nodes n i within (Coalesce of) lower h = tt
count_grows nodes n i within (Mean of at) lower h =
    subst IsCountedGroup (sym (get_grows nodes n of (let low : of < i = lower in omega (arith, low, within)))) h
count_grows nodes n i within (Top of key by count) lower h = tt
count_grows nodes n i within (Follow left right left_key right_key within_time) lower h = tt

old_node : (streams : List StreamDef) (nodes : List Node) (schemas : List (List ColumnDef)) (n : Node) (schema : List ColumnDef) → length schemas ≡ length nodes →
    (i : ℕ) (m : Node) (s : List ColumnDef) → i < length nodes → IsNode streams nodes schemas i m s → IsNode streams (nodes ++ n ∷ []) (schemas ++ schema ∷ []) i m s
old_node streams nodes schemas n schema one_each i m s low h =
    let within : i ≤ length nodes = omega (arith, low) in
    record {
      left_lower = h.left_lower;
      right_lower = h.right_lower;
      streamed = h.streamed;
      over_events = levels_grow streams nodes schemas n schema one_each i within m h.left_lower h.right_lower h.over_events;
      sound = sound_grows streams nodes schemas n schema one_each i within m h.left_lower h.right_lower h.sound;
      kinds = h.kinds ∙ node_kinds_grow streams nodes schemas n schema one_each i within m h.left_lower h.right_lower;
      partnered = partner_grows nodes n i within m h.right_lower h.partnered;
      counted = count_grows nodes n i within m h.left_lower h.counted;
      near = subst (λ r. r ≤ most_reach) (sym (reach_grows nodes n i low)) h.near;
      narrow = h.narrow;
    }

new_node : (streams : List StreamDef) (nodes : List Node) (schemas : List (List ColumnDef)) (n : Node) (schema : List ColumnDef) → length schemas ≡ length nodes →
    IsNewNode streams nodes schemas n schema → IsNode streams (nodes ++ n ∷ []) (schemas ++ schema ∷ []) (length nodes) n schema
new_node streams nodes schemas n schema one_each h =
    let within : length nodes ≤ length nodes = omega arith in
    record {
      left_lower = h.left_lower;
      right_lower = h.right_lower;
      streamed = h.streamed;
      over_events = levels_grow streams nodes schemas n schema one_each (length nodes) within n h.left_lower h.right_lower h.over_events;
      sound = sound_grows streams nodes schemas n schema one_each (length nodes) within n h.left_lower h.right_lower h.sound;
      kinds = h.kinds ∙ node_kinds_grow streams nodes schemas n schema one_each (length nodes) within n h.left_lower h.right_lower;
      partnered = partner_grows nodes n (length nodes) within n h.right_lower h.partnered;
      counted = count_grows nodes n (length nodes) within n h.left_lower h.counted;
      near = subst (λ r. r ≤ most_reach) (sym (reach_of_new nodes n)) h.near;
      narrow = h.narrow;
    }

-- no nodes are the nodes of a plan so far
pub no_nodes : (streams : List StreamDef) → AreNarrow streams → AreNodes streams [] []
no_nodes streams narrow = record { narrow_streams = narrow; few = omega arith; one_each = refl; each = λ i n there. absurd (cc) }

-- and a node that is as asked may be put behind those of a plan
pub nodes_grow : (streams : List StreamDef) (nodes : List Node) (schemas : List (List ColumnDef)) (n : Node) (schema : List ColumnDef) →
    AreNodes streams nodes schemas → IsNewNode streams nodes schemas n schema → AreNodes streams (nodes ++ n ∷ []) (schemas ++ schema ∷ [])
nodes_grow streams nodes schemas n schema kept new = record {
  narrow_streams = kept.narrow_streams;
  few = (let more = length_more nodes n in let room = new.room in omega (arith, more, room));
  one_each = length_more schemas schema ∙ (ap (λ k. k + 1) kept.one_each ∙ sym (length_more nodes n));
  each = λ i m here. elim (cases_lt i (length nodes)) [
    | inl low ↦
        subst (IsNode streams (nodes ++ n ∷ []) (schemas ++ schema ∷ []) i m) (sym (get_or_append_left schemas (schema ∷ []) [] i (let same = kept.one_each in omega (arith, low, same))))
        (old_node streams nodes schemas n schema kept.one_each i m _ low (kept.each i m (sym (get_grows nodes n i low) ∙ here)))
    | inr past ↦
        let last : length nodes ≡ i = (let more = length_more nodes n in let below = slice_get_within (nodes ++ n ∷ []) i m here in omega (arith, more, below, past)) in
        let same : n ≡ m = ap (λ o. unwrap_or o n) (sym (get_of_new nodes n) ∙ (ap (slice_get (nodes ++ n ∷ [])) last ∙ here)) in
        let its : schema ≡ slice_index_or (schemas ++ schema ∷ []) i [] = sym (ap (λ k. slice_index_or (schemas ++ schema ∷ []) k []) (sym (kept.one_each ∙ last)) ∙ get_or-append_seam schemas schema [] []) in
        subst (λ s. IsNode streams (nodes ++ n ∷ []) (schemas ++ schema ∷ []) i m s) its
        (subst (λ x. IsNode streams (nodes ++ n ∷ []) (schemas ++ schema ∷ []) i x schema) same
        (subst (λ k. IsNode streams (nodes ++ n ∷ []) (schemas ++ schema ∷ []) k n schema) last
        (new_node streams nodes schemas n schema kept.one_each new)))
  ];
}
