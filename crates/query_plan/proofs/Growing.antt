-- What is found of the nodes of a draft, as it grows, and the checks of what is put behind it.
use Rattle.std.specs.Prelude.{◌≡◌, ℕ, suc, ◌+◌, nat_lt, Bool, true, false, not, ◌||◌, Result, Ok, List, [], ◌∷◌, ◌++◌, map, length, slice_index_or, refl}
use Rattle.std.specs.List.{list_any}
use Rattle.std.proofs.Common.{sym, ◌∙◌, ap, arith, append_assoc, append-nil}
use Rattle.std.proofs.lemmas.List.{length-append, map-append}
use Rattle.std.proofs.Math.Seq.{get_or-append_seam}
use Rattle.tw_rows.specs.Instant.{instants}
use Rattle.tw_rows.specs.declared.schema.ColumnDef.{ColumnDef}
use Rattle.plan_model.specs.declared.fault.QueryFault.{QueryFault}
use Rattle.plan_model.specs.declared.fault.QueryFault.TheVariants as F
use Rattle.plan_model.specs.declared.node.Node.{Node}
use Rattle.plan_model.specs.declared.node.Node.TheVariants.{Source, Where, Select, Union, Delay, Hop, Duration, Extend, Session, Clip, Group, Join, Anti, Coalesce, Mean, Top, Follow}
use Rattle.plan_model.specs.Fold.{results_from}
use Rattle.plan_model.specs.IsPlan.{most_reach, most_nodes}
use Rattle.plan_model.specs.Meaning.{left_child, left_of, at_child}
use Rattle.plan_model.specs.Reach.{reach}
use Rattle.plan_model.proofs.Folds.{length-results_from}
use Rattle.query_plan.specs.Checked.{is_wide, has_twice, checked}
use Rattle.query_plan.specs.Draft.{Draft, Planned, and_then, needs, with_nodes, reaches_too_far, admitted}
use Rattle.query_plan.proofs.Answering.{goes_on}
use Rattle.query_plan.specs.Growing.{next_level, levels_of, next_reach, reaches_of, reaches_with}

-- what a node reads on the left, where no source reads anything else than what stands for no child
pub left_is : {R : Type 0} (none : R) (at : ℕ → R) (n : Node) → left_of none (λ s. none) at n ≡ at_child none at (left_child n)
left_is none at (Source stream) = refl
left_is none at (Where of test) = refl
left_is none at (Select of items) = refl
left_is none at (Union left right) = refl
left_is none at (Delay of by) = refl
left_is none at (Hop of size period) = refl
left_is none at (Duration of by) = refl
left_is none at (Extend of by) = refl
left_is none at (Session of timeout key) = refl
left_is none at (Clip left right left_key right_key) = refl
left_is none at (Group of key aggs) = refl
left_is none at (Join left right left_key right_key) = refl
left_is none at (Anti left right left_key right_key) = refl
left_is none at (Coalesce of) = refl
left_is none at (Mean of at_columns) = refl
left_is none at (Top of key by count) = refl
left_is none at (Follow left right left_key right_key within) = refl

-- the results of a fold over a list that goes on
results_append : {N R : Type 0} (step : N → List R → R) (done : List R) (xs ys : List N) →
    results_from step done (xs ++ ys) ≡ results_from step done xs ++ results_from step (done ++ results_from step done xs) ys
results_append step done [] ys = ap (λ d. results_from step d ys) (sym (append-nil done))
results_append step done (x ∷ xs) ys =
    let now = done ++ step x done ∷ [] in
    ap (λ l. step x done ∷ l)
    (results_append step now xs ys
    ∙ ap (λ d. results_from step now xs ++ results_from step d ys) (append_assoc done (step x done ∷ []) (results_from step now xs)))

pub levels_more : (nodes : List Node) (n : Node) → levels_of (nodes ++ n ∷ []) ≡ levels_of nodes ++ next_level n (levels_of nodes) ∷ []
levels_more nodes n = results_append next_level [] nodes (n ∷ [])

reaches_more : (nodes : List Node) (n : Node) → reaches_of (nodes ++ n ∷ []) ≡ reaches_of nodes ++ next_reach n (reaches_of nodes) ∷ []
reaches_more nodes n = results_append next_reach [] nodes (n ∷ [])

-- the reach of the node behind these
reach_of_next : (nodes : List Node) (n : Node) (ns : List Node) → reach (nodes ++ n ∷ ns) (length nodes) ≡ next_reach n (reaches_of nodes)
reach_of_next nodes n ns =
    ap (λ l. slice_index_or l (length nodes) 0) (results_append next_reach [] nodes (n ∷ ns))
    ∙ (ap (λ k. slice_index_or (reaches_of nodes ++ results_from next_reach (reaches_of nodes) (n ∷ ns)) k 0) (sym (length-results_from next_reach [] nodes))
    ∙ get_or-append_seam (reaches_of nodes) (next_reach n (reaches_of nodes)) (results_from next_reach (reaches_of nodes ++ next_reach n (reaches_of nodes) ∷ []) ns) 0)

far_step : (fault : QueryFault) (here far : Bool) (r : ℕ) (more : ℕ → Result (List ℕ) QueryFault) (all : List ℕ) → more r ≡ and_then (needs (not far) fault) (λ u. Ok all) →
    and_then (and_then (needs (not here) fault) (λ u. Ok r)) more ≡ and_then (needs (not (here || far)) fault) (λ u. Ok all)
far_step fault true far r more all h = refl
far_step fault false far r more all h = h

-- the reaches of all nodes, or the fault where one of those from number i on is too far
abbrev near_from : ℕ → List Node → ℕ → ℕ → Result (List ℕ) QueryFault
near_from item nodes i n = and_then (needs (not (reaches_too_far nodes i n)) (F.ReachTooLong item)) (λ u. Ok (reaches_of nodes))

-- that one of the nodes behind these reaches too far is found one by one
reaches_with_is : (item : ℕ) (nodes : List Node) (ps : List Planned) → reaches_with item (reaches_of nodes) ps ≡ near_from item (nodes ++ map (λ p. p.node) ps) (length nodes) (length ps)
reaches_with_is item nodes [] = ap (λ x. Ok (reaches_of x)) (sym (append-nil nodes))
reaches_with_is item nodes (p ∷ ps) =
    let behind = map (λ (q : Planned). q.node) ps in
    let all = nodes ++ p.node ∷ behind in
    let r = next_reach p.node (reaches_of nodes) in
    let now = nodes ++ p.node ∷ [] in
    let far = list_any (λ j. nat_lt most_reach (reach all j)) (instants (suc (length nodes)) (length ps)) in
    let next : length now ≡ suc (length nodes) = omega (arith, length-append nodes (p.node ∷ [])) in
    far_step (F.ReachTooLong item) (nat_lt most_reach r) far r (λ q. reaches_with item (reaches_of nodes ++ q ∷ []) ps) (reaches_of all)
    (ap (λ d. reaches_with item d ps) (sym (reaches_more nodes p.node))
    ∙ (reaches_with_is item now ps
    ∙ (ap (λ x. near_from item x (length now) (length ps)) (append_assoc nodes (p.node ∷ []) behind)
    ∙ ap (λ k. near_from item all k (length ps)) next)))
    ∙ ap (λ k. and_then (needs (not (nat_lt most_reach k || far)) (F.ReachTooLong item)) (λ u. Ok (reaches_of all))) (sym (reach_of_next nodes p.node behind))

regroup : (a b c e : Bool) (f0 f1 f2 f3 : QueryFault) (all : List ℕ) (d : Draft) →
    and_then (needs a f0) (λ u. and_then (needs b f1) (λ u. and_then (needs c f2) (λ u. and_then (needs e f3) (λ u. Ok d))))
    ≡ and_then (and_then (needs a f0) (λ u. Ok all)) (λ r. and_then (and_then (needs b f1) (λ u. and_then (needs c f2) (λ u. needs e f3))) (λ u. Ok d))
regroup false b c e f0 f1 f2 f3 all d = refl
regroup true false c e f0 f1 f2 f3 all d = refl
regroup true true false e f0 f1 f2 f3 all d = refl
regroup true true true false f0 f1 f2 f3 all d = refl
regroup true true true true f0 f1 f2 f3 all d = refl

-- what is admitted has reaches that are near, and then no other fault
pub admitted_is : (item : ℕ) (d : Draft) (ps : List Planned) →
    admitted item d ps ≡ and_then (reaches_with item (reaches_of d.nodes) ps) (λ r. and_then (checked item (length d.nodes) ps) (λ u. Ok (with_nodes d ps)))
admitted_is item d ps =
    regroup (not (reaches_too_far (with_nodes d ps).nodes (length d.nodes) (length ps))) (not (nat_lt most_nodes (length d.nodes + length ps))) (not (is_wide ps)) (not (has_twice ps))
    (F.ReachTooLong item) (F.TooManyNodes item) (F.TooManyColumns item) (F.NameTaken item) (reaches_of (with_nodes d ps).nodes) (with_nodes d ps)
    ∙ ap (λ q. and_then q (λ r. and_then (checked item (length d.nodes) ps) (λ u. Ok (with_nodes d ps)))) (sym (reaches_with_is item d.nodes ps))

-- where they are near, they are those of all nodes
near_all : (b : Bool) (fault : QueryFault) (all r : List ℕ) → and_then (needs b fault) (λ u. Ok all) ≡ Ok r → r ≡ all
near_all true fault all r h = cc
near_all false fault all r h = cc

pub reaches_found : (item : ℕ) (nodes : List Node) (ps : List Planned) (r : List ℕ) → reaches_with item (reaches_of nodes) ps ≡ Ok r → r ≡ reaches_of (nodes ++ map (λ p. p.node) ps)
reaches_found item nodes ps r h = near_all _ _ _ r (sym (reaches_with_is item nodes ps) ∙ h)

-- one more item behind a list
pub mapped_more : {X Y : Type 0} (f : X → Y) (old now : List Y) (xs : List X) (x : X) → now ≡ old ++ map f xs → now ++ f x ∷ [] ≡ old ++ map f (xs ++ x ∷ [])
mapped_more f old now xs x h = ap (λ l. l ++ f x ∷ []) h ∙ (append_assoc old (map f xs) (f x ∷ []) ∙ ap (λ l. old ++ l) (sym (map-append f xs (x ∷ []))))

-- the levels of nodes to which one is put behind
pub levels_next : (nodes more : List Node) (n : Node) (levels seen more_levels : List Bool) (level : Bool) → levels ≡ levels_of nodes → seen ≡ levels → level ≡ next_level n seen →
    more_levels ≡ levels ++ level ∷ [] → more ≡ nodes ++ n ∷ [] → more_levels ≡ levels_of more
levels_next nodes more n levels seen more_levels level are sees is grown put =
    grown
    ∙ (ap (λ l. l ++ level ∷ []) are
    ∙ (ap (λ x. levels_of nodes ++ x ∷ []) (is ∙ ap (next_level n) (sees ∙ are))
    ∙ (sym (levels_more nodes n) ∙ ap levels_of (sym put))))

-- where the reaches are near, the other checks are left
pub admitted_near : (item : ℕ) (d : Draft) (ps : List Planned) (r : List ℕ) → reaches_with item (reaches_of d.nodes) ps ≡ Ok r →
    admitted item d ps ≡ and_then (checked item (length d.nodes) ps) (λ u. Ok (with_nodes d ps))
admitted_near item d ps r near =
    admitted_is item d ps ∙ goes_on r (reaches_with item (reaches_of d.nodes) ps) (λ r. and_then (checked item (length d.nodes) ps) (λ u. Ok (with_nodes d ps))) near

-- what was admitted, from the nodes and the schemas that were put behind
pub admitted_parts : (item : ℕ) (d : Draft) (ps : List Planned) (r : List ℕ) (nodes : List Node) (schemas : List (List ColumnDef)) →
    reaches_with item (reaches_of d.nodes) ps ≡ Ok r → checked item (length d.nodes) ps ≡ Ok tt →
    nodes ≡ d.nodes ++ map (λ p. p.node) ps → schemas ≡ d.schemas ++ map (λ p. p.schema) ps →
    admitted item d ps ≡ Ok (record { names = d.names; nodes = nodes; schemas = schemas })
admitted_parts item d ps r nodes schemas near ok are with_schemas =
    let more : List Node → List (List ColumnDef) → Draft = λ ns ss. record { names = d.names; nodes = ns; schemas = ss } in
    admitted_near item d ps r near
    ∙ (goes_on tt (checked item (length d.nodes) ps) (λ u. Ok (with_nodes d ps)) ok
    ∙ (ap (λ ns. Ok (more ns (d.schemas ++ map (λ (p : Planned). p.schema) ps))) (sym are)
    ∙ ap (λ ss. Ok (more nodes ss)) (sym with_schemas)))
