use Rattle.std.proofs.Common.{◌≡◌, ◌<◌, ◌+◌, ◌∙◌, ◌++◌, [], ◌∷◌, map, take, set, get_or, length, ap, ap₂, sym, subst, arith}
use Rattle.std.proofs.lemmas.List.{take_more, take-map, map-append, length-map, length-take, get_or-map}
use Rattle.tw_rows.specs.declared.kind.CellKind.TheVariants.{Whole}
use Rattle.batch.specs.Payloads.{payload_kind}
use Rattle.batch.specs.PoolsView.{all_taken, taken, free_of}
use Rattle.batch.proofs.PoolLaws.{NoMore-all, all_taken-push}
use Rattle.lane_expr.specs.Steps.{expr_of}
use Rattle.lane_expr.specs.Kernels.{result_kind}
use Rattle.where_select.specs.Projects.{exprs_of, AreColumns}
use Rattle.where_select.proofs.Lacking.{free-left}
use Rattle.where_select.proofs.Projected.{AreColumns-push, set-same}
use Rattle.where_select.proofs.project.item_columns.Goals as goal

pub item_column-requires-clause-pools : goal.item_column-requires-clause-pools
item_column-requires-clause-pools c =
    ap (λ s. s.capacity) c.loop-i.invariant.taken ∙ (NoMore-all c.args.pools.now (map result_kind (take c.loop-i.i c.args.items.now))).capacity ∙ c.requires.pools

pub item_column-requires-clause-free : goal.item_column-requires-clause-free
item_column-requires-clause-free c =
    let items = c.args.items.now in
    let kinds = map result_kind items in
    let i = c.loop-i.i in
    let d = c.index-items-i.result in
    let within : i < length items = c.loop-i-test.true in
    let low : i < length kinds = omega (arith, length-map items result_kind) in
    let here : get_or kinds i Whole ≡ result_kind (get_or c.loop-i.items i d) = get_or-map result_kind items i d Whole within ∙ ap (λ xs. result_kind (get_or xs i d)) (sym c.loop-i.invariant.same) in
    let pools : all_taken c.args.pools.now (take i kinds) ≡ c.loop-i.pools = ap (all_taken c.args.pools.now) (take-map result_kind i items) ∙ sym c.loop-i.invariant.taken in
    subst (λ n. 0 < n) (ap₂ free_of pools here) (free-left c.args.pools.now kinds i Whole c.requires.free low)

pub push_reserved-requires : goal.push_reserved-requires
push_reserved-requires c =
    let i = c.loop-i.invariant in
    let long = ap length i.kinds in
    let a = length-map c.loop-i.columns.items payload_kind in
    let b = length-map (take c.loop-i.i c.args.items.now) result_kind in
    let e = length-take c.loop-i.i c.args.items.now in
    omega (arith, long, a, b, e, i.room, c.requires.few, c.loop-i-test.true)

pub loop-i-preserved : goal.loop-i-preserved
loop-i-preserved c =
    let texts = c.args.texts.now in
    let items = c.args.items.now in
    let i = c.loop-i.i in
    let d = c.index-items-i.result in
    let p = c.item_column.result in
    let pushed = c.push_reserved.ensures.items in
    let here : get_or c.loop-i.items i d ≡ get_or items i d = ap (λ xs. get_or xs i d) c.loop-i.invariant.same in
    let within : i < length items = c.loop-i-test.true in
    let next : take (i + 1) items ≡ take i items ++ get_or c.loop-i.items i d ∷ [] = take_more items i d within ∙ ap (λ x. take i items ++ x ∷ []) (sym here) in
    let kinds : map result_kind (take (i + 1) items) ≡ map result_kind (take i items) ++ result_kind (get_or c.loop-i.items i d) ∷ [] = ap (map result_kind) next ∙ map-append result_kind (take i items) (get_or c.loop-i.items i d ∷ []) in
    let exprs : exprs_of texts (take (i + 1) items) ≡ exprs_of texts (take i items) ++ expr_of texts (get_or c.loop-i.items i d).steps ∷ [] = ap (exprs_of texts) next ∙ map-append (λ k. expr_of texts k.steps) (take i items) (get_or c.loop-i.items i d ∷ []) in
    record {
      columns = subst (λ es. AreColumns texts c.args.batch.now es c.push_reserved.new.self.items) (sym exprs)
          (subst (AreColumns texts c.args.batch.now (exprs_of texts (take i items) ++ expr_of texts (get_or c.loop-i.items i d).steps ∷ [])) (sym pushed)
          (AreColumns-push texts c.args.batch.now (exprs_of texts (take i items)) c.loop-i.columns.items (expr_of texts (get_or c.loop-i.items i d).steps) p c.loop-i.invariant.columns c.item_column.ensures.results c.item_column.ensures.room));
      kinds = ap (map payload_kind) pushed ∙ map-append payload_kind c.loop-i.columns.items (p ∷ [])
          ∙ ap (λ k. map payload_kind c.loop-i.columns.items ++ k ∷ []) c.item_column.ensures.kind
          ∙ ap (λ ks. ks ++ result_kind (get_or c.loop-i.items i d) ∷ []) c.loop-i.invariant.kinds ∙ sym kinds;
      taken = c.item_column.ensures.taken ∙ ap (λ s. taken s (result_kind (get_or c.loop-i.items i d))) c.loop-i.invariant.taken
          ∙ sym (all_taken-push c.args.pools.now (map result_kind (take i items)) (result_kind (get_or c.loop-i.items i d)))
          ∙ ap (all_taken c.args.pools.now) (sym kinds);
      same = ap (set c.loop-i.items i) c.item_column.ensures.same ∙ set-same c.loop-i.items i d ∙ c.loop-i.invariant.same;
      room = c.push_reserved.ensures.capacity ∙ c.loop-i.invariant.room;
    }
