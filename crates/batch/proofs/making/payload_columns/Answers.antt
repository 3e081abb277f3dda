use Rattle.std.proofs.Common.{◌∙◌, ◌++◌, [], ◌∷◌, ap, sym, subst, map, take, length}
use Rattle.std.specs.Prelude.{All}
use Rattle.std.proofs.lemmas.List.Elements.{All-push}
use Rattle.tw_rows.specs.Kinds.{cell_kind_of}
use Rattle.batch.specs.Columns.{IsColumn}
use Rattle.batch.specs.PoolsView.{all_taken, taken}
use Rattle.batch.proofs.PoolLaws.{some_told, NoMore-all, always, kinds_next, columns_next, all_taken-push}
use Rattle.batch.proofs.making.payload_columns.Goals as goal

pub returns-in_err-payload_column-clause-err : goal.returns-in_err-payload_column-clause-err
returns-in_err-payload_column-clause-err c = always c.from_residual.result _ (some_told _ _ _ c.args.kinds.now c.loop-kind.kind-index _ c.cell_of.result c.loop-kind-test.true c.cell_of.ensures c.loop-kind.invariant.taken c.payload_column.ensures.left)

pub returns-in_err-push-clause-err : goal.returns-in_err-push-clause-err
returns-in_err-push-clause-err c = always c.from_residual-in_err-push.result _ (some_told _ _ _ c.args.kinds.now c.loop-kind.kind-index _ c.cell_of.result c.loop-kind-test.true c.cell_of.ensures c.loop-kind.invariant.taken c.payload_column.ensures.left)

pub loop-kind-preserved : goal.loop-kind-preserved
loop-kind-preserved c =
    let next = kinds_next c.args.kinds.now c.loop-kind.kind-index _ c.cell_of.result c.loop-kind-test.true c.cell_of.ensures in
    let capacity = ap (λ s. s.capacity) c.loop-kind.invariant.taken ∙ (NoMore-all c.args.pools.now (map cell_kind_of (take c.loop-kind.kind-index c.args.kinds.now))).capacity in
    record {
      kinds = columns_next c.loop-kind.payload.items c.push.new.self.items c.in_ok-payload_column.field-0 c.cell_of.result c.in_ok-push.ensures.ok c.in_ok-payload_column.ensures.kind
          ∙ ap (λ ks. ks ++ c.cell_of.result ∷ []) c.loop-kind.invariant.kinds ∙ sym next;
      empty = subst (All (IsColumn 0 c.args.pools.now.capacity)) (sym c.in_ok-push.ensures.ok) (All-push (IsColumn 0 c.args.pools.now.capacity) c.loop-kind.payload.items c.in_ok-payload_column.field-0 c.loop-kind.invariant.empty (record {
        cells = ap length c.in_ok-payload_column.ensures.empty;
        room = c.in_ok-payload_column.ensures.capacity ∙ capacity;
      }));
      taken = c.payload_column.ensures.left ∙ ap (λ s. taken s c.cell_of.result) c.loop-kind.invariant.taken
          ∙ sym (all_taken-push c.args.pools.now (map cell_kind_of (take c.loop-kind.kind-index c.args.kinds.now)) c.cell_of.result)
          ∙ ap (all_taken c.args.pools.now) (sym next);
    }
