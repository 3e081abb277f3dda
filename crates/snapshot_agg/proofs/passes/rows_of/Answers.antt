use Rattle.std.specs.Prelude.{◌++◌, ◌∷◌, [], map}
use Rattle.std.proofs.Common.{sym, ◌∙◌, ap, subst, take}
use Rattle.std.proofs.lemmas.List.{map_more}
use Rattle.snapshot_agg.specs.Counting.{is_undefined_now, row_now}
use Rattle.snapshot_agg.specs.KeyRow.{IsKeyRow}
use Rattle.snapshot_agg.proofs.Touching.{fine_keys}
use Rattle.snapshot_agg.proofs.passes.rows_of.Goals as goal

pub loop-key-preserved : goal.loop-key-preserved
loop-key-preserved c =
    let g = c.args.groups.now in
    let ks = c.args.keys.now in
    let i = c.loop-key.key-index in
    let k = c.key-item.result in
    let low = c.loop-key-test.true in
    let h = subst (λ x. IsKeyRow x (is_undefined_now g k) (row_now g k)) c.in-Row.is c.in_ok-row_of.ensures in
    record {
      rows = c.in_ok-push_row-in-Row.ensures ∙ ap (λ l. l ++ c.in-Row.row ∷ []) c.loop-key.invariant.rows ∙ ap (λ o. map (row_now g) (take i ks) ++ o ∷ []) (h.1 ∙ ap (row_now g) c.key-item.is) ∙ sym (map_more (row_now g) ks i k low);
      defined = fine_keys (is_undefined_now g) ks i k low c.key-item.is h.0 c.loop-key.invariant.defined;
    }
