use Rattle.std.specs.Prelude.{filter, take}
use Rattle.std.proofs.Common.{◌+◌, ◌∙◌, ◌||◌, sym, ap, subst, List, ℕ}
use Rattle.std.proofs.lemmas.List.Folds.{list_any_more}
use Rattle.tw_rows.specs.declared.cells.Datum.{Datum}
use Rattle.tw_rows.specs.declared.edge.Edge.{Edge}
use Rattle.synopsis.specs.Held.{key_of, is_of_key}
use Rattle.union_clip.specs.Clipped.{clip_meets}
use Rattle.union_clip.specs.Leaving.{is_met, Leave}
use Rattle.union_clip.proofs.KeyRules.{keys_stay, keys_then}
use Rattle.union_clip.proofs.Leaving.{leave_untested, leave_tested}
use Rattle.union_clip.proofs.sweep.ClipRows.clip_rows.Goals as goal

pub loop-edge-init : goal.loop-edge-init
loop-edge-init c = record { left = leave_untested c.args.t c.args.self.now.left.rows c.args.answer.now.items; keys = keys_stay c.args.self.now }

pub loop-edge-preserved : goal.loop-edge-preserved
loop-edge-preserved c =
    let s = c.args.self.now in
    let now = c.loop-edge.self in
    let later = c.clip_key.new.self in
    let k = c.loop-edge.invariant in
    let f = c.in_ok-clip_key.ensures in
    let x = c.edge-item.result in
    let i = c.loop-edge.edge-index in
    let a1 = c.loop-edge.answer.items in
    let a2 = c.clip_key.new.answer.items in
    let es = c.args.now.now in
    let values = c.write.ensures.values ∙ (ap (λ cs. key_of cs c.items.result.now) k.keys.right ∙ ap (key_of s.right_key.columns) c.items.ensures) in
    let step : Leave (filter (is_of_key s.left.key (key_of s.right_key.columns x.cells)) now.left.rows) c.args.t now.left.rows later.left.rows a1 a2 =
    subst (λ (v : List Datum). Leave (filter (is_of_key s.left.key v) now.left.rows) c.args.t now.left.rows later.left.rows a1 a2) values
    (subst (λ (l : List ℕ). Leave (filter (is_of_key l c.write.new.self.values) now.left.rows) c.args.t now.left.rows later.left.rows a1 a2) k.keys.left f.left) in
    record {
      left = leave_tested (is_met s.left.key s.right_key.columns (take i es)) (is_of_key s.left.key (key_of s.right_key.columns x.cells)) (is_met s.left.key s.right_key.columns (take (i + 1) es))
          c.args.t s.left.rows now.left.rows later.left.rows c.args.answer.now.items a1 a2
          (λ r. list_any_more (λ (y : Edge). clip_meets s.left.key s.right_key.columns r.cells y.cells) es i x c.loop-edge-test.true
          ∙ ap (λ (y : Edge). is_met s.left.key s.right_key.columns (take i es) r || clip_meets s.left.key s.right_key.columns r.cells y.cells) (sym c.edge-item.is))
          k.left step;
      keys = keys_then s now later k.keys (record { left = f.keys.left; right = f.keys.right ∙ c.write.ensures.columns });
    }
