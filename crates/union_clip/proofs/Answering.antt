-- The columns of clipped events are those of the left rows.
use Rattle.std.specs.Prelude.{ℕ, cond, List}
use Rattle.std.proofs.Common.{◌∙◌}
use Rattle.tw_rows.specs.declared.kind.CellKind.{CellKind}
use Rattle.tw_rows.proofs.Bags.{total-map}
use Rattle.edge_history.specs.History.{CellEvent}
use Rattle.key_nodes.specs.Clips.{clip}
use Rattle.sweep_laws.specs.Saving.{store_all}
use Rattle.sweep_sides.specs.Sweeping.{AreStored}
use Rattle.union_clip.specs.Clipped.{clip_meets, clips}

pub clips_stored : (lk rk : List ℕ) (own : List CellKind) (a b : List CellEvent) → AreStored own a → AreStored own (clips lk rk a b)
clips_stored lk rk own a b h = total-map (λ (e : CellEvent). cond {A = ℕ} (store_all own e.row) 0 1) (clip (clip_meets lk rk) b) a ∙ h
