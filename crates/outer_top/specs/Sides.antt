-- What a side of a Top keeps.
use Rattle.std.specs.Prelude.{◌≡◌, ℕ, List, []}
use Rattle.tw_rows.specs.declared.edge.Edge.{Edge}
use Rattle.tw_rows.specs.declared.kind.CellKind.{CellKind}
use Rattle.sweep_laws.specs.Saving.{HaveBegun}
use Rattle.sweep_sides.specs.Sides.{IsSide}
use Rattle.sweep_sides.specs.Waiting.{queued, AreTimed}
use Rattle.outer_top.specs.declared.side.TopSide.{TopSide}
use Rattle.outer_top.specs.TopKeys.{kept_rows}
use Rattle.outer_top.specs.TopEvents.{AreSettled}
use Rattle.outer_top.specs.States.{TopKeeps}

-- it can be what is left, swept up to a time, after the edges came in and out was answered
pub record SideKeeps (s : TopSide) (to : ℕ) (came out : List Edge) : Type 0 where
  pub timed : AreTimed s.waiting
  pub settled : AreSettled s.tops.key.columns s.tops.by s.tops.most s.tops.keys.entries
  pub kept : TopKeeps s.tops.key.columns s.tops.by s.tops.most (kept_rows s.tops.keys.entries) (queued s.waiting) s.queues to came out

-- rows that began before a time, shown rows that did, and edges from it on, of such columns
pub record SideFits (kinds : List CellKind) (to : ℕ) (s : TopSide) : Type 0 where
  pub side : IsSide kinds to (kept_rows s.tops.keys.entries) s.waiting
  pub shown : HaveBegun kinds to s.queues

-- no row is kept or shown, and no edge waits
pub record IsEmpty (s : TopSide) : Type 0 where
  pub no_keys : s.tops.keys.entries ≡ []
  pub none_shown : s.queues ≡ []
  pub none : s.waiting ≡ []
