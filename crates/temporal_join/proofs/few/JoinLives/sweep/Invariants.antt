use Rattle.std.proofs.Common.{◌≡◌, ◌≤◌, ◌-◌, ℕ, [], map}
use Rattle.std.specs.Prelude.{All}
use Rattle.tw_rows.specs.Cells.{datum_kind}
use Rattle.sweep_laws.specs.Sweeps.{SyncsRise}
use Rattle.temporal_join.specs.Few.{SideFrom, SameLiveKeys, Gone}
use Rattle.temporal_join.proofs.few.JoinLives.sweep.Given as goal

abbrev pub invariant-instants : goal.invariant-instants
invariant-instants l = record {
  none_left : l.now_left.items ≡ [];
  none_right : l.now_right.items ≡ [];
  left_cells : All (λ e. map datum_kind e.cells ≡ l.fn.left.kinds) l.left.edges → All (λ e. map datum_kind e.cells ≡ l.fn.left.kinds) l.fn.left.edges;
  right_cells : All (λ e. map datum_kind e.cells ≡ l.fn.right.kinds) l.right.edges → All (λ e. map datum_kind e.cells ≡ l.fn.right.kinds) l.fn.right.edges;
  left_kinds : l.left.kinds ≡ l.fn.left.kinds;
  right_kinds : l.right.kinds ≡ l.fn.right.kinds;
  keys : SameLiveKeys l.fn.self l.self;
  left_up : SyncsRise 0 l.fn.left.edges → SyncsRise 0 l.left.edges;
  right_up : SyncsRise 0 l.fn.right.edges → SyncsRise 0 l.right.edges;
  gone : (from : ℕ) → from ≤ l.fn.first → SyncsRise 0 l.fn.left.edges → SyncsRise 0 l.fn.right.edges → SideFrom l.fn.first l.fn.self.left.lives l.fn.left.edges → SideFrom l.fn.first l.fn.self.right.lives l.fn.right.edges →
      Gone l.fn.self l.self from l.to l.t l.fn.left.edges l.left.edges l.fn.right.edges l.right.edges l.fn.answer.items l.answer.items;
}

abbrev pub decreases-instants : goal.decreases-instants
decreases-instants l = l.to - l.t
