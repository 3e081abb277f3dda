-- The starts that are due of a side of which ends are not kept.
use Rattle.std.specs.Prelude.{◌≡◌, ℕ, ◌+◌, ◌≤◌, List, ◌++◌, map, filter}
use Rattle.tw_rows.specs.Instant.{inf}
use Rattle.tw_rows.specs.Bag.{SameBag, total}
use Rattle.tw_rows.specs.declared.edge.Edge.{Edge}
use Rattle.tw_rows.proofs.Bags.{SameBag-trans}
use Rattle.edge_history.specs.Order.{failing, is_from, is_below, IsHistory}
use Rattle.edge_history.specs.History.{of}
use Rattle.edge_history.specs.Balance.{news}
use Rattle.edge_history.specs.Opens.{singles, is_start}
use Rattle.edge_history.proofs.Retaining.{events_of_are, valid_from, AreEvents-from}
use Rattle.edge_history.proofs.Waiting.{starts_due}
use Rattle.sweep_laws.specs.Sweeps.{SyncsRise, IsDue}
use Rattle.sweep_laws.specs.Unending.{unending}
use Rattle.sweep_laws.proofs.Unending.{starts_are_news, unending_valid}
use Rattle.sweep_sides.specs.Starts.{starts_from}

-- they are the news of its events as if they never ended
pub starts_due_are : (came new waiting due rest : List Edge) (c d : ℕ) → c ≤ d → d ≤ inf → IsHistory (came ++ new) → failing (is_from c) new ≡ 0 →
    SameBag waiting (starts_from c came) → ((w : Edge → ℕ) → total w due + total w rest ≡ total w waiting + total w (filter is_start (singles new))) →
    failing (is_below d) due ≡ 0 → failing (is_from d) rest ≡ 0 → SyncsRise 0 due → IsDue (map unending (of (came ++ new))) c d due
starts_due_are came new waiting due rest c d low high whole from waits parts below later up =
    let valid = valid_from (came ++ new) (of (came ++ new)) whole.real (events_of_are (came ++ new) whole) in
    record {
      low = low;
      high = high;
      lives = unending_valid (of (came ++ new)) (AreEvents-from (of (came ++ new)) valid);
      news_of = SameBag-trans due (filter is_start (news c d (of (came ++ new)))) (news c d (map unending (of (came ++ new))))
          (starts_due came new waiting due rest c d low high whole from waits parts below later) (starts_are_news c d (of (came ++ new)) high valid);
      order = up;
    }
