-- How much a clip holds.
use Rattle.std.specs.Prelude.{ℕ, ◌+◌, ◌*◌, ◌≤◌, List, filter, length}
use Rattle.std.proofs.Common.{arith}
use Rattle.std.proofs.lemmas.List.{length-map}
use Rattle.tw_rows.specs.Bag.{SameBag}
use Rattle.tw_rows.specs.declared.edge.Edge.{Edge}
use Rattle.tw_rows.proofs.Bags.{SameBag-refl}
use Rattle.edge_history.specs.History.{CellEvent, of}
use Rattle.edge_history.specs.Opens.{opens, singles}
use Rattle.edge_history.specs.Order.{many, is_from, IsHistory}
use Rattle.edge_history.specs.Side.{reaches}
use Rattle.edge_history.proofs.Waiting.{side_bound}
use Rattle.end_queue.specs.Pending.{Pending}
use Rattle.plan_model.specs.declared.node.Node.TheVariants.{Clip}
use Rattle.plan_laws.specs.Held.{may_hold}
use Rattle.sweep_sides.specs.Waiting.{queued}

-- no more edges wait than twice the events that do not end before the time
pub waiting_few : (h : List Edge) (waiting : List Pending) (to : ℕ) → IsHistory h → SameBag (queued waiting) (filter (is_from to) (singles h)) → length waiting ≤ 2 * many (reaches to) (of h)
waiting_few h waiting to k s =
    let b = side_bound h (opens to (of h)) (queued waiting) to k (SameBag-refl (opens to (of h))) s in
    let m = length-map waiting (λ (p : Pending). p.edge) in
    omega (arith, b, m)

pub clip_bound : (lk rk : List ℕ) (x to l n m : ℕ) (a b own : List CellEvent) → l ≤ many (reaches to) own → n ≤ 2 * many (reaches to) a → m ≤ 2 * many (reaches to) b →
    l + n + m ≤ may_hold (Clip 0 1 lk rk) x to a b own
clip_bound lk rk x to l n m a b own rows left right = omega (arith, rows, left, right)
