-- The laws over whole plans.
use Rattle.std.specs.Prelude.{◌≡◌, ℕ, ◌<◌, true, Some, List, [], slice_get}
use Rattle.std.proofs.Common.{sym, ap, subst, arith}
use Rattle.tw_rows.specs.Instant.{inf}
use Rattle.tw_rows.specs.Bag.{SameBag}
use Rattle.tw_rows.specs.Event.{Event, alive, AreEvents, Known}
use Rattle.tw_rows.specs.Rows.{Row}
use Rattle.tw_rows.proofs.Bags.{SameBag-refl, SameBag-sym, SameBag-trans}
use Rattle.tw_rows.proofs.Lives.{alive_known}
use Rattle.plan_model.specs.declared.node.Node.{Node}
use Rattle.plan_model.specs.Meaning.{Sources, node_events, events, node_closes, closes, nothing, by_events, node_meaning, meaning, snapshots, IsOrdered, IsLevelled, left_of, right_of}
use Rattle.plan_model.proofs.Plans.{by_nodes, left_all, right_all}
use Rattle.plan_model.proofs.NodeLaws.{AgreesWith, node_agrees, node_known}
use Rattle.plan_model.proofs.SameEvents.{alive_same}

-- the events of each node are its meaning
pub events_agree : (source : Sources) (nodes : List Node) → IsOrdered nodes → IsLevelled nodes → (n : ℕ) → AgreesWith (events source nodes n) (meaning source nodes n)
events_agree source nodes ordered levelled =
    by_nodes {T = Unit {0}} [] nothing tt source (λ s. by_events (source s)) (λ s. tt) node_events node_meaning (λ n a b. tt) (λ es m u. AgreesWith es m) nodes
    ordered
    (record { same_events = λ has. SameBag-refl []; same_rows = λ t low. SameBag-refl [] })
    (λ s. record { same_events = λ has. SameBag-refl _; same_rows = λ t low. SameBag-refl _ })
    (λ i n there left right. node_agrees n _ _ _ _ left right (levelled source i n there))

-- a node whose rows are those of its events has, up to their order, those of its events that are alive
pub rows_of_events : (source : Sources) (nodes : List Node) → IsOrdered nodes → IsLevelled nodes → (i t : ℕ) (made meant : List (Event Row)) →
    events source nodes i ≡ made → meaning source nodes i ≡ by_events meant → SameBag (snapshots source nodes i t) (alive made t)
rows_of_events source nodes ordered levelled i t made meant of_events of_meaning =
    let has : (meaning source nodes i).has_events ≡ true = ap (λ m. m.has_events) of_meaning in
    let same : SameBag made meant =
    subst (λ es. SameBag es meant) of_events (subst (λ m. SameBag (events source nodes i) m.events) of_meaning ((events_agree source nodes ordered levelled i).same_events has)) in
    subst (λ rows. SameBag rows (alive made t)) (sym (ap (λ m. m.rows t) of_meaning)) (SameBag-sym _ _ (alive_same made meant t same))

-- of each node the same is known below its closing
pub all_known : (p : ℕ) (source later_source : Sources) (nodes : List Node) → IsOrdered nodes → ((s : ℕ) → Known p (source s) (later_source s)) →
    (n : ℕ) → Known (closes nodes n p) (events source nodes n) (events later_source nodes n)
all_known p source later_source nodes ordered known =
    by_nodes inf [] [] (λ s. p) source later_source node_closes node_events node_events Known nodes ordered
    (record { low = omega arith; left_valid = tt; right_valid = tt; same = SameBag-refl [] })
    known
    (λ i n there left right. node_known n _ _ _ _ _ _ left right)

-- and so of what a node reads
pub left_known : (p : ℕ) (source later_source : Sources) (nodes : List Node) → IsOrdered nodes → ((s : ℕ) → Known p (source s) (later_source s)) → (i : ℕ) (n : Node) → slice_get nodes i ≡ Some n →
    Known (left_of inf (λ s. p) (λ j. closes nodes j p) n) (left_of [] source (events source nodes) n) (left_of [] later_source (events later_source nodes) n)
left_known p source later_source nodes ordered known i n there =
    left_all Known inf [] [] (λ s. p) source later_source (λ j. closes nodes j p) (events source nodes) (events later_source nodes) i n (ordered i n there).0 known
    (λ j lower. all_known p source later_source nodes ordered known j)

pub right_known : (p : ℕ) (source later_source : Sources) (nodes : List Node) → IsOrdered nodes → ((s : ℕ) → Known p (source s) (later_source s)) → (i : ℕ) (n : Node) → slice_get nodes i ≡ Some n →
    Known (right_of inf (λ j. closes nodes j p) n) (right_of [] (events source nodes) n) (right_of [] (events later_source nodes) n)
right_known p source later_source nodes ordered known i n there =
    right_all Known inf [] [] (λ j. closes nodes j p) (events source nodes) (events later_source nodes) i n (ordered i n there).1
    (record { low = omega arith; left_valid = tt; right_valid = tt; same = SameBag-refl [] })
    (λ j lower. all_known p source later_source nodes ordered known j)

-- the events of each node are events, where those of the sources are
pub AreEvents-events : (source : Sources) (nodes : List Node) → IsOrdered nodes → ((s : ℕ) → AreEvents (source s)) → (n : ℕ) → AreEvents (events source nodes n)
AreEvents-events source nodes ordered valid n =
    (all_known 0 source source nodes ordered (λ s. record { low = omega arith; left_valid = valid s; right_valid = valid s; same = SameBag-refl _ }) n).left_valid

-- what each node is below its closing depends on what is known of the sources at p
pub snapshots_final : (p : ℕ) (source later_source : Sources) (nodes : List Node) → IsOrdered nodes → IsLevelled nodes → ((s : ℕ) → Known p (source s) (later_source s)) →
    (n t : ℕ) → t < closes nodes n p → SameBag (snapshots source nodes n t) (snapshots later_source nodes n t)
snapshots_final p source later_source nodes ordered levelled known n t below =
    let k = all_known p source later_source nodes ordered known n in
    let high : t < inf = (let low = k.low in omega arith) in
    SameBag-trans _ _ _ (SameBag-sym _ _ ((events_agree source nodes ordered levelled n).same_rows t high))
    (SameBag-trans _ _ _ (alive_known _ t _ _ below k.low k.same) ((events_agree later_source nodes ordered levelled n).same_rows t high))
