-- How many entries a node may keep.
use Rattle.std.specs.Prelude.{ℕ, ◌+◌, ◌*◌, nat_lt, nat_le, Bool, true, false, cond, Option, Some, None, List, [], length, slice_get}
use Rattle.tw_rows.specs.Instant.{inf, later}
use Rattle.tw_rows.specs.Bag.{total}
use Rattle.tw_rows.specs.Event.{Event}
use Rattle.plan_model.specs.declared.node.Node.{Node}
use Rattle.plan_model.specs.declared.node.Node.TheVariants.{Delay, Hop, Duration, Extend, Session, Clip, Group, Coalesce, Top, Follow}
use Rattle.plan_model.specs.Meaning.{Sources, left_of, right_of, events, closes}

-- how many of the events do not end before m. Of [1, 3), [2, 5) and [4, inf), from 5 on: 2
abbrev pub reaching : {R : Type 0} → ℕ → List (Event R) → ℕ
reaching m es = total (λ e. cond (nat_le m e.end) 1 0) es

-- the number of a group's aggregates, and 0 for every other node
abbrev pub agg_count : Node → ℕ
agg_count (Group of key aggs) = length aggs
agg_count n = 0

-- the events of the node itself count, since its rows may outlive those that it read
abbrev pub counts_answers : Node → Bool
counts_answers (Hop of size period) = true
counts_answers (Duration of by) = true
counts_answers (Extend of by) = true
counts_answers (Session of timeout key) = true
counts_answers (Clip left right left_key right_key) = true
counts_answers (Coalesce of) = true
counts_answers (Top of key by count) = true
counts_answers (Follow left right left_key right_key within) = true
counts_answers n = false

-- the time from which on events that were read count: a delay's is the closing x of its child, and that of every other node
-- its own closing c
abbrev pub counted_from : Node → ℕ → ℕ → ℕ
counted_from (Delay of by) x c = x
counted_from n x c = c

-- the left events of a follow that may still be followed from c on: those whose start and the time within which it may is
-- above c. Within 5 of [1, 2) and [3, 4), from 6 on: 1
abbrev pub waiting : {R : Type 0} → Node → ℕ → List (Event R) → ℕ
waiting (Follow left right left_key right_key within) c es = total (λ e. cond (nat_lt c (later within e.start)) 1 0) es
waiting n c es = 0

-- how many entries a node may keep, by the closing x of its left child, its own closing c, the events that it read on the
-- left and on the right, and its own. A where over [1, inf), closed at 5, may keep 4
abbrev pub may_hold : {L R P : Type 0} → Node → (x c : ℕ) → List (Event L) → List (Event R) → List (Event P) → ℕ
may_hold n x c a b own = (4 + agg_count n) * ((reaching (counted_from n x c) a + reaching (counted_from n x c) b)
    + cond (counts_answers n) (reaching c own) 0 + waiting n c a)

abbrev pub may_hold_of : Sources → List Node → ℕ → ℕ → Option Node → ℕ
may_hold_of source nodes p i None = 0
may_hold_of source nodes p i (Some n) =
    may_hold n (left_of inf (λ s. p) (λ j. closes nodes j p) n) (closes nodes i p)
    (left_of [] source (events source nodes) n) (right_of [] (events source nodes) n) (events source nodes i)

-- how many entries the node of number i may keep after the punctuation p, up to which the sources are known. It speaks of
-- nodes that are no sources
abbrev pub node_may_hold : Sources → List Node → ℕ → ℕ → ℕ
node_may_hold source nodes p i = may_hold_of source nodes p i (slice_get nodes i)
