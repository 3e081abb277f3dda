-- The definitions, worked out on a few edges.
use Rattle.std.specs.Prelude.{◌≡◌, ℕ, ◌≤◌, pos, true, false, cond, List, [], ◌∷◌, filter, nat_eq, refl}
use Rattle.std.proofs.Common.{arith}
use Rattle.tw_rows.specs.Instant.{inf}
use Rattle.tw_rows.specs.Bag.{SameBag}
use Rattle.tw_rows.specs.Event.{cut}
use Rattle.tw_rows.specs.declared.cells.Datum.{Datum}
use Rattle.tw_rows.specs.declared.cells.Datum.TheVariants.{Int, Text}
use Rattle.tw_rows.specs.declared.edge.Edge.{Edge}
use Rattle.tw_rows.specs.SameCells.{same_cells}
use Rattle.edge_history.specs.Order.{many, failing, is_end, Rises, is_real, is_below, ends_it, starts_it, IsPaired}
use Rattle.edge_history.specs.History.{CellEvent, end_all, of, StandsBelow}
use Rattle.edge_history.specs.Balance.{given, taken, is_settled, news}
use Rattle.edge_history.specs.Side.{reaches}
use Rattle.edge_history.specs.Made.{edges_where, edges_with}

-- two rows of cells
abbrev apple : List Datum
apple = Int (pos 7) ∷ Text 0 ∷ []

abbrev pear : List Datum
pear = Int (pos 7) ∷ Text 1 ∷ []

-- an interval edge, a start edge, and an end edge that names a start
abbrev interval : List Datum → ℕ → ℕ → Edge
interval cells start end = record { sync = start; other = end; cells = cells }

abbrev start_at : List Datum → ℕ → Edge
start_at cells start = record { sync = start; other = inf; cells = cells }

abbrev end_at : List Datum → ℕ → ℕ → Edge
end_at cells end start = record { sync = end; other = start; cells = cells }

abbrev event : List Datum → ℕ → ℕ → CellEvent
event cells start end = record { row = cells; start = start; end = end }

equal_cells : same_cells apple apple ≡ true
unfolding same_cells
equal_cells = refl

other_cells : same_cells apple pear ≡ false
unfolding same_cells
other_cells = refl

shorter_cells : same_cells apple (Int (pos 7) ∷ []) ≡ false
unfolding same_cells
shorter_cells = refl

-- data of two variants differ, whatever they hold
other_variants : same_cells (Int (pos 1) ∷ []) (Text 1 ∷ []) ≡ false
unfolding same_cells
other_variants = refl

which_are_ends : is_end (interval apple 1 5) ∷ is_end (start_at apple 2) ∷ is_end (end_at apple 5 2) ∷ []
    ≡ false ∷ false ∷ true ∷ []
unfolding inf
which_are_ends = refl

-- an interval, and a start with its end
an_interval_and_a_start : of (interval apple 1 5 ∷ start_at pear 2 ∷ end_at pear 6 2 ∷ [])
    ≡ event apple 1 5 ∷ event pear 2 6 ∷ []
unfolding same_cells inf
an_interval_and_a_start = refl

a_start_without_its_end : of (start_at apple 2 ∷ []) ≡ event apple 2 inf ∷ []
unfolding same_cells inf
a_start_without_its_end = refl

-- of two starts at one time one ends. Which of them does not matter: as multisets the events are the same
two_equal_starts : of (start_at apple 2 ∷ start_at apple 2 ∷ end_at apple 6 2 ∷ [])
    ≡ event apple 2 6 ∷ event apple 2 inf ∷ []
unfolding same_cells inf
two_equal_starts = refl

either_of_them_ends : SameBag (of (start_at apple 2 ∷ start_at apple 2 ∷ end_at apple 6 2 ∷ []))
    (event apple 2 inf ∷ event apple 2 6 ∷ [])
unfolding same_cells inf
either_of_them_ends = record { weigh = λ w. omega arith }

-- an end names its start: the earlier start of the same cells stays open
the_named_start_ends : of (start_at apple 1 ∷ start_at apple 3 ∷ end_at apple 7 3 ∷ [])
    ≡ event apple 1 inf ∷ event apple 3 7 ∷ []
unfolding same_cells inf
the_named_start_ends = refl

-- an end names its cells
the_named_cells_end : of (start_at apple 1 ∷ start_at pear 1 ∷ end_at pear 7 1 ∷ [])
    ≡ event apple 1 inf ∷ event pear 1 7 ∷ []
unfolding same_cells inf
the_named_cells_end = refl

-- an end at the time of another start stands before it
abbrev handed_over : List Edge
handed_over = start_at apple 1 ∷ end_at apple 4 1 ∷ start_at pear 4 ∷ []

handed_over_events : of handed_over ≡ event apple 1 4 ∷ event pear 4 inf ∷ []
unfolding same_cells inf
handed_over_events = refl

handed_over_rises : Rises 0 handed_over
unfolding inf
handed_over_rises = (omega arith, (omega arith, (omega arith, tt)))

start_before_end : ¬ (Rises 0 (start_at apple 1 ∷ start_at pear 4 ∷ end_at apple 4 1 ∷ []))
unfolding inf
start_before_end h = omega (arith, h.1.1.0)

-- no edge comes at infinity, and none ends where it starts
real_edges : failing is_real handed_over ≡ 0
unfolding inf
real_edges = refl

edges_that_are_not_real : failing is_real (start_at apple inf ∷ interval apple 3 3 ∷ end_at apple inf 1 ∷ []) ≡ 3
unfolding inf
edges_that_are_not_real = refl

-- an end that names no start is not paired
an_end_without_its_start : ¬ (IsPaired (start_at apple 1 ∷ end_at apple 4 2 ∷ []))
unfolding same_cells inf
an_end_without_its_start h = too_many (h apple 2)
  where
    too_many : many (ends_it apple 2) (start_at apple 1 ∷ end_at apple 4 2 ∷ [])
        ≤ many (starts_it apple 2) (start_at apple 1 ∷ end_at apple 4 2 ∷ []) → ⊥
    too_many k = omega (arith, k)

-- an interval has its end, so no other edge may end it
an_interval_is_no_start : many (starts_it apple 1) (interval apple 1 5 ∷ []) ≡ 0
unfolding same_cells inf
an_interval_is_no_start = refl

-- below 5 the end at 6 is not known
what_is_known_below : cut 5 (of (start_at pear 2 ∷ end_at pear 6 2 ∷ [])) ≡ cut 5 (of (start_at pear 2 ∷ []))
unfolding same_cells inf
what_is_known_below = refl

the_edges_below : filter (is_below 4) handed_over ≡ start_at apple 1 ∷ []
the_edges_below = refl

-- an interval that ends later tells of more than is known
not_settled_yet : failing (is_settled 3) (interval apple 1 5 ∷ []) ≡ 1
unfolding inf
not_settled_yet = refl

settled_then : failing (is_settled 6) (interval apple 1 5 ∷ []) ≡ 0
unfolding inf
settled_then = refl

-- by balance: what the edges give, and what the end takes back
what_edges_give : given (start_at apple 1) ∷ given (end_at apple 4 1) ∷ taken (end_at apple 4 1)
    ≡ event apple 1 inf ∷ event apple 1 4 ∷ event apple 1 inf ∷ []
unfolding inf
what_edges_give = refl

-- the news of a life [3, 5)
news_of_a_life : news 0 9 (event apple 3 5 ∷ []) ≡ start_at apple 3 ∷ end_at apple 5 3 ∷ []
unfolding inf
news_of_a_life = refl

news_of_its_start : news 0 5 (event apple 3 5 ∷ []) ≡ start_at apple 3 ∷ []
unfolding inf
news_of_its_start = refl

news_of_its_end : news 4 9 (event apple 3 5 ∷ []) ≡ end_at apple 5 3 ∷ []
unfolding inf
news_of_its_end = refl

-- an event that never ends has no news of its end
no_news_of_an_end : news 4 inf (event apple 3 inf ∷ []) ≡ []
unfolding inf
no_news_of_an_end = refl

-- below 4 it is known that the life [3, 5) has started, and below 6 that it has ended
a_start_stands : StandsBelow 4 (start_at apple 3 ∷ []) (event apple 3 5 ∷ [])
unfolding same_cells inf
a_start_stands = record {
  history = record { order = (omega arith, tt); real = refl; paired = λ cells start. omega arith };
  below = refl;
  same = record { weigh = λ w. refl };
}

a_start_does_not_stand_later : ¬ (StandsBelow 6 (start_at apple 3 ∷ []) (event apple 3 5 ∷ []))
unfolding same_cells inf
a_start_does_not_stand_later k = let z = k.same.weigh (λ e. cond (nat_eq e.end 5) 1 0) in omega (arith, z)

its_end_stands : StandsBelow 6 (start_at apple 3 ∷ end_at apple 5 3 ∷ []) (event apple 3 5 ∷ [])
unfolding same_cells inf
its_end_stands = record {
  history = record { order = (omega arith, (omega arith, tt)); real = refl; paired = λ cells start. omega arith };
  below = refl;
  same = record { weigh = λ w. refl };
}

-- an interval stands for its life at once, though its end is not known yet
an_interval_stands : StandsBelow 4 (interval apple 3 5 ∷ []) (event apple 3 5 ∷ [])
unfolding same_cells inf
an_interval_stands = record {
  history = record { order = (omega arith, tt); real = refl; paired = λ cells start. omega arith };
  below = refl;
  same = record { weigh = λ w. refl };
}

-- a start at 4 is no answer below 4
a_later_start_does_not_stand : ¬ (StandsBelow 4 (start_at apple 4 ∷ []) (event apple 4 5 ∷ []))
a_later_start_does_not_stand k = let z = k.below in absurd (cc)

-- from 5 on a life that ends at 5 is retained, and from 6 on it is not
retained_at_its_end : filter (reaches 5) (event apple 3 5 ∷ []) ≡ event apple 3 5 ∷ []
retained_at_its_end = refl

not_retained_later : filter (reaches 6) (event apple 3 5 ∷ []) ≡ []
not_retained_later = refl

-- an end edge ends one of the events that were retained
an_end_comes_in : end_all (end_at apple 6 2 ∷ []) (event apple 2 inf ∷ event pear 2 inf ∷ [])
    ≡ event apple 2 6 ∷ event pear 2 inf ∷ []
unfolding same_cells inf
an_end_comes_in = refl

-- rows that pass a test, and rows that are replaced
tested_edges : edges_where (same_cells pear) handed_over ≡ start_at pear 4 ∷ []
unfolding same_cells
tested_edges = refl

replaced_edges : edges_with (λ cells. pear) (start_at apple 1 ∷ end_at apple 4 1 ∷ [])
    ≡ start_at pear 1 ∷ end_at pear 4 1 ∷ []
replaced_edges = refl
