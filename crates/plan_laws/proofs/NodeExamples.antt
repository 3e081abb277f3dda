-- The definitions, worked out over a table with the text `a`, and over one with the texts `a` and `b`.
use Rattle.std.specs.Prelude.{◌≡◌, ℕ, pos, negsuc, nat_eq, cond, zero, true, false, List, [], ◌∷◌, ◌++◌, refl}
use Rattle.std.proofs.Common.{arith}
use Rattle.std.proofs.lemmas.List.Elements.{All-nil, All-cons}
use Rattle.tw_rows.specs.Instant.{inf}
use Rattle.tw_rows.specs.Event.{Event}
use Rattle.tw_rows.specs.Rows.{Row}
use Rattle.tw_rows.specs.declared.row.Value.TheVariants.{Int as IntValue, Text as TextValue}
use Rattle.tw_rows.specs.declared.cells.Datum.{Datum}
use Rattle.tw_rows.specs.declared.cells.Datum.TheVariants.{Int, Bool as Flag, Text}
use Rattle.tw_rows.specs.declared.edge.Edge.{Edge}
use Rattle.tw_rows.specs.SameCells.{same_cells}
use Rattle.tw_rows.specs.Cells.{ArePlaced}
use Rattle.tw_rows.proofs.Bags.{SameBag-refl}
use Rattle.key_nodes.specs.Shards.{of_shard, over_shards}
use Rattle.edge_history.specs.Order.{IsHistory}
use Rattle.edge_history.specs.History.{CellEvent}
use Rattle.plan_model.specs.declared.expr.ExprNode.{ExprNode}
use Rattle.plan_model.specs.declared.expr.ExprNode.TheVariants.{Column, Int as ConstInt, Bool as ConstBool}
use Rattle.plan_model.specs.declared.node.Node.TheVariants.{Duration, Join, Mean, Follow}
use Rattle.plan_model.specs.RowOps.{key_in}
use Rattle.plan_model.specs.Nodes.{node_in}
use Rattle.plan_model.specs.Meaning.{node_events}
use Rattle.plan_model.specs.CellOps.{datum_int}
use Rattle.plan_laws.specs.Readings.{value_by}
use Rattle.plan_laws.specs.Places.{read_events, EdgesArePlaced}
use Rattle.plan_laws.specs.Standing.{StandsRead}
use Rattle.plan_laws.specs.Selected.{read_edge, tested_edges, AreSelected}
use Rattle.plan_laws.specs.Keeping.{plain_cells, Keeps, KeepsAhead}
use Rattle.plan_laws.specs.Shards.{any_shard, rows_of_shard}

abbrev a : List ℕ
a = 97 ∷ []

abbrev b : List ℕ
b = 98 ∷ []

-- a row of one place, over [start, end); the same row of a text
abbrev placed : ℕ → ℕ → ℕ → CellEvent
placed id start end = record { row = Text id ∷ []; start = start; end = end }

abbrev text : List ℕ → ℕ → ℕ → Event Row
text t start end = record { row = TextValue t ∷ []; start = start; end = end }

ints : datum_int (Int (negsuc 4)) ∷ datum_int (Flag true) ∷ datum_int (Text 3) ∷ [] ≡ negsuc 4 ∷ pos 0 ∷ pos 0 ∷ []
ints = refl

-- the place 0 is `a`, and the place 1 is that of no text: past its end a table has the empty text
one_text : read_events (a ∷ []) (placed 0 3 5 ∷ placed 1 4 6 ∷ []) ≡ text a 3 5 ∷ text [] 4 6 ∷ []
one_text = refl

-- a table grown by one text
two_texts : read_events (a ∷ b ∷ []) (placed 0 3 5 ∷ placed 1 4 6 ∷ []) ≡ text a 3 5 ∷ text b 4 6 ∷ []
two_texts = refl

no_events : read_events (a ∷ []) [] ≡ []
no_events = refl

place_0 : ArePlaced (a ∷ []) (Text 0 ∷ Int (pos 7) ∷ [])
place_0 = (omega arith, (tt, tt))

place_1 : ArePlaced (a ∷ []) (Text 1 ∷ []) → ⊥
place_1 h = omega (arith, h.0)

-- a join of places that no texts have, and of one text at two places, has an event when it is read, and none of cells
abbrev joined_read : List (List ℕ) → ℕ → ℕ → List (Event Row)
joined_read texts i j = node_events (Join 0 1 (0 ∷ []) (0 ∷ [])) (read_events texts (placed i 1 5 ∷ [])) (read_events texts (placed j 1 5 ∷ []))

abbrev joined_cells : ℕ → ℕ → List CellEvent
joined_cells i j = node_in plain_cells (Join 0 1 (0 ∷ []) (0 ∷ [])) (placed i 1 5 ∷ []) (placed j 1 5 ∷ [])

without_places : joined_read (a ∷ []) 1 2 ≡ text [] 1 5 ∷ []
without_places = refl

with_one_text_twice : joined_read (a ∷ a ∷ []) 0 1 ≡ text a 1 5 ∷ []
with_one_text_twice = refl

neither_of_cells : joined_cells 1 2 ++ joined_cells 0 1 ≡ []
unfolding same_cells
neither_of_cells = refl

-- where the table is distinct and has the places, both have the event or neither has
of_equal_places : joined_cells 0 0 ≡ placed 0 1 5 ∷ []
unfolding same_cells
of_equal_places = refl

of_their_text : joined_read (a ∷ b ∷ []) 0 0 ++ joined_read (a ∷ b ∷ []) 0 1 ≡ text a 1 5 ∷ []
of_their_text = refl

-- an average of cells, read, is that of what is read: -3 by 2 rows is -2, and the count goes
abbrev summed : List CellEvent
summed = record { row = Text 0 ∷ Int (negsuc 2) ∷ Int (pos 2) ∷ []; start = 1; end = 5 } ∷ []

mean_of_cells : node_in plain_cells (Mean 0 (1 ∷ [])) summed [] ≡ record { row = Text 0 ∷ Int (negsuc 1) ∷ []; start = 1; end = 5 } ∷ []
mean_of_cells = refl

mean_of_rows : node_events (Mean 0 (1 ∷ [])) (read_events (a ∷ []) summed) [] ≡ record { row = TextValue a ∷ IntValue (negsuc 1) ∷ []; start = 1; end = 5 } ∷ []
mean_of_rows = refl

-- of two right starts the next one is followed, and of another key none
followed_cells : node_in plain_cells (Follow 0 1 (0 ∷ []) (0 ∷ []) 5) (placed 0 1 2 ∷ []) (placed 0 4 5 ∷ placed 0 5 6 ∷ placed 1 3 4 ∷ []) ≡ placed 0 4 6 ∷ []
unfolding same_cells inf
followed_cells = refl

followed_rows : node_events (Follow 0 1 (0 ∷ []) (0 ∷ []) 5) (text a 1 2 ∷ []) (text a 4 5 ∷ text a 5 6 ∷ text b 3 4 ∷ []) ≡ text a 4 6 ∷ []
unfolding inf
followed_rows = refl

-- a join by shards of its keys, the place 0 in the shard 1 and the place 1 in the shard 0: the same events, shard by shard
abbrev shard_of : List Datum → ℕ
shard_of (Text zero ∷ rest) = 1
shard_of row = 0

abbrev sides : List CellEvent
sides = placed 0 1 5 ∷ placed 1 2 6 ∷ []

join_whole : node_in plain_cells (Join 0 1 (0 ∷ []) (0 ∷ [])) sides sides ≡ placed 0 1 5 ∷ placed 1 2 6 ∷ []
unfolding same_cells
join_whole = refl

join_by_shards : over_shards (λ s. node_in plain_cells (Join 0 1 (0 ∷ []) (0 ∷ []))
    (of_shard (λ r. shard_of (key_in plain_cells (0 ∷ []) r)) s sides) (of_shard (λ r. shard_of (key_in plain_cells (0 ∷ []) r)) s sides)) 2
    ≡ placed 1 2 6 ∷ placed 0 1 5 ∷ []
unfolding same_cells
join_by_shards = refl

-- with no key column all rows have one key, so that one shard has all of them
join_without_key : over_shards (λ s. node_in plain_cells (Join 0 1 [] []) (of_shard (λ r. shard_of (key_in plain_cells [] r)) s (placed 0 1 5 ∷ []))
    (of_shard (λ r. shard_of (key_in plain_cells [] r)) s (placed 1 2 6 ∷ []))) 2
    ≡ record { row = Text 0 ∷ Text 1 ∷ []; start = 2; end = 5 } ∷ []
unfolding same_cells
join_without_key = refl

rows_of_1 : rows_of_shard (λ n. cond (nat_eq n 6) 0 1) 1 (5 ∷ 6 ∷ 7 ∷ []) ≡ 5 ∷ 7 ∷ []
rows_of_1 = refl

in_one_shard : any_shard (nat_eq 1) 2 ∷ any_shard (nat_eq 1) 1 ∷ any_shard (nat_eq 1) 0 ∷ [] ≡ true ∷ false ∷ false ∷ []
in_one_shard = refl

-- a start at 3 of the place 0, and its end at 5
abbrev start_3 : Edge
start_3 = record { sync = 3; other = inf; cells = Text 0 ∷ [] }

abbrev end_5 : Edge
end_5 = record { sync = 5; other = 3; cells = Text 0 ∷ [] }

start_is_history : IsHistory (start_3 ∷ [])
unfolding inf
start_is_history = record { order = (omega arith, tt); real = refl; paired = λ row start. omega arith }

start_has_place : EdgesArePlaced (a ∷ []) (start_3 ∷ [])
start_has_place = All-cons (λ e. ArePlaced (a ∷ []) e.cells) start_3 [] (omega arith, tt) (All-nil (λ e. ArePlaced (a ∷ []) e.cells))

-- below 4 the start stands, read, for `a` over [3, 5)
start_stands : StandsRead (a ∷ []) 4 (start_3 ∷ []) (text a 3 5 ∷ [])
unfolding inf
start_stands = record {
  history = start_is_history;
  below = refl;
  placed = start_has_place;
  known = record { low = omega arith; left_valid = (omega arith, omega arith, tt); right_valid = (omega arith, omega arith, tt); same = SameBag-refl _ };
}

-- a duration of 2 over a start at 3: below 4 it tells the start, and below 6 the end at 5 too
duration_tells_a_start : Keeps plain_cells (Duration 0 2) (a ∷ []) 4 inf (start_3 ∷ []) [] (start_3 ∷ [])
unfolding inf
duration_tells_a_start = record {
  left_history = start_is_history;
  right_history = record { order = tt; real = refl; paired = λ row start. omega arith };
  left_placed = start_has_place;
  right_placed = All-nil (λ e. ArePlaced (a ∷ []) e.cells);
  told = record { order = (omega arith, tt); settled = refl; stands = SameBag-refl _ };
}

duration_tells_an_end : Keeps plain_cells (Duration 0 2) (a ∷ []) 6 inf (start_3 ∷ []) [] (start_3 ∷ end_5 ∷ [])
unfolding inf
duration_tells_an_end = record {
  left_history = start_is_history;
  right_history = record { order = tt; real = refl; paired = λ row start. omega arith };
  left_placed = start_has_place;
  right_placed = All-nil (λ e. ArePlaced (a ∷ []) e.cells);
  told = record { order = (omega arith, (omega arith, tt)); settled = refl; stands = record { weigh = λ w. omega arith } };
}

-- the same where the start and its end went out at once, by an interval edge
duration_tells_ahead : KeepsAhead plain_cells (Duration 0 2) (a ∷ []) 4 inf (start_3 ∷ []) [] (record { sync = 3; other = 5; cells = Text 0 ∷ [] } ∷ [])
unfolding inf
duration_tells_ahead = record {
  left_history = start_is_history;
  right_history = record { order = tt; real = refl; paired = λ row start. omega arith };
  left_placed = start_has_place;
  right_placed = All-nil (λ e. ArePlaced (a ∷ []) e.cells);
  told = record { order = (omega arith, tt); real = refl; below = refl; told = SameBag-refl _; ahead = λ w. omega arith };
}

-- of a start of the cells 0, 7 the items column 1 and 5 make a start of 7, 5, and a Where keeps it where its test is true
abbrev start_of : List Datum → Edge
start_of row = record { sync = 3; other = inf; cells = row }

abbrev items : List (List ExprNode)
items = (Column 1 ∷ []) ∷ (ConstInt (pos 5) ∷ []) ∷ []

read_start : read_edge (a ∷ []) (start_of (Text 0 ∷ Int (pos 7) ∷ [])) ≡ record { sync = 3; other = inf; row = TextValue a ∷ IntValue (pos 7) ∷ [] }
read_start = refl

selected_start : AreSelected (a ∷ []) items (start_of (Text 0 ∷ Int (pos 7) ∷ []) ∷ []) (start_of (Int (pos 7) ∷ Int (pos 5) ∷ []) ∷ [])
selected_start = refl

nothing_selected : AreSelected (a ∷ []) items [] []
nothing_selected = refl

-- with the text `b` at two places a column of texts is selected by either
either_place : AreSelected (a ∷ b ∷ b ∷ []) ((Column 0 ∷ []) ∷ []) (start_of (Text 1 ∷ []) ∷ []) (start_of (Text 2 ∷ []) ∷ [])
either_place = refl

all_tested : tested_edges (a ∷ []) (ConstBool true ∷ []) (start_3 ∷ end_5 ∷ []) ≡ start_3 ∷ end_5 ∷ []
all_tested = refl

none_tested : tested_edges (a ∷ []) (ConstBool false ∷ []) (start_3 ∷ end_5 ∷ []) ≡ []
none_tested = refl

-- places read by a text for each: 0 as `a`, and each other as `b`
by_text : value_by (λ id. cond (nat_eq id 0) a b) (Text 0) ∷ value_by (λ id. cond (nat_eq id 0) a b) (Text 7) ∷ value_by (λ id. a) (Int (pos 7)) ∷ []
    ≡ TextValue a ∷ TextValue b ∷ IntValue (pos 7) ∷ []
by_text = refl
