-- Where slices of an epoch end: the parts into which its edges are cut at rising times.
use Rattle.std.specs.Prelude.{ℕ, ◌+◌, ◌<◌, ◌≤◌, max, min, nat_lt, nat_le, cond, List, [], ◌∷◌, map, filter, flat_map}
use Rattle.std.specs.List.{fold}
use Rattle.tw_rows.specs.Bag.{total}
use Rattle.tw_rows.specs.declared.edge.Edge.{Edge}
use Rattle.edge_history.specs.Order.{many, is_below}
use Rattle.edge_stream.specs.Listing.{EdgeListView}

-- the edges of all lists
abbrev pub edges_of : List EdgeListView → List Edge
edges_of lists = flat_map (λ l. l.edges) lists

-- how many edges come below x. Of syncs 1, 1, 2 and 5 three come below 5
abbrev pub count_below : ℕ → List Edge → ℕ
count_below x es = many (is_below x) es

-- the same of several lists together
abbrev pub all_below : ℕ → List (List Edge) → ℕ
all_below x lists = total (λ l. count_below x l) lists

-- the greatest and the least of numbers, and the first argument where there are none
abbrev pub greatest_or : ℕ → List ℕ → ℕ
greatest_or other [] = other
greatest_or other (x ∷ xs) = fold max x xs

abbrev pub least_or : ℕ → List ℕ → ℕ
least_or other [] = other
least_or other (x ∷ xs) = fold min x xs

-- the syncs with edges below them. Of 1, 1, 2 and 5: 2 and 5
abbrev pub cuts : List Edge → List ℕ
cuts es = filter (λ x. nat_lt 0 (count_below x es)) (map (λ e. e.sync) es)

-- those of them with at most so many edges below them. Of 1, 1, 2 and 5, for 2 edges: 2
abbrev pub cuts_within : ℕ → List Edge → List ℕ
cuts_within batch es = filter (λ x. nat_le (count_below x es) batch) (cuts es)

-- where the first slice of the edges of an epoch ends, which all come below p: at p where they are at most `batch`; else at the
-- greatest sync with edges below it, and at most `batch`; where the edges of the first sync alone are more, at the second one, or
-- at p. Of syncs 1, 1, 2 and 5 and p = 9: at 2 for a batch of 1, at 5 for 3, at 9 for 4
abbrev pub slice_end : ℕ → ℕ → List Edge → ℕ
slice_end batch p es = cond (nat_le (count_below p es) batch) p (greatest_or (least_or p (cuts es)) (cuts_within batch es))

-- the greatest time up to p before which at most so many edges come, counted from a first time on. Of syncs 1, 1, 2 and 5, up to 9:
-- from 0 on 5 for 3 edges, and from 2 on 2 for none
pub record IsLastWithin (batch from p : ℕ) (es : List Edge) (last : ℕ) : Type 0 where
  pub low : from ≤ last
  pub high : last ≤ p
  pub few : count_below last es ≤ count_below from es + batch
  pub more : last < p → count_below from es + batch < count_below (last + 1) es
