-- What a step of an operator owes, whatever its node.
use Rattle.std.specs.Prelude.{◌≡◌, ℕ, Option, List, ◌++◌}
use Rattle.tw_rows.specs.Event.{alive}
use Rattle.tw_rows.specs.declared.edge.Edge.{Edge}
use Rattle.edge_history.specs.Order.{is_below, is_from, failing, IsHistory}
use Rattle.plan_model.specs.Keys.{value_ops}
use Rattle.plan_model.specs.Meaning.{node_closes}
use Rattle.plan_laws.specs.Undefined.{undefined_over, first_below}
use Rattle.plan_laws.specs.Places.{AreDistinct, EdgesArePlaced, read_of}
use Rattle.edge_stream.specs.Standing.{Standing, Keeping, closing, StandsFor}

-- the edges l may come to a side up to x behind those that came: with them they are a history whose places are in the
-- table, and they come at x or later. Behind a start at 3, on a side closed up to 4, its end at 5 may come, and an end at
-- 3 may not
pub record MayCome (texts : List (List ℕ)) (x : ℕ) (came l : List Edge) : Type 0 where
  pub history : IsHistory (came ++ l)
  pub placed : EdgesArePlaced texts (came ++ l)
  pub from : failing (is_from x) l ≡ 0

-- the edges come at c or later, and below d
pub record ComeBetween (c d : ℕ) (h : List Edge) : Type 0 where
  pub from : failing (is_from c) h ≡ 0
  pub below : failing (is_below d) h ≡ 0

-- edges that come at the times up to which the sides are closed, or later, are answered between the closing so far and the
-- one that u and v give
abbrev pub AnswersBetween : Standing → List Edge → List Edge → ℕ → ℕ → List Edge → Type 0
AnswersBetween s left right u v answer = failing (is_from s.left_closed) left ≡ 0 → failing (is_from s.right_closed) right ≡ 0 →
    ComeBetween (closing s) (node_closes s.node u v) answer

-- whatever was kept is kept with the new edges and the answer, where the new edges may come
abbrev pub StaysKept : Standing → Keeping → Keeping → List Edge → List Edge → List Edge → Type 0
StaysKept s old new left right answer = (texts : List (List ℕ)) (hl hr out : List Edge) → old texts hl hr out →
    MayCome texts s.left_closed hl left → MayCome texts s.right_closed hr right →
    new texts (hl ++ left) (hr ++ right) (out ++ answer)

-- over what came in with the new edges the node is undefined first at that instant below the closing that u and v give, or at
-- none
abbrev pub IsFirstUndefined : Standing → Keeping → List Edge → ℕ → ℕ → Option ℕ → Type 0
IsFirstUndefined s kept left u v found = (texts : List (List ℕ)) (hl hr out : List Edge) → AreDistinct texts →
    kept texts hl hr out → MayCome texts s.left_closed hl left →
    first_below (λ t. undefined_over value_ops s.node (alive (read_of texts (hl ++ left)) t)) (node_closes s.node u v) ≡ found

-- what was answered so far and the answer stand for the node below the closing that u and v give
abbrev pub StandsAfter : Standing → Keeping → List Edge → List Edge → ℕ → ℕ → List Edge → Type 0
StandsAfter s kept left right u v answer = (texts : List (List ℕ)) (hl hr out : List Edge) → AreDistinct texts →
    kept texts hl hr out → MayCome texts s.left_closed hl left → MayCome texts s.right_closed hr right →
    StandsFor (record s { left_closed = u; right_closed = v }) texts (hl ++ left) (hr ++ right) (out ++ answer)
