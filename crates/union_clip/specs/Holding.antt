-- What a clip has reached on its way from instant to instant, and what it keeps between its steps.
use Rattle.std.specs.Prelude.{ℕ, ◌≤◌, List, filter}
use Rattle.tw_rows.specs.Bag.{SameBag}
use Rattle.tw_rows.specs.declared.edge.Edge.{Edge}
use Rattle.tw_rows.specs.declared.edge.HeldRow.{HeldRow}
use Rattle.edge_history.specs.Order.{is_from, IsHistory}
use Rattle.edge_history.specs.History.{CellEvent, of}
use Rattle.edge_history.specs.Balance.{Told}
use Rattle.edge_history.specs.Opens.{opens, singles}
use Rattle.sweep_laws.specs.Sweeps.{IsDue, Tells}
use Rattle.sweep_sides.specs.Starts.{starts_from}
use Rattle.union_clip.specs.Clipped.{clips}

-- just before t: the left rows that are open and that no right start has clipped. Of a row from 3 on with a right start at 8
-- the row is held at 8, and no more at 9
abbrev pub ClipHeld : List ℕ → List ℕ → List CellEvent → List CellEvent → ℕ → List HeldRow → Type 0
ClipHeld left_key right_key a b t left = SameBag left (opens t (clips left_key right_key a b))

-- so far: up to u, with these edges left on each side
pub record ClipReached (left_key right_key : List ℕ) (a b : List CellEvent) (from u to : ℕ) (left_rest right_rest : List Edge)
    (left : List HeldRow) (before after : List Edge) : Type 0 where
  pub low : from ≤ u
  pub left_due : IsDue a u to left_rest
  pub right_due : IsDue b u to right_rest
  pub now : ClipHeld left_key right_key a b u left
  pub told : Tells (clips left_key right_key a b) from u before after

-- what a clip keeps after the edges hl and hr came and out was answered: both sides are swept up to `to`, the lesser of their
-- closings. The rest of the left side waits, and of the right side the starts
pub record ClipKeeps (left_key right_key : List ℕ) (left : List HeldRow) (left_waiting right_waiting : List Edge) (to : ℕ)
    (hl hr out : List Edge) : Type 0 where
  pub left_history : IsHistory hl
  pub right_history : IsHistory hr
  pub left_waits : SameBag left_waiting (filter (is_from to) (singles hl))
  pub right_waits : SameBag right_waiting (starts_from to hr)
  pub now : ClipHeld left_key right_key (of hl) (of hr) to left
  pub told : Told to out (clips left_key right_key (of hl) (of hr))
