-- What an anti-join holds just before an instant, has reached on its way from instant to instant, and keeps between its steps.
use Rattle.std.specs.Prelude.{◌≡◌, ℕ, ◌≤◌, max, nat_eq, Bool, true, false, Option, Some, None, List, filter}
use Rattle.tw_rows.specs.Bag.{SameBag}
use Rattle.tw_rows.specs.declared.cells.Datum.{Datum}
use Rattle.tw_rows.specs.declared.edge.Edge.{Edge}
use Rattle.tw_rows.specs.declared.edge.HeldRow.{HeldRow}
use Rattle.edge_history.specs.Order.{failing, many, is_from, IsHistory}
use Rattle.edge_history.specs.History.{CellEvent, of}
use Rattle.edge_history.specs.Balance.{Told}
use Rattle.edge_history.specs.Opens.{singles}
use Rattle.synopsis.specs.Held.{key_of, is_of_key}
use Rattle.sweep_laws.specs.Sweeps.{IsDue, Tells}
use Rattle.sweep_laws.specs.Antijoining.{Judging}
use Rattle.anti_join.specs.AntiJoined.{anti_meets, antis}
use Rattle.anti_join.specs.Free.{free_since, status_of}

-- a row has the same run, whichever of two statuses its key has: a row from 3 on has it of a key free since 0 and since 2
abbrev pub same_run : Option ℕ → Option ℕ → HeldRow → Bool
same_run None None r = true
same_run (Some s) (Some u) r = nat_eq (max r.start s) (max r.start u)
same_run None (Some u) r = false
same_run (Some s) None r = false

-- just before t: the open rows of both sides, and times that tell the run of each left row. No time is later than t, and
-- none is kept of a key that has no left row.
-- At 9, of a left row since 2 whose key had a right row up to 8: the row, and the time 8
pub record AntiHeld (left_key right_key : List ℕ) (a b : List CellEvent) (t : ℕ) (left right times : List HeldRow) : Type 0 where
  pub status : List Datum → Option ℕ
  pub now : Judging (key_of left_key) (anti_meets left_key right_key) a b t left right status
  pub agrees : failing (λ r. same_run (status_of left_key right_key right times (key_of left_key r.cells)) (status (key_of left_key r.cells)) r) left ≡ 0
  pub early : (k : List Datum) → free_since left_key times k ≤ t
  pub few : (k : List Datum) → many (is_of_key left_key k) left ≡ 0 → many (is_of_key left_key k) times ≡ 0

-- so far: up to u, with these edges left on each side
pub record AntiReached (left_key right_key : List ℕ) (a b : List CellEvent) (from u to : ℕ) (left_rest right_rest : List Edge)
    (left right times : List HeldRow) (before after : List Edge) : Type 0 where
  pub low : from ≤ u
  pub left_due : IsDue a u to left_rest
  pub right_due : IsDue b u to right_rest
  pub now : AntiHeld left_key right_key a b u left right times
  pub told : Tells (antis left_key right_key a b) from u before after

-- what an anti-join keeps after the edges hl and hr came and out was answered: both sides are swept up to `to`, the lesser of
-- their closings, and the rest of each waits
pub record AntiKeeps (left_key right_key : List ℕ) (left right times : List HeldRow) (left_waiting right_waiting : List Edge) (to : ℕ)
    (hl hr out : List Edge) : Type 0 where
  pub left_history : IsHistory hl
  pub right_history : IsHistory hr
  pub left_waits : SameBag left_waiting (filter (is_from to) (singles hl))
  pub right_waits : SameBag right_waiting (filter (is_from to) (singles hr))
  pub now : AntiHeld left_key right_key (of hl) (of hr) to left right times
  pub told : Told to out (antis left_key right_key (of hl) (of hr))
