use Rattle.std.specs.Prelude.{List, ◌++◌}
use Rattle.std.proofs.Common.{◌∙◌, ap, sym, subst}
use Rattle.std.proofs.lemmas.List.{append-nil}
use Rattle.tw_rows.specs.Bag.{SameBag}
use Rattle.tw_rows.specs.declared.edge.HeldRow.{HeldRow}
use Rattle.edge_stream.specs.Entries.{part_of}
use Rattle.end_queue.specs.Pending.{Pending}
use Rattle.sweep_laws.specs.Saving.{rows_of}
use Rattle.sweep_sides.specs.Sides.{IsSide}
use Rattle.sweep_sides.specs.Waiting.{queued}
use Rattle.sweep_sides.proofs.KeptSides.{side_loaded}
use Rattle.temporal_join.specs.Lives.{life_rows, life_waits}
use Rattle.temporal_join.proofs.Sided.{none_second}
use Rattle.temporal_join.proofs.sides.JoinSides.take_up.Goals as goal

pub returns-clause-left : goal.returns-clause-left
returns-clause-left c = λ e.
    let s = c.args.self.now in
    let none = none_second s.rows.left.rows (life_rows s.few.left.lives) e.left in
    subst (λ (l : List HeldRow). SameBag l (rows_of (part_of 0 c.args.saved.now))) (sym (ap (λ (l : List HeldRow). c.in_ok-left.left.rows ++ l) none ∙ append-nil c.in_ok-left.left.rows)) c.in_ok-left.ensures.rows

pub returns-clause-right : goal.returns-clause-right
returns-clause-right c = λ e.
    let s = c.args.self.now in
    let none = none_second s.rows.right.rows (life_rows s.few.right.lives) e.right in
    subst (λ (l : List HeldRow). SameBag l (rows_of (part_of 1 c.args.saved.now))) (sym (ap (λ (l : List HeldRow). c.in_ok-right.right.rows ++ l) none ∙ append-nil c.in_ok-right.right.rows)) c.in_ok-right.ensures.rows

pub returns-clause-left_waiting : goal.returns-clause-left_waiting
returns-clause-left_waiting c = λ e.
    let s = c.args.self.now in
    let q = c.in_ok-left_waiting.left_waiting in
    let none = none_second s.left_waiting (life_waits s.few.left.lives) e.none_left in
    subst (λ (l : List Pending). SameBag (queued l) (part_of 2 c.args.saved.now)) (sym (ap (λ (l : List Pending). q ++ l) none ∙ append-nil q)) c.in_ok-left_waiting.ensures.edges

pub returns-clause-right_waiting : goal.returns-clause-right_waiting
returns-clause-right_waiting c = λ e.
    let s = c.args.self.now in
    let q = c.in_ok-right_waiting.right_waiting in
    let none = none_second s.right_waiting (life_waits s.few.right.lives) e.none_right in
    subst (λ (l : List Pending). SameBag (queued l) (part_of 3 c.args.saved.now)) (sym (ap (λ (l : List Pending). q ++ l) none ∙ append-nil q)) c.in_ok-right_waiting.ensures.edges

pub returns-clause-by : goal.returns-clause-by
returns-clause-by c = λ e. record {
  by = record { left = c.in_ok-left.ensures.key ∙ c.as_slice.ensures.value; right = c.in_ok-right.ensures.key ∙ c.as_slice-2.ensures.value };
  few = e.by.few;
  left_key = e.by.left_key;
  right_key = e.by.right_key;
}

pub returns-clause-sides : goal.returns-clause-sides
returns-clause-sides c = λ e lc rc to sound.
    let s = c.args.self.now in
    let entries = c.args.saved.now in
    let left = c.in_ok-left_waiting.ensures in
    let right = c.in_ok-right_waiting.ensures in
    let l = c.in_ok-left.left.rows in
    let r = c.in_ok-right.right.rows in
    let lq = c.in_ok-left_waiting.left_waiting in
    let rq = c.in_ok-right_waiting.right_waiting in
    let nl = none_second s.rows.left.rows (life_rows s.few.left.lives) e.left in
    let nr = none_second s.rows.right.rows (life_rows s.few.right.lives) e.right in
    let wl = none_second s.left_waiting (life_waits s.few.left.lives) e.none_left in
    let wr = none_second s.right_waiting (life_waits s.few.right.lives) e.none_right in
    record {
      left = subst (λ (x : List HeldRow). IsSide lc to x (lq ++ life_waits s.few.left.lives)) (sym (ap (λ (x : List HeldRow). l ++ x) nl ∙ append-nil l))
          (subst (λ (x : List Pending). IsSide lc to l x) (sym (ap (λ (x : List Pending). lq ++ x) wl ∙ append-nil lq))
          (side_loaded lc to l lq (part_of 0 entries) (part_of 2 entries) c.in_ok-left.ensures.rows left.edges left.timed sound.left sound.left_waiting));
      right = subst (λ (x : List HeldRow). IsSide rc to x (rq ++ life_waits s.few.right.lives)) (sym (ap (λ (x : List HeldRow). r ++ x) nr ∙ append-nil r))
          (subst (λ (x : List Pending). IsSide rc to r x) (sym (ap (λ (x : List Pending). rq ++ x) wr ∙ append-nil rq))
          (side_loaded rc to r rq (part_of 1 entries) (part_of 3 entries) c.in_ok-right.ensures.rows right.edges right.timed sound.right sound.right_waiting));
    }
