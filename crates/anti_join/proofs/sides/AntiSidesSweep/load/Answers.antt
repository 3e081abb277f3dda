use Rattle.std.proofs.Common.{rules, ◌≡◌, ◌≤◌, ◌∙◌, ℕ, List, map, sym, ap, subst}
use Rattle.tw_rows.specs.Kinds.{cell_kind_of}
use Rattle.edge_history.specs.Order.{many}
use Rattle.edge_stream.specs.declared.saved.LoadFault.TheVariants.{NotState, Memory}
use Rattle.edge_stream.specs.Entries.{part_of}
use Rattle.synopsis.specs.Held.{is_of_key}
use Rattle.sweep_laws.specs.Saving.{rows_of}
use Rattle.sweep_sides.specs.Waiting.{queued}
use Rattle.plan_model.specs.declared.node.Node.TheVariants.{Anti as AntiNode}
use Rattle.anti_join.specs.States.{AntiStored, AntiSound}
use Rattle.anti_join.specs.Times.{HaveOneTime}
use Rattle.anti_join.proofs.Starting.{handed_on}
use Rattle.anti_join.proofs.Resuming.{anti_loaded}
use Rattle.anti_join.proofs.sides.AntiSidesSweep.load.Goals as goal

pub returns-clause-resumed : goal.returns-clause-resumed
returns-clause-resumed c = λ hl hr out r.
    let old = c.args.self.now.rows in
    let new = c.take_up.new.self in
    let entries = c.args.saved.now in
    let t = c.in_ok-take_up.ensures in
    let lc = map cell_kind_of c.args.left_kinds.now in
    let rc = map cell_kind_of c.args.right_kinds.now in
    let stored : AntiStored lc rc c.args.to entries = search rules in
    let sides = t.sides lc rc c.args.to stored in
    let by = c.requires.by in
    record {
      by = t.by;
      left_timed = sides.left.timed;
      right_timed = sides.right.timed;
      single = λ k. subst (λ (key : List ℕ). many (is_of_key key k) new.rows.times.rows ≤ 1) t.by.times (c.len.ensures.single k);
      kept = anti_loaded old.left.key old.right.key new.rows.left.key new.rows.right.key c.args.to
          (rows_of (part_of 0 entries)) (rows_of (part_of 1 entries)) (rows_of (part_of 4 entries)) new.rows.left.rows new.rows.right.rows new.rows.times.rows (part_of 2 entries) (part_of 3 entries) (queued new.left_waiting) (queued new.right_waiting) hl hr out
          (sym t.by.left ∙ (ap (λ v. v.columns) t.left_key ∙ by.left)) (sym t.by.right ∙ (ap (λ v. v.columns) t.right_key ∙ by.right)) t.left t.right t.times t.left_waiting t.right_waiting r;
    }

pub returns-clause-sound : goal.returns-clause-sound
returns-clause-sound c =
    let stored : AntiStored (map cell_kind_of c.args.left_kinds.now) (map cell_kind_of c.args.right_kinds.now) c.args.to c.args.saved.now = search rules in
    record { stored = stored; single = subst (λ (key : List ℕ). HaveOneTime key (part_of 4 c.args.saved.now)) c.requires.by.left c.in_ok-take_up.ensures.single }

pub returns-clause-fits : goal.returns-clause-fits
returns-clause-fits c =
    let lc = map cell_kind_of c.args.left_kinds.now in
    let rc = map cell_kind_of c.args.right_kinds.now in
    let stored : AntiStored lc rc c.args.to c.args.saved.now = search rules in
    record { by = c.in_ok-take_up.ensures.by; sides = c.in_ok-take_up.ensures.sides lc rc c.args.to stored }

pub returns-clause-node : goal.returns-clause-node
returns-clause-node c =
    let old = c.args.self.now.rows in
    let t = c.in_ok-take_up.ensures in
    let by = c.requires.by in
    let left : c.take_up.new.self.rows.left.key ≡ old.left.key = sym t.by.left ∙ (ap (λ v. v.columns) t.left_key ∙ by.left) in
    let right : c.take_up.new.self.rows.right.key ≡ old.right.key = sym t.by.right ∙ (ap (λ v. v.columns) t.right_key ∙ by.right) in
    λ i. AntiNode 0 1 (left i) (right i)

pub returns-in_err-take_up-clause-refused : goal.returns-in_err-take_up-clause-refused
returns-in_err-take_up-clause-refused c =
    let lc = map cell_kind_of c.args.left_kinds.now in
    let rc = map cell_kind_of c.args.right_kinds.now in
    handed_on c.in_err-take_up.field-0.0 c.from_residual.result (λ fault. fault ≡ NotState → AntiSound c.args.self.now.rows.left.key lc rc c.args.to c.args.saved.now → ⊥)
    c.from_residual.ensures.1 (λ f sound. c.in_err-take_up.ensures.refused f (subst (λ (key : List ℕ). HaveOneTime key (part_of 4 c.args.saved.now)) (sym c.requires.by.left) sound.single))

pub returns-in_err-take_up-clause-memory : goal.returns-in_err-take_up-clause-memory
returns-in_err-take_up-clause-memory c =
    let stored : AntiStored (map cell_kind_of c.args.left_kinds.now) (map cell_kind_of c.args.right_kinds.now) c.args.to c.args.saved.now = search rules in
    handed_on c.in_err-take_up.field-0.0 c.from_residual.result
    (λ fault. fault ≡ Memory → AntiStored (map cell_kind_of c.args.left_kinds.now) (map cell_kind_of c.args.right_kinds.now) c.args.to c.args.saved.now) c.from_residual.ensures.1 (λ f. stored)
