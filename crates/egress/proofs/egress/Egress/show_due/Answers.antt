use Rattle.std.specs.Prelude.{◌≡◌, ◌<◌, ℕ, None, IfSome, IfNone}
use Rattle.std.proofs.Common.{refl, sym, ◌∙◌, ap, subst}
use Rattle.edge_history.specs.Order.{failing}
use Rattle.plan_laws.specs.Places.{EdgesArePlaced}
use Rattle.egress.specs.Kept.{since_in}
use Rattle.egress.specs.Waiting.{Waiting, edges_if, waiting_in, Swept, ArePopped, WaitingArePlaced}
use Rattle.egress.proofs.Sweeps.{Going, going_next, going_last}
use Rattle.egress.proofs.Taking.{popped_passes, rest_passes}
use Rattle.egress.proofs.Placing.{popped_placed, rest_placed}
use Rattle.egress.proofs.egress.Egress.show_due.Goals as goal

pub show_edges-requires : goal.show_edges-requires
show_edges-requires c =
    let was = waiting_in c.instants.self.waiting in
    let left = waiting_in c.pop_due.new.self in
    popped_placed c.args.texts.now was left c.in-Some.due.at c.in-Some.due.edges.items
    (subst (λ o. IfSome o (λ d. ArePopped was left d.at d.edges.items)) c.in-Some.is c.in_ok-due.ensures.some) c.instants.invariant.placed

pub instants-init : goal.instants-init
instants-init c = record {
  kinds = refl;
  failed = refl;
  swept = λ events a start valid low s. record { at = start; low = low; swept = s };
  placed = c.requires;
  passed = λ p h. h;
  kept = λ h. h;
}

pub instants-preserved : goal.instants-preserved
instants-preserved c =
    let texts = c.args.texts.now in
    let was = waiting_in c.instants.self.waiting in
    let left = waiting_in c.pop_due.new.self in
    let room : left ≡ waiting_in c.keep_room.new.self = λ i t. sym (c.keep_room.ensures.same t) i in
    let some = subst (λ o. IfSome o (λ d. ArePopped was left d.at d.edges.items)) c.in-Some.is c.in_ok-due.ensures.some in
    let below = subst (λ o. IfSome o (λ d. d.at < c.args.to)) c.in-Some.is c.in_ok-due.ensures.below in
    let is = c.in_ok-shown.ensures.instant in
    record {
      kinds = c.show_edges.ensures.kinds ∙ c.instants.invariant.kinds;
      failed = c.instants.invariant.failed;
      swept = λ events a start valid low s.
          subst (λ (w : Waiting). Going texts c.args.self.now.rows.kinds.items events a c.args.to (since_in texts c.show_edges.new.self.starts) w c.show_edges.new.self.lines.items) room
          (subst (λ ks. Going texts ks.items events a c.args.to (since_in texts c.show_edges.new.self.starts) left c.show_edges.new.self.lines.items) c.instants.invariant.kinds
          (going_next texts c.instants.self.rows.kinds.items events valid a c.args.to c.pop_due.ensures.within
          (since_in texts c.instants.self.rows.starts) (since_in texts c.show_edges.new.self.starts) was left c.instants.self.rows.lines.items c.show_edges.new.self.lines.items
          c.in-Some.due.at c.in-Some.due.edges.items some below
          (λ same opened. (is.shown events valid same opened).lines) (λ same opened. (is.shown events valid same opened).opened)
          (subst (λ ks. Going texts ks.items events a c.args.to (since_in texts c.instants.self.rows.starts) was c.instants.self.rows.lines.items) (sym c.instants.invariant.kinds)
          (c.instants.invariant.swept events a start valid low s))));
      placed = subst (WaitingArePlaced texts) room (rest_placed texts was left c.in-Some.due.at c.in-Some.due.edges.items some c.instants.invariant.placed);
      passed = λ p h.
          let k = c.instants.invariant.passed p h in
          record {
            opens = is.passed p (popped_passes p was left c.in-Some.due.at c.in-Some.due.edges.items some k.waits) k.opens;
            waits = subst (λ (w : Waiting). (t : ℕ) → failing (λ e. p e.cells) (edges_if (w t)) ≡ 0) room
                (rest_passes p was left c.in-Some.due.at c.in-Some.due.edges.items some k.waits);
          };
      kept = λ h. is.kept (c.instants.invariant.kept h);
    }

pub returns-clause-shown : goal.returns-clause-shown
returns-clause-shown c =
    let texts = c.args.texts.now in
    let was = waiting_in c.instants.self.waiting in
    let left = waiting_in c.pop_due.new.self in
    let same = subst (λ o. IfNone o ((t : ℕ) → left t ≡ was t)) c.in_default.is c.in_ok-due.ensures.same in
    let none = subst (λ o. IfNone o ((t : ℕ) → t < c.args.to → left t ≡ None)) c.in_default.is c.in_ok-due.ensures.none in
    record {
      within = c.pop_due.ensures.within;
      swept = λ events a start valid low s.
          subst (λ ks. Swept texts ks.items events a c.args.to (since_in texts c.instants.self.rows.starts) left c.instants.self.rows.lines.items) (sym c.instants.invariant.kinds)
          (going_last texts c.args.self.now.rows.kinds.items events valid a c.args.to c.pop_due.ensures.within (since_in texts c.instants.self.rows.starts) was left c.instants.self.rows.lines.items
          same none (c.instants.invariant.swept events a start valid low s));
      placed = λ t. subst (λ o. EdgesArePlaced texts (edges_if o)) (sym (same t)) (c.instants.invariant.placed t);
      passed = λ p h.
          let k = c.instants.invariant.passed p h in
          record { opens = k.opens; waits = λ t. ap (λ o. failing (λ e. p e.cells) (edges_if o)) (same t) ∙ k.waits t };
      kept = c.instants.invariant.kept;
    }
