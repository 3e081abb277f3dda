use Rattle.std.specs.Prelude.{◌≡◌, ◌<◌, ℕ, None, IfSome, IfNone}
use Rattle.std.proofs.Common.{sym, ◌∙◌, subst}
use Rattle.synopsis.specs.Kept.{since_at}
use Rattle.egress.specs.Waiting.{waiting_in, ArePopped}
use Rattle.egress.proofs.SavedInstants.{ends_first, ends_next, ends_last}
use Rattle.egress.proofs.saving.save_waiting.Goals as goal

pub instants-init : goal.instants-init
instants-init c = λ texts kinds events a closed text settled high swept placed.
    ends_first texts kinds events a closed settled (waiting_in c.args.waiting.now) c.args.saved.now (since_at c.args.starts.now) text high swept placed

pub instants-preserved : goal.instants-preserved
instants-preserved c = λ texts kinds events a closed text settled high swept placed.
    let some = subst (λ o. IfSome o (λ d. ArePopped (waiting_in c.instants.waiting) (waiting_in c.pop_due.new.self) d.at d.edges.items)) c.in-Some.is c.in_ok-due.ensures.some in
    let below = subst (λ o. IfSome o (λ d. d.at < c.args.last)) c.in-Some.is c.in_ok-due.ensures.below in
    ends_next texts kinds events a closed settled (waiting_in c.args.waiting.now) c.args.saved.now (since_at c.args.starts.now) c.instants.saved c.save_ends.new.saved
    (since_at c.instants.starts) (since_at c.save_ends.new.starts) (waiting_in c.instants.waiting) (waiting_in c.pop_due.new.self) c.in-Some.due.at c.deref.result.now
    (subst (λ es. ArePopped (waiting_in c.instants.waiting) (waiting_in c.pop_due.new.self) c.in-Some.due.at es) (sym c.deref.ensures.value) some)
    (subst (λ t. c.in-Some.due.at < t) c.requires below)
    (c.instants.invariant texts kinds events a closed text settled high swept placed) c.in_ok-save_ends.ensures

pub returns : goal.returns
returns c = λ texts kinds events a closed text settled high swept placed.
    let same = subst (λ o. IfNone o ((t : ℕ) → waiting_in c.pop_due.new.self t ≡ waiting_in c.instants.waiting t)) c.in_default.is c.in_ok-due.ensures.same in
    let none = subst (λ o. IfNone o ((t : ℕ) → t < c.args.last → waiting_in c.pop_due.new.self t ≡ None)) c.in_default.is c.in_ok-due.ensures.none in
    ends_last texts kinds events a closed settled (waiting_in c.args.waiting.now) c.args.saved.now (since_at c.args.starts.now) c.instants.saved
    (since_at c.instants.starts) (waiting_in c.instants.waiting)
    (λ t low. sym (same t) ∙ none t (subst (λ u. t < u) (sym c.requires) low))
    (c.instants.invariant texts kinds events a closed text settled high swept placed)
