use Rattle.std.proofs.Common.{refl, sym, ◌∙◌, ap, take}
use Rattle.synopsis.specs.Kept.{times_if}
use Rattle.synopsis.proofs.Opened.{none_since, ended_since}
use Rattle.egress.proofs.SavedEnds.{first_taken}
use Rattle.egress.proofs.saving.take_first.Goals as goal

pub returns-in_default-clause-since : goal.returns-in_default-clause-since
returns-in_default-clause-since c = none_since c.args.starts.now _ c.args.cells.now 1 (sym c.in_default.ensures.value) c.get_mut.follows.holds-at-none

pub returns-in_default-clause-first : goal.returns-in_default-clause-first
returns-in_default-clause-first c = ap (λ o. take 1 (times_if o)) c.in_default.ensures.value

pub returns-clause-since : goal.returns-clause-since
returns-clause-since c =
    ended_since c.args.starts.now (c.get_mut.follows.lender c.pop_front.new.self) c.args.cells.now c.in-Some.since.now c.in-Some.ensures.value 1 c.pop_front.new.self
    c.pop_front.ensures.rest
    ((c.get_mut.follows.holds c.pop_front.new.self).3 (rw (sym c.in-Some.ensures.value) refl)).0

pub returns-clause-first : goal.returns-clause-first
returns-clause-first c =
    first_taken c.pop_front.result c.in-Some.since.now.items c.pop_front.new.self.items c.pop_front.ensures.items c.pop_front.ensures.rest
    ∙ ap (λ o. take 1 (times_if o)) c.in-Some.ensures.value
