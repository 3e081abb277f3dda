use Rattle.std.proofs.Common.{refl, sym, ◌∙◌, arith}
use Rattle.std.proofs.lemmas.Bool.{eqb-true}
use Rattle.ingress.proofs.Queued.{none_left, none_closed, closed_starts, gone_starts}
use Rattle.ingress.proofs.opens.OpenStarts.close.Goals as goal

pub returns-in_default : goal.returns-in_default
returns-in_default c = none_closed c.args.self.now.starts c.get_mut.follows.lender-at-none c.args.key.now (sym c.in_default.ensures.value) c.get_mut.follows.holds-at-none

pub returns-then-is_empty : goal.returns-then-is_empty
returns-then-is_empty c =
    gone_starts c.args.self.now.starts (c.get_mut.follows.lender c.pop_front.new.self) c.args.key.now c.in-Some.starts.now c.pop_front.new.self c.in-Some.ensures.value
    ((c.get_mut.follows.holds c.pop_front.new.self).3 (rw (sym c.in-Some.ensures.value) refl)).0
    c.swap_remove.new.self c.pop_front.ensures.rest
    (let z = eqb-true c.pop_front.new.self.len 0 (sym c.is_empty.ensures ∙ c.if-is_empty.true) in let ok = c.pop_front.new.self.ok in none_left c.pop_front.new.self.items (omega (arith, z, ok)))
    c.swap_remove.ensures.updates.0

pub returns-else-is_empty : goal.returns-else-is_empty
returns-else-is_empty c =
    closed_starts c.args.self.now.starts (c.get_mut.follows.lender c.pop_front.new.self) c.args.key.now c.in-Some.starts.now c.pop_front.new.self c.in-Some.ensures.value
    ((c.get_mut.follows.holds c.pop_front.new.self).3 (rw (sym c.in-Some.ensures.value) refl)).0
    c.pop_front.ensures.rest
