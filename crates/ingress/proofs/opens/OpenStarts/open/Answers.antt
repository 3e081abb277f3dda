use Rattle.std.proofs.Common.{refl, sym}
use Rattle.ingress.proofs.Ranked.{always}
use Rattle.ingress.proofs.Queued.{pushed_starts, kept_starts, new_starts}
use Rattle.ingress.proofs.opens.OpenStarts.open.Goals as goal

pub returns-in_err-push_back-clause-err : goal.returns-in_err-push_back-clause-err
returns-in_err-push_back-clause-err c = always c.from_residual.result _ (
    kept_starts c.args.self.now.starts (c.get_mut.follows.lender c.push_back.new.self) c.args.key c.in-Some.starts.now c.push_back.new.self c.in-Some.ensures.value
    ((c.get_mut.follows.holds c.push_back.new.self).3 (rw (sym c.in-Some.ensures.value) refl)).0 c.in_err-push_back.ensures.items)

pub returns-in-Some-clause-ok : goal.returns-in-Some-clause-ok
returns-in-Some-clause-ok c =
    pushed_starts c.args.self.now.starts (c.get_mut.follows.lender c.push_back.new.self) c.args.key c.in-Some.starts.now c.push_back.new.self c.in-Some.ensures.value
    ((c.get_mut.follows.holds c.push_back.new.self).3 (rw (sym c.in-Some.ensures.value) refl)).0 c.args.start c.in_ok-push_back.ensures.items

pub returns-clause-ok : goal.returns-clause-ok
returns-clause-ok c =
    new_starts c.args.self.now.starts c.insert.new.self c.args.key c.args.start c.in_ok-starts.starts c.push_back-2.new.self (sym c.in_default.ensures.value) c.in_ok-starts.ensures.items c.in_ok-push_back-2.ensures.items
    c.get_mut.follows.lender-at-none c.get_mut.follows.holds-at-none c.in_ok-insert.ensures.updates.0
