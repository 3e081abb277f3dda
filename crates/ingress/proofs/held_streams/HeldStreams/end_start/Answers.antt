use Rattle.std.specs.Prelude.{cond, drop}
use Rattle.std.proofs.Common.{◌∙◌, ap}
use Rattle.ingress.specs.OpenKeys.{same_key}
use Rattle.ingress.specs.OpenKeys.{starts_in}
use Rattle.ingress.proofs.Keep.{none_ended, some_ended}
use Rattle.ingress.proofs.held_streams.HeldStreams.end_start.Goals as goal

pub returns-in_default-clause-ok : goal.returns-in_default-clause-ok
returns-in_default-clause-ok c = λ p made opens given late keeps.
    none_ended c.args.key.now c.args.at p c.args.self.now.waiting.items c.args.self.now.waiting.items (starts_in c.args.self.now.opens.starts) (starts_in c.args.self.now.opens.starts) made opens given keeps c.in_default.ensures

pub returns-clause-ok : goal.returns-clause-ok
returns-clause-ok c = λ p made opens given late keeps.
    some_ended c.args.key.now c.args.at p c.args.self.now.waiting.items c.end_row.new.self.waiting.items (starts_in c.args.self.now.opens.starts) (starts_in c.close.new.self.starts) made opens given keeps
    c.requires c.end_row.ensures.changed c.end_row.ensures.within late
    (λ k. c.close.ensures k ∙ ap (λ l. cond (same_key c.args.key.now k) (drop 1 l) l) (ap (λ o. starts_in o.starts k) c.end_row.ensures.opens))
    c.in-Some.state c.in-Some.ensures
    c.in_ok-end_row.ensures.ended
