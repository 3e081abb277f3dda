use Rattle.std.proofs.Common.{◌∙◌, sym, ap, cond, Some, None}
use Rattle.anti_join.specs.Free.{free_since}
use Rattle.anti_join.proofs.sweep.AntiRows.status.Goals as goal

pub returns-then-not-is_free : goal.returns-then-not-is_free
returns-then-not-is_free c = λ by.
    let s = c.args.self.now in
    sym (ap (λ b. cond b (Some (free_since s.left.key s.times.rows c.args.key.now)) None) (sym c.is_free.ensures ∙ c.if-not-is_free.true))

pub returns : goal.returns
returns c = λ by.
    let s = c.args.self.now in
    ap Some (c.since.ensures ∙ ap (λ k. free_since k s.times.rows c.args.key.now) by)
    ∙ sym (ap (λ b. cond b (Some (free_since s.left.key s.times.rows c.args.key.now)) None) (sym c.is_free.ensures ∙ c.if-not-is_free.false))
