use Rattle.std.proofs.Common.{◌∙◌, sym}
use Rattle.sweep_sides.proofs.Paired.{same_if_among, more_if_outside}
use Rattle.sweep_sides.proofs.pairs.push_outside.Goals as goal

pub returns-then-is_among : goal.returns-then-is_among
returns-then-is_among c = same_if_among _ c.args.row.now.items c.args.datum (sym c.is_among.ensures ∙ c.if-is_among.true)

pub returns : goal.returns
returns c = c.in_ok-push.ensures.ok ∙ more_if_outside _ c.args.row.now.items c.args.datum (sym c.is_among.ensures ∙ c.if-is_among.false)
