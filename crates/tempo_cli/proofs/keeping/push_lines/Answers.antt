use Rattle.std.proofs.Common.{◌++◌, ◌∙◌, ap, length, arith}
use Rattle.checkpoint.specs.Writing.{bytes_of}
use Rattle.checkpoint.proofs.Left.{whole_left}
use Rattle.tempo_cli.proofs.Pushing.{line_pushed, none_pushed}
use Rattle.tempo_cli.proofs.keeping.push_lines.Goals as goal

pub lines-init : goal.lines-init
lines-init c = ap (λ ls. c.args.out.now.items ++ bytes_of ls) (whole_left c.args.form.now c.args.frozen.now)

pub lines-preserved : goal.lines-preserved
lines-preserved c =
    let w = (rw c.in-Some.is at c.in_ok-next.ensures.ok) in
    c.in_ok-place.ensures.bytes c.args.form.now ∙ line_pushed _ _ w.0 _ _ _ w.1.0 w.1.1 c.lines.invariant

pub lines-smaller : goal.lines-smaller
lines-smaller c = let w = (rw c.in-Some.is at c.in_ok-next.ensures.ok) in omega (arith, ap length w.1.0, c.in_ok-place.ensures.fewer c.args.form.now)

pub returns : goal.returns
returns c = let w = (rw c.in_default.is at c.in_ok-next.ensures.ok) in none_pushed _ _ _ _ w.0 w.1 c.lines.invariant
