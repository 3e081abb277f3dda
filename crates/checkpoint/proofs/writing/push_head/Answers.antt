use Rattle.std.proofs.Common.{◌+◌, ◌++◌, ◌∷◌, List, ℕ, ap, arith}
use Rattle.checkpoint.proofs.Filling.{on_err}
use Rattle.checkpoint.specs.Lines.{time_line}
use Rattle.checkpoint.specs.declared.writing.Place.TheVariants.{Head}
use Rattle.checkpoint.specs.Writing.{bounds_left, lines_left, LacksRoomFor}
use Rattle.checkpoint.proofs.Left.{dropped_more}
use Rattle.checkpoint.proofs.writing.push_head.Goals as goal

pub returns-clause-ok : goal.returns-clause-ok
returns-clause-ok c =
    let f = c.args.frozen.now in
    record {
      line = c.in-Some.line.now;
      next = ap (λ (l : List (List ℕ)). l ++ time_line f.lines f.last ∷ bounds_left f 0) (dropped_more c.args.form.now.head c.args.number c.in-Some.line.now c.in-Some.ensures.some);
      bytes = c.in_ok-extend_from_slice.ensures.items;
    }

pub returns-in_err-extend_from_slice-clause-full : goal.returns-in_err-extend_from_slice-clause-full
returns-in_err-extend_from_slice-clause-full c =
    let f = c.args.frozen.now in
    let lacks : LacksRoomFor (lines_left c.args.form.now f (Head c.args.number)) c.args.out.now = record {
      line = c.in-Some.line.now;
      rest = lines_left c.args.form.now f (Head (c.args.number + 1));
      next = ap (λ (l : List (List ℕ)). l ++ time_line f.lines f.last ∷ bounds_left f 0) (dropped_more c.args.form.now.head c.args.number c.in-Some.line.now c.in-Some.ensures.some);
      lacks = omega (arith, c.in_err-extend_from_slice.ensures.full, c.args.out.now.ok.0);
    } in
    on_err _ _ lacks
