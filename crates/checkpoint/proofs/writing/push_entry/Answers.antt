use Rattle.std.proofs.Common.{◌+◌}
use Rattle.checkpoint.specs.Lines.{entry_line}
use Rattle.checkpoint.proofs.Filling.{on_err}
use Rattle.checkpoint.specs.Writing.{ends_left, LacksRoomFor}
use Rattle.checkpoint.proofs.Left.{entry_is_next}
use Rattle.checkpoint.proofs.writing.push_entry.Goals as goal

pub returns-clause-ok : goal.returns-clause-ok
returns-clause-ok c = λ form.
    let p = c.index-parts-part.result in
    let e = c.index-entries-entry.result in
    record {
      line = entry_line p.owner p.shard e;
      next = entry_is_next c.args.frozen.now.parts _ c.args.part c.args.entry c.in-Some.part c.in-Some.entry p _ e c.parts-parts.ensures c.entries.ensures
          c.in-Some.ensures.part c.index-parts-part.is c.in-Some.ensures.entry c.index-entries-entry.is c.in-Some.ensures.left;
      bytes = c.in_ok-push_entry_line.ensures.ok;
    }

pub returns-in_err-push_entry_line-clause-full : goal.returns-in_err-push_entry_line-clause-full
returns-in_err-push_entry_line-clause-full c =
    let f = c.args.frozen.now in
    let p = c.index-parts-part.result in
    let e = c.index-entries-entry.result in
    let lacks : LacksRoomFor (ends_left f c.args.part c.args.entry) c.args.out.now = record {
      line = entry_line p.owner p.shard e;
      rest = ends_left f c.in-Some.part (c.in-Some.entry + 1);
      next = entry_is_next f.parts _ c.args.part c.args.entry c.in-Some.part c.in-Some.entry p _ e c.parts-parts.ensures c.entries.ensures
          c.in-Some.ensures.part c.index-parts-part.is c.in-Some.ensures.entry c.index-entries-entry.is c.in-Some.ensures.left;
      lacks = c.in_err-push_entry_line.ensures.full;
    } in
    on_err _ _ lacks
