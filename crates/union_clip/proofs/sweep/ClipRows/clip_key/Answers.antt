use Rattle.std.specs.Prelude.{filter}
use Rattle.std.proofs.Common.{◌≡◌, ◌∙◌, ap, List, drop, length, arith, refl}
use Rattle.tw_rows.specs.declared.edge.Edge.{Edge}
use Rattle.synopsis.specs.Held.{is_of_key}
use Rattle.union_clip.proofs.Leaving.{told_and_taken, told_length}
use Rattle.union_clip.proofs.sweep.ClipRows.clip_key.Goals as goal

pub rest-requires : goal.rest-requires
rest-requires c =
    let full = c.args.answer.now.ok.0 in
    let at : c.len-told.result ≡ length c.args.answer.now.items = omega (arith, c.len-told.ensures, full) in
    told_length c.args.t c.rows_of.result.now c.args.answer.now.items c.tell_ends.new.answer.items c.as_slice.result.now c.len-told.result c.in_ok-tell_ends.ensures at c.as_slice.ensures.value

pub returns : goal.returns
returns c =
    let s = c.args.self.now in
    let full = c.args.answer.now.ok.0 in
    let at : c.len-told.result ≡ length c.args.answer.now.items = omega (arith, c.len-told.ensures, full) in
    record {
      left = told_and_taken (is_of_key s.left.key s.right_key.values) c.args.t s.left.rows c.take_out.new.rows.rows c.rows_of.result.now c.args.answer.now.items c.tell_ends.new.answer.items
          c.rest.result.now c.len-told.result
          (c.rows_of.ensures ∙ ap (λ v. filter (is_of_key s.left.key v) s.left.rows) c.values.ensures) c.in_ok-tell_ends.ensures at
          (c.rest.ensures ∙ ap (λ (l : List Edge). drop c.len-told.result l) c.as_slice.ensures.value) c.take_out.ensures.taken;
      keys = record { left = c.take_out.ensures.key; right = refl };
    }
