use Rattle.std.proofs.Common.{◌+◌, Bool, cond, Some, drop, sym, ◌∙◌, ap}
use Rattle.std.specs.List.{position_from}
use Rattle.frozen_state.specs.Forms.{is_form_of}
use Rattle.checkpoint.proofs.PartPlaces.{place_more}
use Rattle.checkpoint.proofs.reading.place.Goals as goal

pub returns-then-is_of : goal.returns-then-is_of
returns-then-is_of c =
    let p = is_form_of c.args.part.now.owner c.args.part.now.shard in
    let n = c.loop-number.number in
    let more = place_more p c.args.forms.now n c.index-forms-number.result c.loop-number-test.true c.index-forms-number.is in
    ap (λ (b : Bool). cond b (Some n) (position_from p (n + 1) (drop (n + 1) c.args.forms.now))) c.if-is_of.ensures ∙ sym more ∙ c.loop-number.invariant

pub loop-number-preserved : goal.loop-number-preserved
loop-number-preserved c =
    let p = is_form_of c.args.part.now.owner c.args.part.now.shard in
    let n = c.loop-number.number in
    let more = place_more p c.args.forms.now n c.index-forms-number.result c.loop-number-test.true c.index-forms-number.is in
    ap (λ (b : Bool). cond b (Some n) (position_from p (n + 1) (drop (n + 1) c.args.forms.now))) c.if-is_of.ensures ∙ sym more ∙ c.loop-number.invariant
