use Rattle.std.proofs.Common.{◌∙◌}
use Rattle.lane_expr.specs.Lanes.{place}
use Rattle.lane_expr.proofs.Comparing.{text_equal}
use Rattle.lane_expr.proofs.compare.same_texts.Goals as goal

pub returns : goal.returns
returns c j lt on =
    c.marks_same_places.ensures j lt
    ∙ text_equal c.args.texts.now c.len-distinct.ensures.distinct (place c.args.left.now.lanes j) (place c.args.right.now.lanes j) (c.requires.left j lt on) (c.requires.right j lt on)
