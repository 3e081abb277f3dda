use Rattle.std.proofs.Common.{◌∙◌, [], not, ap, sym, get_or}
use Rattle.std.specs.Ordering.{nat_cmp}
use Rattle.std.specs.Cmp.Lexicographic.{slice_cmp}
use Rattle.occupancy.proofs.Test.{test-flip}
use Rattle.lane_expr.specs.Lanes.{place}
use Rattle.lane_expr.proofs.Comparing.{ne_is}
use Rattle.lane_expr.proofs.compare.compare_texts.Goals as goal

pub returns-in-Ne : goal.returns-in-Ne
returns-in-Ne c j lt on =
    let x = get_or c.args.texts.now (place c.args.left.now.lanes j) [] in
    let y = get_or c.args.texts.now (place c.args.right.now.lanes j) [] in
    rw c.in-Ne.is (test-flip c.same_texts-in-Ne.result j c.same_texts-in-Ne.type_inv lt ∙ ap not (c.same_texts-in-Ne.ensures j lt on) ∙ sym (ne_is (slice_cmp nat_cmp x y)))
