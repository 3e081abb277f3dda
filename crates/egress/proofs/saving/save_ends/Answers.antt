use Rattle.std.proofs.Common.{subst, take}
use Rattle.synopsis.specs.Kept.{since_at}
use Rattle.egress.specs.Saved.{Taken}
use Rattle.egress.proofs.Entries.{front_is}
use Rattle.egress.proofs.SavedEnds.{taken_none, taken_next}
use Rattle.egress.proofs.saving.save_ends.Goals as goal

pub loop-edge-init : goal.loop-edge-init
loop-edge-init c = taken_none c.args.at c.args.saved.now (since_at c.args.starts.now)

pub loop-edge-preserved : goal.loop-edge-preserved
loop-edge-preserved c =
    subst (λ es. Taken c.args.at es c.args.saved.now c.save_end.new.saved (since_at c.args.starts.now) (since_at c.save_end.new.starts))
    (front_is c.args.edges.now c.loop-edge.edge-index c.edge-item.result c.loop-edge-test.true c.edge-item.is)
    (taken_next c.args.at (take c.loop-edge.edge-index c.args.edges.now) c.edge-item.result c.args.saved.now c.loop-edge.saved c.save_end.new.saved
    (since_at c.args.starts.now) (since_at c.loop-edge.starts) (since_at c.save_end.new.starts) c.loop-edge.invariant c.in_ok-save_end.ensures.entries c.in_ok-save_end.ensures.since)
