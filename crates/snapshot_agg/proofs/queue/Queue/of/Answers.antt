use Rattle.std.specs.Prelude.{◌++◌, map}
use Rattle.std.proofs.Common.{◌∙◌, ap}
use Rattle.std.proofs.lemmas.List.{append-nil}
use Rattle.snapshot_agg.specs.Waiting.{own_pending}
use Rattle.snapshot_agg.proofs.queue.Queue.of.Goals as goal

pub returns : goal.returns
returns c = ap (λ l. c.args.others ++ map own_pending l) c.new.ensures.items ∙ append-nil c.args.others
