use Rattle.std.proofs.Common.{◌≡◌, drop}
use Rattle.query_plan.specs.Draft.{no_draft}
use Rattle.query_plan.specs.Planned.{streams_planned}
use Rattle.query_plan.proofs.planning.streams_planned.Given as goal

abbrev pub invariant-loop-item : goal.invariant-loop-item
invariant-loop-item l = streams_planned 0 no_draft l.streams ≡ streams_planned l.item l.draft (drop l.item l.streams)
