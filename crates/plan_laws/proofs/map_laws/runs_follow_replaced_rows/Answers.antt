use Rattle.plan_laws.proofs.Maps.{distinct_to, runs_to}
use Rattle.plan_laws.proofs.CoalescedMaps.{coalesced_to, top_to}
use Rattle.plan_laws.proofs.map_laws.runs_follow_replaced_rows.Goals as goal

pub returns-clause-distinct : goal.returns-clause-distinct
returns-clause-distinct g c = distinct_to

pub returns-clause-runs : goal.returns-clause-runs
returns-clause-runs g c = runs_to

pub returns-clause-coalesced : goal.returns-clause-coalesced
returns-clause-coalesced g c = coalesced_to

pub returns-clause-top : goal.returns-clause-top
returns-clause-top g c = top_to
