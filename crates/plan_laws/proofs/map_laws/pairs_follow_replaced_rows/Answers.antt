use Rattle.plan_laws.proofs.Maps.{joined_to, alone_to, clipped_to}
use Rattle.plan_laws.proofs.CoalescedMaps.{followed_to}
use Rattle.plan_laws.proofs.map_laws.pairs_follow_replaced_rows.Goals as goal

pub returns-clause-joins : goal.returns-clause-joins
returns-clause-joins g c = joined_to

pub returns-clause-antis : goal.returns-clause-antis
returns-clause-antis g c = alone_to

pub returns-clause-clips : goal.returns-clause-clips
returns-clause-clips g c = clipped_to

pub returns-clause-follows : goal.returns-clause-follows
returns-clause-follows g c = followed_to
