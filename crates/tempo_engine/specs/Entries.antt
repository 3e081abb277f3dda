-- How many entries an engine is frozen to.
use Rattle.std.specs.Prelude.{ℕ, ◌+◌, false, cond, Option, Some, None, List, length, slice_get}
use Rattle.tw_rows.specs.Bag.{total}
use Rattle.tw_rows.specs.Rows.{Row}
use Rattle.plan_model.specs.declared.node.Node.{Node}
use Rattle.plan_model.specs.IsPlan.{PlanParts}
use Rattle.plan_model.specs.Meaning.{Sources, snapshots}
use Rattle.plan_model.specs.Opens.{before}
use Rattle.plan_laws.specs.Held.{node_may_hold}
use Rattle.where_select.specs.Stages.{is_of_rows}
use Rattle.admission.specs.declared.policy.Policy.{Policy}
use Rattle.admission.specs.Admission.{rows}
use Rattle.admission.specs.Entries.{Told}
use Rattle.admission.specs.Progress.{progress}
use Rattle.ingress.specs.Counts.{together, may_hold}
use Rattle.frozen_state.specs.declared.frozen.FrozenPart.{FrozenPart}
use Rattle.tempo_engine.specs.Frozen.{closed_at}

-- the entries of all parts. Of a part with one entry and a part with two: 3
abbrev pub entries_of : List FrozenPart → ℕ
entries_of parts = total (λ p. length p.saved) parts

-- how many entries the node of number i may keep after the punctuation p, up to which the sources are known. A Source, a
-- Where and a Select keep none: what waits for a Source is the input's
abbrev pub node_may_keep : Sources → List Node → ℕ → ℕ → Option Node → ℕ
node_may_keep source nodes p i None = 0
node_may_keep source nodes p i (Some n) = cond (is_of_rows n) 0 (node_may_hold source nodes p i)

-- and all nodes together
abbrev pub nodes_may_keep : Sources → List Node → ℕ → ℕ
nodes_may_keep source nodes p = together (length nodes) (λ i. node_may_keep source nodes p i (slice_get nodes i))

-- the rows of the root at the instant before its closing at the last punctuation: none before the first punctuation, and
-- where that is infinity those of the last instant
abbrev pub last_rows : Sources → PlanParts → ℕ → List Row
last_rows source plan last = before (snapshots source plan.nodes plan.root) (closed_at plan last)

-- how many entries may be frozen after the lines, of which `made` made the last punctuation due: what the nodes may keep, what
-- may be held of the streams, and one for each of the last rows. After an interval from 1 to 9 and a punctuation at 3, of a
-- delay by 5: 4 of the delay, 2 of its stream, and 1 for the row that is alive at 7
abbrev pub may_freeze : PlanParts → Policy → List Told → List Told → ℕ
may_freeze plan policy made lines =
    let w = progress plan policy lines false in
    nodes_may_keep (rows (progress plan policy made false).after) plan.nodes w.last
    + may_hold (length plan.streams) w.last w.after + length (last_rows (rows w.after) plan w.last)
