use Rattle.std.specs.Prelude.{map}
use Rattle.std.proofs.Common.{◌∙◌, ap}
use Rattle.tw_rows.specs.Event.{alive}
use Rattle.plan_model.specs.Groups.{is_undefined}
use Rattle.plan_laws.proofs.Maps.{alive_to}
use Rattle.plan_model.specs.Keys.{value_ops}
use Rattle.plan_model.specs.CellOps.{cell_ops}
use Rattle.plan_laws.specs.Readings.{value_by}
use Rattle.plan_laws.proofs.Reading.{node_read, undefined_read}
use Rattle.plan_laws.proofs.Places.{value_by_reads}
use Rattle.plan_laws.proofs.reading_laws.nodes_commute_with_texts_of_places.Goals as goal

pub returns-clause-events : goal.returns-clause-events
returns-clause-events c = λ test select text apart. node_read (value_by text) (cell_ops test select) value_ops (value_by_reads test select text apart)

pub returns-clause-undefined : goal.returns-clause-undefined
returns-clause-undefined c = λ test select text apart. undefined_read (value_by text) (cell_ops test select) value_ops (value_by_reads test select text apart)

pub returns-clause-instants : goal.returns-clause-instants
returns-clause-instants c = λ test select text apart key aggs a t.
    ap (is_undefined key aggs) (alive_to (map (value_by text)) a t)
    ∙ undefined_read (value_by text) (cell_ops test select) value_ops (value_by_reads test select text apart) key aggs (alive a t)
