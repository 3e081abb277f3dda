use Rattle.where_select.specs.Texts.{nodes_of_items}
use Rattle.where_select.proofs.Tables.{all_first, on_err}
use Rattle.where_select.proofs.making.project_of.Goals as goal

pub returns-clause-err : goal.returns-clause-err
returns-clause-err c = on_err c.new.result _ (all_first c.kernels_of.new.texts c.args.texts.now (nodes_of_items c.args.items.now) c.in_ok-kernels.ensures.table)
