use Rattle.std.proofs.Common.{◌∙◌, ap, map}
use Rattle.tw_rows.specs.Kinds.{cell_kind_of}
use Rattle.sweep_laws.specs.Saving.{store_all}
use Rattle.sweep_laws.proofs.Stored.{stored_test}
use Rattle.sweep_sides.proofs.saving.stores.Goals as goal

pub returns : goal.returns
returns c =
    let kinds = map cell_kind_of c.args.kinds.now in
    stored_test c.is_stored_as.result kinds c.items.result.now c.is_stored_as.ensures ∙ ap (store_all kinds) c.items.ensures
