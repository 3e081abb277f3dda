use Rattle.std.proofs.Common.{◌≡◌, OnOk, refl, sym, subst}
use Rattle.tw_rows.proofs.TextTables.{Contains-slice_get, interned-known, interned-new}
use Rattle.tw_rows.proofs.texts.TextTable.intern.Goals as goal

pub returns-in-Some-clause-table : goal.returns-in-Some-clause-table
returns-in-Some-clause-table c = sym (interned-known _ _ (Contains-slice_get _ c.in-Some.id _ c.in-Some.ensures.some))

pub returns-in-None-clause-table : goal.returns-in-None-clause-table
returns-in-None-clause-table c = subst (λ t. OnOk c.add.result (c.add.new.self ≡ t)) (sym (interned-new _ _ (c.in-None.ensures.none.0 refl))) c.add.ensures.table
