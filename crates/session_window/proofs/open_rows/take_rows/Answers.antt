use Rattle.std.proofs.Common.{◌∙◌, ◌+◌, sym, ap, Some, None}
use Rattle.tw_rows.specs.Bag.{total}
use Rattle.synopsis.specs.Buckets.{rows_in}
use Rattle.synopsis.proofs.Keyed.{rows_found}
use Rattle.session_window.proofs.OpenKeys.{left_by, left_rows, left_keyed, value_at, none_at, none_is}
use Rattle.session_window.proofs.open_rows.take_rows.Goals as goal

pub returns-in_default-clause-own : goal.returns-in_default-clause-own
returns-in_default-clause-own c = λ columns keyed.
    c.new.ensures.items ∙ (rows_found c.args.sessions.now.entries c.args.key.now None (none_is _ c.in_default.ensures.found) c.len.ensures.unique columns keyed)

pub returns-in-Some-swap_remove_index-clause-taken : goal.returns-in-Some-swap_remove_index-clause-taken
returns-in-Some-swap_remove_index-clause-taken c = λ w.
    let es = c.args.sessions.now.entries in
    let fs = c.swap_remove_index.new.self.entries in
    let f = c.in-Some-swap_remove_index in
    left_rows es fs f.session (left_by es fs c.in-Some.i (f.field-0-0, f.session) f.ensures.entry f.ensures.entries) w
    ∙ ap (λ l. total w (rows_in fs) + total w l) (sym c.into_rows.ensures)

pub returns-in-Some-swap_remove_index-clause-own : goal.returns-in-Some-swap_remove_index-clause-own
returns-in-Some-swap_remove_index-clause-own c = λ columns keyed.
    let es = c.args.sessions.now.entries in
    let f = c.in-Some-swap_remove_index in
    c.into_rows.ensures
    ∙ rows_found es c.args.key.now (Some f.session) (value_at es c.in-Some.i (f.field-0-0, f.session) _ f.ensures.entry c.in-Some.ensures.value) c.len.ensures.unique columns keyed

pub returns-in-Some-swap_remove_index-clause-keyed : goal.returns-in-Some-swap_remove_index-clause-keyed
returns-in-Some-swap_remove_index-clause-keyed c =
    let es = c.args.sessions.now.entries in
    let fs = c.swap_remove_index.new.self.entries in
    let f = c.in-Some-swap_remove_index in
    left_keyed es fs f.session (left_by es fs c.in-Some.i (f.field-0-0, f.session) f.ensures.entry f.ensures.entries)

pub returns-clause-own : goal.returns-clause-own
returns-clause-own c = λ columns keyed.
    c.new-in-None.ensures.items ∙ (rows_found c.args.sessions.now.entries c.args.key.now None (none_at c.args.sessions.now.entries c.in-Some.i _ c.in-None.ensures.entry c.in-Some.ensures.value) c.len.ensures.unique columns keyed)
