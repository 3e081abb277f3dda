use Rattle.std.proofs.Common.{◌∙◌, sym, ap, subst, refl, Some, None, []}
use Rattle.std.specs.Map.{set_value}
use Rattle.tw_rows.specs.Bag.{total}
use Rattle.synopsis.specs.Held.{is_of_key}
use Rattle.synopsis.specs.Buckets.{rows_in, AreKeyed}
use Rattle.synopsis.proofs.Keyed.{key_test, key_tests, set_again, put_weighs, put_keyed, new_weighs, new_keyed, always, rows_found}
use Rattle.session_window.proofs.OpenKeys.{some_rows, session_filled, no_rows}
use Rattle.session_window.proofs.open_rows.put_row.Goals as goal

pub returns-in_err-add-clause-err : goal.returns-in_err-add-clause-err
returns-in_err-add-clause-err c =
    let es = c.args.sessions.now.entries in
    let test = key_test c.args.key.now in
    always c.from_residual.result _ ((c.get_mut.follows.holds c.add.new.self).0 ∙ (ap (set_value test es) c.in_err-add.ensures.err ∙ set_again test es c.in-Some.session.now (sym c.in-Some.ensures.value)))

pub returns-in-Some-clause-rows : goal.returns-in-Some-clause-rows
returns-in-Some-clause-rows c = λ w.
    let key = c.args.key.now in
    ap (λ l. total w (rows_in l)) (c.get_mut.follows.holds c.add.new.self).0
    ∙ put_weighs (key_test key) key (key_tests key) c.args.sessions.now.entries c.in-Some.session.now c.add.new.self c.args.cells c.args.start (sym c.in-Some.ensures.value) c.in_ok-add.ensures.ok w

pub returns-in-Some-clause-keyed : goal.returns-in-Some-clause-keyed
returns-in-Some-clause-keyed c = λ columns own keyed.
    let key = c.args.key.now in
    subst (λ l. AreKeyed columns l) (sym (c.get_mut.follows.holds c.add.new.self).0)
    (put_keyed (key_test key) key (key_tests key) c.args.sessions.now.entries c.in-Some.session.now c.add.new.self c.args.cells c.args.start (sym c.in-Some.ensures.value) c.in_ok-add.ensures.ok columns own keyed)

pub returns-in-Some-clause-first : goal.returns-in-Some-clause-first
returns-in-Some-clause-first c = λ columns keyed.
    some_rows (is_of_key columns c.args.key.now) (rows_in c.args.sessions.now.entries) c.in-Some.session.now
    (rows_found c.args.sessions.now.entries c.args.key.now (Some c.in-Some.session.now) c.in-Some.ensures.value c.get_mut.ensures.unique columns keyed)
    (session_filled (key_test c.args.key.now) c.args.sessions.now.entries c.in-Some.session.now (sym c.in-Some.ensures.value) keyed.filled)

pub returns-clause-rows : goal.returns-clause-rows
returns-clause-rows c =
    new_weighs c.args.sessions.now c.insert.new.self c.args.key.now c.in_ok-owned.owned c.in_ok-session.session [] c.args.cells c.args.start
    c.in_ok-owned.ensures.items c.in_default.ensures.value c.get_mut.follows.lender-at-none c.get_mut.follows.holds-at-none c.in_ok-insert.ensures.entries refl c.in_ok-session.ensures

pub returns-clause-keyed : goal.returns-clause-keyed
returns-clause-keyed c =
    new_keyed c.args.sessions.now c.insert.new.self c.args.key.now c.in_ok-owned.owned c.in_ok-session.session [] c.args.cells c.args.start
    c.in_ok-owned.ensures.items c.in_default.ensures.value c.get_mut.follows.lender-at-none c.get_mut.follows.holds-at-none c.in_ok-insert.ensures.entries refl c.in_ok-session.ensures

pub returns-clause-first : goal.returns-clause-first
returns-clause-first c = λ columns keyed.
    no_rows (is_of_key columns c.args.key.now) (rows_in c.args.sessions.now.entries)
    (rows_found c.args.sessions.now.entries c.args.key.now None c.in_default.ensures.value c.get_mut.ensures.unique columns keyed)
