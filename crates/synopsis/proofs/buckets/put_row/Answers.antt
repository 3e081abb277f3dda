use Rattle.std.proofs.Common.{◌∙◌, sym, ap, subst, List, ◌++◌}
use Rattle.tw_rows.specs.declared.cells.Datum.{Datum}
use Rattle.std.specs.Map.{set_value}
use Rattle.tw_rows.specs.Bag.{total}
use Rattle.synopsis.specs.Buckets.{rows_in, AreKeyed}
use Rattle.synopsis.proofs.Keyed.{key_test, key_tests, set_again, put_weighs, put_keyed, new_weighs, new_keyed, always}
use Rattle.synopsis.proofs.buckets.put_row.Goals as goal

pub returns-in_err-add-clause-err : goal.returns-in_err-add-clause-err
returns-in_err-add-clause-err c =
    let es = c.args.buckets.now.entries in
    let test = key_test c.args.key.now in
    always c.from_residual.result _ ((c.get_mut.follows.holds c.add.new.self).0 ∙ (ap (set_value test es) c.in_err-add.ensures.err ∙ set_again test es c.in-Some.bucket.now (sym c.in-Some.ensures.value)))

pub returns-in-Some-clause-rows : goal.returns-in-Some-clause-rows
returns-in-Some-clause-rows c = λ w.
    let key = c.args.key.now in
    ap (λ l. total w (rows_in l)) (c.get_mut.follows.holds c.add.new.self).0
    ∙ put_weighs (key_test key) key (key_tests key) c.args.buckets.now.entries c.in-Some.bucket.now c.add.new.self c.args.cells c.args.start (sym c.in-Some.ensures.value) c.in_ok-add.ensures.ok w

pub returns-in-Some-clause-keyed : goal.returns-in-Some-clause-keyed
returns-in-Some-clause-keyed c = λ columns own keyed.
    let key = c.args.key.now in
    subst (λ l. AreKeyed columns l) (sym (c.get_mut.follows.holds c.add.new.self).0)
    (put_keyed (key_test key) key (key_tests key) c.args.buckets.now.entries c.in-Some.bucket.now c.add.new.self c.args.cells c.args.start (sym c.in-Some.ensures.value) c.in_ok-add.ensures.ok columns own keyed)

pub returns-clause-rows : goal.returns-clause-rows
returns-clause-rows c =
    new_weighs c.args.buckets.now c.insert.new.self c.args.key.now c.copy_key.new.owned c.in_ok-of_one.field-0 c.next-owned.result.rows.items c.args.cells c.args.start
    (c.in_ok-copy_key.ensures ∙ ap (λ (l : List Datum). l ++ c.args.key.now) c.next-owned.ensures.key) c.in_default.ensures.value c.get_mut.follows.lender-at-none c.get_mut.follows.holds-at-none
    c.in_ok-insert.ensures.entries c.next-owned.ensures.rows c.in_ok-of_one.ensures

pub returns-clause-keyed : goal.returns-clause-keyed
returns-clause-keyed c =
    new_keyed c.args.buckets.now c.insert.new.self c.args.key.now c.copy_key.new.owned c.in_ok-of_one.field-0 c.next-owned.result.rows.items c.args.cells c.args.start
    (c.in_ok-copy_key.ensures ∙ ap (λ (l : List Datum). l ++ c.args.key.now) c.next-owned.ensures.key) c.in_default.ensures.value c.get_mut.follows.lender-at-none c.get_mut.follows.holds-at-none
    c.in_ok-insert.ensures.entries c.next-owned.ensures.rows c.in_ok-of_one.ensures
