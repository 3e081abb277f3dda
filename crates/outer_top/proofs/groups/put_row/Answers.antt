-- What is answered by hand of the proof of groups::put_row.
use Rattle.std.specs.Prelude.{◌≡◌, ℕ, [], ◌∷◌, ◌++◌}
use Rattle.std.specs.Ordering.{nat_cmp}
use Rattle.std.specs.BTreeMap.{BTreeMap, is_at, insert_entry}
use Rattle.std.specs.Map.{set_value}
use Rattle.std.proofs.Common.{◌∙◌, sym, ap, subst}
use Rattle.edge_history.specs.Order.{failing}
use Rattle.tw_rows.specs.Bag.{total}
use Rattle.outer_top.specs.Ranks.{rows_in, AreRanked}
use Rattle.outer_top.proofs.Weighing.{always, set_again, more_rows, more_ranked, same_ranks, new_rows, new_ranked, new_ranks}
use Rattle.outer_top.proofs.groups.put_row.Goals as goal

pub returns-in-Some-clause-weighs : goal.returns-in-Some-clause-weighs
returns-in-Some-clause-weighs c = λ w.
    ap (λ l. total w (rows_in l)) (c.get_mut.follows.holds c.add.new.self).0
    ∙ more_rows c.args.groups.now.entries c.args.rank c.in-Some.group.now c.add.new.self c.args.row c.in_ok-add.ensures.ok (sym c.in-Some.ensures.value) w

pub returns-in-Some-clause-ranked : goal.returns-in-Some-clause-ranked
returns-in-Some-clause-ranked c = λ rank own h.
    subst (AreRanked rank) (sym (c.get_mut.follows.holds c.add.new.self).0)
    (more_ranked c.args.groups.now.entries c.args.rank c.in-Some.group.now c.add.new.self c.args.row c.in_ok-add.ensures.ok (sym c.in-Some.ensures.value) rank own h)

pub returns-in-Some-clause-keys : goal.returns-in-Some-clause-keys
returns-in-Some-clause-keys c = λ p yes h.
    ap (failing (λ g. p g.0)) (c.get_mut.follows.holds c.add.new.self).0
    ∙ same_ranks c.args.groups.now.entries c.args.rank c.in-Some.group.now c.add.new.self c.args.row c.in_ok-add.ensures.ok (sym c.in-Some.ensures.value) p h

-- the map that no value was lent of is the old one
entries_at : {X : Type 0} (old lent : BTreeMap ℕ X) (k : ℕ) (x : X) (new : BTreeMap ℕ X) → lent ≡ old → new.entries ≡ insert_entry nat_cmp lent.entries k x →
    new.entries ≡ insert_entry nat_cmp old.entries k x
entries_at old lent k x new same is = is ∙ ap (λ m. insert_entry nat_cmp m.entries k x) same

pub returns-clause-weighs : goal.returns-clause-weighs
returns-clause-weighs c = λ w.
    let old = c.args.groups.now in
    let at = entries_at old c.get_mut.follows.lender-at-none c.args.rank c.in_ok-of_one.field-0 c.insert.new.self c.get_mut.follows.holds-at-none c.in_ok-insert.ensures.entries in
    ap (λ l. total w (rows_in l)) at
    ∙ new_rows old.entries c.args.rank c.in_ok-of_one.field-0 c.args.row (c.in_ok-of_one.ensures ∙ ap (λ l. l ++ c.args.row ∷ []) c.new.ensures.items) (sym c.in_default.ensures.value) w

pub returns-clause-ranked : goal.returns-clause-ranked
returns-clause-ranked c = λ rank own h.
    let old = c.args.groups.now in
    let at = entries_at old c.get_mut.follows.lender-at-none c.args.rank c.in_ok-of_one.field-0 c.insert.new.self c.get_mut.follows.holds-at-none c.in_ok-insert.ensures.entries in
    subst (AreRanked rank) (sym at)
    (new_ranked old.entries c.args.rank c.in_ok-of_one.field-0 c.args.row (c.in_ok-of_one.ensures ∙ ap (λ l. l ++ c.args.row ∷ []) c.new.ensures.items) (sym c.in_default.ensures.value) rank own h)

pub returns-clause-keys : goal.returns-clause-keys
returns-clause-keys c = λ p fits h.
    let old = c.args.groups.now in
    let at = entries_at old c.get_mut.follows.lender-at-none c.args.rank c.in_ok-of_one.field-0 c.insert.new.self c.get_mut.follows.holds-at-none c.in_ok-insert.ensures.entries in
    ap (failing (λ g. p g.0)) at
    ∙ new_ranks old.entries c.args.rank c.in_ok-of_one.field-0 c.args.row (c.in_ok-of_one.ensures ∙ ap (λ l. l ++ c.args.row ∷ []) c.new.ensures.items) (sym c.in_default.ensures.value) p fits h

pub returns-in_err-add-clause-err : goal.returns-in_err-add-clause-err
returns-in_err-add-clause-err c =
    let es = c.args.groups.now.entries in
    let k = c.args.rank in
    always c.from_residual.result _ ((c.get_mut.follows.holds c.add.new.self).0 ∙ (ap (set_value (is_at (nat_cmp k)) es) c.in_err-add.ensures.err ∙ set_again es k c.in-Some.group.now (sym c.in-Some.ensures.value)))
