-- What is answered by hand of the proof of groups::take_row.
use Rattle.std.specs.Prelude.{◌≡◌, ℕ, ◌+◌, List, []}
use Rattle.std.specs.Ordering.{nat_cmp}
use Rattle.std.specs.BTreeMap.{is_at}
use Rattle.std.specs.Map.{set_value, remove_entry}
use Rattle.std.proofs.Common.{◌∙◌, sym, ap, subst}
use Rattle.tw_rows.specs.Bag.{total}
use Rattle.tw_rows.specs.declared.edge.HeldRow.{HeldRow}
use Rattle.std.proofs.lemmas.Option.{same_Some}
use Rattle.edge_history.specs.Opens.{is_held}
use Rattle.edge_history.specs.Order.{failing, many}
use Rattle.synopsis.proofs.Keyed.{none_left}
use Rattle.outer_top.specs.Ranks.{Group, rows_in, AreRanked}
use Rattle.outer_top.proofs.Weighing.{set_again, less_rows, less_ranked, less_ranks, no_rows, no_ranked, no_ranks}
use Rattle.outer_top.proofs.Missing.{found_lacks, none_of_rank}
use Rattle.outer_top.proofs.groups.take_row.Goals as goal

pub returns-then-not-take-clause-none : goal.returns-then-not-take-clause-none
returns-then-not-take-clause-none c = λ _.
    let es = c.args.groups.now.entries in
    let k = c.args.rank in
    (c.get_mut.follows.holds c.take.new.self).0 ∙ (ap (set_value (is_at (nat_cmp k)) es) (c.take.ensures.unchanged c.if-not-take.true) ∙ set_again es k c.in-Some.group.now (sym c.in-Some.ensures.value))

pub returns-then-not-take-clause-ranked : goal.returns-then-not-take-clause-ranked
returns-then-not-take-clause-ranked c = λ rank h.
    let es = c.args.groups.now.entries in
    let k = c.args.rank in
    subst (AreRanked rank) (sym ((c.get_mut.follows.holds c.take.new.self).0 ∙ (ap (set_value (is_at (nat_cmp k)) es) (c.take.ensures.unchanged c.if-not-take.true) ∙ set_again es k c.in-Some.group.now (sym c.in-Some.ensures.value)))) h

pub returns-then-not-take-clause-keys : goal.returns-then-not-take-clause-keys
returns-then-not-take-clause-keys c = λ p h.
    let es = c.args.groups.now.entries in
    let k = c.args.rank in
    ap (failing (λ g. p g.0)) ((c.get_mut.follows.holds c.take.new.self).0 ∙ (ap (set_value (is_at (nat_cmp k)) es) (c.take.ensures.unchanged c.if-not-take.true) ∙ set_again es k c.in-Some.group.now (sym c.in-Some.ensures.value))) ∙ h

-- the groups once the emptied one is taken out
gone_at : (es mid fs : List Group) (k : ℕ) (left : List HeldRow) → mid ≡ set_value (is_at (nat_cmp k)) es left → left ≡ [] → fs ≡ remove_entry (is_at (nat_cmp k)) mid →
    fs ≡ remove_entry (is_at (nat_cmp k)) (set_value (is_at (nat_cmp k)) es [])
gone_at es mid fs k left set none is = is ∙ (ap (remove_entry (is_at (nat_cmp k))) set ∙ ap (λ l. remove_entry (is_at (nat_cmp k)) (set_value (is_at (nat_cmp k)) es l)) none)

pub returns-then-is_empty-clause-taken : goal.returns-then-is_empty-clause-taken
returns-then-is_empty-clause-taken c = λ _ w.
    let es = c.args.groups.now.entries in
    let k = c.args.rank in
    let left = c.take.new.self in
    let row : HeldRow = record { cells = c.args.cells.now; start = c.args.start } in
    let empty : left ≡ [] = sym c.rows.ensures ∙ none_left c.rows.result.now (sym c.is_empty.ensures ∙ c.if-is_empty.true) in
    let at = gone_at es (c.get_mut.follows.lender left).entries c.remove.new.self.entries k left (c.get_mut.follows.holds left).0 empty c.remove.ensures.entries in
    no_rows es k c.in-Some.group.now left row (c.take.ensures.taken c.if-not-take.false) (sym c.in-Some.ensures.value) empty w ∙ ap (λ l. total w (rows_in l) + w row) (sym at)

pub returns-then-is_empty-clause-ranked : goal.returns-then-is_empty-clause-ranked
returns-then-is_empty-clause-ranked c = λ rank h.
    let es = c.args.groups.now.entries in
    let k = c.args.rank in
    let left = c.take.new.self in
    let row : HeldRow = record { cells = c.args.cells.now; start = c.args.start } in
    let empty : left ≡ [] = sym c.rows.ensures ∙ none_left c.rows.result.now (sym c.is_empty.ensures ∙ c.if-is_empty.true) in
    let at = gone_at es (c.get_mut.follows.lender left).entries c.remove.new.self.entries k left (c.get_mut.follows.holds left).0 empty c.remove.ensures.entries in
    subst (AreRanked rank) (sym at) (no_ranked es k c.in-Some.group.now left row (c.take.ensures.taken c.if-not-take.false) (sym c.in-Some.ensures.value) rank h)

pub returns-then-is_empty-clause-keys : goal.returns-then-is_empty-clause-keys
returns-then-is_empty-clause-keys c = λ p h.
    let es = c.args.groups.now.entries in
    let k = c.args.rank in
    let left = c.take.new.self in
    let row : HeldRow = record { cells = c.args.cells.now; start = c.args.start } in
    let empty : left ≡ [] = sym c.rows.ensures ∙ none_left c.rows.result.now (sym c.is_empty.ensures ∙ c.if-is_empty.true) in
    let at = gone_at es (c.get_mut.follows.lender left).entries c.remove.new.self.entries k left (c.get_mut.follows.holds left).0 empty c.remove.ensures.entries in
    ap (failing (λ g. p g.0)) at ∙ no_ranks es k c.in-Some.group.now left row (c.take.ensures.taken c.if-not-take.false) (sym c.in-Some.ensures.value) p h

pub returns-else-is_empty-clause-taken : goal.returns-else-is_empty-clause-taken
returns-else-is_empty-clause-taken c = λ _ w.
    let es = c.args.groups.now.entries in
    let left = c.take.new.self in
    let row : HeldRow = record { cells = c.args.cells.now; start = c.args.start } in
    less_rows es c.args.rank c.in-Some.group.now left row (c.take.ensures.taken c.if-not-take.false) (sym c.in-Some.ensures.value) w ∙ ap (λ l. total w (rows_in l) + w row) (sym (c.get_mut.follows.holds left).0)

pub returns-else-is_empty-clause-ranked : goal.returns-else-is_empty-clause-ranked
returns-else-is_empty-clause-ranked c = λ rank h.
    let es = c.args.groups.now.entries in
    let left = c.take.new.self in
    let row : HeldRow = record { cells = c.args.cells.now; start = c.args.start } in
    subst (AreRanked rank) (sym (c.get_mut.follows.holds left).0) (less_ranked es c.args.rank c.in-Some.group.now left row (c.take.ensures.taken c.if-not-take.false) (sym c.in-Some.ensures.value) rank h)

pub returns-else-is_empty-clause-keys : goal.returns-else-is_empty-clause-keys
returns-else-is_empty-clause-keys c = λ p h.
    let es = c.args.groups.now.entries in
    let left = c.take.new.self in
    let row : HeldRow = record { cells = c.args.cells.now; start = c.args.start } in
    ap (failing (λ g. p g.0)) (c.get_mut.follows.holds left).0 ∙ less_ranks es c.args.rank c.in-Some.group.now left row (c.take.ensures.taken c.if-not-take.false) (sym c.in-Some.ensures.value) p h

pub returns-in_default-clause-missing : goal.returns-in_default-clause-missing
returns-in_default-clause-missing c = λ h rank only own.
    none_of_rank rank c.args.cells.now c.args.start c.args.rank only c.args.groups.now.entries own
    (found_lacks rank c.args.cells.now c.args.start c.args.rank only c.args.groups.now c.in_default.ensures.ordered (λ b there. absurd (let v = c.in_default.ensures.value in cc (v, there))))

pub returns-then-not-take-clause-missing : goal.returns-then-not-take-clause-missing
returns-then-not-take-clause-missing c = λ h rank only own.
    none_of_rank rank c.args.cells.now c.args.start c.args.rank only c.args.groups.now.entries own
    (found_lacks rank c.args.cells.now c.args.start c.args.rank only c.args.groups.now c.in-Some.ensures.ordered (λ b there.
    ap (many (is_held c.args.cells.now c.args.start)) (sym (same_Some c.in-Some.group.now b (c.in-Some.ensures.value ∙ there))) ∙ c.take.ensures.none c.if-not-take.true))
