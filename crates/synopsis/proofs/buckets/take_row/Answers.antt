use Rattle.std.proofs.Common.{◌≡◌, ◌∙◌, sym, ap, subst, Some, None, List, [], refl}
use Rattle.indexmap.specs.IndexMap.{set_value_at}
use Rattle.tw_rows.specs.declared.edge.HeldRow.{HeldRow}
use Rattle.synopsis.specs.Buckets.{AreKeyed}
use Rattle.synopsis.proofs.Keyed.{none_held, moved, same_at, set_there, found_at, no_bucket, gone, left_weighs, left_keyed, let_go_weighs, let_go_keyed, none_left, some_left}
use Rattle.synopsis.proofs.buckets.take_row.Goals as goal

pub returns-in_default-clause-none : goal.returns-in_default-clause-none
returns-in_default-clause-none c = λ _.
    none_held c.args.buckets.now.entries c.args.key.now None c.args.cells.now c.args.start (no_bucket _ c.in_default.ensures.found) c.get_index_of.ensures.unique refl

pub returns-then-not-take-clause-none : goal.returns-then-not-take-clause-none
returns-then-not-take-clause-none c = λ _.
    let b = c.pair_mut-bucket.result.1.now in
    none_held c.args.buckets.now.entries c.args.key.now (Some b) c.args.cells.now c.args.start
    (found_at c.args.buckets.now.entries c.in-Some.i c.pair_mut-bucket.result.0.now b _ c.pair_mut-bucket.ensures.value c.in-Some.ensures.value) c.get_index_of.ensures.unique
    (c.take.ensures.none c.if-not-take.true)

pub returns-then-not-take-clause-unchanged : goal.returns-then-not-take-clause-unchanged
returns-then-not-take-clause-unchanged c = λ _.
    let es = c.args.buckets.now.entries in
    let p = c.pair_mut-bucket in
    ap (set_value_at es c.in-Some.i) (c.take.ensures.unchanged c.if-not-take.true) ∙ same_at es c.in-Some.i p.result.0.now p.result.1.now p.ensures.value

pub returns-then-not-take-clause-keyed : goal.returns-then-not-take-clause-keyed
returns-then-not-take-clause-keyed c = λ columns keyed.
    let es = c.args.buckets.now.entries in
    let p = c.pair_mut-bucket in
    subst (λ l. AreKeyed columns l)
    (sym (ap (set_value_at es c.in-Some.i) (c.take.ensures.unchanged c.if-not-take.true) ∙ same_at es c.in-Some.i p.result.0.now p.result.1.now p.ensures.value)) keyed

pub returns-then-is_empty-clause-taken : goal.returns-then-is_empty-clause-taken
returns-then-is_empty-clause-taken c = λ _.
    let es = c.args.buckets.now.entries in
    let p = c.pair_mut-bucket in
    let k = p.result.0.now in
    let b = p.result.1.now in
    let left = c.take.new.self in
    let es1 = set_value_at es c.in-Some.i left in
    let fs = c.swap_remove_index.new.self.entries in
    let empty : left ≡ [] = sym c.rows.ensures ∙ none_left c.rows.result.now (sym c.is_empty.ensures ∙ c.if-is_empty.true) in
    let at = set_there es c.in-Some.i k b left p.ensures.value ∙ ap (λ (l : List HeldRow). Some (k, l)) empty in
    let_go_weighs es es1 b left c.args.cells.now c.args.start (moved es c.in-Some.i k b left p.ensures.value) (c.take.ensures.taken c.if-not-take.false) fs
    (gone es1 fs c.in-Some.i c.swap_remove_index.result k c.swap_remove_index.ensures.entry c.swap_remove_index.ensures.entries at)

pub returns-then-is_empty-clause-keyed : goal.returns-then-is_empty-clause-keyed
returns-then-is_empty-clause-keyed c =
    let es = c.args.buckets.now.entries in
    let p = c.pair_mut-bucket in
    let k = p.result.0.now in
    let b = p.result.1.now in
    let left = c.take.new.self in
    let es1 = set_value_at es c.in-Some.i left in
    let fs = c.swap_remove_index.new.self.entries in
    let empty : left ≡ [] = sym c.rows.ensures ∙ none_left c.rows.result.now (sym c.is_empty.ensures ∙ c.if-is_empty.true) in
    let at = set_there es c.in-Some.i k b left p.ensures.value ∙ ap (λ (l : List HeldRow). Some (k, l)) empty in
    let_go_keyed es es1 b left c.args.cells.now c.args.start (moved es c.in-Some.i k b left p.ensures.value) (c.take.ensures.taken c.if-not-take.false) fs
    (gone es1 fs c.in-Some.i c.swap_remove_index.result k c.swap_remove_index.ensures.entry c.swap_remove_index.ensures.entries at) empty

pub returns-else-is_empty-clause-taken : goal.returns-else-is_empty-clause-taken
returns-else-is_empty-clause-taken c = λ _.
    let es = c.args.buckets.now.entries in
    let p = c.pair_mut-bucket in
    let left = c.take.new.self in
    left_weighs es (set_value_at es c.in-Some.i left) p.result.1.now left c.args.cells.now c.args.start
    (moved es c.in-Some.i p.result.0.now p.result.1.now left p.ensures.value) (c.take.ensures.taken c.if-not-take.false)

pub returns-else-is_empty-clause-keyed : goal.returns-else-is_empty-clause-keyed
returns-else-is_empty-clause-keyed c =
    let es = c.args.buckets.now.entries in
    let p = c.pair_mut-bucket in
    let left = c.take.new.self in
    left_keyed es (set_value_at es c.in-Some.i left) p.result.1.now left c.args.cells.now c.args.start
    (moved es c.in-Some.i p.result.0.now p.result.1.now left p.ensures.value) (c.take.ensures.taken c.if-not-take.false)
    (rw (← c.rows.ensures) (some_left c.rows.result.now (sym c.is_empty.ensures ∙ c.if-is_empty.false)))
