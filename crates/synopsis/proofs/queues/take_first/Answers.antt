use Rattle.std.specs.Prelude.{◌≡◌, ◌++◌, [], drop, refl}
use Rattle.std.specs.Option.{option_to_list}
use Rattle.std.proofs.Common.{sym, ◌∙◌, ap, arith}
use Rattle.std.proofs.lemmas.Bool.{eqb-true}
use Rattle.synopsis.specs.Kept.{since_at, times_if}
use Rattle.synopsis.proofs.Opened.{none_left, none_taken, all_ended, some_ended, removed_open}
use Rattle.synopsis.proofs.queues.take_first.Goals as goal

pub returns-in_default-clause-first : goal.returns-in_default-clause-first
returns-in_default-clause-first c =
    let none : since_at c.args.starts.now c.args.cells.now ≡ [] = ap times_if (sym c.in_default.ensures.value) in
    none ∙ sym (ap (drop 1) none)

pub returns-in_default-clause-since : goal.returns-in_default-clause-since
returns-in_default-clause-since c = none_taken c.args.starts.now c.swap_remove.new.self c.args.cells.now 1 (sym c.in_default.ensures.value) c.swap_remove.ensures.updates.0

pub returns-then-is_empty-clause-first : goal.returns-then-is_empty-clause-first
returns-then-is_empty-clause-first c =
    let times = ap times_if c.in-Some.ensures.value in
    sym times ∙ (c.pop_front-start.ensures.items ∙ ap (λ l. option_to_list c.pop_front-start.result ++ l) (c.pop_front-start.ensures.rest ∙ ap (drop 1) times))

pub returns-then-is_empty-clause-since : goal.returns-then-is_empty-clause-since
returns-then-is_empty-clause-since c =
    all_ended c.args.starts.now c.swap_remove.new.self c.args.cells.now c.in-Some.since c.in-Some.ensures.value 1 c.pop_front-start.new.self c.pop_front-start.ensures.rest
    (let z = eqb-true c.pop_front-start.new.self.len 0 (sym c.is_empty.ensures ∙ c.if-is_empty.true) in let ok = c.pop_front-start.new.self.ok in none_left c.pop_front-start.new.self.items (omega (arith, z, ok)))
    c.swap_remove.ensures.updates.0

pub returns-clause-first : goal.returns-clause-first
returns-clause-first c =
    let times = ap times_if c.in-Some.ensures.value in
    sym times ∙ (c.pop_front-start.ensures.items ∙ ap (λ l. option_to_list c.pop_front-start.result ++ l) (c.pop_front-start.ensures.rest ∙ ap (drop 1) times))

pub returns-clause-since : goal.returns-clause-since
returns-clause-since c =
    some_ended c.args.starts.now c.swap_remove.new.self c.put_back.new.starts c.args.cells.now c.args.cells.now c.in-Some.since c.pop_front-start.new.self c.in-Some.ensures.value refl
    1 c.pop_front-start.ensures.rest c.swap_remove.ensures.updates.0 c.in_ok-put_back.ensures.since

pub returns-in_default-clause-filled : goal.returns-in_default-clause-filled
returns-in_default-clause-filled c = λ h. removed_open c.args.starts.now c.swap_remove.new.self c.args.cells.now c.swap_remove.ensures.updates.0 h

pub returns-then-is_empty-clause-filled : goal.returns-then-is_empty-clause-filled
returns-then-is_empty-clause-filled c = λ h. removed_open c.args.starts.now c.swap_remove.new.self c.args.cells.now c.swap_remove.ensures.updates.0 h

pub returns-in_err-put_back-clause-filled : goal.returns-in_err-put_back-clause-filled
returns-in_err-put_back-clause-filled c = λ h. c.put_back.ensures.filled (removed_open c.args.starts.now c.swap_remove.new.self c.args.cells.now c.swap_remove.ensures.updates.0 h)

pub returns-clause-filled : goal.returns-clause-filled
returns-clause-filled c = λ h. c.put_back.ensures.filled (removed_open c.args.starts.now c.swap_remove.new.self c.args.cells.now c.swap_remove.ensures.updates.0 h)
