use Rattle.std.proofs.Common.{◌≡◌, ◌∙◌, true, cond, not, sym, ap, arith, refl}
use Rattle.std.specs.Prelude.{List, ℕ, ◌+◌}
use Rattle.tw_rows.specs.Bag.{total}
use Rattle.tw_rows.specs.Words.{word_of_cells}
use Rattle.tw_rows.specs.declared.cells.Datum.{Datum}
use Rattle.synopsis.specs.Held.{key_of}
use Rattle.temporal_join.specs.declared.lives.Life.{Life}
use Rattle.temporal_join.specs.Lives.{ends_at}
use Rattle.temporal_join.specs.Pairing.{own_key}
use Rattle.temporal_join.proofs.Living.{begun_parts, ends_after}
use Rattle.temporal_join.proofs.LiveTelling.{one_told, starts_one}
use Rattle.temporal_join.proofs.pairs.Pairing.start_life.Goals as goal

pub add-requires-clause-lasts : goal.add-requires-clause-lasts
add-requires-clause-lasts c = (begun_parts c.args.self.now.at c.args.edge.now c.requires).1

pub add-requires-clause-word : goal.add-requires-clause-word
add-requires-clause-word c =
    c.in_ok-word.ensures ∙ (ap (λ (k : List ℕ). word_of_cells (key_of k c.items.result.now)) c.columns.ensures
    ∙ ap (λ (l : List Datum). word_of_cells (key_of c.args.own.now.columns l)) (c.items.ensures ∙ sym c.replace.ensures.value))

pub returns-clause-gone : goal.returns-clause-gone
returns-clause-gone c = λ h.
    let t = c.args.self.now.at in
    let b = begun_parts t c.args.edge.now c.requires in
    let a = c.in_ok-add.ensures.lives (λ l. cond (not (ends_at t l)) 0 1) in
    let z = ends_after t c.args.edge.now b.0 b.1 in
    omega (arith, h, a, z)

pub returns-clause-told : goal.returns-clause-told
returns-clause-told c =
    let p = c.args.self.now in
    let e = c.args.edge.now in
    let word = c.in_ok-word.word in
    let x : Life = record { edge = e; word = word } in
    let own = c.args.own.now in
    let others = c.args.others.now in
    let cells = c.items-2.result.now in
    let a0 = c.args.answer.now.items in
    let a1 = c.tell_lives.new.answer.items in
    let put : (v : Life → ℕ) → total v c.add.new.self.lives ≡ total v own.lives + v x = λ v.
    c.in_ok-add.ensures.lives v ∙ ap (λ (l : List Datum). total v own.lives + v (record { edge = record { sync = e.sync; other = e.other; cells = l }; word = word })) c.replace.ensures.value in
    starts_one p own c.add.new.self others e x a0 a1 refl put
    (λ by other.
    let w : word ≡ word_of_cells (key_of (own_key p) cells) =
    c.in_ok-word.ensures ∙ (ap (λ (k : List ℕ). word_of_cells (key_of k c.items.result.now)) (c.columns.ensures ∙ by)
    ∙ ap (λ (l : List Datum). word_of_cells (key_of (own_key p) l)) (c.items.ensures ∙ sym c.items-2.ensures)) in
    one_told p true x others word cells a0 a1 c.items-2.ensures other (c.in_ok-tell_lives.ensures w))
