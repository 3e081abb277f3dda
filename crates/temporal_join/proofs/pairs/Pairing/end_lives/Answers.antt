use Rattle.std.proofs.Common.{◌≡◌, ◌∙◌, false, sym, ap, refl}
use Rattle.std.proofs.lemmas.Bool.{eqb-true}
use Rattle.std.specs.Prelude.{List, ℕ}
use Rattle.tw_rows.specs.Words.{word_of_cells}
use Rattle.tw_rows.specs.declared.cells.Datum.{Datum}
use Rattle.synopsis.specs.Held.{key_of}
use Rattle.temporal_join.specs.Pairing.{own_key}
use Rattle.temporal_join.proofs.LiveTelling.{one_told, ends_none, ends_more}
use Rattle.temporal_join.proofs.pairs.Pairing.end_lives.Goals as goal

pub loop-life-init : goal.loop-life-init
loop-life-init c = record { told = ends_none c.args.self.now c.args.own.now c.args.others.now c.args.answer.now.items; columns = refl }

pub loop-life-preserved : goal.loop-life-preserved
loop-life-preserved c =
    let p = c.args.self.now in
    let x = c.in-Some.life in
    let own1 = c.loop-life.own in
    let others = c.args.others.now in
    let cells = c.items.result.now in
    let a1 = c.loop-life.answer.items in
    let a2 = c.tell_lives.new.answer.items in
    let e = c.in-Some.ensures in
    record {
      told = ends_more p c.args.own.now own1 c.pop_end.new.self others x c.args.answer.now.items a1 a2 e.ends e.lasts e.some
          (λ by other.
          let w = eqb-true x.word (word_of_cells (key_of own1.columns x.edge.cells)) e.word in
          let word : x.word ≡ word_of_cells (key_of (own_key p) cells) =
          w ∙ (ap (λ (k : List ℕ). word_of_cells (key_of k x.edge.cells)) (c.loop-life.invariant.columns ∙ by) ∙ ap (λ (l : List Datum). word_of_cells (key_of (own_key p) l)) (sym c.items.ensures)) in
          one_told p false x others x.word cells a1 a2 c.items.ensures other (c.in_ok-tell_lives.ensures word)) c.loop-life.invariant.told;
      columns = c.pop_end.ensures.columns ∙ c.loop-life.invariant.columns;
    }
