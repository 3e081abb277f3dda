use Rattle.std.proofs.Common.{◌+◌, ap, sym, ◌∙◌}
use Rattle.std.proofs.lemmas.Bool.{eq-eqb}
use Rattle.tw_rows.specs.Bag.{total}
use Rattle.tw_rows.specs.Words.{word_of_cells}
use Rattle.tw_rows.proofs.Fronts.{total-push}
use Rattle.synopsis.specs.Held.{key_of}
use Rattle.temporal_join.specs.declared.lives.Life.{Life}
use Rattle.temporal_join.specs.Lives.{LivesView}
use Rattle.temporal_join.proofs.Living.{lives_put}
use Rattle.temporal_join.proofs.lives.Lives.add.Goals as goal

pub invariant_of-self-2 : goal.invariant_of-self-2
invariant_of-self-2 c =
    let x : Life = record { edge = c.args.edge; word = c.args.word } in
    let columns = c.self.inside.columns.items in
    let key = c.requires.word ∙ ap (λ (v : LivesView). word_of_cells (key_of v.columns x.edge.cells)) (sym c.self.view_is) in
    lives_put columns c.self.inside.lives.items c.push.new.self.items x c.self.inside.next c.lesser-next.result c.in_ok-push.ensures.items c.lesser-next.ensures
    (eq-eqb x.word (word_of_cells (key_of columns x.edge.cells)) key) c.requires.lasts c.self.invariant

pub returns-clause-lives : goal.returns-clause-lives
returns-clause-lives c = λ v.
    let x : Life = record { edge = c.args.edge; word = c.args.word } in
    total-push v c.self.inside.lives.items c.push.new.self.items x c.in_ok-push.ensures.items ∙ ap (λ (l : LivesView). total v l.lives + v x) c.self.view_is
