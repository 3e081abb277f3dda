-- Pairs of a row of one side with rows of the other.
use Rattle.std.specs.Prelude.{◌≡◌, ℕ, ◌+◌, max, Bool, true, false, cond, List, map}
use Rattle.tw_rows.specs.declared.edge.Edge.{Edge}
use Rattle.tw_rows.specs.declared.edge.HeldRow.{HeldRow}
use Rattle.plan_model.specs.Keys.{paired_row}
use Rattle.sweep_laws.specs.Moves.{Adds}
use Rattle.sweep_laws.specs.Pairs.{pairs_told}
use Rattle.synopsis.specs.Held.{KeyedRows}
use Rattle.temporal_join.specs.declared.pairs.Pairing.{Pairing}
use Rattle.tw_rows.specs.Bag.{total}
use Rattle.edge_history.specs.Order.{failing}
use Rattle.temporal_join.specs.declared.lives.Life.{Life}
use Rattle.temporal_join.specs.Joined.{join_meets}
use Rattle.temporal_join.specs.Lives.{LivesView, lasts, ends_at, row_of, life_rows}

-- the key columns of the side of the rows, and of the other side
abbrev pub own_key : Pairing → List ℕ
own_key p = cond p.right p.right_key.now p.left_key.now

abbrev pub other_key : Pairing → List ℕ
other_key p = cond p.right p.left_key.now p.right_key.now

-- the row of the pair of x with y of the other side, which began with the later of them
abbrev pub pair_with : Pairing → HeldRow → HeldRow → HeldRow
pair_with p x y = record {
  cells = cond p.right (paired_row p.right_key.now y.cells x.cells) (paired_row p.right_key.now x.cells y.cells);
  start = max x.start y.start;
}

-- what is told at the instant of the pairs of rows with those of the other side: their starts, or their ends
abbrev pub told_pairs : Pairing → Bool → List HeldRow → List HeldRow → List Edge
told_pairs p starts xs ys = pairs_told (join_meets p.left_key.now p.right_key.now) (paired_row p.right_key.now) p.right starts p.at xs ys

-- where the other side is held by its key, the pairs of rows with its rows are told
abbrev pub TellsPairs : Pairing → KeyedRows → Bool → List HeldRow → List Edge → List Edge → Type 0
TellsPairs p others starts rows before after = others.key ≡ other_key p → Adds before after (told_pairs p starts rows others.rows)

-- the rows of one side that end at the instant were taken out, and the ends of their pairs told
pub record EndsTold (p : Pairing) (old new others : LivesView) (before after : List Edge) : Type 0 where
  pub ended : List Life
  pub at : failing (ends_at p.at) ended ≡ 0
  pub lasting : failing lasts ended ≡ 0
  pub parts : (v : Life → ℕ) → total v old.lives ≡ total v new.lives + total v ended
  pub told : old.columns ≡ own_key p → others.columns ≡ other_key p → Adds before after (told_pairs p false (map row_of ended) (life_rows others.lives))

-- rows that start with these edges were put in on one side, and the starts of their pairs told
pub record StartsTold (p : Pairing) (old new others : LivesView) (now before after : List Edge) : Type 0 where
  pub begun : List Life
  pub are : map (λ l. l.edge) begun ≡ now
  pub parts : (v : Life → ℕ) → total v new.lives ≡ total v old.lives + total v begun
  pub told : old.columns ≡ own_key p → others.columns ≡ other_key p → Adds before after (told_pairs p true (map row_of begun) (life_rows others.lives))
