use Rattle.std.proofs.Common.{◌∙◌, ap, nat_eq, length}
use Rattle.synopsis.specs.Held.{is_of_key}
use Rattle.anti_join.proofs.Keys.{kept_length}
use Rattle.anti_join.proofs.sweep.AntiRows.is_free.Goals as goal

pub returns : goal.returns
returns c =
    let right = c.args.self.now.right in
    c.is_empty.ensures ∙ (ap (λ l. nat_eq (length l) 0) c.rows_of.ensures ∙ ap (λ n. nat_eq n 0) (kept_length (is_of_key right.key c.args.key.now) right.rows))
