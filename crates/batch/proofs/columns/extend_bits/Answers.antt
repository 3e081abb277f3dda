use Rattle.std.proofs.Common.{◌≡◌, ◌∙◌, ◌++◌, ap, sym, length, take, replicate, true, arith, List, Bool}
use Rattle.std.specs.Prelude.{count_by}
use Rattle.std.proofs.lemmas.List.{take-replicate}
use Rattle.occupancy.specs.Bits.{Bits}
use Rattle.batch.proofs.FirstRows.{all_set}
use Rattle.batch.proofs.columns.extend_bits.Goals as goal

pub returns-then-count-len : goal.returns-then-count-len
returns-then-count-len c =
    let bits = c.args.from.now.items in
    let many : count_by (λ b. b) bits ≡ length bits = (let a = c.count.ensures in let b = c.len.ensures.len in let t = c.if-count-len.true in omega (arith, a, b, t)) in
    let first : replicate c.args.count true ≡ take c.args.count bits =
    sym (ap (take c.args.count) (all_set bits many) ∙ take-replicate c.args.count (length bits) true c.requires.count) in
    let with_items : List Bool → Bits = (λ l. record c.args.bits.now { items = c.args.bits.now.items ++ l }) in
    c.push_set.ensures ∙ ap with_items first
