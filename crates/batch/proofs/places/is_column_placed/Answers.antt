use Rattle.std.proofs.Common.{get_or, pos, sym, subst, rules}
use Rattle.tw_rows.specs.declared.cells.Datum.TheVariants.{Int}
use Rattle.tw_rows.specs.Cells.{IsPlaced}
use Rattle.batch.specs.Payloads.{payload_data}
use Rattle.batch.proofs.Placing.{ints_placed, flags_placed}
use Rattle.batch.proofs.places.is_column_placed.Goals as goal

pub returns-in-Ints : goal.returns-in-Ints
returns-in-Ints c = (
  λ set i low bit. subst (λ p. IsPlaced c.args.texts.now (get_or (payload_data p) i (Int (pos 0)))) (sym c.in-Ints.is) (ints_placed c.args.texts.now c.in-Ints.field-0.items i),
  λ placed. search rules,
)

pub returns-in-Bits : goal.returns-in-Bits
returns-in-Bits c = (
  λ set i low bit. subst (λ p. IsPlaced c.args.texts.now (get_or (payload_data p) i (Int (pos 0)))) (sym c.in-Bits.is) (flags_placed c.args.texts.now c.in-Bits.field-0.items i),
  λ placed. search rules,
)
