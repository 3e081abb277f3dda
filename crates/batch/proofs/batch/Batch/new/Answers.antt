use Rattle.std.proofs.Common.{◌-◌, ◌∙◌, refl, ap, arith, map}
use Rattle.tw_rows.specs.Kinds.{cell_kind_of}
use Rattle.batch.specs.PoolsView.{PoolsView}
use Rattle.batch.proofs.PoolLaws.{always, words_told, one_word_more, payload_told}
use Rattle.batch.proofs.batch.Batch.new.Goals as goal

pub returns-in_err-other-clause-err : goal.returns-in_err-other-clause-err
returns-in_err-other-clause-err c =
    let old = c.args.pools.now in
    let two = one_word_more old _ _ 1 2 refl c.words_column.ensures.left c.words_column-2.ensures.left in
    always c.from_residual-in_err-other.result _ (words_told old _ (map cell_kind_of c.args.kinds.now) 2 (omega arith) two)

pub returns-in_err-key-clause-err : goal.returns-in_err-key-clause-err
returns-in_err-key-clause-err c =
    let old = c.args.pools.now in
    let two = one_word_more old _ _ 1 2 refl c.words_column.ensures.left c.words_column-2.ensures.left in
    let three = one_word_more old _ _ 2 3 refl two c.words_column-3.ensures.left in
    always c.from_residual-in_err-key.result _ (words_told old _ (map cell_kind_of c.args.kinds.now) 3 (omega arith) three)

pub returns-in_err-hash-clause-err : goal.returns-in_err-hash-clause-err
returns-in_err-hash-clause-err c =
    let old = c.args.pools.now in
    let two = one_word_more old _ _ 1 2 refl c.words_column.ensures.left c.words_column-2.ensures.left in
    let three = one_word_more old _ _ 2 3 refl two c.words_column-3.ensures.left in
    let four = one_word_more old _ _ 3 4 refl three c.words_column-4.ensures.left in
    always c.from_residual-in_err-hash.result _ (words_told old _ (map cell_kind_of c.args.kinds.now) 4 (omega arith) four)

pub returns-in_err-occupied-clause-err : goal.returns-in_err-occupied-clause-err
returns-in_err-occupied-clause-err c =
    let old = c.args.pools.now in
    let two = one_word_more old _ _ 1 2 refl c.words_column.ensures.left c.words_column-2.ensures.left in
    let three = one_word_more old _ _ 2 3 refl two c.words_column-3.ensures.left in
    let four = one_word_more old _ _ 3 4 refl three c.words_column-4.ensures.left in
    let less : PoolsView → PoolsView = (λ s. record s { occupancies = s.occupancies - 1 }) in
    always c.from_residual-in_err-occupied.result _ (record { count = 5; is = c.occupancy.ensures.left ∙ ap less four })

pub returns-in_err-payload-clause-err : goal.returns-in_err-payload-clause-err
returns-in_err-payload-clause-err c =
    let old = c.args.pools.now in
    let two = one_word_more old _ _ 1 2 refl c.words_column.ensures.left c.words_column-2.ensures.left in
    let three = one_word_more old _ _ 2 3 refl two c.words_column-3.ensures.left in
    let four = one_word_more old _ _ 3 4 refl three c.words_column-4.ensures.left in
    let less : PoolsView → PoolsView = (λ s. record s { occupancies = s.occupancies - 1 }) in
    always c.from_residual-in_err-payload.result _ (payload_told old c.occupancy.new.self c.payload_columns.new.pools (map cell_kind_of c.args.kinds.now) (c.occupancy.ensures.left ∙ ap less four) c.in_err-payload.ensures.err)
