use Rattle.std.proofs.Common.{◌∙◌}
use Rattle.std.proofs.lemmas.Result.{err_from_is_err_and}
use Rattle.wire_lines.proofs.Growth.{Grows-grows}
use Rattle.tempo_cli.proofs.Pieces.{failed_at, sent_at}
use Rattle.tempo_cli.proofs.notes.send_pieces.Goals as goal

pub returns-in_err-send-clause-err : goal.returns-in_err-send-clause-err
returns-in_err-send-clause-err g c =
    let p = err_from_is_err_and c.from_residual.result c.from_residual.ensures.1 in rw p.1
    (Grows-grows c.loop-piece.invariant.0 c.in_err-send.ensures.err (λ J K p s. failed_at c.args.pieces.now c.loop-piece.piece-index _ J K c.loop-piece-test.true p s))

pub loop-piece-preserved : goal.loop-piece-preserved
loop-piece-preserved g c = (
  Grows-grows c.loop-piece.invariant.0 c.in_ok-send.ensures.ok (λ J K p s. sent_at c.args.pieces.now c.loop-piece.piece-index _ J K c.loop-piece-test.true p s),
  c.in_ok-send.ensures.cause.same ∙ c.loop-piece.invariant.1,
)
