use Rattle.std.proofs.Common.{◌≡◌, ◌<◌, ◌↔◌, sym, subst, arith, slice_index_or}
use Rattle.std.proofs.lemmas.List.{get_or_read}
use Rattle.dataflow.specs.Held.{IsNeededStream}
use Rattle.dataflow.proofs.LastRead.{is_below}
use Rattle.dataflow.proofs.readers.Readers.is_stream_needed.Goals as goal

pub returns : goal.returns
returns c =
    let readers = c.requires.readers in
    let read = readers.of_streams c.args.from c.args.stream c.requires.stream in
    let stream = c.requires.stream in
    let long = readers.streams in
    let at : c.index.result.now ≡ slice_index_or c.args.self.now.streams.items c.args.stream 0 = get_or_read c.args.self.now.streams.items c.args.stream c.index.result.now (omega (arith, stream, long)) c.index.ensures 0 in
    is_below (IsNeededStream c.args.plan.now c.args.from c.args.stream) c.args.from c.index.result.now (subst (λ m. (c.args.from < m) ↔ IsNeededStream c.args.plan.now c.args.from c.args.stream) (sym at) read)
