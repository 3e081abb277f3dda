use Rattle.std.specs.Prelude.{length, ◌<◌, ◌++◌, ◌∷◌, []}
use Rattle.std.proofs.Common.{◌∙◌, ap, sym, subst, take, arith}
use Rattle.std.proofs.lemmas.List.{take_more, take_all}
use Rattle.edge_stream.proofs.CarriedParts.{All-there}
use Rattle.ingress.specs.OpenKeys.{starts_in}
use Rattle.ingress.specs.Saving.{stream_of, IsSoundEntry}
use Rattle.ingress.specs.Loaded.{Loads}
use Rattle.ingress.proofs.LoadedAll.{loads_first}
use Rattle.ingress.proofs.loading.load_entries.Goals as goal

pub loop-entry-init : goal.loop-entry-init
loop-entry-init c =
    let n = c.in_ok-held.ensures.len in
    record {
      loads = λ cells last long all. loads_first cells last c.in_ok-held.held.waiting.items (starts_in c.in_ok-held.held.opens.starts) (omega (arith, long, n)) c.in_ok-held.ensures.empty c.in_ok-held.ensures.keeps.queued;
      long = n;
    }

pub loop-entry-preserved : goal.loop-entry-preserved
loop-entry-preserved c =
    let es = c.args.entries.now in
    let i = c.loop-entry.entry-index in
    record {
      loads = λ cells last long all.
          subst (λ x. Loads cells last x c.take_up.new.self.waiting.items (starts_in c.take_up.new.self.opens.starts))
          (ap (λ x. take i es ++ x ∷ []) c.entry-item.is ∙ sym (take_more es i c.entry-item.result c.loop-entry-test.true))
          (c.in_ok-take_up.ensures.ok cells last (take i es) (c.loop-entry.invariant.loads cells last long all)
          (All-there (IsSoundEntry cells last) es i c.entry-item.result c.loop-entry-test.true c.entry-item.is all));
      long = c.take_up.ensures.len ∙ c.loop-entry.invariant.long;
    }

pub take_up-requires : goal.take_up-requires
take_up-requires c =
    let d = All-there (λ e. stream_of e < length c.args.kinds.now) c.args.entries.now c.loop-entry.entry-index c.entry-item.result c.loop-entry-test.true c.entry-item.is c.requires.streams in
    let n = c.loop-entry.invariant.long in
    omega (arith, d, n)

pub returns : goal.returns
returns c = λ cells last long all.
    subst (λ x. Loads cells last x c.loop-entry.held.waiting.items (starts_in c.loop-entry.held.opens.starts)) (take_all c.loop-entry.entry-index c.args.entries.now c.loop-entry-test.false)
    (c.loop-entry.invariant.loads cells last long all)
