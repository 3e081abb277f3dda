use Rattle.std.specs.Prelude.{◌++◌, map}
use Rattle.std.proofs.Common.{◌∙◌, ap, sym}
use Rattle.std.proofs.lemmas.List.{append_assoc, map-append}
use Rattle.ingress.specs.Keeping.{cell_open, opens_in}
use Rattle.ingress.specs.Loaded.{entry_of_open}
use Rattle.ingress.proofs.opens.OpenStarts.save.Goals as goal

pub loop-key-init : goal.loop-key-init
loop-key-init c =
    ap (λ es. c.args.saved.now ++ map entry_of_open (opens_in es)) (c.into_iter-key-iterator.ensures.into_iter_gives ∙ c.iter-key-items.ensures.rest)

pub loop-key-preserved : goal.loop-key-preserved
loop-key-preserved c =
    let here = map (cell_open c.in-Some.key.now) c.in-Some.starts.now.items in
    let rest = opens_in c.next.new.self in
    ap (λ l. l ++ map entry_of_open rest) c.in_ok-save_starts.ensures
    ∙ append_assoc c.loop-key.saved (map entry_of_open here) (map entry_of_open rest)
    ∙ ap (λ l. c.loop-key.saved ++ l) (sym (map-append entry_of_open here rest))
    ∙ sym (ap (λ it. c.loop-key.saved ++ map entry_of_open (opens_in it)) c.in-Some.ensures.steps)
    ∙ c.loop-key.invariant
