use Rattle.tempo_engine.proofs.Holding.{is_held}
use Rattle.tempo_engine.proofs.engine.Engine.held.Goals as goal

pub returns : goal.returns
returns c =
    rw (← c.self.view_is)
    (λ plan policy lines ended h.
    is_held plan policy lines ended (record { parts = c.self.inside.parts; lines = c.self.inside.lines; fault = c.self.inside.fault; ended = c.self.inside.ended }) h c.held-2.result c.tell_first.new.pairs.items c.in_ok-held.held.items
    c.held-2.ensures.count c.held-2.ensures.bound c.in_ok-held.ensures c.tell_first.ensures)
