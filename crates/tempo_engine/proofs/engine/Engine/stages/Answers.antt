use Rattle.tempo_engine.proofs.engine.Engine.stages.Goals as goal

pub returns-clause-runs : goal.returns-clause-runs
returns-clause-runs c = rw (← c.self.view_is) c.stages.ensures.runs
