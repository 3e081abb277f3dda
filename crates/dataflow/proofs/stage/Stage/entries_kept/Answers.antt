use Rattle.std.specs.Prelude.{◌-◌, ◌^◌, min}
use Rattle.std.proofs.Common.{sym, ap, ◌∙◌}
use Rattle.dataflow.specs.Stages.{entries_in}
use Rattle.dataflow.proofs.stage.Stage.entries_kept.Goals as goal

pub returns-in-Life : goal.returns-in-Life
returns-in-Life c = c.held.ensures ∙ ap (λ s. min (entries_in s) (2 ^ 64 - 1)) (sym c.in-Life.is)

pub returns-in-Union : goal.returns-in-Union
returns-in-Union c = c.held-in-Union.ensures ∙ ap (λ s. min (entries_in s) (2 ^ 64 - 1)) (sym c.in-Union.is)

pub returns-in-Extend : goal.returns-in-Extend
returns-in-Extend c = c.held-in-Extend.ensures ∙ ap (λ s. min (entries_in s) (2 ^ 64 - 1)) (sym c.in-Extend.is)

pub returns-in-Join : goal.returns-in-Join
returns-in-Join c = c.held-in-Join.ensures ∙ ap (λ s. min (entries_in s) (2 ^ 64 - 1)) (sym c.in-Join.is)

pub returns-in-Group : goal.returns-in-Group
returns-in-Group c = c.held-in-Group.ensures ∙ ap (λ s. min (entries_in s) (2 ^ 64 - 1)) (sym c.in-Group.is)

pub returns-in-Anti : goal.returns-in-Anti
returns-in-Anti c = c.held-in-Anti.ensures ∙ ap (λ s. min (entries_in s) (2 ^ 64 - 1)) (sym c.in-Anti.is)

pub returns-in-Clip : goal.returns-in-Clip
returns-in-Clip c = c.held-in-Clip.ensures ∙ ap (λ s. min (entries_in s) (2 ^ 64 - 1)) (sym c.in-Clip.is)

pub returns-in-Session : goal.returns-in-Session
returns-in-Session c = c.held-in-Session.ensures ∙ ap (λ s. min (entries_in s) (2 ^ 64 - 1)) (sym c.in-Session.is)

pub returns-in-Coalesce : goal.returns-in-Coalesce
returns-in-Coalesce c = c.held-in-Coalesce.ensures ∙ ap (λ s. min (entries_in s) (2 ^ 64 - 1)) (sym c.in-Coalesce.is)

pub returns-in-Follow : goal.returns-in-Follow
returns-in-Follow c = c.held-in-Follow.ensures ∙ ap (λ s. min (entries_in s) (2 ^ 64 - 1)) (sym c.in-Follow.is)

pub returns-in-Top : goal.returns-in-Top
returns-in-Top c = c.held-in-Top.ensures ∙ ap (λ s. min (entries_in s) (2 ^ 64 - 1)) (sym c.in-Top.is)
