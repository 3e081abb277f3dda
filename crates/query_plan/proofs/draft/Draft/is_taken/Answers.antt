use Rattle.std.proofs.Common.{ap, ◌∙◌}
use Rattle.std.specs.Prelude.{is_some}
use Rattle.query_plan.proofs.Drafts.{taken_is}
use Rattle.query_plan.proofs.draft.Draft.is_taken.Goals as goal

pub returns : goal.returns
returns c = c.is_some.ensures ∙ (ap is_some c.node_named.ensures ∙ taken_is c.args.self.now.names c.args.name.now)
