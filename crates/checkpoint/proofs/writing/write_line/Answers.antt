use Rattle.checkpoint.proofs.Filling.{on_err}
use Rattle.checkpoint.proofs.Left.{fed, lacks_feed, lacks_last}
use Rattle.checkpoint.proofs.writing.write_line.Goals as goal

pub returns-clause-ok : goal.returns-clause-ok
returns-clause-ok c = fed _ _ _ _ _ c.in_ok-next.ensures.ok c.in_ok-push.ensures.items

pub returns-in_err-next-clause-full : goal.returns-in_err-next-clause-full
returns-in_err-next-clause-full c = on_err _ _ (lacks_feed _ _ c.in_err-next.ensures.full)

pub returns-in_err-push-clause-full : goal.returns-in_err-push-clause-full
returns-in_err-push-clause-full c = on_err _ _ (lacks_last _ _ c.args.out.now c.push_line.new.out c.in_ok-next.ensures.ok c.in_ok-next.ensures.room c.in_err-push.ensures.full)
