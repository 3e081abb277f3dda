use Rattle.std.proofs.Common.{List, [], subst}
use Rattle.wire_lines.specs.Journal.{Entry}
use Rattle.wire_lines.proofs.Growth.{Grows-none, Grows-weaker}
use Rattle.checkpoint.specs.Form.{form_of}
use Rattle.tempo_cli.specs.Restored.{Reads, CameIn}
use Rattle.tempo_cli.proofs.Breaking.{broken_resumes}
use Rattle.tempo_cli.proofs.Journals.{Grows-then}
use Rattle.tempo_cli.proofs.TakenUp.{fitting, no_room_first}
use Rattle.tempo_cli.proofs.resuming.resume.Goals as goal

pub returns-in_default-clause-resumes : goal.returns-in_default-clause-resumes
returns-in_default-clause-resumes g c = Grows-none _ (no_room_first (fitting c.args.query.now c.args.options.workers c.args.plan c.args.options.policy (c.what_fits_is_a_state.ensures c.args.options.workers c.args.plan c.args.options.policy)))

pub returns-in_default-new-clause-resumes : goal.returns-in_default-new-clause-resumes
returns-in_default-new-clause-resumes g c = Grows-none _ (no_room_first (fitting c.args.query.now c.args.options.workers c.args.plan c.args.options.policy (c.what_fits_is_a_state.ensures c.args.options.workers c.args.plan c.args.options.policy)))

pub returns-in-Err-clause-resumes : goal.returns-in-Err-clause-resumes
returns-in-Err-clause-resumes g c =
    let form = form_of c.args.query.now c.args.options.workers c.args.options.policy c.args.plan in
    let fits = fitting c.args.query.now c.args.options.workers c.args.plan c.args.options.policy (c.what_fits_is_a_state.ensures c.args.options.workers c.args.plan c.args.options.policy) in
    Grows-weaker (c.in-Err.ensures.broke form (subst (λ f. Reads f [] [] c.in-Ok-new.restoring) c.in-Ok.ensures c.in-Ok-new.ensures.reads)) (λ J b. broken_resumes fits b)

pub returns-in-Ok-read_back-clause-resumes : goal.returns-in-Ok-read_back-clause-resumes
returns-in-Ok-read_back-clause-resumes g c =
    let form = form_of c.args.query.now c.args.options.workers c.args.options.policy c.args.plan in
    let d = c.in-Ok-read_back.restored in
    Grows-then {P = CameIn form d.frozen c.read_back.new.restoring d.left d.ended} (c.in-Ok-read_back.ensures.came form (subst (λ f. Reads f [] [] c.in-Ok-new.restoring) c.in-Ok.ensures c.in-Ok-new.ensures.reads))
    (λ (J : List Entry) (k : CameIn form d.frozen c.read_back.new.restoring d.left d.ended J). c.take_up.ensures.resumes c.args.query.now J k)
    (λ J K k r. r)
