use Rattle.std.specs.Prelude.{◌≡◌, []}
use Rattle.std.proofs.Common.{sym, subst}
use Rattle.edge_history.specs.History.{of}
use Rattle.synopsis.specs.Kept.{since_at}
use Rattle.plan_laws.specs.RowCells.{cells_of}
use Rattle.egress.specs.Kept.{since_in}
use Rattle.egress.specs.Waiting.{waiting_in, Swept, WaitingArePlaced}
use Rattle.egress.specs.Saved.{TakenEnds, TakenRest}
use Rattle.egress.proofs.SavedAll.{settles, save_resumes, waits_placed}
use Rattle.egress.proofs.SavedFew.{few_saved}
use Rattle.egress.proofs.SavedInstants.{ends_first, ends_last}
use Rattle.egress.proofs.egress.Egress.save.Goals as goal

-- where no edge waits
at_once : goal.returns-then-is_empty-clause-resumes
at_once c = λ texts h closed at.
    let o = c.args.self.now in
    let none = c.is_empty.ensures c.if-is_empty.true in
    let since = since_at o.rows.starts in
    let waiting = waiting_in o.waiting in
    let kinds = o.rows.kinds.items in
    let settled = settles texts h closed closed o at.distinct at.below at.holds in
    let began = ends_first texts kinds (of h) closed closed settled waiting [] since o.rows.lines.items at.holds.high at.holds.swept (waits_placed texts h closed closed o at.placed at.holds) in
    let ends = ends_last texts kinds (of h) closed closed settled waiting [] since [] since waiting (λ t low. none t) began in
    save_resumes texts at.distinct h closed o at.holds at.placed at.typed [] c.save_rest.new.saved since ends
    (subst (λ old. TakenRest old c.save_rest.new.saved since) c.in_ok-saved.ensures c.in_ok-save_rest.ensures)

pub returns-then-is_empty-clause-resumes : goal.returns-then-is_empty-clause-resumes
returns-then-is_empty-clause-resumes c = at_once c

pub returns-then-is_empty-clause-few : goal.returns-then-is_empty-clause-few
returns-then-is_empty-clause-few c = λ texts h closed at. few_saved texts at.distinct h closed at.placed c.args.self.now.rows.kinds.items c.save_rest.new.saved (at_once c texts h closed at)

-- where some do
resumes : goal.returns-clause-resumes
resumes c = λ texts h closed at.
    let o = c.args.self.now in
    let starts : since_at c.in_ok-starts.starts ≡ since_at o.rows.starts = λ i k. c.in_ok-starts.ensures k i in
    let waits : waiting_in c.in_ok-waiting.waiting ≡ waiting_in o.waiting = λ i t. c.in_ok-waiting.ensures t i in
    let lines = o.rows.lines.items in
    let kinds = o.rows.kinds.items in
    let swept : Swept texts kinds (of h) closed closed (since_in texts c.in_ok-starts.starts) (waiting_in c.in_ok-waiting.waiting) lines =
    subst (λ w. Swept texts kinds (of h) closed closed (since_in texts c.in_ok-starts.starts) w lines) (sym waits)
    (subst (λ s. Swept texts kinds (of h) closed closed s (waiting_in o.waiting) lines) (λ i r. sym (c.in_ok-starts.ensures (cells_of texts r)) i) at.holds.swept) in
    let ends = c.in_ok-save_waiting.ensures texts kinds (of h) closed closed lines (settles texts h closed closed o at.distinct at.below at.holds) at.holds.high swept
    (subst (WaitingArePlaced texts) (sym waits) (waits_placed texts h closed closed o at.placed at.holds)) in
    save_resumes texts at.distinct h closed o at.holds at.placed at.typed _ c.save_rest-2.new.saved (since_at c.save_waiting.new.starts)
    (subst (λ s. TakenEnds (of h) closed (waiting_in o.waiting) [] c.save_waiting.new.saved s (since_at c.save_waiting.new.starts)) starts
    (subst (λ w. TakenEnds (of h) closed w [] c.save_waiting.new.saved (since_at c.in_ok-starts.starts) (since_at c.save_waiting.new.starts)) waits
    (subst (λ old. TakenEnds (of h) closed (waiting_in c.in_ok-waiting.waiting) old c.save_waiting.new.saved (since_at c.in_ok-starts.starts) (since_at c.save_waiting.new.starts)) c.in_ok-saved.ensures ends)))
    c.in_ok-save_rest-2.ensures

pub returns-clause-resumes : goal.returns-clause-resumes
returns-clause-resumes c = resumes c

pub returns-clause-few : goal.returns-clause-few
returns-clause-few c = λ texts h closed at. few_saved texts at.distinct h closed at.placed c.args.self.now.rows.kinds.items c.save_rest-2.new.saved (resumes c texts h closed at)
