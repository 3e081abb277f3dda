use Rattle.std.specs.Prelude.{cond, [], ◌∷◌, ◌++◌, get_or, map}
use Rattle.std.proofs.Common.{refl, sym, subst, ◌∙◌, ◌≤◌, ap, arith}
use Rattle.tw_rows.specs.Instant.{inf}
use Rattle.tw_rows.specs.Bag.{SameBag}
use Rattle.tw_rows.specs.Cells.{datum_kind}
use Rattle.ingress.specs.Held.{start_of}
use Rattle.ingress.specs.OpenKeys.{same_key, starts_in}
use Rattle.ingress.specs.Keeping.{CellOpen, Keeps}
use Rattle.ingress.specs.declared.opens.OpenStart.{OpenStart}
use Rattle.ingress.proofs.Fitting.{put_fits, out_fits, same_fits, edge_fits}
use Rattle.ingress.proofs.Keep.{kept_live, live_same, start_comes, same_if_changed, changed_again, put_back}
use Rattle.ingress.proofs.held_streams.HeldStreams.open_start.Goals as goal

pub returns-in-Err-clause-err : goal.returns-in-Err-clause-err
returns-in-Err-clause-err c =
    let s = c.args.key.stream in
    let live = c.is_live.ensures.0 c.if-not-is_live.false in
    same_if_changed c.args.self.now c.take_out.new.self s
    (changed_again s c.args.self.now.waiting.items c.put_start.new.self.waiting.items c.take_out.new.self.waiting.items c.put_start.ensures.changed c.take_out.ensures.changed)
    (put_back c.in_ok-cells.cells c.args.state.start (get_or c.args.self.now.waiting.items s []) (get_or c.put_start.new.self.waiting.items s []) (get_or c.take_out.new.self.waiting.items s []) c.take_out.result
    live.1
    (subst (λ cells. SameBag (get_or c.put_start.new.self.waiting.items s []) (start_of cells c.args.state.start ∷ get_or c.args.self.now.waiting.items s [])) c.items.ensures c.in_ok-put_start.ensures.ok)
    c.take_out.ensures.taken c.take_out.ensures.none)
    (λ k. ap (λ x. starts_in x.starts k) c.take_out.ensures.opens ∙ (c.in-Err.ensures.err k ∙ ap (λ x. starts_in x.starts k) c.put_start.ensures.opens))

pub returns-clause-ok : goal.returns-clause-ok
returns-clause-ok c = λ st p made opens given is late keeps.
    let s = c.args.key.stream in
    let live = c.is_live.ensures.0 c.if-not-is_live.false in
    let same = live_same c.args.key.given st c.args.state is live.0 in
    let o : CellOpen = record { key = c.args.key; state = c.args.state } in
    subst (λ (x : OpenStart). p ≤ x.start → Keeps p c.put_start.new.self.waiting.items (starts_in c.open-2.new.self.starts) made (opens ++ record { key = c.args.key; state = x } ∷ []) given) (sym same) (λ late2.
    start_comes p c.args.self.now.waiting.items c.put_start.new.self.waiting.items (starts_in c.args.self.now.opens.starts) (starts_in c.open-2.new.self.starts) made made opens (opens ++ o ∷ []) given keeps s c.put_start.ensures.changed
    o refl refl refl (λ k. c.in_default.ensures.ok k ∙ ap (λ l. cond (same_key c.args.key k) (l ++ c.args.state ∷ []) l) (ap (λ x. starts_in x.starts k) c.put_start.ensures.opens)
    ∙ ap (λ x. cond (same_key c.args.key k) (starts_in c.args.self.now.opens.starts k ++ x ∷ []) (starts_in c.args.self.now.opens.starts k)) (sym (kept_live c.args.key.given c.args.state live.0)))
    live.0 live.1 late2
    (subst (λ cells. SameBag (get_or c.put_start.new.self.waiting.items s []) (start_of cells c.args.state.start ∷ get_or c.args.self.now.waiting.items s []))
    (c.items.ensures ∙ c.in_ok-cells.ensures.cases) c.in_ok-put_start.ensures.ok)) late

pub returns-in-Err-clause-fit : goal.returns-in-Err-clause-fit
returns-in-Err-clause-fit c = λ kinds fit is.
    let s = c.args.key.stream in
    let live = c.is_live.ensures.0 c.if-not-is_live.false in
    out_fits kinds s c.put_start.new.self.waiting.items c.take_out.new.self.waiting.items c.take_out.ensures.changed
    (put_fits kinds s c.args.self.now.waiting.items c.put_start.new.self.waiting.items c.put_start.ensures.changed fit c.put_start.result _ c.put_start.ensures.ok c.put_start.ensures.err
    (edge_fits (get_or kinds s []) c.items.result.now c.args.state.start inf live.1 (omega arith) (λ e. omega (arith, e, live.1))
    (ap (map datum_kind) (c.items.ensures ∙ c.in_ok-cells.ensures.cases) ∙ is)))
    c.take_out.result _ c.take_out.ensures.taken c.take_out.ensures.kept

pub returns-clause-fit : goal.returns-clause-fit
returns-clause-fit c = λ kinds fit is.
    let s = c.args.key.stream in
    let live = c.is_live.ensures.0 c.if-not-is_live.false in
    put_fits kinds s c.args.self.now.waiting.items c.put_start.new.self.waiting.items c.put_start.ensures.changed fit c.put_start.result _ c.put_start.ensures.ok c.put_start.ensures.err
    (edge_fits (get_or kinds s []) c.items.result.now c.args.state.start inf live.1 (omega arith) (λ e. omega (arith, e, live.1))
    (ap (map datum_kind) (c.items.ensures ∙ c.in_ok-cells.ensures.cases) ∙ is))

pub returns-in_err-put_start-clause-fit : goal.returns-in_err-put_start-clause-fit
returns-in_err-put_start-clause-fit c = λ kinds fit is.
    same_fits kinds c.args.key.stream c.args.self.now.waiting.items c.put_start.new.self.waiting.items c.put_start.ensures.changed fit c.in_err-put_start.ensures.err
