use Rattle.std.proofs.Common.{◌≡◌, ℕ, Bool, true, false, Result, Ok, Err, sym, ◌∙◌, ap}
use Rattle.std.specs.Prelude.{◌&&◌, nat_eq, IfOk, OnOk}
use Rattle.std.proofs.lemmas.Result.{IfErr-weaker, IfOk-weaker}
use Rattle.tempo_cli.proofs.Fed.{took_header, text_header, took_more, text_more, fault_more}
use Rattle.tempo_cli.proofs.Giving.{told_bad}
use Rattle.tempo_cli.proofs.answering.feed.Goals as goal

-- whether it is a header
header_as : (h k : Bool) (n : ℕ) (r b : Bool) → h ≡ k → r ≡ (k && nat_eq n 1) → r ≡ b → (h && nat_eq n 1) ≡ b
header_as h k n r b e is isnt = ap (λ x. x && nat_eq n 1) e ∙ (sym is ∙ isnt)

-- where there is a value, the fact of it
to_each : {T E P Q : Type 0} (r : Result T E) → (P → Q) → OnOk r P → IfOk r (λ _. Q)
to_each (Ok x) f h = f h
to_each (Err e) f h = tt

pub returns-then-is_header-clause-took : goal.returns-then-is_header-clause-took
returns-then-is_header-clause-took g c = λ q given h next t.
    took_header q given c.args.line.now c.args.number c.args.engine.now t next
    (header_as q.header c.args.header c.args.number c.is_header.result true h c.is_header.ensures c.if-is_header.true) c.requires.short

pub returns-then-is_header-clause-text : goal.returns-then-is_header-clause-text
returns-then-is_header-clause-text g c = λ q given h next t.
    text_header q given c.args.line.now c.args.number c.args.engine.now t next
    (header_as q.header c.args.header c.args.number c.is_header.result true h c.is_header.ensures c.if-is_header.true) c.requires.short c.new.result.items c.new.ensures.items

pub returns-clause-took : goal.returns-clause-took
returns-clause-took g c = to_each c.feed_line.result (λ f q given h next t.
    took_more q given c.args.line.now c.args.number c.args.engine.now t next
    (header_as q.header c.args.header c.args.number c.is_header.result false h c.is_header.ensures c.if-is_header.false) c.requires.short _ (f q.plan q.policy t.fed t.took)) c.feed_line.ensures.fed

pub returns-clause-text : goal.returns-clause-text
returns-clause-text g c = IfOk-weaker c.feed_line.result _ _ (λ out f q given h next t.
    text_more q given c.args.line.now c.args.number c.args.engine.now t next
    (header_as q.header c.args.header c.args.number c.is_header.result false h c.is_header.ensures c.if-is_header.false) c.requires.short out.items (f q.plan q.policy t.fed t.took)) c.feed_line.ensures.text

pub returns-clause-fault : goal.returns-clause-fault
returns-clause-fault g c = IfErr-weaker c.feed_line.result _ _ (λ fault f q given h next t.
    fault_more q given c.args.line.now c.args.number c.args.engine.now t next
    (header_as q.header c.args.header c.args.number c.is_header.result false h c.is_header.ensures c.if-is_header.false) c.requires.short fault (f q.plan q.policy t.fed t.took)) c.feed_line.ensures.fault

pub returns-clause-bad : goal.returns-clause-bad
returns-clause-bad g c = λ none. IfErr-weaker c.feed_line.result _ _ (λ fault told. told_bad c.args.engine.now.parts.dataflow.plan c.args.number c.args.line.now fault c.requires.short told) (c.feed_line.ensures.bad none)
