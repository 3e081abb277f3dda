use Rattle.std.proofs.Common.{◌≡◌, ◌++◌, ◌∷◌, [], List, Option, ℕ, refl, sym, ◌∙◌, ap, subst}
use Rattle.std.proofs.lemmas.List.Elements.{All-append, All-nil}
use Rattle.std.proofs.lemmas.Result.{err_from_is_err_and}
use Rattle.wire_lines.specs.Journal.{Entry, Grows, IsOut, SentAll, SentFront}
use Rattle.wire_lines.proofs.Growth.{Grows-none}
use Rattle.tempo_cli.specs.Holding.{HoldsOn}
use Rattle.tempo_cli.specs.Feeding.{Asked, Holds, LineRules, HasGiven, status_at}
use Rattle.tempo_cli.specs.declared.answering.Answering.{Answering}
use Rattle.tempo_cli.proofs.Journals.{Grows-then, own_counts}
use Rattle.tempo_cli.proofs.Jobs.{own_asked}
use Rattle.tempo_cli.proofs.Halting.{stays_on}
use Rattle.tempo_cli.proofs.Held.{none_held, hold_more, all_out, stop_out, front_out, front_more, held_all, held_front, stop_more, front_block}
use Rattle.tempo_cli.proofs.Stopping.{own_at}
use Rattle.tempo_cli.proofs.answer.work.Goals as goal

pub lines-init : goal.lines-init
lines-init g c = (
  c.requires.longest,
  refl,
  refl,
  λ q bytes given h few. Grows-none _ (none_held q bytes given _ _ c.new-held.ensures.items h),
  λ k bytes given h few. Grows-none _ (record { outs_alone = All-nil IsOut; more = given; gives = h }),
  (refl, refl, refl),
)

-- where no block was given nothing has changed
same_holds : {q : Asked} {bytes : List ℕ} {more : List (List ℕ)} {s t : Answering} → t ≡ s → Holds q bytes more s → Holds q bytes more t
same_holds {q} {bytes} {more} e h = subst (Holds q bytes more) (sym e) h

same_gives : {k : LineRules} {bytes : List ℕ} {more : List (List ℕ)} {s t : Answering} → t ≡ s → HasGiven k bytes more s → HasGiven k bytes more t
same_gives {k} {bytes} {more} e h = subst (HasGiven k bytes more) (sym e) h

-- all of what was held was sent
sent_all : {held sent : List ℕ} {K : List Entry} → sent ≡ held → SentAll sent K → SentAll held K
sent_all e s = record { outs_alone = s.outs_alone; all = s.all ∙ e }

-- first bytes of it were sent
sent_front : {held sent : List ℕ} {K : List Entry} → sent ≡ held → SentFront sent K → SentFront held K
sent_front e s = record { outs_alone = s.outs_alone; after = s.after; front = sym e ∙ s.front }

pub returns-in-More-clause-ok : goal.returns-in-More-clause-ok
returns-in-More-clause-ok g c = λ q bytes given h few. Grows-then (c.lines.invariant.3 q bytes given h few) (λ O w. c.in_ok-send-in-More.ensures.ok)
    (λ O K w s. all_out O K w _ (c.in-More.ensures.comes q bytes w.more (same_holds c.in_default.ensures.none w.holds) few) (sent_all c.deref-in-More.ensures.value s))

pub returns-in-More-clause-gives : goal.returns-in-More-clause-gives
returns-in-More-clause-gives g c = λ k bytes given h few. Grows-then (c.lines.invariant.4 k bytes given h few) (λ O o. c.in_ok-send-in-More.ensures.ok)
    (λ O K o s. record { outs_alone = All-append IsOut O K o.outs_alone s.outs_alone; more = o.more; gives = c.in-More.ensures.gives k bytes o.more (same_gives c.in_default.ensures.none o.gives) few })

pub returns-in-More-clause-open : goal.returns-in-More-clause-open
returns-in-More-clause-open g c = stays_on (stays_on c.lines.invariant.5 c.next_block.ensures.open) c.in-More.ensures.open

pub returns-in_err-send-in-More-clause-err : goal.returns-in_err-send-in-More-clause-err
returns-in_err-send-in-More-clause-err g c =
    let p = err_from_is_err_and c.from_residual-in_err-send-in-More.result c.from_residual-in_err-send-in-More.ensures.1 in rw (p.1, p.2) (λ q bytes given h few.
    Grows-then (c.lines.invariant.3 q bytes given h few) (λ O w. c.in_err-send-in-More.ensures.err) (λ O K w s. front_out O K w (sent_front c.deref-in-More.ensures.value s)))

pub returns-in_err-send-in-More-clause-reason : goal.returns-in_err-send-in-More-clause-reason
returns-in_err-send-in-More-clause-reason g c =
    let p = err_from_is_err_and c.from_residual-in_err-send-in-More.result c.from_residual-in_err-send-in-More.ensures.1 in rw (p.1, p.2) (λ k bytes given h few.
    Grows-then (c.lines.invariant.4 k bytes given h few) (λ O o. c.in_err-send-in-More.ensures.err) (λ O K o s.
    record { outs_alone = All-append IsOut O K o.outs_alone s.outs_alone; reason = λ ended. tt }))

pub returns-in-Stop-clause-err : goal.returns-in-Stop-clause-err
returns-in-Stop-clause-err g c = λ q bytes given h few. Grows-then (c.lines.invariant.3 q bytes given h few) (λ O w. c.in_ok-send-in-Stop.ensures.ok)
    (λ O K w s. stop_out O K w c.in-Stop.status (c.in-Stop.ensures.comes q bytes w.more (same_holds c.in_default.ensures.none w.holds) few) (sent_all c.deref-in-Stop.ensures.value s))

pub returns-in-Stop-clause-reason : goal.returns-in-Stop-clause-reason
returns-in-Stop-clause-reason g c = λ k bytes given h few. Grows-then (c.lines.invariant.4 k bytes given h few) (λ O o. c.in_ok-send-in-Stop.ensures.ok)
    (λ O K o s. record { outs_alone = All-append IsOut O K o.outs_alone s.outs_alone; reason = c.in-Stop.ensures.gives k bytes o.more (same_gives c.in_default.ensures.none o.gives) few })

pub returns-in-Stop-clause-asked : goal.returns-in-Stop-clause-asked
returns-in-Stop-clause-asked g c = own_asked c.in-Stop.status c.in-Stop.ensures.own

pub returns-in-Stop-clause-counts : goal.returns-in-Stop-clause-counts
returns-in-Stop-clause-counts g c = own_counts _ _ _ _ c.in-Stop.status c.in-Stop.ensures.own (c.in_ok-send-in-Stop.ensures.other.same ∙ c.lines.invariant.1)
    (c.in_ok-send-in-Stop.ensures.cause.same ∙ c.lines.invariant.2)

pub returns-in_err-send-in-Stop-clause-err : goal.returns-in_err-send-in-Stop-clause-err
returns-in_err-send-in-Stop-clause-err g c =
    let p = err_from_is_err_and c.from_residual-in_err-send-in-Stop.result c.from_residual-in_err-send-in-Stop.ensures.1 in rw (p.1, p.2) (λ q bytes given h few.
    Grows-then (c.lines.invariant.3 q bytes given h few) (λ O w. c.in_err-send-in-Stop.ensures.err) (λ O K w s. front_out O K w (sent_front c.deref-in-Stop.ensures.value s)))

pub returns-in_err-send-in-Stop-clause-reason : goal.returns-in_err-send-in-Stop-clause-reason
returns-in_err-send-in-Stop-clause-reason g c =
    let p = err_from_is_err_and c.from_residual-in_err-send-in-Stop.result c.from_residual-in_err-send-in-Stop.ensures.1 in rw (p.1, p.2) (λ k bytes given h few.
    Grows-then (c.lines.invariant.4 k bytes given h few) (λ O o. c.in_err-send-in-Stop.ensures.err) (λ O K o s.
    record { outs_alone = All-append IsOut O K o.outs_alone s.outs_alone; reason = λ ended. tt }))

pub returns-in_err-hold-in-Out-clause-err : goal.returns-in_err-hold-in-Out-clause-err
returns-in_err-hold-in-Out-clause-err g c =
    let p = err_from_is_err_and c.from_residual-in_err-hold-in-Out.result c.from_residual-in_err-hold-in-Out.ensures.1 in rw (p.1, p.2) (λ q bytes given h few.
    Grows-then (c.lines.invariant.3 q bytes given h few) (λ O w. c.in_err-hold-in-Out.ensures.err) (λ O K w s.
    let comes = c.in-Out.ensures.comes q bytes w.more (same_holds c.in_default.ensures.none w.holds) few in
    front_more O K w _ comes.0 c.in-Out.out.items comes.1 comes.2 (sent_front (ap (λ x. c.lines.held.items ++ x) c.deref-in-Out.ensures.value) s)))

pub returns-in_err-hold-in-Out-clause-reason : goal.returns-in_err-hold-in-Out-clause-reason
returns-in_err-hold-in-Out-clause-reason g c =
    let p = err_from_is_err_and c.from_residual-in_err-hold-in-Out.result c.from_residual-in_err-hold-in-Out.ensures.1 in rw (p.1, p.2) (λ k bytes given h few.
    Grows-then (c.lines.invariant.4 k bytes given h few) (λ O o. c.in_err-hold-in-Out.ensures.err) (λ O K o s.
    record { outs_alone = All-append IsOut O K o.outs_alone s.outs_alone; reason = λ ended. tt }))

pub lines-preserved : goal.lines-preserved
lines-preserved g c = (
  c.in-Out.ensures.longest,
  c.in_ok-hold-in-Out.ensures.other.same ∙ c.lines.invariant.1,
  c.in_ok-hold-in-Out.ensures.cause.same ∙ c.lines.invariant.2,
  λ q bytes given h few. Grows-then (c.lines.invariant.3 q bytes given h few) (λ O w. c.in_ok-hold-in-Out.ensures.ok) (λ O K w s.
      let comes = c.in-Out.ensures.comes q bytes w.more (same_holds c.in_default.ensures.none w.holds) few in
      hold_more O K w _ (w.more ++ comes.0 ∷ []) c.in-Out.out.items _ comes.1 comes.2
      (record { outs_alone = s.outs_alone; all = s.all ∙ ap (λ x. c.lines.held.items ++ x) c.deref-in-Out.ensures.value })),
  λ k bytes given h few. Grows-then (c.lines.invariant.4 k bytes given h few) (λ O o. c.in_ok-hold-in-Out.ensures.ok) (λ O K o s.
      let comes = c.in-Out.ensures.gives k bytes o.more (same_gives c.in_default.ensures.none o.gives) few in
      record { outs_alone = All-append IsOut O K o.outs_alone s.outs_alone; more = o.more ++ comes.0 ∷ []; gives = comes.1 }),
  stays_on (stays_on c.lines.invariant.5 c.next_block.ensures.open) c.in-Out.ensures.open,
)

-- the bytes of a block went out with what was held, or first bytes of both did
block_sent : {a b c : Option (List Entry)} {held due after text sent : List ℕ} → due ≡ text → sent ≡ after → Grows a b (HoldsOn held due after) → Grows b c (SentAll sent) → Grows a c (SentAll (held ++ text))
block_sent {a} {b} {c} {held} due_is sent_is on out = Grows-then on (λ O h. out) (λ O K h s. sent_all (ap (λ x. held ++ x) due_is) (held_all O K h (sent_all sent_is s)))

block_front : {a b c : Option (List Entry)} {held due after text sent : List ℕ} → due ≡ text → sent ≡ after → Grows a b (HoldsOn held due after) → Grows b c (SentFront sent) → Grows a c (SentFront (held ++ text))
block_front {a} {b} {c} {held} due_is sent_is on out = Grows-then on (λ O h. out) (λ O K h s. sent_front (ap (λ x. held ++ x) due_is) (held_front O K h (sent_front sent_is s)))

pub lines-preserved-in-Some : goal.lines-preserved-in-Some
lines-preserved-in-Some g c = (
  c.in-Some.ensures.longest,
  c.in_ok-hold.ensures.other.same ∙ c.lines.invariant.1,
  c.in_ok-hold.ensures.cause.same ∙ c.lines.invariant.2,
  λ q bytes given h few. Grows-then (c.lines.invariant.3 q bytes given h few) (λ O w. c.in_ok-hold.ensures.ok) (λ O K w s.
      let b = c.in-Some.ensures.comes q bytes w.more w.holds in
      hold_more O K w _ b.more c.in-Some.field-0.text.items _ (b.holds c.in_default-fault.is) b.grown
      (record { outs_alone = s.outs_alone; all = s.all ∙ ap (λ x. c.lines.held.items ++ x) c.deref.ensures.value })),
  λ k bytes given h few. Grows-then (c.lines.invariant.4 k bytes given h few) (λ O o. c.in_ok-hold.ensures.ok) (λ O K o s.
      let b = c.in-Some.ensures.gives k bytes o.more o.gives in
      record { outs_alone = All-append IsOut O K o.outs_alone s.outs_alone; more = b.more; gives = b.gives c.in_default-fault.is }),
  stays_on c.lines.invariant.5 c.next_block.ensures.open,
)

pub returns-in_err-hold-clause-err : goal.returns-in_err-hold-clause-err
returns-in_err-hold-clause-err g c =
    let p = err_from_is_err_and c.from_residual.result c.from_residual.ensures.1 in rw (p.1, p.2) (λ q bytes given h few.
    Grows-then (c.lines.invariant.3 q bytes given h few) (λ O w. c.in_err-hold.ensures.err) (λ O K w s.
    let b = c.in-Some.ensures.comes q bytes w.more w.holds in
    front_block O K w b.more c.in-Some.field-0.text.items b.grown b.front (sent_front (ap (λ x. c.lines.held.items ++ x) c.deref.ensures.value) s)))

pub returns-in_err-hold-clause-reason : goal.returns-in_err-hold-clause-reason
returns-in_err-hold-clause-reason g c =
    let p = err_from_is_err_and c.from_residual.result c.from_residual.ensures.1 in rw (p.1, p.2) (λ k bytes given h few.
    Grows-then (c.lines.invariant.4 k bytes given h few) (λ O o. c.in_err-hold.ensures.err) (λ O K o s.
    record { outs_alone = All-append IsOut O K o.outs_alone s.outs_alone; reason = λ ended. tt }))

pub returns-in_err-send-clause-err : goal.returns-in_err-send-clause-err
returns-in_err-send-clause-err g c =
    let p = err_from_is_err_and c.from_residual-in_err-send.result c.from_residual-in_err-send.ensures.1 in rw (p.1, p.2) (λ q bytes given h few.
    Grows-then (c.lines.invariant.3 q bytes given h few)
    (λ O w. block_front c.deref.ensures.value c.deref-in-Some-fault.ensures.value c.in_ok-hold.ensures.ok c.in_err-send.ensures.err)
    (λ O K w s.
    let b = c.in-Some.ensures.comes q bytes w.more w.holds in
    front_block O K w b.more c.in-Some.field-0.text.items b.grown b.front s))

pub returns-in_err-send-clause-reason : goal.returns-in_err-send-clause-reason
returns-in_err-send-clause-reason g c =
    let p = err_from_is_err_and c.from_residual-in_err-send.result c.from_residual-in_err-send.ensures.1 in rw (p.1, p.2) (λ k bytes given h few.
    Grows-then (c.lines.invariant.4 k bytes given h few)
    (λ O o. block_front refl c.deref-in-Some-fault.ensures.value c.in_ok-hold.ensures.ok c.in_err-send.ensures.err)
    (λ O K o s. record { outs_alone = All-append IsOut O K o.outs_alone s.outs_alone; reason = λ ended. tt }))

pub returns-in-Some-fault-clause-err : goal.returns-in-Some-fault-clause-err
returns-in-Some-fault-clause-err g c = rw c.from.ensures (λ q bytes given h few.
    Grows-then (c.lines.invariant.3 q bytes given h few)
    (λ O w. block_sent c.deref.ensures.value c.deref-in-Some-fault.ensures.value c.in_ok-hold.ensures.ok c.in_ok-send.ensures.ok)
    (λ O K w s.
    let b = c.in-Some.ensures.comes q bytes w.more w.holds in
    stop_more O K w b.more c.in-Some.field-0.text.items (status_at c.in-Some-fault.fault) b.grown (b.ends c.in-Some-fault.fault c.in-Some-fault.is) s))

pub returns-in-Some-fault-clause-reason : goal.returns-in-Some-fault-clause-reason
returns-in-Some-fault-clause-reason g c = rw c.from.ensures (λ k bytes given h few.
    Grows-then (c.lines.invariant.4 k bytes given h few)
    (λ O o. block_sent refl c.deref-in-Some-fault.ensures.value c.in_ok-hold.ensures.ok c.in_ok-send.ensures.ok)
    (λ O K o s.
    let b = c.in-Some.ensures.gives k bytes o.more o.gives in
    record { outs_alone = All-append IsOut O K o.outs_alone s.outs_alone; reason = b.stops c.in-Some-fault.fault c.in-Some-fault.is }))

pub returns-in-Some-fault-clause-counts : goal.returns-in-Some-fault-clause-counts
returns-in-Some-fault-clause-counts g c = rw c.from.ensures (own_counts _ _ _ _ (status_at c.in-Some-fault.fault) (own_at c.in-Some-fault.fault)
    (c.in_ok-send.ensures.other.same ∙ (c.in_ok-hold.ensures.other.same ∙ c.lines.invariant.1))
    (c.in_ok-send.ensures.cause.same ∙ (c.in_ok-hold.ensures.cause.same ∙ c.lines.invariant.2)))
