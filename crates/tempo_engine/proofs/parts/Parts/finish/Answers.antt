use Rattle.std.proofs.Common.{◌<◌, ◌≤◌, ℕ, false, inl, inr, arith}
use Rattle.std.proofs.lemmas.Bool.{cases_lt}
use Rattle.tw_rows.specs.Instant.{inf}
use Rattle.admission.specs.Progress.{progress}
use Rattle.dataflow.specs.declared.fault.PlanFault.{PlanFault}
use Rattle.dataflow.specs.declared.fault.PlanFault.TheVariants as stepping
use Rattle.tempo_engine.specs.Faults.{IsFaultAtEnd, undefined_at}
use Rattle.tempo_engine.proofs.Lines.{closed_fine, closed_worked, closed_grows, end_due, end_fine, end_worked, end_grows, end_fault_told}
use Rattle.tempo_engine.proofs.parts.Parts.finish.Goals as goal

pub punctuate-requires-clause-run : goal.punctuate-requires-clause-run
punctuate-requires-clause-run g c κs within = c.requires.run

pub punctuate-requires-clause-later : goal.punctuate-requires-clause-later
punctuate-requires-clause-later g c κs within =
    let above : c.args.self.now.ingress.released < inf = (let t = c.is_before.ensures.0 c.if-is_before.true in let l = c.released.ensures in let e = c.infinity-end.ensures in omega (arith, t, l, e)) in
    let end = c.infinity-end.ensures in
    (omega (arith, above, end), omega (arith, end))

pub punctuate-requires-clause-due : goal.punctuate-requires-clause-due
punctuate-requires-clause-due g c κs within = λ thawed.
    let above : c.args.self.now.ingress.released < inf = (let t = c.is_before.ensures.0 c.if-is_before.true in let l = c.released.ensures in let e = c.infinity-end.ensures in omega (arith, t, l, e)) in
    let past = c.requires.took thawed in
    rw c.infinity-end.ensures (past.0, (past.1.0, (progress past.0 past.1.0 past.1.1.0 false, (past.1.1.1.0, (past.1.1.1.1.0, end_due past.0 past.1.0 past.1.1.0 past.1.1.1.0 past.1.1.1.1.0 c.args.self.now past.1.1.1.1.1 above)))))

pub returns-in-Ok-clause-fine : goal.returns-in-Ok-clause-fine
returns-in-Ok-clause-fine g c = λ plan policy lines given lists fed.
    let above : c.args.self.now.ingress.released < inf = (let t = c.is_before.ensures.0 c.if-is_before.true in let l = c.released.ensures in let e = c.infinity-end.ensures in omega (arith, t, l, e)) in
    let s = c.in-Ok.ensures.shown in
    let t = (rw c.infinity-end.ensures at s) in
    end_fine plan policy lines given lists c.args.self.now fed above c.in-Ok.bytes.items (t plan policy (progress plan policy lines false) given lists (end_due plan policy lines given lists c.args.self.now fed above))

pub returns-in-Ok-clause-worked : goal.returns-in-Ok-clause-worked
returns-in-Ok-clause-worked g c = λ plan policy lines given lists fed.
    let above : c.args.self.now.ingress.released < inf = (let t = c.is_before.ensures.0 c.if-is_before.true in let l = c.released.ensures in let e = c.infinity-end.ensures in omega (arith, t, l, e)) in
    let s = c.in-Ok.ensures.shown in
    let k = c.in-Ok.ensures.worked in
    let t = (rw c.infinity-end.ensures at s) in
    let u = (rw c.infinity-end.ensures at k) in
    let due = end_due plan policy lines given lists c.args.self.now fed above in
    end_worked plan policy lines given lists c.args.self.now fed above c.in-Ok.bytes.items (t plan policy (progress plan policy lines false) given lists due) c.punctuate.new.self (u plan policy (progress plan policy lines false) given lists due)

pub returns-in-Ok-clause-text : goal.returns-in-Ok-clause-text
returns-in-Ok-clause-text g c = λ plan policy lines given lists fed.
    let above : c.args.self.now.ingress.released < inf = (let t = c.is_before.ensures.0 c.if-is_before.true in let l = c.released.ensures in let e = c.infinity-end.ensures in omega (arith, t, l, e)) in
    let s = c.in-Ok.ensures.shown in
    let t = (rw c.infinity-end.ensures at s) in
    end_grows plan policy lines given lists c.args.self.now fed above c.in-Ok.bytes.items (t plan policy (progress plan policy lines false) given lists (end_due plan policy lines given lists c.args.self.now fed above))

pub returns-in-Err-clause-fault : goal.returns-in-Err-clause-fault
returns-in-Err-clause-fault g c = λ plan policy lines given lists fed.
    let above : c.args.self.now.ingress.released < inf = (let t = c.is_before.ensures.0 c.if-is_before.true in let l = c.released.ensures in let e = c.infinity-end.ensures in omega (arith, t, l, e)) in
    let s = c.in-Err.ensures.overflow in
    let t = (rw c.infinity-end.ensures at s) in
    rw (c.of_plan.ensures, c.infinity-end.ensures)
    (end_fault_told plan policy lines given lists c.args.self.now fed above c.in-Err.fault (λ node time is. t node time is plan policy (progress plan policy lines false) given lists (end_due plan policy lines given lists c.args.self.now fed above)))

pub returns-else-is_before-clause-fine : goal.returns-else-is_before-clause-fine
returns-else-is_before-clause-fine g c = λ plan policy lines given lists fed.
    let low : inf ≤ c.args.self.now.ingress.released = elim (cases_lt c.released.result c.infinity-end.result) [
      | inl b ↦ absurd (let t = c.is_before.ensures.1 b in let f = c.if-is_before.false in cc)
      | inr a ↦ (let l = c.released.ensures in let e = c.infinity-end.ensures in omega (arith, a, l, e))
    ] in
    closed_fine plan policy lines given lists c.args.self.now fed low

pub returns-else-is_before-clause-worked : goal.returns-else-is_before-clause-worked
returns-else-is_before-clause-worked g c = λ plan policy lines given lists fed.
    let low : inf ≤ c.args.self.now.ingress.released = elim (cases_lt c.released.result c.infinity-end.result) [
      | inl b ↦ absurd (let t = c.is_before.ensures.1 b in let f = c.if-is_before.false in cc)
      | inr a ↦ (let l = c.released.ensures in let e = c.infinity-end.ensures in omega (arith, a, l, e))
    ] in
    closed_worked plan policy lines given lists c.args.self.now fed low

pub returns-else-is_before-clause-text : goal.returns-else-is_before-clause-text
returns-else-is_before-clause-text g c = λ plan policy lines given lists fed.
    let low : inf ≤ c.args.self.now.ingress.released = elim (cases_lt c.released.result c.infinity-end.result) [
      | inl b ↦ absurd (let t = c.is_before.ensures.1 b in let f = c.if-is_before.false in cc)
      | inr a ↦ (let l = c.released.ensures in let e = c.infinity-end.ensures in omega (arith, a, l, e))
    ] in
    closed_grows plan policy lines given lists c.args.self.now fed low c.new.result.items c.new.ensures.items

told_at_end : (p : ℕ) (fault : PlanFault) → IsFaultAtEnd (undefined_at p fault)
told_at_end p (stepping.Overflow node time) = tt
told_at_end p stepping.Memory = tt

pub returns-in-Err-clause-at_end : goal.returns-in-Err-clause-at_end
returns-in-Err-clause-at_end g c = rw c.of_plan.ensures (told_at_end _ c.in-Err.fault)
