use Rattle.std.specs.Prelude.{◌≡◌, ℕ, Err, IfOk, IfErr, List}
use Rattle.std.proofs.Common.{◌∙◌, ap, sym, subst}
use Rattle.tw_rows.specs.declared.edge.Edge.{Edge}
use Rattle.admission.specs.Admission.{Admission, admit, Taken}
use Rattle.admission.specs.Answers.{answer}
use Rattle.row_reader.specs.Celled.{entry_in}
use Rattle.row_reader.specs.declared.entry.Said.{Said}
use Rattle.ingress.specs.Admits.{Admits, Refuses, WantsMemory}
use Rattle.ingress.specs.declared.ingress.Refusal.TheVariants.{Memory}
use Rattle.ingress.proofs.ingress.Ingress.admit_row.Goals as goal

pub returns-in-Punct-clause-ok : goal.returns-in-Punct-clause-ok
returns-in-Punct-clause-ok c = λ a given k.
    let i = c.args.self.now in
    let r = c.punctuate.ensures.admits c.args.texts.now a given k in
    (r.0, (ap (λ e. admit i.policy a (entry_in c.args.texts.now e c.args.row.now)) c.in-Punct.is ∙ r.1.0, r.1.1, sym (ap (λ e. answer i.policy a (entry_in c.args.texts.now e c.args.row.now)) c.in-Punct.is)))

pub returns-in-Event-clause-ok : goal.returns-in-Event-clause-ok
returns-in-Event-clause-ok c =
    let i = c.args.self.now in
    let P : Said → Type 0 = λ e. IfOk c.admit_event.result (λ x. (a : Admission) (given : ℕ → List Edge) → Admits c.args.texts.now a given i →
    (b : Admission) × ((admit i.policy a (entry_in c.args.texts.now e c.args.row.now) ≡ Taken b) × Admits c.args.texts.now b given c.admit_event.new.self × (x ≡ answer i.policy a (entry_in c.args.texts.now e c.args.row.now)))) in
    subst P (sym c.in-Event.is) c.admit_event.ensures.ok

pub returns-in-Event-clause-refused : goal.returns-in-Event-clause-refused
returns-in-Event-clause-refused c =
    let i = c.args.self.now in
    let P : Said → Type 0 = λ e. IfErr c.admit_event.result (λ x. (a : Admission) (given : ℕ → List Edge) → Admits c.args.texts.now a given i → Refuses (admit i.policy a (entry_in c.args.texts.now e c.args.row.now)) x) in
    subst P (sym c.in-Event.is) c.admit_event.ensures.refused

pub returns-in-Event-clause-memory : goal.returns-in-Event-clause-memory
returns-in-Event-clause-memory c =
    let P : Said → Type 0 = λ e. c.admit_event.result ≡ Err Memory → WantsMemory c.args.texts.now (entry_in c.args.texts.now e c.args.row.now) c.args.self.now in
    subst P (sym c.in-Event.is) c.admit_event.ensures.memory
