use Rattle.std.specs.Prelude.{◌≡◌, ℕ, Result, Ok, Err, IfOk, IfErr, OnErr, List}
use Rattle.std.proofs.Common.{sym, subst, ap, ◌∙◌, length, arith}
use Rattle.std.proofs.lemmas.List.{take_all}
use Rattle.tw_rows.specs.Cells.{with_row}
use Rattle.tw_rows.specs.declared.edge.Edge.{Edge}
use Rattle.admission.specs.Admission.{Admission, admit, Taken}
use Rattle.admission.specs.Answers.{answer}
use Rattle.row_reader.specs.declared.entry.Entry.{Entry}
use Rattle.ingress.specs.Admits.{cells_of, Admits, Refuses, LeavesTexts}
use Rattle.row_reader.specs.Celled.{entry_in}
use Rattle.row_reader.specs.Interned.{row_read}
use Rattle.admission.specs.declared.policy.Admitted.{Admitted}
use Rattle.ingress.specs.declared.ingress.Refusal.{Refusal}
use Rattle.ingress.specs.declared.ingress.Refusal.TheVariants.{Late, NoStart, Memory}
use Rattle.ingress.specs.Fits.{Fits}
use Rattle.ingress.proofs.Reading.{admits_longer}
use Rattle.ingress.proofs.ingress.Ingress.admit.Goals as goal

on_ok : {T E : Type 0} (r : Result T E) (P Q : T → Type 0) → ((x : T) → P x → Q x) → IfOk r P → IfOk r Q
on_ok (Ok x) P Q f h = f x h
on_ok (Err e) P Q f h = tt

on_err : {T E : Type 0} (r : Result T E) (P Q : E → Type 0) → ((x : E) → P x → Q x) → IfErr r P → IfErr r Q
on_err (Ok x) P Q f h = tt
on_err (Err e) P Q f h = f e h

after_err : {T E : Type 0} (r : Result T E) (P Q : Type 0) → (P → Q) → OnErr r P → OnErr r Q
after_err (Ok x) P Q f h = tt
after_err (Err e) P Q f h = f h

pub returns-in-Err-clause-err : goal.returns-in-Err-clause-err
returns-in-Err-clause-err c = λ a given k. admits_longer c.cells_of_entry.new.texts c.args.texts.now a given c.args.self.now c.in-Err.ensures.begins k

pub admit_row-requires-clause-fits : goal.admit_row-requires-clause-fits
admit_row-requires-clause-fits c =
    let same : entry_in c.cells_of_entry.new.texts c.in-Ok.told.0 c.items.result.now ≡ c.args.entry = ap (entry_in c.cells_of_entry.new.texts c.in-Ok.told.0) c.items.ensures ∙ c.in-Ok.ensures.same in
    subst (Fits (cells_of c.args.self.now)) (sym same) c.requires

pub returns-clause-ok : goal.returns-clause-ok
returns-clause-ok c =
    let i = c.args.self.now in
    let texts = c.cells_of_entry.new.texts in
    let P : Entry → Type 0 = λ e. IfOk c.admit_row.result (λ x. (a : Admission) (given : ℕ → List Edge) → Admits texts a given i →
    (b : Admission) × ((admit i.policy a e ≡ Taken b) × Admits texts b given c.admit_row.new.self × (x ≡ answer i.policy a e))) in
    on_ok c.admit_row.result _ _ (λ x h a given k. h a given (admits_longer texts c.args.texts.now a given i c.in-Ok.ensures.begins k)) (subst P (ap (entry_in texts c.in-Ok.told.0) c.items.ensures ∙ c.in-Ok.ensures.same) c.admit_row.ensures.ok)

pub returns-clause-refused : goal.returns-clause-refused
returns-clause-refused c =
    let i = c.args.self.now in
    let texts = c.cells_of_entry.new.texts in
    let P : Entry → Type 0 = λ e. IfErr c.admit_row.result (λ x. (a : Admission) (given : ℕ → List Edge) → Admits texts a given i → Refuses (admit i.policy a e) x) in
    on_err c.admit_row.result _ _ (λ x h a given k. h a given (admits_longer texts c.args.texts.now a given i c.in-Ok.ensures.begins k)) (subst P (ap (entry_in texts c.in-Ok.told.0) c.items.ensures ∙ c.in-Ok.ensures.same) c.admit_row.ensures.refused)

pub returns-clause-err : goal.returns-clause-err
returns-clause-err c =
    after_err c.admit_row.result _ _ (λ h a given k. h a given (admits_longer c.cells_of_entry.new.texts c.args.texts.now a given c.args.self.now c.in-Ok.ensures.begins k)) c.admit_row.ensures.err

-- all texts of the row are in the table, whatever became of the entry
interned_all : (r : Result Admitted Refusal) (old new : List (List ℕ)) (e : Entry) → new ≡ with_row old (row_read (Ok e)) → LeavesTexts old new r e
interned_all (Ok x) old new e is = is
interned_all (Err (Late time bound)) old new e is = is
interned_all (Err NoStart) old new e is = is
interned_all (Err Memory) old new e is = (length (row_read (Ok e)), is ∙ ap (with_row old) (sym (take_all (length (row_read (Ok e))) (row_read (Ok e)) (omega arith))))

pub returns-clause-texts : goal.returns-clause-texts
returns-clause-texts c = interned_all c.admit_row.result c.args.texts.now c.cells_of_entry.new.texts c.args.entry c.in-Ok.ensures.table
