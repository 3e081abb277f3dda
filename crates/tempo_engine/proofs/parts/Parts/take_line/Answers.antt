use Rattle.std.proofs.Common.{◌≡◌, ℕ, List, Ok, false, nat_eq, length, ◌∙◌, ap, sym, subst}
use Rattle.row_reader.specs.Celled.{entry_in, IsPlacedIn}
use Rattle.row_reader.specs.Entry.{Read}
use Rattle.row_reader.specs.declared.entry.Said.{Said}
use Rattle.tw_rows.specs.declared.cells.Datum.{Datum}
use Rattle.row_reader.proofs.Celled.{fault_told}
use Rattle.admission.specs.Admission.{admit}
use Rattle.admission.specs.Progress.{progress}
use Rattle.admission.proofs.Growing.{line_read}
use Rattle.ingress.specs.Fits.{Fits}
use Rattle.tempo_engine.specs.Output.{told}
use Rattle.tw_rows.specs.Cells.{with_row}
use Rattle.row_reader.specs.Interned.{row_read}
use Rattle.tempo_engine.proofs.Lines.{texts_next}
use Rattle.ingress.proofs.LinesFit.{line_fits}
use Rattle.ingress.proofs.Reading.{admits_longer}
use Rattle.tempo_engine.proofs.Punctuating.{taken_went, taken_run}
use Rattle.tempo_engine.proofs.Telling.{unread_told, refused_told, bad_unread, bad_refused}
use Rattle.tempo_engine.proofs.parts.Parts.take_line.Goals as goal

says_of : (read : Read) (texts : List (List ℕ)) (said : Said) (row cells : List Datum) → read ≡ Ok (entry_in texts said row) → cells ≡ row → read ≡ Ok (entry_in texts said cells)
says_of read texts said row cells says same = says ∙ ap (λ r. Ok (entry_in texts said r)) (sym same)

pub admit_row-requires-clause-placed : goal.admit_row-requires-clause-placed
admit_row-requires-clause-placed c = subst (IsPlacedIn c.read_cells.new.texts c.in-Ok.said) (sym c.as_slice-row.ensures.value) c.in-Ok.ensures.entry.1

pub returns-in-Err-clause-fault : goal.returns-in-Err-clause-fault
returns-in-Err-clause-fault c = λ plan policy lines given lists fed.
    let same : c.streams-streams.result.now ≡ plan.streams = c.streams-streams.ensures.streams ∙ ap (λ p. p.streams) (c.plan.ensures ∙ fed.went.planned) in
    let valid = line_read plan.streams (nat_eq c.args.number 1) c.args.line.now c.requires.no_feed in
    let answers = fault_told c.read_cells.new.texts c.read_cells.new.row.items c.in-Err.fault _ c.in-Err.ensures.entry in
    rw c.of_row.ensures (unread_told plan fed.sound policy lines fed.read fed.fine (told plan c.args.number c.args.line.now) valid c.in-Err.fault (rw same at answers))

pub admit_row-requires-clause-fits : goal.admit_row-requires-clause-fits
admit_row-requires-clause-fits c =
    let plan = c.args.self.now.dataflow.plan in
    let same : c.streams-streams.result.now ≡ plan.streams = c.streams-streams.ensures.streams ∙ ap (λ p. p.streams) c.plan.ensures in
    let e = entry_in c.read_cells.new.texts c.in-Ok.said c.as_slice-row.result.now in
    let says = says_of _ c.read_cells.new.texts c.in-Ok.said c.read_cells.new.row.items c.as_slice-row.result.now c.in-Ok.ensures.entry.0 c.as_slice-row.ensures.value in
    subst (λ cells. Fits cells e) (sym c.requires.run.fixed.cells) (line_fits plan.streams (nat_eq c.args.number 1) c.args.line.now e c.requires.no_feed (rw same at says))

pub returns-in-Ok-admit_row-clause-run : goal.returns-in-Ok-admit_row-clause-run
returns-in-Ok-admit_row-clause-run c =
    taken_run c.args.self.now c.requires.run c.read_cells.new.texts c.admit_row.new.self (record c.args.self.now { row = c.read_cells.new.row; pools = c.admit_row.new.pools }) c.in-Ok.ensures.begins c.admit_row.ensures.fixed c.admit_row.ensures.released c.admit_row.ensures.pools

pub returns-in-Ok-admit_row-clause-taken : goal.returns-in-Ok-admit_row-clause-taken
returns-in-Ok-admit_row-clause-taken c = λ plan policy lines given lists fed.
    let w = progress plan policy lines false in
    let same : c.streams-streams.result.now ≡ plan.streams = c.streams-streams.ensures.streams ∙ ap (λ p. p.streams) (c.plan.ensures ∙ fed.went.planned) in
    let texts = c.read_cells.new.texts in
    let says = says_of _ c.read_cells.new.texts c.in-Ok.said c.read_cells.new.row.items c.as_slice-row.result.now c.in-Ok.ensures.entry.0 c.as_slice-row.ensures.value in
    let taken = c.in-Ok-admit_row.ensures.ok w.after given (admits_longer texts c.args.self.now.texts w.after given c.args.self.now.ingress c.in-Ok.ensures.begins fed.went.took) in
    let line_times = c.event_times_stay.ensures.lines plan.streams (nat_eq c.args.number 1) c.args.line.now (entry_in texts c.in-Ok.said c.as_slice-row.result.now) c.requires.no_feed (rw same at says) in
    let takes = ap (λ p. admit p w.after (entry_in texts c.in-Ok.said c.as_slice-row.result.now)) (sym fed.went.fixed.policy) ∙ taken.1.0 in
    let timed = c.event_times_stay.ensures.next policy w.after taken.0 (entry_in texts c.in-Ok.said c.as_slice-row.result.now) fed.went.timed line_times takes in
    record {
      entry = entry_in texts c.in-Ok.said c.as_slice-row.result.now;
      after = taken.0;
      says = rw same at says;
      takes = takes;
      texts = (rw same at c.in-Ok.ensures.texts) ∙ ap (λ t. with_row t (row_read (told plan c.args.number c.args.line.now).read)) fed.texts ∙ texts_next plan lines (told plan c.args.number c.args.line.now);
      went = taken_went plan policy w given lists c.args.self.now fed.went taken.0 texts c.admit_row.new.self (record c.args.self.now { row = c.read_cells.new.row; pools = c.admit_row.new.pools }) c.in-Ok.ensures.begins taken.1.1 c.admit_row.ensures.fixed c.admit_row.ensures.released c.admit_row.ensures.pools timed;
      instant = c.event_times_stay.ensures.due policy (length plan.streams) taken.0 timed;
    }

pub returns-in-Err-admit_row-clause-fault : goal.returns-in-Err-admit_row-clause-fault
returns-in-Err-admit_row-clause-fault c = λ plan policy lines given lists fed.
    let w = progress plan policy lines false in
    let same : c.streams-streams.result.now ≡ plan.streams = c.streams-streams.ensures.streams ∙ ap (λ p. p.streams) (c.plan.ensures ∙ fed.went.planned) in
    let valid = line_read plan.streams (nat_eq c.args.number 1) c.args.line.now c.requires.no_feed in
    let texts = c.read_cells.new.texts in
    let says = says_of _ c.read_cells.new.texts c.in-Ok.said c.read_cells.new.row.items c.as_slice-row.result.now c.in-Ok.ensures.entry.0 c.as_slice-row.ensures.value in
    let refuses = c.in-Err-admit_row.ensures.refused w.after given (admits_longer texts c.args.self.now.texts w.after given c.args.self.now.ingress c.in-Ok.ensures.begins fed.went.took) in
    rw c.of_refusal.ensures
    (refused_told plan fed.sound policy lines fed.read fed.fine (told plan c.args.number c.args.line.now) valid (entry_in texts c.in-Ok.said c.as_slice-row.result.now) (rw same at says) c.in-Err-admit_row.refusal
    (rw fed.went.fixed.policy at refuses))

pub returns-in-Err-clause-bad : goal.returns-in-Err-clause-bad
returns-in-Err-clause-bad c =
    let plan = c.args.self.now.dataflow.plan in
    let same : c.streams-streams.result.now ≡ plan.streams = c.streams-streams.ensures.streams ∙ ap (λ p. p.streams) c.plan.ensures in
    let answers = fault_told c.read_cells.new.texts c.read_cells.new.row.items c.in-Err.fault _ c.in-Err.ensures.entry in
    rw c.of_row.ensures (bad_unread plan c.args.number c.args.line.now c.in-Err.fault (rw same at answers))

pub returns-in-Err-admit_row-clause-bad : goal.returns-in-Err-admit_row-clause-bad
returns-in-Err-admit_row-clause-bad c = rw c.of_refusal.ensures (bad_refused c.args.self.now.dataflow.plan c.args.number c.args.line.now c.in-Err-admit_row.refusal)
