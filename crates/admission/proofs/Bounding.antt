-- Bounds and marks as the greatest of what entries say.
use Rattle.std.specs.Prelude.{◌≡◌, ℕ, suc, zero, ◌≤◌, ◌-◌, min, max, nat_eq, nat_lt, Bool, true, false, cond, ◌&&◌, List, [], ◌∷◌, length, Option, Some, None, Ok, Err, refl}
use Rattle.std.proofs.Common.{sym, ◌∙◌, ap, arith}
use Rattle.tw_rows.specs.Instant.{inf}
use Rattle.tw_rows.specs.Rows.{Row}
use Rattle.row_reader.specs.declared.form.Form.{Form}
use Rattle.row_reader.specs.declared.form.Form.TheVariants.{Interval, Start, End}
use Rattle.plan_model.specs.IsPlan.{PlanParts}
use Rattle.plan_laws.specs.Undefined.{Overflow, overflow}
use Rattle.row_reader.specs.Entry.{Read}
use Rattle.row_reader.specs.declared.entry.Entry.{Entry}
use Rattle.row_reader.specs.declared.entry.Entry.TheVariants.{Skip, Punct, Event}
use Rattle.admission.specs.declared.policy.Policy.{Policy}
use Rattle.admission.specs.Admission.{Open, Admission, nothing, raised, closes_open, first, Outcome, Taken, WasLate, Unmatched, closed, enter, bounded, admit, rows, stepped, allowed, refuses, drops}
use Rattle.admission.specs.Bounds.{bound_by, mark_by, greatest, only_bound, and_then, admit_all, with_entry, entries_of}
use Rattle.admission.specs.Entries.{Told, IsEntry, AreEntries}
use Rattle.admission.specs.Progress.{Fault, Progress, start, judged, punctuated, went_on, reading, unless_fault, step, at_end, steps, progress, fault}
use Rattle.admission.proofs.Finality.{end_rows}
use Rattle.admission.proofs.Steps.{OnTaken}
use Rattle.admission.proofs.Stays.{steps_stay}

-- the bound and the mark of stream s are raised to what an entry says of them
record Raises (policy : Policy) (s : ℕ) (e : Entry) (a b : Admission) : Type 0 where
  pub bound : b.bound s ≡ max (a.bound s) (bound_by policy s e)
  pub mark : b.mark s ≡ max (a.mark s) (mark_by s e)

raised_is : (s k t : ℕ) (times : ℕ → ℕ) → raised k t times s ≡ max (times s) (cond (nat_eq s k) t 0)
raised_is s k t times = go (nat_eq s k)
  where
    go : (b : Bool) → cond b (max (times s) t) (times s) ≡ max (times s) (cond b t 0)
    go true = refl
    go false = omega arith

-- an event line by itself changes no bound and no mark
record SameBounds (a b : Admission) : Type 0 where
  pub bound : (s : ℕ) → b.bound s ≡ a.bound s
  pub mark : (s : ℕ) → b.mark s ≡ a.mark s

enter_same : (a : Admission) (k : ℕ) (form : Form) (sync other : ℕ) (row : Row) (at : ℕ) (dropped : Bool) → OnTaken (SameBounds a) (enter a k form sync other row at dropped)
enter_same a k Interval sync other row at dropped = record { bound = λ s. refl; mark = λ s. refl }
enter_same a k Start sync other row at dropped = record { bound = λ s. refl; mark = λ s. refl }
enter_same a k End sync other row at dropped = go (first (closes_open k row other) a.opens)
  where
    go : (m : Option Open) → OnTaken (SameBounds a) (closed k at (closes_open k row other) a m)
    go None = tt
    go (Some o) = record { bound = λ s. refl; mark = λ s. refl }

bounded_raises : (policy : Policy) (s k : ℕ) (form : Form) (sync other : ℕ) (row : Row) (a : Admission) (o : Outcome) → OnTaken (SameBounds a) o →
    OnTaken (Raises policy s (Event k form sync other row) a) (bounded k (sync - policy.lateness) o)
bounded_raises policy s k form sync other row a (Taken b) h = record {
  bound = raised_is s k (sync - policy.lateness) b.bound ∙ ap (λ x. max x (cond (nat_eq s k) (sync - policy.lateness) 0)) (h.bound s);
  mark = (let m = h.mark s in omega (arith, m));
}
bounded_raises policy s k form sync other row a (WasLate time bound) h = tt
bounded_raises policy s k form sync other row a Unmatched h = tt

event_raises : (policy : Policy) (s k : ℕ) (form : Form) (sync other : ℕ) (row : Row) (a : Admission) (refused dropped : Bool) →
    OnTaken (Raises policy s (Event k form sync other row) a) (cond refused (WasLate sync (a.bound k)) (bounded k (sync - policy.lateness) (enter a k form sync other row (max sync (a.bound k)) dropped)))
event_raises policy s k form sync other row a true dropped = tt
event_raises policy s k form sync other row a false dropped = bounded_raises policy s k form sync other row a _ (enter_same a k form sync other row (max sync (a.bound k)) dropped)

admit_raises : (policy : Policy) (s : ℕ) (a : Admission) (e : Entry) → OnTaken (Raises policy s e a) (admit policy a e)
admit_raises policy s a Skip = record { bound = omega arith; mark = omega arith }
admit_raises policy s a (Punct None time) = record { bound = refl; mark = refl }
admit_raises policy s a (Punct (Some k) time) = record { bound = raised_is s k time a.bound; mark = raised_is s k time a.mark }
admit_raises policy s a (Event k form sync other row) = event_raises policy s k form sync other row a (nat_lt sync (a.bound k) && refuses policy.late) (nat_lt sync (a.bound k) && drops policy.late)

taken_raises : (policy : Policy) (s : ℕ) (a b : Admission) (e : Entry) → admit policy a e ≡ Taken b → Raises policy s e a b
taken_raises policy s a b e is = (let h = admit_raises policy s a e in rw is at h)

abbrev after_of : Admission → Outcome → Admission
after_of other (Taken a) = a
after_of other o = other

all_raise : (policy : Policy) (s : ℕ) (es : List Entry) (a b : Admission) → admit_all policy es a ≡ Taken b →
    (b.bound s ≡ max (a.bound s) (greatest (bound_by policy s) es)) × (b.mark s ≡ max (a.mark s) (greatest (mark_by s) es))
all_raise policy s [] a b is = (let e : a ≡ b = ap (after_of a) is in (ap (λ x. x.bound s) (sym e) ∙ omega arith, ap (λ x. x.mark s) (sym e) ∙ omega arith))
all_raise policy s (e ∷ es) a b is = go (admit policy a e) refl is (λ x. all_raise policy s es x b)
  where
    go : (o : Outcome) → admit policy a e ≡ o → and_then o (admit_all policy es) ≡ Taken b →
        ((x : Admission) → admit_all policy es x ≡ Taken b → (b.bound s ≡ max (x.bound s) (greatest (bound_by policy s) es)) × (b.mark s ≡ max (x.mark s) (greatest (mark_by s) es))) →
        (b.bound s ≡ max (a.bound s) (max (bound_by policy s e) (greatest (bound_by policy s) es))) × (b.mark s ≡ max (a.mark s) (max (mark_by s e) (greatest (mark_by s) es)))
    go (Taken x) one i rest =
        let r = rest x i in let t = taken_raises policy s a x e one in let tb = t.bound in let tm = t.mark in let rb = r.0 in let rm = r.1 in
        (max_thrice (a.bound s) (bound_by policy s e) (x.bound s) (greatest (bound_by policy s) es) (b.bound s) tb rb, max_thrice (a.mark s) (mark_by s e) (x.mark s) (greatest (mark_by s) es) (b.mark s) tm rm)
      where
        max_thrice : (p q r g t : ℕ) → r ≡ max p q → t ≡ max r g → t ≡ max p (max q g)
        max_thrice p q r g t h k = omega arith
    go (WasLate time bound) one i rest = absurd (let z = i in cc)
    go Unmatched one i rest = absurd (let z = i in cc)

pub bound_greatest : (policy : Policy) (entries : List Entry) (b : Admission) (s : ℕ) → admit_all policy entries nothing ≡ Taken b → b.bound s ≡ greatest (bound_by policy s) entries
bound_greatest policy entries b s is = (let h = (all_raise policy s entries nothing b is).0 in omega (arith, h))

pub mark_greatest : (policy : Policy) (entries : List Entry) (b : Admission) (s : ℕ) → admit_all policy entries nothing ≡ Taken b → b.mark s ≡ greatest (mark_by s) entries
mark_greatest policy entries b s is = (let h = (all_raise policy s entries nothing b is).1 in omega (arith, h))

-- of one stream
only_is : (policy : Policy) (e : Entry) → IsEntry 1 e → bound_by policy 0 e ≡ only_bound policy e
only_is policy Skip valid = refl
only_is policy (Punct None time) valid = refl
only_is policy (Punct (Some zero) time) valid = refl
only_is policy (Punct (Some (suc k)) time) valid = absurd (let v = valid.0 in omega arith)
only_is policy (Event zero form sync other row) valid = refl
only_is policy (Event (suc k) form sync other row) valid = absurd (let v = valid.0 in omega arith)

only_greatest : (policy : Policy) (es : List Entry) → AreEntries 1 es → greatest (bound_by policy 0) es ≡ greatest (only_bound policy) es
only_greatest policy [] valid = refl
only_greatest policy (e ∷ es) valid = (let h = only_is policy e valid.0 in let r = only_greatest policy es valid.1 in omega (arith, h, r))

pub only_bound_greatest : (policy : Policy) (entries : List Entry) (b : Admission) → AreEntries 1 entries → admit_all policy entries nothing ≡ Taken b → b.bound 0 ≡ greatest (only_bound policy) entries
only_bound_greatest policy entries b valid is = bound_greatest policy entries b 0 is ∙ only_greatest policy entries valid

pub only_allowed : (policy : Policy) (b : Admission) → b.bound 0 ≤ inf → b.mark 0 ≤ inf → allowed policy 1 b ≡ max (stepped policy.period (b.bound 0)) (b.mark 0)
only_allowed policy b low marks =
    let x : min (b.bound 0) inf ≡ b.bound 0 = (omega arith) in
    let y : min (b.mark 0) inf ≡ b.mark 0 = (omega arith) in
    ap (λ t. max (stepped policy.period t) (min (b.mark 0) inf)) x ∙ ap (λ t. max (stepped policy.period (b.bound 0)) t) y

module _ (plan : PlanParts) (policy : Policy) where
  -- what the line says was taken
  record Admits (w : Progress) (line : Told) (v : Progress) : Type 0 where
    pub entry : Entry
    pub says : line.read ≡ Ok entry
    pub taken : admit policy w.after entry ≡ Taken v.after

  went_on_after : (line : ℕ) (w : Progress) (a : Admission) → (went_on plan policy line w (Taken a)).after ≡ a
  went_on_after line w a = go (allowed policy (length plan.streams) a) (nat_lt w.last (allowed policy (length plan.streams) a)) (overflow (rows a) plan.nodes (allowed policy (length plan.streams) a))
    where
      go : (p : ℕ) (b : Bool) (o : Option Overflow) → (cond b (judged p (record w { after = a }) o) (record w { after = a })).after ≡ a
      go p true None = refl
      go p true (Some o) = refl
      go p false o = refl

  outcome_admits : (w : Progress) (line : Told) (entry : Entry) (o : Outcome) → line.read ≡ Ok entry → admit policy w.after entry ≡ o → (went_on plan policy line.number w o).fault ≡ None → Admits w line (went_on plan policy line.number w o)
  outcome_admits w line entry (Taken a) is one h = record { entry = entry; says = is; taken = one ∙ ap Taken (sym (went_on_after line.number w a)) }
  outcome_admits w line entry (WasLate time bound) is one h = absurd (let z = h in cc)
  outcome_admits w line entry Unmatched is one h = absurd (let z = h in cc)

  read_admits : (w : Progress) (line : Told) (r : Read) → line.read ≡ r → (reading plan policy line.number w r).fault ≡ None → Admits w line (reading plan policy line.number w r)
  read_admits w line (Ok entry) is h = outcome_admits w line entry (admit policy w.after entry) is refl h
  read_admits w line (Err cause) is h = absurd (let z = h in cc)

  step_admits : (w : Progress) (line : Told) → (step plan policy w line).fault ≡ None → Admits w line (step plan policy w line)
  step_admits w line h = go w.fault refl h
    where
      go : (f : Option Fault) → w.fault ≡ f → (unless_fault f w (reading plan policy line.number w line.read)).fault ≡ None → Admits w line (unless_fault f w (reading plan policy line.number w line.read))
      go None e i = read_admits w line line.read refl i
      go (Some g) e i = absurd (let z = sym i ∙ e in cc)

  -- without a fault at the end there was none before
  was_fine : (w : Progress) (lines : List Told) → (steps plan policy w lines).fault ≡ None → w.fault ≡ None
  was_fine w lines h = go w.fault refl
    where
      go : (f : Option Fault) → w.fault ≡ f → f ≡ None
      go None e = refl
      go (Some g) e = absurd (let z = sym h ∙ (ap (λ x. x.fault) (steps_stay plan policy w lines g e) ∙ e) in cc)

  steps_admit : (w : Progress) (lines : List Told) → (steps plan policy w lines).fault ≡ None → admit_all policy (entries_of lines) w.after ≡ Taken (steps plan policy w lines).after
  steps_admit w [] h = refl
  steps_admit w (line ∷ lines) h =
      let s = step_admits w line (was_fine (step plan policy w line) lines h) in
      ap (λ r. admit_all policy (with_entry r (entries_of lines)) w.after) s.says
      ∙ (ap (λ o. and_then o (admit_all policy (entries_of lines))) s.taken ∙ steps_admit (step plan policy w line) lines h)

  end_fine : (w : Progress) (ended : Bool) → (at_end plan ended w).fault ≡ None → w.fault ≡ None
  end_fine w false h = h
  end_fine w true h = go w.fault refl h
    where
      go : (f : Option Fault) → w.fault ≡ f → (unless_fault f w (punctuated plan inf w)).fault ≡ None → w.fault ≡ None
      go None e i = e
      go (Some g) e i = i

  pub lines_admitted : (lines : List Told) (ended : Bool) → fault plan policy lines ended ≡ None → admit_all policy (entries_of lines) nothing ≡ Taken (progress plan policy lines ended).after
  lines_admitted lines ended h =
      steps_admit start lines (end_fine (steps plan policy start lines) ended h) ∙ ap Taken (sym (end_rows plan (steps plan policy start lines) ended))
