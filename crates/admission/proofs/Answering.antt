-- A line that is not kept makes no event.
use Rattle.std.specs.Prelude.{◌≡◌, ◌≢◌, ℕ, ◌-◌, max, nat_eq, nat_lt, Bool, true, false, cond, ◌&&◌, List, [], ◌∷◌, ◌++◌, Option, Some, None, refl}
use Rattle.std.proofs.Common.{◌∙◌, ap}
use Rattle.std.proofs.lemmas.List.{append-nil}
use Rattle.tw_rows.specs.Event.{Event as Lived}
use Rattle.tw_rows.specs.Rows.{Row}
use Rattle.key_nodes.specs.Joins.{with_life}
use Rattle.row_reader.specs.declared.form.Form.{Form}
use Rattle.row_reader.specs.declared.form.Form.TheVariants.{Interval, Start, End}
use Rattle.row_reader.specs.declared.entry.Entry.{Entry}
use Rattle.row_reader.specs.declared.entry.Entry.TheVariants.{Skip, Punct, Event}
use Rattle.admission.specs.declared.policy.Admitted.TheVariants.{Kept}
use Rattle.admission.specs.declared.policy.Policy.{Policy}
use Rattle.admission.specs.Admission.{Open, Admission, more_of, closes_open, first, Outcome, Taken, WasLate, Unmatched, closed, enter, bounded, admit, refuses, drops}
use Rattle.admission.specs.Answers.{became, became_closed, event_answer, answer}
use Rattle.admission.proofs.Steps.{OnTaken}

none_made : (d : Bool) (new : List (Lived Row)) → became d new ≢ Kept → cond d [] new ≡ []
none_made true new h = refl
none_made false [] h = refl
none_made false (e ∷ es) h = absurd (h refl)

more_none : (k s : ℕ) (new : List (Lived Row)) (lists : ℕ → List (Lived Row)) → new ≡ [] → more_of k new lists s ≡ lists s
more_none k s new lists none = ap (λ x. more_of k x lists s) none ∙ go (nat_eq s k)
  where
    go : (b : Bool) → cond b (lists s ++ []) (lists s) ≡ lists s
    go true = append-nil (lists s)
    go false = refl

-- of stream s the events made are the same
abbrev SameMade : ℕ → Admission → Admission → Type 0
SameMade s a b = b.made s ≡ a.made s

enter_made : (s k : ℕ) (a : Admission) (form : Form) (sync other : ℕ) (row : Row) (at : ℕ) (dropped : Bool) → event_answer a k form other row at dropped ≢ Kept →
    OnTaken (SameMade s a) (enter a k form sync other row at dropped)
enter_made s k a Interval sync other row at dropped h = more_none k s (cond dropped [] (with_life row at other)) a.made (none_made dropped (with_life row at other) h)
enter_made s k a Start sync other row at dropped h = refl
enter_made s k a End sync other row at dropped h = go (first (closes_open k row other) a.opens) h
  where
    go : (m : Option Open) → became_closed at m ≢ Kept → OnTaken (SameMade s a) (closed k at (closes_open k row other) a m)
    go None i = tt
    go (Some o) i = more_none k s (cond o.dropped [] (with_life o.row o.start at)) a.made (none_made o.dropped (with_life o.row o.start at) i)

bounded_made : (s k t : ℕ) (a : Admission) (o : Outcome) → OnTaken (SameMade s a) o → OnTaken (SameMade s a) (bounded k t o)
bounded_made s k t a (Taken b) h = h
bounded_made s k t a (WasLate time bound) h = tt
bounded_made s k t a Unmatched h = tt

event_made : (s k : ℕ) (policy : Policy) (a : Admission) (form : Form) (sync other : ℕ) (row : Row) (refused dropped : Bool) →
    event_answer a k form other row (max sync (a.bound k)) dropped ≢ Kept →
    OnTaken (SameMade s a) (cond refused (WasLate sync (a.bound k)) (bounded k (sync - policy.lateness) (enter a k form sync other row (max sync (a.bound k)) dropped)))
event_made s k policy a form sync other row true dropped h = tt
event_made s k policy a form sync other row false dropped h = bounded_made s k (sync - policy.lateness) a _ (enter_made s k a form sync other row (max sync (a.bound k)) dropped h)

admit_made : (policy : Policy) (a : Admission) (e : Entry) (s : ℕ) → answer policy a e ≢ Kept → OnTaken (SameMade s a) (admit policy a e)
admit_made policy a Skip s h = refl
admit_made policy a (Punct None time) s h = absurd (h refl)
admit_made policy a (Punct (Some k) time) s h = absurd (h refl)
admit_made policy a (Event k form sync other row) s h = event_made s k policy a form sync other row (nat_lt sync (a.bound k) && refuses policy.late) (nat_lt sync (a.bound k) && drops policy.late) h

pub taken_made : (policy : Policy) (a b : Admission) (e : Entry) (s : ℕ) → answer policy a e ≢ Kept → admit policy a e ≡ Taken b → b.made s ≡ a.made s
taken_made policy a b e s h is = (let m = admit_made policy a e s h in rw is at m)
