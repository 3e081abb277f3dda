-- What an entry of another stream leaves.
use Rattle.std.specs.Prelude.{◌≡◌, ◌≢◌, ℕ, ◌-◌, max, nat_eq, nat_lt, Bool, true, false, cond, ◌&&◌, List, [], ◌∷◌, ◌++◌, flat_map, Option, Some, None, refl}
use Rattle.std.proofs.Common.{sym, ◌∙◌, ap}
use Rattle.std.proofs.lemmas.Bool.{eqb-true}
use Rattle.std.proofs.lemmas.List.{append-nil}
use Rattle.std.proofs.lemmas.List.Concat.{flat_map-append}
use Rattle.tw_rows.specs.Event.{Event as Lived}
use Rattle.tw_rows.specs.Instant.{inf}
use Rattle.tw_rows.specs.Rows.{Row}
use Rattle.key_nodes.specs.Joins.{with_life}
use Rattle.row_reader.specs.declared.form.Form.{Form}
use Rattle.row_reader.specs.declared.form.Form.TheVariants.{Interval, Start, End}
use Rattle.row_reader.specs.declared.entry.Entry.{Entry}
use Rattle.row_reader.specs.declared.entry.Entry.TheVariants.{Skip, Punct, Event}
use Rattle.admission.specs.declared.policy.Policy.{Policy}
use Rattle.admission.specs.Admission.{Open, Admission, more_of, closes_open, first, without_first, ended_at, Outcome, Taken, WasLate, Unmatched, closed, enter, bounded, admit, open_event, rows, refuses, drops}
use Rattle.admission.specs.Keeping.{IsOfAnother}
use Rattle.admission.proofs.Steps.{OnTaken, of_stream}

-- of stream s the same is left
record Left (s : ℕ) (a b : Admission) : Type 0 where
  pub bound : b.bound s ≡ a.bound s
  pub mark : b.mark s ≡ a.mark s
  pub rows : rows b s ≡ rows a s

other_of : {X : Type 0} (s k : ℕ) (x y : X) → s ≢ k → cond (nat_eq s k) x y ≡ y
other_of s k x y apart = go (nat_eq s k) refl
  where
    go : (b : Bool) → nat_eq s k ≡ b → cond b x y ≡ y
    go true e = absurd (apart (eqb-true s k e))
    go false e = refl

not_of : (s k : ℕ) (o : Open) → s ≢ k → o.stream ≡ k → open_event s o ≡ []
not_of s k o apart is = go (nat_eq o.stream s) refl
  where
    go : (b : Bool) → nat_eq o.stream s ≡ b → cond b (ended_at inf o) [] ≡ []
    go true e = absurd (apart (sym (eqb-true o.stream s e) ∙ is))
    go false e = refl

without_other : (s : ℕ) (p : Open → Bool) (os : List Open) → ((o : Open) → p o ≡ true → open_event s o ≡ []) →
    flat_map (open_event s) (without_first p os) ≡ flat_map (open_event s) os
without_other s p [] none = refl
without_other s p (o ∷ os) none = go (p o) refl (without_other s p os none)
  where
    go : (b : Bool) → p o ≡ b → flat_map (open_event s) (without_first p os) ≡ flat_map (open_event s) os →
        flat_map (open_event s) (cond b os (o ∷ without_first p os)) ≡ open_event s o ++ flat_map (open_event s) os
    go true e rest = sym (ap (λ x. x ++ flat_map (open_event s) os) (none o e))
    go false e rest = ap (λ x. open_event s o ++ x) rest

made_left : (s k : ℕ) (a : Admission) (new : List (Lived Row)) (os : List Open) → s ≢ k → flat_map (open_event s) os ≡ flat_map (open_event s) a.opens →
    Left s a (record a { made = more_of k new a.made; opens = os })
made_left s k a new os apart same = record {
  bound = refl;
  mark = refl;
  rows = ap (λ x. x ++ flat_map (open_event s) os) (other_of s k (a.made s ++ new) (a.made s) apart) ∙ ap (λ x. a.made s ++ x) same;
}

enter_left : (s k : ℕ) (a : Admission) (form : Form) (sync other : ℕ) (row : Row) (at : ℕ) (dropped : Bool) → s ≢ k →
    OnTaken (Left s a) (enter a k form sync other row at dropped)
enter_left s k a Interval sync other row at dropped apart = made_left s k a (cond dropped [] (with_life row at other)) a.opens apart refl
enter_left s k a Start sync other row at dropped apart =
    let o : Open = record { stream = k; row = row; given = sync; start = at; dropped = dropped } in
    record {
      bound = refl;
      mark = refl;
      rows = ap (λ x. a.made s ++ x) (flat_map-append (open_event s) a.opens (o ∷ []) ∙ (ap (λ x. flat_map (open_event s) a.opens ++ (x ++ [])) (not_of s k o apart refl) ∙ append-nil _));
    }
enter_left s k a End sync other row at dropped apart = go (first (closes_open k row other) a.opens)
  where
    go : (m : Option Open) → OnTaken (Left s a) (closed k at (closes_open k row other) a m)
    go None = tt
    go (Some o) = made_left s k a (ended_at at o) (without_first (closes_open k row other) a.opens) apart
        (without_other s (closes_open k row other) a.opens (λ x passes. not_of s k x apart (of_stream k row other x passes)))

bounded_left : (s k t : ℕ) (a : Admission) (o : Outcome) → s ≢ k → OnTaken (Left s a) o → OnTaken (Left s a) (bounded k t o)
bounded_left s k t a (Taken b) apart h = record { bound = other_of s k (max (b.bound s) t) (b.bound s) apart ∙ h.bound; mark = h.mark; rows = h.rows }
bounded_left s k t a (WasLate time bound) apart h = tt
bounded_left s k t a Unmatched apart h = tt

event_left : (s k : ℕ) (policy : Policy) (a : Admission) (form : Form) (sync other : ℕ) (row : Row) (refused dropped : Bool) → s ≢ k →
    OnTaken (Left s a) (cond refused (WasLate sync (a.bound k)) (bounded k (sync - policy.lateness) (enter a k form sync other row (max sync (a.bound k)) dropped)))
event_left s k policy a form sync other row true dropped apart = tt
event_left s k policy a form sync other row false dropped apart = bounded_left s k (sync - policy.lateness) a _ apart (enter_left s k a form sync other row (max sync (a.bound k)) dropped apart)

admit_left : (policy : Policy) (a : Admission) (e : Entry) (s : ℕ) → IsOfAnother s e → OnTaken (Left s a) (admit policy a e)
admit_left policy a Skip s apart = absurd apart
admit_left policy a (Punct None time) s apart = absurd apart
admit_left policy a (Punct (Some k) time) s apart = record {
  bound = other_of s k (max (a.bound s) time) (a.bound s) apart;
  mark = other_of s k (max (a.mark s) time) (a.mark s) apart;
  rows = refl;
}
admit_left policy a (Event k form sync other row) s apart = event_left s k policy a form sync other row (nat_lt sync (a.bound k) && refuses policy.late) (nat_lt sync (a.bound k) && drops policy.late) apart

taken_left : (policy : Policy) (a b : Admission) (e : Entry) (s : ℕ) → IsOfAnother s e → admit policy a e ≡ Taken b → Left s a b
taken_left policy a b e s apart is = (let h = admit_left policy a e s apart in rw is at h)

pub another_bound : (policy : Policy) (a b : Admission) (e : Entry) (s : ℕ) → IsOfAnother s e → admit policy a e ≡ Taken b → b.bound s ≡ a.bound s
another_bound policy a b e s apart is = (taken_left policy a b e s apart is).bound

pub another_mark : (policy : Policy) (a b : Admission) (e : Entry) (s : ℕ) → IsOfAnother s e → admit policy a e ≡ Taken b → b.mark s ≡ a.mark s
another_mark policy a b e s apart is = (taken_left policy a b e s apart is).mark

pub another_rows : (policy : Policy) (a b : Admission) (e : Entry) (s : ℕ) → IsOfAnother s e → admit policy a e ≡ Taken b → rows b s ≡ rows a s
another_rows policy a b e s apart is = (taken_left policy a b e s apart is).rows
