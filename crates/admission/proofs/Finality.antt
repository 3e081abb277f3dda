-- Finality: what is written for lines is a prefix of what is written for more lines.
use Rattle.std.specs.Prelude.{◌≡◌, ℕ, suc, zero, ◌-◌, ◌<◌, ◌≤◌, max, nat_lt, Bool, true, false, cond, List, [], ◌∷◌, ◌++◌, length, map, flat_map, Option, Some, None, Ok, Err, refl}
use Rattle.std.proofs.Common.{sym, ◌∙◌, ap, arith, inl, inr, append_assoc}
use Rattle.std.proofs.lemmas.Bool.{ltb-true, cases_lt}
use Rattle.std.proofs.lemmas.List.{append-nil}
use Rattle.std.proofs.lemmas.List.Concat.{flat_map-append}
use Rattle.tw_rows.specs.Instant.{inf}
use Rattle.tw_rows.specs.Event.{Known}
use Rattle.tw_rows.specs.Rows.{Row}
use Rattle.tw_rows.proofs.Knowing.{Known-lower, Known-refl, Known-trans}
use Rattle.plan_model.specs.Changes.{changes}
use Rattle.plan_model.specs.IsPlan.{PlanParts}
use Rattle.plan_model.specs.Meaning.{Sources, closes, IsOrdered, IsLevelled}
use Rattle.plan_model.proofs.PlanLaws.{snapshots_final}
use Rattle.plan_model.proofs.Steady.{changes_same}
use Rattle.plan_laws.specs.Undefined.{Overflow, overflow}
use Rattle.row_reader.specs.Entry.{Read}
use Rattle.admission.specs.declared.policy.Policy.{Policy}
use Rattle.admission.specs.Admission.{Admission, Outcome, Taken, WasLate, Unmatched, admit, rows, allowed}
use Rattle.admission.specs.Entries.{Told, IsRead, AreRead}
use Rattle.admission.specs.Keeping.{Goes, IsGoing, RiseAbove, last_of}
use Rattle.admission.specs.Progress.{Fault, Progress, start, judged, punctuated, went_on, reading, unless_fault, step, at_end, steps, progress}
use Rattle.admission.specs.Text.{Item, Changed, Closed, between, written_from, written, items, closed_up, text, IsFront}
use Rattle.admission.proofs.Steps.{nothing_sound, rows_valid, OnTaken, admit_goes, allowed_below, allowed_low}

-- no punctuation is above p
abbrev pub UpTo : ℕ → List ℕ → Type 0
UpTo p [] = Unit {0}
UpTo p (d ∷ ds) = (d ≤ p) × UpTo p ds

pub last_above : (p : ℕ) (ds : List ℕ) → RiseAbove p ds → p ≤ last_of p ds
last_above p [] h = omega arith
last_above p (d ∷ ds) h = (let l = last_above d ds h.1 in let x = h.0 in omega arith)

up_to_last : (p : ℕ) (ds : List ℕ) → RiseAbove p ds → UpTo (last_of p ds) ds
up_to_last p [] h = tt
up_to_last p (d ∷ ds) h = (last_above d ds h.1, up_to_last d ds h.1)

pub rise_more : (p q : ℕ) (ds : List ℕ) → RiseAbove p ds → last_of p ds < q → RiseAbove p (ds ++ q ∷ [])
rise_more p q [] h low = (low, tt)
rise_more p q (d ∷ ds) h low = (h.0, rise_more d q ds h.1 low)

pub last_more : (p q : ℕ) (ds : List ℕ) → last_of p (ds ++ q ∷ []) ≡ q
last_more p q [] = refl
last_more p q (d ∷ ds) = last_more d q ds

pub up_to : (streams : ℕ) (w : Progress) → IsGoing streams w → UpTo w.last w.dues
up_to streams w g = (let h = up_to_last 0 w.dues g.rise in rw (sym g.last) h)

changes_none : (f g : ℕ → List Row) (a n : ℕ) → n ≡ 0 → changes f a n ≡ changes g a n
unfolding changes
changes_none f g a zero e = refl
changes_none f g a (suc n) e = absurd (omega arith)

front_same : (x y : List Item) → y ≡ x → IsFront x y
front_same x y e = ([], e ∙ sym (append-nil x))

pub steps-append : (plan : PlanParts) (policy : Policy) (w : Progress) (lines more : List Told) → steps plan policy w (lines ++ more) ≡ steps plan policy (steps plan policy w lines) more
steps-append plan policy w [] more = refl
steps-append plan policy w (line ∷ lines) more = steps-append plan policy (step plan policy w line) lines more

pub start_going : (streams : ℕ) → IsGoing streams start
start_going streams = record { sound = nothing_sound; low = omega arith; below = λ s low. omega arith; rise = tt; last = refl }

-- the end of the input changes no rows
pub end_rows : (plan : PlanParts) (w : Progress) (ended : Bool) → (at_end plan ended w).after ≡ w.after
end_rows plan w false = refl
end_rows plan w true = go w.fault (nat_lt w.last inf) (overflow (rows w.after) plan.nodes inf)
  where
    go : (f : Option Fault) (b : Bool) (o : Option Overflow) → (unless_fault f w (cond b (judged inf w o) w)).after ≡ w.after
    go (Some fault) b o = refl
    go None false o = refl
    go None true (Some fault) = refl
    go None true None = refl

module _ (plan : PlanParts) (ordered : IsOrdered plan.nodes) (levelled : IsLevelled plan.nodes) where
  between_same : (source later_source : Sources) (p last : ℕ) → ((s : ℕ) → Known p (source s) (later_source s)) →
      between source plan last (closes plan.nodes plan.root p) ≡ between later_source plan last (closes plan.nodes plan.root p)
  unfolding between
  between_same source later_source p last known =
      ap (λ ls. map Changed ls ++ cond (nat_lt last (closes plan.nodes plan.root p)) (Closed (closes plan.nodes plan.root p) ∷ []) []) (elim (cases_lt (closes plan.nodes plan.root p) last) [
        | inl before ↦ changes_none _ _ last (closes plan.nodes plan.root p - last) (omega arith)
        | inr after ↦ changes_same _ _ (closes plan.nodes plan.root p) (λ t low. snapshots_final p source later_source plan.nodes ordered levelled known plan.root t low) last (closes plan.nodes plan.root p - last) (omega arith)
      ])

  -- what was written stays, where all sources are known alike below the last punctuation
  pub written_same : (source later_source : Sources) (p last : ℕ) (ds : List ℕ) → ((s : ℕ) → Known p (source s) (later_source s)) → UpTo p ds →
      written_from source plan last ds ≡ written_from later_source plan last ds
  written_same source later_source p last [] known low = refl
  written_same source later_source p last (d ∷ ds) known low =
      ap (λ x. x ++ written_from source plan (max last (closes plan.nodes plan.root d)) ds) (between_same source later_source d last (λ s. Known-lower p d _ _ low.0 (known s)))
      ∙ ap (λ x. between later_source plan last (closes plan.nodes plan.root d) ++ x) (written_same source later_source p (max last (closes plan.nodes plan.root d)) ds known low.1)

  pub written_more : (source : Sources) (last : ℕ) (ds es : List ℕ) → written_from source plan last (ds ++ es) ≡ written_from source plan last ds ++ written_from source plan (closed_up plan last ds) es
  written_more source last [] es = refl
  written_more source last (d ∷ ds) es =
      ap (λ x. between source plan last (closes plan.nodes plan.root d) ++ x) (written_more source (max last (closes plan.nodes plan.root d)) ds es)
      ∙ sym (append_assoc (between source plan last (closes plan.nodes plan.root d)) _ _)

  -- from one state to the next: the invariant, and what is written grows
  pub record Grows (w v : Progress) : Type 0 where
    pub going : IsGoing (length plan.streams) v
    pub front : IsFront (written plan w) (written plan v)
    pub later : w.last ≤ v.last
    pub known : (s : ℕ) → Known w.last (rows w.after s) (rows v.after s)

  itself : (w : Progress) → IsGoing (length plan.streams) w → (s : ℕ) → Known w.last (rows w.after s) (rows w.after s)
  itself w g s = Known-refl w.last (rows w.after s) g.low (rows_valid w.after g.sound s)

  stays : (w : Progress) → IsGoing (length plan.streams) w → Grows w w
  stays w g = record { going = g; front = front_same _ _ refl; later = omega arith; known = itself w g }

  faulted : (w : Progress) (f : Fault) → IsGoing (length plan.streams) w → Grows w (record w { fault = Some f })
  faulted w f g = record {
    going = record { sound = g.sound; low = g.low; below = g.below; rise = g.rise; last = g.last };
    front = front_same _ _ refl;
    later = omega arith;
    known = itself w g;
  }

  pub goes_known : (w : Progress) (a : Admission) → IsGoing (length plan.streams) w → Goes (length plan.streams) w.after a → (s : ℕ) → Known w.last (rows w.after s) (rows a s)
  goes_known w a g goes s = elim (cases_lt s (length plan.streams)) [
    | inl before ↦ goes.known s w.last (g.below s before)
    | inr after ↦ goes.others s w.last after g.low
  ]

  -- what was written is written over the rows of more lines, too
  pub written_after : (w : Progress) (a : Admission) → IsGoing (length plan.streams) w → Goes (length plan.streams) w.after a → written plan (record w { after = a }) ≡ written plan w
  written_after w a g goes = sym (written_same (rows w.after) (rows a) w.last 0 w.dues (goes_known w a g goes) (up_to (length plan.streams) w g))

  -- new rows that leave what is known below the last punctuation
  rows_grow : (w : Progress) (a : Admission) → IsGoing (length plan.streams) w → Goes (length plan.streams) w.after a → Grows w (record w { after = a })
  rows_grow w a g goes = record {
    going = record { sound = goes.sound; low = g.low; below = λ s low. (let b = g.below s low in let r = goes.bounds s in omega arith); rise = g.rise; last = g.last };
    front = front_same _ _ (written_after w a g goes);
    later = omega arith;
    known = goes_known w a g goes;
  }

  judged_grows : (p : ℕ) (w : Progress) (o : Option Overflow) → IsGoing (length plan.streams) w → w.last < p → p ≤ inf →
      ((s : ℕ) → s < length plan.streams → p ≤ w.after.bound s) → Grows w (judged p w o)
  judged_grows p w None g above low below = record {
    going = record { sound = g.sound; low = low; below = below; rise = rise_more 0 p w.dues g.rise (let l = g.last in omega arith); last = last_more 0 p w.dues };
    front = (written_from (rows w.after) plan (closed_up plan 0 w.dues) (p ∷ []), written_more (rows w.after) 0 w.dues (p ∷ []));
    later = omega arith;
    known = itself w g;
  }
  judged_grows p w (Some o) g above low below = faulted w _ g

  punctuated_grows : (p : ℕ) (w : Progress) → IsGoing (length plan.streams) w → p ≤ inf → ((s : ℕ) → s < length plan.streams → p ≤ w.after.bound s) → Grows w (punctuated plan p w)
  punctuated_grows p w g low below = go (nat_lt w.last p) refl
    where
      go : (b : Bool) → nat_lt w.last p ≡ b → Grows w (cond b (judged p w (overflow (rows w.after) plan.nodes p)) w)
      go true e = judged_grows p w (overflow (rows w.after) plan.nodes p) g (ltb-true w.last p e) low below
      go false e = stays w g

  Grows-trans : (u v w : Progress) → Grows u v → Grows v w → Grows u w
  Grows-trans u v w g h = record {
    going = h.going;
    front = (g.front.0 ++ h.front.0, h.front.1 ∙ (ap (λ x. x ++ h.front.0) g.front.1 ∙ append_assoc (written plan u) g.front.0 h.front.0));
    later = (let x = g.later in let y = h.later in omega arith);
    known = λ s. Known-trans u.last _ _ _ (g.known s) (Known-lower v.last u.last _ _ g.later (h.known s));
  }

  module _ (policy : Policy) where
    outcome_grows : (line : ℕ) (w : Progress) (o : Outcome) → IsGoing (length plan.streams) w → OnTaken (Goes (length plan.streams) w.after) o → Grows w (went_on plan policy line w o)
    outcome_grows line w (Taken a) g goes =
        let more = rows_grow w a g goes in
        Grows-trans w (record w { after = a }) _ more (punctuated_grows (allowed policy (length plan.streams) a) (record w { after = a }) more.going (allowed_low policy (length plan.streams) a) (λ s low. allowed_below policy (length plan.streams) a s goes.sound low))
    outcome_grows line w (WasLate time bound) g goes = faulted w _ g
    outcome_grows line w Unmatched g goes = faulted w _ g

    reading_grows : (line : ℕ) (w : Progress) (r : Read) → IsRead (length plan.streams) r → IsGoing (length plan.streams) w → Grows w (reading plan policy line w r)
    reading_grows line w (Ok entry) valid g = outcome_grows line w (admit policy w.after entry) g (admit_goes policy (length plan.streams) w.after entry g.sound valid)
    reading_grows line w (Err cause) valid g = faulted w _ g

    unless_grows : (w v : Progress) (f : Option Fault) → IsGoing (length plan.streams) w → Grows w v → Grows w (unless_fault f w v)
    unless_grows w v None g h = h
    unless_grows w v (Some fault) g h = stays w g

    pub step_grows : (w : Progress) (line : Told) → IsRead (length plan.streams) line.read → IsGoing (length plan.streams) w → Grows w (step plan policy w line)
    step_grows w line valid g = unless_grows w _ w.fault g (reading_grows line.number w line.read valid g)

    pub steps_grow : (w : Progress) (lines : List Told) → AreRead (length plan.streams) lines → IsGoing (length plan.streams) w → Grows w (steps plan policy w lines)
    steps_grow w [] valid g = stays w g
    steps_grow w (line ∷ lines) valid g =
        let one = step_grows w line valid.0 g in
        Grows-trans w (step plan policy w line) _ one (steps_grow (step plan policy w line) lines valid.1 one.going)

    -- at the end of the input infinity is due; no line comes after it
    end_front : (w : Progress) (ended : Bool) → IsFront (written plan w) (written plan (at_end plan ended w))
    end_front w false = front_same _ _ refl
    end_front w true = go w.fault (nat_lt w.last inf) (overflow (rows w.after) plan.nodes inf)
      where
        go : (f : Option Fault) (b : Bool) (o : Option Overflow) → IsFront (written plan w) (written plan (unless_fault f w (cond b (judged inf w o) w)))
        go (Some fault) b o = front_same _ _ refl
        go None false o = front_same _ _ refl
        go None true (Some fault) = front_same _ _ refl
        go None true None = (written_from (rows w.after) plan (closed_up plan 0 w.dues) (inf ∷ []), written_more (rows w.after) 0 w.dues (inf ∷ []))

    -- what is written for lines is a prefix of what is written for these and more
    pub items_final : (lines more : List Told) (ended : Bool) → AreRead (length plan.streams) lines → AreRead (length plan.streams) more → IsFront (items plan policy lines false) (items plan policy (lines ++ more) ended)
    items_final lines more ended valid more_valid =
        let a = steps_grow start lines valid (start_going (length plan.streams)) in
        let b = steps_grow (steps plan policy start lines) more more_valid a.going in
        let c = end_front (steps plan policy (steps plan policy start lines) more) ended in
        let e : written plan (at_end plan ended (steps plan policy (steps plan policy start lines) more)) ≡ items plan policy (lines ++ more) ended = ap (λ w. written plan (at_end plan ended w)) (sym (steps-append plan policy start lines more)) in
        (b.front.0 ++ c.0, sym e ∙ (c.1 ∙ (ap (λ x. x ++ c.0) b.front.1 ∙ append_assoc (items plan policy lines false) b.front.0 c.0)))

    pub rows_final : (lines more : List Told) (ended : Bool) (s : ℕ) → AreRead (length plan.streams) lines → AreRead (length plan.streams) more →
        Known (progress plan policy lines false).last (rows (progress plan policy lines false).after s) (rows (progress plan policy (lines ++ more) ended).after s)
    rows_final lines more ended s valid more_valid =
        let a = steps_grow start lines valid (start_going (length plan.streams)) in
        let b = steps_grow (steps plan policy start lines) more more_valid a.going in
        let e : (progress plan policy (lines ++ more) ended).after ≡ (steps plan policy (steps plan policy start lines) more).after = end_rows plan (steps plan policy start (lines ++ more)) ended ∙ ap (λ w. w.after) (steps-append plan policy start lines more) in
        (rw e (b.known s))

    -- the bytes of a prefix are a prefix of the bytes
    pub text_final : (print : Item → List ℕ) (lines more : List Told) (ended : Bool) → AreRead (length plan.streams) lines → AreRead (length plan.streams) more →
        IsFront (text print plan policy lines false) (text print plan policy (lines ++ more) ended)
    text_final print lines more ended valid more_valid =
        let f = items_final lines more ended valid more_valid in
        (flat_map print f.0, ap (flat_map print) f.1 ∙ flat_map-append print (items plan policy lines false) f.0)
