-- Quotes are even exactly where the bytes spell fields, and csv reads these fields.
use Rattle.std.proofs.Common.{◌≡◌, ◌<◌, ℕ, suc, List, [], ◌∷◌, ◌++◌, length, false, Some, None, refl, sym, ◌∙◌, ap, arith, inl, inr, subst, append_assoc}
use Rattle.std.specs.Prelude.{◌≢◌, ◌⊎◌, ◌↔◌}
use Rattle.std.specs.List.{All}
use Rattle.std.proofs.lemmas.List.{append-nil}
use Rattle.std.proofs.lemmas.Bool.Decides.{eqb_tells}
use Rattle.csv.specs.Machine.{next_record}
use Rattle.csv.specs.Reading.{default_config}
use Rattle.row_reader.specs.Record.{state_at, ReadsOn, record_of, fields_read}
use Rattle.row_reader.specs.Quotes.{next_place, odd_from, odd_quotes}
use Rattle.row_reader.specs.Spelled.{doubled, IsBare, SpellsField, SpellsFields}
use Rattle.row_reader.specs.declared.quotes.Place.{Place}
use Rattle.row_reader.specs.declared.quotes.Place.TheVariants.{Start, Plain, Quoted, Closed}
use Rattle.row_reader.proofs.Records.{other, ReadsOn-comma, ReadsOn-plain, ReadsOn-start, ReadsOn-closed, ReadsOn-open, ReadsOn-close, ReadsOn-quoted, ReadsOn-again, IsSplit-start, read_at_end}
use Rattle.row_reader.proofs.OddQuotes.{odd_from-none}

-- no byte ends a line
abbrev NoBreaks : List ℕ → Type 0
NoBreaks [] = Unit {0}
NoBreaks (b ∷ bs) = (b ≢ 13) × (b ≢ 10) × NoBreaks bs

no_breaks : (bs : List ℕ) → All (λ b. b ≢ 13) bs → All (λ b. b ≢ 10) bs → NoBreaks bs
no_breaks [] r n = tt
no_breaks (b ∷ bs) r n = (r 0 b (omega arith), n 0 b (omega arith), no_breaks bs (λ k d h. r (suc k) d (omega (arith, h))) (λ k d h. n (suc k) d (omega (arith, h))))

breaks_cut : (xs ys : List ℕ) → NoBreaks (xs ++ ys) → NoBreaks xs × NoBreaks ys
breaks_cut [] ys h = (tt, h)
breaks_cut (x ∷ xs) ys h = let p = breaks_cut xs ys h.2 in ((h.0, h.1, p.0), p.1)

-- from xs, read with these fields and the field f at hand, reading comes to ys with those
record Comes (xs : List ℕ) (p : Place) (fs : List (List ℕ)) (f : List ℕ) (ys : List ℕ) (q : Place) (fs' : List (List ℕ)) (f' : List ℕ) : Type 0 where
  even : odd_from (Some p) xs ≡ odd_from (Some q) ys
  reads : next_record default_config (state_at p) fs f xs ≡ next_record default_config (state_at q) fs' f' ys

comes_none : (xs : List ℕ) (p : Place) (fs : List (List ℕ)) (f f' : List ℕ) → f' ≡ f → Comes xs p fs f xs p fs f'
comes_none xs p fs f f' e = record { even = refl; reads = ap (λ g. next_record default_config (state_at p) fs g xs) (sym e) }

comes_more : (xs ys zs : List ℕ) (p q r : Place) (fs fs' fs'' : List (List ℕ)) (f f' f'' : List ℕ) → Comes xs p fs f ys q fs' f' → Comes ys q fs' f' zs r fs'' f'' → Comes xs p fs f zs r fs'' f''
comes_more xs ys zs p q r fs fs' fs'' f f' f'' a b = record { even = a.even ∙ b.even; reads = a.reads ∙ b.reads }

comes_one : (b : ℕ) (xs : List ℕ) (p q : Place) (fs fs' : List (List ℕ)) (f f' : List ℕ) → next_place p b ≡ Some q → ReadsOn p b fs f q fs' f' → Comes (b ∷ xs) p fs f xs q fs' f'
unfolding odd_from
comes_one b xs p q fs fs' f f' e r = record { even = ap (λ o. odd_from o xs) e; reads = r xs }

bare_place : (b : ℕ) → b ≢ 34 → b ≢ 44 → next_place Plain b ≡ Some Plain
bare_place b q c = rw (other b 34 q, other b 44 c) refl

bare_start : (b : ℕ) → b ≢ 34 → b ≢ 44 → next_place Start b ≡ Some Plain
bare_start b q c = rw (other b 34 q, other b 44 c) refl

bare_run : (g : List ℕ) (xs : List ℕ) (fs : List (List ℕ)) (f f' : List ℕ) → IsBare g → NoBreaks g → f' ≡ f ++ g → Comes (g ++ xs) Plain fs f xs Plain fs f'
bare_run [] xs fs f f' h n e = comes_none xs Plain fs f f' (e ∙ append-nil f)
bare_run (b ∷ g) xs fs f f' h n e = comes_more _ _ _ Plain Plain Plain fs fs fs f (f ++ b ∷ []) f'
    (comes_one b (g ++ xs) Plain Plain fs fs f (f ++ b ∷ []) (bare_place b h.0 h.1) (ReadsOn-plain b fs fs f (f ++ b ∷ []) h.1 n.0 n.1 refl refl))
    (bare_run g xs fs (f ++ b ∷ []) f' h.2 n.2 (e ∙ sym (append_assoc f (b ∷ []) g)))

quoted_run : (g : List ℕ) (xs : List ℕ) (fs : List (List ℕ)) (f f' : List ℕ) → f' ≡ f ++ g → Comes (doubled g ++ xs) Quoted fs f xs Quoted fs f'
quoted_run [] xs fs f f' e = comes_none xs Quoted fs f f' (e ∙ append-nil f)
quoted_run (b ∷ g) xs fs f f' e =
    let later = quoted_run g xs fs (f ++ b ∷ []) f' (e ∙ sym (append_assoc f (b ∷ []) g)) in
    elim (eqb_tells b 34) [
      | inl t ↦ rw t.0 (comes_more _ _ _ Quoted Closed Quoted fs fs fs f f f'
          (comes_one 34 _ Quoted Closed fs fs f f refl (ReadsOn-close 34 fs fs f f refl refl refl))
          (comes_more _ _ _ Closed Quoted Quoted fs fs fs f (f ++ b ∷ []) f'
          (comes_one 34 _ Closed Quoted fs fs f (f ++ b ∷ []) refl (ReadsOn-again 34 fs fs f (f ++ b ∷ []) refl refl (ap (λ (x : ℕ). f ++ x ∷ []) t.1))) later))
      | inr t ↦ rw t.0 (comes_more _ _ _ Quoted Quoted Quoted fs fs fs f (f ++ b ∷ []) f'
          (comes_one b _ Quoted Quoted fs fs f (f ++ b ∷ []) (rw t.0 refl) (ReadsOn-quoted b fs fs f (f ++ b ∷ []) t.1 refl refl)) later)
    ]

-- a field may end there
abbrev IsShut : Place → Type 0
IsShut Start = Unit {0}
IsShut Plain = Unit {0}
IsShut Quoted = ⊥
IsShut Closed = Unit {0}

record Runs (text : List ℕ) (xs : List ℕ) (fs : List (List ℕ)) (f : List ℕ) : Type 0 where
  place : Place
  shut : IsShut place
  comes : Comes (text ++ xs) Start fs [] xs place fs f

bare_field : (f xs : List ℕ) (fs : List (List ℕ)) → IsBare f → NoBreaks f → Runs f xs fs f
bare_field [] xs fs h n = record { place = Start; shut = tt; comes = comes_none xs Start fs [] [] refl }
bare_field (b ∷ g) xs fs h n = record {
  place = Plain;
  shut = tt;
  comes = comes_more _ _ _ Start Plain Plain fs fs fs [] (b ∷ []) (b ∷ g)
      (comes_one b (g ++ xs) Start Plain fs fs [] (b ∷ []) (bare_start b h.0 h.1) (ReadsOn-start b fs fs [] (b ∷ []) Plain h.0 (ReadsOn-plain b fs fs [] (b ∷ []) h.1 n.0 n.1 refl refl)))
      (bare_run g xs fs (b ∷ []) (b ∷ g) h.2 n.2 refl);
}

quoted_field : (f xs : List ℕ) (fs : List (List ℕ)) → Runs (34 ∷ (doubled f ++ 34 ∷ [])) xs fs f
quoted_field f xs fs = record {
  place = Closed;
  shut = tt;
  comes = comes_more _ ((doubled f ++ 34 ∷ []) ++ xs) _ Start Quoted Closed fs fs fs [] [] f
      (comes_one 34 _ Start Quoted fs fs [] [] refl (ReadsOn-open 34 fs fs [] [] refl refl refl))
      (subst (λ t. Comes t Quoted fs [] xs Closed fs f) (sym (append_assoc (doubled f) (34 ∷ []) xs))
      (comes_more _ (34 ∷ xs) _ Quoted Quoted Closed fs fs fs [] f f (quoted_run f (34 ∷ xs) fs [] f refl)
      (comes_one 34 xs Quoted Closed fs fs f f refl (ReadsOn-close 34 fs fs f f refl refl refl))));
}

runs : (text f xs : List ℕ) (fs : List (List ℕ)) → NoBreaks text → SpellsField text f → Runs text xs fs f
runs text f xs fs n (inl h) = subst (λ t. Runs t xs fs f) (sym h.0) (bare_field f xs fs h.1 (subst NoBreaks h.0 n))
runs text f xs fs n (inr h) = subst (λ t. Runs t xs fs f) (sym h) (quoted_field f xs fs)

comma_place : (p : Place) → IsShut p → next_place p 44 ≡ Some Start
comma_place Start h = refl
comma_place Plain h = refl
comma_place Quoted h = absurd h
comma_place Closed h = refl

comma_reads : (p : Place) (fs : List (List ℕ)) (f : List ℕ) → IsShut p → ReadsOn p 44 fs f Start (fs ++ f ∷ []) []
comma_reads Start fs f h = ReadsOn-start 44 fs (fs ++ f ∷ []) f [] Start (λ e. absurd (omega (arith, e))) (ReadsOn-comma 44 fs (fs ++ f ∷ []) f [] refl refl refl)
comma_reads Plain fs f h = ReadsOn-comma 44 fs (fs ++ f ∷ []) f [] refl refl refl
comma_reads Quoted fs f h = absurd h
comma_reads Closed fs f h = ReadsOn-closed 44 fs (fs ++ f ∷ []) f [] Start (λ e. absurd (omega (arith, e))) (ReadsOn-comma 44 fs (fs ++ f ∷ []) f [] refl refl refl)

even_end : (p : Place) → IsShut p → odd_from (Some p) [] ≡ false
unfolding odd_from
even_end Start h = refl
even_end Plain h = refl
even_end Quoted h = absurd h
even_end Closed h = refl

-- of bytes that spell fields the quotes are even, and csv reads these fields
record IsRead (line : List ℕ) (fs fields : List (List ℕ)) : Type 0 where
  even : odd_from (Some Start) line ≡ false
  fields_are : fields_read (next_record default_config (state_at Start) fs [] line) ≡ fs ++ fields

last_field : (line f : List ℕ) (fs : List (List ℕ)) → NoBreaks line → SpellsField line f → IsRead line fs (f ∷ [])
last_field line f fs n h =
    let r = runs line f [] fs n h in
    let c = subst (λ t. Comes t Start fs [] [] r.place fs f) (append-nil line) r.comes in record {
      even = c.even ∙ even_end r.place r.shut;
      fields_are = ap fields_read c.reads ∙ read_at_end r.place fs f;
    }

are_read : (fields : List (List ℕ)) (line : List ℕ) (fs : List (List ℕ)) → NoBreaks line → SpellsFields line fields → IsRead line fs fields
are_read [] line fs n h = absurd h
are_read (f ∷ []) line fs n h = last_field line f fs n h
are_read (f ∷ g ∷ gs) line fs n h =
    let cut = breaks_cut h.0 (44 ∷ h.1) (subst NoBreaks h.2 n) in
    let r = runs h.0 f (44 ∷ h.1) fs cut.0 h.3 in
    let one = comes_more _ _ _ Start r.place Start fs fs (fs ++ f ∷ []) [] f [] r.comes (comes_one 44 h.1 r.place Start fs (fs ++ f ∷ []) f [] (comma_place r.place r.shut) (comma_reads r.place fs f r.shut)) in
    let c = subst (λ t. Comes t Start fs [] h.1 Start (fs ++ f ∷ []) []) (sym h.2) one in
    let later = are_read (g ∷ gs) h.1 (fs ++ f ∷ []) cut.1.2 h.4 in record {
      even = c.even ∙ later.even;
      fields_are = ap fields_read c.reads ∙ later.fields_are ∙ append_assoc fs (f ∷ []) (g ∷ gs);
    }

-- what stands before a byte, where the field at hand is g so far
abbrev Opens : Place → List ℕ → List ℕ → Type 0
Opens Start g pre = (g ≡ []) × (pre ≡ [])
Opens Plain g pre = (pre ≡ g) × IsBare g
Opens Quoted g pre = pre ≡ 34 ∷ doubled g
Opens Closed g pre = pre ≡ 34 ∷ (doubled g ++ 34 ∷ [])

IsBare-push : (g : List ℕ) (b : ℕ) → b ≢ 34 → b ≢ 44 → IsBare g → IsBare (g ++ b ∷ [])
IsBare-push [] b q c h = (q, c, tt)
IsBare-push (x ∷ g) b q c h = (h.0, h.1, IsBare-push g b q c h.2)

doubled-append : (g h : List ℕ) → doubled (g ++ h) ≡ doubled g ++ doubled h
doubled-append [] h = refl
doubled-append (b ∷ g) h = elim (eqb_tells b 34) [
  | inl t ↦ rw t.0 (ap (λ (x : List ℕ). 34 ∷ 34 ∷ x) (doubled-append g h))
  | inr t ↦ rw t.0 (ap (λ (x : List ℕ). b ∷ x) (doubled-append g h))
]

doubled_quote : (b : ℕ) → b ≡ 34 → doubled (b ∷ []) ≡ 34 ∷ b ∷ []
doubled_quote b e = rw e refl

doubled_other : (b : ℕ) → b ≢ 34 → doubled (b ∷ []) ≡ b ∷ []
doubled_other b h = rw (other b 34 h) refl

-- the byte goes on with the field, or it is the comma that ends it
record Goes (g pre : List ℕ) (b : ℕ) (xs : List ℕ) : Type 0 where
  place : Place
  g' : List ℕ
  opens : Opens place g' (pre ++ b ∷ [])
  even : odd_from (Some place) xs ≡ false

record Ends (g pre : List ℕ) (b : ℕ) (xs : List ℕ) : Type 0 where
  comma : b ≡ 44
  spells : SpellsField pre g
  even : odd_from (Some Start) xs ≡ false

absurd_odd : (xs : List ℕ) → odd_from None xs ≡ false → ⊥
absurd_odd xs h = let e = odd_from-none xs in cc

from_start : (b : ℕ) (xs g pre : List ℕ) → Opens Start g pre → odd_from (next_place Start b) xs ≡ false → Goes g pre b xs ⊎ Ends g pre b xs
from_start b xs g pre o h = elim (eqb_tells b 34) [
  | inl t ↦ inl record { place = Quoted; g' = []; opens = ap (λ (p : List ℕ). p ++ b ∷ []) o.1 ∙ ap (λ (x : ℕ). x ∷ []) t.1; even = rw t.0 at h }
  | inr t ↦ elim (eqb_tells b 44) [
    | inl k ↦ inr record { comma = k.1; spells = inl (o.1 ∙ sym o.0, subst IsBare (sym o.0) tt); even = rw (t.0, k.0) at h }
    | inr k ↦ inl record { place = Plain; g' = b ∷ []; opens = (ap (λ (p : List ℕ). p ++ b ∷ []) o.1, (t.1, k.1, tt)); even = rw (t.0, k.0) at h }
  ]
]

from_plain : (b : ℕ) (xs g pre : List ℕ) → Opens Plain g pre → odd_from (next_place Plain b) xs ≡ false → Goes g pre b xs ⊎ Ends g pre b xs
from_plain b xs g pre o h = elim (eqb_tells b 34) [
  | inl t ↦ absurd (absurd_odd xs (rw t.0 at h))
  | inr t ↦ elim (eqb_tells b 44) [
    | inl k ↦ inr record { comma = k.1; spells = inl o; even = rw (t.0, k.0) at h }
    | inr k ↦ inl record { place = Plain; g' = g ++ b ∷ []; opens = (ap (λ (p : List ℕ). p ++ b ∷ []) o.0, IsBare-push g b t.1 k.1 o.1); even = rw (t.0, k.0) at h }
  ]
]

from_quoted : (b : ℕ) (xs g pre : List ℕ) → Opens Quoted g pre → odd_from (next_place Quoted b) xs ≡ false → Goes g pre b xs ⊎ Ends g pre b xs
from_quoted b xs g pre o h = elim (eqb_tells b 34) [
  | inl t ↦ inl record { place = Closed; g' = g; opens = ap (λ (p : List ℕ). p ++ b ∷ []) o ∙ ap (λ (x : ℕ). 34 ∷ (doubled g ++ x ∷ [])) t.1; even = rw t.0 at h }
  | inr t ↦ inl record {
    place = Quoted;
    g' = g ++ b ∷ [];
    opens = ap (λ (p : List ℕ). p ++ b ∷ []) o ∙ ap (λ (x : List ℕ). 34 ∷ (doubled g ++ x)) (sym (doubled_other b t.1)) ∙ ap (λ (x : List ℕ). 34 ∷ x) (sym (doubled-append g (b ∷ [])));
    even = rw t.0 at h;
  }
]

from_closed : (b : ℕ) (xs g pre : List ℕ) → Opens Closed g pre → odd_from (next_place Closed b) xs ≡ false → Goes g pre b xs ⊎ Ends g pre b xs
from_closed b xs g pre o h = elim (eqb_tells b 34) [
  | inl t ↦ inl record {
    place = Quoted;
    g' = g ++ b ∷ [];
    opens = ap (λ (p : List ℕ). p ++ b ∷ []) o ∙ ap (λ (x : List ℕ). 34 ∷ x) (append_assoc (doubled g) (34 ∷ []) (b ∷ []))
        ∙ ap (λ (x : List ℕ). 34 ∷ (doubled g ++ x)) (sym (doubled_quote b t.1)) ∙ ap (λ (x : List ℕ). 34 ∷ x) (sym (doubled-append g (b ∷ [])));
    even = rw t.0 at h;
  }
  | inr t ↦ elim (eqb_tells b 44) [
    | inl k ↦ inr record { comma = k.1; spells = inr o; even = rw (t.0, k.0) at h }
    | inr k ↦ absurd (absurd_odd xs (rw (t.0, k.0) at h))
  ]
]

from_place : (p : Place) (b : ℕ) (xs g pre : List ℕ) → Opens p g pre → odd_from (next_place p b) xs ≡ false → Goes g pre b xs ⊎ Ends g pre b xs
from_place Start b xs g pre o h = from_start b xs g pre o h
from_place Plain b xs g pre o h = from_plain b xs g pre o h
from_place Quoted b xs g pre o h = from_quoted b xs g pre o h
from_place Closed b xs g pre o h = from_closed b xs g pre o h

spelled_end : (p : Place) (g pre : List ℕ) → Opens p g pre → odd_from (Some p) [] ≡ false → SpellsField pre g
unfolding odd_from
spelled_end Start g pre o h = inl (o.1 ∙ sym o.0, subst IsBare (sym o.0) tt)
spelled_end Plain g pre o h = inl o
spelled_end Quoted g pre o h = absurd (cc)
spelled_end Closed g pre o h = inr o

abbrev Spelled : List ℕ → Type 0
Spelled line = (fields : List (List ℕ)) × SpellsFields line fields

onto : (g pre rest : List ℕ) (fields : List (List ℕ)) → SpellsField pre g → SpellsFields rest fields → SpellsFields (pre ++ 44 ∷ rest) (g ∷ fields)
onto g pre rest [] s h = absurd h
onto g pre rest (f ∷ fs) s h = (pre, rest, refl, s, h)

spelled : (xs : List ℕ) (p : Place) (g pre : List ℕ) → Opens p g pre → odd_from (Some p) xs ≡ false → Spelled (pre ++ xs)
unfolding odd_from
spelled [] p g pre o h = (g ∷ [], subst (λ t. SpellsField t g) (sym (append-nil pre)) (spelled_end p g pre o h))
spelled (b ∷ xs) p g pre o h = elim (from_place p b xs g pre o h) [
  | inl s ↦ subst Spelled (append_assoc pre (b ∷ []) xs) (spelled xs s.place s.g' (pre ++ b ∷ []) s.opens s.even)
  | inr e ↦ (let later = spelled xs Start [] [] (refl, refl) e.even in
      (g ∷ later.0, subst (λ x. SpellsFields (pre ++ x ∷ xs) (g ∷ later.0)) (sym e.comma) (onto g pre xs later.0 e.spells later.1)))
]

-- the quotes are even exactly where the bytes spell fields
pub even_quotes_spell : (text : List ℕ) → All (λ b. b ≢ 13) text → All (λ b. b ≢ 10) text → (odd_quotes text ≡ false) ↔ Spelled text
even_quotes_spell text r n = (λ h. spelled text Start [] [] (refl, refl) h, λ s. (are_read s.0 text [] (no_breaks text r n) s.1).even)

-- and then the record has these fields
pub fields_are_read : (text : List ℕ) (fields : List (List ℕ)) → 0 < length text → All (λ b. b ≢ 13) text → All (λ b. b ≢ 10) text → SpellsFields text fields → record_of text ≡ fields
fields_are_read text fields some r n h =
    (IsSplit-start text Start [] [] [] some r n refl refl refl refl).reads ∙ (are_read fields text [] (no_breaks text r n) h).fields_are
