-- A text spells a query or has one fault, and never both.
use Rattle.std.specs.Prelude.{◌≡◌, ℕ, ◌<◌, ◌⊎◌, List, length, Option, Some, None, refl}
use Rattle.std.proofs.lemmas.Bool.Decides.{nat_tests}
use Rattle.query_text.specs.Spelling.{query_of}
use Rattle.std.proofs.Common.{Bool, true, false, nat_le, sym, ◌∙◌, ap, arith, inl, inr}
use Rattle.plan_model.specs.declared.fault.QueryFault.{QueryFault}
use Rattle.plan_model.specs.declared.fault.QueryFault.TheVariants.{Syntax, LongExpr, TooLarge, UnknownName, TypeClash, NotEventLevel, BadWindow, ReachTooLong, TooManyNodes, TooManyColumns, NameTaken}
use Rattle.query_text.specs.Answer.{IsAnswer}
use Rattle.query_text.specs.declared.fault.Fault.{Fault}
use Rattle.query_text.specs.declared.fault.Fault.TheVariants as F
use Rattle.query_text.proofs.OneReading.{answered, one_answer}
use Rattle.query_text.specs.declared.query.Query.{Query}
use Rattle.query_text.specs.IsParse.{Spells, IsSmallText, IsTextFault, fault_of}

-- the grammar's fault behind a text's, where the text is not too large
record Behind (text : List ℕ) (fault : QueryFault) : Type 0 where
  found : Fault
  is : fault ≡ fault_of found
  small : IsSmallText text
  answer : IsAnswer text (Some found)

which : (text : List ℕ) (fault : QueryFault) → IsTextFault text fault → ((fault ≡ TooLarge) × (65536 < length text)) ⊎ Behind text fault
which text (Syntax at) h = inr (record { found = F.Syntax at; is = refl; small = h.0; answer = h.1 })
which text (LongExpr at) h = inr (record { found = F.LongExpr at; is = refl; small = h.0; answer = h.1 })
which text TooLarge h = inl (refl, h)
which text (UnknownName item) h = absurd h
which text (TypeClash item) h = absurd h
which text (NotEventLevel item) h = absurd h
which text (BadWindow item) h = absurd h
which text (ReachTooLong item) h = absurd h
which text (TooManyNodes item) h = absurd h
which text (TooManyColumns item) h = absurd h
which text (NameTaken item) h = absurd h

pub no_fault : (text : List ℕ) (q : Query) (fault : QueryFault) → IsSmallText text → Spells text q → IsTextFault text fault → ⊥
no_fault text q fault small spells h = elim (which text fault h) [
  | inl large ↦ let long = large.1 in omega (arith, small, long)
  | inr behind ↦ let e : None ≡ Some behind.found = one_answer text None (Some behind.found) (spells.0, spells.1, spells.2) behind.answer in cc
]

some_same : (a b : Fault) → ◌≡◌ {A = Option Fault} (Some a) (Some b) → a ≡ b
some_same a b e = cc

pub one_fault : (text : List ℕ) (f g : QueryFault) → IsTextFault text f → IsTextFault text g → f ≡ g
one_fault text f g h k = elim (which text f h) [
  | inl large ↦ elim (which text g k) [
    | inl too ↦ large.0 ∙ sym too.0
    | inr behind ↦ let long = large.1 in let small = behind.small in absurd (omega (arith, small, long))
  ]
  | inr first ↦ elim (which text g k) [
    | inl large ↦ let long = large.1 in let small = first.small in absurd (omega (arith, small, long))
    | inr second ↦ first.is ∙ ap fault_of (some_same first.found second.found (one_answer text (Some first.found) (Some second.found) first.answer second.answer)) ∙ sym second.is
  ]
]

abbrev pub Told : List ℕ → Type 0
Told text = (IsSmallText text × (q : Query) × Spells text q) ⊎ ((fault : QueryFault) × IsTextFault text fault)

told : (text : List ℕ) (a : Option Fault) → IsSmallText text → IsAnswer text a → Told text
told text None small h = inl (small, query_of h.0, (h.0, h.1, h.2, refl))
told text (Some (F.Syntax at)) small h = inr (Syntax at, (small, h))
told text (Some (F.LongExpr at)) small h = inr (LongExpr at, (small, h))

pub spelled_or_not : (text : List ℕ) → Told text
spelled_or_not text = here (nat_le (length text) 65536) refl
  where
    here : (x : Bool) → nat_le (length text) 65536 ≡ x → Told text
    here true e = let a = answered text in told text a.answer (grind (arith, nat_tests)) a.is
    here false e = inr (TooLarge, grind (arith, nat_tests))
