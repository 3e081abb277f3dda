-- The fields of a line of text are texts.
use Rattle.std.proofs.Common.{◌≡◌, ◌<◌, ℕ, suc, ◌+◌, List, [], ◌∷◌, ◌++◌, length, take, drop, get_or, refl, sym, ◌∙◌, ap, arith, inl, inr, subst, append_assoc}
use Rattle.std.specs.Prelude.{◌≢◌}
use Rattle.std.specs.List.{All}
use Rattle.std.specs.Str.{IsUtf8}
use Rattle.std.proofs.lemmas.Str.{IsUtf8-from_ascii, IsUtf8-append, IsUtf8-take, IsUtf8-drop, IsCharBoundary-before_ascii, IsCharBoundary-after_ascii}
use Rattle.std.proofs.lemmas.List.{length-append, append-nil}
use Rattle.std.proofs.lemmas.Bool.Decides.{eqb_tells}
use Rattle.csv.specs.Machine.{next_record}
use Rattle.csv.specs.Reading.{default_config}
use Rattle.csv.specs.Records.{AllText, field_at}
use Rattle.row_reader.specs.Record.{state_at, ReadsOn, record_of, fields_read, field_of}
use Rattle.row_reader.specs.declared.quotes.Place.{Place}
use Rattle.row_reader.specs.declared.quotes.Place.TheVariants.{Start, Plain, Quoted, Closed}
use Rattle.row_reader.proofs.Records.{ReadsOn-comma, ReadsOn-plain, ReadsOn-start, ReadsOn-closed, ReadsOn-open, ReadsOn-close, ReadsOn-quoted, ReadsOn-again, IsSplit-start, read_at_end}

read_seam : (xs ys : List ℕ) (b : ℕ) → get_or (xs ++ b ∷ ys) (length xs) 0 ≡ b
read_seam [] ys b = refl
read_seam (x ∷ xs) ys b = read_seam xs ys b

take_seam : (xs ys : List ℕ) → take (length xs) (xs ++ ys) ≡ xs
take_seam [] ys = refl
take_seam (x ∷ xs) ys = ap (λ (l : List ℕ). x ∷ l) (take_seam xs ys)

drop_seam : (xs ys : List ℕ) (b : ℕ) → drop (length xs + 1) (xs ++ b ∷ ys) ≡ ys
drop_seam [] ys b = refl
drop_seam (x ∷ xs) ys b = ap (λ n. drop n (x ∷ (xs ++ b ∷ ys))) (let e : suc (length xs) + 1 ≡ suc (length xs + 1) = omega arith in e) ∙ drop_seam xs ys b

-- text is cut at an ASCII byte into texts
pub at_ascii : (xs ys : List ℕ) (b : ℕ) → b < 128 → IsUtf8 (xs ++ b ∷ ys) → IsUtf8 xs × IsUtf8 ys
at_ascii xs ys b small u =
    let here : length xs < length (xs ++ b ∷ ys) = omega (arith, length-append xs (b ∷ ys)) in
    let low : get_or (xs ++ b ∷ ys) (length xs) 0 < 128 = omega (arith, read_seam xs ys b) in (
      subst IsUtf8 (take_seam xs (b ∷ ys)) (IsUtf8-take (xs ++ b ∷ ys) (length xs) u (IsCharBoundary-before_ascii (xs ++ b ∷ ys) (length xs) here low)),
      subst IsUtf8 (drop_seam xs ys b) (IsUtf8-drop (xs ++ b ∷ ys) (length xs + 1) u (IsCharBoundary-after_ascii (xs ++ b ∷ ys) (length xs) u here low)),
    )

AllText-push : (fs : List (List ℕ)) (f : List ℕ) → AllText fs → IsUtf8 f → AllText (fs ++ f ∷ [])
unfolding AllText
AllText-push [] f t u = (u, tt)
AllText-push (x ∷ fs) f t u = (t.0, AllText-push fs f t.1 u)

-- after one byte more the fields are still texts, and so is the field at hand with the rest of the line
record Goes (place : Place) (b : ℕ) (fs : List (List ℕ)) (f xs : List ℕ) : Type 0 where
  place' : Place
  fs' : List (List ℕ)
  f' : List ℕ
  reads : ReadsOn place b fs f place' fs' f'
  texts : AllText fs'
  rest : IsUtf8 (f' ++ xs)

joined : (f xs : List ℕ) (b : ℕ) → IsUtf8 (f ++ b ∷ xs) → IsUtf8 ((f ++ b ∷ []) ++ xs)
joined f xs b u = subst IsUtf8 (sym (append_assoc f (b ∷ []) xs)) u

without : (f xs : List ℕ) (b : ℕ) → b ≡ 34 → IsUtf8 (f ++ b ∷ xs) → IsUtf8 (f ++ xs)
without f xs b e u = let p = at_ascii f xs b (omega (arith, e)) u in IsUtf8-append f xs p.0 p.1

goes_plain : (b : ℕ) (fs : List (List ℕ)) (f xs : List ℕ) → b ≢ 13 → b ≢ 10 → AllText fs → IsUtf8 (f ++ b ∷ xs) → Goes Plain b fs f xs
goes_plain b fs f xs r n t u = elim (eqb_tells b 44) [
  | inl e ↦ (let p = at_ascii f xs b (omega (arith, e.1)) u in record {
    place' = Start;
    fs' = fs ++ f ∷ [];
    f' = [];
    reads = ReadsOn-comma b fs _ f _ e.1 refl refl;
    texts = AllText-push fs f t p.0;
    rest = p.1;
  })
  | inr e ↦ record {
    place' = Plain;
    fs' = fs;
    f' = f ++ b ∷ [];
    reads = ReadsOn-plain b fs _ f _ e.1 r n refl refl;
    texts = t;
    rest = joined f xs b u;
  }
]

goes : (place : Place) (b : ℕ) (fs : List (List ℕ)) (f xs : List ℕ) → b ≢ 13 → b ≢ 10 → AllText fs → IsUtf8 (f ++ b ∷ xs) → Goes place b fs f xs
goes Start b fs f xs r n t u = elim (eqb_tells b 34) [
  | inl e ↦ record { place' = Quoted; fs' = fs; f' = f; reads = ReadsOn-open b fs _ f _ e.1 refl refl; texts = t; rest = without f xs b e.1 u }
  | inr e ↦ (let g = goes_plain b fs f xs r n t u in record { place' = g.place'; fs' = g.fs'; f' = g.f'; reads = ReadsOn-start b fs _ f _ g.place' e.1 g.reads; texts = g.texts; rest = g.rest })
]
goes Plain b fs f xs r n t u = goes_plain b fs f xs r n t u
goes Quoted b fs f xs r n t u = elim (eqb_tells b 34) [
  | inl e ↦ record { place' = Closed; fs' = fs; f' = f; reads = ReadsOn-close b fs _ f _ e.1 refl refl; texts = t; rest = without f xs b e.1 u }
  | inr e ↦ record { place' = Quoted; fs' = fs; f' = f ++ b ∷ []; reads = ReadsOn-quoted b fs _ f _ e.1 refl refl; texts = t; rest = joined f xs b u }
]
goes Closed b fs f xs r n t u = elim (eqb_tells b 34) [
  | inl e ↦ record { place' = Quoted; fs' = fs; f' = f ++ b ∷ []; reads = ReadsOn-again b fs _ f _ e.1 refl refl; texts = t; rest = joined f xs b u }
  | inr e ↦ (let g = goes_plain b fs f xs r n t u in record { place' = g.place'; fs' = g.fs'; f' = g.f'; reads = ReadsOn-closed b fs _ f _ g.place' e.1 g.reads; texts = g.texts; rest = g.rest })
]

All-head : (k b : ℕ) (bs : List ℕ) → All (λ x. x ≢ k) (b ∷ bs) → b ≢ k
All-head k b bs h = h 0 b (omega arith)

All-tail : (k b : ℕ) (bs : List ℕ) → All (λ x. x ≢ k) (b ∷ bs) → All (λ x. x ≢ k) bs
All-tail k b bs h n d low = h (suc n) d (omega arith)

texts_from : (xs : List ℕ) (place : Place) (fs : List (List ℕ)) (f : List ℕ) → All (λ b. b ≢ 13) xs → All (λ b. b ≢ 10) xs → AllText fs → IsUtf8 (f ++ xs) →
    AllText (fields_read (next_record default_config (state_at place) fs f xs))
texts_from [] place fs f r n t u = subst AllText (sym (read_at_end place fs f)) (AllText-push fs f t (subst IsUtf8 (append-nil f) u))
texts_from (b ∷ xs) place fs f r n t u =
    let g = goes place b fs f xs (All-head 13 b xs r) (All-head 10 b xs n) t u in
    subst (λ o. AllText (fields_read o)) (sym (g.reads xs)) (texts_from xs g.place' g.fs' g.f' (All-tail 13 b xs r) (All-tail 10 b xs n) g.texts g.rest)

no_fields : AllText []
unfolding AllText
no_fields = tt

pub record_of-AllText : (line : List ℕ) → 0 < length line → All (λ b. b ≢ 13) line → All (λ b. b ≢ 10) line → IsUtf8 line → AllText (record_of line)
record_of-AllText line some r n u =
    subst AllText (sym (IsSplit-start line Start [] [] [] some r n refl refl refl refl).reads) (texts_from line Start [] [] r n no_fields u)

-- the first of fields that are texts, and the others
pub text_first : (fs rest : List (List ℕ)) (f : List ℕ) → AllText fs → fs ≡ f ∷ rest → IsUtf8 f
unfolding AllText
text_first fs rest f t e = (subst AllText e t).0

pub texts_behind : (fs rest : List (List ℕ)) (f : List ℕ) → AllText fs → fs ≡ f ∷ rest → AllText rest
unfolding AllText
texts_behind fs rest f t e = (subst AllText e t).1

pub texts_left : (fs rest : List (List ℕ)) → AllText fs → rest ≡ drop 1 fs → AllText rest
unfolding AllText
texts_left [] rest t e = subst AllText (sym e) tt
texts_left (f ∷ fs) rest t e = subst AllText (sym e) t.1

-- the first field, or none, is a text
pub text_here : (fs : List (List ℕ)) (f : List ℕ) → AllText fs → f ≡ field_of fs 0 → IsUtf8 f
unfolding AllText field_of field_at
text_here [] f t e = subst IsUtf8 (sym e) (IsUtf8-from_ascii [] (λ j. omega arith))
text_here (g ∷ fs) f t e = subst IsUtf8 (sym e) t.0
