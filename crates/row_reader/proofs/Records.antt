-- How csv reads a record, byte by byte.
use Rattle.std.proofs.Common.{◌≡◌, ◌<◌, ℕ, zero, suc, ◌+◌, List, [], ◌∷◌, ◌++◌, length, drop, get_or, false, refl, ◌∙◌, ap, arith, inl, inr}
use Rattle.std.specs.Prelude.{◌≢◌, ◌==◌}
use Rattle.std.specs.List.{All}
use Rattle.std.proofs.lemmas.Bool.Decides.{eqb_tells}
use Rattle.csv.specs.Machine.{next_record}
use Rattle.csv.specs.Reading.{default_config}
use Rattle.csv.proofs.RoundTrip.{after-quote-same, start-same, record-same}
use Rattle.row_reader.specs.Record.{state_at, ReadsOn, record_of, fields_read}
use Rattle.row_reader.specs.declared.quotes.Place.{Place}
use Rattle.row_reader.specs.declared.quotes.Place.TheVariants.{Start, Plain, Quoted, Closed}

pub other : (b k : ℕ) → b ≢ k → (b == k) ≡ false
other b k h = elim (eqb_tells b k) [ inl t ↦ absurd (h t.1) | inr t ↦ t.0 ]

-- a comma ends a field without quotes
pub ReadsOn-comma : (b : ℕ) (fs fs' : List (List ℕ)) (f f' : List ℕ) → b ≡ 44 → fs' ≡ fs ++ f ∷ [] → f' ≡ [] → ReadsOn Plain b fs f Start fs' f'
unfolding next_record
ReadsOn-comma b fs fs' f f' e p q more = rw (e, p, q) refl

-- any other byte joins it
pub ReadsOn-plain : (b : ℕ) (fs fs' : List (List ℕ)) (f f' : List ℕ) → b ≢ 44 → b ≢ 13 → b ≢ 10 → fs' ≡ fs → f' ≡ f ++ b ∷ [] → ReadsOn Plain b fs f Plain fs' f'
unfolding next_record
ReadsOn-plain b fs fs' f f' comma return feed p q more = rw (p, q, other b 44 comma, other b 13 return, other b 10 feed) refl

-- at the start of a field and behind a closing quote, a byte that is no quote is read as in a field without quotes
pub ReadsOn-start : (b : ℕ) (fs fs' : List (List ℕ)) (f f' : List ℕ) (after : Place) → b ≢ 34 → ReadsOn Plain b fs f after fs' f' → ReadsOn Start b fs f after fs' f'
ReadsOn-start b fs fs' f f' after h r more = start-same fs f b more (other b 34 h) ∙ r more

pub ReadsOn-closed : (b : ℕ) (fs fs' : List (List ℕ)) (f f' : List ℕ) (after : Place) → b ≢ 34 → ReadsOn Plain b fs f after fs' f' → ReadsOn Closed b fs f after fs' f'
ReadsOn-closed b fs fs' f f' after h r more = after-quote-same fs f b more (other b 34 h) ∙ r more

-- a quote opens a field
pub ReadsOn-open : (b : ℕ) (fs fs' : List (List ℕ)) (f f' : List ℕ) → b ≡ 34 → fs' ≡ fs → f' ≡ f → ReadsOn Start b fs f Quoted fs' f'
unfolding next_record
ReadsOn-open b fs fs' f f' e p q more = rw (e, p, q) refl

-- a quote may close it
pub ReadsOn-close : (b : ℕ) (fs fs' : List (List ℕ)) (f f' : List ℕ) → b ≡ 34 → fs' ≡ fs → f' ≡ f → ReadsOn Quoted b fs f Closed fs' f'
unfolding next_record
ReadsOn-close b fs fs' f f' e p q more = rw (e, p, q) refl

-- any other byte joins it
pub ReadsOn-quoted : (b : ℕ) (fs fs' : List (List ℕ)) (f f' : List ℕ) → b ≢ 34 → fs' ≡ fs → f' ≡ f ++ b ∷ [] → ReadsOn Quoted b fs f Quoted fs' f'
unfolding next_record
ReadsOn-quoted b fs fs' f f' h p q more = rw (p, q, other b 34 h) refl

-- a second quote opens it again, and joins it
pub ReadsOn-again : (b : ℕ) (fs fs' : List (List ℕ)) (f f' : List ℕ) → b ≡ 34 → fs' ≡ fs → f' ≡ f ++ b ∷ [] → ReadsOn Closed b fs f Quoted fs' f'
unfolding next_record
ReadsOn-again b fs fs' f f' e p q more = rw (p, q, e) refl

pub ruleset plain_steps = (ReadsOn-comma, ReadsOn-plain)

pub ruleset record_steps = (ReadsOn-start, ReadsOn-closed, ReadsOn-open, ReadsOn-close, ReadsOn-quoted, ReadsOn-again)

-- so many bytes of the line are read into the fields and the field at hand
pub record IsSplit (line : List ℕ) (n : ℕ) (place : Place) (fields : List (List ℕ)) (field partial : List ℕ) : Type 0 where
  pub reads : record_of line ≡ fields_read (next_record default_config (state_at place) fields field (drop n line))
  pub no_partial : partial ≡ []

pub IsSplit-start : (line : List ℕ) (place : Place) (fields : List (List ℕ)) (field partial : List ℕ) → 0 < length line → All (λ b. b ≢ 13) line → All (λ b. b ≢ 10) line →
    place ≡ Start → fields ≡ [] → field ≡ [] → partial ≡ [] → IsSplit line 0 place fields field partial
unfolding record_of
IsSplit-start [] place fields field partial h r n e f g p = absurd (omega arith)
IsSplit-start (b ∷ bs) place fields field partial h r n e f g p = record {
  reads = rw (e, f, g) (ap fields_read (record-same [] [] b bs (other b 13 (r 0 b (omega arith))) (other b 10 (n 0 b (omega arith)))));
  no_partial = p;
}

cons_of : (xs : List ℕ) (n b : ℕ) → n < length xs → get_or xs n 0 ≡ b → drop n xs ≡ b ∷ drop (n + 1) xs
cons_of [] n b h e = absurd (omega arith)
cons_of (x ∷ xs) zero b h e = ap (λ (y : ℕ). y ∷ xs) e
cons_of (x ∷ xs) (suc n) b h e = let z : suc n + 1 ≡ suc (n + 1) = omega arith in rw z (cons_of xs n b (omega arith) e)

pub IsSplit-next : (line : List ℕ) (n b : ℕ) (place place' : Place) (fields fields' : List (List ℕ)) (field field' partial partial' : List ℕ) →
    IsSplit line n place fields field partial → n < length line → get_or line n 0 ≡ b → ReadsOn place b fields field place' fields' field' → partial' ≡ [] →
    IsSplit line (n + 1) place' fields' field' partial'
IsSplit-next line n b place place' fields fields' field field' partial partial' s h e r p = record {
  reads = s.reads ∙ ap (λ xs. fields_read (next_record default_config (state_at place) fields field xs)) (cons_of line n b h e) ∙ ap fields_read (r (drop (n + 1) line));
  no_partial = p;
}

pub read_at_end : (place : Place) (fields : List (List ℕ)) (field : List ℕ) → fields_read (next_record default_config (state_at place) fields field []) ≡ fields ++ field ∷ []
unfolding next_record
read_at_end Start fields field = refl
read_at_end Plain fields field = refl
read_at_end Quoted fields field = refl
read_at_end Closed fields field = refl

drop_all : (xs : List ℕ) (n : ℕ) → n ≡ length xs → drop n xs ≡ []
drop_all [] n e = rw e refl
drop_all (x ∷ xs) zero e = absurd (omega arith)
drop_all (x ∷ xs) (suc n) e = drop_all xs n (omega arith)

pub IsSplit-end : (line : List ℕ) (n : ℕ) (place : Place) (fields : List (List ℕ)) (field partial : List ℕ) → IsSplit line n place fields field partial → n ≡ length line →
    record_of line ≡ fields ++ field ∷ []
IsSplit-end line n place fields field partial s e =
    s.reads ∙ ap (λ xs. fields_read (next_record default_config (state_at place) fields field xs)) (drop_all line n e) ∙ read_at_end place fields field

pub ruleset split_steps = (IsSplit-start, IsSplit-next, IsSplit-end)
