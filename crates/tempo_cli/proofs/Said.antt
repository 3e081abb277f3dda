-- What lines say, those before a checkpoint and those behind it.
use Rattle.std.proofs.Common.{◌≡◌, ◌⊎◌, ◌+◌, ◌-◌, inl, inr, ℕ, zero, suc, List, [], ◌∷◌, ◌++◌, length, drop, Bool, true, false, cond, Ok, Err, refl, sym, ◌∙◌, ap, arith, append_assoc, append-nil}
use Rattle.std.specs.Prelude.{nat_lt, nat_eq, ◌&&◌}
use Rattle.std.specs.List.{All}
use Rattle.std.proofs.lemmas.List.{drop-append-le, length-drop}
use Rattle.std.proofs.lemmas.List.Elements.{All-drop}
use Rattle.std.proofs.Math.Seq.{drop-nil}
use Rattle.tw_rows.specs.declared.schema.StreamDef.{StreamDef}
use Rattle.row_reader.specs.Entry.{Read, entry}
use Rattle.row_reader.specs.declared.entry.BadLine.TheVariants.{TooLong}
use Rattle.row_reader.specs.declared.entry.Entry.TheVariants.{Skip}
use Rattle.wire_lines.specs.Lines.{HasNoLf}
use Rattle.admission.specs.Entries.{Told, IsRead, AreRead}
use Rattle.admission.proofs.Growing.{line_read}
use Rattle.tempo_engine.specs.Fed.{last_number}
use Rattle.tempo_cli.specs.Told.{entry_at, told_at, told_from, fed_from}
use Rattle.tempo_cli.specs.Feeding.{Asked, said, fed_by, IsNext}

pub told-append : (streams : List StreamDef) (header : Bool) (n : ℕ) (ls more : List (List ℕ)) → told_from streams header n (ls ++ more) ≡ told_from streams header n ls ++ told_from streams header (n + length ls) more
told-append streams header n [] more = let e : n ≡ n + 0 = omega arith in ap (λ k. told_from streams header k more) e
told-append streams header n (l ∷ ls) more =
    let e : suc n + length ls ≡ n + suc (length ls) = omega arith in
    ap (λ x. told_at streams header n l ∷ x) (told-append streams header (suc n) ls more ∙ ap (λ k. told_from streams header (suc n) ls ++ told_from streams header k more) e)

with_or_without : (b : Bool) (t : Told) (x y z : List Told) → x ≡ y ++ z → cond b x (t ∷ x) ≡ cond b y (t ∷ y) ++ z
with_or_without true t x y z e = e
with_or_without false t x y z e = ap (λ r. t ∷ r) e

fed-append : (streams : List StreamDef) (header : Bool) (n : ℕ) (ls more : List (List ℕ)) → fed_from streams header n (ls ++ more) ≡ fed_from streams header n ls ++ fed_from streams header (n + length ls) more
fed-append streams header n [] more = let e : n ≡ n + 0 = omega arith in ap (λ k. fed_from streams header k more) e
fed-append streams header n (l ∷ ls) more =
    let e : suc n + length ls ≡ n + suc (length ls) = omega arith in
    with_or_without (header && nat_eq n 1) (told_at streams false n l) _ _ _
    (fed-append streams header (suc n) ls more ∙ ap (λ k. fed_from streams header (suc n) ls ++ fed_from streams header k more) e)

-- what is left of lines and more lines, once some are taken off
drop_more : {X : Type 0} (k : ℕ) (ls more : List X) → drop k (ls ++ more) ≡ drop k ls ++ drop (k - length ls) more
drop_more zero ls more = let e : 0 ≡ 0 - length ls = omega arith in ap (λ n. ls ++ drop n more) e
drop_more (suc k) [] more = let e : suc k ≡ suc k - 0 = omega arith in ap (λ n. drop n more) e
drop_more (suc k) (l ∷ ls) more = let e : k - length ls ≡ suc k - suc (length ls) = omega arith in drop_more k ls more ∙ ap (λ n. drop k ls ++ drop n more) e

-- what more lines say
abbrev pub said_more : Asked → List (List ℕ) → List (List ℕ) → List Told
said_more q ls more = told_from q.plan.streams q.header (suc (last_number q.before) + length (drop q.passed ls)) (drop (q.passed - length ls) more)

pub said-append : (q : Asked) (ls more : List (List ℕ)) → said q (ls ++ more) ≡ said q ls ++ said_more q ls more
said-append q ls more =
    ap (λ x. q.before ++ told_from q.plan.streams q.header (suc (last_number q.before)) x) (drop_more q.passed ls more)
    ∙ (ap (λ x. q.before ++ x) (told-append q.plan.streams q.header (suc (last_number q.before)) (drop q.passed ls) (drop (q.passed - length ls) more))
    ∙ sym (append_assoc q.before (told_from q.plan.streams q.header (suc (last_number q.before)) (drop q.passed ls)) (said_more q ls more)))

-- no line says nothing
pub said-nil : (q : Asked) → said q [] ≡ q.before
said-nil q = ap (λ x. q.before ++ told_from q.plan.streams q.header (suc (last_number q.before)) x) (drop-nil q.passed) ∙ append-nil q.before

-- one line more: it says what stands in a line of its number, or nothing while what was frozen is told
one_left : {X : Type 0} (k : ℕ) (x : X) → (drop k (x ∷ []) ≡ x ∷ []) ⊎ (drop k (x ∷ []) ≡ [])
one_left zero x = inl refl
one_left (suc k) x = inr (drop-nil k)

pub said_one : (q : Asked) (ls : List (List ℕ)) (line : List ℕ) → (said_more q ls (line ∷ []) ≡ told_at q.plan.streams q.header (suc (last_number q.before) + length (drop q.passed ls)) line ∷ []) ⊎ (said_more q ls (line ∷ []) ≡ [])
said_one q ls line = elim (one_left (q.passed - length ls) line) [
  | inl e ↦ inl (ap (told_from q.plan.streams q.header (suc (last_number q.before) + length (drop q.passed ls))) e)
  | inr e ↦ inr (ap (told_from q.plan.streams q.header (suc (last_number q.before) + length (drop q.passed ls))) e)
]

module _ (q : Asked) (given : List (List ℕ)) (line : List ℕ) (number : ℕ) (next : IsNext q given number) where
  number_is : suc (last_number q.before) + length (drop q.passed given) ≡ number
  number_is = omega (arith, length-drop q.passed given, next.passed, next.number_is)

  one_more : drop q.passed (given ++ line ∷ []) ≡ drop q.passed given ++ line ∷ []
  one_more = drop-append-le q.passed given (line ∷ []) next.passed

  -- the next line is said last
  pub said_pushed : said q (given ++ line ∷ []) ≡ said q given ++ told_at q.plan.streams q.header number line ∷ []
  said_pushed =
      let n = suc (last_number q.before) in
      ap (λ x. q.before ++ told_from q.plan.streams q.header n x) one_more
      ∙ (ap (λ x. q.before ++ x) (told-append q.plan.streams q.header n (drop q.passed given) (line ∷ []) ∙ ap (λ k. told_from q.plan.streams q.header n (drop q.passed given) ++ told_at q.plan.streams q.header k line ∷ []) number_is)
      ∙ sym (append_assoc q.before (told_from q.plan.streams q.header n (drop q.passed given)) (told_at q.plan.streams q.header number line ∷ [])))

  -- and fed last, if it is no header
  pub fed_pushed : fed_by q (given ++ line ∷ []) ≡ fed_by q given ++ fed_from q.plan.streams q.header number (line ∷ [])
  fed_pushed =
      let n = suc (last_number q.before) in
      ap (λ x. q.before ++ fed_from q.plan.streams q.header n x) one_more
      ∙ (ap (λ x. q.before ++ x) (fed-append q.plan.streams q.header n (drop q.passed given) (line ∷ []) ∙ ap (λ k. fed_from q.plan.streams q.header n (drop q.passed given) ++ fed_from q.plan.streams q.header k (line ∷ [])) number_is)
      ∙ sym (append_assoc q.before (fed_from q.plan.streams q.header n (drop q.passed given)) (fed_from q.plan.streams q.header number (line ∷ []))))

-- whatever was read
pub read_parts : (n : ℕ) (xs ys : List Told) → AreRead n (xs ++ ys) → AreRead n xs × AreRead n ys
read_parts n [] ys h = (tt, h)
read_parts n (x ∷ xs) ys h = let r = read_parts n xs ys h.1 in ((h.0, r.0), r.1)

read_both : (n : ℕ) (xs ys : List Told) → AreRead n xs → AreRead n ys → AreRead n (xs ++ ys)
read_both n [] ys f g = g
read_both n (x ∷ xs) ys f g = (f.0, read_both n xs ys f.1 g)

either_read : (streams : ℕ) (long first : Bool) (r : Read) → IsRead streams r → IsRead streams (cond long (Err TooLong) (cond first (Ok Skip) r))
either_read streams true first r h = tt
either_read streams false true r h = tt
either_read streams false false r h = h

at_read : (streams : List StreamDef) (header : Bool) (number : ℕ) (line : List ℕ) → HasNoLf line → IsRead (length streams) (entry_at streams header number line)
unfolding entry_at
at_read streams header number line free = either_read (length streams) (nat_lt 65536 (length line)) (header && nat_eq number 1) (entry streams (nat_eq number 1) line) (line_read streams (nat_eq number 1) line free)

pub are_read : (streams : List StreamDef) (header : Bool) (n : ℕ) (ls : List (List ℕ)) → All HasNoLf ls → AreRead (length streams) (told_from streams header n ls)
are_read streams header n [] free = tt
are_read streams header n (l ∷ ls) free = (at_read streams header n l (free 0 l (omega arith)), are_read streams header (suc n) ls (λ k d h. free (suc k) d (omega arith)))

-- what lines say that hold no LF, and what more of them say
module _ (q : Asked) (before : AreRead (length q.plan.streams) q.before) where
  pub behind_read : (ls : List (List ℕ)) → All HasNoLf ls → AreRead (length q.plan.streams) (told_from q.plan.streams q.header (suc (last_number q.before)) (drop q.passed ls))
  behind_read ls free = are_read q.plan.streams q.header (suc (last_number q.before)) (drop q.passed ls) (All-drop HasNoLf q.passed ls free)

  pub said_read : (ls : List (List ℕ)) → All HasNoLf ls → AreRead (length q.plan.streams) (said q ls)
  said_read ls free = read_both (length q.plan.streams) q.before _ before (behind_read ls free)

pub more_read : (q : Asked) (ls more : List (List ℕ)) → All HasNoLf more → AreRead (length q.plan.streams) (said_more q ls more)
more_read q ls more free = are_read q.plan.streams q.header (suc (last_number q.before) + length (drop q.passed ls)) (drop (q.passed - length ls) more) (All-drop HasNoLf (q.passed - length ls) more free)
