-- Single fields: what is written is read back, and nothing else is read.
use Rattle.std.proofs.Common.{◌≡◌, ◌<◌, ◌≤◌, ◌^◌, ℕ, ℤ, pos, negsuc, List, [], ◌∷◌, map, Bool, true, false, cond, Option, Some, None, refl, sym, ◌∙◌, ap, subst, arith, inl, inr}
use Rattle.std.specs.Prelude.{nat_lt, codes, decimal, option_map}
use Rattle.std.proofs.lemmas.Bool.Decides.{Decides-ltb}
use Rattle.std.proofs.lemmas.Bool.{cases_lt}
use Rattle.std.specs.Str.Parse.{AllDigits}
use Rattle.std.proofs.lemmas.Fmt.{digits_decimal}
use Rattle.tw_rows.specs.Instant.{inf}
use Rattle.tw_rows.specs.declared.cells.Datum.{Datum}
use Rattle.tw_rows.specs.declared.cells.Datum.TheVariants.{Int, Bool as Flag, Text}
use Rattle.tw_rows.specs.declared.kind.CellKind.{CellKind}
use Rattle.tw_rows.specs.declared.kind.CellKind.TheVariants.{Whole, Bit, Place}
use Rattle.row_reader.specs.FieldTexts.{time_text}
use Rattle.row_reader.specs.NumberTexts.{number_text}
use Rattle.row_reader.proofs.Plain.{IsSmall, decimal_plain, number_plain, time_plain}
use Rattle.row_reader.proofs.Digits.{own}
use Rattle.row_reader.specs.Number.{number_of, units_of, same_text, fits_i64}
use Rattle.row_reader.proofs.Numbers.{number_of-spelled, number_of-is, same_text-Decides}
use Rattle.row_reader.proofs.Places.{units_of-spelled, units_of-is}
use Rattle.row_reader.proofs.ReadBack.{inf-is, text_inf}
use Rattle.frozen_state.specs.declared.owner.Owner.{Owner}
use Rattle.frozen_state.specs.declared.owner.Owner.TheVariants.{In, Node, Out}
use Rattle.checkpoint.specs.Lines.{owner_text, datum_text, IsOwner, IsCell, AreCells}
use Rattle.checkpoint.specs.Reading.{instant_of, owner_of, flag_of, datum_of, before, cells_of}
use Rattle.row_reader.proofs.Commas.{NoComma}
use Rattle.checkpoint.proofs.Commas.{AreBare, bare_word, plain_bare}

-- NUMBERS
pub number_back : (n : ℕ) → n < 2 ^ 64 → number_of (2 ^ 64) (decimal n) ≡ Some n
number_back n h = number_of-spelled (2 ^ 64) n (decimal n) h (omega arith) refl

pub decimal_bare : (n : ℕ) → n < 2 ^ 64 → NoComma (decimal n)
decimal_bare n h = plain_bare _ (decimal_plain n h)

pub time_bare : (t : ℕ) → NoComma (time_text t)
time_bare t = plain_bare _ (time_plain t)

-- no number is spelled as a word that has no digit
not_word : (n : ℕ) (word : List ℕ) → n < 2 ^ 64 → (AllDigits 10 word → ⊥) → same_text (decimal n) word ≡ true → ⊥
not_word n word low none same = none (subst (AllDigits 10) ((same_text-Decides _ _).0 same) (digits_decimal own n low))

-- TIMES
instant_by : (b : Bool) (n : ℕ) → n < 2 ^ 61 → same_text (decimal n) (codes "inf") ≡ b → cond b (Some inf) (number_of (2 ^ 61) (decimal n)) ≡ Some n
instant_by true n low same = absurd (not_word n (codes "inf") (omega (arith, low)) (λ h. omega (arith, h.0)) same)
instant_by false n low same = number_of-spelled (2 ^ 61) n (decimal n) low (omega arith) refl

time_below : (t : ℕ) → t < 2 ^ 61 → time_text t ≡ decimal t
time_below t h = let low : nat_lt t inf ≡ true = (Decides-ltb t inf).1 (omega (arith, inf-is, h)) in rw low refl

pub instant_back : (t : ℕ) → t ≤ inf → instant_of (time_text t) ≡ Some t
unfolding instant_of
instant_back t low = elim (cases_lt t (2 ^ 61)) [
  | inl below ↦ rw (time_below t below) (instant_by (same_text (decimal t) (codes "inf")) t below refl)
  | inr above ↦ (let is : t ≡ inf = omega (arith, inf-is, low, above) in rw (is, text_inf) refl)
]

instant_is_by : (b : Bool) (text : List ℕ) (t : ℕ) → same_text text (codes "inf") ≡ b → cond b (Some inf) (number_of (2 ^ 61) text) ≡ Some t → (t ≤ inf) × (text ≡ time_text t)
instant_is_by true text t e h = let is : inf ≡ t = cc in (omega (arith, is), (same_text-Decides _ _).0 e ∙ sym text_inf ∙ ap time_text is)
instant_is_by false text t e h = let p = number_of-is (2 ^ 61) text t h in (omega (arith, inf-is, p.0), p.1 ∙ sym (time_below t p.0))

pub instant_is : (text : List ℕ) (t : ℕ) → instant_of text ≡ Some t → (t ≤ inf) × (text ≡ time_text t)
unfolding instant_of
instant_is text t h = instant_is_by (same_text text (codes "inf")) text t refl h

-- OWNERS
owner_by : (p q : Bool) (n : ℕ) → n < 2 ^ 64 → same_text (decimal n) (codes "in") ≡ p → same_text (decimal n) (codes "out") ≡ q →
    cond p (Some In) (cond q (Some Out) (option_map Node (number_of (2 ^ 64) (decimal n)))) ≡ Some (Node n)
owner_by true q n low e f = absurd (not_word n (codes "in") low (λ h. omega (arith, h.0)) e)
owner_by false true n low e f = absurd (not_word n (codes "out") low (λ h. omega (arith, h.0)) f)
owner_by false false n low e f = ap (option_map Node) (number_back n low)

pub owner_back : (o : Owner) → IsOwner o → owner_of (owner_text o) ≡ Some o
unfolding owner_of
owner_back In h = refl
owner_back (Node n) h = owner_by (same_text (decimal n) (codes "in")) (same_text (decimal n) (codes "out")) n h refl refl
owner_back Out h = refl

abbrev Names : List ℕ → Owner → Type 0
Names text o = IsOwner o × (text ≡ owner_text o)

node_is : (text : List ℕ) (r : Option ℕ) → number_of (2 ^ 64) text ≡ r → (o : Owner) → option_map Node r ≡ Some o → Names text o
node_is text None e o h = absurd (cc)
node_is text (Some n) e o h = let p = number_of-is (2 ^ 64) text n e in let is : Node n ≡ o = cc in subst (Names text) is p

owner_is_by : (text : List ℕ) (p q : Bool) → same_text text (codes "in") ≡ p → same_text text (codes "out") ≡ q → (o : Owner) →
    cond p (Some In) (cond q (Some Out) (option_map Node (number_of (2 ^ 64) text))) ≡ Some o → Names text o
owner_is_by text true q e f o h = let is : In ≡ o = cc in subst (Names text) is (tt, (same_text-Decides _ _).0 e)
owner_is_by text false true e f o h = let is : Out ≡ o = cc in subst (Names text) is (tt, (same_text-Decides _ _).0 f)
owner_is_by text false false e f o h = node_is text (number_of (2 ^ 64) text) refl o h

pub owner_is : (text : List ℕ) (o : Owner) → owner_of text ≡ Some o → IsOwner o × (text ≡ owner_text o)
unfolding owner_of
owner_is text o h = owner_is_by text (same_text text (codes "in")) (same_text text (codes "out")) refl refl o h

pub owner_bare : (o : Owner) → IsOwner o → NoComma (owner_text o)
owner_bare In h = bare_word (codes "in") refl
owner_bare (Node n) h = decimal_bare n h
owner_bare Out h = bare_word (codes "out") refl

-- CELLS
datum_back : (k : CellKind) (d : Datum) → IsCell k d → datum_of k (datum_text d) ≡ Some d
unfolding flag_of
datum_back Whole (Int x) h = ap (option_map Int) (units_of-spelled 0 (number_text 0 x) x h refl)
datum_back Whole (Flag b) h = absurd h
datum_back Whole (Text p) h = absurd h
datum_back Bit (Int x) h = absurd h
datum_back Bit (Flag true) h = refl
datum_back Bit (Flag false) h = refl
datum_back Bit (Text p) h = absurd h
datum_back Place (Int x) h = absurd h
datum_back Place (Flag b) h = absurd h
datum_back Place (Text p) h = ap (option_map Text) (number_back p h)

pub cells_back : (ks : List CellKind) (ds : List Datum) → AreCells ks ds → cells_of ks (map datum_text ds) ≡ Some ds
cells_back [] [] h = refl
cells_back [] (d ∷ ds) h = absurd h
cells_back (k ∷ ks) [] h = absurd h
cells_back (k ∷ ks) (d ∷ ds) h = rw (datum_back k d h.0, cells_back ks ds h.1) refl

small_fits : (x : ℤ) → fits_i64 x ≡ true → IsSmall x
small_fits (pos n) h = let low : n < 2 ^ 63 = (Decides-ltb n (2 ^ 63)).0 h in omega (arith, low)
small_fits (negsuc n) h = let low : n < 2 ^ 63 = (Decides-ltb n (2 ^ 63)).0 h in omega (arith, low)

datum_bare : (k : CellKind) (d : Datum) → IsCell k d → NoComma (datum_text d)
datum_bare Whole (Int x) h = plain_bare (number_text 0 x) (number_plain 0 x (small_fits x h))
datum_bare Whole (Flag b) h = absurd h
datum_bare Whole (Text p) h = absurd h
datum_bare Bit (Int x) h = absurd h
datum_bare Bit (Flag true) h = (refl, tt)
datum_bare Bit (Flag false) h = (refl, tt)
datum_bare Bit (Text p) h = absurd h
datum_bare Place (Int x) h = absurd h
datum_bare Place (Flag b) h = absurd h
datum_bare Place (Text p) h = decimal_bare p h

pub cells_bare : (ks : List CellKind) (ds : List Datum) → AreCells ks ds → AreBare (map datum_text ds)
cells_bare [] [] h = tt
cells_bare [] (d ∷ ds) h = absurd h
cells_bare (k ∷ ks) [] h = absurd h
cells_bare (k ∷ ks) (d ∷ ds) h = (datum_bare k d h.0, cells_bare ks ds h.1)

abbrev Prints : CellKind → List ℕ → Datum → Type 0
Prints k text d = IsCell k d × (text ≡ datum_text d)

whole_is : (text : List ℕ) (o : Option ℤ) → units_of 0 text ≡ o → (d : Datum) → option_map Int o ≡ Some d → Prints Whole text d
whole_is text None e d h = absurd (cc)
whole_is text (Some z) e d h = let p = units_of-is 0 text z e in let is : Int z ≡ d = cc in subst (Prints Whole text) is p

place_is : (text : List ℕ) (o : Option ℕ) → number_of (2 ^ 64) text ≡ o → (d : Datum) → option_map Text o ≡ Some d → Prints Place text d
place_is text None e d h = absurd (cc)
place_is text (Some n) e d h = let p = number_of-is (2 ^ 64) text n e in let is : Text n ≡ d = cc in subst (Prints Place text) is p

flag_is : (text : List ℕ) (p q : Bool) → same_text text (codes "1") ≡ p → same_text text (codes "0") ≡ q → (d : Datum) → cond p (Some (Flag true)) (cond q (Some (Flag false)) None) ≡ Some d → Prints Bit text d
flag_is text true q e f d h = let is : Flag true ≡ d = cc in subst (Prints Bit text) is (tt, (same_text-Decides _ _).0 e)
flag_is text false true e f d h = let is : Flag false ≡ d = cc in subst (Prints Bit text) is (tt, (same_text-Decides _ _).0 f)
flag_is text false false e f d h = absurd (cc)

datum_is : (k : CellKind) (text : List ℕ) (d : Datum) → datum_of k text ≡ Some d → Prints k text d
unfolding flag_of
datum_is Whole text d h = whole_is text (units_of 0 text) refl d h
datum_is Bit text d h = flag_is text (same_text text (codes "1")) (same_text text (codes "0")) refl refl d h
datum_is Place text d h = place_is text (number_of (2 ^ 64) text) refl d h

before_is : (o : Option Datum) (os : Option (List Datum)) (ds : List Datum) → before o os ≡ Some ds → (d : Datum) × (rest : List Datum) × (o ≡ Some d) × (os ≡ Some rest) × (d ∷ rest ≡ ds)
before_is None os ds h = absurd (cc)
before_is (Some d) None ds h = absurd (cc)
before_is (Some d) (Some rest) ds h = (d, rest, refl, refl, cc)

pub cells_are : (ks : List CellKind) (fs : List (List ℕ)) (ds : List Datum) → cells_of ks fs ≡ Some ds → AreCells ks ds × (fs ≡ map datum_text ds)
cells_are [] [] ds h = let is : [] ≡ ds = cc in subst (λ (l : List Datum). AreCells [] l × ([] ≡ map datum_text l)) is (tt, refl)
cells_are [] (f ∷ fs) ds h = absurd (cc)
cells_are (k ∷ ks) [] ds h = absurd (cc)
cells_are (k ∷ ks) (f ∷ fs) ds h =
    let b = before_is (datum_of k f) (cells_of ks fs) ds h in
    let d = datum_is k f b.0 b.2 in
    let r = cells_are ks fs b.1 b.3 in
    subst (λ (l : List Datum). AreCells (k ∷ ks) l × (f ∷ fs ≡ map datum_text l)) b.4 ((d.0, r.0), λ i. d.1 i ∷ r.1 i)
