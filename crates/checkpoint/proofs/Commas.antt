-- A line and its fields.
use Rattle.std.proofs.Common.{◌≡◌, ℕ, List, [], ◌∷◌, Bool, true, false, refl, sym, ◌∙◌, ap, inl, inr}
use Rattle.std.specs.Prelude.{◌==◌, ◌||◌}
use Rattle.std.specs.List.{list_any}
use Rattle.std.proofs.lemmas.List.{append-nil}
use Rattle.std.proofs.lemmas.Bool.Decides.{eqb_tells}
use Rattle.csv.specs.Writing.{default_writer, needs_byte}
use Rattle.row_reader.proofs.Plain.{IsPlain}
use Rattle.row_reader.specs.Fields.{commas, before_first}
use Rattle.row_reader.proofs.Commas.{NoComma, commas-bare, commas-more}
use Rattle.checkpoint.specs.Lines.{line_of}

-- no byte of them is a comma
abbrev pub AreBare : List (List ℕ) → Type 0
AreBare [] = Unit {0}
AreBare (f ∷ fs) = NoComma f × AreBare fs

pub neither : (x y : Bool) → (x || y) ≡ false → (x ≡ false) × (y ≡ false)
neither true y h = absurd (cc)
neither false y h = (refl, h)

-- a word
pub bare_word : (xs : List ℕ) → list_any (λ b. b == 44) xs ≡ false → NoComma xs
bare_word [] h = tt
bare_word (b ∷ bs) h = let n = neither (b == 44) (list_any (λ b. b == 44) bs) h in (n.0, bare_word bs n.1)

comma_needs : (b : ℕ) → (b == 44) ≡ true → needs_byte default_writer b ≡ true
comma_needs b h = rw h refl

pub plain_bare : (xs : List ℕ) → IsPlain xs → NoComma xs
plain_bare [] h = tt
plain_bare (b ∷ bs) h = let n = neither (needs_byte default_writer b) (list_any (needs_byte default_writer) bs) h in elim (eqb_tells b 44) [
  | inl t ↦ absurd (let e = comma_needs b t.0 in let f = n.0 in cc)
  | inr t ↦ (t.0, plain_bare bs n.1)
]

-- the fields of a line
pub commas-line : (w : List ℕ) (fs : List (List ℕ)) → NoComma w → AreBare fs → commas (line_of w fs) ≡ w ∷ fs
commas-line w [] h hs = ap commas (append-nil w) ∙ commas-bare w h
commas-line w (g ∷ gs) h hs = commas-more w (line_of g gs) h ∙ ap (λ (l : List (List ℕ)). w ∷ l) (commas-line g gs hs.0 hs.1)

abbrev rejoined : List (List ℕ) → List ℕ
rejoined [] = []
rejoined (f ∷ fs) = line_of f fs

abbrev IsSome : List (List ℕ) → Type 0
IsSome fs = (g : List ℕ) × (gs : List (List ℕ)) × (fs ≡ g ∷ gs)

before_some : (b : ℕ) (fs : List (List ℕ)) → IsSome (before_first b fs)
before_some b [] = (b ∷ [], [], refl)
before_some b (f ∷ fs) = (b ∷ f, fs, refl)

commas_some : (text : List ℕ) → IsSome (commas text)
unfolding commas
commas_some [] = ([], [], refl)
commas_some (b ∷ bs) = elim (eqb_tells b 44) [
  | inl t ↦ rw t.0 ([], commas bs, refl)
  | inr t ↦ rw t.0 (before_some b (commas bs))
]

rejoined_comma : (fs : List (List ℕ)) → IsSome fs → rejoined ([] ∷ fs) ≡ 44 ∷ rejoined fs
rejoined_comma [] h = absurd (let e = h.2 in cc)
rejoined_comma (f ∷ fs) h = refl

rejoined_before : (b : ℕ) (fs : List (List ℕ)) → IsSome fs → rejoined (before_first b fs) ≡ b ∷ rejoined fs
rejoined_before b [] h = absurd (let e = h.2 in cc)
rejoined_before b (f ∷ fs) h = refl

rejoined-commas : (text : List ℕ) → rejoined (commas text) ≡ text
unfolding commas
rejoined-commas [] = refl
rejoined-commas (b ∷ bs) = elim (eqb_tells b 44) [
  | inl t ↦ rw t.0 (rejoined_comma (commas bs) (commas_some bs) ∙ ap (λ (l : List ℕ). 44 ∷ l) (rejoined-commas bs) ∙ ap (λ n. n ∷ bs) (sym t.1))
  | inr t ↦ rw t.0 (rejoined_before b (commas bs) (commas_some bs) ∙ ap (λ (l : List ℕ). b ∷ l) (rejoined-commas bs))
]

-- a line is made of its fields
pub line-commas : (line w : List ℕ) (fs : List (List ℕ)) → commas line ≡ w ∷ fs → line ≡ line_of w fs
line-commas line w fs h = sym (rejoined-commas line) ∙ ap rejoined h
