-- A record that is printed spells its fields.
use Rattle.std.proofs.Common.{◌≡◌, ℕ, List, [], ◌∷◌, ◌++◌, Bool, true, false, cond, refl, sym, ◌∙◌, ap, subst, inl, inr}
use Rattle.std.specs.Prelude.{◌≢◌, ◌||◌}
use Rattle.std.specs.List.{list_any}
use Rattle.std.proofs.lemmas.Bool.Decides.{eqb_tells}
use Rattle.std.proofs.lemmas.List.{append-nil}
use Rattle.csv.specs.Writing.{default_writer, field_text, fields_text, needs_byte, escaped, is_blank}
use Rattle.row_reader.specs.RecordTexts.{record_text}
use Rattle.row_reader.specs.Spelled.{doubled, IsBare, SpellsField, SpellsFields}

escaped-doubled : (f : List ℕ) → escaped default_writer f ≡ doubled f
unfolding escaped
escaped-doubled [] = refl
escaped-doubled (b ∷ f) = elim (eqb_tells b 34) [
  | inl t ↦ rw t.0 (ap (λ (x : ℕ). 34 ∷ x ∷ escaped default_writer f) t.1 ∙ ap (λ (l : List ℕ). 34 ∷ 34 ∷ l) (escaped-doubled f))
  | inr t ↦ rw t.0 (ap (λ (l : List ℕ). b ∷ l) (escaped-doubled f))
]

or_left : (p q : Bool) → (p || q) ≡ false → (p ≡ false) × (q ≡ false)
or_left true q h = absurd (cc)
or_left false q h = (refl, h)

plain_byte : (b : ℕ) → needs_byte default_writer b ≡ false → (b ≢ 34) × (b ≢ 44)
plain_byte b h = (
  λ e. (let t : needs_byte default_writer 34 ≡ false = ap (needs_byte default_writer) (sym e) ∙ h in absurd (cc)),
  λ e. (let t : needs_byte default_writer 44 ≡ false = ap (needs_byte default_writer) (sym e) ∙ h in absurd (cc)),
)

bare : (f : List ℕ) → list_any (needs_byte default_writer) f ≡ false → IsBare f
bare [] h = tt
bare (b ∷ f) h =
    let p = or_left (needs_byte default_writer b) (list_any (needs_byte default_writer) f) h in
    let q = plain_byte b p.0 in
    (q.0, q.1, bare f p.1)

field_by : (t : Bool) (f : List ℕ) → list_any (needs_byte default_writer) f ≡ t → SpellsField (cond t (34 ∷ (escaped default_writer f ++ 34 ∷ [])) f) f
field_by true f e = inr (ap (λ (l : List ℕ). 34 ∷ (l ++ 34 ∷ [])) (escaped-doubled f))
field_by false f e = inl (refl, bare f e)

spells_field : (f : List ℕ) → SpellsField (field_text default_writer f) f
spells_field f = field_by (list_any (needs_byte default_writer) f) f refl

spells_fields : (f : List ℕ) (fs : List (List ℕ)) → SpellsFields (field_text default_writer f ++ fields_text default_writer fs) (f ∷ fs)
unfolding fields_text
spells_fields f [] = subst (λ l. SpellsField l f) (sym (append-nil (field_text default_writer f))) (spells_field f)
spells_fields f (g ∷ gs) = (field_text default_writer f, field_text default_writer g ++ fields_text default_writer gs, refl, spells_field f, spells_fields g gs)

pub records_spell_their_fields : (f g : List ℕ) (fs : List (List ℕ)) → (text : List ℕ) × (record_text (f ∷ g ∷ fs) ≡ text ++ 10 ∷ []) × SpellsFields text (f ∷ g ∷ fs)
unfolding is_blank
records_spell_their_fields f g fs = (field_text default_writer f ++ fields_text default_writer (g ∷ fs), refl, spells_fields f (g ∷ fs))
