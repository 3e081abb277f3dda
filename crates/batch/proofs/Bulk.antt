-- Columns that get the first cells of other ones, or lose theirs, one after another.
use Rattle.std.proofs.Common.{◌≡◌, ◌+◌, ◌<◌, ◌≤◌, ℕ, zero, suc, List, [], ◌∷◌, map, length, get_or, set, refl, ap, sym, ◌∙◌, arith, add-one}
use Rattle.std.proofs.lemmas.List.{length-map, get_or-map}
use Rattle.std.specs.Prelude.{All}
use Rattle.tw_rows.specs.declared.kind.CellKind.TheVariants.{Whole}
use Rattle.batch.specs.declared.payload.Payload.{Payload}
use Rattle.batch.specs.Payloads.{payload_kind, payload_data, payload_capacity, payload_cut, payload_extend, extended, Holds, HasRoomFor}

-- the columns, of which the first n lost their first cells
abbrev pub cut_first : ℕ → ℕ → List Payload → List Payload
cut_first k zero ps = ps
cut_first k (suc n) [] = []
cut_first k (suc n) (p ∷ ps) = payload_cut k p ∷ cut_first k n ps

pub get_or-cut_first : (k n : ℕ) (ps : List Payload) (d : Payload) → get_or (cut_first k n ps) n d ≡ get_or ps n d
get_or-cut_first k zero ps d = refl
get_or-cut_first k (suc n) [] d = refl
get_or-cut_first k (suc n) (p ∷ ps) d = get_or-cut_first k n ps d

cuts : (k n : ℕ) (ps : List Payload) (d : Payload) → n < length ps → cut_first k (suc n) ps ≡ set (cut_first k n ps) n (payload_cut k (get_or ps n d))
cuts k n [] d lt = absurd (omega arith)
cuts k zero (p ∷ ps) d lt = refl
cuts k (suc n) (p ∷ ps) d lt = ap (λ qs. payload_cut k p ∷ qs) (cuts k n ps d (omega arith))

pub cut_first-all : (k n : ℕ) (ps : List Payload) → length ps ≤ n → cut_first k n ps ≡ map (payload_cut k) ps
cut_first-all k zero [] e = refl
cut_first-all k zero (p ∷ ps) e = absurd (omega arith)
cut_first-all k (suc n) [] e = refl
cut_first-all k (suc n) (p ∷ ps) e = ap (λ qs. payload_cut k p ∷ qs) (cut_first-all k n ps (omega arith))

module _ (k n : ℕ) (ps xs : List Payload) (same : xs ≡ cut_first k n ps) (lt : n < length ps) where
  pub cut_first-still : (d : Payload) → get_or xs n d ≡ get_or ps n d
  cut_first-still d = ap (λ l. get_or l n d) same ∙ get_or-cut_first k n ps d

  pub cut_first-holds : (d : Payload) → All (Holds k) ps → k ≤ length (payload_data (get_or xs n d))
  cut_first-holds d all =
      let column : Holds k (get_or ps n d) = all n d lt in
      rw (cut_first-still d) column

  pub cut_first-next : (ys : List Payload) (p d : Payload) → p ≡ payload_cut k (get_or xs n d) → ys ≡ set xs n p → ys ≡ cut_first k (n + 1) ps
  cut_first-next ys p d is written =
      written ∙ ap (λ q. set xs n q) (is ∙ ap (payload_cut k) (cut_first-still d)) ∙ ap (λ l. set l n (payload_cut k (get_or ps n d))) same ∙ sym (rw add-one (cuts k n ps d lt))

-- the columns, of which the first n have the first cells of their other ones last
abbrev pub extended_first : ℕ → ℕ → List Payload → List Payload → List Payload
extended_first k zero ps fs = ps
extended_first k (suc n) [] fs = []
extended_first k (suc n) (p ∷ ps) [] = p ∷ ps
extended_first k (suc n) (p ∷ ps) (f ∷ fs) = payload_extend k p f ∷ extended_first k n ps fs

pub get_or-extended_first : (k n : ℕ) (ps fs : List Payload) (d : Payload) → get_or (extended_first k n ps fs) n d ≡ get_or ps n d
get_or-extended_first k zero ps fs d = refl
get_or-extended_first k (suc n) [] fs d = refl
get_or-extended_first k (suc n) (p ∷ ps) [] d = refl
get_or-extended_first k (suc n) (p ∷ ps) (f ∷ fs) d = get_or-extended_first k n ps fs d

extends : (k n : ℕ) (ps fs : List Payload) (d e : Payload) → n < length ps → n < length fs →
    extended_first k (suc n) ps fs ≡ set (extended_first k n ps fs) n (payload_extend k (get_or ps n d) (get_or fs n e))
extends k n [] fs d e lp lf = absurd (omega arith)
extends k n (p ∷ ps) [] d e lp lf = absurd (omega arith)
extends k zero (p ∷ ps) (f ∷ fs) d e lp lf = refl
extends k (suc n) (p ∷ ps) (f ∷ fs) d e lp lf = ap (λ qs. payload_extend k p f ∷ qs) (extends k n ps fs d e (omega arith) (omega arith))

pub extended_first-all : (k n : ℕ) (ps fs : List Payload) → length ps ≤ n → extended_first k n ps fs ≡ extended k ps fs
extended_first-all k zero [] fs e = refl
extended_first-all k zero (p ∷ ps) fs e = absurd (omega arith)
extended_first-all k (suc n) [] fs e = refl
extended_first-all k (suc n) (p ∷ ps) [] e = refl
extended_first-all k (suc n) (p ∷ ps) (f ∷ fs) e = ap (λ qs. payload_extend k p f ∷ qs) (extended_first-all k n ps fs (omega arith))

module _ (k n : ℕ) (ps xs fs : List Payload) (same : xs ≡ extended_first k n ps fs) (lt : n < length ps) (kinds : map payload_kind fs ≡ map payload_kind ps) where
  still : (d : Payload) → get_or xs n d ≡ get_or ps n d
  still d = ap (λ l. get_or l n d) same ∙ get_or-extended_first k n ps fs d

  pub as_many : length fs ≡ length ps
  as_many = sym (length-map fs payload_kind) ∙ ap length kinds ∙ length-map ps payload_kind

  pub extended_first-kind : (d e : Payload) → payload_kind (get_or fs n e) ≡ payload_kind (get_or xs n d)
  extended_first-kind d e =
      sym (get_or-map payload_kind fs n e Whole (omega (arith, lt, as_many))) ∙ ap (λ l. get_or l n Whole) kinds ∙ get_or-map payload_kind ps n d Whole lt ∙ ap payload_kind (sym (still d))

  pub extended_first-room : (d : Payload) → All (HasRoomFor k) ps → length (payload_data (get_or xs n d)) + k ≤ payload_capacity (get_or xs n d)
  extended_first-room d all =
      let column : HasRoomFor k (get_or ps n d) = all n d lt in
      rw (still d) column

  pub extended_first-next : (ys : List Payload) (p d e : Payload) → p ≡ payload_extend k (get_or xs n d) (get_or fs n e) → ys ≡ set xs n p → ys ≡ extended_first k (n + 1) ps fs
  extended_first-next ys p d e is written =
      written ∙ ap (λ q. set xs n q) (is ∙ ap (λ q. payload_extend k q (get_or fs n e)) (still d)) ∙ ap (λ l. set l n (payload_extend k (get_or ps n d) (get_or fs n e))) same
      ∙ sym (rw add-one (extends k n ps fs d e lt (omega (arith, lt, as_many))))
