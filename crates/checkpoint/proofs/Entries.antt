-- Entries that are added to parts, and their lines.
use Rattle.std.proofs.Common.{◌≡◌, ◌≤◌, ◌+◌, ◌-◌, ℕ, zero, suc, Bool, true, false, cond, List, [], ◌∷◌, ◌++◌, length, map, drop, Some, slice_get, refl, sym, ◌∙◌, ap, subst, arith, append_assoc, inl, inr}
use Rattle.std.specs.Prelude.{nat_eq, ◌&&◌, All}
use Rattle.std.specs.List.{position_from}
use Rattle.std.proofs.lemmas.List.{append-nil, map-append, drop-drop, drop-append-le, length-drop, get_or-drop}
use Rattle.std.proofs.lemmas.List.Elements.{All-append, All-nil}
use Rattle.std.proofs.lemmas.Bool.Decides.{eqb_tells}
use Rattle.edge_stream.specs.declared.saved.SavedEntry.{SavedEntry}
use Rattle.frozen_state.specs.declared.owner.Owner.{Owner}
use Rattle.frozen_state.specs.declared.owner.Owner.TheVariants.{In, Node, Out}
use Rattle.frozen_state.specs.declared.frozen.FrozenPart.{FrozenPart}
use Rattle.frozen_state.specs.Frozen.{with_entry}
use Rattle.frozen_state.specs.Forms.{PartFormView, is_owner, is_form_of}
use Rattle.checkpoint.specs.Lines.{entry_line}
use Rattle.checkpoint.specs.Text.{part_lines, entry_lines, HasLine, ArePartsWith}
use Rattle.checkpoint.specs.Steps.{empty_parts}

-- one of one
pub one : {X : Type 0} (P : X → Type 0) (x : X) → P x → All P (x ∷ [])
one P x h zero d low = h
one P x h (suc n) d low = absurd (omega (arith, low))

-- the first of all, and the others
pub first_of : {X : Type 0} (P : X → Type 0) (x : X) (xs : List X) → All P (x ∷ xs) → P x
first_of P x xs h = h 0 x (omega arith)

pub others_of : {X : Type 0} (P : X → Type 0) (x : X) (xs : List X) → All P (x ∷ xs) → All P xs
others_of P x xs h = λ n d low. h (suc n) d (omega (arith, low))

-- an entry of the part of number k adds a line, the last one where the parts behind have none
pub lines_with_entry : (gs : List PartFormView) (ps : List FrozenPart) (k : ℕ) (g : PartFormView) (e : SavedEntry) → ArePartsWith gs ps →
    slice_get gs k ≡ Some g → entry_lines (drop (suc k) ps) ≡ [] → entry_lines (with_entry k e ps) ≡ entry_lines ps ++ entry_line g.owner g.shard e ∷ []
lines_with_entry [] ps k g e are at none = absurd (cc)
lines_with_entry (h ∷ gs) [] k g e are at none = absurd are
lines_with_entry (h ∷ gs) (p ∷ ps) zero g e are at none =
    let is : h ≡ g = cc in
    let o = are.0.owner ∙ ap (λ (x : PartFormView). x.owner) is in
    let s = are.0.shard ∙ ap (λ (x : PartFormView). x.shard) is in
    let m = map (entry_line p.owner p.shard) p.saved in
    let left = ap (λ (l : List (List ℕ)). l ++ entry_lines ps) (map-append (entry_line p.owner p.shard) p.saved (e ∷ []))
    ∙ ap (λ (l : List (List ℕ)). (m ++ entry_line p.owner p.shard e ∷ []) ++ l) none ∙ append-nil (m ++ entry_line p.owner p.shard e ∷ []) in
    let right = ap (λ (l : List (List ℕ)). (m ++ l) ++ entry_line g.owner g.shard e ∷ []) none ∙ ap (λ (l : List (List ℕ)). l ++ entry_line g.owner g.shard e ∷ []) (append-nil m) in
    left ∙ (λ i. m ++ entry_line (o i) (s i) e ∷ []) ∙ sym right
lines_with_entry (h ∷ gs) (p ∷ ps) (suc k) g e are at none =
    ap (λ (l : List (List ℕ)). part_lines p ++ l) (lines_with_entry gs ps k g e are.1 at none) ∙ sym (append_assoc (part_lines p) (entry_lines ps) (entry_line g.owner g.shard e ∷ []))

pub parts_with_entry : (gs : List PartFormView) (ps : List FrozenPart) (k : ℕ) (g : PartFormView) (e : SavedEntry) → ArePartsWith gs ps →
    slice_get gs k ≡ Some g → HasLine g e → ArePartsWith gs (with_entry k e ps)
parts_with_entry [] ps k g e are at has = absurd (cc)
parts_with_entry (h ∷ gs) [] k g e are at has = absurd are
parts_with_entry (h ∷ gs) (p ∷ ps) zero g e are at has =
    let is : h ≡ g = cc in
    let has_h = subst (λ (x : PartFormView). HasLine x e) (sym is) has in (
      record { owner = are.0.owner; shard = are.0.shard; entries = All-append (HasLine h) p.saved (e ∷ []) are.0.entries (one (HasLine h) e has_h) },
      are.1,
    )
parts_with_entry (h ∷ gs) (p ∷ ps) (suc k) g e are at has = (are.0, parts_with_entry gs ps k g e are.1 at has)

pub behind_entry : (ps : List FrozenPart) (k : ℕ) (e : SavedEntry) → drop (suc k) (with_entry k e ps) ≡ drop (suc k) ps
behind_entry [] k e = refl
behind_entry (p ∷ ps) zero e = refl
behind_entry (p ∷ ps) (suc k) e = behind_entry ps k e

nil_right : (a b : List (List ℕ)) → a ++ b ≡ [] → b ≡ []
nil_right [] b h = h
nil_right (x ∷ a) b h = absurd (cc)

none_dropped : (n : ℕ) (ps : List FrozenPart) → entry_lines ps ≡ [] → entry_lines (drop n ps) ≡ []
none_dropped zero ps h = h
none_dropped (suc n) [] h = refl
none_dropped (suc n) (p ∷ ps) h = none_dropped n ps (nil_right (part_lines p) (entry_lines ps) h)

-- behind parts that are further on there is no more
pub none_later : (ps : List FrozenPart) (a b : ℕ) → a ≤ b → entry_lines (drop a ps) ≡ [] → entry_lines (drop b ps) ≡ []
none_later ps a b low h =
    let e : a + (b - a) ≡ b = omega arith in
    ap (λ (k : ℕ). entry_lines (drop k ps)) (sym e) ∙ ap entry_lines (sym (drop-drop (b - a) a ps)) ∙ none_dropped (b - a) (drop a ps) h

pub empty_lines : (gs : List PartFormView) → entry_lines (empty_parts gs) ≡ []
empty_lines [] = refl
empty_lines (g ∷ gs) = empty_lines gs

pub parts_empty : (gs : List PartFormView) → ArePartsWith gs (empty_parts gs)
parts_empty [] = tt
parts_empty (g ∷ gs) = (record { owner = refl; shard = refl; entries = All-nil (HasLine g) }, parts_empty gs)

pub parts_length : (gs : List PartFormView) (ps : List FrozenPart) → ArePartsWith gs ps → length ps ≡ length gs
parts_length [] [] are = refl
parts_length [] (p ∷ ps) are = absurd are
parts_length (g ∷ gs) [] are = absurd are
parts_length (g ∷ gs) (p ∷ ps) are = ap suc (parts_length gs ps are.1)

-- NAMES
and_is : (a b : Bool) → (a && b) ≡ true → (a ≡ true) × (b ≡ true)
and_is true b h = (refl, h)
and_is false b h = absurd (cc)

same_number : (a b : ℕ) → nat_eq a b ≡ true → a ≡ b
same_number a b h = elim (eqb_tells a b) [
  | inl t ↦ t.1
  | inr t ↦ absurd (let e = t.0 in cc)
]

number_same : (a : ℕ) → nat_eq a a ≡ true
number_same a = elim (eqb_tells a a) [
  | inl t ↦ t.0
  | inr t ↦ absurd (t.1 refl)
]

owner_is : (a b : Owner) → is_owner a b ≡ true → a ≡ b
owner_is In In h = refl
owner_is In (Node n) h = absurd (cc)
owner_is In Out h = absurd (cc)
owner_is (Node n) In h = absurd (cc)
owner_is (Node n) (Node m) h = ap Node (same_number n m h)
owner_is (Node n) Out h = absurd (cc)
owner_is Out In h = absurd (cc)
owner_is Out (Node n) h = absurd (cc)
owner_is Out Out h = refl

owner_same : (a : Owner) → is_owner a a ≡ true
owner_same In = refl
owner_same (Node n) = number_same n
owner_same Out = refl

pub named : (owner : Owner) (shard : ℕ) (g : PartFormView) → is_form_of owner shard g ≡ true → (g.owner ≡ owner) × (g.shard ≡ shard)
named owner shard g h = let t = and_is (is_owner g.owner owner) (nat_eq g.shard shard) h in (owner_is g.owner owner t.0, same_number g.shard shard t.1)

pub own_name : (g : PartFormView) → is_form_of g.owner g.shard g ≡ true
own_name g = rw (owner_same g.owner, number_same g.shard) refl

-- PLACES
-- a search from a number on found it there
pub record IsFound {X : Type 0} (p : X → Bool) (xs : List X) (from k : ℕ) : Type 0 where
  pub found : X
  pub low : from ≤ k
  pub at : slice_get xs k ≡ Some found
  pub passes : p found ≡ true

found_by : {X : Type 0} (p : X → Bool) (xs : List X) (i k : ℕ) → position_from p i xs ≡ Some k → (x : X) × ((i ≤ k) × ((slice_get xs (k - i) ≡ Some x) × (p x ≡ true)))
found_by p [] i k h = absurd (cc)
found_by {X = X} p (x ∷ xs) i k h = by (p x) refl h (found_by p xs (i + 1) k)
  where
    by : (b : Bool) → p x ≡ b → cond b (Some i) (position_from p (i + 1) xs) ≡ Some k
        → (position_from p (i + 1) xs ≡ Some k → (y : X) × ((i + 1 ≤ k) × ((slice_get xs (k - (i + 1)) ≡ Some y) × (p y ≡ true))))
        → (y : X) × ((i ≤ k) × ((slice_get (x ∷ xs) (k - i) ≡ Some y) × (p y ≡ true)))
    by true e h more =
        let is : i ≡ k = cc in
        let zero_is : k - i ≡ zero = omega (arith, is) in
        (x, (omega (arith, is), (ap (λ (n : ℕ). slice_get (x ∷ xs) n) zero_is, e)))
    by false e h more =
        let m = more h in
        let suc_is : k - i ≡ suc (k - (i + 1)) = omega (arith, m.1.0) in
        (m.0, (omega (arith, m.1.0), (ap (λ (n : ℕ). slice_get (x ∷ xs) n) suc_is ∙ m.1.1.0, m.1.1.1)))

got_dropped : {X : Type 0} (n : ℕ) (xs : List X) (i : ℕ) (x : X) → slice_get (drop n xs) i ≡ Some x → slice_get xs (n + i) ≡ Some x
got_dropped {X = X} zero xs i x h = let e : zero + i ≡ i = omega arith in ap (λ (k : ℕ). slice_get xs k) e ∙ h
got_dropped (suc n) [] i x h = absurd (cc)
got_dropped {X = X} (suc n) (y ∷ xs) i x h = let e : suc n + i ≡ suc (n + i) = omega arith in ap (λ (k : ℕ). slice_get (y ∷ xs) k) e ∙ got_dropped n xs i x h

pub found_at : {X : Type 0} (p : X → Bool) (xs : List X) (from k : ℕ) → position_from p from (drop from xs) ≡ Some k → IsFound p xs from k
found_at {X = X} p xs from k h =
    let f = found_by p (drop from xs) from k h in
    let e : from + (k - from) ≡ k = omega (arith, f.1.0) in
    record { found = f.0; low = f.1.0; at = ap (λ (n : ℕ). slice_get xs n) (sym e) ∙ got_dropped from xs (k - from) f.0 f.1.1.0; passes = f.1.1.1 }

found_from : {X : Type 0} (p : X → Bool) (done : List X) (x : X) (rest : List X) (i : ℕ) → All (λ y. p y ≡ false) done → p x ≡ true →
    position_from p i (done ++ x ∷ rest) ≡ Some (i + length done)
found_from p [] x rest i others is = let e : i ≡ i + zero = omega arith in rw is (ap Some e)
found_from p (y ∷ ys) x rest i others is =
    let no : p y ≡ false = others 0 x (omega arith) in
    let e : i + 1 + length ys ≡ i + suc (length ys) = omega arith in
    rw no (found_from p ys x rest (i + 1) (λ j d below. others (suc j) d (omega (arith, below))) is ∙ ap Some e)

-- behind others that do not pass
pub found_behind : {X : Type 0} (p : X → Bool) (done : List X) (x : X) (rest : List X) (from : ℕ) → from ≤ length done →
    All (λ y. p y ≡ false) done → p x ≡ true → position_from p from (drop from (done ++ x ∷ rest)) ≡ Some (length done)
found_behind {X = X} p done x rest from low others is =
    let e : from + length (drop from done) ≡ length done = omega (arith, length-drop from done) in
    ap (position_from p from) (drop-append-le from done (x ∷ rest) low)
    ∙ found_from p (drop from done) x rest from (λ j d below. let f = get_or-drop from done j d in subst (λ (y : X). p y ≡ false) (sym f) (others (from + j) d (omega (arith, below, e)))) is
    ∙ ap Some e
