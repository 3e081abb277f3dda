-- Tests of a list that a loop leaves early.
use Rattle.std.proofs.Common.{◌≡◌, ℕ, suc, ◌+◌, ◌<◌, ◌≤◌, Bool, true, false, List, [], ◌∷◌, map, length, drop, get_or, refl, ap, sym, ◌∙◌, arith}
use Rattle.std.specs.Prelude.{◌&&◌, ◌||◌}
use Rattle.std.specs.List.{list_any, list_all}
use Rattle.std.proofs.lemmas.List.{drop_more, drop_all}
use lib.Pointwise.{pointwise}
use Rattle.tw_rows.specs.declared.kind.Kind.{Kind}
use Rattle.tw_rows.specs.declared.schema.ColumnDef.{ColumnDef}
use Rattle.query_plan.specs.Types.{same_kind, kinds}
use Rattle.query_plan.specs.Schemas.{has_twice}

here : {X : Type 0} (xs : List X) (i : ℕ) (x : X) → i < length xs → x ≡ get_or xs i x → drop i xs ≡ x ∷ drop (i + 1) xs
here xs i x low is = drop_more xs i x low ∙ ap (λ z. z ∷ drop (i + 1) xs) (sym is)

-- the rest of the list answers for all of it
pub record IsLeft {X : Type 0} (answer : List X → Bool) (xs : List X) (i : ℕ) : Type 0 where
  pub same : answer (drop i xs) ≡ answer xs

pub left_none : {X : Type 0} (answer : List X → Bool) (xs : List X) → IsLeft answer xs 0
left_none answer xs = record { same = refl }

pub any_here : {X : Type 0} (test : X → Bool) (xs : List X) (i : ℕ) (x : X) → IsLeft (list_any test) xs i → i < length xs → x ≡ get_or xs i x → test x ≡ true → true ≡ list_any test xs
any_here test xs i x h low is e =
    ap (λ b. b || list_any test (drop (i + 1) xs)) (sym e) ∙ ap (list_any test) (sym (here xs i x low is)) ∙ h.same

pub any_past : {X : Type 0} (test : X → Bool) (xs : List X) (i : ℕ) (x : X) → IsLeft (list_any test) xs i → i < length xs → x ≡ get_or xs i x → test x ≡ false → IsLeft (list_any test) xs (i + 1)
any_past test xs i x h low is e =
    record { same = ap (λ b. b || list_any test (drop (i + 1) xs)) (sym e) ∙ ap (list_any test) (sym (here xs i x low is)) ∙ h.same }

pub all_here : {X : Type 0} (test : X → Bool) (xs : List X) (i : ℕ) (x : X) → IsLeft (list_all test) xs i → i < length xs → x ≡ get_or xs i x → test x ≡ false → false ≡ list_all test xs
all_here test xs i x h low is e =
    ap (λ b. b && list_all test (drop (i + 1) xs)) (sym e) ∙ ap (list_all test) (sym (here xs i x low is)) ∙ h.same

pub all_past : {X : Type 0} (test : X → Bool) (xs : List X) (i : ℕ) (x : X) → IsLeft (list_all test) xs i → i < length xs → x ≡ get_or xs i x → test x ≡ true → IsLeft (list_all test) xs (i + 1)
all_past test xs i x h low is e =
    record { same = ap (λ b. b && list_all test (drop (i + 1) xs)) (sym e) ∙ ap (list_all test) (sym (here xs i x low is)) ∙ h.same }

pub twice_here : {X : Type 0} (same : X → X → Bool) (xs : List X) (i : ℕ) (x : X) → IsLeft (has_twice same) xs i → i < length xs → x ≡ get_or xs i x → list_any (same x) (drop (i + 1) xs) ≡ true → true ≡ has_twice same xs
twice_here same xs i x h low is e =
    ap (λ b. b || has_twice same (drop (i + 1) xs)) (sym e) ∙ ap (has_twice same) (sym (here xs i x low is)) ∙ h.same

pub twice_past : {X : Type 0} (same : X → X → Bool) (xs : List X) (i : ℕ) (x : X) → IsLeft (has_twice same) xs i → i < length xs → x ≡ get_or xs i x → list_any (same x) (drop (i + 1) xs) ≡ false → IsLeft (has_twice same) xs (i + 1)
twice_past same xs i x h low is e =
    record { same = ap (λ b. b || has_twice same (drop (i + 1) xs)) (sym e) ∙ ap (has_twice same) (sym (here xs i x low is)) ∙ h.same }

pub left_all : {X : Type 0} (answer : List X → Bool) (xs : List X) (i : ℕ) → IsLeft answer xs i → length xs ≤ i → answer [] ≡ answer xs
left_all answer xs i h past = ap answer (sym (drop_all i xs past)) ∙ h.same

-- the rests of two lists of one length answer for all of them
pub record AreLeft {X Y K : Type 0} (same : K → K → Bool) (f : X → K) (g : Y → K) (xs : List X) (ys : List Y) (i : ℕ) : Type 0 where
  pub even : length xs ≡ length ys
  pub same_rest : pointwise same (map f (drop i xs)) (map g (drop i ys)) ≡ pointwise same (map f xs) (map g ys)

pub pairs_none : {X Y K : Type 0} (same : K → K → Bool) (f : X → K) (g : Y → K) (xs : List X) (ys : List Y) → length xs ≡ length ys → AreLeft same f g xs ys 0
pairs_none same f g xs ys e = record { even = e; same_rest = refl }

pair_at : {X Y K : Type 0} (same : K → K → Bool) (f : X → K) (g : Y → K) (xs : List X) (ys : List Y) (i : ℕ) (x : X) (y : Y) (b : Bool) → AreLeft same f g xs ys i → i < length xs → x ≡ get_or xs i x → y ≡ get_or ys i y → b ≡ same (f x) (g y) → (b && pointwise same (map f (drop (i + 1) xs)) (map g (drop (i + 1) ys))) ≡ pointwise same (map f xs) (map g ys)
pair_at same f g xs ys i x y b h low ix iy e =
    let lower : i < length ys = let l = h.even in omega arith in
    ap (λ t. t && pointwise same (map f (drop (i + 1) xs)) (map g (drop (i + 1) ys))) e
    ∙ ap (λ l. pointwise same (map f l) (map g (y ∷ drop (i + 1) ys))) (sym (here xs i x low ix))
    ∙ ap (λ l. pointwise same (map f (drop i xs)) (map g l)) (sym (here ys i y lower iy))
    ∙ h.same_rest

pub pair_here : {X Y K : Type 0} (same : K → K → Bool) (f : X → K) (g : Y → K) (xs : List X) (ys : List Y) (i : ℕ) (x : X) (y : Y) → AreLeft same f g xs ys i → i < length xs → x ≡ get_or xs i x → y ≡ get_or ys i y → false ≡ same (f x) (g y) → false ≡ pointwise same (map f xs) (map g ys)
pair_here same f g xs ys i x y h low ix iy e = pair_at same f g xs ys i x y false h low ix iy e

pub pair_past : {X Y K : Type 0} (same : K → K → Bool) (f : X → K) (g : Y → K) (xs : List X) (ys : List Y) (i : ℕ) (x : X) (y : Y) → AreLeft same f g xs ys i → i < length xs → x ≡ get_or xs i x → y ≡ get_or ys i y → true ≡ same (f x) (g y) → AreLeft same f g xs ys (i + 1)
pair_past same f g xs ys i x y h low ix iy e = record { even = h.even; same_rest = pair_at same f g xs ys i x y true h low ix iy e }

pub pairs_all : {X Y K : Type 0} (same : K → K → Bool) (f : X → K) (g : Y → K) (xs : List X) (ys : List Y) (i : ℕ) → AreLeft same f g xs ys i → length xs ≤ i → true ≡ pointwise same (map f xs) (map g ys)
pairs_all same f g xs ys i h past =
    let past_too : length ys ≤ i = let l = h.even in omega arith in
    ap (λ l. pointwise same [] (map g l)) (sym (drop_all i ys past_too))
    ∙ ap (λ l. pointwise same (map f l) (map g (drop i ys))) (sym (drop_all i xs past))
    ∙ h.same_rest

uneven_more : (a b : Bool) → false ≡ b → false ≡ (a && b)
uneven_more true b e = e
uneven_more false b e = refl

pub uneven : {X Y K : Type 0} (same : K → K → Bool) (f : X → K) (g : Y → K) (xs : List X) (ys : List Y) → (length xs ≡ length ys → ⊥) → false ≡ pointwise same (map f xs) (map g ys)
uneven same f g [] [] h = absurd (h refl)
uneven same f g [] (y ∷ ys) h = refl
uneven same f g (x ∷ xs) [] h = refl
uneven same f g (x ∷ xs) (y ∷ ys) h = uneven_more (same (f x) (g y)) _ (uneven same f g xs ys (λ e. h (ap suc e)))

-- the rests of columns and of kinds that are as many answer for all of them
abbrev pub KindsLeft : List ColumnDef → List Kind → ℕ → Type 0
KindsLeft columns wanted i = AreLeft same_kind (λ (c : ColumnDef). c.kind) (λ (k : Kind). k) columns wanted i

map_itself : (ks : List Kind) → map (λ (k : Kind). k) ks ≡ ks
map_itself [] = refl
map_itself (k ∷ ks) = ap (λ l. k ∷ l) (map_itself ks)

of_wanted : (b : Bool) (columns : List ColumnDef) (wanted : List Kind) → b ≡ pointwise same_kind (kinds columns) (map (λ (k : Kind). k) wanted) → b ≡ pointwise same_kind (kinds columns) wanted
of_wanted b columns wanted e = e ∙ ap (pointwise same_kind (kinds columns)) (map_itself wanted)

pub kinds_none : (columns : List ColumnDef) (wanted : List Kind) → length columns ≡ length wanted → KindsLeft columns wanted 0
kinds_none columns wanted e = pairs_none same_kind (λ (c : ColumnDef). c.kind) (λ (k : Kind). k) columns wanted e

pub kinds_differ : (columns : List ColumnDef) (wanted : List Kind) → (length columns ≡ length wanted → ⊥) → false ≡ pointwise same_kind (kinds columns) wanted
kinds_differ columns wanted h = of_wanted false columns wanted (uneven same_kind (λ (c : ColumnDef). c.kind) (λ (k : Kind). k) columns wanted h)

pub kind_here : (columns : List ColumnDef) (wanted : List Kind) (i : ℕ) (c : ColumnDef) (k : Kind) → KindsLeft columns wanted i → i < length columns → c ≡ get_or columns i c → k ≡ get_or wanted i k → false ≡ same_kind c.kind k → false ≡ pointwise same_kind (kinds columns) wanted
kind_here columns wanted i c k h low ic ik e = of_wanted false columns wanted (pair_here same_kind (λ (c : ColumnDef). c.kind) (λ (k : Kind). k) columns wanted i c k h low ic ik e)

pub kind_past : (columns : List ColumnDef) (wanted : List Kind) (i : ℕ) (c : ColumnDef) (k : Kind) → KindsLeft columns wanted i → i < length columns → c ≡ get_or columns i c → k ≡ get_or wanted i k → true ≡ same_kind c.kind k → KindsLeft columns wanted (i + 1)
kind_past columns wanted i c k h low ic ik e = pair_past same_kind (λ (c : ColumnDef). c.kind) (λ (k : Kind). k) columns wanted i c k h low ic ik e

pub kinds_all : (columns : List ColumnDef) (wanted : List Kind) (i : ℕ) → KindsLeft columns wanted i → length columns ≤ i → true ≡ pointwise same_kind (kinds columns) wanted
kinds_all columns wanted i h past = of_wanted true columns wanted (pairs_all same_kind (λ (c : ColumnDef). c.kind) (λ (k : Kind). k) columns wanted i h past)
