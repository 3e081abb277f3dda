-- The columns that a loop has made so far.
use Rattle.std.proofs.Common.{◌≡◌, ℕ, zero, suc, ◌+◌, ◌<◌, ◌≤◌, Bool, true, false, cond, Some, None, List, [], ◌∷◌, ◌++◌, map, length, take, drop, get_or, refl, ap, sym, ◌∙◌, arith, append_assoc, nat_eq}
use Rattle.std.specs.Prelude.{slice_get}
use Rattle.std.specs.List.{list_any}
use Rattle.std.proofs.lemmas.List.{append-nil, drop_more, drop_all, take_all, map_more}
use Rattle.std.proofs.lemmas.Option.{slice_get_within, get_or_from_slice_get}
use Rattle.tw_rows.specs.declared.kind.Kind.{Kind}
use Rattle.tw_rows.specs.declared.schema.ColumnDef.{ColumnDef}
use Rattle.plan_model.specs.Keys.{outside_from, outside_key}
use Rattle.query_text.specs.declared.query.Item.{Item}
use Rattle.query_text.specs.declared.query.QueryAgg.{QueryAgg}
use Rattle.query_plan.specs.Schemas.{named_columns, join_schema, is_avg, averages_from}

-- what a loop made of the first i of the list stands behind what was there
pub record IsMade {X Y : Type 0} (f : X → Y) (old : List Y) (xs : List X) (i : ℕ) (all : List Y) : Type 0 where
  pub same : all ≡ old ++ map f (take i xs)

pub made_none : {X Y : Type 0} (f : X → Y) (old : List Y) (xs : List X) (all : List Y) → all ≡ old → IsMade f old xs 0 all
made_none f old xs all e = record { same = e ∙ sym (append-nil old) }

pub made_more : {X Y : Type 0} (f : X → Y) (old : List Y) (xs : List X) (i : ℕ) (x : X) (y : Y) (all new : List Y) → IsMade f old xs i all → i < length xs → x ≡ get_or xs i x → y ≡ f x → new ≡ all ++ y ∷ [] → IsMade f old xs (i + 1) new
made_more f old xs i x y all new h low is of pushed =
    let here : y ≡ f (get_or xs i x) = of ∙ ap f is in
    record {
      same = pushed
          ∙ ap (λ l. l ++ y ∷ []) h.same
          ∙ append_assoc old (map f (take i xs)) (y ∷ [])
          ∙ ap (λ z. old ++ (map f (take i xs) ++ z ∷ [])) here
          ∙ ap (λ l. old ++ l) (sym (map_more f xs i x low));
    }

pub made_all : {X Y : Type 0} (f : X → Y) (old : List Y) (xs : List X) (i : ℕ) (all : List Y) → IsMade f old xs i all → length xs ≤ i → all ≡ old ++ map f xs
made_all f old xs i all h past = h.same ∙ ap (λ l. old ++ map f l) (take_all i xs past)

-- a column as it is
abbrev pub as_it_is : ColumnDef → ColumnDef
as_it_is c = c

pub map-as_it_is : (cs : List ColumnDef) → map as_it_is cs ≡ cs
map-as_it_is [] = refl
map-as_it_is (c ∷ cs) = ap (λ l. c ∷ l) (map-as_it_is cs)

pub copied_all : (old cs : List ColumnDef) (i : ℕ) (all : List ColumnDef) → IsMade as_it_is old cs i all → length cs ≤ i → all ≡ old ++ cs
copied_all old cs i all h past = made_all as_it_is old cs i all h past ∙ ap (λ l. old ++ l) (map-as_it_is cs)

-- the columns that a loop has put behind the old ones, then those of the rest, are those of all
pub record AreNamed {X : Type 0} (name : X → List ℕ) (old : List ColumnDef) (xs : List X) (ks : List Kind) (i : ℕ) (all : List ColumnDef) : Type 0 where
  pub same : all ++ named_columns name (drop i xs) (drop i ks) ≡ old ++ named_columns name xs ks

drop_past : (ks : List Kind) (i : ℕ) → slice_get ks i ≡ None → drop i ks ≡ []
drop_past [] zero e = refl
drop_past [] (suc i) e = refl
drop_past (k ∷ ks) zero e = absurd cc
drop_past (k ∷ ks) (suc i) e = drop_past ks i e

drop_here : (ks : List Kind) (i : ℕ) (k : Kind) → slice_get ks i ≡ Some k → drop i ks ≡ k ∷ drop (i + 1) ks
drop_here ks i k e = drop_more ks i k (slice_get_within ks i k e) ∙ ap (λ z. z ∷ drop (i + 1) ks) (get_or_from_slice_get ks i k k e)

no_kinds : {X : Type 0} (name : X → List ℕ) (xs : List X) → named_columns name xs [] ≡ []
no_kinds name [] = refl
no_kinds name (x ∷ xs) = refl

pub named_none : {X : Type 0} (name : X → List ℕ) (old : List ColumnDef) (xs : List X) (ks : List Kind) (all : List ColumnDef) → all ≡ old → AreNamed name old xs ks 0 all
named_none name old xs ks all e = record { same = ap (λ l. l ++ named_columns name xs ks) e }

pub named_more : {X : Type 0} (name : X → List ℕ) (old : List ColumnDef) (xs : List X) (ks : List Kind) (i : ℕ) (x : X) (k : Kind) (y : ColumnDef) (all new : List ColumnDef) →
    AreNamed name old xs ks i all → i < length xs → x ≡ get_or xs i x → slice_get ks i ≡ Some k → y ≡ record { name = name x; kind = k } → new ≡ all ++ y ∷ [] → AreNamed name old xs ks (i + 1) new
named_more name old xs ks i x k y all new h low is at of pushed =
    let rest = named_columns name (drop (i + 1) xs) (drop (i + 1) ks) in
    let here : drop i xs ≡ x ∷ drop (i + 1) xs = drop_more xs i x low ∙ ap (λ z. z ∷ drop (i + 1) xs) (sym is) in
    record {
      same = ap (λ l. l ++ rest) pushed
          ∙ append_assoc all (y ∷ []) rest
          ∙ ap (λ z. all ++ z ∷ rest) of
          ∙ ap (λ l. all ++ named_columns name l (k ∷ drop (i + 1) ks)) (sym here)
          ∙ ap (λ l. all ++ named_columns name (drop i xs) l) (sym (drop_here ks i k at))
          ∙ h.same;
    }

pub named_short : {X : Type 0} (name : X → List ℕ) (old : List ColumnDef) (xs : List X) (ks : List Kind) (i : ℕ) (all : List ColumnDef) →
    AreNamed name old xs ks i all → slice_get ks i ≡ None → all ≡ old ++ named_columns name xs ks
named_short name old xs ks i all h none =
    sym (append-nil all)
    ∙ ap (λ l. all ++ l) (sym (no_kinds name (drop i xs)))
    ∙ ap (λ l. all ++ named_columns name (drop i xs) l) (sym (drop_past ks i none))
    ∙ h.same

pub named_all : {X : Type 0} (name : X → List ℕ) (old : List ColumnDef) (xs : List X) (ks : List Kind) (i : ℕ) (all : List ColumnDef) →
    AreNamed name old xs ks i all → length xs ≤ i → all ≡ old ++ named_columns name xs ks
named_all name old xs ks i all h past =
    sym (append-nil all) ∙ ap (λ l. all ++ named_columns name l (drop i ks)) (sym (drop_all i xs past)) ∙ h.same

-- the name of an item, and that of an aggregate
abbrev pub item_name : Item → List ℕ
item_name i = i.name

abbrev pub agg_name : QueryAgg → List ℕ
agg_name a = a.name

-- the columns outside the key so far, then those of the rest, are those of all
pub record IsJoined (left right : List ColumnDef) (key : List ℕ) (i : ℕ) (all : List ColumnDef) : Type 0 where
  pub same : all ++ outside_from i key (drop i right) ≡ left ++ outside_key key right

pub joined_none : (left right : List ColumnDef) (key : List ℕ) (start all : List ColumnDef) → start ≡ [] → all ≡ start ++ left → IsJoined left right key 0 all
joined_none left right key start all e f = record { same = ap (λ l. l ++ outside_key key right) (f ∙ ap (λ l. l ++ left) e) }

outside_at : (right : List ColumnDef) (key : List ℕ) (i : ℕ) (x : ColumnDef) (b : Bool) → i < length right → x ≡ get_or right i x → b ≡ list_any (nat_eq i) key → outside_from i key (drop i right) ≡ cond b (outside_from (suc i) key (drop (i + 1) right)) (x ∷ outside_from (suc i) key (drop (i + 1) right))
outside_at right key i x b low is e =
    ap (outside_from i key) (drop_more right i x low)
    ∙ ap (λ z. outside_from i key (z ∷ drop (i + 1) right)) (sym is)
    ∙ ap (λ t. cond t (outside_from (suc i) key (drop (i + 1) right)) (x ∷ outside_from (suc i) key (drop (i + 1) right))) (sym e)

pub joined_key : (left right : List ColumnDef) (key : List ℕ) (i : ℕ) (x : ColumnDef) (all : List ColumnDef) → IsJoined left right key i all → i < length right → x ≡ get_or right i x → true ≡ list_any (nat_eq i) key → IsJoined left right key (i + 1) all
joined_key left right key i x all h low is e =
    let next : i + 1 ≡ suc i = omega arith in
    record { same = ap (λ n. all ++ outside_from n key (drop (i + 1) right)) next ∙ ap (λ l. all ++ l) (sym (outside_at right key i x true low is e)) ∙ h.same }

pub joined_more : (left right : List ColumnDef) (key : List ℕ) (i : ℕ) (x y : ColumnDef) (all new : List ColumnDef) → IsJoined left right key i all → i < length right → x ≡ get_or right i x → false ≡ list_any (nat_eq i) key → y ≡ x → new ≡ all ++ y ∷ [] → IsJoined left right key (i + 1) new
joined_more left right key i x y all new h low is e of pushed =
    let next : i + 1 ≡ suc i = omega arith in
    let rest = outside_from (suc i) key (drop (i + 1) right) in
    record {
      same = ap (λ n. new ++ outside_from n key (drop (i + 1) right)) next
          ∙ ap (λ l. l ++ rest) pushed
          ∙ append_assoc all (y ∷ []) rest
          ∙ ap (λ z. all ++ z ∷ rest) of
          ∙ ap (λ l. all ++ l) (sym (outside_at right key i x false low is e))
          ∙ h.same;
    }

pub joined_all : (left right : List ColumnDef) (key : List ℕ) (i : ℕ) (all : List ColumnDef) → IsJoined left right key i all → length right ≤ i → all ≡ join_schema left right key
joined_all left right key i all h past = sym (append-nil all) ∙ ap (λ l. all ++ outside_from i key l) (sym (drop_all i right past)) ∙ h.same

-- the columns of averages that a loop has found, then those of the rest, are those of all
pub record AreAveraged (first : ℕ) (aggs : List QueryAgg) (i : ℕ) (found : List ℕ) : Type 0 where
  pub same : found ++ averages_from (first + i) (drop i aggs) ≡ averages_from first aggs

pub averaged_none : (first : ℕ) (aggs : List QueryAgg) (found : List ℕ) → found ≡ [] → AreAveraged first aggs 0 found
averaged_none first aggs found e = let start : first + 0 ≡ first = omega arith in record { same = ap (λ l. l ++ averages_from (first + 0) aggs) e ∙ ap (λ n. averages_from n aggs) start }

averages_at : (first : ℕ) (aggs : List QueryAgg) (i : ℕ) (a : QueryAgg) (b : Bool) → i < length aggs → a ≡ get_or aggs i a → b ≡ is_avg a.fun →
    averages_from (first + i) (drop i aggs) ≡ cond b ((first + i) ∷ averages_from (first + (i + 1)) (drop (i + 1) aggs)) (averages_from (first + (i + 1)) (drop (i + 1) aggs))
averages_at first aggs i a b low is e =
    let next : suc (first + i) ≡ first + (i + 1) = omega arith in
    ap (averages_from (first + i)) (drop_more aggs i a low)
    ∙ ap (λ z. averages_from (first + i) (z ∷ drop (i + 1) aggs)) (sym is)
    ∙ ap (λ t. cond t ((first + i) ∷ averages_from (suc (first + i)) (drop (i + 1) aggs)) (averages_from (suc (first + i)) (drop (i + 1) aggs))) (sym e)
    ∙ ap (λ n. cond b ((first + i) ∷ averages_from n (drop (i + 1) aggs)) (averages_from n (drop (i + 1) aggs))) next

pub averaged_more : (first : ℕ) (aggs : List QueryAgg) (i : ℕ) (a : QueryAgg) (found new : List ℕ) → AreAveraged first aggs i found → i < length aggs → a ≡ get_or aggs i a → true ≡ is_avg a.fun → new ≡ found ++ (first + i) ∷ [] → AreAveraged first aggs (i + 1) new
averaged_more first aggs i a found new h low is e pushed =
    let rest = averages_from (first + (i + 1)) (drop (i + 1) aggs) in
    record { same = ap (λ l. l ++ rest) pushed ∙ append_assoc found ((first + i) ∷ []) rest ∙ ap (λ l. found ++ l) (sym (averages_at first aggs i a true low is e)) ∙ h.same }

pub averaged_past : (first : ℕ) (aggs : List QueryAgg) (i : ℕ) (a : QueryAgg) (found : List ℕ) → AreAveraged first aggs i found → i < length aggs → a ≡ get_or aggs i a → false ≡ is_avg a.fun → AreAveraged first aggs (i + 1) found
averaged_past first aggs i a found h low is e =
    record { same = ap (λ l. found ++ l) (sym (averages_at first aggs i a false low is e)) ∙ h.same }

pub averaged_all : (first : ℕ) (aggs : List QueryAgg) (i : ℕ) (found : List ℕ) → AreAveraged first aggs i found → length aggs ≤ i → found ≡ averages_from first aggs
averaged_all first aggs i found h past = sym (append-nil found) ∙ ap (λ l. found ++ averages_from (first + i) l) (sym (drop_all i aggs past)) ∙ h.same
