use Rattle.std.proofs.Common.{◌≡◌, ◌≢◌, ◌<◌, ◌∙◌, ◌++◌, ◌∷◌, [], ℕ, List, Option, Some, None, true, false, length, take, get_or, add-one, sym, ap, subst, arith, rules}
use Rattle.std.proofs.Math.Seq.{take-suc}
use Rattle.std.proofs.lemmas.List.{length-take-le, get_or-take}
use Rattle.std.proofs.lemmas.Option.{slice_get_within, get_or_from_slice_get}
use Rattle.std.specs.Prelude.{slice_get, Contains, AllPairs, is_some, IfSome, IsNone}
use Rattle.tw_rows.proofs.TextTables.{interned-new}
use Rattle.tempo_engine.proofs.table.table_of.Goals as goal

twice : (labels : List (List ℕ)) (i id : ℕ) (text : List ℕ) → i < length labels → text ≡ get_or labels i text → slice_get (take i labels) id ≡ Some text → AllPairs (λ a b. a ≢ b) labels → ⊥
twice labels i id text low is here apart =
    let within : id < i = (let w = slice_get_within (take i labels) id text here in let n = length-take-le i labels (omega (arith, low)) in omega (arith, w, n)) in
    apart id i text within low (sym (get_or-take i labels id text within) ∙ get_or_from_slice_get (take i labels) id text text here ∙ is)

found_twice : (labels : List (List ℕ)) (i : ℕ) (text : List ℕ) (found : Option ℕ) → i < length labels → text ≡ get_or labels i text → is_some found ≡ true →
    IfSome found (λ id. slice_get (take i labels) id ≡ Some text) → AllPairs (λ a b. a ≢ b) labels → ⊥
found_twice labels i text (Some id) low is some here apart = twice labels i id text low is here apart
found_twice labels i text None low is some here apart = absurd (cc)

none_found : (found : Option ℕ) → is_some found ≡ false → IsNone found
none_found (Some id) none = absurd (cc)
none_found None none = search rules

pub loop-label-preserved : goal.loop-label-preserved
loop-label-preserved c =
    let labels = c.args.labels.now in
    let i = c.loop-label.label-index in
    let text = c.label-item.result in
    let absent = c.find.ensures.none.0 (none_found c.find.result (sym c.is_some.ensures ∙ c.if-is_some.false)) in
    rw add-one (record {
      so_far = c.in_ok-intern.ensures.table ∙ interned-new c.loop-label.texts c.as_str-in-loop-label.result.now (subst (λ (t : List ℕ). Contains c.loop-label.texts t → ⊥) (c.as_str.ensures ∙ sym c.as_str-in-loop-label.ensures) absent)
          ∙ ap (λ l. l ++ c.as_str-in-loop-label.result.now ∷ []) c.loop-label.invariant.so_far ∙ ap (λ t. take i labels ++ t ∷ []) (c.as_str-in-loop-label.ensures ∙ c.label-item.is) ∙ sym (take-suc labels i text c.loop-label-test.true);
      distinct = c.intern.ensures.distinct;
    })

pub returns-then-is_some-clause-none : goal.returns-then-is_some-clause-none
returns-then-is_some-clause-none c = λ none apart.
    let labels = c.args.labels.now in
    let i = c.loop-label.label-index in
    let text = c.label-item.result in
    found_twice labels i text c.find.result c.loop-label-test.true c.label-item.is (sym c.is_some.ensures ∙ c.if-is_some.true) (subst (λ t. IfSome c.find.result (λ id. slice_get (take i labels) id ≡ Some t)) c.as_str.ensures (subst (λ l. IfSome c.find.result (λ id. slice_get l id ≡ Some c.as_str.result.now)) c.loop-label.invariant.so_far c.find.ensures.some)) apart
