-- What is formed, and has the values that its types keep, has a text.
use Rattle.std.proofs.Common.{◌≡◌, ◌<◌, ◌≤◌, ◌+◌, ◌^◌, ℕ, List, [], ◌∷◌, length, map, take, get_or, refl, sym, ◌∙◌, subst, arith}
use Rattle.std.specs.Prelude.{All}
use Rattle.std.proofs.lemmas.List.{take_all, get_or_default}
use Rattle.std.proofs.lemmas.List.Elements.{All-append}
use Rattle.std.proofs.lemmas.Option.{slice_get_read}
use Rattle.tw_rows.specs.Cells.{datum_kind}
use Rattle.tw_rows.specs.declared.cells.Datum.{Datum}
use Rattle.edge_stream.specs.declared.saved.SavedEntry.{SavedEntry}
use Rattle.plan_model.specs.IsPlan.{PlanParts}
use Rattle.admission.specs.declared.policy.Policy.{Policy}
use Rattle.frozen_state.specs.declared.frozen.FrozenPart.{FrozenPart}
use Rattle.frozen_state.specs.Frozen.{FrozenView}
use Rattle.frozen_state.specs.Forms.{PartFormView, part_forms}
use Rattle.frozen_state.specs.Formed.{IsStoredIn, ArePartsOf, IsFormed}
use Rattle.checkpoint.specs.Lines.{IsOwner, AreCells}
use Rattle.checkpoint.specs.Form.{form_of}
use Rattle.checkpoint.specs.Text.{HasLine, ArePartsWith, IsOfForm}
use Rattle.checkpoint.specs.Values.{IsDatum, IsEntryValue, IsPartValue, IsFrozenValue}
use Rattle.checkpoint.proofs.Entries.{one, first_of, others_of}
use Rattle.checkpoint.proofs.Growing.{taken_more}

-- one more of a list that is gone through
pub all_more : {X : Type 0} (P : X → Type 0) (xs : List X) (i : ℕ) (x : X) → i < length xs → x ≡ get_or xs i x → P x → All P (take i xs) → All P (take (i + 1) xs)
all_more P xs i x low is p h = subst (All P) (sym (taken_more xs i x (slice_get_read xs _ i x refl low is))) (All-append P (take i xs) (x ∷ []) h (one P x p))

-- the same of what stands there
pub all_more_at : {X : Type 0} (P : X → Type 0) (xs : List X) (i : ℕ) (d : X) → i < length xs → P (get_or xs i d) → All P (take i xs) → All P (take (i + 1) xs)
all_more_at P xs i d low p h = all_more P xs i (get_or xs i d) low (get_or_default xs i d (get_or xs i d) low) p h

-- and all of it
pub all_of : {X : Type 0} (P : X → Type 0) (xs : List X) (n : ℕ) → length xs ≤ n → All P (take n xs) → All P xs
all_of P xs n low h = subst (All P) (take_all n xs low) h

cells_are : (cells : List Datum) → All IsDatum cells → AreCells (map datum_kind cells) cells
cells_are [] h = tt
cells_are (d ∷ ds) h = (first_of IsDatum d ds h, cells_are ds (others_of IsDatum d ds h))

entries_have : (g : PartFormView) (es : List SavedEntry) → IsOwner g.owner → g.shard < 2 ^ 64 → All (IsStoredIn g.rows) es → All IsEntryValue es → All (HasLine g) es
entries_have g es owner shard stored values = λ n d low.
    let e = get_or es n d in
    let v = values n d low in
    record {
      kinds = map datum_kind e.cells;
      known = stored n d low;
      entry = record { owner = owner; shard = shard; part = v.part; sync = v.sync; other = v.other; cells = cells_are e.cells v.cells };
    }

parts_have : (gs : List PartFormView) (ps : List FrozenPart) → ArePartsOf gs ps → All IsPartValue ps → ArePartsWith gs ps
parts_have [] [] are values = tt
parts_have [] (p ∷ ps) are values = absurd are
parts_have (g ∷ gs) [] are values = absurd are
parts_have (g ∷ gs) (p ∷ ps) are values =
    let v = first_of IsPartValue p ps values in (
      record {
        owner = are.0.owner;
        shard = are.0.shard;
        entries = entries_have g p.saved (subst IsOwner are.0.owner v.owner) (subst (λ (n : ℕ). n < 2 ^ 64) are.0.shard v.shard) are.0.stored v.entries;
      },
      parts_have gs ps are.1 (others_of IsPartValue p ps values),
    )

pub has_text : (query : List ℕ) (workers : ℕ) (policy : Policy) (plan : PlanParts) (f : FrozenView) → IsFormed workers plan f → f.lines ≤ 2 ^ 62 → IsFrozenValue f →
    IsOfForm (form_of query workers policy plan) f
has_text query workers policy plan f formed few values = record {
  read = record {
    times = (few, values.last);
    bounds = values.bounds;
    marks = values.marks;
    paired = formed.marks ∙ sym formed.bounds;
    few = omega (arith, formed.bounds);
    texts = λ n d low. record {
      is_utf8 = values.texts n d low;
      no_return = (formed.one_line n d low).no_return;
      no_feed = (formed.one_line n d low).no_feed;
    };
    parts = parts_have (part_forms workers plan) f.parts formed.parts values.parts;
  };
  all = formed.bounds;
}
