-- What the reader of words does at a symbol.
use Rattle.std.specs.Prelude.{◌≡◌, ℕ, suc, nat_lt, if◌then◌else◌, List, [], ◌∷◌, ◌++◌, Bool, true, false, cond, Option, Some, None, option_map}
use Rattle.query_text.specs.declared.symbol.Symbol.{Symbol}
use Rattle.query_text.specs.declared.stack.Taken.{Taken}
use Rattle.query_text.specs.declared.stack.Taken.TheVariants as R
use Rattle.query_text.specs.declared.word.Spot.{Spot}
use Rattle.query_text.specs.declared.kind.Kind.{Kind}
use Rattle.query_text.specs.Token.{word_kind, in_expressions}
use Rattle.query_text.specs.Machine.{Choice, take, skip, no, after, all_may_end}

-- the reader did what was chosen, which left this stack
abbrev pub Did : Choice → Taken → List Symbol → List Symbol → Type 0
Did (take g) R.Word old new = new ≡ g ++ old
Did (take g) _ old new = ⊥
Did skip R.Nothing old new = new ≡ old
Did skip _ old new = ⊥
Did no R.Stop old new = Unit {0}
Did no _ old new = ⊥

-- a word was taken, and this stack is left
abbrev pub TookWord : Taken → List Symbol → List Symbol → Type 0
TookWord taken new left = (taken ≡ R.Word) × (new ≡ left)

-- whether the token was read, and the stack after it
abbrev pub Reads : Bool → Option (List Symbol) → List Symbol → Type 0
Reads true found new = found ≡ Some new
Reads false found new = found ≡ None

abbrev pub place_then : (List Symbol → Option ℕ) → Option (List Symbol) → Option ℕ
place_then go None = Some 0
place_then go (Some k) = option_map (λ n. suc n) (go k)

-- How many tokens come before the first that can't come; none where all are read and nothing is missing.
unfoldable pub place : List Symbol → List Kind → Option ℕ
place k [] = cond (all_may_end k) None (Some 0)
place k (t ∷ ts) = place_then (λ k'. place k' ts) (after k t)

-- the kind of the word
abbrev pub spot_kind : Spot → Kind
spot_kind spot = word_kind spot.word

-- how many words of expressions stand together up to this one, n before it
abbrev pub run_after : ℕ → Kind → ℕ
run_after n k = if in_expressions k then suc n else 0

-- The first word up to which more than 200 words of expressions stand together, after n of them.
unfoldable pub first_long : ℕ → List Kind → Option ℕ
first_long n [] = None
first_long n (k ∷ ks) = if nat_lt 200 (run_after n k) then Some 0 else option_map (λ i. suc i) (first_long (run_after n k) ks)
