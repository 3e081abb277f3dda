-- The lines of a sample hold no line feed.
use Rattle.std.proofs.Common.{◌≢◌, ◌+◌, ◌/◌, ◌%◌, ℕ, Bool, true, false, cond, zero, suc, List, [], ◌∷◌, refl, codes, decimal, arith}
use Rattle.std.specs.Prelude.{◌==◌, nat_lt}
use Rattle.std.specs.List.{concat}
use Rattle.std.specs.Fmt.{digits, digits_onto, digit_glyph}
use Rattle.std.proofs.lemmas.List.Elements.{All-append, All-nil}
use Rattle.wire_lines.specs.Lines.{HasNoLf}
use Rattle.wire_lines.proofs.Cutting.{HasNoLf-one_line}
use Rattle.sample_trades.specs.Lines.{line_of, trade_text}
use Rattle.sample_trades.specs.declared.line.Trade.{Trade}
use Rattle.sample_trades.specs.declared.line.SampleLine.{SampleLine}
use Rattle.sample_trades.specs.declared.line.SampleLine.TheVariants.{Traded, Punctuated}

cons_free : (b : ℕ) (xs : List ℕ) → b ≢ 10 → HasNoLf xs → HasNoLf (b ∷ xs)
cons_free b xs h free zero d low = h
cons_free b xs h free (suc k) d low = free k d (omega arith)

pub one_free : (b : ℕ) → b ≢ 10 → HasNoLf (b ∷ [])
one_free b h = cons_free b [] h (All-nil (λ b. b ≢ 10))

-- a digit is no line feed
glyph_other : (b : Bool) (d : ℕ) → cond b (48 + d) (87 + d) ≢ 10
glyph_other true d e = omega (arith, e)
glyph_other false d e = omega (arith, e)

either : (b : Bool) (xs ys : List ℕ) → HasNoLf xs → HasNoLf ys → HasNoLf (cond b xs ys)
either true xs ys h k = h
either false xs ys h k = k

onto_free : (k n : ℕ) (acc : List ℕ) → HasNoLf acc → HasNoLf (digits_onto k 10 false n acc)
onto_free zero n acc free = free
onto_free (suc k) n acc free =
    let more = cons_free (digit_glyph false (n % 10)) acc (glyph_other (nat_lt (n % 10) 10) (n % 10)) free in
    either (n / 10 == 0) (digit_glyph false (n % 10) ∷ acc) (digits_onto k 10 false (n / 10) (digit_glyph false (n % 10) ∷ acc)) more (onto_free k (n / 10) (digit_glyph false (n % 10) ∷ acc) more)

decimal_free : (n : ℕ) → HasNoLf (decimal n)
unfolding digits
decimal_free n = onto_free 64 n [] (All-nil (λ b. b ≢ 10))

abbrev EachFree : List (List ℕ) → Type 0
EachFree [] = Unit {0}
EachFree (x ∷ xs) = HasNoLf x × EachFree xs

concat_free : (xs : List (List ℕ)) → EachFree xs → HasNoLf (concat xs)
concat_free [] each = All-nil (λ b. b ≢ 10)
concat_free (x ∷ xs) each = All-append (λ b. b ≢ 10) x (concat xs) each.0 (concat_free xs each.1)

comma_free : HasNoLf (codes ",")
comma_free = HasNoLf-one_line (codes ",") refl

trade_free : (t : Trade) → HasNoLf (trade_text t)
trade_free t = concat_free (codes "trades,interval," ∷ decimal t.start ∷ codes "," ∷ decimal t.end ∷ codes "," ∷ decimal t.id ∷ codes ",S" ∷ decimal t.symbol ∷ codes "," ∷ decimal t.price ∷ codes "," ∷ decimal t.quantity ∷ []) (
  HasNoLf-one_line (codes "trades,interval,") refl,
  (
    decimal_free t.start,
    (
      comma_free,
      (
        decimal_free t.end,
        (
          comma_free,
          (
            decimal_free t.id,
            (
              HasNoLf-one_line (codes ",S") refl,
              (
                decimal_free t.symbol,
                (comma_free, (decimal_free t.price, (comma_free, (decimal_free t.quantity, tt)))),
              ),
            ),
          ),
        ),
      ),
    ),
  ),
)

pub line_free : (line : SampleLine) → HasNoLf (line_of line)
line_free (Traded trade) = trade_free trade
line_free (Punctuated time) = All-append (λ b. b ≢ 10) (codes "*,punct,") (decimal time) (HasNoLf-one_line (codes "*,punct,") refl) (decimal_free time)
