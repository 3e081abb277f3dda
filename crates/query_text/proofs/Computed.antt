-- Words that are told by hand.
use Rattle.std.proofs.Common.{◌≡◌, ℕ, codes, refl, inl, inr, arith, lit<, lit≤}
use Rattle.query_text.specs.declared.word.Sign.TheVariants as S
use Rattle.query_text.specs.declared.word.Word.TheVariants as W
use Rattle.query_text.specs.Words.{front_of, quoted_rest}
use Rattle.query_text.specs.Spots.{is_inside}
use Rattle.query_text.specs.Forms.{IsNumberForm, IsWord}

name_of_two : IsWord (codes "_1") (W.Name 2)
name_of_two = record { form = record { first = refl; all = refl }; size = refl; short = lit≤ tt; free = refl }

upper_case : IsWord (codes "Join") (W.Name 4)
upper_case = record { form = record { first = refl; all = refl }; size = refl; short = lit≤ tt; free = refl }

reserved_word : IsWord (codes "join") (W.Fixed S.Join)
reserved_word = inl refl

sign_of_two : IsWord (codes "<=") (W.Fixed S.LessEqual)
sign_of_two = inr refl

greatest : IsWord (codes "9223372036854775807") (W.Number 9223372036854775807)
greatest = record { form = record { some = lit< tt; all = refl; zero_alone = λ e. cc }; spells = refl; fits = lit< tt }

two_quotes : IsWord (codes "'it''s'") (W.Quoted 7)
unfolding is_inside
two_quotes = (record { inner = codes "it''s"; quoted = refl; inside = refl }, refl)

no_leading_zero : IsNumberForm (codes "00") → ⊥
no_leading_zero h = absurd (let e : ◌≡◌ {A = ℕ} 2 1 = h.zero_alone refl in omega arith)

longest_sign : front_of (codes "<=b") ≡ (W.Fixed S.LessEqual, 2)
unfolding front_of
longest_sign = refl

zero_stands_alone : front_of (codes "00") ≡ (W.Number 0, 1)
unfolding front_of
zero_stands_alone = refl

open_text : front_of (codes "'a''") ≡ (W.Bad, 4)
unfolding front_of quoted_rest
open_text = refl

no_end : front_of (codes "'it''s") ≡ (W.Bad, 6)
unfolding front_of quoted_rest
no_end = refl

two_decimals : front_of (codes "1.50") ≡ (W.Decimal 150 2, 4)
unfolding front_of
two_decimals = refl

small_decimal : front_of (codes "0.05x") ≡ (W.Decimal 5 2, 4)
unfolding front_of
small_decimal = refl

no_fraction : front_of (codes "1.") ≡ (W.Number 1, 1)
unfolding front_of
no_fraction = refl

most_places : front_of (codes "0.123456789012345678") ≡ (W.Decimal 123456789012345678 18, 20)
unfolding front_of
most_places = refl

too_many_places : front_of (codes "0.1234567890123456789") ≡ (W.Bad, 21)
unfolding front_of
too_many_places = refl

too_many_units : front_of (codes "92233720368547758.08") ≡ (W.Bad, 20)
unfolding front_of
too_many_units = refl

past_greatest : front_of (codes "9223372036854775808 1") ≡ (W.Bad, 19)
unfolding front_of
past_greatest = refl
