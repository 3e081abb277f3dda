-- The order of values and rows is total, and what it calls equal is equal.
use Rattle.std.specs.Prelude.{◌≡◌, ◌↔◌, ℕ, ℤ, pos, List, [], Bool, true, false, refl}
use Rattle.std.proofs.Common.{sym, ◌∙◌, ap, subst}
use Rattle.std.specs.Cmp.{IsTotalOrder, tied_itself, on_total, then_total, nat_cmp_total, int_cmp_total, bool_cmp_total}
use Rattle.std.specs.Cmp.Lexicographic.{slice_cmp, nat_list_cmp_total, lists_total}
use Rattle.std.specs.Ordering.{nat_cmp, int_cmp, bool_cmp, on, then_cmp, ordering_then}
use Rattle.std.specs.FinMap.{IsAntisymmetric, nat_cmp-IsAntisymmetric, int_cmp-IsAntisymmetric, slice_cmp-IsAntisymmetric}
use Rattle.std.specs.declared.cmp.Ordering.{Ordering}
use Rattle.std.specs.declared.cmp.Ordering.TheVariants.{Less, Equal, Greater}
use Rattle.tw_rows.specs.declared.row.Value.{Value}
use Rattle.tw_rows.specs.declared.row.Value.TheVariants.{Int, Bool as Flag, Text}
use Rattle.tw_rows.specs.Rows.{Row, value_cmp, row_cmp}

abbrev kind_number : Value → ℕ
kind_number (Int x) = 0
kind_number (Flag b) = 1
kind_number (Text t) = 2

abbrev int_part : Value → ℤ
int_part (Int x) = x
int_part (Flag b) = pos 0
int_part (Text t) = pos 0

abbrev flag_part : Value → Bool
flag_part (Int x) = false
flag_part (Flag b) = b
flag_part (Text t) = false

abbrev text_part : Value → List ℕ
text_part (Int x) = []
text_part (Flag b) = []
text_part (Text t) = t

-- by kind, and then by what the value is
abbrev by_parts : Value → Value → Ordering
by_parts = then_cmp (on kind_number nat_cmp) (then_cmp (on int_part int_cmp) (then_cmp (on flag_part bool_cmp) (on text_part (slice_cmp nat_cmp))))

by_parts_total : IsTotalOrder by_parts
by_parts_total = then_total (on_total kind_number nat_cmp_total) (then_total (on_total int_part int_cmp_total) (then_total (on_total flag_part bool_cmp_total) (on_total text_part nat_list_cmp_total)))

value_cmp-by_parts : (a b : Value) → value_cmp a b ≡ by_parts a b
value_cmp-by_parts (Int x) (Int y) = ends (int_cmp x y)
  where
    ends : (o : Ordering) → o ≡ ordering_then o Equal
    ends Less = refl
    ends Equal = refl
    ends Greater = refl
value_cmp-by_parts (Int x) (Flag b) = refl
value_cmp-by_parts (Int x) (Text t) = refl
value_cmp-by_parts (Flag a) (Int y) = refl
value_cmp-by_parts (Flag a) (Flag b) = ends (bool_cmp a b)
  where
    ends : (o : Ordering) → o ≡ ordering_then o Equal
    ends Less = refl
    ends Equal = refl
    ends Greater = refl
value_cmp-by_parts (Flag a) (Text t) = refl
value_cmp-by_parts (Text s) (Int y) = refl
value_cmp-by_parts (Text s) (Flag b) = refl
value_cmp-by_parts (Text s) (Text t) = refl

same_order_total : {K : Type 0} (R S : K → K → Ordering) → ((x y : K) → R x y ≡ S x y) → IsTotalOrder S → IsTotalOrder R
same_order_total R S same s = subst IsTotalOrder (λ i x y. sym (same x y) i) s

pub value_cmp_total : IsTotalOrder value_cmp
value_cmp_total = same_order_total value_cmp by_parts value_cmp-by_parts by_parts_total

pub row_cmp_total : IsTotalOrder row_cmp
row_cmp_total = lists_total value_cmp_total

-- values that compare as equal are equal
pub value_cmp-IsAntisymmetric : IsAntisymmetric value_cmp
value_cmp-IsAntisymmetric (Int x) (Int y) e = ap Int (int_cmp-IsAntisymmetric x y e)
value_cmp-IsAntisymmetric (Int x) (Flag b) e = absurd (cc)
value_cmp-IsAntisymmetric (Int x) (Text t) e = absurd (cc)
value_cmp-IsAntisymmetric (Flag a) (Int y) e = absurd (cc)
value_cmp-IsAntisymmetric (Flag false) (Flag false) e = refl
value_cmp-IsAntisymmetric (Flag false) (Flag true) e = absurd (cc)
value_cmp-IsAntisymmetric (Flag true) (Flag false) e = absurd (cc)
value_cmp-IsAntisymmetric (Flag true) (Flag true) e = refl
value_cmp-IsAntisymmetric (Flag a) (Text t) e = absurd (cc)
value_cmp-IsAntisymmetric (Text s) (Int y) e = absurd (cc)
value_cmp-IsAntisymmetric (Text s) (Flag b) e = absurd (cc)
value_cmp-IsAntisymmetric (Text s) (Text t) e = ap Text (slice_cmp-IsAntisymmetric nat_cmp-IsAntisymmetric s t e)

-- rows that compare as equal are equal
pub row_cmp-IsAntisymmetric : IsAntisymmetric row_cmp
row_cmp-IsAntisymmetric = slice_cmp-IsAntisymmetric value_cmp-IsAntisymmetric

-- the two together: rows compare as equal exactly where they are equal
pub row_cmp_equal : (a b : Row) → (row_cmp a b ≡ Equal) ↔ (a ≡ b)
row_cmp_equal a b = (row_cmp-IsAntisymmetric a b, λ e. ap (row_cmp a) (sym e) ∙ tied_itself row_cmp_total a)
