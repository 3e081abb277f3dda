-- The rule of a list is the order of a history.
use Rattle.std.specs.Prelude.{◌≡◌, ◌↔◌, List, IsTrue}
use Rattle.std.specs.List.{AllByRecursion}
use Rattle.std.proofs.Common.{[], ◌∷◌, arith}
use Rattle.std.proofs.lemmas.Bool.Decides.{nat_tests}
use Rattle.std.proofs.lemmas.List.Elements.{All-from_recursion, recursion_from_All}
use Rattle.tw_rows.specs.declared.edge.Edge.{Edge}
use Rattle.edge_history.specs.Order.{Rises, failing, is_real, IsReal, KeepsOrder}
use Rattle.edge_history.proofs.Sums.{failing-All}

test_passes : (e : Edge) → IsReal e → IsTrue (is_real e)
test_passes e h = let a = h.instant in let b = h.bounded in let c = h.apart in grind (arith, nat_tests)

passes_test : (e : Edge) → IsTrue (is_real e) → IsReal e
passes_test e h = record { instant = grind (arith, nat_tests); bounded = grind (arith, nat_tests); apart = λ same. grind (arith, nat_tests) }

all_pass : (es : List Edge) → AllByRecursion IsReal es → AllByRecursion (λ e. IsTrue (is_real e)) es
all_pass [] h = tt
all_pass (e ∷ es) h = (test_passes e h.0, all_pass es h.1)

pass_all : (es : List Edge) → AllByRecursion (λ e. IsTrue (is_real e)) es → AllByRecursion IsReal es
pass_all [] h = tt
pass_all (e ∷ es) h = (passes_test e h.0, pass_all es h.1)

pub same_order : (es : List Edge) → KeepsOrder es ↔ (Rises 0 es × (failing is_real es ≡ 0))
same_order es = (
  λ h. (h.rises, (failing-All is_real es).1 (All-from_recursion (λ e. IsTrue (is_real e)) es (all_pass es (recursion_from_All IsReal es h.real)))),
  λ h. record { rises = h.0; real = All-from_recursion IsReal es (pass_all es (recursion_from_All (λ e. IsTrue (is_real e)) es ((failing-All is_real es).0 h.1))) },
)
