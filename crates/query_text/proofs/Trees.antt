-- A node behind those of a tree.
use Rattle.std.proofs.Common.{◌≡◌, ℕ, suc, ◌+◌, List, [], ◌∷◌, ◌++◌, length, subst, arith}
use Rattle.query_text.specs.declared.tree.TreeNode.{TreeNode}
use Rattle.query_text.specs.IsTree.{IsTreeNode, AreTreeNodes}

pushed-from : (i : ℕ) (ns : List TreeNode) (n : TreeNode) → AreTreeNodes i ns → IsTreeNode (i + length ns) n → AreTreeNodes i (ns ++ n ∷ [])
pushed-from i [] n rule last = let same : i + 0 ≡ i = omega arith in (subst (λ k. IsTreeNode k n) same last, tt)
pushed-from i (m ∷ ns) n rule last =
    let same : i + suc (length ns) ≡ suc i + length ns = omega arith in
    (rule.0, pushed-from (suc i) ns n rule.1 (subst (λ k. IsTreeNode k n) same last))

pub pushed : (ns : List TreeNode) (n : TreeNode) → AreTreeNodes 0 ns → IsTreeNode (length ns) n → AreTreeNodes 0 (ns ++ n ∷ [])
pushed ns n rule last = let same : length ns ≡ 0 + length ns = omega arith in pushed-from 0 ns n rule (subst (λ k. IsTreeNode k n) same last)
