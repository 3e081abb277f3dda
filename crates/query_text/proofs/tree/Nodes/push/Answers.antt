use Rattle.std.proofs.Common.{length, subst, sym}
use Rattle.query_text.specs.IsTree.{IsTreeNode, AreTreeNodes}
use Rattle.query_text.proofs.Trees.{pushed}
use Rattle.query_text.proofs.tree.Nodes.push.Goals as goal

pub invariant_of-self-2 : goal.invariant_of-self-2
invariant_of-self-2 c = subst (λ ns. AreTreeNodes 0 ns) (sym c.in_ok-push.ensures.items) (pushed _ _ c.self.invariant (subst (λ ns. IsTreeNode (length ns) c.args.node) (sym c.self.view_is) c.requires))
