use Rattle.std.proofs.Common.{◌≡◌, ◌∙◌, ◌++◌, ◌∷◌, [], length, ap, sym, arith, append_assoc, append-nil}
use Rattle.std.specs.Option.{is_some, option_to_list}
use Rattle.edge_stream.specs.Entries.{entries_of, entry_of}
use Rattle.ingress.proofs.saving.save_queue.Goals as goal

pub edges-init : goal.edges-init
edges-init c = ap (λ u. c.args.saved.now ++ entries_of c.args.part u.edges) c.cursor-cursor.ensures.cursor

pub edges-preserved : goal.edges-preserved
edges-preserved c =
    let is : c.edges.cursor.edges ≡ c.in-Some.edge ∷ c.next.new.self.edges = c.in_ok-edge.ensures.edges ∙ ap (λ o. option_to_list o ++ c.next.new.self.edges) c.in-Some.is in
    let rest = entries_of c.args.part c.next.new.self.edges in
    ap (λ l. l ++ rest) c.in_ok-push.ensures.ok ∙ append_assoc c.edges.saved (entry_of c.args.part c.in-Some.edge ∷ []) rest
    ∙ ap (λ es. c.edges.saved ++ entries_of c.args.part es) (sym is) ∙ c.edges.invariant

pub edges-smaller : goal.edges-smaller
edges-smaller c =
    let is : c.edges.cursor.edges ≡ c.in-Some.edge ∷ c.next.new.self.edges = c.in_ok-edge.ensures.edges ∙ ap (λ o. option_to_list o ++ c.next.new.self.edges) c.in-Some.is in
    omega (arith, ap length is)

pub returns : goal.returns
returns c =
    let end : c.edges.cursor.edges ≡ [] = c.in_ok-edge.ensures.end.0 (ap is_some c.in_default.is) in
    sym (append-nil c.edges.saved) ∙ ap (λ es. c.edges.saved ++ entries_of c.args.part es) (sym end) ∙ c.edges.invariant
