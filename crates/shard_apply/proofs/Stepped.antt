-- What a shard owes of a step, where its edges are named otherwise.
use Rattle.std.specs.Prelude.{◌≡◌, ℕ, Bool, false, is_err, List, Result, Ok, Err, OnOk}
use Rattle.std.proofs.Common.{subst}
use Rattle.tw_rows.specs.declared.edge.Edge.{Edge}
use Rattle.edge_stream.specs.Listing.{EdgeListView}
use Rattle.edge_stream.specs.declared.saved.StepFault.{StepFault}
use Rattle.edge_stream.specs.Standing.{Standing, Keeping}
use Rattle.shard_apply.specs.Stepping.{HasStepped}

pub works_where_ok : {A E : Type 0} (r : Result A E) (failed : Bool) → failed ≡ is_err r → OnOk r (failed ≡ false)
works_where_ok (Ok a) failed is = is
works_where_ok (Err e) failed is = tt

pub stepped_with : (old new : Standing) (before after : Keeping) (left l right r : List Edge) (u v : ℕ) (answer : Result EdgeListView StepFault) →
    l ≡ left → r ≡ right → HasStepped old new before after l r u v answer → HasStepped old new before after left right u v answer
stepped_with old new before after left l right r u v answer a b h =
    subst (λ x. HasStepped old new before after x right u v answer) a (subst (λ x. HasStepped old new before after l x u v answer) b h)
