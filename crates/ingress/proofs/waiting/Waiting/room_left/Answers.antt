use Rattle.std.proofs.Common.{refl}
use Rattle.ingress.proofs.Below.{no_room, room_none, room_some, if_some}
use Rattle.ingress.proofs.waiting.Waiting.room_left.Goals as goal

pub returns-in_err-rest-clause-none : goal.returns-in_err-rest-clause-none
returns-in_err-rest-clause-none c = λ _.
    no_room c.self.inside.queue.edges c.self.inside.others c.args.self.now c.self.view_is c.args.from c.args.to c.requires c.args.room (c.in_err-rest.ensures.none refl)

pub returns-clause-some : goal.returns-clause-some
returns-clause-some c =
    if_some c.room_left-2.result _ _
    (room_some c.self.inside.queue.edges c.self.inside.others c.args.self.now c.self.view_is c.args.from c.args.to c.requires c.args.room c.in_ok-rest.rest c.in_ok-rest.ensures.some)
    c.room_left-2.ensures.some

pub returns-clause-none : goal.returns-clause-none
returns-clause-none c = λ none.
    room_none c.self.inside.queue.edges c.self.inside.others c.args.self.now c.self.view_is c.args.from c.args.to c.requires c.args.room c.in_ok-rest.rest c.in_ok-rest.ensures.some
    (c.room_left-2.ensures.none none)
