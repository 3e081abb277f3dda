use Rattle.temporal_join.proofs.LivePassing.{side_now, side_passed}
use Rattle.temporal_join.proofs.LiveSwept.{lives_swept}
use Rattle.temporal_join.proofs.few.JoinLives.pass.Goals as goal

pub returns-clause-passed : goal.returns-clause-passed
returns-clause-passed c = λ low.
    let s = c.args.self.now in
    let t = c.args.t in
    let nl = c.args.now_left.now in
    let nr = c.args.now_right.now in
    let el = c.in_ok-end_lives.ensures.told in
    let er = c.in_ok-end_lives-2.ensures.told in
    let sl = c.in_ok-start_lives.ensures.told in
    let sr = c.in_ok-start_lives-2.ensures.told in
    let l0 = s.left in
    let l1 = c.end_lives.new.own in
    let l2 = c.start_lives.new.own in
    let r0 = s.right in
    let r1 = c.end_lives-2.new.own in
    let r2 = c.start_lives-2.new.own in
    record {
      left_now = side_now t low nl c.requires.left l0.lives l1.lives l2.lives el.ended sl.begun el.at el.lasting el.parts sl.are sl.parts;
      right_now = side_now t low nr c.requires.right r0.lives r1.lives r2.lives er.ended sr.begun er.at er.lasting er.parts sr.are sr.parts;
      left = side_passed t low nl c.requires.left l0.lives l1.lives l2.lives el.ended sl.begun el.at el.lasting el.parts sl.are sl.parts;
      right = side_passed t low nr c.requires.right r0.lives r1.lives r2.lives er.ended sr.begun er.at er.lasting er.parts sr.are sr.parts;
      swept = λ a b by la lb il ir h.
          lives_swept s.left_key.items s.right_key.items c.as_slice.result.now c.as_slice-2.result.now c.as_slice-3.result.now c.as_slice-4.result.now
          c.as_slice.ensures.value c.as_slice-2.ensures.value c.as_slice-3.ensures.value c.as_slice-4.ensures.value t low nl nr c.requires.left c.requires.right
          l0 l1 l2 r0 r1 r2 c.args.answer.now.items c.end_lives.new.answer.items c.end_lives-2.new.answer.items c.start_lives.new.answer.items c.start_lives-2.new.answer.items
          el.ended sl.begun er.ended sr.begun el.at el.lasting el.parts er.at er.lasting er.parts sl.are sl.parts sr.are sr.parts el.told er.told sl.told sr.told
          c.in_ok-end_lives.ensures.columns c.in_ok-end_lives-2.ensures.columns c.in_ok-start_lives.ensures.columns by.left by.right a b la lb il ir h;
    }
