-- An answer leaves the limits of a cutter as they were.
use Rattle.std.proofs.Common.{◌≡◌, ◌-◌, refl}
use Rattle.wire_lines.specs.Cutter.{CutterState}
use Rattle.wire_lines.specs.Found.{found}
use Rattle.wire_lines.specs.Next.{after_found, after_next}
use Rattle.wire_lines.specs.declared.cutter.Found.{Found}
use Rattle.wire_lines.specs.declared.cutter.Found.TheVariants.{TooLong, Line, TooMany, More}

longest_stays : (s : CutterState) (f : Found) → (after_found s f).longest ≡ s.longest
longest_stays s TooLong = refl
longest_stays s (Line n) = refl
longest_stays s TooMany = refl
longest_stays s More = refl

total_stays : (s : CutterState) (f : Found) → (after_found s f).total ≡ s.total
total_stays s TooLong = refl
total_stays s (Line n) = refl
total_stays s TooMany = refl
total_stays s More = refl

pub after_next-longest : (s : CutterState) → (after_next s).longest ≡ s.longest
after_next-longest s = longest_stays s (found s.longest (s.total - s.passed) s.rest)

pub after_next-total : (s : CutterState) → (after_next s).total ≡ s.total
after_next-total s = total_stays s (found s.longest (s.total - s.passed) s.rest)
