-- The number falls at each call.
use Rattle.lines.proofs.print.+lay_digits.Given as goal

abbrev pub decreases-lay_digits : goal.decreases-lay_digits
decreases-lay_digits l = l.x
