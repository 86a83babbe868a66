-- `view::show::say_indent` is safe and ends. The measure is the steps that are left.
use Rattle.view.proofs.show.say_indent.Given as goal

abbrev pub decreases-loop-left : goal.decreases-loop-left
decreases-loop-left l = l.left
