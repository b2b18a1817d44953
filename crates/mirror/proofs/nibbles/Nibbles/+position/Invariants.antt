use Rattle.mirror.proofs.nibbles.Nibbles.+position.Given as goal

abbrev pub decreases-position : goal.decreases-position
decreases-position l = l.i
