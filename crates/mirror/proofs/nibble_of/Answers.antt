use Rattle.mirror.proofs.Decoding.{size-sound}
use Rattle.mirror.proofs.nibble_of.Goals as goal

pub second_nibble-requires : goal.second_nibble-requires
second_nibble-requires c = size-sound c.args.c c.requires
