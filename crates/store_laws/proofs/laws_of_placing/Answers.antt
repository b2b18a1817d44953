use Rattle.store_laws.proofs.Placements.{placing, reading}
use Rattle.store_laws.proofs.laws_of_placing.Goals as goal

pub returns : goal.returns
returns c = record { placing = placing; reading = reading }
