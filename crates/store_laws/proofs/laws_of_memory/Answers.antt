use Rattle.store_laws.proofs.Listings.{listing}
use Rattle.store_laws.proofs.Divisions.{whole-objects}
use Rattle.store_laws.proofs.laws_of_memory.Goals as goal

pub returns : goal.returns
returns c = record { objects = whole-objects; list = listing }
