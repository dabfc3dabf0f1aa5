use Rattle.block_space.proofs.Leaving.{block_there, less_in, may_free_one}
use Rattle.block_space.proofs.space.Space.free_spot.Goals as goal

pub free-requires-clause-block : goal.free-requires-clause-block
free-requires-clause-block c = block_there c.args.self.now c.place_of-p.result c.args.spot c.place_of-p.ensures c.requires.block

pub free-requires-clause-may : goal.free-requires-clause-may
free-requires-clause-may c = may_free_one c.args.self.now c.place_of-p.result c.args.spot c.is_sound.ensures.table c.place_of-p.ensures c.requires.unknown

pub returns : goal.returns
returns c = less_in c.args.self.now c.free.new.self c.is_sound.ensures c.place_of-p.result c.args.spot c.place_of-p.ensures c.requires.block c.free.ensures.freed
