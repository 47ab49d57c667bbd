use Rattle.node_work.proofs.CutLemmas.{fewer_among}
use Rattle.node_work.proofs.cutting.left_out.Goals as goal

pub berth_part-requires-clause-among : goal.berth_part-requires-clause-among
berth_part-requires-clause-among c = fewer_among c.args.asked.now.ships.now c.args.part.ships c.without-fewer.result c.requires.part.among c.without-fewer.ensures
