use Rattle.std.proofs.Common.{rules}
use Rattle.lock_model.proofs.ShipsLemmas.{bytes_same}
use Rattle.lock_model.proofs.group.same_bytes.Goals as goal

pub returns : goal.returns
returns c = bytes_same c.args.one c.args.others _ _ (search rules) (search rules) (search rules) (search rules) c.from_le_bytes.ensures c.from_le_bytes-2.ensures
