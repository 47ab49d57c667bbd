use Rattle.search_book.proofs.ShareLemmas.{all_one}
use Rattle.search_book.proofs.sharing.share_book.Goals as goal

pub returns-clause-one_part : goal.returns-clause-one_part
returns-clause-one_part g c = all_one c.cut_shares-shares.result c.push.new.self c.cut_shares-shares.new.all c.push.ensures c.cut_shares-shares.ensures.one_part c.cut_shares-shares.ensures.left
