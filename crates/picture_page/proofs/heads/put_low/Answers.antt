use Rattle.std.specs.Prelude.{codes}
use Rattle.std.proofs.Common.{append_assoc}
use Rattle.std.proofs.lemmas.Result.{IfOk-equal}
use Rattle.picture_page.specs.Words.{count_text}
use Rattle.picture_page.specs.Page.{low_words}
use Rattle.picture_page.proofs.heads.put_low.Goals as goal

pub returns : goal.returns
unfolding low_words
returns c =
    IfOk-equal c.put_count.result _ _ _ c.put_count.ensures
    (rw (c.in_ok-put.ensures) (append_assoc c.args.out.now.items (codes "; no plan takes less than ") (count_text c.args.low (codes "minute"))))
