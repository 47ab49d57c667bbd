use Rattle.std.proofs.Common.{length}
use Rattle.picture_page.proofs.form.+put_form.Given as goal

abbrev pub decreases-put_form : goal.decreases-put_form
decreases-put_form l = length l.form.now
