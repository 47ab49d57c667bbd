use Rattle.std.proofs.Common.{◌∙◌, ◌++◌, ◌∷◌, [], ap, refl}
use Rattle.instance_text.specs.Canonical.{canonical}
use Rattle.cert_text.proofs.DossierLemmas.{printed}
use Rattle.cert_text.proofs.print.print_framed.Goals as goal

pub returns-clause-text : goal.returns-clause-text
returns-clause-text c =
    printed c.args.instance.now c.args.heading.now _ (canonical c.args.instance.now) c.in_ok-out.out.items c.put_line.new.out.items c.as_slice.result.now
    refl c.in_ok-out.ensures c.in_ok-put_line.ensures (ap (λ t. t ++ 10 ∷ []) c.as_slice.ensures.value ∙ c.in_ok-text.ensures.text)
