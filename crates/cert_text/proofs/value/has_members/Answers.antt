use Rattle.std.proofs.Common.{◌∙◌, sym, ap, false, nat_eq}
use Rattle.std.specs.Prelude.{◌==◌}
use Rattle.std.specs.Option.{option_map_or}
use Rattle.serde_json.specs.Events.{members_len}
use Rattle.serde_json.proofs.Views.{members_len-members_view}
use Rattle.cert_text.proofs.value.has_members.Goals as goal

pub returns-in-Some : goal.returns-in-Some
returns-in-Some c =
    ap (λ n. nat_eq n c.args.count) (c.len.ensures.len ∙ sym (members_len-members_view c.in-Some.map.now.entries))
    ∙ ap (λ o. option_map_or (λ ms. members_len ms == c.args.count) o false) c.in-Some.ensures
