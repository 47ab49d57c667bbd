-- The day of a legal plan, and its picture.
use Rattle.std.proofs.Common.{ℕ, ◌≡◌, ◌<◌, ◌∙◌, List, length, All, true, subst, ap}
use Rattle.std.proofs.lemmas.List.Elements.{All-weaker}
use Rattle.lock_model.specs.declared.instance.Instance.{Instance}
use Rattle.lock_model.specs.declared.plan.Plan.{Plan}
use Rattle.day_play.specs.Lawful.{IsLawfulDay}
use Rattle.day_play.specs.Playing.{day_of}
use Rattle.day_play.specs.declared.beat.Act.{Act}
use Rattle.day_play.specs.declared.beat.Act.TheVariants.{Turn, Moor, Go, Done}
use Rattle.day_play.specs.declared.beat.Beat.{Beat}
use Rattle.picture_page.specs.declared.times.Dial.{Dial}
use Rattle.picture_page.specs.Passages.{is_go, IsKnownGo}
use Rattle.picture_page.specs.Page.{picture}
use Rattle.picture_page.specs.declared.heads.Known.{Known}
use Rattle.plan_commands.specs.Playing.{IsKnownAct, IsKnownBeat}
use Rattle.plan_commands.proofs.BeatLemmas.{day_known}
use Rattle.picture_command.specs.Pictures.{IsPicture}

known_go : (I : Instance) (P : Plan) (p : ℕ) (a : Act) → IsKnownAct I P p a → is_go a ≡ true → p < length P.lockages
known_go I P p Turn known go = cc
known_go I P p (Moor s) known go = cc
known_go I P p Go known go = known
known_go I P p Done known go = cc

-- each lockage that begins on a lawful day is in the plan
pub day_goes : (I : Instance) (P : Plan) (bs : List Beat) → IsLawfulDay I P bs → All (IsKnownGo P) bs
day_goes I P bs lawful =
    All-weaker (IsKnownBeat I P) (IsKnownGo P) (λ b known. record { known = known_go I P b.lockage b.act known.act }) bs (day_known I P bs lawful)

-- the picture of the day that is played is what is printed
pub day_pictured : (dial : Dial) (kind : Known) (I : Instance) (P : Plan) (bs : List Beat) (text : List ℕ) → IsLawfulDay I P bs → bs ≡ day_of I P
    → text ≡ picture kind dial I P bs → IsPicture dial kind I P text
day_pictured dial kind I P bs text lawful played shown = record {
  lawful = subst (IsLawfulDay I P) played lawful;
  shown = shown ∙ ap (picture kind dial I P) played;
}
