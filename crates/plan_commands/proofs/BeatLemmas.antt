-- What the beats of a lawful day name is in the instance and in the plan.
use Rattle.std.proofs.Common.{ℕ, ◌≡◌, ◌<◌, ◌∙◌, List, [], ◌∷◌, length, subst, ap}
use Rattle.std.specs.Prelude.{All}
use Rattle.std.proofs.lemmas.List.Elements.{All-nil, All-cons}
use Rattle.lock_model.specs.declared.instance.Instance.{Instance}
use Rattle.lock_model.specs.declared.plan.Plan.{Plan}
use Rattle.day_play.specs.Lawful.{IsOf, MayDo, IsLawful, AreLawfulBeats, IsLawfulDay}
use Rattle.day_play.specs.State.{ChamberState, State, opening, after}
use Rattle.day_play.specs.Playing.{day_of}
use Rattle.day_play.specs.declared.beat.Act.{Act}
use Rattle.day_play.specs.declared.beat.Act.TheVariants.{Turn, Moor, Go, Done}
use Rattle.day_play.specs.declared.beat.Beat.{Beat}
use Rattle.plan_commands.specs.Planned.{IsLegallyPlanned}
use Rattle.plan_commands.specs.Playing.{IsKnownAct, IsKnownBeat, day_lines, PrintsPlayed}

module _ (I : Instance) (P : Plan) where
  own_chamber : (c p : ℕ) → IsOf I P c p → c < length I.chambers
  own_chamber c p own = subst (λ d. d < length I.chambers) own.chamber own.whole.chamber

  known_chamber : (t c p : ℕ) (a : Act) (s : ChamberState) → MayDo I P t c p a s → c < length I.chambers
  known_chamber t c p Turn s may = may.in_lock
  known_chamber t c p (Moor i) s may = own_chamber c p may.lockage
  known_chamber t c p Go s may = own_chamber c p may.lockage
  known_chamber t c p Done s may = own_chamber c p may.lockage

  known_act : (t c p : ℕ) (a : Act) (s : ChamberState) → MayDo I P t c p a s → IsKnownAct I P p a
  known_act t c p Turn s may = tt
  known_act t c p (Moor i) s may = subst (λ n. n < length I.ships) may.ship (may.lockage.whole.ships may.place 0 may.within)
  known_act t c p Go s may = may.lockage.known
  known_act t c p Done s may = tt

  known_beat : (b : Beat) (s : State) → IsLawful I P b s → IsKnownBeat I P b
  known_beat b s lawful = record {
    chamber = known_chamber b.minute b.chamber b.lockage b.act (s.chamber b.chamber) lawful.here;
    act = known_act b.minute b.chamber b.lockage b.act (s.chamber b.chamber) lawful.here;
  }

  known_beats : (bs : List Beat) (s : State) → AreLawfulBeats I P bs s → All (IsKnownBeat I P) bs
  known_beats [] s lawful = All-nil (IsKnownBeat I P)
  known_beats (b ∷ bs) s lawful = All-cons (IsKnownBeat I P) b bs (known_beat b s lawful.0) (known_beats bs (after I P b s) lawful.1)

pub day_known : (I : Instance) (P : Plan) (bs : List Beat) → IsLawfulDay I P bs → All (IsKnownBeat I P) bs
day_known I P bs day = known_beats I P bs (opening I) day.lawful

-- the lines of the day that is played are what is printed
pub day_prints : (bytes text : List ℕ) (I : Instance) (P : Plan) (bs : List Beat) → IsLegallyPlanned bytes I P → IsLawfulDay I P bs → bs ≡ day_of I P → text ≡ day_lines I P bs → PrintsPlayed bytes text
day_prints bytes text I P bs planned lawful played shown = record {
  instance = I;
  plan = P;
  planned = planned;
  lawful = subst (IsLawfulDay I P) played lawful;
  shown = shown ∙ ap (day_lines I P) played;
}
