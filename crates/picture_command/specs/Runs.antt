-- What is answered to words and a source.
use Rattle.std.specs.Prelude.{ℕ, ◌≡◌, List, Some, None}
use Rattle.std.specs.declared.option.Option.{Option}
use Rattle.picture_page.specs.declared.times.Dial.{Dial}
use Rattle.checked_dossiers.specs.Refused.{dossier_limit}
use Rattle.run_answers.specs.Sources.{Drained, IsUnread, AnswersSource}
use Rattle.run_answers.specs.Texts.{bad_words_text}
use Rattle.run_answers.specs.declared.status.Status.{Status}
use Rattle.run_answers.specs.declared.status.Status.TheVariants.{Words}
use Rattle.picture_command.specs.Asked.{asked_in}
use Rattle.picture_command.specs.Pictures.{AnswersPicture}

-- that the words are bad, where nothing is read
pub record AnswersBadWords (source : Drained) (status : Status) (text : List ℕ) : Type 0 where
  pub words : status ≡ Words
  pub unread : IsUnread source
  pub shown : text ≡ bad_words_text

-- what is answered to what was asked
abbrev pub AnswersAsked : Option Dial → Drained → Status → List ℕ → Type 0
AnswersAsked None source status text = AnswersBadWords source status text
AnswersAsked (Some dial) source status text = AnswersSource dossier_limit (AnswersPicture dial) source status text

-- WHAT IS ANSWERED to words and a source
abbrev pub AnswersRun : List (List ℕ) → Drained → Status → List ℕ → Type 0
AnswersRun words source status text = AnswersAsked (asked_in words) source status text
