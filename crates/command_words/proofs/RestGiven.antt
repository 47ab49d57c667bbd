-- The rest that the words ask for.
use Rattle.std.proofs.Common.{◌≡◌, ◌∙◌, ℕ, Bool, true, false, true≢false, Option, Some, None, option_map, is_some, sym, ap}
use Rattle.command_words.specs.Given.{Given, is_given, text_in}
use Rattle.command_words.specs.Meaning.{GivesRest}
use Rattle.command_words.specs.Numbers.{IsNumberOf}
use Rattle.command_words.specs.declared.arguments.Argument.TheVariants.{From, Now}
use Rattle.command_words.specs.declared.commands.DayRest.{DayRest}
use Rattle.command_words.specs.declared.commands.DayRest.TheVariants.{Known, Lived}
use Rattle.command_words.proofs.Taken.{text_given}

-- whether the option has a text tells whether it is given
pub now_is : (given : Given) (b : Bool) → is_some (text_in Now given) ≡ b → is_given Now given ≡ b
now_is given b e = sym (text_given Now given) ∙ e

module _ (given : Given) (found : Option ℕ) where
  -- it is given, and its number is found
  pub lived_each : is_given Now given ≡ true → ((n : ℕ) → IsNumberOf Now given n → found ≡ Some n) → (r : DayRest) → GivesRest r given → (n : ℕ) → found ≡ Some n → Some (Lived n) ≡ Some r
  lived_each is each (Known m) gives n some = absurd (true≢false (sym is ∙ gives.0))
  lived_each is each (Lived m) gives n some = let same : Some n ≡ Some m = sym some ∙ each m gives.1 in ap (option_map Lived) same

  pub lived_none : is_given Now given ≡ true → ((n : ℕ) → IsNumberOf Now given n → found ≡ Some n) → (r : DayRest) → GivesRest r given → found ≡ None → None ≡ Some r
  lived_none is each (Known m) gives none = absurd (true≢false (sym is ∙ gives.0))
  lived_none is each (Lived m) gives none = let same : None ≡ Some m = sym none ∙ each m gives.1 in ap (option_map Lived) same

  -- it isn't, and the number of the other one is found
  pub known_each : is_given Now given ≡ false → ((n : ℕ) → IsNumberOf From given n → found ≡ Some n) → (r : DayRest) → GivesRest r given → (n : ℕ) → found ≡ Some n → Some (Known n) ≡ Some r
  known_each is each (Lived m) gives n some = absurd (true≢false (sym gives.0 ∙ is))
  known_each is each (Known m) gives n some = let same : Some n ≡ Some m = sym some ∙ each m gives.1 in ap (option_map Known) same

  pub known_none : is_given Now given ≡ false → ((n : ℕ) → IsNumberOf From given n → found ≡ Some n) → (r : DayRest) → GivesRest r given → found ≡ None → None ≡ Some r
  known_none is each (Lived m) gives none = absurd (true≢false (sym gives.0 ∙ is))
  known_none is each (Known m) gives none = let same : None ≡ Some m = sym none ∙ each m gives.1 in ap (option_map Known) same
