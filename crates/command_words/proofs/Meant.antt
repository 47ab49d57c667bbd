-- The command that good words mean.
use Rattle.std.proofs.Common.{◌≡◌, ◌∙◌, ◌⊎◌, true, List, Option, Some, None, Result, Ok, IfSome, IfOk, IsErrOf, inl, sym, ap, subst}
use Rattle.std.specs.Prelude.{option_and_then}
use Rattle.std.specs.Option.{ok_or}
use Rattle.command_words.specs.Names.{Text, word_of, command_named}
use Rattle.command_words.specs.Given.{Given, text_in}
use Rattle.command_words.specs.Meaning.{Gives, GivesOptions, MeanCommand, AreBad, name_of_command}
use Rattle.command_words.specs.WordByWord.{is_good, given_of}
use Rattle.command_words.specs.declared.commands.Command.{Command}
use Rattle.command_words.specs.declared.arguments.Argument.TheVariants.{Command as Command_argument}
use Rattle.command_words.specs.declared.errors.WordsError.{WordsError}
use Rattle.command_words.specs.declared.command_names.CommandName.{CommandName}
use Rattle.command_words.proofs.Whole.{command_word, word_named, good_is_accepted, accepted_is_good}

-- good words mean what they give
pub means_given : (words : List Text) (c : Command) → is_good words ≡ true → Gives (given_of words) c → MeanCommand words c
means_given words c e gives =
    let good = accepted_is_good words e in
    record { good = good; gives = subst (λ g. Gives g c) (good_is_accepted words good).1 gives }

-- and give what they mean
pub given_meant : (words : List Text) (c : Command) → MeanCommand words c → (is_good words ≡ true) × Gives (given_of words) c
given_meant words c means =
    let accepted = good_is_accepted words means.good in
    (accepted.0, subst (λ g. Gives g c) (sym accepted.1) means.gives)

-- ---- what the reading of good words answers

pub answers_meant : (words : List Text) (found : Option Command) (bad : WordsError) (r : Result Command WordsError) → is_good words ≡ true → r ≡ ok_or found bad
    → IfSome found (λ c. Gives (given_of words) c) → IfOk r (λ c. MeanCommand words c)
answers_meant words None bad r e is some = rw is tt
answers_meant words (Some c) bad r e is gives = rw is (means_given words c e gives)

pub meant_answered : (words : List Text) (found : Option Command) (bad other : WordsError) (r : Result Command WordsError) → r ≡ ok_or found bad
    → ((c : Command) → Gives (given_of words) c → found ≡ Some c) → (c : Command) → MeanCommand words c → (r ≡ Ok c) ⊎ IsErrOf r other
meant_answered words found bad other r is each c means =
    inl (is ∙ ap (λ o. ok_or o bad) (each c (given_meant words c means).1))

pub bad_answered : (words : List Text) (found : Option Command) (bad : WordsError) (r : Result Command WordsError) → r ≡ ok_or found bad
    → ((c : Command) → Gives (given_of words) c → found ≡ Some c) → IsErrOf r bad → AreBad words
bad_answered words found bad r is each err c means =
    let ok : r ≡ Ok c = is ∙ ap (λ o. ok_or o bad) (each c (given_meant words c means).1) in
    cc

-- ---- the command's word

-- the name that the command's word has is that of the command which is given
pub name_found : (n : CommandName) (t : Text) (r : Option CommandName) → r ≡ command_named t → Some t ≡ Some (word_of n) → r ≡ Some n
name_found n t r e is = e ∙ (ap (option_and_then command_named) is ∙ command_word n)

-- and the other way round
pub word_found : (n : CommandName) (t : Text) → Some n ≡ command_named t → Some t ≡ Some (word_of n)
word_found n t e = ap Some (word_named t n (sym e))

pub gives_found : (found : Option Command) (given : Given) (n : CommandName) (text : Option Text) → text_in Command_argument given ≡ text → text ≡ Some (word_of n)
    → IfSome found (λ c. name_of_command c ≡ n) → IfSome found (λ c. GivesOptions c given) → IfSome found (λ c. Gives given c)
gives_found None given n text is word name options = tt
gives_found (Some c) given n text is word name options = record { word = is ∙ (word ∙ ap (λ m. Some (word_of m)) (sym name)); options = options }
