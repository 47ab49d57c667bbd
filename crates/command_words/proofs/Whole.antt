-- The tests at the end of the words: a command, and arguments that are for it.
use Rattle.std.proofs.Common.{◌≡◌, ◌∙◌, Bool, true, false, not, List, [], ◌∷◌, Option, Some, None, refl, sym, ap}
use Rattle.std.specs.Prelude.{◌||◌, option_and_then, is_some, if◌then◌else◌}
use Rattle.std.specs.List.{list_all}
use Rattle.std.specs.Option.{option_map_or}
use Rattle.std.specs.Str.{bytes_eq}
use Rattle.std.proofs.lemmas.Slice.Eq.{bytes_eq-Decides}
use Rattle.command_words.specs.Names.{Text, word_of, command_names, command_named, options, is_for, needs_minute}
use Rattle.command_words.specs.Given.{Given, is_given, text_in}
use Rattle.command_words.specs.WordByWord.{command_given, has_minute, is_whole_for, is_whole, is_good, given_of}
use Rattle.command_words.specs.Written.{IsWritten}
use Rattle.command_words.specs.Meaning.{IsGood}
use Rattle.command_words.specs.declared.arguments.Argument.{Argument}
use Rattle.command_words.specs.declared.arguments.Argument.TheVariants.{Command, Nodes, Turns, Workers, Dossier, Keep, Number, Ships, Chambers, From, Now}
use Rattle.command_words.specs.declared.command_names.CommandName.{CommandName}
use Rattle.command_words.specs.declared.command_names.CommandName.TheVariants.{Solve, Check, Lot, Trial, Judge, Play, Replan, Lower, Resume}
use Rattle.command_words.proofs.Follows.{and_left, and_right}
use Rattle.command_words.proofs.Taken.{good_is_read}
use Rattle.command_words.proofs.Times.{Once}
use Rattle.command_words.proofs.FromWritten.{written_is_read}
use Rattle.command_words.proofs.ToWritten.{find_passes, read_is_written}

pub command_word : (c : CommandName) → command_named (word_of c) ≡ Some c
unfolding command_named word_of
command_word Solve = refl
command_word Check = refl
command_word Lot = refl
command_word Trial = refl
command_word Judge = refl
command_word Play = refl
command_word Replan = refl
command_word Lower = refl
command_word Resume = refl

pub word_named : (t : Text) (c : CommandName) → command_named t ≡ Some c → t ≡ word_of c
unfolding command_named
word_named t c e = sym ((bytes_eq-Decides (word_of c) t).0 (find_passes (λ n. bytes_eq (word_of n) t) command_names c e))

-- an argument is for the command, or is not given
abbrev Suits : CommandName → Given → Type 0
Suits c given = (a : Argument) → is_given a given ≡ true → is_for c a ≡ true

suits_test : (p q : Bool) → (p ≡ true → q ≡ true) → (not p || q) ≡ true
suits_test true q h = h refl
suits_test false q h = refl

tested : (p q : Bool) → (not p || q) ≡ true → p ≡ true → q ≡ true
tested true q e h = e
tested false q e h = cc

all_suit : (c : CommandName) (given : Given) (others : List Argument) → Suits c given → list_all (λ a. not (is_given a given) || is_for c a) others ≡ true
all_suit c given [] suits = refl
all_suit c given (a ∷ others) suits = rw (suits_test (is_given a given) (is_for c a) (suits a)) (all_suit c given others suits)

head_of : (p : Argument → Bool) (a : Argument) (others : List Argument) → list_all p (a ∷ others) ≡ true → p a ≡ true
head_of p a others e = and_left (p a) (list_all p others) e

tail_of : (p : Argument → Bool) (a : Argument) (others : List Argument) → list_all p (a ∷ others) ≡ true → list_all p others ≡ true
tail_of p a others e = and_right (p a) (list_all p others) e

command_suits : (c : CommandName) → is_for c Command ≡ true
command_suits Solve = refl
command_suits Check = refl
command_suits Lot = refl
command_suits Trial = refl
command_suits Judge = refl
command_suits Play = refl
command_suits Replan = refl
command_suits Lower = refl
command_suits Resume = refl

each_suits : (c : CommandName) (given : Given) → list_all (λ a. not (is_given a given) || is_for c a) options ≡ true → Suits c given
each_suits c given e a = go a
  where
    p : Argument → Bool
    p a = not (is_given a given) || is_for c a

    after_nodes : list_all p (Turns ∷ Workers ∷ Dossier ∷ Keep ∷ Number ∷ Ships ∷ Chambers ∷ From ∷ Now ∷ []) ≡ true
    after_nodes = tail_of p Nodes (Turns ∷ Workers ∷ Dossier ∷ Keep ∷ Number ∷ Ships ∷ Chambers ∷ From ∷ Now ∷ []) e

    after_turns : list_all p (Workers ∷ Dossier ∷ Keep ∷ Number ∷ Ships ∷ Chambers ∷ From ∷ Now ∷ []) ≡ true
    after_turns = tail_of p Turns (Workers ∷ Dossier ∷ Keep ∷ Number ∷ Ships ∷ Chambers ∷ From ∷ Now ∷ []) after_nodes

    after_workers : list_all p (Dossier ∷ Keep ∷ Number ∷ Ships ∷ Chambers ∷ From ∷ Now ∷ []) ≡ true
    after_workers = tail_of p Workers (Dossier ∷ Keep ∷ Number ∷ Ships ∷ Chambers ∷ From ∷ Now ∷ []) after_turns

    after_dossier : list_all p (Keep ∷ Number ∷ Ships ∷ Chambers ∷ From ∷ Now ∷ []) ≡ true
    after_dossier = tail_of p Dossier (Keep ∷ Number ∷ Ships ∷ Chambers ∷ From ∷ Now ∷ []) after_workers

    after_keep : list_all p (Number ∷ Ships ∷ Chambers ∷ From ∷ Now ∷ []) ≡ true
    after_keep = tail_of p Keep (Number ∷ Ships ∷ Chambers ∷ From ∷ Now ∷ []) after_dossier

    after_number : list_all p (Ships ∷ Chambers ∷ From ∷ Now ∷ []) ≡ true
    after_number = tail_of p Number (Ships ∷ Chambers ∷ From ∷ Now ∷ []) after_keep

    after_ships : list_all p (Chambers ∷ From ∷ Now ∷ []) ≡ true
    after_ships = tail_of p Ships (Chambers ∷ From ∷ Now ∷ []) after_number

    after_chambers : list_all p (From ∷ Now ∷ []) ≡ true
    after_chambers = tail_of p Chambers (From ∷ Now ∷ []) after_ships

    after_from : list_all p (Now ∷ []) ≡ true
    after_from = tail_of p From (Now ∷ []) after_chambers

    go : (a : Argument) → is_given a given ≡ true → is_for c a ≡ true
    go Command = λ _. command_suits c
    go Nodes = tested (is_given Nodes given) (is_for c Nodes) (head_of p Nodes (Turns ∷ Workers ∷ Dossier ∷ Keep ∷ Number ∷ Ships ∷ Chambers ∷ From ∷ Now ∷ []) e)
    go Turns = tested (is_given Turns given) (is_for c Turns) (head_of p Turns (Workers ∷ Dossier ∷ Keep ∷ Number ∷ Ships ∷ Chambers ∷ From ∷ Now ∷ []) after_nodes)
    go Workers = tested (is_given Workers given) (is_for c Workers) (head_of p Workers (Dossier ∷ Keep ∷ Number ∷ Ships ∷ Chambers ∷ From ∷ Now ∷ []) after_turns)
    go Dossier = tested (is_given Dossier given) (is_for c Dossier) (head_of p Dossier (Keep ∷ Number ∷ Ships ∷ Chambers ∷ From ∷ Now ∷ []) after_workers)
    go Keep = tested (is_given Keep given) (is_for c Keep) (head_of p Keep (Number ∷ Ships ∷ Chambers ∷ From ∷ Now ∷ []) after_dossier)
    go Number = tested (is_given Number given) (is_for c Number) (head_of p Number (Ships ∷ Chambers ∷ From ∷ Now ∷ []) after_keep)
    go Ships = tested (is_given Ships given) (is_for c Ships) (head_of p Ships (Chambers ∷ From ∷ Now ∷ []) after_number)
    go Chambers = tested (is_given Chambers given) (is_for c Chambers) (head_of p Chambers (From ∷ Now ∷ []) after_ships)
    go From = tested (is_given From given) (is_for c From) (head_of p From (Now ∷ []) after_chambers)
    go Now = tested (is_given Now given) (is_for c Now) (head_of p Now [] after_from)

-- just one of two arguments is given
one_is_there : (p q : Bool) → p ≡ not q → (if p then not q else q) ≡ true
one_is_there true true e = cc
one_is_there true false e = refl
one_is_there false true e = refl
one_is_there false false e = cc

just_one : (p q : Bool) → (if p then not q else q) ≡ true → p ≡ not q
just_one true true e = cc
just_one true false e = refl
just_one false true e = refl
just_one false false e = cc

-- ---- good words

-- good words are read to their end, and give what they are written to give
pub good_is_accepted : (words : List Text) → (good : IsGood words) → (is_good words ≡ true) × (given_of words ≡ good.given)
unfolding is_good given_of is_whole
good_is_accepted words good =
    let r = written_is_read words good.given good.written good.once in
    let command : command_given good.given ≡ Some good.command = ap (option_and_then command_named) good.word ∙ command_word good.command in
    let suits = all_suit good.command good.given options good.suits in
    let needs = suits_test (needs_minute good.command) (has_minute good.given) (λ needed. one_is_there (is_given From good.given) (is_given Now good.given) (good.needs needed)) in
    (rw (r.read, command, suits, needs) refl, rw (r.read) refl)

-- words that are read to their end are good
pub accepted_is_good : (words : List Text) → is_good words ≡ true → IsGood words
unfolding is_good is_whole
accepted_is_good words e =
    let r = good_is_read words e in
    let whole : is_whole r.end ≡ true = sym (ap (λ o. option_map_or is_whole o false) r.read) ∙ e in
    let written = read_is_written words r.end r.read r.due in
    go r.end.given written.0 written.1 (text_in Command r.end.given) refl (and_right (not (is_some r.end.due)) _ whole)
  where
    for_it : (given : Given) → IsWritten words given → Once given → (c : CommandName) (t : Text) → text_in Command given ≡ Some t → command_named t ≡ Some c → is_whole_for given c ≡ true → IsGood words
    for_it given written once c t text name e =
        let suits : list_all (λ a. not (is_given a given) || is_for c a) options ≡ true = and_left _ _ e in
        record {
          given = given;
          written = written;
          once = once;
          command = c;
          word = text ∙ ap Some (word_named t c name);
          suits = each_suits c given suits;
          needs = λ needed. just_one (is_given From given) (is_given Now given) (tested (needs_minute c) (has_minute given) (and_right (list_all (λ a. not (is_given a given) || is_for c a) options) _ e) needed);
        }

    go : (given : Given) → IsWritten words given → Once given → (o : Option Text) → text_in Command given ≡ o → option_map_or (is_whole_for given) (option_and_then command_named o) false ≡ true → IsGood words
    go given written once None text e = cc
    go given written once (Some t) text e = named_it (command_named t) refl e
      where
        named_it : (n : Option CommandName) → command_named t ≡ n → option_map_or (is_whole_for given) n false ≡ true → IsGood words
        named_it None name e = cc
        named_it (Some c) name e = for_it given written once c t text name e
