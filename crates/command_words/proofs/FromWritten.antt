-- A command line that is written is read, word by word, as what it gives.
use Rattle.std.proofs.Common.{◌≡◌, ◌∙◌, ◌++◌, Bool, true, false, List, [], ◌∷◌, Option, Some, None, map, refl, sym, ap, subst, codes}
use Rattle.std.specs.Prelude.{option_and_then}
use Rattle.std.proofs.lemmas.List.{append_assoc, append-nil}
use Rattle.command_words.specs.Names.{Text, name_of, option_named, is_flag, is_command}
use Rattle.command_words.specs.Given.{Given, is_given}
use Rattle.command_words.specs.Numbers.{is_number}
use Rattle.command_words.specs.Written.{Use, plain, apart, joined, flag, hyphens, written, all_written, ending, begins_with_hyphen, IsProper, AreProper, given_by, given_plainly, given_after, IsWritten}
use Rattle.command_words.specs.WordByWord.{PartialLine, start, filled, with_text, named, option_word, read_word, read_words}
use Rattle.command_words.specs.declared.arguments.Argument.{Argument}
use Rattle.command_words.specs.declared.arguments.Argument.TheVariants.{Command, Nodes, Turns, Workers, Dossier, Keep, Number, Ships, Chambers, From, Now}
use Rattle.command_words.proofs.Follows.{open_at}
use Rattle.command_words.proofs.Times.{Once, free_before}

abbrev pub closed_at : Given → PartialLine
closed_at given = record { given = given; due = None; is_open = false }

abbrev pub waiting_at : Argument → Given → PartialLine
waiting_at a given = record { given = given; due = Some a; is_open = true }

-- ---- one word

fills : (a : Argument) (t : Text) (line : PartialLine) → is_given a line.given ≡ false → filled a t line ≡ Some (record line { given = line.given ++ (a, t) ∷ []; due = None })
unfolding filled
fills a t line fresh = rw fresh refl

plain_word : (w : Text) (given : Given) → begins_with_hyphen w ≡ false → is_given Command given ≡ false → read_word w (open_at given) ≡ Some (open_at (given ++ (Command, w) ∷ []))
unfolding read_word
plain_word [] given e fresh = fills Command [] (open_at given) fresh
plain_word (c ∷ cs) given e fresh = rw e (fills Command (c ∷ cs) (open_at given) fresh)

-- a name alone
name_alone : (a : Argument) (given : Given) → is_command a ≡ false → read_word (hyphens (name_of a)) (open_at given) ≡ named a None (open_at given)
unfolding read_word option_word name_of option_named
name_alone Command given e = cc
name_alone Nodes given e = refl
name_alone Turns given e = refl
name_alone Workers given e = refl
name_alone Dossier given e = refl
name_alone Keep given e = refl
name_alone Number given e = refl
name_alone Ships given e = refl
name_alone Chambers given e = refl
name_alone From given e = refl
name_alone Now given e = refl

-- a name with its text in the same word
name_joined : (a : Argument) (t : Text) (given : Given) → is_command a ≡ false → read_word (hyphens (name_of a ++ 61 ∷ t)) (open_at given) ≡ named a (Some t) (open_at given)
unfolding read_word option_word name_of option_named
name_joined Command t given e = cc
name_joined Nodes t given e = refl
name_joined Turns t given e = refl
name_joined Workers t given e = refl
name_joined Dossier t given e = refl
name_joined Keep t given e = refl
name_joined Number t given e = refl
name_joined Ships t given e = refl
name_joined Chambers t given e = refl
name_joined From t given e = refl
name_joined Now t given e = refl

waits : (a : Argument) (given : Given) → is_flag a ≡ false → named a None (open_at given) ≡ Some (waiting_at a given)
unfolding named
waits a given e = rw e refl

flag_fills : (a : Argument) (given : Given) → is_flag a ≡ true → is_given a given ≡ false → named a None (open_at given) ≡ Some (open_at (given ++ (a, codes "true") ∷ []))
unfolding named
flag_fills a given e fresh = rw e (fills a (codes "true") (open_at given) fresh)

text_fills : (a : Argument) (t : Text) (line : PartialLine) → is_number t ≡ true → is_given a line.given ≡ false → with_text a t line ≡ Some (record line { given = line.given ++ (a, t) ∷ []; due = None })
unfolding with_text
text_fills a t line digits fresh = rw digits (fills a t line fresh)

joined_fills : (a : Argument) (t : Text) (given : Given) → is_flag a ≡ false → is_number t ≡ true → is_given a given ≡ false → named a (Some t) (open_at given) ≡ Some (open_at (given ++ (a, t) ∷ []))
unfolding named
joined_fills a t given e digits fresh = rw e (text_fills a t (open_at given) digits fresh)

text_word : (a : Argument) (t : Text) (given : Given) → is_number t ≡ true → is_given a given ≡ false → read_word t (waiting_at a given) ≡ Some (open_at (given ++ (a, t) ∷ []))
unfolding read_word
text_word a t given digits fresh = text_fills a t (waiting_at a given) digits fresh

no_command : (a : Argument) → is_flag a ≡ true → is_command a ≡ false
no_command Command e = cc
no_command Nodes e = refl
no_command Turns e = refl
no_command Workers e = refl
no_command Dossier e = refl
no_command Keep e = refl
no_command Number e = refl
no_command Ships e = refl
no_command Chambers e = refl
no_command From e = refl
no_command Now e = refl

-- ---- words

next : (w : Text) (ws : List Text) (line l : PartialLine) → read_word w line ≡ Some l → read_words (w ∷ ws) line ≡ read_words ws l
unfolding read_words
next w ws line l e = ap (option_and_then (read_words ws)) e

-- one use
use_read : (u : Use) (rest : List Text) (given : Given) → IsProper u → is_given (given_by u).0 given ≡ false
    → read_words (written u rest) (open_at given) ≡ read_words rest (open_at (given ++ given_by u ∷ []))
use_read (plain w) rest given proper fresh = next w rest (open_at given) _ (plain_word w given proper fresh)
use_read (apart a t) rest given proper fresh =
    next (hyphens (name_of a)) (t ∷ rest) (open_at given) (waiting_at a given) (name_alone a given proper.option ∙ waits a given proper.takes)
    ∙ next t rest (waiting_at a given) _ (text_word a t given proper.digits fresh)
use_read (joined a t) rest given proper fresh =
    next (hyphens (name_of a ++ 61 ∷ t)) rest (open_at given) _ (name_joined a t given proper.option ∙ joined_fills a t given proper.takes proper.digits fresh)
use_read (flag a) rest given proper fresh =
    next (hyphens (name_of a)) rest (open_at given) _ (name_alone a given (no_command a proper) ∙ flag_fills a given proper fresh)

free_use : (u : Use) (given more : Given) → Once (given ++ given_by u ∷ more) → is_given (given_by u).0 given ≡ false
free_use u given more once = free_before (given_by u).0 (given_by u).1 given more once

-- all uses
uses_read : (uses : List Use) (rest : List Text) (given more : Given) → AreProper uses → Once (given ++ (map given_by uses ++ more))
    → read_words (all_written uses rest) (open_at given) ≡ read_words rest (open_at (given ++ map given_by uses))
uses_read [] rest given more proper once = ap (λ g. read_words rest (open_at g)) (sym (append-nil given))
uses_read (u ∷ us) rest given more proper once =
    let longer : (ys : Given) → (given ++ given_by u ∷ []) ++ ys ≡ given ++ given_by u ∷ ys = λ ys. append_assoc given (given_by u ∷ []) ys in
    use_read u (all_written us rest) given proper.0 (free_use u given (map given_by us ++ more) once)
    ∙ (uses_read us rest (given ++ given_by u ∷ []) more proper.1 (subst Once (sym (longer (map given_by us ++ more))) once)
    ∙ ap (λ g. read_words rest (open_at g)) (longer (map given_by us)))

-- the words behind `--`
plain_words_read : (words : List Text) (given : Given) → Once (given ++ given_plainly words) → read_words words (closed_at given) ≡ Some (closed_at (given ++ given_plainly words))
unfolding read_words read_word
plain_words_read [] given once = ap (λ g. Some (closed_at g)) (sym (append-nil given))
plain_words_read (w ∷ ws) given once =
    let longer : (given ++ (Command, w) ∷ []) ++ given_plainly ws ≡ given ++ given_plainly (w ∷ ws) = append_assoc given ((Command, w) ∷ []) (given_plainly ws) in
    next w ws (closed_at given) (closed_at (given ++ (Command, w) ∷ [])) (fills Command w (closed_at given) (free_before Command w given (given_plainly ws) once))
    ∙ (plain_words_read ws (given ++ (Command, w) ∷ []) (subst Once (sym longer) once) ∙ ap (λ g. Some (closed_at g)) longer)

pub record IsReadAs (words : List Text) (given : Given) : Type 0 where
  pub is_open : Bool
  pub read : read_words words start ≡ Some (record { given = given; due = None; is_open = is_open })

ending_read : (after : Option (List Text)) (given : Given) → Once (given ++ given_after after) → (is_open : Bool) × (read_words (ending after) (open_at given) ≡ Some (record { given = given ++ given_after after; due = None; is_open = is_open }))
unfolding read_words read_word
ending_read None given once = (true, ap (λ g. Some (open_at g)) (sym (append-nil given)))
ending_read (Some words) given once = (false, plain_words_read words given once)

pub written_is_read : (words : List Text) (given : Given) → IsWritten words given → Once given → IsReadAs words given
written_is_read words given w once =
    let all : Once (map given_by w.uses ++ given_after w.after) = subst Once w.given_is once in
    let last = ending_read w.after (map given_by w.uses) all in
    record {
      is_open = last.0;
      read = ap (λ ws. read_words ws start) w.words_are ∙ (uses_read w.uses (ending w.after) [] (given_after w.after) w.proper all
          ∙ (last.1 ∙ ap (λ g. Some (record { given = g; due = None; is_open = last.0 })) (sym w.given_is)));
    }
