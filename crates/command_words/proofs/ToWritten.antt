-- What is read, word by word, is a command line that is written, and gives what it gives.
use Rattle.std.proofs.Common.{◌≡◌, ◌∙◌, ◌++◌, ◌<◌, ℕ, Bool, true, false, List, [], ◌∷◌, Option, Some, None, length, arith, refl, sym, ap, subst, codes, take_all, slice_index_or}
use Rattle.std.proofs.lemmas.Option.{same_Some}
use Rattle.std.specs.Prelude.{◌==◌, if◌then◌else◌, option_and_then, ⊤, find}
use Rattle.std.specs.List.{list_any, after_first, position_or_len}
use Rattle.std.specs.Str.{bytes_eq}
use Rattle.std.proofs.lemmas.Slice.Eq.{bytes_eq-Decides}
use Rattle.std.proofs.lemmas.Bool.{eqb-true, ltb-true, ltb-false}
use Rattle.std.proofs.lemmas.List.{append_assoc, append-nil}
use Rattle.std.proofs.lemmas.List.Sums.{split_at_first, passes_at_first}
use Rattle.command_words.specs.Names.{Text, name_of, options, option_named, is_flag, is_command}
use Rattle.command_words.specs.Given.{Given, is_given}
use Rattle.command_words.specs.Numbers.{is_number}
use Rattle.command_words.specs.Written.{Use, plain, apart, joined, flag, hyphens, written, begins_with_hyphen, IsProper, given_by, given_plainly, IsWritten}
use Rattle.command_words.specs.WordByWord.{PartialLine, start, filled, with_text, behind, is_equals, name_part, text_part, named, option_word, two_hyphens, one_hyphen, plain_or_hyphen, read_word, read_words}
use Rattle.command_words.specs.declared.arguments.Argument.{Argument}
use Rattle.command_words.specs.declared.arguments.Argument.TheVariants.{Command}
use Rattle.command_words.proofs.Seen.{any_by_place}
use Rattle.command_words.proofs.Follows.{open_at, filled_some, if_some, if_none, is_45, named_other}
use Rattle.command_words.proofs.Times.{Once, once_more}
use Rattle.command_words.proofs.FromWritten.{closed_at, waiting_at}

-- ---- names and texts

pub find_passes : {X : Type 0} (p : X → Bool) (xs : List X) (x : X) → find p xs ≡ Some x → p x ≡ true
find_passes p [] x e = cc
find_passes p (y ∷ ys) x e = go (p y) refl e (find_passes p ys x)
  where
    go : (b : Bool) → p y ≡ b → (if b then Some y else find p ys) ≡ Some x → (find p ys ≡ Some x → p x ≡ true) → p x ≡ true
    go true is e rest = cc
    go false is e rest = rest e

option_name : (t : Text) (a : Argument) → option_named t ≡ Some a → t ≡ name_of a
unfolding option_named
option_name t a e = sym ((bytes_eq-Decides (name_of a) t).0 (find_passes (λ o. bytes_eq (name_of o) t) options a e))

-- a word behind its hyphens is a name, alone or before `=` and a text
joined_text : (t u : Text) → text_part t ≡ Some u → t ≡ name_part t ++ 61 ∷ u
joined_text t u e = go (list_any is_equals t) refl e
  where
    go : (b : Bool) → list_any is_equals t ≡ b → (if b then Some (after_first is_equals t) else None) ≡ Some u → t ≡ name_part t ++ 61 ∷ u
    go false any e = cc
    go true any e =
        let low : position_or_len is_equals t < length t = ltb-true _ _ (sym (any_by_place is_equals t) ∙ any) in
        let is : slice_index_or t (position_or_len is_equals t) 0 ≡ 61 = eqb-true _ _ (passes_at_first is_equals t 0 low) in
        let rest : after_first is_equals t ≡ u = cc in
        split_at_first is_equals t 0 low ∙ (ap (λ c. name_part t ++ c ∷ after_first is_equals t) is ∙ ap (λ v. name_part t ++ 61 ∷ v) rest)

lone_name : (t : Text) → text_part t ≡ None → name_part t ≡ t
lone_name t e = go (list_any is_equals t) refl e
  where
    go : (b : Bool) → list_any is_equals t ≡ b → (if b then Some (after_first is_equals t) else None) ≡ None → name_part t ≡ t
    go true any e = cc
    go false any e = take_all (position_or_len is_equals t) t (ltb-false _ _ (sym (any_by_place is_equals t) ∙ any))

no_hyphen : (w : Text) → behind 45 w ≡ None → begins_with_hyphen w ≡ false
no_hyphen [] e = refl
no_hyphen (c ∷ cs) e = go (c == 45) refl e
  where
    go : (b : Bool) → (c == 45) ≡ b → (if b then Some cs else None) ≡ None → b ≡ false
    go false is e = refl
    go true is e = cc

-- ---- what the words that are left add

-- an option waits only before `--`, and takes a text
abbrev pub IsWaiting : Option Argument → Bool → Type 0
IsWaiting None is_open = ⊤
IsWaiting (Some a) false = ⊥
IsWaiting (Some a) true = (is_command a ≡ false) × (is_flag a ≡ false)

-- these words give more, behind the name of the option that waits
abbrev pub Adds : Option Argument → Bool → List Text → Given → Type 0
Adds due false words more = more ≡ given_plainly words
Adds None true words more = IsWritten words more
Adds (Some a) true words more = IsWritten (hyphens (name_of a) ∷ words) more

pub record Continues (given : Given) (due : Option Argument) (is_open : Bool) (words : List Text) (end : PartialLine) : Type 0 where
  pub more : Given
  pub given_is : end.given ≡ given ++ more
  pub adds : Adds due is_open words more
  pub once : Once given → Once end.given

-- a use before what is written
used_first : (u : Use) (rest : List Text) (more : Given) → IsProper u → IsWritten rest more → IsWritten (written u rest) (given_by u ∷ more)
used_first u rest more proper w = record {
  uses = u ∷ w.uses;
  after = w.after;
  proper = (proper, w.proper);
  words_are = ap (written u) w.words_are;
  given_is = ap (λ g. given_by u ∷ g) w.given_is;
}

-- the first of the words gives an argument
grown : (a : Argument) (t : Text) (given : Given) (due : Option Argument) (is_open : Bool) (w : Text) (ws : List Text) (end : PartialLine) → is_given a given ≡ false
    → ((more : Given) → Adds None is_open ws more → Adds due is_open (w ∷ ws) ((a, t) ∷ more)) → Continues (given ++ (a, t) ∷ []) None is_open ws end → Continues given due is_open (w ∷ ws) end
grown a t given due is_open w ws end fresh adds c = record {
  more = (a, t) ∷ c.more;
  given_is = c.given_is ∙ append_assoc given ((a, t) ∷ []) c.more;
  adds = adds c.more c.adds;
  once = λ once. c.once (once_more a t given fresh once);
}

-- ---- one word

-- what comes after this word continues it
abbrev Precedes : PartialLine → PartialLine → Text → Type 0
Precedes line l w = (ws : List Text) (end : PartialLine) → (IsWaiting l.due l.is_open → Continues l.given l.due l.is_open ws end) → Continues line.given line.due line.is_open (w ∷ ws) end

name_precedes : (a : Argument) (x : ℕ) (xs : Text) (o : Option Text) (given : Given) (l : PartialLine) → option_named (name_part (x ∷ xs)) ≡ Some a → text_part (x ∷ xs) ≡ o
    → named a o (open_at given) ≡ Some l → Precedes (open_at given) l (hyphens (x ∷ xs))
unfolding named with_text
name_precedes a x xs (Some t) given l name text e ws end rest =
    let takes = if_none (is_flag a) _ l e in
    let digits = if_some (is_number t) _ l takes.1 in
    let fresh = filled_some a t (open_at given) l digits.1 in
    let word : x ∷ xs ≡ name_of a ++ 61 ∷ t = joined_text (x ∷ xs) t text ∙ ap (λ n. n ++ 61 ∷ t) (option_name _ a name) in
    let later = subst (λ (z : PartialLine). IsWaiting z.due z.is_open → Continues z.given z.due z.is_open ws end) (sym fresh.1) rest in
    let first : (more : Given) → IsWritten ws more → IsWritten (hyphens (x ∷ xs) ∷ ws) ((a, t) ∷ more) = λ more w.
    subst (λ n. IsWritten (hyphens n ∷ ws) ((a, t) ∷ more)) (sym word) (used_first (joined a t) ws more (record { option = named_other _ a name; takes = takes.0; digits = digits.0 }) w) in
    grown a t given None true (hyphens (x ∷ xs)) ws end fresh.0 first (later tt)
name_precedes a x xs None given l name text e ws end rest = go (is_flag a) refl e
  where
    word : x ∷ xs ≡ name_of a
    word = sym (lone_name (x ∷ xs) text) ∙ option_name _ a name

    go : (b : Bool) → is_flag a ≡ b → (if b then filled a (codes "true") (open_at given) else Some (waiting_at a given)) ≡ Some l → Continues given None true (hyphens (x ∷ xs) ∷ ws) end
    go true is e =
        let fresh = filled_some a (codes "true") (open_at given) l e in
        let later = subst (λ (z : PartialLine). IsWaiting z.due z.is_open → Continues z.given z.due z.is_open ws end) (sym fresh.1) rest in
        let first : (more : Given) → IsWritten ws more → IsWritten (hyphens (x ∷ xs) ∷ ws) ((a, codes "true") ∷ more) = λ more w.
        subst (λ n. IsWritten (hyphens n ∷ ws) ((a, codes "true") ∷ more)) (sym word) (used_first (flag a) ws more is w) in
        grown a (codes "true") given None true (hyphens (x ∷ xs)) ws end fresh.0 first (later tt)
    go false is e =
        let same : waiting_at a given ≡ l = same_Some _ _ e in
        let later = subst (λ (z : PartialLine). IsWaiting z.due z.is_open → Continues z.given z.due z.is_open ws end) (sym same) rest in
        let c : Continues given (Some a) true ws end = later (named_other _ a name, is) in
        record {
          more = c.more;
          given_is = c.given_is;
          adds = subst (λ n. IsWritten (hyphens n ∷ ws) c.more) (sym word) c.adds;
          once = c.once;
        }

option_precedes : (x : ℕ) (xs : Text) (given : Given) (l : PartialLine) → option_word (x ∷ xs) (open_at given) ≡ Some l → Precedes (open_at given) l (hyphens (x ∷ xs))
unfolding option_word
option_precedes x xs given l e = go (option_named (name_part (x ∷ xs))) refl e
  where
    go : (o : Option Argument) → option_named (name_part (x ∷ xs)) ≡ o → option_and_then (λ a. named a (text_part (x ∷ xs)) (open_at given)) o ≡ Some l → Precedes (open_at given) l (hyphens (x ∷ xs))
    go None name e = cc
    go (Some a) name e = name_precedes a x xs (text_part (x ∷ xs)) given l name refl e

-- `--` alone ends the options
closes : (given : Given) (l : PartialLine) → closed_at given ≡ l → Precedes (open_at given) l (hyphens [])
closes given l same ws end rest =
    let later = subst (λ (z : PartialLine). IsWaiting z.due z.is_open → Continues z.given z.due z.is_open ws end) (sym same) rest in
    let c : Continues given None false ws end = later tt in
    record {
      more = c.more;
      given_is = c.given_is;
      adds = record { uses = []; after = Some ws; proper = tt; words_are = refl; given_is = c.adds };
      once = c.once;
    }

plain_precedes : (w : Text) (given : Given) (l : PartialLine) → behind 45 w ≡ None → filled Command w (open_at given) ≡ Some l → Precedes (open_at given) l w
plain_precedes w given l none e ws end rest =
    let fresh = filled_some Command w (open_at given) l e in
    let later = subst (λ (z : PartialLine). IsWaiting z.due z.is_open → Continues z.given z.due z.is_open ws end) (sym fresh.1) rest in
    grown Command w given None true w ws end fresh.0 (λ more written. used_first (plain w) ws more (no_hyphen w none) written) (later tt)

hyphen_precedes : (t : Text) (given : Given) (l : PartialLine) → one_hyphen (behind 45 t) (open_at given) ≡ Some l → Precedes (open_at given) l (45 ∷ t)
hyphen_precedes [] given l e = cc
hyphen_precedes (y ∷ rest) given l e = go (y == 45) refl e
  where
    two : (rest : Text) → two_hyphens rest (open_at given) ≡ Some l → Precedes (open_at given) l (45 ∷ 45 ∷ rest)
    two [] e = closes given l (same_Some _ _ e)
    two (x ∷ xs) e = option_precedes x xs given l e

    go : (b : Bool) → (y == 45) ≡ b → one_hyphen (if b then Some rest else None) (open_at given) ≡ Some l → Precedes (open_at given) l (45 ∷ y ∷ rest)
    go true is e = subst (λ z. Precedes (open_at given) l (45 ∷ z ∷ rest)) (sym (is_45 y is)) (two rest e)
    go false is e = cc

idle_precedes : (w : Text) (given : Given) (l : PartialLine) → plain_or_hyphen w (behind 45 w) (open_at given) ≡ Some l → Precedes (open_at given) l w
idle_precedes [] given l e = plain_precedes [] given l refl e
idle_precedes (x ∷ xs) given l e = go (x == 45) refl e
  where
    go : (b : Bool) → (x == 45) ≡ b → plain_or_hyphen (x ∷ xs) (if b then Some xs else None) (open_at given) ≡ Some l → Precedes (open_at given) l (x ∷ xs)
    go true is e = subst (λ z. Precedes (open_at given) l (z ∷ xs)) (sym (is_45 x is)) (hyphen_precedes xs given l e)
    go false is e = plain_precedes (x ∷ xs) given l (ap (λ b. if b then Some xs else None) is) e

word_precedes : (given : Given) (due : Option Argument) (is_open : Bool) (w : Text) (l : PartialLine) → IsWaiting due is_open
    → read_word w (record { given = given; due = due; is_open = is_open }) ≡ Some l → Precedes (record { given = given; due = due; is_open = is_open }) l w
unfolding read_word with_text
word_precedes given (Some a) false w l waiting e ws end rest = absurd waiting
word_precedes given None false w l waiting e ws end rest =
    let fresh = filled_some Command w (closed_at given) l e in
    let later = subst (λ (z : PartialLine). IsWaiting z.due z.is_open → Continues z.given z.due z.is_open ws end) (sym fresh.1) rest in
    grown Command w given None false w ws end fresh.0 (λ more same. ap (λ g. (Command, w) ∷ g) same) (later tt)
word_precedes given None true w l waiting e ws end rest = idle_precedes w given l e ws end rest
word_precedes given (Some a) true w l waiting e ws end rest =
    let digits = if_some (is_number w) _ l e in
    let fresh = filled_some a w (waiting_at a given) l digits.1 in
    let later = subst (λ (z : PartialLine). IsWaiting z.due z.is_open → Continues z.given z.due z.is_open ws end) (sym fresh.1) rest in
    grown a w given (Some a) true w ws end fresh.0 (λ more written. used_first (apart a w) ws more (record { option = waiting.0; takes = waiting.1; digits = digits.0 }) written) (later tt)

-- ---- all words

no_words : (given : Given) (due : Option Argument) (is_open : Bool) → due ≡ None → Continues given due is_open [] (record { given = given; due = due; is_open = is_open })
no_words given (Some a) is_open e = cc
no_words given None false e = record { more = []; given_is = sym (append-nil given); adds = refl; once = λ once. once }
no_words given None true e = record {
  more = [];
  given_is = sym (append-nil given);
  adds = record { uses = []; after = None; proper = tt; words_are = refl; given_is = refl };
  once = λ once. once;
}

pub continues : (words : List Text) (given : Given) (due : Option Argument) (is_open : Bool) (end : PartialLine) → IsWaiting due is_open
    → read_words words (record { given = given; due = due; is_open = is_open }) ≡ Some end → end.due ≡ None → Continues given due is_open words end
unfolding read_words
continues [] given due is_open end waiting e none =
    let same : record { given = given; due = due; is_open = is_open } ≡ end = same_Some _ _ e in
    subst (Continues given due is_open []) same (no_words given due is_open (ap (λ (z : PartialLine). z.due) same ∙ none))
continues (w ∷ ws) given due is_open end waiting e none = go (read_word w (record { given = given; due = due; is_open = is_open })) refl e (λ l w2 e2. continues ws l.given l.due l.is_open end w2 e2 none)
  where
    go : (o : Option PartialLine) → read_word w (record { given = given; due = due; is_open = is_open }) ≡ o → option_and_then (read_words ws) o ≡ Some end
        → ((l : PartialLine) → IsWaiting l.due l.is_open → read_words ws l ≡ Some end → Continues l.given l.due l.is_open ws end) → Continues given due is_open (w ∷ ws) end
    go None r e rest = cc
    go (Some l) r e rest = word_precedes given due is_open w l waiting r ws end (λ w2. rest l w2 e)

-- what was read to its end is written so, and gives nothing twice
pub read_is_written : (words : List Text) (end : PartialLine) → read_words words start ≡ Some end → end.due ≡ None → IsWritten words end.given × Once end.given
read_is_written words end e none =
    let c = continues words [] None true end tt e none in
    (subst (IsWritten words) (sym c.given_is) c.adds, c.once (λ a. omega arith))
