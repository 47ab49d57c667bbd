-- What the loop over the words knows.
use Rattle.std.proofs.Common.{◌≡◌, ◌∙◌, ◌+◌, ◌<◌, ◌≤◌, ℕ, suc, Bool, false, List, [], ◌∷◌, Option, Some, None, String, Global, string_bytes, map, length, drop, arith, refl, sym, ap, subst, slice_index_or}
use Rattle.std.specs.Prelude.{option_and_then}
use Rattle.std.specs.Option.{option_map_or}
use Rattle.std.proofs.Math.Seq.{drop-cons}
use Rattle.std.proofs.lemmas.List.{drop_all}
use Rattle.command_words.specs.Names.{Text}
use Rattle.command_words.specs.WordByWord.{PartialLine, start, read_word, read_words, is_whole, is_good}
use Rattle.command_words.specs.Stands.{Stands, StepsTo}
use Rattle.command_words.specs.declared.partial_line.PartialLine.{PartialLine as TheLine}

-- the line stands for what the words before `rest` gave
pub record IsReading (words rest : List Text) (line : TheLine) : Type 0 where
  pub read : PartialLine
  pub stands : Stands line read
  pub same : read_words words start ≡ read_words rest read

pub next_word : (ws : List (String Global)) (i : ℕ) (w : String Global) (t : Text) → i < length ws → w ≡ slice_index_or ws i w → t ≡ string_bytes w
    → map string_bytes (drop i ws) ≡ t ∷ map string_bytes (drop (i + 1) ws)
next_word ws i w t lt is text =
    let next : suc i ≡ i + 1 = omega arith in
    ap (map string_bytes) (drop-cons ws i w lt) ∙ (ap (λ (v : String Global). string_bytes v ∷ map string_bytes (drop (suc i) ws)) (sym is)
    ∙ (ap (λ (v : Text). v ∷ map string_bytes (drop (suc i) ws)) (sym text) ∙ ap (λ j. t ∷ map string_bytes (drop j ws)) next))

pub no_words : (ws : List (String Global)) (i : ℕ) → length ws ≤ i → map string_bytes (drop i ws) ≡ []
no_words ws i h = ap (map string_bytes) (drop_all i ws h)

pub goes_on : (words rest all : List Text) (w : Text) (line next : TheLine) (r : Option TheLine) → IsReading words all line → all ≡ w ∷ rest → r ≡ Some next
    → ((l : PartialLine) → Stands line l → StepsTo r (read_word w l)) → IsReading words rest next
unfolding read_words
goes_on words rest all w line next r reading is some steps =
    go (read_word w reading.read) refl (subst (λ o. StepsTo o (read_word w reading.read)) some (steps reading.read reading.stands))
  where
    go : (o : Option PartialLine) → read_word w reading.read ≡ o → StepsTo (Some next) o → IsReading words rest next
    go None e s = absurd s
    go (Some l) e s = record { read = l; stands = s; same = reading.same ∙ (ap (λ ws. read_words ws reading.read) is ∙ ap (option_and_then (read_words rest)) e) }

pub stops : (words rest all : List Text) (w : Text) (line : TheLine) (r : Option TheLine) → IsReading words all line → all ≡ w ∷ rest → r ≡ None
    → ((l : PartialLine) → Stands line l → StepsTo r (read_word w l)) → is_good words ≡ false
unfolding read_words is_good
stops words rest all w line r reading is none steps =
    go (read_word w reading.read) refl (subst (λ o. StepsTo o (read_word w reading.read)) none (steps reading.read reading.stands))
  where
    go : (o : Option PartialLine) → read_word w reading.read ≡ o → StepsTo None o → option_map_or is_whole (read_words words start) false ≡ false
    go None e s = ap (λ o. option_map_or is_whole o false) (reading.same ∙ (ap (λ ws. read_words ws reading.read) is ∙ ap (option_and_then (read_words rest)) e))
    go (Some l) e s = absurd s

pub ends : (words all : List Text) (line : TheLine) (r : Bool) → IsReading words all line → all ≡ [] → ((l : PartialLine) → Stands line l → r ≡ is_whole l) → r ≡ is_good words
unfolding read_words is_good
ends words all line r reading none whole =
    whole reading.read reading.stands ∙ sym (ap (λ o. option_map_or is_whole o false) (reading.same ∙ ap (λ ws. read_words ws reading.read) none))
