-- The lines that are left, by the parts that are left.
use Rattle.std.proofs.Common.{◌≡◌, ℕ, List, [], ◌∷◌, Option, None, Some, refl, sym, ap, ◌∙◌}
use Rattle.std.specs.Borrow.{Bor}
use Rattle.std.specs.List.{slice_split, join_with_byte}
use Rattle.std.proofs.lemmas.List.Splits.{join_with_byte-slice_split}
use Rattle.line_text.specs.Lines.{lines}
use Rattle.line_text.specs.Left.{lines_in, bytes_in, size_in}
use Rattle.line_text.specs.Parts.{separates, parts_left, room_left, now_left, rest_left}
use Rattle.line_text.specs.declared.parts.Separator.{Separator}
use Rattle.line_text.specs.declared.parts.Separator.TheVariants.{LineFeed}

lines_are : (left : Option (Bor (List ℕ))) (kind : Separator) → kind ≡ LineFeed → lines_in (now_left left) ≡ parts_left left kind
unfolding lines
lines_are None kind feeds = refl
lines_are (Some bytes) kind feeds = ap (λ k. slice_split (separates k) bytes.now) (sym feeds)

pub size_is : (left : Option (Bor (List ℕ))) → size_in (now_left left) ≡ room_left left
size_is None = refl
size_is (Some bytes) = refl

pub rest_is : (left : Option (Bor (List ℕ))) → bytes_in (now_left left) ≡ rest_left left
rest_is None = refl
rest_is (Some bytes) = refl

pub all_left : (left : Option (Bor (List ℕ))) (text : List ℕ) → now_left left ≡ Some text → lines_in (now_left left) ≡ lines text
all_left left text whole = ap lines_in whole

pub next_line : (left more : Option (Bor (List ℕ))) (kind next : Separator) (line : List ℕ) → kind ≡ LineFeed → next ≡ kind → parts_left left kind ≡ line ∷ parts_left more next → lines_in (now_left left) ≡ line ∷ lines_in (now_left more)
next_line left more kind next line feeds same cut = lines_are left kind feeds ∙ cut ∙ ap (λ ls. line ∷ ls) (sym (lines_are more next (same ∙ feeds)))

pub no_line : (left : Option (Bor (List ℕ))) (kind : Separator) → kind ≡ LineFeed → parts_left left kind ≡ [] → lines_in (now_left left) ≡ []
no_line left kind feeds none = lines_are left kind feeds ∙ none

-- all bytes that are left are the lines that are left with a line feed between them
pub joined : (bytes : Option (List ℕ)) → join_with_byte 10 (lines_in bytes) ≡ bytes_in bytes
unfolding lines
joined None = refl
joined (Some bytes) = join_with_byte-slice_split 10 bytes
