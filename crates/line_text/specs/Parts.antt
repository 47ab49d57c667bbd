-- The parts of bytes that are still to come.
use Rattle.std.specs.Prelude.{ℕ, ◌≡◌, ◌+◌, ◌<◌, ◌^◌, Bool, List, [], length, Option, None, Some}
use Rattle.std.specs.Borrow.{Bor}
use Rattle.std.specs.List.{slice_split}
use Rattle.line_text.specs.Lines.{is_line_feed, is_blank}
use Rattle.line_text.specs.declared.parts.Separator.{Separator}
use Rattle.line_text.specs.declared.parts.Separator.TheVariants.{LineFeed, Blank}

abbrev pub separates : Separator → ℕ → Bool
separates LineFeed b = is_line_feed b
separates Blank b = is_blank b

-- bytes cut at each separator
abbrev pub parts_of : Separator → List ℕ → List (List ℕ)
parts_of separator bytes = slice_split (separates separator) bytes

-- the parts of what is left, if anything is
abbrev pub parts_left : Option (Bor (List ℕ)) → Separator → List (List ℕ)
parts_left None separator = []
parts_left (Some bytes) separator = parts_of separator bytes.now

-- how many bytes and ends of parts are left
abbrev pub room_left : Option (Bor (List ℕ)) → ℕ
room_left None = 0
room_left (Some bytes) = length bytes.now + 1

-- all bytes that are left, if any are
abbrev pub now_left : Option (Bor (List ℕ)) → Option (List ℕ)
now_left None = None
now_left (Some bytes) = Some bytes.now

-- the same, where no bytes are as good as none
abbrev pub rest_left : Option (Bor (List ℕ)) → List ℕ
rest_left None = []
rest_left (Some bytes) = bytes.now

-- the parts are lines, and all of them can be counted
pub record AreCounted (left : Option (Bor (List ℕ))) (separator : Separator) (number : ℕ) : Type 0 where
  pub feeds : separator ≡ LineFeed
  pub fits : number + room_left left < 2 ^ 64
