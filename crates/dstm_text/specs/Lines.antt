-- How a text falls into lines, and a line into fields.
use Rattle.std.specs.Prelude.{ℕ, Bool, true, false, not, ◌==◌, List, [], ◌∷◌, filter, Option, None, Some, if◌then◌else◌}
use Rattle.std.specs.List.{slice_split}
use Rattle.std.specs.Str.{bytes_eq}

-- the byte that ends a line, and the one that stands between fields
abbrev pub line_feed : ℕ
line_feed = 10

abbrev pub space : ℕ
space = 32

-- the pieces of bytes around a separator: at least one, and some may be empty
abbrev pub pieces : ℕ → List ℕ → List (List ℕ)
pieces separator bytes = slice_split (λ b. b == separator) bytes

-- the pieces of what follows a separator, if one was found
abbrev pub pieces_left : ℕ → Option (List ℕ) → List (List ℕ)
pieces_left separator None = []
pieces_left separator (Some bytes) = pieces separator bytes

abbrev pub is_empty : List ℕ → Bool
is_empty [] = true
is_empty (b ∷ bytes) = false

-- without the last piece, where that is empty
abbrev pub without_empty_end : List (List ℕ) → List (List ℕ)
without_empty_end [] = []
without_empty_end (p ∷ []) = if is_empty p then [] else p ∷ []
without_empty_end (p ∷ q ∷ ps) = p ∷ without_empty_end (q ∷ ps)

-- the lines of a text: the last one may lack its line feed, and a line feed at the end begins no
-- further line
abbrev pub lines_of : List ℕ → List (List ℕ)
lines_of bytes = without_empty_end (pieces line_feed bytes)

-- the lines before the first one that is `mark`, or all, and the lines behind that one, if there is one
abbrev pub split_lines : List ℕ → List (List ℕ) → List (List ℕ) × Option (List (List ℕ))
split_lines mark [] = ([], None)
split_lines mark (line ∷ lines) =
    if bytes_eq line mark then ([], Some lines)
    else (line ∷ (split_lines mark lines).0, (split_lines mark lines).1)

abbrev pub non_empty : List (List ℕ) → List (List ℕ)
non_empty ps = filter (λ p. not (is_empty p)) ps

-- the fields of a line: the runs of bytes other than space
abbrev pub fields_of : List ℕ → List (List ℕ)
fields_of line = non_empty (pieces space line)
