-- The options that words give, for any table of options.
use Rattle.std.specs.Prelude.{ℕ, ◌||◌, Bool, List, [], ◌∷◌, ◌++◌, find, Option, None, Some, option_map, option_and_then, codes, if◌then◌else◌}
use Rattle.std.specs.List.{list_any}
use Rattle.std.specs.Option.{option_map_or}
use Rattle.std.specs.Str.{bytes_eq}
use Rattle.clap.specs.Lexer.{is_long_word, is_short_word, long_of}

abbrev pub Text : Type 0
Text = List ℕ

-- an option that has a value, or a flag, which has none
pub data Choice : Type 0 where
  valued : Text → Choice
  flag : Text → Choice

abbrev pub name_of : Choice → Text
name_of (valued name) = name
name_of (flag name) = name

abbrev pub Table : Type 0
Table = List Choice

abbrev pub option_named : Table → Text → Option Choice
option_named table name = find (λ c. bytes_eq (name_of c) name) table

-- the options that were given, each with its value; that of a flag is `true`
abbrev pub Given : Type 0
Given = List (Text × Text)

abbrev pub is_given : Text → Given → Bool
is_given name given = list_any (λ g. bytes_eq g.0 name) given

abbrev pub value_of : Text → Given → Option Text
value_of name given = option_map (λ g. g.1) (find (λ g. bytes_eq g.0 name) given)

-- one more, which is given once
abbrev pub with_one : Given → Text × Text → Option Given
with_one given g = if is_given g.0 given then None else Some (given ++ g ∷ [])

-- what a word is: an option with its value, an option whose value is the next word, or neither
pub data Meaning : Type 0 where
  gives : Text → Text → Meaning
  asks : Text → Meaning
  wrong : Meaning

-- of an option that is written with a value behind `=`, or without
abbrev pub meaning_as : Option Choice → Option Text → Meaning
meaning_as None value = wrong
meaning_as (Some (valued name)) (Some text) = gives name text
meaning_as (Some (valued name)) None = asks name
meaning_as (Some (flag name)) None = gives name (codes "true")
meaning_as (Some (flag name)) (Some text) = wrong

-- a word that begins with a hyphen and goes on
abbrev pub is_hyphened : Text → Bool
is_hyphened word = is_long_word word || is_short_word word

-- `asked` is the option whose value the word is to be, if the last word asks for one
abbrev pub meaning_of : Table → Option Text → Text → Meaning
meaning_of table None word =
    option_map_or (λ p. meaning_as (option_named table p.0) p.1) (long_of word) wrong
meaning_of table (Some name) word = if is_hyphened word then wrong else gives name word

-- goes on with the options given and the one that is asked for
abbrev pub gone_on : Given → (Given → Option Text → Option Given) → Meaning → Option Given
gone_on given next (gives name text) = option_and_then (λ more. next more None) (with_one given (name, text))
gone_on given next (asks name) = next given (Some name)
gone_on given next wrong = None

-- the options that were given before the words and the ones that they give
abbrev pub options_from : Table → Given → Option Text → List Text → Option Given
options_from table given None [] = Some given
options_from table given (Some name) [] = None
options_from table given asked (word ∷ words) =
    gone_on given (λ more next. options_from table more next words) (meaning_of table asked word)

-- the options that the words give
abbrev pub options_in : Table → List Text → Option Given
options_in table words = options_from table [] None words
