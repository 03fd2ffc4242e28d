-- The values of tags. A value is its list of bytes.
use Rattle.std.specs.Prelude.{◌≡◌, ◌≢◌, ◌⊎◌, ℕ, ◌<◌, ◌≤◌, List, codes, length, slice_index, All, Option, Some, None, if◌then◌else◌}
use Rattle.std.specs.String.{string_bytes}
use Rattle.std.specs.declared.string.String.{String}
use Rattle.chess_game.specs.declared.values.Tag.{Tag}
use Rattle.chess_game.specs.declared.values.Tag.TheVariants.{Event, Site, Date, Round, White, Black}
use Rattle.chess_game.specs.declared.values.TagError.{TagError}
use Rattle.chess_game.specs.declared.values.TagError.TheVariants.{Text, Long, Date as NoDate, Memory}
use Rattle.chess_game.specs.TagNames.{is_tag}

-- the values of the six tags that a user sets
pub record TagValues : Type 0 where
  pub event : List ℕ
  pub site : List ℕ
  pub date : List ℕ
  pub round : List ℕ
  pub white : List ℕ
  pub black : List ℕ

abbrev pub value_of : Tag → TagValues → List ℕ
value_of Event values = values.event
value_of Site values = values.site
value_of Date values = values.date
value_of Round values = values.round
value_of White values = values.white
value_of Black values = values.black

-- each tag has its value by this rule
abbrev pub values_by : (Tag → List ℕ) → TagValues
values_by rule = record {
  event = rule Event;
  site = rule Site;
  date = rule Date;
  round = rule Round;
  white = rule White;
  black = rule Black;
}

-- the values with that of one tag changed
abbrev pub with_value : Tag → List ℕ → TagValues → TagValues
with_value tag value values = values_by (λ other. if is_tag tag other then value else value_of other values)

-- the value of a tag that was never set
abbrev pub unknown_of : Tag → List ℕ
unknown_of Date = codes "????.??.??"
unknown_of _ = codes "?"

abbrev pub unknown_values : TagValues
unknown_values = values_by unknown_of

-- a value that was set, or the unknown one
abbrev pub value_or : {A : Type 0} → List ℕ → Option (String A) → List ℕ
value_or unknown None = unknown
value_or unknown (Some text) = string_bytes text

-- printable ASCII, 32 to 126
abbrev pub IsPrintable : ℕ → Type 0
IsPrintable b = (31 < b) × (b < 127)

abbrev pub IsText : List ℕ → Type 0
IsText value = All IsPrintable value

-- at most 100 characters
abbrev pub IsShort : List ℕ → Type 0
IsShort value = length value ≤ 100

-- a digit or `?`
abbrev pub IsDateDigit : ℕ → Type 0
IsDateDigit b = (b ≡ 63) ⊎ ((47 < b) × (b < 58))

-- ten characters, `.` in places 5 and 8, a digit or `?` in each of the other eight
pub record IsDate (value : List ℕ) : Type 0 where
  pub ten : length value ≡ 10
  pub first_dot : slice_index value 4 ≡ 46
  pub second_dot : slice_index value 7 ≡ 46
  pub digits : (k : ℕ) → k < 10 → k ≢ 4 → k ≢ 7 → IsDateDigit (slice_index value k)

-- a value that a tag may have
pub record IsValue (tag : Tag) (value : List ℕ) : Type 0 where
  pub text : IsText value
  pub short : IsShort value
  pub date : tag ≡ Date → IsDate value

abbrev pub AreValues : TagValues → Type 0
AreValues values = (tag : Tag) → IsValue tag (value_of tag values)

-- why a value is refused, the first reason that holds
abbrev pub RefusesText : Tag → List ℕ → TagError → Type 0
RefusesText tag value Text = ¬ IsText value
RefusesText tag value Long = IsText value × ¬ IsShort value
RefusesText tag value NoDate = IsText value × IsShort value × (tag ≡ Date) × ¬ IsDate value
RefusesText tag value Memory = IsValue tag value
