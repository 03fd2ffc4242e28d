-- Times in which the board wasn't heard. What came is listed with the latest first, times are in milliseconds.
use Rattle.std.specs.Prelude.{ℕ, ◌-◌, ◌/◌, ◌&&◌, ◌||◌, not, Bool, true, false, nat_le, List, [], ◌∷◌, Option, Some, None, if◌then◌else◌}
use Rattle.board_doubts.specs.declared.heard.Gap.{Gap}
use Rattle.board_alarms.specs.declared.chunk.Chunk.{Chunk}
use Rattle.board_alarms.specs.declared.news.News.{News}
use Rattle.board_alarms.specs.declared.news.News.TheVariants.{Gone, Begins}
use Rattle.board_alarms.specs.Items.{Item, Sent, Noted, bytes_of, is_sent}

-- when the board was heard last. What it hasn't sent doesn't count
abbrev pub heard_at : List Item → Option ℕ
heard_at [] = None
heard_at (Sent chunk event ∷ items) = if is_sent chunk then Some chunk.when.at else heard_at items
heard_at (Noted at news ∷ items) = heard_at items

-- Since then its line was gone, or a recorder has begun.
abbrev pub cut_by : News → Bool → Bool
cut_by Gone before = true
cut_by Begins before = true
cut_by other before = before

abbrev pub is_cut : List Item → Bool
is_cut [] = false
is_cut (Sent chunk event ∷ items) = not (is_sent chunk) && is_cut items
is_cut (Noted at news ∷ items) = cut_by news (is_cut items)

-- Since then a recorder has begun.
abbrev pub begun_by : News → Bool → Bool
begun_by Begins before = true
begun_by other before = before

abbrev pub has_begun : List Item → Bool
has_begun [] = false
has_begun (Sent chunk event ∷ items) = not (is_sent chunk) && has_begun items
has_begun (Noted at news ∷ items) = begun_by news (has_begun items)

-- A board that is asked once a second, and sends nothing for so long, isn't heard. (A row says SILENT after 5 s without a dump. A recorder
-- that is held up for less than that asks nothing meanwhile, and may hear the next dump a second later.)
abbrev pub quiet : ℕ
quiet = 6000

-- A dump has so many bytes.
abbrev pub dump_size : ℕ
dump_size = 67

-- so many dumps at least come at once from a line that was late, and lost nothing: all that were asked for in this time, but one
abbrev pub dumps_within : ℕ → ℕ
dumps_within lasted = lasted / 1000 - 1

-- These bytes came at once after such a time, so the line was late: the board was heard.
abbrev pub was_late : ℕ → ℕ → Bool
was_late lasted brought = nat_le (dumps_within lasted) (brought / dump_size)

-- the time until now in which the board wasn't heard, if it was heard at all before; so many bytes come now
abbrev pub gap_from : Option ℕ → Bool → Bool → ℕ → ℕ → Option Gap
gap_from None cut begun brought now = None
gap_from (Some at) cut begun brought now =
    if cut || (nat_le quiet (now - at) && not (was_late (now - at) brought)) then Some (record { lasted = now - at; is_restart = begun }) else None

-- the same, before an event of these bytes. What the board hasn't sent ends no such time
abbrev pub gap_before : Chunk → List Item → Option Gap
gap_before chunk items =
    if is_sent chunk then gap_from (heard_at items) (is_cut items) (has_begun items) (chunk.end - bytes_of items) chunk.when.at else None
