-- What a stream shows that is broken off anywhere and begun again.
use Rattle.std.specs.Prelude.{ℕ, zero, suc, ◌+◌, ◌≤◌, List, [], ◌∷◌, ◌++◌, length, map}
use Rattle.dgt_frame.specs.declared.events.Event.TheVariants.{Fault}
use Rattle.dgt_frame.specs.declared.events.FaultKind.TheVariants.{Cut}
use Rattle.dgt_frame.specs.Streams.{Shows, Timed}

-- the events, each so many bytes later
abbrev pub moved_on : ℕ → List Timed → List Timed
moved_on bytes events = map (λ (t : Timed). record { offset = bytes + t.offset; event = t.event }) events

-- a cut at this offset, where some bytes of a frame were left, so many
abbrev pub cut_at : ℕ → ℕ → List Timed
cut_at offset zero = []
cut_at offset (suc rest) = record { offset = offset; event = Fault Cut } ∷ []

-- The first bytes are those of a stream that was broken off anywhere. The others begin as each frame does, with a byte
-- with its top bit set. Together they show the events of the first, a cut where these leave some bytes of a frame, and
-- the events of the others at their offsets; and they leave what the others leave.
abbrev pub RestartsAreShown : Type 0
RestartsAreShown = (first again : List ℕ) (byte : ℕ) (events others : List Timed) (rest last : ℕ)
    → 128 ≤ byte → Shows first events rest → Shows (byte ∷ again) others last
    → Shows (first ++ byte ∷ again) (events ++ cut_at (length first) rest ++ moved_on (length first) others) last
