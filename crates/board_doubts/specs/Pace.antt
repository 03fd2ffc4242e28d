-- How long hurried players need for a ply.
use Rattle.std.specs.Prelude.{ℕ, zero, suc, ◌*◌, ◌&&◌, Bool, false, nat_le, nat_lt, List, [], ◌∷◌, count_by, length, take}
use Rattle.board_doubts.specs.declared.heard.Event.{Event}
use Rattle.board_doubts.specs.Waiting.{ply_times}

-- So many of the last plies give the pace.
abbrev pub pace_of : ℕ
pace_of = 8

-- A ply takes at least this, in milliseconds.
abbrev pub quickest : ℕ
quickest = 1000

-- It takes this if no ply's time is known.
abbrev pub usual : ℕ
usual = 3000

-- Half of these plies, or more, took no longer than this.
abbrev pub half_within : ℕ → List ℕ → Bool
half_within time plies = nat_le (length plies) (2 * count_by (λ ply. nat_le ply time) plies)

-- Players who made these plies may make one in this time.
abbrev pub fits_by : ℕ → List ℕ → Bool
fits_by time [] = nat_le usual time
fits_by time (ply ∷ plies) = nat_le quickest time && half_within time (ply ∷ plies)

abbrev pub fits_ply : ℕ → List Event → Bool
fits_ply time past = fits_by time (take pace_of (ply_times past))

-- So many plies ago a ply took longer than this.
abbrev pub took_longer : ℕ → ℕ → List ℕ → Bool
took_longer time n [] = false
took_longer time zero (ply ∷ plies) = nat_lt time ply
took_longer time (suc n) (ply ∷ plies) = took_longer time n plies

-- The last of these plies took no longer than this.
abbrev pub last_within : ℕ → List ℕ → Bool
last_within time [] = false
last_within time (ply ∷ plies) = nat_le ply time
