-- Frames one behind the other, a stray byte behind a dump, and a line shown ply by ply.
use Rattle.std.proofs.Common.{◌≡◌, ℕ, ◌==◌, Bool, true, false, List, [], ◌∷◌, ◌++◌, None, reverse, length, refl, sym, subst, ap, ◌∙◌, arith, inl, ne_eqb}
use Rattle.std.proofs.lemmas.List.{map-append, reverse-append}
use Rattle.dgt_frame.specs.declared.events.Message.{Message}
use Rattle.dgt_frame.specs.declared.events.Event.{Event}
use Rattle.dgt_frame.specs.declared.events.Event.TheVariants.{Message as MessageEvent, Fault}
use Rattle.dgt_frame.specs.declared.events.FaultKind.TheVariants.{Stray}
use Rattle.dgt_frame.specs.Restarts.{moved_on}
use Rattle.dgt_frame.specs.Streams.{Shows, Timed}
use Rattle.board_events.specs.Commands.{past_of}
use Rattle.pair_frames.specs.Laws.{EndsWhole, StreamsAreJoined}
use Rattle.pair_frames.specs.PutIn.{ShowsWhole, dump_of}
use Rattle.chess_rules.specs.declared.parts.Parts.{Parts}
use Rattle.chess_rules.specs.Picture.{picture}
use Rattle.dgt_frame.specs.declared.First.{First}
use Rattle.settle_core.specs.declared.plies.Ply.{Ply}
use Rattle.board_captures.specs.Shown.{game_shown, plies_shown}

abbrev stray_at : Timed
stray_at = record { offset = 0; event = Fault Stray }

one_stray : Shows (0 ∷ []) (stray_at ∷ []) 0
one_stray = (0 ∷ [], [], 0, refl, (0, ([], refl, omega arith, tt, tt), refl), refl, (inl refl, refl))

ends_whole : (events : List Event) (message : Message) → EndsWhole (reverse (events ++ MessageEvent message ∷ []))
ends_whole events message =
    let E : List Event → Type 0 = λ es. EndsWhole es in
    subst E (sym (reverse-append events (MessageEvent message ∷ []))) tt

pub stray_added : StreamsAreJoined → (bytes : List ℕ) (events : List Event) (message : Message) → ShowsWhole bytes (events ++ MessageEvent message ∷ [])
    → ShowsWhole (bytes ++ 0 ∷ []) ((events ++ MessageEvent message ∷ []) ++ Fault Stray ∷ [])
stray_added joined bytes events message (timed, shown, same) =
    let one : List Timed = moved_on (length bytes) (stray_at ∷ []) in
    let W : List Event → Type 0 = λ es. EndsWhole (reverse es) in
    let whole : EndsWhole (past_of timed) = subst W (sym same) (ends_whole events message) in (
      timed ++ one,
      joined bytes (0 ∷ []) timed (stray_at ∷ []) 0 whole shown one_stray,
      map-append (λ (t : Timed). t.event) timed one ∙ ap (λ (es : List Event). es ++ Fault Stray ∷ []) same,
    )

pub game_some : (first : First) (rotated : Bool) (start : Parts) (plies : List Ply) → (length plies == 0) ≡ false
    → game_shown first rotated start plies ≡ dump_of rotated (picture start) ∷ plies_shown first rotated start None plies
game_some first rotated start [] h = absurd cc
game_some first rotated start (ply ∷ plies) h = refl

pub game_none : (first : First) (rotated : Bool) (start : Parts) (plies : List Ply) → (length plies == 0) ≡ true → game_shown first rotated start plies ≡ []
game_none first rotated start [] h = refl
game_none first rotated start (ply ∷ plies) h =
    let some : (length (ply ∷ plies) == 0) ≡ false = ne_eqb (length (ply ∷ plies)) 0 (λ e. omega (arith, e)) in
    absurd (let never : false ≡ true = sym some ∙ h in cc)
