use Rattle.std.proofs.Common.{◌≡◌, ℕ, Bool, ◌++◌, List, [], ◌∷◌, sym, subst, ◌∙◌, append_assoc}
use Rattle.std.proofs.lemmas.Result.{on_ok_weaker}
use Rattle.dgt_frame.specs.declared.events.Event.{Event}
use Rattle.dgt_frame.specs.declared.events.Event.TheVariants.{Fault}
use Rattle.dgt_frame.specs.declared.events.FaultKind.TheVariants.{Stray}
use Rattle.dgt_frame.specs.declared.events.Message.TheVariants.{Dump}
use Rattle.board_events.specs.History.{codes_by_field}
use Rattle.pair_frames.specs.PutIn.{ShowsWhole, dump_of}
use Rattle.board_captures.specs.Shown.{board_shown, time_shown}
use Rattle.board_captures.proofs.ShownLemmas.{stray_added}
use Rattle.board_captures.proofs.showing.add_board.Goals as goal

pub returns-then-trusted-clause-shows : goal.returns-then-trusted-clause-shows
returns-then-trusted-clause-shows c = λ events whole.
    let first = c.args.first in
    let rotated = c.args.rotated in
    let seen = c.args.picture.now in
    let reading = c.args.reading.now in
    let out = c.add_dump.new.out.items in
    let s1 = c.in_ok-add_time.ensures.shows events whole in
    let s2 = c.in_ok-add_dump.ensures.shows _ s1 in
    let W : List Event → Type 0 = λ es. ShowsWhole out es in
    let B : Bool → Type 0 = λ b. ShowsWhole out (events ++ board_shown first rotated reading seen b) in
    subst B (sym c.if-trusted.true) (subst W (append_assoc events (time_shown first reading ∷ []) (dump_of rotated seen ∷ [])) s2)

pub returns-clause-shows : goal.returns-clause-shows
returns-clause-shows c = λ events whole.
    let first = c.args.first in
    let rotated = c.args.rotated in
    let seen = c.args.picture.now in
    let reading = c.args.reading.now in
    let out = c.add_dump.new.out.items in
    let t : Event = time_shown first reading in
    let d : Event = dump_of rotated seen in
    let f : Event = Fault Stray in
    let s1 = c.in_ok-add_time.ensures.shows events whole in
    let s2 = c.in_ok-add_dump.ensures.shows _ s1 in
    let s3 = stray_added c.frames_are_put_in.ensures.joined out (events ++ t ∷ []) (Dump (codes_by_field rotated seen)) s2 in
    let e : ((events ++ t ∷ []) ++ d ∷ []) ++ f ∷ [] ≡ events ++ t ∷ d ∷ f ∷ [] =
    append_assoc (events ++ t ∷ []) (d ∷ []) (f ∷ []) ∙ append_assoc events (t ∷ []) (d ∷ f ∷ []) in
    let W : List Event → Type 0 = λ es. ShowsWhole (out ++ 0 ∷ []) es in
    let B : Bool → Type 0 = λ b. ShowsWhole (out ++ 0 ∷ []) (events ++ board_shown first rotated reading seen b) in
    let S : List ℕ → Type 0 = λ xs. ShowsWhole xs (events ++ board_shown first rotated reading seen c.args.trusted) in
    let all = subst B (sym c.if-trusted.false) (subst W e s3) in
    on_ok_weaker c.append.result (λ is. subst S (sym is) all) c.append.ensures
