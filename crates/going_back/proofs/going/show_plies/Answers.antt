use Rattle.std.proofs.Common.{◌≡◌, ◌∙◌, ◌++◌, Bool, Option, IfOk, ap, subst}
use Rattle.chess_clock.specs.declared.Reading.{Reading}
use Rattle.chess_rules.specs.declared.parts.Parts.{Parts}
use Rattle.board_events.specs.History.{reading_at}
use Rattle.board_events.specs.Settings.{Setting}
use Rattle.pair_frames.specs.PutIn.{ShowsWhole}
use Rattle.board_captures.specs.Reading.{setting_of}
use Rattle.board_captures.specs.Shown.{board_shown, game_shown}
use Rattle.going_back.proofs.Fronts.{if_ok}
use Rattle.going_back.proofs.going.show_plies.Goals as goal

pub returns : goal.returns
returns c = λ past stands last.
    let setting : Setting = setting_of c.args.method.now in
    let first = c.args.method.now.first in
    let rotated = c.args.method.now.rotated in
    let plies = c.args.plies.now in
    let seen = c.args.picture.now in
    let start-is : c.start.result.now ≡ setting.start =
    c.start.ensures ∙ ap (λ s. s.start) c.settler.ensures.same ∙ stands.session.settler.start_is in
    let reading-is = c.reading.ensures setting past stands.session in
    let trusted-is = c.trusted.ensures setting past stands.session in
    let S : Parts → Type 0 = λ start. IfOk c.show_game.result (λ bytes. ShowsWhole bytes.items
    (game_shown first rotated start plies ++ board_shown first rotated c.reading.result seen c.trusted.result)) in
    let R : Option Reading → Type 0 = λ reading. IfOk c.show_game.result (λ bytes. ShowsWhole bytes.items
    (game_shown first rotated setting.start plies ++ board_shown first rotated reading seen c.trusted.result)) in
    let T : Bool → Type 0 = λ trusted. IfOk c.show_game.result (λ bytes. ShowsWhole bytes.items
    (game_shown first rotated setting.start plies ++ board_shown first rotated (reading_at setting.first past) seen trusted)) in
    let all = subst T trusted-is (subst R reading-is (subst S start-is c.show_game.ensures.shows)) in
    if_ok _ _ c.show_game.result (λ bytes h. (seen, last, h)) all
