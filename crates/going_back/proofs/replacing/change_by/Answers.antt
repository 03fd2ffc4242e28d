use Rattle.std.proofs.Common.{◌≡◌, ◌∙◌, ◌+◌, ◌-◌, List, false, length, refl, sym, ap, subst, arith}
use Rattle.std.proofs.lemmas.Bool.{iff_false}
use Rattle.settle_core.specs.declared.plies.Ply.{Ply}
use Rattle.settle_core.specs.Folding.{moves_of}
use Rattle.settle_core.specs.GameResult.{IsResult}
use Rattle.settle_core.specs.Settler.{SettlerState, plies_of, position_of}
use Rattle.settle_core.specs.Settling.{Line}
use Rattle.board_captures.specs.Reading.{setting_of}
use Rattle.going_back.specs.Back.{Replaces}
use Rattle.going_back.specs.Coming.{IsNewLine}
use Rattle.going_back.specs.Replacing.{ShowsOldEnd}
use Rattle.going_back.proofs.ChangeLemmas.{new_line_is, not_both}
use Rattle.going_back.proofs.replacing.change_by.Goals as goal
use Rattle.going_back.proofs.replacing.change_by.Goals.{else-not-made-via-then-not-made+else-shows_old_end, else-not-made-via-else-not-made}

pub replace_plies-requires : goal.replace_plies-requires
replace_plies-requires c = record {
  line = (let game : SettlerState = c.args.captured.now.session.settler in
      let old-are : c.moves-old.result.now ≡ plies_of game = c.moves-old.ensures.plies ∙ ap plies_of c.settler-settler.ensures.same in
      let S : SettlerState → Type 0 = λ s. Line s.start (moves_of c.moves-old.result.now) in
      let O : List Ply → Type 0 = λ xs. Line game.start (moves_of xs) in
      let N : List Ply → Type 0 = λ xs. IsNewLine xs c.args.stays c.args.moves.now c.in_ok-plies.plies.items in
      let whole = subst O old-are (subst S c.settler-settler.ensures.same c.moves-old.ensures.line) in
      let line = new_line_is game.start (plies_of game) c.args.stays c.args.moves.now c.in_ok-plies.plies.items whole c.requires.line (subst N old-are c.in_ok-plies.ensures) in
      subst (λ (xs : List Ply). Line game.start (moves_of xs)) (sym c.as_slice.ensures.value) line);
}

pub shows_old_end-requires : goal.shows_old_end-requires
shows_old_end-requires c =
    let game : SettlerState = c.args.captured.now.session.settler in
    let old-are : c.moves-old.result.now ≡ plies_of game = c.moves-old.ensures.plies ∙ ap plies_of c.settler-settler.ensures.same in
    let S : SettlerState → Type 0 = λ s. Line s.start (moves_of c.moves-old.result.now) in
    let O : List Ply → Type 0 = λ xs. Line game.start (moves_of xs) in
    let N : List Ply → Type 0 = λ xs. IsNewLine xs c.args.stays c.args.moves.now c.in_ok-plies.plies.items in
    let whole = subst O old-are (subst S c.settler-settler.ensures.same c.moves-old.ensures.line) in
    let line = new_line_is game.start (plies_of game) c.args.stays c.args.moves.now c.in_ok-plies.plies.items whole c.requires.line (subst N old-are c.in_ok-plies.ensures) in
    subst O (sym c.as_slice-then-not-made.ensures.value) line

pub returns-then-shows_old_end : goal.returns-then-shows_old_end
returns-then-shows_old_end c = λ past stands.
    let setting = setting_of c.args.method.now in
    let game : SettlerState = c.args.captured.now.session.settler in
    let old-are : c.moves-old.result.now ≡ plies_of game = c.moves-old.ensures.plies ∙ ap plies_of c.settler-settler.ensures.same in
    let N : List Ply → Type 0 = λ xs. IsNewLine xs c.args.stays c.args.moves.now c.in_ok-plies.plies.items in
    let S : List Ply → Type 0 = λ xs. ShowsOldEnd setting past (plies_of game) xs in (
      c.in_ok-plies.plies.items,
      refl,
      refl,
      subst N old-are c.in_ok-plies.ensures,
      subst S c.as_slice-then-not-made.ensures.value ((c.shows_old_end.ensures setting past stands).0 c.if-shows_old_end.true),
    )

pub returns : goal.returns
returns c = λ past stands.
    let setting = setting_of c.args.method.now in
    let recovers = c.args.method.now.recovers in
    let game : SettlerState = c.args.captured.now.session.settler in
    let old-are : c.moves-old.result.now ≡ plies_of game = c.moves-old.ensures.plies ∙ ap plies_of c.settler-settler.ensures.same in
    let plies = c.in_ok-plies.plies.items in
    let more = c.in-Ok.made.has_more in
    let N : List Ply → Type 0 = λ xs. IsNewLine xs c.args.stays c.args.moves.now plies in
    let R : List Ply → Type 0 = λ xs. Replaces setting recovers past (plies_of game) xs more c.in-Ok.made.bytes.items in
    let E : SettlerState → Type 0 = λ s. IsResult (position_of s) s.score.sign c.result_of.result in
    let all : c.args.stays + (length c.moves-old.result.now - c.args.stays) ≡ length (plies_of game) = omega (arith, ap length old-are, c.requires.within) in
    let other : more ≡ false → ShowsOldEnd setting past (plies_of game) plies → ⊥ = elim c.else-not-made.branch [
      | else-not-made-via-then-not-made+else-shows_old_end w ↦ (λ none shows.
          let S : List Ply → Type 0 = λ xs. ShowsOldEnd setting past (plies_of game) xs in
          iff_false (w.shows_old_end.ensures setting past stands) w.if-shows_old_end.false (subst S (sym w.as_slice-then-not-made.ensures.value) shows))
      | else-not-made-via-else-not-made w ↦ (λ none shows. not_both more w.if-not-made.false none)
    ] in (
      plies,
      refl,
      refl,
      subst N old-are c.in_ok-plies.ensures,
      all,
      subst E c.settler-settler.ensures.same c.result_of.ensures,
      (more, subst R c.as_slice.ensures.value (c.in-Ok.ensures.made past stands), other),
    )
