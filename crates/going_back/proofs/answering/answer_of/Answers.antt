use Rattle.std.proofs.Common.{◌≡◌, ◌∙◌, ℕ, List, [], MatchOption, ap, subst}
use Rattle.chess_rules.specs.declared.parts.Parts.{Parts}
use Rattle.settle_core.specs.declared.plies.Ply.{Ply}
use Rattle.settle_core.specs.Settler.{SettlerState, plies_of}
use Rattle.going_back.specs.Naming.{Names}
use Rattle.going_back.specs.Nearest.{IsNearest}
use Rattle.going_back.proofs.NearLemmas.{nearest_or}
use Rattle.going_back.proofs.answering.answer_of.Goals as goal

pub returns-in_default : goal.returns-in_default
returns-in_default c = λ past stands.
    let to = c.args.to.now in
    let game : SettlerState = c.args.captured.now.session.settler in
    let same = c.settler-settler.ensures.same in
    let plies = c.moves-plies.result.now in
    let plies-are : plies ≡ plies_of game = c.moves-plies.ensures.plies ∙ ap plies_of same in
    let start-is : c.start.result.now ≡ game.start = c.start.ensures ∙ ap (λ (s : SettlerState). s.start) same in
    let begins : c.start-in_default.result.now ≡ game.start = c.start-in_default.ensures ∙ ap (λ (s : SettlerState). s.start) same in
    let N : Parts → Type 0 = λ start. (k : ℕ) → Names start plies to k → ⊥ in
    let M : List Ply → Type 0 = λ xs. (k : ℕ) → Names game.start xs to k → ⊥ in
    let F : Parts → Type 0 = λ start. MatchOption c.nearest_ply.result (plies ≡ []) (IsNearest to start plies) in
    let G : List Ply → Type 0 = λ xs. MatchOption c.nearest_ply.result (xs ≡ []) (IsNearest to game.start xs) in (
      subst M plies-are (subst N start-is c.in_default.ensures.none),
      subst G plies-are (subst F begins (nearest_or to c.start-in_default.result.now plies c.nearest_ply.result c.nearest_ply.ensures.none c.nearest_ply.ensures.some)),
    )
