use Rattle.std.proofs.Common.{◌≡◌, ◌∙◌, ◌+◌, ◌++◌, ◌∷◌, [], List, ℕ, Bor, ap, drop, get_or, map, rules, subst, sym, take}
use Rattle.chess_rules.specs.declared.chess_move.Move.{Move}
use Rattle.chess_rules.specs.declared.parts.Parts.{Parts}
use Rattle.chess_rules.specs.After.{after}
use Rattle.typed_lines.specs.Lines.{WordSays}
use Rattle.typed_lines.specs.Words.{without_number}
use Rattle.typed_lines.specs.declared.reading.Word.TheVariants.{Written, Meant, Illegal, Unknown}
use Rattle.typed_lines.proofs.LineLemmas.{ReadSoFar, map_item, map_split, meant_at, read_more, stops_at}
use Rattle.typed_lines.proofs.reading.read_moves.Goals as goal

pub returns-in-Meant : goal.returns-in-Meant
returns-in-Meant c =
    let d : Bor (List ℕ) = record { ref_ptr = (0, 0); now = [] } in
    let words = c.args.words.now in
    let i = c.loop-word.word-index in
    let word = (get_or words i d).now in
    let here = c.loop-word.position in
    let S : List ℕ → Type 0 = λ w. WordSays here w c.in_ok-said.said in
    let says : WordSays here (without_number word) (Meant c.in-Meant.m) = rw c.in-Meant.is at (subst S c.without_number.ensures c.in_ok-said.ensures) in
    meant_at c.args.start here (map (λ (w : Bor (List ℕ)). w.now) words) (map (λ (w : Bor (List ℕ)). w.now) (take i words)) (map (λ (w : Bor (List ℕ)). w.now) (drop (i + 1) words))
    c.loop-word.moves.items word c.len.result c.in-Meant.m c.write_san.result.bytes (map_split words i d c.loop-word-test.true) c.loop-word.invariant (search rules) says c.write_san.ensures.san

pub returns-in-Illegal : goal.returns-in-Illegal
returns-in-Illegal c =
    let d : Bor (List ℕ) = record { ref_ptr = (0, 0); now = [] } in
    let words = c.args.words.now in
    let i = c.loop-word.word-index in
    let word = (get_or words i d).now in
    let here = c.loop-word.position in
    let S : List ℕ → Type 0 = λ w. WordSays here w c.in_ok-said.said in
    let says : WordSays here (without_number word) Illegal = rw c.in-Illegal.is at (subst S c.without_number.ensures c.in_ok-said.ensures) in
    stops_at c.args.start here (map (λ (w : Bor (List ℕ)). w.now) words) (map (λ (w : Bor (List ℕ)). w.now) (take i words)) (map (λ (w : Bor (List ℕ)). w.now) (drop (i + 1) words))
    c.loop-word.moves.items word c.len-in-Illegal.result Illegal (map_split words i d c.loop-word-test.true) c.loop-word.invariant (search rules) says

pub returns-in-Unknown : goal.returns-in-Unknown
returns-in-Unknown c =
    let d : Bor (List ℕ) = record { ref_ptr = (0, 0); now = [] } in
    let words = c.args.words.now in
    let i = c.loop-word.word-index in
    let word = (get_or words i d).now in
    let here = c.loop-word.position in
    let S : List ℕ → Type 0 = λ w. WordSays here w c.in_ok-said.said in
    let says : WordSays here (without_number word) Unknown = rw c.in-Unknown.is at (subst S c.without_number.ensures c.in_ok-said.ensures) in
    stops_at c.args.start here (map (λ (w : Bor (List ℕ)). w.now) words) (map (λ (w : Bor (List ℕ)). w.now) (take i words)) (map (λ (w : Bor (List ℕ)). w.now) (drop (i + 1) words))
    c.loop-word.moves.items word c.len-in-Unknown.result Unknown (map_split words i d c.loop-word-test.true) c.loop-word.invariant (search rules) says

pub loop-word-preserved : goal.loop-word-preserved
loop-word-preserved c =
    let d : Bor (List ℕ) = record { ref_ptr = (0, 0); now = [] } in
    let words = c.args.words.now in
    let i = c.loop-word.word-index in
    let word = (get_or words i d).now in
    let here = c.loop-word.position in
    let m = c.in-Written.m in
    let S : List ℕ → Type 0 = λ w. WordSays here w c.in_ok-said.said in
    let says : WordSays here (without_number word) (Written m) = rw c.in-Written.is at (subst S c.without_number.ensures c.in_ok-said.ensures) in
    let more = read_more c.args.start here (map (λ (w : Bor (List ℕ)). w.now) (take i words)) c.loop-word.moves.items word m c.loop-word.invariant says in
    let W : List (List ℕ) → Type 0 = λ found. ReadSoFar c.args.start found c.play-next.result c.push.new.self.items in
    let next : c.play-next.result ≡ after here m = c.play-next.ensures.after ∙ ap (after here) c.copy.ensures in
    let pushed : c.push.new.self.items ≡ c.loop-word.moves.items ++ m ∷ [] = search rules in
    let N : Parts → Type 0 = λ q. ReadSoFar c.args.start (map (λ (w : Bor (List ℕ)). w.now) (take i words) ++ word ∷ []) q c.push.new.self.items in
    let M : List Move → Type 0 = λ ms. ReadSoFar c.args.start (map (λ (w : Bor (List ℕ)). w.now) (take i words) ++ word ∷ []) (after here m) ms in
    subst W (sym (map_item words i d c.loop-word-test.true)) (subst N (sym next) (subst M (sym pushed) more))
