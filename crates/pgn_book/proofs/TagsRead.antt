-- Reading the lines of tags, one after another.
use Rattle.std.proofs.Common.{◌≡◌, ◌∙◌, ℕ, false, List, [], ◌∷◌, refl, sym, ap, subst}
use Rattle.chess_game.specs.declared.values.Tag.{Tag}
use Rattle.chess_game.specs.TagNames.{all_tags, tag_name}
use Rattle.chess_game.specs.Values.{TagValues, AreValues, IsValue, value_of, with_value}
use Rattle.pgn_book.specs.Inside.Parse.{HaveValues, next_line, value_at, value_part}
use Rattle.chess_game.proofs.TagValues.{with_all, with_values}

-- where these tags are left, the rest of the text gives their values
pub record Reads (values : TagValues) (left : List Tag) (rest : List ℕ) (tags : TagValues) : Type 0 where
  pub have : HaveValues left values rest
  pub gives : with_values values left tags ≡ values

pub reads_all : (values : TagValues) (text : List ℕ) (tags : TagValues) → HaveValues all_tags values text → Reads values all_tags text tags
reads_all values text tags have = record { have = have; gives = with_all values tags }

pub reads_next : (values : TagValues) (tag : Tag) (left : List Tag) (rest : List ℕ) (tags new : TagValues) → Reads values (tag ∷ left) rest tags
    → new ≡ with_value tag (value_at false (value_part (tag_name tag) rest)) tags → Reads values left (next_line (value_part (tag_name tag) rest)) new
reads_next values tag left rest tags new reads is =
    record { have = reads.have.1; gives = ap (with_values values left) (is ∙ ap (λ v. with_value tag v tags) (sym reads.have.0)) ∙ reads.gives }

pub fit_next : (values : TagValues) (tag : Tag) (left : List Tag) (rest : List ℕ) → AreValues values → HaveValues (tag ∷ left) values rest
    → IsValue tag (value_at false (value_part (tag_name tag) rest))
fit_next values tag left rest all have = subst (IsValue tag) have.0 (all tag)

with_same : (one other : TagValues) (tags : List Tag) (text : List ℕ) (start : TagValues) → HaveValues tags one text → HaveValues tags other text
    → with_values one tags start ≡ with_values other tags start
with_same one other [] text start h k = refl
with_same one other (tag ∷ tags) text start h k =
    ap (λ v. with_values one tags (with_value tag v start)) (h.0 ∙ sym k.0)
    ∙ with_same one other tags (next_line (value_part (tag_name tag) text)) (with_value tag (value_of tag other) start) h.1 k.1

-- A text has one list of values.
pub one_list : (one other : TagValues) (text : List ℕ) → HaveValues all_tags one text → HaveValues all_tags other text → one ≡ other
one_list one other text h k = sym (with_all one one) ∙ with_same one other all_tags text one h k ∙ with_all other one
