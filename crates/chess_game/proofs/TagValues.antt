-- The values of tags: one is changed, or all are set one after another.
use Rattle.std.proofs.Common.{◌≡◌, ◌∙◌, ℕ, ◌<◌, true, false, List, [], ◌∷◌, length, get_or, set, get_or-set_same, get_or-set_other, Option, Some, None, refl, sym, ap, subst, arith}
use Rattle.std.specs.Prelude.{if◌then◌else◌}
use Rattle.std.specs.String.{string_bytes}
use Rattle.std.specs.declared.string.String.{String}
use Rattle.std.proofs.lemmas.Bool.{eqb-true, eqb-false}
use Rattle.std.proofs.Math.Path.{fun_ext}
use Rattle.chess_game.specs.declared.values.Tag.{Tag}
use Rattle.chess_game.specs.declared.values.Tag.TheVariants.{Event, Site, Date, Round, White, Black}
use Rattle.chess_game.specs.TagNames.{all_tags, tag_index, is_tag}
use Rattle.chess_game.specs.Values.{TagValues, IsValue, AreValues, unknown_of, value_of, value_or, values_by, with_value}

-- ---- each tag is in its place

pub tag_at : (tag : Tag) → get_or all_tags (tag_index tag) Event ≡ tag
tag_at Event = refl
tag_at Site = refl
tag_at Date = refl
tag_at Round = refl
tag_at White = refl
tag_at Black = refl

pub index_below : (tag : Tag) → tag_index tag < length all_tags
index_below Event = omega arith
index_below Site = omega arith
index_below Date = omega arith
index_below Round = omega arith
index_below White = omega arith
index_below Black = omega arith

pub same_tag : (tag other : Tag) → is_tag tag other ≡ true → tag ≡ other
same_tag tag other is = sym (tag_at tag) ∙ ap (λ k. get_or all_tags k Event) (eqb-true (tag_index tag) (tag_index other) is) ∙ tag_at other

-- ---- values are those of the tags

pub value_by : (rule : Tag → List ℕ) (tag : Tag) → value_of tag (values_by rule) ≡ rule tag
value_by rule Event = refl
value_by rule Site = refl
value_by rule Date = refl
value_by rule Round = refl
value_by rule White = refl
value_by rule Black = refl

pub by_value : (values : TagValues) → values ≡ values_by (λ tag. value_of tag values)
by_value values = refl

pub same_values : (one other : TagValues) → ((tag : Tag) → value_of tag one ≡ value_of tag other) → one ≡ other
same_values one other same = by_value one ∙ ap values_by (fun_ext same) ∙ sym (by_value other)

-- ---- the value of one tag is changed

pub fit_with : (tag : Tag) (value : List ℕ) (values : TagValues) → AreValues values → IsValue tag value → AreValues (with_value tag value values)
fit_with tag value values all new other =
    let rule : Tag → List ℕ = λ t. if is_tag tag t then value else value_of t values in
    subst (IsValue other) (sym (value_by rule other)) (elim (is_tag tag other) as (λ b. is_tag tag other ≡ b → IsValue other (if b then value else value_of other values)) [
      | true ↦ λ e. let P : Tag → Type 0 = λ t. IsValue t value in subst P (same_tag tag other e) new
      | false ↦ λ e. all other
    ] refl)

-- the same value, where it is known as another text
pub same_fit : (tag : Tag) (value text : List ℕ) → text ≡ value → IsValue tag value → IsValue tag text
same_fit tag value text e h = subst (IsValue tag) (sym e) h

-- the values that are stored
abbrev pub stored : {A : Type 0} → List (Option (String A)) → Tag → List ℕ
stored texts tag = value_or (unknown_of tag) (get_or texts (tag_index tag) None)

stored_rule : {A : Type 0} (texts : List (Option (String A))) (tag : Tag) (text : String A) (other : Tag) → tag_index tag < length texts
    → stored (set texts (tag_index tag) (Some text)) other ≡ (if is_tag tag other then string_bytes text else value_of other (values_by (stored texts)))
stored_rule texts tag text other lt =
    let i = tag_index tag in
    let j = tag_index other in
    elim (is_tag tag other) as (λ b. is_tag tag other ≡ b → value_or (unknown_of other) (get_or (set texts i (Some text)) j None)
    ≡ (if b then string_bytes text else value_of other (values_by (stored texts)))) [
      | true ↦ λ e. ap (λ k. value_or (unknown_of other) (get_or (set texts i (Some text)) k None)) (sym (eqb-true i j e)) ∙ ap (value_or (unknown_of other)) (get_or-set_same texts i (Some text) None lt)
      | false ↦ λ e. ap (value_or (unknown_of other)) (get_or-set_other texts i j (Some text) None (λ same. eqb-false i j e (sym same))) ∙ sym (value_by (stored texts) other)
    ] refl

pub stored_with : {A : Type 0} (texts : List (Option (String A))) (tag : Tag) (text : String A) → tag_index tag < length texts
    → values_by (stored (set texts (tag_index tag) (Some text))) ≡ with_value tag (string_bytes text) (values_by (stored texts))
stored_with texts tag text lt = ap values_by (fun_ext (λ other. stored_rule texts tag text other lt))

-- ---- the values of these tags are set, one after another

abbrev pub with_values : TagValues → List Tag → TagValues → TagValues
with_values values [] start = start
with_values values (tag ∷ tags) start = with_values values tags (with_value tag (value_of tag values) start)

pub with_all : (values start : TagValues) → with_values values all_tags start ≡ values
with_all values start = refl
