-- Bytes with what was put in.
use Rattle.std.proofs.Common.{◌≡◌, ℕ, ◌+◌, List, [], ◌∷◌, ◌++◌, length, sym, ap, ◌∙◌, append_assoc, append-nil}
use Rattle.recovery.specs.Weaving.{Put, Weaves}

-- more bytes, behind which nothing was put in
pub weaves_more : (bytes : List ℕ) (puts : List Put) (woven more : List ℕ) → Weaves bytes puts woven → Weaves (bytes ++ more) puts (woven ++ more)
weaves_more bytes [] woven more h = ap (λ bs. bs ++ more) h
weaves_more bytes (put ∷ earlier) woven more h = (
  h.0,
  h.1 ++ more,
  h.2,
  ap (λ bs. bs ++ more) h.3 ∙ append_assoc h.0 h.1 more,
  h.4,
  h.5,
  ap (λ bs. bs ++ more) h.6 ∙ append_assoc (h.2 ++ put.frames) h.1 more,
)

-- one more was put in behind the last byte
pub weaves_put : (bytes : List ℕ) (puts : List Put) (woven : List ℕ) (put : Put) → length bytes ≡ put.offset + 1 → Weaves bytes puts woven
    → Weaves bytes (put ∷ puts) (woven ++ put.frames)
weaves_put bytes puts woven put at h = (bytes, [], woven, sym (append-nil bytes), at, h, sym (append-nil (woven ++ put.frames)))
