-- The one candidate is the pair that the picture confirms.
use Rattle.std.proofs.Common.{◌≡◌, ℕ, ◌≤◌, inl, inr, List, Contains, sym, ap, subst, ◌∙◌, arith}
use Rattle.std.proofs.lemmas.Bool.{cases_lt}
use Rattle.chess_rules.specs.declared.chess_move.Move.{Move}
use Rattle.chess_rules.specs.declared.parts.Parts.{Parts}
use Rattle.settle_core.specs.Entries.{Entry}
use Rattle.settle_core.specs.Settling.{reached}
use Rattle.settle_core.specs.declared.plies.Seen.{Seen}
use Rattle.unseen_pairs.specs.declared.pair.Pair.{Pair}
use Rattle.unseen_pairs.specs.declared.pair.Recovery.{Recovery}
use Rattle.unseen_pairs.specs.declared.confirming.Candidate.{Candidate}
use Rattle.unseen_pairs.specs.declared.confirming.Confirmed.{Confirmed}
use Rattle.unseen_pairs.specs.Pairs.{Confirms, ExplainsAt, GoesOn, ends}
use Rattle.unseen_pairs.specs.Candidates.{IsCandidate, ListsCandidates}
use Rattle.unseen_pairs.specs.Inside.Waiting.{Follows, IsOnlyOne}

abbrev pub recovery_of : Confirmed → Recovery
recovery_of one = record {
  pair = one.candidate.pair;
  before = one.candidate.before;
  middle = one.candidate.middle;
  after = one.candidate.after;
  reading = one.candidate.reading;
  sequel = one.sequel;
}

-- a candidate of this pair leads to where the pair does
leads :
    (start : Parts) (moves : List Move) (waiting : List Entry) (cs : List Candidate) (c : Candidate) (pair : Pair)
    → ListsCandidates start moves waiting cs → Contains cs c → c.pair ≡ pair → c.after ≡ ends start moves pair
leads start moves waiting cs c pair lists k same =
    let is = lists.each c k in
    is.after_is ∙ ap (λ (z : Pair). ends start moves z) same

follows :
    (start : Parts) (moves : List Move) (waiting : List Entry) (cs : List Candidate) (c : Candidate) (seen : List ℕ) (a : Seen)
    → ListsCandidates start moves waiting cs → Contains cs c → GoesOn (reached start moves) c.after seen a → Follows (reached start moves) c seen a
follows start moves waiting cs c seen a lists k g = let is = lists.each c k in record { shown = is.shown_is; goes = g }

pub one_confirmed :
    (start : Parts) (moves : List Move) (waiting : List Entry) (cs : List Candidate) (seen : List ℕ) (one : Confirmed)
    → ListsCandidates start moves waiting cs → IsOnlyOne (reached start moves) cs seen one → Confirms start moves waiting seen (recovery_of one)
one_confirmed start moves waiting cs seen one lists h =
    let found : Candidate = one.candidate in
    let is : IsCandidate start moves waiting found = lists.each found h.listed in
    let goes : GoesOn (reached start moves) (ends start moves found.pair) seen one.sequel = subst (λ (p : Parts). GoesOn (reached start moves) p seen one.sequel) is.after_is h.goes_on in
    record {
      place = found.age;
      entry = is.entry;
      explains = is.at;
      first = λ k other low at.
          let d = lists.whole found.pair k other at in
          let after : (d.0).after ≡ ends start moves found.pair = leads start moves waiting cs d.0 found.pair lists d.1 d.2 in
          let old : (d.0).age ≤ found.age = h.oldest d.0 one.sequel d.1
          (follows start moves waiting cs d.0 seen one.sequel lists d.1 (subst (λ (p : Parts). GoesOn (reached start moves) p seen one.sequel) (sym after) goes)) in
          let age : (d.0).age ≡ k = d.3 in
          omega arith;
      reading_is = is.reading_is;
      before_is = is.before_is;
      middle_is = is.middle_is;
      after_is = is.after_is;
      goes_on = goes;
      alone = λ pair k other a at g.
          let d = lists.whole pair k other at in
          let after : (d.0).after ≡ ends start moves pair = leads start moves waiting cs d.0 pair lists d.1 d.2 in
          sym d.2 ∙ h.alone d.0 a d.1 (follows start moves waiting cs d.0 seen a lists d.1 (subst (λ (p : Parts). GoesOn (reached start moves) p seen a) (sym after) g));
    }

pub confirmed_one :
    (start : Parts) (moves : List Move) (waiting : List Entry) (cs : List Candidate) (seen : List ℕ) (r : Recovery)
    → ListsCandidates start moves waiting cs → Confirms start moves waiting seen r → (one : Confirmed) × IsOnlyOne (reached start moves) cs seen one
confirmed_one start moves waiting cs seen r lists h =
    let c = lists.whole r.pair h.place h.entry h.explains in
    let after : (c.0).after ≡ ends start moves r.pair = leads start moves waiting cs c.0 r.pair lists c.1 c.2 in
    let same : (d : Candidate) (a : Seen) → Contains cs d → GoesOn (reached start moves) d.after seen a → d.pair ≡ r.pair = λ d a k g.
    let is = lists.each d k in
    h.alone d.pair d.age is.entry a is.at (subst (λ (p : Parts). GoesOn (reached start moves) p seen a) is.after_is g) in (
      record { candidate = c.0; sequel = r.sequel },
      record {
        listed = c.1;
        goes_on = subst (λ (p : Parts). GoesOn (reached start moves) p seen r.sequel) (sym after) h.goes_on;
        alone = λ d a k f. same d a k f.goes ∙ sym c.2;
        oldest = λ d a k f.
            let age : (c.0).age ≡ h.place = c.3 in
            elim (cases_lt h.place d.age) [
              | inl low ↦
                  let is = lists.each d k in
                  absurd (h.first d.age is.entry low (subst (λ (z : Pair). ExplainsAt start moves waiting z d.age is.entry) (same d a k f.goes) is.at))
              | inr high ↦ omega arith
            ];
      },
    )
