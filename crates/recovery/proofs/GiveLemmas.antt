-- Bytes that are given on, one event at a time.
use Rattle.std.proofs.Common.{◌≡◌, ◌<◌, ◌+◌, ℕ, List, [], ◌++◌, inl, inr, length, Option, Some, None, refl, sym, ap, subst, arith, ◌∙◌, append_assoc, append-nil, length-append}
use Rattle.std.proofs.KnownBytes.{Appends-kept, Appends-nil, Appends-trans}
use Rattle.std.specs.Io.KnownBytes.{Appends}
use Rattle.dgt_frame.specs.declared.decode.Decoder.{Decoder}
use Rattle.dgt_frame.specs.declared.events.Event.{Event}
use Rattle.unseen_pairs.specs.declared.pair.Recovery.{Recovery}
use Rattle.watched_streams.specs.Output.{AppendsPart}
use Rattle.watched_streams.proofs.OutputLemmas.{part_behind}
use Rattle.board_events.specs.Settings.{Setting}
use Rattle.recovery.specs.declared.keeper.Keeper.{Keeper}
use Rattle.recovery.specs.declared.refusal.RecoverError.{RecoverError}
use Rattle.recovery.specs.declared.refusal.RecoverError.TheVariants.{Read, Write, Lines, TooLong, Memory}
use Rattle.recovery.specs.Inside.Passing.{Adds, PassesBytes, StandsForStream}
use Rattle.recovery.specs.Inside.Progress.{BreaksOff, Concludes, PassesOn, HasBegun, IsPutIn, PutsPart, RefusesAmong}
use Rattle.recovery.specs.Streams.{IsPairLine}
use Rattle.recovery.specs.Weaving.{Recovers}

stands_as : (decoder : Decoder) (keeper : Keeper) (setting : Setting) (bytes bytes' woven woven' text text' : List ℕ) → bytes ≡ bytes' → woven ≡ woven' → text ≡ text'
    → StandsForStream decoder keeper setting bytes woven text → StandsForStream decoder keeper setting bytes' woven' text'
stands_as decoder keeper setting bytes bytes' woven woven' text text' b w t stands =
    subst (λ bs. StandsForStream decoder keeper setting bs woven' text') b (subst (λ ws. StandsForStream decoder keeper setting bytes ws text') w (subst (StandsForStream decoder keeper setting bytes woven) t stands))

recovers_as : (setting : Setting) (bytes woven woven' text text' : List ℕ) → woven ≡ woven' → text ≡ text'
    → Recovers setting bytes woven text → Recovers setting bytes woven' text'
recovers_as setting bytes woven woven' text text' w t recovers = subst (λ ws. Recovers setting bytes ws text') w (subst (Recovers setting bytes woven) t recovers)

-- Frames come with their line.
pub is_put_in : (setting : Setting) (past : List Event) (offset : ℕ) (found : Option Recovery) (frames line : List ℕ) → Adds setting past offset found frames line
    → IsPutIn frames line
is_put_in setting past offset None frames line adds = inl adds
is_put_in setting past offset (Some r) frames line adds =
    let told = adds.1 in
    inr (omega (arith, ap length told.4, length-append {A = ℕ}), (offset, r, told))

-- nothing was given yet
pub gives_start : (decoder : Decoder) (keeper : Keeper) (start : ℕ) (written said : Option (List ℕ)) → PassesOn decoder keeper start [] decoder keeper [] written written said said
gives_start decoder keeper start written said setting bytes woven text at stands = (
  [],
  [],
  stands_as decoder keeper setting bytes (bytes ++ []) woven ((woven ++ []) ++ []) text (text ++ []) (sym (append-nil bytes)) (sym (append-nil (woven ++ []) ∙ append-nil woven)) (sym (append-nil text)) stands,
  Appends-nil written,
  Appends-nil said,
)

passed : (decoder : Decoder) (keeper : Keeper) (setting : Setting) (start offset : ℕ) (bytes chunk : List ℕ) → offset ≡ start + length chunk → length bytes ≡ start → length (bytes ++ chunk) ≡ offset
passed decoder keeper setting start offset bytes chunk offset_is at = omega (arith, length-append bytes chunk, offset_is, at)

-- more bytes, behind which nothing was put in
pub gives_more : (old now new : Decoder) (keeper k k' : Keeper) (start offset : ℕ) (chunk more waiting : List ℕ) (written written' said said' : Option (List ℕ))
    → offset ≡ start + length chunk → PassesBytes now k offset more new k' [] [] → PassesOn old keeper start chunk now k waiting written written' said said'
    → PassesOn old keeper start (chunk ++ more) new k' (waiting ++ more) written written' said said'
gives_more old now new keeper k k' start offset chunk more waiting written written' said said' offset_is passes part setting bytes woven text at stands =
    let before = part setting bytes woven text at stands in
    let sent = woven ++ before.0 in
    let lines = text ++ before.1 in
    let here = passes setting (bytes ++ chunk) (sent ++ waiting) lines (passed now k setting start offset bytes chunk offset_is at) before.2 in (
      before.0,
      before.1,
      stands_as new k' setting ((bytes ++ chunk) ++ more) (bytes ++ (chunk ++ more)) (((sent ++ waiting) ++ more) ++ []) (sent ++ (waiting ++ more)) (lines ++ []) lines
          (append_assoc bytes chunk more) (append-nil ((sent ++ waiting) ++ more) ∙ append_assoc sent waiting more) (append-nil lines) here,
      before.3,
      before.4,
    )

-- a pair was put in behind them
pub gives_pair : (old now new : Decoder) (keeper k k' : Keeper) (start offset : ℕ) (chunk more waiting frames line : List ℕ) (written written' after said said' told : Option (List ℕ))
    → offset ≡ start + length chunk → PassesBytes now k offset more new k' frames line → Appends written' after ((waiting ++ more) ++ frames) → Appends said' told line
    → PassesOn old keeper start chunk now k waiting written written' said said' → PassesOn old keeper start (chunk ++ more) new k' [] written after said told
gives_pair old now new keeper k k' start offset chunk more waiting frames line written written' after said said' told offset_is passes sent tells part setting bytes woven text at stands =
    let before = part setting bytes woven text at stands in
    let all = (waiting ++ more) ++ frames in
    let here = passes setting (bytes ++ chunk) ((woven ++ before.0) ++ waiting) (text ++ before.1) (passed now k setting start offset bytes chunk offset_is at) before.2 in
    let woven_is : ((((woven ++ before.0) ++ waiting) ++ more) ++ frames) ≡ ((woven ++ (before.0 ++ all)) ++ []) = simp (append_assoc, append-nil) in (
      before.0 ++ all,
      before.1 ++ line,
      stands_as new k' setting ((bytes ++ chunk) ++ more) (bytes ++ (chunk ++ more)) ((((woven ++ before.0) ++ waiting) ++ more) ++ frames) ((woven ++ (before.0 ++ all)) ++ [])
          ((text ++ before.1) ++ line) (text ++ (before.1 ++ line)) (append_assoc bytes chunk more) woven_is (append_assoc text before.1 line) here,
      Appends-trans written written' after before.0 all before.3 sent,
      Appends-trans said said' told before.1 line before.4 tells,
    )

-- what waited was written
pub gives_sent : (old new : Decoder) (keeper k : Keeper) (start : ℕ) (chunk waiting : List ℕ) (written written' after said said' : Option (List ℕ))
    → Appends written' after waiting → PassesOn old keeper start chunk new k waiting written written' said said' → PassesOn old keeper start chunk new k [] written after said said'
gives_sent old new keeper k start chunk waiting written written' after said said' sent part setting bytes woven text at stands =
    let before = part setting bytes woven text at stands in
    let woven_is : ((woven ++ before.0) ++ waiting) ≡ ((woven ++ (before.0 ++ waiting)) ++ []) = simp (append_assoc, append-nil) in (
      before.0 ++ waiting,
      before.1,
      stands_as new k setting (bytes ++ chunk) (bytes ++ chunk) ((woven ++ before.0) ++ waiting) ((woven ++ (before.0 ++ waiting)) ++ []) (text ++ before.1) (text ++ before.1) refl woven_is refl before.2,
      Appends-trans written written' after before.0 waiting before.3 sent,
      before.4,
    )

-- So many bytes were given.
pub begun_on : (old new : Decoder) (keeper k : Keeper) (start : ℕ) (chunk waiting : List ℕ) (written written' said said' : Option (List ℕ))
    → HasBegun old keeper start → PassesOn old keeper start chunk new k waiting written written' said said' → HasBegun new k (start + length chunk)
begun_on old new keeper k start chunk waiting written written' said said' begun part =
    let setting = begun.0 in
    let bytes = begun.1 in
    let before = part setting bytes begun.2 begun.3 begun.4 begun.5 in
    (setting, bytes ++ chunk, (begun.2 ++ before.0) ++ waiting, begun.3 ++ before.1, length-append bytes chunk ∙ ap (λ n. n + length chunk) begun.4, before.2)

-- A part of these bytes is one of more.
pub part_longer : (written after : Option (List ℕ)) (bytes more : List ℕ) → AppendsPart written after bytes → AppendsPart written after (bytes ++ more)
part_longer written after bytes more part = (part.0, part.1 ++ more, ap (λ bs. bs ++ more) part.2 ∙ append_assoc part.0 part.1 more, part.3)

-- Memory ran out at the next event, and what waited was written.
pub breaks_memory : (old now : Decoder) (keeper k : Keeper) (start : ℕ) (chunk whole after waiting : List ℕ) (written written' written'' said said' : Option (List ℕ))
    → chunk ≡ whole ++ after → Concludes now k → RefusesAmong now k after → Appends written' written'' waiting → PassesOn old keeper start whole now k waiting written written' said said'
    → BreaksOff Memory old keeper start chunk written written'' said said'
breaks_memory old now keeper k start chunk whole after waiting written written' written'' said said' parts concludes refuses sent part setting bytes woven text at stands =
    let before = part setting bytes woven text at stands in (
      whole,
      after,
      before.0 ++ waiting,
      before.1,
      parts,
      recovers_as setting (bytes ++ whole) ((woven ++ before.0) ++ waiting) (woven ++ (before.0 ++ waiting)) (text ++ before.1) (text ++ before.1) (append_assoc woven before.0 waiting) refl
          (concludes setting (bytes ++ whole) ((woven ++ before.0) ++ waiting) (text ++ before.1) before.2),
      (Appends-trans written written' written'' before.0 waiting before.3 sent, before.4),
      refuses setting (bytes ++ whole) ((woven ++ before.0) ++ waiting) (text ++ before.1) before.2,
    )

-- Of what waited a part was written, and the output has failed.
pub breaks_write : (old now : Decoder) (keeper k : Keeper) (start : ℕ) (chunk whole after waiting : List ℕ) (written written' written'' said said' : Option (List ℕ))
    → chunk ≡ whole ++ after → Concludes now k → AppendsPart written' written'' waiting → PassesOn old keeper start whole now k waiting written written' said said'
    → BreaksOff Write old keeper start chunk written written'' said said'
breaks_write old now keeper k start chunk whole after waiting written written' written'' said said' parts concludes sent part setting bytes woven text at stands =
    let before = part setting bytes woven text at stands in (
      whole,
      after,
      before.0 ++ waiting,
      before.1,
      parts,
      recovers_as setting (bytes ++ whole) ((woven ++ before.0) ++ waiting) (woven ++ (before.0 ++ waiting)) (text ++ before.1) (text ++ before.1) (append_assoc woven before.0 waiting) refl
          (concludes setting (bytes ++ whole) ((woven ++ before.0) ++ waiting) (text ++ before.1) before.2),
      (part_behind written written' written'' before.0 waiting before.3 sent, before.4),
      tt,
    )

line_of : (frames line : List ℕ) → 0 < length line → IsPutIn frames line → IsPairLine line
line_of frames line some (inl none) = absurd (let z : length line ≡ 0 = ap length none.1 in omega (arith, z))
line_of frames line some (inr is) = is.1

-- A pair was recovered, and its line or its frames were written in part.
pub breaks_pair : (error : RecoverError) (old now new : Decoder) (keeper k k' : Keeper) (start offset : ℕ) (chunk whole more after waiting frames line : List ℕ) (written written' written'' said said' said'' : Option (List ℕ))
    → chunk ≡ (whole ++ more) ++ after → offset ≡ start + length whole → 0 < length line → IsPutIn frames line → Concludes now k → Concludes new k' → PassesBytes now k offset more new k' frames line
    → PutsPart error ((waiting ++ more) ++ frames) line written' written'' said' said'' → PassesOn old keeper start whole now k waiting written written' said said'
    → BreaksOff error old keeper start chunk written written'' said said''
breaks_pair Lines old now new keeper k k' start offset chunk whole more after waiting frames line written written' written'' said said' said'' parts offset_is some put concluded concludes passes puts part setting bytes woven text at stands =
    let before = part setting bytes woven text at stands in
    let told = puts.1 in (
      whole,
      more ++ after,
      before.0 ++ waiting,
      before.1,
      parts ∙ append_assoc whole more after,
      recovers_as setting (bytes ++ whole) ((woven ++ before.0) ++ waiting) (woven ++ (before.0 ++ waiting)) (text ++ before.1) (text ++ before.1) (append_assoc woven before.0 waiting) refl
          (concluded setting (bytes ++ whole) ((woven ++ before.0) ++ waiting) (text ++ before.1) before.2),
      (
        (before.0, waiting, refl, Appends-kept written written' written'' before.0 before.3 puts.0),
        (told.0, (line, told.1, line_of frames line some put, told.2), Appends-trans said said' said'' before.1 told.0 before.4 told.3),
      ),
      tt,
    )
breaks_pair Write old now new keeper k k' start offset chunk whole more after waiting frames line written written' written'' said said' said'' parts offset_is some put concluded concludes passes puts part setting bytes woven text at stands =
    let before = part setting bytes woven text at stands in
    let all = (waiting ++ more) ++ frames in
    let here = passes setting (bytes ++ whole) ((woven ++ before.0) ++ waiting) (text ++ before.1) (passed now k setting start offset bytes whole offset_is at) before.2 in
    let there : StandsForStream new k' setting (bytes ++ (whole ++ more)) ((((woven ++ before.0) ++ waiting) ++ more) ++ frames) ((text ++ before.1) ++ line) =
    subst (λ bs. StandsForStream new k' setting bs ((((woven ++ before.0) ++ waiting) ++ more) ++ frames) ((text ++ before.1) ++ line)) (append_assoc bytes whole more) here in
    let woven_is : ((((woven ++ before.0) ++ waiting) ++ more) ++ frames) ≡ (woven ++ (before.0 ++ all)) = simp append_assoc in (
      whole ++ more,
      after,
      before.0 ++ all,
      before.1 ++ line,
      parts,
      recovers_as setting (bytes ++ (whole ++ more)) ((((woven ++ before.0) ++ waiting) ++ more) ++ frames) (woven ++ (before.0 ++ all)) ((text ++ before.1) ++ line) (text ++ (before.1 ++ line))
          woven_is (append_assoc text before.1 line) (concludes setting (bytes ++ (whole ++ more)) ((((woven ++ before.0) ++ waiting) ++ more) ++ frames) ((text ++ before.1) ++ line) there),
      (part_behind written written' written'' before.0 all before.3 puts.0, Appends-trans said said' said'' before.1 line before.4 puts.1),
      tt,
    )
breaks_pair Read old now new keeper k k' start offset chunk whole more after waiting frames line written written' written'' said said' said'' parts offset_is some put concluded concludes passes puts part setting bytes woven text at stands = absurd puts
breaks_pair TooLong old now new keeper k k' start offset chunk whole more after waiting frames line written written' written'' said said' said'' parts offset_is some put concluded concludes passes puts part setting bytes woven text at stands = absurd puts
breaks_pair Memory old now new keeper k k' start offset chunk whole more after waiting frames line written written' written'' said said' said'' parts offset_is some put concluded concludes passes puts part setting bytes woven text at stands = absurd puts
