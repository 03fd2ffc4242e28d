-- What is left when a stream was given on, wholly or in part.
use Rattle.std.proofs.Common.{◌≡◌, ◌⊎◌, inl, inr, ℕ, ◌+◌, ◌≤◌, List, [], ◌++◌, length, take, Option, Some, None, Bool, false, true, refl, sym, ◌∙◌, ap, subst, append_assoc, append-nil, length-append, arith}
use Rattle.std.proofs.KnownBytes.{Appends-nil, Appends-trans, Consumes-kept, Consumes-nil, Consumes-trans}
use Rattle.std.proofs.lemmas.List.{length-take-le}
use Rattle.std.specs.Io.KnownBytes.{Appends, Consumes, IsAtEnd, Keeps}
use Rattle.dgt_frame.specs.declared.decode.Decoder.{Decoder}
use Rattle.watched_streams.specs.declared.chunks.ReadChunk.{ReadChunk}
use Rattle.watched_streams.specs.Input.{GivesChunk}
use Rattle.board_events.specs.Limits.{limit}
use Rattle.board_events.specs.Settings.{Setting}
use Rattle.watched_streams.specs.Input.{ReadsWithin}
use Rattle.watched_streams.proofs.OutputLemmas.{part_behind}
use Rattle.watched_streams.proofs.InputLemmas.{cut_bytes}
use Rattle.recovery.specs.declared.keeper.Keeper.{Keeper}
use Rattle.recovery.specs.declared.refusal.RecoverError.{RecoverError}
use Rattle.recovery.specs.declared.refusal.RecoverError.TheVariants.{Read, Write, Lines, TooLong, Memory}
use Rattle.recovery.specs.Inside.Passing.{StandsForStream}
use Rattle.recovery.specs.Inside.Progress.{BreaksOff, Concludes, PassesOn, HasBegun, HasGiven, StopsAfter}
use Rattle.recovery.specs.Streams.{RecoversAll, RecoversFirst, RecoversFront, RecoversRead, RecoversSome, RefusesNext}
use Rattle.recovery.specs.Weaving.{Recovers}

-- Nothing was read.
pub given_none : (decoder : Decoder) (keeper : Keeper) (setting : Setting) (input written said : Option (List ℕ)) → StandsForStream decoder keeper setting [] [] []
    → HasGiven decoder keeper setting 0 input input written written said said
given_none decoder keeper setting input written said stands = ([], [], [], refl, Consumes-nil input, stands, Appends-nil written, Appends-nil said)

pub has_begun : (decoder : Decoder) (keeper : Keeper) (setting : Setting) (count : ℕ) (input now written so_far said told : Option (List ℕ))
    → HasGiven decoder keeper setting count input now written so_far said told → HasBegun decoder keeper count
has_begun decoder keeper setting count input now written so_far said told done = (setting, done.0, done.1, done.2, done.3, done.5)

-- What a chunk adds.
record Given (decoder : Decoder) (keeper : Keeper) (setting : Setting) (bytes : List ℕ) (written written' said said' : Option (List ℕ)) : Type 0 where
  woven : List ℕ
  text : List ℕ
  stands : StandsForStream decoder keeper setting bytes woven text
  writes : Appends written written' woven
  says : Appends said said' text

with_chunk : (old new : Decoder) (keeper k : Keeper) (setting : Setting) (count : ℕ) (chunk : List ℕ) (input now written so_far after said told told' : Option (List ℕ))
    → (done : HasGiven old keeper setting count input now written so_far said told) → PassesOn old keeper count chunk new k [] so_far after told told'
    → Given new k setting (done.0 ++ chunk) written after said told'
with_chunk old new keeper k setting count chunk input now written so_far after said told told' done gives =
    let given = gives setting done.0 done.1 done.2 done.3 done.5 in
    record {
      woven = done.1 ++ given.0;
      text = done.2 ++ given.1;
      stands = subst (λ ws. StandsForStream new k setting (done.0 ++ chunk) ws (done.2 ++ given.1)) (append-nil (done.1 ++ given.0)) given.2;
      writes = Appends-trans written so_far after done.1 given.0 done.6 given.3;
      says = Appends-trans said told told' done.2 given.1 done.7 given.4;
    }

-- A chunk was given on.
pub given_more : (old new : Decoder) (keeper k : Keeper) (setting : Setting) (count room : ℕ) (buffer : List ℕ) (chunk : ReadChunk) (input now left written so_far after said told told' : Option (List ℕ))
    → chunk.past ≡ false → HasGiven old keeper setting count input now written so_far said told → GivesChunk room buffer chunk now left
    → PassesOn old keeper count (take chunk.within buffer) new k [] so_far after told told'
    → HasGiven new k setting (count + chunk.within) input left written after said told'
given_more old new keeper k setting count room buffer chunk input now left written so_far after said told told' within done gives on =
    let heard = take chunk.within buffer in
    let g = with_chunk old new keeper k setting count heard input now written so_far after said told told' done on in (
      done.0 ++ heard,
      g.woven,
      g.text,
      omega (arith, length-append done.0 heard, length-take-le chunk.within buffer gives.fits, done.3),
      Consumes-trans input now left done.0 heard done.4 (gives.none_past within).2,
      g.stands,
      g.writes,
      g.says,
    )

-- All that was read was given on.
pub read_given : (decoder : Decoder) (keeper : Keeper) (setting : Setting) (count : ℕ) (input now left written so_far said told : Option (List ℕ))
    → HasGiven decoder keeper setting count input now written so_far said told → Keeps now left → Concludes decoder keeper → RecoversRead setting input left written so_far said told
read_given decoder keeper setting count input now left written so_far said told done kept concludes =
    (done.0, done.1, done.2, Consumes-kept input now left done.0 done.4 kept, concludes setting done.0 done.1 done.2 done.5, done.6, done.7)

pub ended_given : (decoder : Decoder) (keeper : Keeper) (setting : Setting) (count : ℕ) (input now left written so_far said told : Option (List ℕ))
    → HasGiven decoder keeper setting count input now written so_far said told → Consumes now left [] → Concludes decoder keeper → RecoversRead setting input left written so_far said told
ended_given decoder keeper setting count input now left written so_far said told done read concludes =
    let consumed : Consumes input left (done.0 ++ []) = Consumes-trans input now left done.0 [] done.4 read in
    (done.0, done.1, done.2, subst (Consumes input left) (append-nil done.0) consumed, concludes setting done.0 done.1 done.2 done.5, done.6, done.7)

pub all_given : (decoder : Decoder) (keeper : Keeper) (setting : Setting) (count : ℕ) (input now left written so_far said told : Option (List ℕ)) → count ≤ limit
    → HasGiven decoder keeper setting count input now written so_far said told → Consumes now left [] → IsAtEnd left → Concludes decoder keeper → RecoversAll setting input written so_far said told
all_given decoder keeper setting count None now left written so_far said told within done read end concludes = tt
all_given decoder keeper setting count (Some all) None left written so_far said told within done read end concludes = absurd done.4
all_given decoder keeper setting count (Some all) (Some ahead) None written so_far said told within done read end concludes = absurd read
all_given decoder keeper setting count (Some all) (Some ahead) (Some left) written so_far said told within done read end concludes =
    let bytes_are : done.0 ≡ all = sym (done.4 ∙ ap (λ bs. done.0 ++ bs) (read ∙ end) ∙ append-nil done.0) in (
      done.1,
      done.2,
      omega (arith, done.3, within, ap length bytes_are),
      subst (λ bs. Recovers setting bs done.1 done.2) bytes_are (concludes setting done.0 done.1 done.2 done.5),
      done.6,
      done.7,
    )

-- There are more bytes than may be.
pub first_given : (old new : Decoder) (keeper k : Keeper) (setting : Setting) (count room : ℕ) (buffer : List ℕ) (chunk : ReadChunk) (input now left written so_far after said told told' : Option (List ℕ))
    → count + room ≡ limit → chunk.past ≡ true → HasGiven old keeper setting count input now written so_far said told → GivesChunk room buffer chunk now left
    → PassesOn old keeper count (take chunk.within buffer) new k [] so_far after told told' → Concludes new k → RecoversFirst setting input written after said told'
first_given old new keeper k setting count room buffer chunk None now left written so_far after said told told' full past done gives on concludes = tt
first_given old new keeper k setting count room buffer chunk (Some all) None left written so_far after said told told' full past done gives on concludes = absurd done.4
first_given old new keeper k setting count room buffer chunk (Some all) (Some ahead) None written so_far after said told told' full past done gives on concludes = absurd gives.consumes
first_given old new keeper k setting count room buffer chunk (Some all) (Some ahead) (Some left) written so_far after said told told' full past done gives on concludes =
    let heard = take chunk.within buffer in
    let g = with_chunk old new keeper k setting count heard (Some all) (Some ahead) written so_far after said told told' done on in (
      done.0 ++ heard,
      gives.beyond ++ left,
      g.woven,
      g.text,
      done.4 ∙ ap (λ bs. done.0 ++ bs) (gives.consumes ∙ append_assoc heard gives.beyond left) ∙ sym (append_assoc done.0 heard (gives.beyond ++ left)),
      omega (arith, length-append done.0 heard, length-take-le chunk.within buffer gives.fits, done.3, (gives.one_past past).0, full),
      omega (arith, length-append gives.beyond left, (gives.one_past past).1),
      concludes setting (done.0 ++ heard) g.woven g.text g.stands,
      g.writes,
      g.says,
    )

-- What was given on of what was read, with all its lines, is a front.
front_of : (setting : Setting) (bytes behind woven text : List ℕ) (input left written after said told : Option (List ℕ)) (lines_failed : Bool)
    → Consumes input left (bytes ++ behind) → Recovers setting bytes woven text → Appends written after woven → Appends said told text
    → RecoversFront setting input left written after said told lines_failed
front_of setting bytes behind woven text input left written after said told lines_failed consumes recovers writes says = record {
  bytes = bytes;
  after = behind;
  woven = woven;
  text = text;
  part = [];
  consumes = consumes;
  recovers = recovers;
  writes = (woven, [], sym (append-nil woven), writes);
  says = subst (Appends said told) (sym (append-nil text)) says;
  unfinished = inl refl;
}

front_of_some : (setting : Setting) (input left written after said told : Option (List ℕ)) (lines_failed : Bool) → RecoversSome setting input left written after said told
    → RecoversFront setting input left written after said told lines_failed
front_of_some setting input left written after said told lines_failed some =
    front_of setting some.0 some.1 some.2 some.3 input left written after said told lines_failed some.4 some.6 some.7 some.8

pub front_of_read : (setting : Setting) (input left written after said told : Option (List ℕ)) (lines_failed : Bool) → RecoversRead setting input left written after said told
    → RecoversFront setting input left written after said told lines_failed
front_of_read setting input left written after said told lines_failed read =
    front_of setting read.0 [] read.1 read.2 input left written after said told lines_failed (subst (Consumes input left) (sym (append-nil read.0)) read.3) read.4 read.5 read.6

-- A chunk was given on, and more was read.
pub front_past : (old new : Decoder) (keeper k : Keeper) (setting : Setting) (count room : ℕ) (buffer : List ℕ) (chunk : ReadChunk) (input now left written so_far after said told told' : Option (List ℕ)) (lines_failed : Bool)
    → HasGiven old keeper setting count input now written so_far said told → GivesChunk room buffer chunk now left
    → PassesOn old keeper count (take chunk.within buffer) new k [] so_far after told told' → Concludes new k → RecoversFront setting input left written after said told' lines_failed
front_past old new keeper k setting count room buffer chunk input now left written so_far after said told told' lines_failed done gives on concludes =
    let heard = take chunk.within buffer in
    let g = with_chunk old new keeper k setting count heard input now written so_far after said told told' done on in
    let consumed : Consumes input left (done.0 ++ (heard ++ gives.beyond)) = Consumes-trans input now left done.0 (heard ++ gives.beyond) done.4 gives.consumes in
    front_of setting (done.0 ++ heard) gives.beyond g.woven g.text input left written after said told' lines_failed (subst (Consumes input left) (sym (append_assoc done.0 heard gives.beyond)) consumed)
    (concludes setting (done.0 ++ heard) g.woven g.text g.stands) g.writes g.says

refuses_within : (setting : Setting) (bytes unread dropped : List ℕ) → RefusesNext setting bytes unread → RefusesNext setting bytes (unread ++ dropped)
refuses_within setting bytes unread dropped r = record {
  events = r.events;
  rest = r.rest;
  next = r.next;
  later = r.later ++ dropped;
  refused = r.refused;
  rest_then = r.rest_then;
  shown = r.shown;
  parts = ap (λ bs. bs ++ dropped) r.parts ∙ append_assoc r.next r.later dropped;
  one_more = r.one_more;
  at_last = r.at_last;
  another = r.another;
}

-- Memory ran out amid a chunk.
pub some_broken : (old : Decoder) (keeper : Keeper) (setting : Setting) (count room : ℕ) (buffer : List ℕ) (chunk : ReadChunk) (input now left written so_far after said told told' : Option (List ℕ))
    → HasGiven old keeper setting count input now written so_far said told → GivesChunk room buffer chunk now left
    → BreaksOff Memory old keeper count (take chunk.within buffer) so_far after told told' → RecoversSome setting input left written after said told'
some_broken old keeper setting count room buffer chunk input now left written so_far after said told told' done gives breaks =
    let heard = take chunk.within buffer in
    let cut = breaks setting done.0 done.1 done.2 done.3 done.5 in
    let consumed : Consumes input left (done.0 ++ (heard ++ gives.beyond)) = Consumes-trans input now left done.0 (heard ++ gives.beyond) done.4 gives.consumes in (
      done.0 ++ cut.0,
      cut.1 ++ gives.beyond,
      done.1 ++ cut.2,
      done.2 ++ cut.3,
      subst (Consumes input left) (cut_bytes done.0 heard cut.0 cut.1 gives.beyond cut.4) consumed,
      refuses_within setting (done.0 ++ cut.0) cut.1 gives.beyond cut.7,
      cut.5,
      Appends-trans written so_far after done.1 cut.2 done.6 cut.6.0,
      Appends-trans said told told' done.2 cut.3 done.7 cut.6.1,
    )

-- A refusal came amid a chunk.
pub front_broken : (error : RecoverError) (old : Decoder) (keeper : Keeper) (setting : Setting) (count room : ℕ) (buffer : List ℕ) (chunk : ReadChunk) (input now left written so_far after said told told' : Option (List ℕ)) (lines_failed : Bool)
    → (error ≡ Lines → lines_failed ≡ true) → HasGiven old keeper setting count input now written so_far said told → GivesChunk room buffer chunk now left
    → BreaksOff error old keeper count (take chunk.within buffer) so_far after told told' → RecoversFront setting input left written after said told' lines_failed
front_broken Memory old keeper setting count room buffer chunk input now left written so_far after said told told' lines_failed failed done gives breaks =
    front_of_some setting input left written after said told' lines_failed (some_broken old keeper setting count room buffer chunk input now left written so_far after said told told' done gives breaks)
front_broken Write old keeper setting count room buffer chunk input now left written so_far after said told told' lines_failed failed done gives breaks =
    let heard = take chunk.within buffer in
    let cut = breaks setting done.0 done.1 done.2 done.3 done.5 in
    let consumed : Consumes input left (done.0 ++ (heard ++ gives.beyond)) = Consumes-trans input now left done.0 (heard ++ gives.beyond) done.4 gives.consumes in
    record {
      bytes = done.0 ++ cut.0;
      after = cut.1 ++ gives.beyond;
      woven = done.1 ++ cut.2;
      text = done.2 ++ cut.3;
      part = [];
      consumes = subst (Consumes input left) (cut_bytes done.0 heard cut.0 cut.1 gives.beyond cut.4) consumed;
      recovers = cut.5;
      writes = part_behind written so_far after done.1 cut.2 done.6 cut.6.0;
      says = subst (Appends said told') (sym (append-nil (done.2 ++ cut.3))) (Appends-trans said told told' done.2 cut.3 done.7 cut.6.1);
      unfinished = inl refl;
    }
front_broken Lines old keeper setting count room buffer chunk input now left written so_far after said told told' lines_failed failed done gives breaks =
    let heard = take chunk.within buffer in
    let cut = breaks setting done.0 done.1 done.2 done.3 done.5 in
    let consumed : Consumes input left (done.0 ++ (heard ++ gives.beyond)) = Consumes-trans input now left done.0 (heard ++ gives.beyond) done.4 gives.consumes in
    let last = cut.6.1 in
    let all : Appends said told' (done.2 ++ (cut.3 ++ last.0)) = Appends-trans said told told' done.2 (cut.3 ++ last.0) done.7 last.2 in
    record {
      bytes = done.0 ++ cut.0;
      after = cut.1 ++ gives.beyond;
      woven = done.1 ++ cut.2;
      text = done.2 ++ cut.3;
      part = last.0;
      consumes = subst (Consumes input left) (cut_bytes done.0 heard cut.0 cut.1 gives.beyond cut.4) consumed;
      recovers = cut.5;
      writes = part_behind written so_far after done.1 cut.2 done.6 cut.6.0;
      says = subst (Appends said told') (sym (append_assoc done.2 cut.3 last.0)) all;
      unfinished = inr (failed refl, last.1);
    }
front_broken Read old keeper setting count room buffer chunk input now left written so_far after said told told' lines_failed failed done gives breaks =
    absurd (breaks setting done.0 done.1 done.2 done.3 done.5).6
front_broken TooLong old keeper setting count room buffer chunk input now left written so_far after said told told' lines_failed failed done gives breaks =
    absurd (breaks setting done.0 done.1 done.2 done.3 done.5).6

-- Amid a chunk a read doesn't fail, and no limit is passed.
pub no_other : (error : RecoverError) (old : Decoder) (keeper : Keeper) (setting : Setting) (count : ℕ) (chunk : List ℕ) (input now written so_far after said told told' : Option (List ℕ))
    → HasGiven old keeper setting count input now written so_far said told → BreaksOff error old keeper count chunk so_far after told told' → (error ≡ Read) ⊎ (error ≡ TooLong) → ⊥
no_other error old keeper setting count chunk input now written so_far after said told told' done breaks is =
    let cut = breaks setting done.0 done.1 done.2 done.3 done.5 in
    let S : RecoverError → Type 0 = λ e. StopsAfter e cut.2 cut.3 so_far after told told' in
    elim is [ inl read ↦ (let s : S Read = subst S read cut.6 in s) | inr long ↦ (let s : S TooLong = subst S long cut.6 in s) ]

-- How many bytes were read.
pub reads_within : (decoder : Decoder) (keeper : Keeper) (setting : Setting) (count room : ℕ) (buffer : List ℕ) (chunk : ReadChunk) (input now left written so_far said told : Option (List ℕ)) → count + room ≡ limit
    → HasGiven decoder keeper setting count input now written so_far said told → GivesChunk room buffer chunk now left → ReadsWithin limit input left
reads_within decoder keeper setting count room buffer chunk input now left written so_far said told full done gives =
    let read = take chunk.within buffer ++ gives.beyond in
    (done.0 ++ read, Consumes-trans input now left done.0 read done.4 gives.consumes, omega (arith, length-append done.0 read, done.3, full, gives.bounded))

pub reads_none : (decoder : Decoder) (keeper : Keeper) (setting : Setting) (count : ℕ) (input now left written so_far said told : Option (List ℕ)) → count ≤ limit
    → HasGiven decoder keeper setting count input now written so_far said told → Consumes now left [] → ReadsWithin limit input left
reads_none decoder keeper setting count input now left written so_far said told within done read =
    (done.0 ++ [], Consumes-trans input now left done.0 [] done.4 read, omega (arith, length-append done.0 [], done.3, within))

pub reads_no_more : (decoder : Decoder) (keeper : Keeper) (setting : Setting) (count : ℕ) (input now left written so_far said told : Option (List ℕ)) → count ≤ limit
    → HasGiven decoder keeper setting count input now written so_far said told → Keeps now left → ReadsWithin limit input left
reads_no_more decoder keeper setting count input now left written so_far said told within done kept = (done.0, Consumes-kept input now left done.0 done.4 kept, omega (arith, done.3, within))

-- Of what may come amid a chunk only a write fails the output, and only a line the stream of the lines.
pub write_fails : (error : RecoverError) (failed : Bool) → ((error ≡ Read) ⊎ (error ≡ TooLong) → ⊥) → (error ≡ Lines → failed ≡ false) → (error ≡ Memory → failed ≡ false) → failed ≡ true → error ≡ Write
write_fails Read failed other lines memory is = absurd (other (inl refl))
write_fails Write failed other lines memory is = refl
write_fails Lines failed other lines memory is = absurd (let bad : true ≡ false = sym is ∙ lines refl in cc)
write_fails TooLong failed other lines memory is = absurd (other (inr refl))
write_fails Memory failed other lines memory is = absurd (let bad : true ≡ false = sym is ∙ memory refl in cc)

pub line_fails : (error : RecoverError) (failed : Bool) → ((error ≡ Read) ⊎ (error ≡ TooLong) → ⊥) → (error ≡ Write → failed ≡ false) → (error ≡ Memory → failed ≡ false) → failed ≡ true → error ≡ Lines
line_fails Read failed other write memory is = absurd (other (inl refl))
line_fails Write failed other write memory is = absurd (let bad : true ≡ false = sym is ∙ write refl in cc)
line_fails Lines failed other write memory is = refl
line_fails TooLong failed other write memory is = absurd (other (inr refl))
line_fails Memory failed other write memory is = absurd (let bad : true ≡ false = sym is ∙ memory refl in cc)
