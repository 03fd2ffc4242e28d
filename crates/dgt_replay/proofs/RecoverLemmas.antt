-- How `recover` ends.
use Rattle.std.proofs.Common.{◌≡◌, ℕ, List, Option, Some, None, Bool, true, false, ◌⊎◌, codes, inl, inr, refl, subst, sym, arith}
use Rattle.std.proofs.KnownBytes.{Appends-kept}
use Rattle.std.specs.Io.KnownBytes.{Keeps}
use Rattle.board_events.specs.Limits.{limit}
use Rattle.board_events.specs.Settings.{Setting}
use Rattle.watched_streams.specs.Input.{ReadsWithin}
use Rattle.recovery.specs.declared.refusal.RecoverError.{RecoverError}
use Rattle.recovery.specs.declared.refusal.RecoverError.TheVariants.{Read, Write, Lines, TooLong, Memory}
use Rattle.recovery.specs.Inside.Status.{message_of, status_of}
use Rattle.recovery.specs.Streams.{RecoversAll, RecoversFirst, RecoversFront, RecoversRead, RecoversSome}
use Rattle.dgt_replay.specs.Does.{RecoversPairs}
use Rattle.text_subcommands.specs.Messages.{Says}
use Rattle.text_subcommands.specs.Streams.{Streams}
use Rattle.dgt_replay.proofs.EndLemmas.{not_both}

-- A flush keeps the bytes.
all_flushed : (setting : Setting) (input written so_far after said told : Option (List ℕ)) → RecoversAll setting input written so_far said told → Keeps so_far after → RecoversAll setting input written after said told
all_flushed setting None written so_far after said told all kept = tt
all_flushed setting (Some bytes) written so_far after said told all kept = (all.0, all.1, all.2, all.3, Appends-kept written so_far after all.0 all.4 kept, all.5)

first_flushed : (setting : Setting) (input written so_far after said told : Option (List ℕ)) → RecoversFirst setting input written so_far said told → Keeps so_far after → RecoversFirst setting input written after said told
first_flushed setting None written so_far after said told first kept = tt
first_flushed setting (Some bytes) written so_far after said told first kept =
    (first.0, first.1, first.2, first.3, first.4, first.5, first.6, first.7, Appends-kept written so_far after first.2 first.8 kept, first.9)

read_flushed : (setting : Setting) (input left written so_far after said told : Option (List ℕ)) → RecoversRead setting input left written so_far said told → Keeps so_far after → RecoversRead setting input left written after said told
read_flushed setting input left written so_far after said told read kept = (read.0, read.1, read.2, read.3, read.4, Appends-kept written so_far after read.1 read.5 kept, read.6)

some_flushed : (setting : Setting) (input left written so_far after said told : Option (List ℕ)) → RecoversSome setting input left written so_far said told → Keeps so_far after → RecoversSome setting input left written after said told
some_flushed setting input left written so_far after said told some kept =
    (some.0, some.1, some.2, some.3, some.4, some.5, some.6, Appends-kept written so_far after some.2 some.7 kept, some.8)

front_flushed : (setting : Setting) (input left written so_far after said told : Option (List ℕ)) (failed : Bool) → RecoversFront setting input left written so_far said told failed → Keeps so_far after
    → RecoversFront setting input left written after said told failed
front_flushed setting input left written so_far after said told failed front kept = record {
  bytes = front.bytes;
  after = front.after;
  woven = front.woven;
  text = front.text;
  part = front.part;
  consumes = front.consumes;
  recovers = front.recovers;
  writes = (front.writes.0, front.writes.1, front.writes.2, Appends-kept written so_far after front.writes.0 front.writes.3 kept);
  says = front.says;
  unfinished = front.unfinished;
}

-- The whole was given on.
pub recover_done : (setting : Setting) (s : Streams) (so_far : Option (List ℕ)) → RecoversAll setting s.input s.written so_far s.said s.said' → Keeps so_far s.written'
    → ReadsWithin limit s.input s.input' → s.reader_failed ≡ false → RecoversPairs setting 0 s
recover_done setting s so_far all kept within reading = record {
  done = λ e. all_flushed setting s.input s.written so_far s.written' s.said s.said' all kept;
  long = λ e. absurd (omega arith);
  fault = λ e. absurd (omega arith);
  memory = λ e. absurd (omega arith);
  known = (0, omega arith, refl);
  bounded = within;
  read = λ e. not_both s.reader_failed e reading;
}

-- The output has failed, or standard error before.
front_stands : (setting : Setting) (s : Streams) (so_far told : Option (List ℕ)) (failed : Bool) → RecoversFront setting s.input s.input' s.written so_far s.said told failed → Keeps so_far s.written'
    → s.out_failed ≡ true → Says told s.said' s.err_failed (codes "write fault\n") → (failed ≡ true → (s.said' ≡ told) × (s.err_failed ≡ true))
    → ((s.out_failed ≡ true) × ((told : Option (List ℕ)) × RecoversFront setting s.input s.input' s.written s.written' s.said told false × Says told s.said' s.err_failed (codes "write fault\n")))
    ⊎ ((s.err_failed ≡ true) × RecoversFront setting s.input s.input' s.written s.written' s.said s.said' true)
front_stands setting s so_far told false front kept failed says silent =
    inl (failed, (told, front_flushed setting s.input s.input' s.written so_far s.written' s.said told false front kept, says))
front_stands setting s so_far told true front kept failed says silent =
    let still = silent refl in
    inr (
      still.1,
      subst (λ (t : Option (List ℕ)). RecoversFront setting s.input s.input' s.written s.written' s.said t true) (sym still.0)
          (front_flushed setting s.input s.input' s.written so_far s.written' s.said told true front kept),
    )

pub recover_broken : (setting : Setting) (status : ℕ) (s : Streams) (so_far told : Option (List ℕ)) (failed : Bool) → status ≡ 3
    → RecoversFront setting s.input s.input' s.written so_far s.said told failed → Keeps so_far s.written'
    → s.out_failed ≡ true → Says told s.said' s.err_failed (codes "write fault\n") → (failed ≡ true → (s.said' ≡ told) × (s.err_failed ≡ true))
    → ReadsWithin limit s.input s.input' → (s.reader_failed ≡ true → RecoversRead setting s.input s.input' s.written so_far s.said told) → RecoversPairs setting status s
recover_broken setting status s so_far told failed three front kept broken says silent within read = record {
  done = λ e. absurd (omega arith);
  long = λ e. absurd (omega arith);
  fault = λ e. inr (front_stands setting s so_far told failed front kept broken says silent);
  memory = λ e. absurd (omega arith);
  known = (2, omega arith, sym three);
  bounded = within;
  read = λ e. (three, (told, read_flushed setting s.input s.input' s.written so_far s.written' s.said told (read e) kept));
}

-- How each refusal ends.
pub recover_refused : (error : RecoverError) (setting : Setting) (status : ℕ) (s : Streams) (message : List ℕ) (so_far told : Option (List ℕ)) (failed : Bool) → status ≡ status_of error → message ≡ message_of error
    → Says told s.said' s.err_failed message → (failed ≡ true → (s.said' ≡ told) × (s.err_failed ≡ true)) → Keeps so_far s.written'
    → (error ≡ Read → s.reader_failed ≡ true) → (error ≡ Write → s.out_failed ≡ true) → (error ≡ Lines → failed ≡ true)
    → (error ≡ Read → RecoversRead setting s.input s.input' s.written so_far s.said told) → (error ≡ TooLong → RecoversFirst setting s.input s.written so_far s.said told)
    → (error ≡ Memory → RecoversSome setting s.input s.input' s.written so_far s.said told) → RecoversFront setting s.input s.input' s.written so_far s.said told failed
    → ReadsWithin limit s.input s.input' → (s.reader_failed ≡ true → error ≡ Read) → RecoversPairs setting status s
recover_refused Read setting status s message so_far told failed is are says silent kept reading working telling read first some front within blamed = record {
  done = λ e. absurd (omega arith);
  long = λ e. absurd (omega arith);
  fault = λ e. inl (reading refl, (told, read_flushed setting s.input s.input' s.written so_far s.written' s.said told (read refl) kept, subst (Says told s.said' s.err_failed) are says));
  memory = λ e. absurd (omega arith);
  known = (2, omega arith, sym is);
  bounded = within;
  read = λ e. (is, (told, read_flushed setting s.input s.input' s.written so_far s.written' s.said told (read refl) kept));
}
recover_refused Write setting status s message so_far told failed is are says silent kept reading working telling read first some front within blamed =
    recover_broken setting status s so_far told failed is front kept (working refl) (subst (Says told s.said' s.err_failed) are says) silent within (λ e. absurd (let bad = blamed e in cc))
recover_refused Lines setting status s message so_far told failed is are says silent kept reading working telling read first some front within blamed =
    let F : Bool → Type 0 = λ f. RecoversFront setting s.input s.input' s.written s.written' s.said told f in
    let still = silent (telling refl) in
    let stands : F true = subst F (telling refl) (front_flushed setting s.input s.input' s.written so_far s.written' s.said told failed front kept) in
    record {
      done = λ e. absurd (omega arith);
      long = λ e. absurd (omega arith);
      fault = λ e. inr (inr (still.1, subst (λ (t : Option (List ℕ)). RecoversFront setting s.input s.input' s.written s.written' s.said t true) (sym still.0) stands));
      memory = λ e. absurd (omega arith);
      known = (2, omega arith, sym is);
      bounded = within;
      read = λ e. absurd (let bad = blamed e in cc);
    }
recover_refused TooLong setting status s message so_far told failed is are says silent kept reading working telling read first some front within blamed = record {
  done = λ e. absurd (omega arith);
  long = λ e. (told, first_flushed setting s.input s.written so_far s.written' s.said told (first refl) kept, subst (Says told s.said' s.err_failed) are says);
  fault = λ e. absurd (omega arith);
  memory = λ e. absurd (omega arith);
  known = (1, omega arith, sym is);
  bounded = within;
  read = λ e. absurd (let bad = blamed e in cc);
}
recover_refused Memory setting status s message so_far told failed is are says silent kept reading working telling read first some front within blamed = record {
  done = λ e. absurd (omega arith);
  long = λ e. absurd (omega arith);
  fault = λ e. absurd (omega arith);
  memory = λ e. inl (told, some_flushed setting s.input s.input' s.written so_far s.written' s.said told (some refl) kept, subst (Says told s.said' s.err_failed) are says);
  known = (3, omega arith, sym is);
  bounded = within;
  read = λ e. absurd (let bad = blamed e in cc);
}

-- No refusal ends with status 0.
pub refused_not_done : {A : Type 0} (error : RecoverError) (status : ℕ) → status ≡ status_of error → status ≡ 0 → A
refused_not_done Read status is zero = absurd (omega arith)
refused_not_done Write status is zero = absurd (omega arith)
refused_not_done Lines status is zero = absurd (omega arith)
refused_not_done TooLong status is zero = absurd (omega arith)
refused_not_done Memory status is zero = absurd (omega arith)
