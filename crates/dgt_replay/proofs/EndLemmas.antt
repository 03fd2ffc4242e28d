-- How a listing ends.
use Rattle.std.proofs.Common.{◌≡◌, ℕ, List, [], Option, Some, None, Bool, true, false, ◌⊎◌, refl, subst, sym, inl, inr, arith}
use Rattle.std.specs.Io.KnownBytes.{Keeps}
use Rattle.board_events.specs.Limits.{limit}
use Rattle.watched_streams.specs.Input.{ReadsWithin}
use Rattle.board_listing.specs.Listings.{EndsForMemory, ListingEnds, ListsAll, ListsFirst, ListsFront, ListsRead, ListsRefused}
use Rattle.board_listing.specs.Status.{status_of, message_of}
use Rattle.board_listing.specs.declared.stream.ListError.{ListError}
use Rattle.board_listing.specs.declared.stream.ListError.TheVariants.{Memory, Read, Write, TooLong}
use Rattle.std.proofs.KnownBytes.{Appends-kept}
use Rattle.text_subcommands.specs.Messages.{IsTooLong, Says, Tells}
use Rattle.text_subcommands.proofs.MessageLemmas.{tells_fault, tells_memory, tells_refused}
use Rattle.board_listing.specs.declared.listing.Listing.{Listing}
use Rattle.board_listing.specs.declared.listing.Listing.TheVariants.{Events, Pictures, Game, Watched}

pub front_kept : (listing : Listing) (input left written so_far after : Option (List ℕ)) → ListsFront listing input left written so_far → Keeps so_far after → ListsFront listing input left written after
front_kept listing input left written so_far after front kept =
    (front.0, front.1, front.2, front.3, front.4, front.5, front.6, front.7, front.8, front.9, (front.10.0, (front.10.1.0, front.10.1.1, Appends-kept written so_far after front.10.1.0 front.10.1.2 kept)))

pub read_kept : (listing : Listing) (input left written so_far after : Option (List ℕ)) → ListsRead listing input left written so_far → Keeps so_far after → ListsRead listing input left written after
read_kept listing input left written so_far after read kept = (read.0, read.1, read.2, read.3, read.4, read.5, read.6, Appends-kept written so_far after _ read.7 kept)

pub refused_kept : (listing : Listing) (input left written so_far after : Option (List ℕ)) → ListsRefused listing input left written so_far → Keeps so_far after → ListsRefused listing input left written after
refused_kept listing input left written so_far after lists kept =
    (lists.0, lists.1, lists.2, lists.3, lists.4, lists.5, lists.6, lists.7, lists.8, lists.9, Appends-kept written so_far after _ lists.10 kept)

pub first_kept : (listing : Listing) (input written so_far after : Option (List ℕ)) → ListsFirst listing input written so_far → Keeps so_far after → ListsFirst listing input written after
first_kept listing None written so_far after first kept = tt
first_kept listing (Some bytes) written so_far after first kept =
    (first.0, first.1, first.2, first.3, first.4, first.5, first.6, first.7, first.8, first.9, Appends-kept written so_far after _ first.10 kept)

all_kept : (listing : Listing) (input written so_far after : Option (List ℕ)) → ListsAll listing input written so_far → Keeps so_far after → ListsAll listing input written after
all_kept listing None written so_far after all kept = tt
all_kept listing (Some bytes) written so_far after all kept = (all.0, all.1, all.2, all.3, all.4, all.5, Appends-kept written so_far after _ all.6 kept)

-- Where nothing was read or written, or memory ran out at a move.
nothing_for_memory : (listing : Listing) (input left written after : Option (List ℕ)) → Keeps input left → Keeps written after → EndsForMemory listing input left written after
nothing_for_memory Events input left written after read wrote = (read, wrote)
nothing_for_memory (Pictures rotated) input left written after read wrote = (read, wrote)
nothing_for_memory (Game start first rotated) input left written after read wrote = inl (read, wrote)
nothing_for_memory (Watched start first rotated) input left written after read wrote = inl (read, wrote)

refused_for_memory : (listing : Listing) (input left written after : Option (List ℕ)) → ListsRefused listing input left written after → EndsForMemory listing input left written after
refused_for_memory Events input left written after lists = absurd lists.8
refused_for_memory (Pictures rotated) input left written after lists = absurd lists.8
refused_for_memory (Game start first rotated) input left written after lists = inr lists
refused_for_memory (Watched start first rotated) input left written after lists = inr lists

pub none_read : (most : ℕ) (input left : Option (List ℕ)) → Keeps input left → ReadsWithin most input left
none_read most None left kept = ([], tt, omega arith)
none_read most (Some bytes) None kept = absurd kept
none_read most (Some bytes) (Some more) kept = ([], sym kept, omega arith)

-- No stream has failed and has not.
pub not_both : {A : Type 0} (failed : Bool) → failed ≡ true → failed ≡ false → A
not_both failed one other = absurd (let never : ⊥ = cc in never)

pub ends_in_fault : (listing : Listing) (status : ℕ) (input left written after : Option (List ℕ)) (reader_failed out_failed : Bool) → status ≡ 3 → ReadsWithin limit input left
    → ((reader_failed ≡ true) × ListsRead listing input left written after) ⊎ ((out_failed ≡ true) × ListsFront listing input left written after)
    → (reader_failed ≡ true → ListsRead listing input left written after)
    → ListingEnds listing status input left written after reader_failed out_failed
ends_in_fault listing status input left written after reader_failed out_failed three within fault read = record {
  done = λ e. absurd (omega arith);
  long = λ e. absurd (omega arith);
  fault = λ e. fault;
  memory = λ e. absurd (omega arith);
  known = (2, omega arith, sym three);
  bounded = within;
  whole = λ e. absurd (omega arith);
  read = λ e. (three, read e);
}

pub ends_for_memory : (listing : Listing) (status : ℕ) (input left written after : Option (List ℕ)) (reader_failed out_failed : Bool) → status ≡ 4
    → Keeps input left → Keeps written after → reader_failed ≡ false → ListingEnds listing status input left written after reader_failed out_failed
ends_for_memory listing status input left written after reader_failed out_failed four read wrote reading = record {
  done = λ e. absurd (omega arith);
  long = λ e. absurd (omega arith);
  fault = λ e. absurd (omega arith);
  memory = λ e. nothing_for_memory listing input left written after read wrote;
  known = (3, omega arith, sym four);
  bounded = none_read limit input left read;
  whole = λ e. absurd (omega arith);
  read = λ e. not_both reader_failed e reading;
}

pub ends_done : (listing : Listing) (input left written so_far after : Option (List ℕ)) (reader_failed out_failed : Bool) → ListsAll listing input written so_far → Keeps so_far after → ReadsWithin limit input left
    → reader_failed ≡ false → out_failed ≡ false → ListingEnds listing 0 input left written after reader_failed out_failed
ends_done listing input left written so_far after reader_failed out_failed all kept within reading working = record {
  done = λ e. all_kept listing input written so_far after all kept;
  long = λ e. absurd (omega arith);
  fault = λ e. absurd (omega arith);
  memory = λ e. absurd (omega arith);
  known = (0, omega arith, refl);
  bounded = within;
  whole = λ e. (reading, working);
  read = λ e. not_both reader_failed e reading;
}

-- How each refusal ends.
pub ends_refused : (listing : Listing) (error : ListError) (status : ℕ) (input left written so_far after : Option (List ℕ)) (reader_failed out_failed : Bool) → status ≡ status_of error
    → (error ≡ Read → reader_failed ≡ true) → (error ≡ Write → out_failed ≡ true) → (error ≡ Read → ListsRead listing input left written so_far) → ListsFront listing input left written so_far
    → (error ≡ TooLong → ListsFirst listing input written so_far) → (error ≡ Memory → ListsRefused listing input left written so_far) → ReadsWithin limit input left → Keeps so_far after
    → (reader_failed ≡ true → error ≡ Read) → ListingEnds listing status input left written after reader_failed out_failed
ends_refused listing Read status input left written so_far after reader_failed out_failed is reading working read front long refused within kept blamed =
    ends_in_fault listing status input left written after reader_failed out_failed is within (inl (reading refl, read_kept listing input left written so_far after (read refl) kept))
    (λ e. read_kept listing input left written so_far after (read refl) kept)
ends_refused listing Write status input left written so_far after reader_failed out_failed is reading working read front long refused within kept blamed =
    ends_in_fault listing status input left written after reader_failed out_failed is within (inr (working refl, front_kept listing input left written so_far after front kept))
    (λ e. absurd (let bad = blamed e in cc))
ends_refused listing TooLong status input left written so_far after reader_failed out_failed is reading working read front long refused within kept blamed = record {
  done = λ e. absurd (omega arith);
  long = λ e. first_kept listing input written so_far after (long refl) kept;
  fault = λ e. absurd (omega arith);
  memory = λ e. absurd (omega arith);
  known = (1, omega arith, sym is);
  bounded = within;
  whole = λ e. absurd (omega arith);
  read = λ e. absurd (let bad = blamed e in cc);
}
ends_refused listing Memory status input left written so_far after reader_failed out_failed is reading working read front long refused within kept blamed = record {
  done = λ e. absurd (omega arith);
  long = λ e. absurd (omega arith);
  fault = λ e. absurd (omega arith);
  memory = λ e. refused_for_memory listing input left written after (refused_kept listing input left written so_far after (refused refl) kept);
  known = (3, omega arith, sym is);
  bounded = within;
  whole = λ e. absurd (omega arith);
  read = λ e. absurd (let bad = blamed e in cc);
}

-- What is said of each refusal.
pub tells_refused_listing : (error : ListError) (status : ℕ) (message : List ℕ) (said said' : Option (List ℕ)) (reader_failed out_failed err_failed : Bool) → status ≡ status_of error → message ≡ message_of error
    → Says said said' err_failed message → (error ≡ Read → reader_failed ≡ true) → (error ≡ Write → out_failed ≡ true) → Tells status IsTooLong said said' reader_failed out_failed err_failed
tells_refused_listing Read status message said said' reader_failed out_failed err_failed is are says reading working =
    tells_fault status IsTooLong said said' reader_failed out_failed err_failed is (inl (reading refl, subst (Says said said' err_failed) are says))
tells_refused_listing Write status message said said' reader_failed out_failed err_failed is are says reading working =
    tells_fault status IsTooLong said said' reader_failed out_failed err_failed is (inr (working refl, subst (Says said said' err_failed) are says))
tells_refused_listing TooLong status message said said' reader_failed out_failed err_failed is are says reading working =
    tells_refused status IsTooLong said said' reader_failed out_failed err_failed message is are says
tells_refused_listing Memory status message said said' reader_failed out_failed err_failed is are says reading working =
    tells_memory status IsTooLong said said' reader_failed out_failed err_failed is (subst (Says said said' err_failed) are says)

-- No refusal ends with status 0.
pub refused_not_done : {A : Type 0} (error : ListError) (status : ℕ) → status ≡ status_of error → status ≡ 0 → A
refused_not_done Read status is zero = absurd (omega arith)
refused_not_done Write status is zero = absurd (omega arith)
refused_not_done TooLong status is zero = absurd (omega arith)
refused_not_done Memory status is zero = absurd (omega arith)
