-- The three streams of the program, before and after.
use Rattle.std.specs.Prelude.{ℕ, List, Option, Bool}
use Rattle.watched_streams.specs.Watch.{inner_of, has_failed}
use Rattle.watched_streams.specs.declared.watched.Watch.{Watch}

-- The bytes are those that are known.
pub record Streams : Type 0 where
  -- what the reader had left, and has left
  pub input : Option (List ℕ)
  pub input' : Option (List ℕ)
  -- what the output held, and holds
  pub written : Option (List ℕ)
  pub written' : Option (List ℕ)
  -- what standard error held, and holds
  pub said : Option (List ℕ)
  pub said' : Option (List ℕ)
  -- which of them have failed
  pub reader_failed : Bool
  pub out_failed : Bool
  pub err_failed : Bool

-- a reader, an output and standard error, each before and after, by what the first has left and the others hold
abbrev pub streams : {R O E : Type 0} → (R → Option (List ℕ)) → (O → Option (List ℕ)) → (E → Option (List ℕ)) → Watch R → Watch R → Watch O → Watch O → Watch E → Watch E → Streams
streams remaining contents held reader reader' out out' err err' = record {
  input = remaining (inner_of reader);
  input' = remaining (inner_of reader');
  written = contents (inner_of out);
  written' = contents (inner_of out');
  said = held (inner_of err);
  said' = held (inner_of err');
  reader_failed = has_failed reader';
  out_failed = has_failed out';
  err_failed = has_failed err';
}
