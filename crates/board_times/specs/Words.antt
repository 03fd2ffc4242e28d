-- The words of the file of times, and behind them those of a host alone.
use Rattle.std.specs.Prelude.{ℕ, List, codes}
use Rattle.board_times.specs.declared.words.Word.{Word}
use Rattle.board_times.specs.declared.words.Word.TheVariants.{Version, Digest, Begin, Away, Opened, Answered, Gone, Called, Heard, Added, Brought, Stopped, Asked, Took, Over, Looked, Back, Reopened, Suspect, Wake, Lent, Number, Kept, Capture, Text}

abbrev pub word_text : Word → List ℕ
word_text Version = codes "times"
word_text Digest = codes "digest"
word_text Begin = codes "begin"
word_text Away = codes "away"
word_text Opened = codes "opened"
word_text Answered = codes "answered"
word_text Gone = codes "gone"
word_text Called = codes "called"
word_text Heard = codes "heard"
word_text Added = codes "added"
word_text Brought = codes "brought"
word_text Stopped = codes "stopped"
word_text Asked = codes "asked"
word_text Took = codes "took"
word_text Over = codes "over"
word_text Looked = codes "ok"
word_text Back = codes "back"
word_text Reopened = codes "reopened"
word_text Suspect = codes "suspect"
word_text Wake = codes "wake"
word_text Lent = codes "lent"
word_text Number = codes "number"
word_text Kept = codes "kept"
word_text Capture = codes "capture"
word_text Text = codes "text"
