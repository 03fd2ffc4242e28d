-- What was read, and what was written of it, grow together.
use Rattle.std.proofs.Common.{◌≡◌, ◌≢◌, ◌-◌, ℕ, Bool, true, false, List, [], ◌∷◌, ◌++◌, Option, IfSome, None, Some, inl, length, drop, length-append, refl, sym, ap, ◌∙◌, subst, append_assoc, append-nil, lit<, lit≤, arith}
use Rattle.std.proofs.lemmas.List.{drop_all, drop-append-le}
use Rattle.std.proofs.KnownBytes.{Appends-nil, Appends-trans, Consumes-kept, Consumes-nil, Consumes-trans}
use Rattle.std.specs.Io.KnownBytes.{Appends, Consumes, IsAtEnd, Keeps}
use Rattle.board_events.specs.declared.setup.Setup.{Setup}
use Rattle.board_events.specs.Settings.{setting_of}
use Rattle.board_game.specs.Report.{first_line}
use Rattle.watched_streams.specs.Output.{AppendsPart}
use Rattle.live_lines.specs.declared.entries.Entry.{Entry}
use Rattle.live_lines.specs.declared.recorder.Recorder.{Recorder}
use Rattle.live_lines.specs.Entries.{IsWhole, entry_text}
use Rattle.live_lines.specs.Heard.{Heard, IsHeard}
use Rattle.live_lines.specs.declared.entries.What.TheVariants.{Wakes}
use Rattle.live_lines.specs.declared.stream.AttendError.{AttendError}
use Rattle.live_lines.specs.declared.stream.AttendError.TheVariants.{Read, Write, NoEntry, TooLong, Memory}
use Rattle.live_lines.specs.Inside.Progress.{Answered, BreaksOff, ComesOn, FailsToRead, GoesOn, HasAttended, HasCome, ReadsOn}
use Rattle.live_lines.specs.Next.{IsUnfinished, IsWrong}
use Rattle.live_lines.specs.Recorder.{IsAnswered, Reports, StandsFor}
use Rattle.live_lines.specs.Streams.{Attends, AttendsAll, AttendsFirst, AttendsFront, AttendsRead, AttendsSome, BeginsNoEntry, EndsBy, Writes, told_text}
use Rattle.live_lines.proofs.NextLemmas.{waits}

pub attends_of : (recorder : Recorder) (setup : Setup) (recovers : Bool) (text said : List ℕ) → HasAttended recorder setup recovers text said
    → Attends setup recovers text said
attends_of recorder setup recovers text said a =
    record { past = a.past; report = a.report; entries = a.entries; told = a.told; writes = a.writes }

pub attended_by : (recorder : Recorder) (setup : Setup) (recovers : Bool) (text other said more : List ℕ) → text ≡ other → said ≡ more
    → HasAttended recorder setup recovers text said → HasAttended recorder setup recovers other more
attended_by recorder setup recovers text other said more e f a =
    let T : List ℕ → Type 0 = λ t. HasAttended recorder setup recovers t said in
    let S : List ℕ → Type 0 = λ t. HasAttended recorder setup recovers other t in
    subst S f (subst T e a)

-- An entry was answered.
pub attended_on : (old new : Recorder) (setup : Setup) (recovers : Bool) (before said : List ℕ) (entry : Entry) (bytes : List ℕ) (heard : Heard)
    (more last : List ℕ) → (a : HasAttended old setup recovers before said) → IsWhole entry bytes → heard.entry ≡ entry → heard.bytes ≡ bytes
    → IsHeard heard a.past → IsAnswered setup recovers heard a.past more last → StandsFor new setup recovers (heard ∷ a.past) (a.report ++ more)
    → Reports setup recovers (heard ∷ a.past) (a.report ++ more)
    → HasAttended new setup recovers (before ++ entry_text entry bytes) (said ++ last)
attended_on old new setup recovers before said entry bytes heard more last a whole e f h answered s reports =
    let E : Entry → Type 0 = λ x. IsWhole x bytes in
    let B : List ℕ → Type 0 = λ x. IsWhole heard.entry x in
    record {
      past = heard ∷ a.past;
      report = a.report ++ more;
      stands = s;
      entries = ap (λ t. t ++ entry_text entry bytes) a.entries ∙ ap (λ (x : Entry). told_text a.past ++ entry_text x bytes) (sym e)
          ∙ ap (λ x. told_text a.past ++ entry_text heard.entry x) (sym f);
      told = (a.told, subst B (sym f) (subst E (sym e) whole), h);
      writes = (a.report, said, more, last, a.writes, answered, refl, refl, reports);
    }

pub nothing_yet : (recorder : Recorder) (setup : Setup) (recovers : Bool) → StandsFor recorder setup recovers [] (first_line (setting_of setup))
    → HasAttended recorder setup recovers [] (first_line (setting_of setup))
nothing_yet recorder setup recovers s =
    record { past = []; report = first_line (setting_of setup); stands = s; entries = refl; told = tt; writes = (refl, refl) }

-- Nothing more was answered.
pub goes_on_nothing : (recorder : Recorder) (setup : Setup) (recovers : Bool) (before said text : List ℕ) (written : Option (List ℕ))
    → HasAttended recorder setup recovers before said → GoesOn recorder setup recovers before said text text written written
goes_on_nothing recorder setup recovers before said text written a = (
  [],
  [],
  refl,
  attended_by recorder setup recovers before (before ++ []) said (said ++ []) (sym (append-nil before)) (sym (append-nil said)) a,
  Appends-nil written,
)

pub answered_nothing : (recorder : Recorder) (setup : Setup) (recovers : Bool) (before said text : List ℕ) (written : Option (List ℕ))
    → HasAttended recorder setup recovers before said → Answered setup recovers before said text text written written
answered_nothing recorder setup recovers before said text written a = (
  [],
  [],
  refl,
  attends_of recorder setup recovers (before ++ []) (said ++ [])
      (attended_by recorder setup recovers before (before ++ []) said (said ++ []) (sym (append-nil before)) (sym (append-nil said)) a),
  Appends-nil written,
)

-- The rest of a text went on too.
pub goes_on_more : (one two three : Recorder) (setup : Setup) (recovers : Bool) (before said text left rest part : List ℕ)
    (written later last : Option (List ℕ)) → GoesOn two setup recovers before said text left written later
    → left ≡ part ++ rest
    → ((b s : List ℕ) → HasAttended two setup recovers b s → GoesOn three setup recovers b s part [] later last)
    → GoesOn three setup recovers before said text rest written last
goes_on_more one two three setup recovers before said text left rest part written later last g e next =
    let n = next (before ++ g.0) (said ++ g.1) g.3 in
    let same : part ≡ n.0 = n.2 ∙ append-nil n.0 in (
      g.0 ++ n.0,
      g.1 ++ n.1,
      g.2 ∙ ap (λ t. g.0 ++ t) (e ∙ ap (λ t. t ++ rest) same) ∙ sym (append_assoc g.0 n.0 rest),
      attended_by three setup recovers ((before ++ g.0) ++ n.0) (before ++ (g.0 ++ n.0)) ((said ++ g.1) ++ n.1) (said ++ (g.1 ++ n.1))
          (append_assoc before g.0 n.0) (append_assoc said g.1 n.1) n.3,
      Appends-trans written later last g.1 n.1 g.4 n.4,
    )

-- ---- it breaks off within the rest of a text

behind : (a b c : List ℕ) (text left part rest : List ℕ) → text ≡ a ++ left → left ≡ part ++ rest → part ≡ b ++ c
    → text ≡ (a ++ b) ++ (c ++ rest)
behind a b c text left part rest e f p =
    e ∙ ap (λ t. a ++ t) (f ∙ ap (λ t. t ++ rest) p ∙ append_assoc b c rest) ∙ sym (append_assoc a b (c ++ rest))

attends_by : (setup : Setup) (recovers : Bool) (text other said more : List ℕ) → text ≡ other → said ≡ more
    → Attends setup recovers text said → Attends setup recovers other more
attends_by setup recovers text other said more e f a =
    let T : List ℕ → Type 0 = λ t. Attends setup recovers t said in
    let S : List ℕ → Type 0 = λ t. Attends setup recovers other t in
    subst S f (subst T e a)

answered_more : (two : Recorder) (setup : Setup) (recovers : Bool) (before said text left rest part r : List ℕ) (written later last : Option (List ℕ))
    → (g : GoesOn two setup recovers before said text left written later) → left ≡ part ++ rest
    → Answered setup recovers (before ++ g.0) (said ++ g.1) part r later last
    → Answered setup recovers before said text (r ++ rest) written last
answered_more two setup recovers before said text left rest part r written later last g e n = (
  g.0 ++ n.0,
  g.1 ++ n.1,
  behind g.0 n.0 r text left part rest g.2 e n.2,
  attends_by setup recovers ((before ++ g.0) ++ n.0) (before ++ (g.0 ++ n.0)) ((said ++ g.1) ++ n.1) (said ++ (g.1 ++ n.1))
      (append_assoc before g.0 n.0) (append_assoc said g.1 n.1) n.3,
  Appends-trans written later last g.1 n.1 g.4 n.4,
)

some_more : (a b : List ℕ) → a ≢ [] → a ++ b ≢ []
some_more [] b h e = h refl
some_more (x ∷ a) b h e = cc

wrong_more : (a b : List ℕ) → IsWrong a → IsWrong (a ++ b)
wrong_more a b wrong later entry bytes more whole e = wrong (b ++ later) entry bytes more whole (sym (append_assoc a b later) ∙ e)

pub broken_more : (error : AttendError) (two : Recorder) (setup : Setup) (recovers : Bool) (before said text left rest part : List ℕ)
    (written later last : Option (List ℕ)) → GoesOn two setup recovers before said text left written later → left ≡ part ++ rest
    → ((b s : List ℕ) → HasAttended two setup recovers b s → BreaksOff error setup recovers b s part later last)
    → BreaksOff error setup recovers before said text written last
broken_more Memory two setup recovers before said text left rest part written later last g e next =
    let n = next (before ++ g.0) (said ++ g.1) g.3 in
    (n.0 ++ rest, answered_more two setup recovers before said text left rest part n.0 written later last g e n.1)
broken_more NoEntry two setup recovers before said text left rest part written later last g e next =
    let n = next (before ++ g.0) (said ++ g.1) g.3 in
    (n.0 ++ rest, some_more n.0 rest n.1, wrong_more n.0 rest n.2, answered_more two setup recovers before said text left rest part n.0 written later last g e n.3)
broken_more Write two setup recovers before said text left rest part written later last g e next =
    let n = next (before ++ g.0) (said ++ g.1) g.3 in
    let part_is = n.5 in (
      g.0 ++ n.0,
      n.1 ++ rest,
      g.1 ++ n.2,
      behind g.0 n.0 n.1 text left part rest g.2 e n.3,
      attends_by setup recovers ((before ++ g.0) ++ n.0) (before ++ (g.0 ++ n.0)) ((said ++ g.1) ++ n.2) (said ++ (g.1 ++ n.2))
          (append_assoc before g.0 n.0) (append_assoc said g.1 n.2) n.4,
      (
        g.1 ++ part_is.0,
        part_is.1,
        ap (λ t. g.1 ++ t) part_is.2 ∙ sym (append_assoc g.1 part_is.0 part_is.1),
        Appends-trans written later last g.1 part_is.0 g.4 part_is.3,
      ),
    )
broken_more Read two setup recovers before said text left rest part written later last g e next = absurd (next (before ++ g.0) (said ++ g.1) g.3)
broken_more TooLong two setup recovers before said text left rest part written later last g e next = absurd (next (before ++ g.0) (said ++ g.1) g.3)

-- ---- what is wrong is something

abbrev a_wake : Entry
a_wake = record { at = 0; what = Wakes }

whole_wake : IsWhole a_wake []
whole_wake = (((lit< tt, tt), lit≤ tt), refl)

pub wrong_some : (text : List ℕ) → IsWrong text → text ≢ []
wrong_some [] wrong e = wrong (entry_text a_wake []) a_wake [] [] whole_wake (sym (append-nil (entry_text a_wake [])))
wrong_some (byte ∷ text) wrong e = cc

pub broken_wrong : (two : Recorder) (setup : Setup) (recovers : Bool) (before said text left : List ℕ) (written later : Option (List ℕ))
    → GoesOn two setup recovers before said text left written later → IsWrong left
    → BreaksOff NoEntry setup recovers before said text written later
broken_wrong two setup recovers before said text left written later g wrong =
    (left, wrong_some left wrong, wrong, (g.0, g.1, g.2, attends_of two setup recovers (before ++ g.0) (said ++ g.1) g.3, g.4))

-- ---- the whole input

open_nothing : (line rest : List ℕ) → [] ≡ line ++ 10 ∷ rest → ⊥
open_nothing [] rest e = cc
open_nothing (byte ∷ line) rest e = cc

pub nothing_waits : IsUnfinished []
nothing_waits = inl (open_nothing, lit< tt)

pub come_nowhere : (recorder : Recorder) (setup : Setup) (recovers : Bool) (input written written' : Option (List ℕ))
    → StandsFor recorder setup recovers [] (first_line (setting_of setup)) → Appends written written' (first_line (setting_of setup))
    → HasCome recorder setup recovers [] input input written written'
come_nowhere recorder setup recovers input written written' s w =
    record {
      first = [];
      said = first_line (setting_of setup);
      attended = nothing_yet recorder setup recovers s;
      waits = nothing_waits;
      reads = Consumes-nil input;
      writes = w;
    }

-- More was read, and the entries in it answered.
pub come_on : (one two : Recorder) (setup : Setup) (recovers : Bool) (text more rest : List ℕ) (input now later written out last : Option (List ℕ))
    → (h : HasCome one setup recovers text input now written out) → ((b s : List ℕ) → HasAttended one setup recovers b s
    → GoesOn two setup recovers b s (text ++ more) rest out last) → IsUnfinished rest → Consumes now later more
    → HasCome two setup recovers rest input later written last
come_on one two setup recovers text more rest input now later written out last h next waits reads =
    let g = next h.first h.said h.attended in
    let C : List ℕ → Type 0 = λ t. Consumes input later t in
    record {
      first = h.first ++ g.0;
      said = h.said ++ g.1;
      attended = g.3;
      waits = waits;
      reads = subst C (append_assoc h.first text more ∙ ap (λ t. h.first ++ t) g.2 ∙ sym (append_assoc h.first g.0 rest))
          (Consumes-trans input now later (h.first ++ text) more h.reads reads);
      writes = Appends-trans written out last h.said g.1 h.writes g.4;
    }

pub come_read : (recorder : Recorder) (setup : Setup) (recovers : Bool) (text : List ℕ) (input now later written written' : Option (List ℕ))
    → HasCome recorder setup recovers text input now written written' → Keeps now later
    → AttendsRead setup recovers input later written written'
come_read recorder setup recovers text input now later written written' h kept = (
  h.first,
  text,
  h.said,
  Consumes-kept input now later (h.first ++ text) h.reads kept,
  h.waits,
  attends_of recorder setup recovers h.first h.said h.attended,
  h.writes,
)

-- More was read, and nothing of it answered.
pub come_some : (recorder : Recorder) (setup : Setup) (recovers : Bool) (text more : List ℕ) (input now later written written' : Option (List ℕ))
    → HasCome recorder setup recovers text input now written written' → Consumes now later more
    → AttendsSome setup recovers input later written written'
come_some recorder setup recovers text more input now later written written' h reads =
    let C : List ℕ → Type 0 = λ t. Consumes input later t in (
      h.first,
      text ++ more,
      h.said,
      subst C (append_assoc h.first text more) (Consumes-trans input now later (h.first ++ text) more h.reads reads),
      attends_of recorder setup recovers h.first h.said h.attended,
      h.writes,
    )

pub some_of : (recorder : Recorder) (setup : Setup) (recovers : Bool) (text : List ℕ) (input now written written' : Option (List ℕ))
    → HasCome recorder setup recovers text input now written written' → AttendsSome setup recovers input now written written'
some_of recorder setup recovers text input now written written' h =
    (h.first, text, h.said, h.reads, attends_of recorder setup recovers h.first h.said h.attended, h.writes)

-- The first line was not written whole.
pub began_front : (setup : Setup) (recovers : Bool) (input written written' : Option (List ℕ)) → AppendsPart written written' (first_line (setting_of setup))
    → AttendsFront setup recovers input input written written'
began_front setup recovers input written written' part = (
  [],
  [],
  first_line (setting_of setup),
  Consumes-nil input,
  record { past = []; report = first_line (setting_of setup); entries = refl; told = tt; writes = (refl, refl) },
  part,
)

-- ---- the input has ended

input_is : (input input' : Option (List ℕ)) (bytes : List ℕ) → Consumes input input' bytes → IsAtEnd input' → IfSome input (λ all. all ≡ bytes)
input_is None input' bytes c e = tt
input_is (Some all) None bytes c e = absurd c
input_is (Some all) (Some rest) bytes c e = c ∙ ap (λ t. bytes ++ t) e ∙ append-nil bytes

if_all : (input : Option (List ℕ)) (bytes : List ℕ) (P : List ℕ → Type 0) → IfSome input (λ all. all ≡ bytes) → P bytes → IfSome input (λ all. P all)
if_all None bytes P e p = tt
if_all (Some all) bytes P e p = subst P (sym e) p

pub ended_all : (recorder : Recorder) (setup : Setup) (recovers : Bool) (text : List ℕ) (input now later written written' : Option (List ℕ))
    → HasCome recorder setup recovers text input now written written' → Consumes now later [] → IsAtEnd later → text ≡ []
    → AttendsAll setup recovers input written written'
ended_all recorder setup recovers text input now later written written' h c e nil =
    let C : List ℕ → Type 0 = λ t. Consumes input later t in
    let P : List ℕ → Type 0 = λ bytes. (said : List ℕ) × Attends setup recovers bytes said × Appends written written' said in
    let read = subst C (append-nil (h.first ++ text) ∙ ap (λ t. h.first ++ t) nil ∙ append-nil h.first)
    (Consumes-trans input now later (h.first ++ text) [] h.reads c) in
    if_all input h.first P (input_is input later h.first read e) (h.said, attends_of recorder setup recovers h.first h.said h.attended, h.writes)

pub ended_within : (recorder : Recorder) (setup : Setup) (recovers : Bool) (text : List ℕ) (input now later written written' : Option (List ℕ))
    → HasCome recorder setup recovers text input now written written' → Consumes now later [] → IsAtEnd later → text ≢ []
    → AttendsFirst setup recovers input written written'
ended_within recorder setup recovers text input now later written written' h c e some =
    let C : List ℕ → Type 0 = λ t. Consumes input later t in
    let P : List ℕ → Type 0 = λ bytes. (first rest said : List ℕ) × (bytes ≡ first ++ rest) × (rest ≢ []) × BeginsNoEntry rest
    × Attends setup recovers first said × Appends written written' said in
    let read = subst C (append-nil (h.first ++ text)) (Consumes-trans input now later (h.first ++ text) [] h.reads c) in
    if_all input (h.first ++ text) P (input_is input later (h.first ++ text) read e) (
      h.first,
      text,
      h.said,
      refl,
      some,
      (λ entry bytes more whole is. waits text entry bytes more h.waits whole is),
      attends_of recorder setup recovers h.first h.said h.attended,
      h.writes,
    )

-- ---- it breaks off

if_more : (input input' : Option (List ℕ)) (bytes : List ℕ) (P : List ℕ → Type 0) → Consumes input input' bytes → ((more : List ℕ) → P (bytes ++ more))
    → IfSome input (λ all. P all)
if_more None input' bytes P c p = tt
if_more (Some all) None bytes P c p = absurd c
if_more (Some all) (Some rest) bytes P c p = subst P (sym c) (p rest)

wrong_begins : (rest more : List ℕ) → IsWrong rest → BeginsNoEntry (rest ++ more)
wrong_begins rest more wrong entry bytes later whole e = wrong more entry bytes later whole e

pub came_to : (one : Recorder) (setup : Setup) (recovers : Bool) (text more : List ℕ) (input now later written out : Option (List ℕ))
    → (h : HasCome one setup recovers text input now written out) → Consumes now later more → Consumes input later (h.first ++ (text ++ more))
came_to one setup recovers text more input now later written out h reads =
    let C : List ℕ → Type 0 = λ t. Consumes input later t in
    subst C (append_assoc h.first text more) (Consumes-trans input now later (h.first ++ text) more h.reads reads)

pub broke_wrong : (one : Recorder) (setup : Setup) (recovers : Bool) (text more : List ℕ) (input now later written out last : Option (List ℕ))
    → HasCome one setup recovers text input now written out → Consumes now later more
    → ((b s : List ℕ) → HasAttended one setup recovers b s → BreaksOff NoEntry setup recovers b s (text ++ more) out last)
    → AttendsFirst setup recovers input written last
broke_wrong one setup recovers text more input now later written out last h reads next =
    let n = next h.first h.said h.attended in
    let a = n.3 in
    let P : List ℕ → Type 0 = λ bytes. (first rest said : List ℕ) × (bytes ≡ first ++ rest) × (rest ≢ []) × BeginsNoEntry rest
    × Attends setup recovers first said × Appends written last said in
    if_more input later (h.first ++ (text ++ more)) P (came_to one setup recovers text more input now later written out h reads) (λ unread. (
      h.first ++ a.0,
      n.0 ++ unread,
      h.said ++ a.1,
      ap (λ t. (h.first ++ t) ++ unread) a.2 ∙ ap (λ t. t ++ unread) (sym (append_assoc h.first a.0 n.0)) ∙ append_assoc (h.first ++ a.0) n.0 unread,
      some_more n.0 unread n.1,
      wrong_begins n.0 unread n.2,
      a.3,
      Appends-trans written out last h.said a.1 h.writes a.4,
    ))

pub broke_some : (one : Recorder) (setup : Setup) (recovers : Bool) (text more : List ℕ) (input now later written out last : Option (List ℕ))
    → HasCome one setup recovers text input now written out → Consumes now later more
    → ((b s : List ℕ) → HasAttended one setup recovers b s → BreaksOff Memory setup recovers b s (text ++ more) out last)
    → AttendsSome setup recovers input later written last
broke_some one setup recovers text more input now later written out last h reads next =
    let n = next h.first h.said h.attended in
    let a = n.1 in
    let C : List ℕ → Type 0 = λ t. Consumes input later t in (
      h.first ++ a.0,
      n.0,
      h.said ++ a.1,
      subst C (ap (λ t. h.first ++ t) a.2 ∙ sym (append_assoc h.first a.0 n.0)) (came_to one setup recovers text more input now later written out h reads),
      a.3,
      Appends-trans written out last h.said a.1 h.writes a.4,
    )

broke_front : (one : Recorder) (setup : Setup) (recovers : Bool) (text more : List ℕ)
    (input now later written out last : Option (List ℕ)) → HasCome one setup recovers text input now written out → Consumes now later more
    → ((b s : List ℕ) → HasAttended one setup recovers b s → BreaksOff Write setup recovers b s (text ++ more) out last)
    → AttendsFront setup recovers input later written last
broke_front one setup recovers text more input now later written out last h reads next =
    let n = next h.first h.said h.attended in
    let part = n.5 in
    let C : List ℕ → Type 0 = λ t. Consumes input later t in (
      h.first ++ n.0,
      n.1,
      h.said ++ n.2,
      subst C (ap (λ t. h.first ++ t) n.3 ∙ sym (append_assoc h.first n.0 n.1)) (came_to one setup recovers text more input now later written out h reads),
      n.4,
      (
        h.said ++ part.0,
        part.1,
        ap (λ t. h.said ++ t) part.2 ∙ sym (append_assoc h.said part.0 part.1),
        Appends-trans written out last h.said part.0 h.writes part.3,
      ),
    )

pub broke_by : (error : AttendError) (one : Recorder) (setup : Setup) (recovers : Bool) (text more : List ℕ)
    (input now later written out last : Option (List ℕ)) → HasCome one setup recovers text input now written out → Consumes now later more
    → ((b s : List ℕ) → HasAttended one setup recovers b s → BreaksOff error setup recovers b s (text ++ more) out last)
    → EndsBy error setup recovers input later written last
broke_by Memory one setup recovers text more input now later written out last h reads next =
    broke_some one setup recovers text more input now later written out last h reads next
broke_by NoEntry one setup recovers text more input now later written out last h reads next =
    broke_wrong one setup recovers text more input now later written out last h reads next
broke_by Write one setup recovers text more input now later written out last h reads next =
    broke_front one setup recovers text more input now later written out last h reads next
broke_by Read one setup recovers text more input now later written out last h reads next = absurd (next h.first h.said h.attended)
broke_by TooLong one setup recovers text more input now later written out last h reads next = absurd (next h.first h.said h.attended)

-- A read failed, or there was no memory for what it gave.
pub read_by : (error : AttendError) (recorder : Recorder) (setup : Setup) (recovers : Bool) (text : List ℕ) (input now later written written' : Option (List ℕ))
    → HasCome recorder setup recovers text input now written written' → FailsToRead error now later
    → EndsBy error setup recovers input later written written'
read_by Read recorder setup recovers text input now later written written' h fails = come_read recorder setup recovers text input now later written written' h fails
read_by Memory recorder setup recovers text input now later written written' h fails =
    come_some recorder setup recovers text fails.0 input now later written written' h fails.1
read_by Write recorder setup recovers text input now later written written' h fails = absurd fails
read_by NoEntry recorder setup recovers text input now later written written' h fails = absurd fails
read_by TooLong recorder setup recovers text input now later written written' h fails = absurd fails

drop_front : (first rest : List ℕ) → drop (length first) (first ++ rest) ≡ rest
drop_front first rest =
    drop-append-le (length first) first rest (omega arith) ∙ ap (λ t. t ++ rest) (drop_all (length first) first (omega arith))

last_is : (text first rest : List ℕ) → text ≡ first ++ rest → drop (length text - length rest) text ≡ rest
last_is text first rest e =
    let n : length text - length rest ≡ length first = omega (arith, ap length e, length-append first rest) in
    ap (λ k. drop k text) n ∙ ap (λ t. drop (length first) t) e ∙ drop_front first rest

-- ---- the turns of the loop

-- What was read stands behind the text.
read_on : (more : Bool) (text all : List ℕ) (now later : Option (List ℕ)) → more ≡ true → ReadsOn more text all now later → ReadsOn true text all now later
read_on more text all now later e r =
    let R : Bool → Type 0 = λ b. ReadsOn b text all now later in
    subst R e r

read_end : (more : Bool) (text all : List ℕ) (now later : Option (List ℕ)) → more ≡ false → ReadsOn more text all now later → ReadsOn false text all now later
read_end more text all now later e r =
    let R : Bool → Type 0 = λ b. ReadsOn b text all now later in
    subst R e r

pub ended_by_all : (more : Bool) (recorder : Recorder) (setup : Setup) (recovers : Bool) (text all : List ℕ) (input now later written written' : Option (List ℕ))
    → HasCome recorder setup recovers text input now written written' → more ≡ false → ReadsOn more text all now later → all ≡ []
    → AttendsAll setup recovers input written written'
ended_by_all more recorder setup recovers text all input now later written written' h e reads nil =
    let r = read_end more text all now later e reads in
    ended_all recorder setup recovers text input now later written written' h r.1 r.2 (sym r.0 ∙ nil)

pub ended_by_part : (error : AttendError) (more : Bool) (recorder : Recorder) (setup : Setup) (recovers : Bool) (text all : List ℕ)
    (input now later written written' : Option (List ℕ)) → HasCome recorder setup recovers text input now written written' → more ≡ false
    → ReadsOn more text all now later → error ≡ NoEntry → (all ≡ [] → ⊥) → EndsBy error setup recovers input later written written'
ended_by_part error more recorder setup recovers text all input now later written written' h e reads is some =
    let r = read_end more text all now later e reads in
    let E : AttendError → Type 0 = λ x. EndsBy x setup recovers input later written written' in
    subst E (sym is) (ended_within recorder setup recovers text input now later written written' h r.1 r.2 (λ nil. some (r.0 ∙ nil)))

pub broke_on : (error : AttendError) (more : Bool) (one : Recorder) (setup : Setup) (recovers : Bool) (text items all : List ℕ)
    (input now later written out last : Option (List ℕ)) → HasCome one setup recovers text input now written out → more ≡ true
    → ReadsOn more text items now later → all ≡ items
    → ((b s : List ℕ) → HasAttended one setup recovers b s → BreaksOff error setup recovers b s all out last)
    → EndsBy error setup recovers input later written last
broke_on error more one setup recovers text items all input now later written out last h e reads same next =
    let r = read_on more text items now later e reads in
    let A : List ℕ → Type 0 = λ t. (b s : List ℕ) → HasAttended one setup recovers b s → BreaksOff error setup recovers b s t out last in
    broke_by error one setup recovers text r.0 input now later written out last h r.2 (subst A (same ∙ r.1) next)

-- The entries that are whole were answered, and this is left.
pub came_on : (more : Bool) (one two : Recorder) (setup : Setup) (recovers : Bool) (text items all rest : List ℕ)
    (input now later written out last : Option (List ℕ)) → HasCome one setup recovers text input now written out → more ≡ true
    → ReadsOn more text items now later → all ≡ items
    → ((b s : List ℕ) → HasAttended one setup recovers b s → IsUnfinished rest × GoesOn two setup recovers b s all rest out last)
    → (first : List ℕ) × (items ≡ first ++ rest) × HasCome two setup recovers rest input later written last
came_on more one two setup recovers text items all rest input now later written out last h e reads same next =
    let r = read_on more text items now later e reads in
    let A : List ℕ → Type 0 = λ t. (b s : List ℕ) → HasAttended one setup recovers b s → IsUnfinished rest × GoesOn two setup recovers b s t rest out last in
    let n = subst A (same ∙ r.1) next in
    let own = n h.first h.said h.attended in (
      own.1.0,
      r.1 ∙ own.1.2,
      come_on one two setup recovers text r.0 rest input now later written out last h (λ b s a. (n b s a).1) own.0 r.2,
    )

pub came_kept : (more : Bool) (one two : Recorder) (setup : Setup) (recovers : Bool) (text items all rest last : List ℕ)
    (input now later written out late : Option (List ℕ)) → HasCome one setup recovers text input now written out → more ≡ true
    → ReadsOn more text items now later → all ≡ items
    → ((b s : List ℕ) → HasAttended one setup recovers b s → IsUnfinished rest × GoesOn two setup recovers b s all rest out late)
    → last ≡ drop (length items - length rest) items → HasCome two setup recovers last input later written late
came_kept more one two setup recovers text items all rest last input now later written out late h e reads same next kept =
    let c = came_on more one two setup recovers text items all rest input now later written out late h e reads same next in
    let H : List ℕ → Type 0 = λ t. HasCome two setup recovers t input later written late in
    subst H (sym (kept ∙ last_is items c.0 rest c.1)) c.2

pub came_unkept : (more : Bool) (one two : Recorder) (setup : Setup) (recovers : Bool) (text items all rest : List ℕ)
    (input now later written out late : Option (List ℕ)) → HasCome one setup recovers text input now written out → more ≡ true
    → ReadsOn more text items now later → all ≡ items
    → ((b s : List ℕ) → HasAttended one setup recovers b s → IsUnfinished rest × GoesOn two setup recovers b s all rest out late)
    → AttendsSome setup recovers input later written late
came_unkept more one two setup recovers text items all rest input now later written out late h e reads same next =
    let c = came_on more one two setup recovers text items all rest input now later written out late h e reads same next in
    some_of two setup recovers rest input later written late c.2

pub all_of : (more : Bool) (recorder : Recorder) (setup : Setup) (recovers : Bool) (text : List ℕ) (input input' written written' : Option (List ℕ))
    → more ≡ false → ComesOn more recorder setup recovers text input input' written written' → AttendsAll setup recovers input written written'
all_of more recorder setup recovers text input input' written written' e h =
    let C : Bool → Type 0 = λ b. ComesOn b recorder setup recovers text input input' written written' in
    subst C e h

pub come_of : (more : Bool) (recorder : Recorder) (setup : Setup) (recovers : Bool) (text : List ℕ) (input input' written written' : Option (List ℕ))
    → more ≡ true → ComesOn more recorder setup recovers text input input' written written' → HasCome recorder setup recovers text input input' written written'
come_of more recorder setup recovers text input input' written written' e h =
    let C : Bool → Type 0 = λ b. ComesOn b recorder setup recovers text input input' written written' in
    subst C e h

-- The first line was written, and nothing read.
pub come_first : (recorder : Recorder) (setup : Setup) (recovers : Bool) (text : List ℕ) (input written written' : Option (List ℕ)) → text ≡ []
    → StandsFor recorder setup recovers [] (first_line (setting_of setup)) → Appends written written' (first_line (setting_of setup))
    → HasCome recorder setup recovers text input input written written'
come_first recorder setup recovers text input written written' nil s w =
    let H : List ℕ → Type 0 = λ t. HasCome recorder setup recovers t input input written written' in
    subst H (sym nil) (come_nowhere recorder setup recovers input written written' s w)

pub began_by_front : (error : AttendError) (setup : Setup) (recovers : Bool) (input written written' : Option (List ℕ))
    → error ≡ Write → AppendsPart written written' (first_line (setting_of setup))
    → EndsBy error setup recovers input input written written'
began_by_front error setup recovers input written written' is part =
    let E : AttendError → Type 0 = λ x. EndsBy x setup recovers input input written written' in
    subst E (sym is) (began_front setup recovers input written written' part)

-- ---- later entries

pub stays : (setup : Setup) (recovers : Bool) (later past : List Heard) (report said : List ℕ) → Writes setup recovers (later ++ past) report said
    → (before earlier more : List ℕ) × Writes setup recovers past before earlier × (said ≡ earlier ++ more)
stays setup recovers [] past report said w = (report, said, [], w, sym (append-nil said))
stays setup recovers (heard ∷ later) past report said w =
    let s = stays setup recovers later past w.0 w.1 w.4 in
    (s.0, s.1, s.2 ++ w.3, s.3, w.7 ∙ ap (λ t. t ++ w.3) s.4 ∙ append_assoc s.1 s.2 w.3)
