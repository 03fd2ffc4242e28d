use Prim.{search}
use Rattle.std.proofs.Common.{Some, ap, codes, sym, ◌∙◌, refl, rules}
use Rattle.std.specs.Prelude.{is_some}
use Rattle.clap.specs.Matches.{found_of}
use Rattle.clap.specs.Walk.{rows_of}
use Rattle.replay_arguments.specs.declared.arguments.Subcommand.TheVariants.{Pictures}
use Rattle.replay_arguments.specs.Setups.{Wants, WantsBoard, WantsEdit, WantsLive}
use Rattle.replay_arguments.proofs.ArgumentLemmas.{flag_reads, if_some_at, named_once, side_known, text_given}
use Rattle.replay_arguments.proofs.arguments.subcommand_named.Goals as goal

pub returns-in-show : goal.returns-in-show
returns-in-show c = record {
  show = λ e. refl;
  pictures = search rules;
  record_is = search rules;
  follow = search rules;
  watch = search rules;
  recover = search rules;
  add = search rules;
  back = search rules;
  instead = search rules;
  live = search rules;
  check = search rules;
  times = search rules;
  moves = search rules;
  positions = search rules;
  known = search rules;
}

pub returns-in-pictures : goal.returns-in-pictures
returns-in-pictures c = record {
  show = λ e. absurd (c.in-pictures.not-show e);
  pictures = λ rotated e given. ap (λ b. Some (Pictures b)) (flag_reads (found_of c.args.matches.now) c.get_flag.result rotated c.get_flag.ensures.value c.get_flag.ensures.other given);
  record_is = λ e. named_once c.in-pictures.is e refl;
  follow = λ e. named_once c.in-pictures.is e refl;
  watch = λ e. named_once c.in-pictures.is e refl;
  recover = λ e. named_once c.in-pictures.is e refl;
  add = λ e. named_once c.in-pictures.is e refl;
  back = λ e. named_once c.in-pictures.is e refl;
  instead = λ e. named_once c.in-pictures.is e refl;
  live = λ e. named_once c.in-pictures.is e refl;
  check = λ e. named_once c.in-pictures.is e refl;
  times = λ e. named_once c.in-pictures.is e refl;
  moves = λ e. named_once c.in-pictures.is e refl;
  positions = λ e. named_once c.in-pictures.is e refl;
  known = rw c.in-pictures.is refl;
}

pub returns-in-Some : goal.returns-in-Some
returns-in-Some c = record {
  show = λ e. absurd (c.in-record.not-show e);
  pictures = λ rotated e given. absurd (c.in-record.not-pictures e);
  record_is = λ e. (c.in-Some.options, refl, if_some_at (Wants (rows_of (found_of c.args.matches.now))) c.record_arguments_of.result c.in-Some.options c.in-Some.is c.record_arguments_of.ensures.wants);
  follow = λ e. named_once c.in-record.is e refl;
  watch = λ e. named_once c.in-record.is e refl;
  recover = λ e. named_once c.in-record.is e refl;
  add = λ e. named_once c.in-record.is e refl;
  back = λ e. named_once c.in-record.is e refl;
  instead = λ e. named_once c.in-record.is e refl;
  live = λ e. named_once c.in-record.is e refl;
  check = λ e. named_once c.in-record.is e refl;
  times = λ e. named_once c.in-record.is e refl;
  moves = λ e. named_once c.in-record.is e refl;
  positions = λ e. named_once c.in-record.is e refl;
  known = rw c.in-record.is (ap is_some (sym c.in-Some.is) ∙ side_known (found_of c.args.matches.now) c.record_arguments_of.result c.record_arguments_of.ensures.known);
}

pub returns-in-None : goal.returns-in-None
returns-in-None c = record {
  show = λ e. absurd (c.in-record.not-show e);
  pictures = λ rotated e given. absurd (c.in-record.not-pictures e);
  record_is = λ e. tt;
  follow = λ e. named_once c.in-record.is e refl;
  watch = λ e. named_once c.in-record.is e refl;
  recover = λ e. named_once c.in-record.is e refl;
  add = λ e. named_once c.in-record.is e refl;
  back = λ e. named_once c.in-record.is e refl;
  instead = λ e. named_once c.in-record.is e refl;
  live = λ e. named_once c.in-record.is e refl;
  check = λ e. named_once c.in-record.is e refl;
  times = λ e. named_once c.in-record.is e refl;
  moves = λ e. named_once c.in-record.is e refl;
  positions = λ e. named_once c.in-record.is e refl;
  known = rw c.in-record.is (ap is_some (sym c.in-None.is) ∙ side_known (found_of c.args.matches.now) c.record_arguments_of.result c.record_arguments_of.ensures.known);
}

pub returns-in-moves : goal.returns-in-moves
returns-in-moves c = record {
  show = λ e. absurd (c.in-moves.not-show e);
  pictures = λ rotated e given. absurd (c.in-moves.not-pictures e);
  record_is = λ e. absurd (c.in-moves.not-record e);
  follow = λ e. absurd (c.in-moves.not-follow e);
  watch = λ e. absurd (c.in-moves.not-watch e);
  recover = λ e. absurd (c.in-moves.not-recover e);
  add = λ e. absurd (c.in-moves.not-add e);
  back = λ e. absurd (c.in-moves.not-back e);
  instead = λ e. absurd (c.in-moves.not-instead e);
  live = λ e. absurd (c.in-moves.not-live e);
  check = λ e. absurd (c.in-moves.not-check e);
  times = λ e. absurd (c.in-moves.not-times e);
  moves = λ e. (c.get_str.result, refl, text_given (found_of c.args.matches.now) (codes "fen") c.get_str.result c.get_str.ensures);
  positions = λ e. named_once c.in-moves.is e refl;
  known = rw c.in-moves.is refl;
}

pub returns-in-positions : goal.returns-in-positions
returns-in-positions c = record {
  show = λ e. absurd (c.in-positions.not-show e);
  pictures = λ rotated e given. absurd (c.in-positions.not-pictures e);
  record_is = λ e. absurd (c.in-positions.not-record e);
  follow = λ e. absurd (c.in-positions.not-follow e);
  watch = λ e. absurd (c.in-positions.not-watch e);
  recover = λ e. absurd (c.in-positions.not-recover e);
  add = λ e. absurd (c.in-positions.not-add e);
  back = λ e. absurd (c.in-positions.not-back e);
  instead = λ e. absurd (c.in-positions.not-instead e);
  live = λ e. absurd (c.in-positions.not-live e);
  check = λ e. absurd (c.in-positions.not-check e);
  times = λ e. absurd (c.in-positions.not-times e);
  moves = λ e. absurd (c.in-positions.not-moves e);
  positions = λ e. (c.get_str-in-positions.result, refl, text_given (found_of c.args.matches.now) (codes "fen") c.get_str-in-positions.result c.get_str-in-positions.ensures);
  known = rw c.in-positions.is refl;
}

pub returns-in-Some-board_arguments_of : goal.returns-in-Some-board_arguments_of
returns-in-Some-board_arguments_of c = record {
  show = λ e. absurd (c.in-follow.not-show e);
  pictures = λ rotated e given. absurd (c.in-follow.not-pictures e);
  record_is = λ e. absurd (c.in-follow.not-record e);
  follow = λ e. (c.in-Some-board_arguments_of.follow, refl, if_some_at (WantsBoard (rows_of (found_of c.args.matches.now))) c.board_arguments_of.result c.in-Some-board_arguments_of.follow c.in-Some-board_arguments_of.is c.board_arguments_of.ensures.wants);
  watch = λ e. named_once c.in-follow.is e refl;
  recover = λ e. named_once c.in-follow.is e refl;
  add = λ e. named_once c.in-follow.is e refl;
  back = λ e. named_once c.in-follow.is e refl;
  instead = λ e. named_once c.in-follow.is e refl;
  live = λ e. named_once c.in-follow.is e refl;
  check = λ e. named_once c.in-follow.is e refl;
  times = λ e. named_once c.in-follow.is e refl;
  moves = λ e. named_once c.in-follow.is e refl;
  positions = λ e. named_once c.in-follow.is e refl;
  known = rw c.in-follow.is (ap is_some (sym c.in-Some-board_arguments_of.is) ∙ side_known (found_of c.args.matches.now) c.board_arguments_of.result c.board_arguments_of.ensures.known);
}

pub returns-in-None-board_arguments_of : goal.returns-in-None-board_arguments_of
returns-in-None-board_arguments_of c = record {
  show = λ e. absurd (c.in-follow.not-show e);
  pictures = λ rotated e given. absurd (c.in-follow.not-pictures e);
  record_is = λ e. absurd (c.in-follow.not-record e);
  follow = λ e. tt;
  watch = λ e. named_once c.in-follow.is e refl;
  recover = λ e. named_once c.in-follow.is e refl;
  add = λ e. named_once c.in-follow.is e refl;
  back = λ e. named_once c.in-follow.is e refl;
  instead = λ e. named_once c.in-follow.is e refl;
  live = λ e. named_once c.in-follow.is e refl;
  check = λ e. named_once c.in-follow.is e refl;
  times = λ e. named_once c.in-follow.is e refl;
  moves = λ e. named_once c.in-follow.is e refl;
  positions = λ e. named_once c.in-follow.is e refl;
  known = rw c.in-follow.is (ap is_some (sym c.in-None-board_arguments_of.is) ∙ side_known (found_of c.args.matches.now) c.board_arguments_of.result c.board_arguments_of.ensures.known);
}

pub returns-in-Some-board_arguments_of-2 : goal.returns-in-Some-board_arguments_of-2
returns-in-Some-board_arguments_of-2 c = record {
  show = λ e. absurd (c.in-watch.not-show e);
  pictures = λ rotated e given. absurd (c.in-watch.not-pictures e);
  record_is = λ e. absurd (c.in-watch.not-record e);
  follow = λ e. absurd (c.in-watch.not-follow e);
  watch = λ e. (c.in-Some-board_arguments_of-2.watch, refl, if_some_at (WantsBoard (rows_of (found_of c.args.matches.now))) c.board_arguments_of-in-watch.result c.in-Some-board_arguments_of-2.watch c.in-Some-board_arguments_of-2.is c.board_arguments_of-in-watch.ensures.wants);
  recover = λ e. named_once c.in-watch.is e refl;
  add = λ e. named_once c.in-watch.is e refl;
  back = λ e. named_once c.in-watch.is e refl;
  instead = λ e. named_once c.in-watch.is e refl;
  live = λ e. named_once c.in-watch.is e refl;
  check = λ e. named_once c.in-watch.is e refl;
  times = λ e. named_once c.in-watch.is e refl;
  moves = λ e. named_once c.in-watch.is e refl;
  positions = λ e. named_once c.in-watch.is e refl;
  known = rw c.in-watch.is (ap is_some (sym c.in-Some-board_arguments_of-2.is) ∙ side_known (found_of c.args.matches.now) c.board_arguments_of-in-watch.result c.board_arguments_of-in-watch.ensures.known);
}

pub returns-in-None-board_arguments_of-2 : goal.returns-in-None-board_arguments_of-2
returns-in-None-board_arguments_of-2 c = record {
  show = λ e. absurd (c.in-watch.not-show e);
  pictures = λ rotated e given. absurd (c.in-watch.not-pictures e);
  record_is = λ e. absurd (c.in-watch.not-record e);
  follow = λ e. absurd (c.in-watch.not-follow e);
  watch = λ e. tt;
  recover = λ e. named_once c.in-watch.is e refl;
  add = λ e. named_once c.in-watch.is e refl;
  back = λ e. named_once c.in-watch.is e refl;
  instead = λ e. named_once c.in-watch.is e refl;
  live = λ e. named_once c.in-watch.is e refl;
  check = λ e. named_once c.in-watch.is e refl;
  times = λ e. named_once c.in-watch.is e refl;
  moves = λ e. named_once c.in-watch.is e refl;
  positions = λ e. named_once c.in-watch.is e refl;
  known = rw c.in-watch.is (ap is_some (sym c.in-None-board_arguments_of-2.is) ∙ side_known (found_of c.args.matches.now) c.board_arguments_of-in-watch.result c.board_arguments_of-in-watch.ensures.known);
}

pub returns-in-Some-board_arguments_of-3 : goal.returns-in-Some-board_arguments_of-3
returns-in-Some-board_arguments_of-3 c = record {
  show = λ e. absurd (c.in-recover.not-show e);
  pictures = λ rotated e given. absurd (c.in-recover.not-pictures e);
  record_is = λ e. absurd (c.in-recover.not-record e);
  follow = λ e. absurd (c.in-recover.not-follow e);
  watch = λ e. absurd (c.in-recover.not-watch e);
  recover = λ e. (c.in-Some-board_arguments_of-3.recover, refl, if_some_at (WantsBoard (rows_of (found_of c.args.matches.now))) c.board_arguments_of-in-recover.result c.in-Some-board_arguments_of-3.recover c.in-Some-board_arguments_of-3.is c.board_arguments_of-in-recover.ensures.wants);
  add = λ e. named_once c.in-recover.is e refl;
  back = λ e. named_once c.in-recover.is e refl;
  instead = λ e. named_once c.in-recover.is e refl;
  live = λ e. named_once c.in-recover.is e refl;
  check = λ e. named_once c.in-recover.is e refl;
  times = λ e. named_once c.in-recover.is e refl;
  moves = λ e. named_once c.in-recover.is e refl;
  positions = λ e. named_once c.in-recover.is e refl;
  known = rw c.in-recover.is (ap is_some (sym c.in-Some-board_arguments_of-3.is) ∙ side_known (found_of c.args.matches.now) c.board_arguments_of-in-recover.result c.board_arguments_of-in-recover.ensures.known);
}

pub returns-in-None-board_arguments_of-3 : goal.returns-in-None-board_arguments_of-3
returns-in-None-board_arguments_of-3 c = record {
  show = λ e. absurd (c.in-recover.not-show e);
  pictures = λ rotated e given. absurd (c.in-recover.not-pictures e);
  record_is = λ e. absurd (c.in-recover.not-record e);
  follow = λ e. absurd (c.in-recover.not-follow e);
  watch = λ e. absurd (c.in-recover.not-watch e);
  recover = λ e. tt;
  add = λ e. named_once c.in-recover.is e refl;
  back = λ e. named_once c.in-recover.is e refl;
  instead = λ e. named_once c.in-recover.is e refl;
  live = λ e. named_once c.in-recover.is e refl;
  check = λ e. named_once c.in-recover.is e refl;
  times = λ e. named_once c.in-recover.is e refl;
  moves = λ e. named_once c.in-recover.is e refl;
  positions = λ e. named_once c.in-recover.is e refl;
  known = rw c.in-recover.is (ap is_some (sym c.in-None-board_arguments_of-3.is) ∙ side_known (found_of c.args.matches.now) c.board_arguments_of-in-recover.result c.board_arguments_of-in-recover.ensures.known);
}

pub returns-in-Some-edit_arguments_of : goal.returns-in-Some-edit_arguments_of
returns-in-Some-edit_arguments_of c = record {
  show = λ e. absurd (c.in-add.not-show e);
  pictures = λ rotated e given. absurd (c.in-add.not-pictures e);
  record_is = λ e. absurd (c.in-add.not-record e);
  follow = λ e. absurd (c.in-add.not-follow e);
  watch = λ e. absurd (c.in-add.not-watch e);
  recover = λ e. absurd (c.in-add.not-recover e);
  add = λ e. (c.in-Some-edit_arguments_of.add, refl, if_some_at (WantsEdit (codes "line") (rows_of (found_of c.args.matches.now))) c.edit_arguments_of.result c.in-Some-edit_arguments_of.add c.in-Some-edit_arguments_of.is c.edit_arguments_of.ensures.wants);
  back = λ e. named_once c.in-add.is e refl;
  instead = λ e. named_once c.in-add.is e refl;
  live = λ e. named_once c.in-add.is e refl;
  check = λ e. named_once c.in-add.is e refl;
  times = λ e. named_once c.in-add.is e refl;
  moves = λ e. named_once c.in-add.is e refl;
  positions = λ e. named_once c.in-add.is e refl;
  known = rw c.in-add.is (ap is_some (sym c.in-Some-edit_arguments_of.is) ∙ side_known (found_of c.args.matches.now) c.edit_arguments_of.result c.edit_arguments_of.ensures.known);
}

pub returns-in-None-edit_arguments_of : goal.returns-in-None-edit_arguments_of
returns-in-None-edit_arguments_of c = record {
  show = λ e. absurd (c.in-add.not-show e);
  pictures = λ rotated e given. absurd (c.in-add.not-pictures e);
  record_is = λ e. absurd (c.in-add.not-record e);
  follow = λ e. absurd (c.in-add.not-follow e);
  watch = λ e. absurd (c.in-add.not-watch e);
  recover = λ e. absurd (c.in-add.not-recover e);
  add = λ e. tt;
  back = λ e. named_once c.in-add.is e refl;
  instead = λ e. named_once c.in-add.is e refl;
  live = λ e. named_once c.in-add.is e refl;
  check = λ e. named_once c.in-add.is e refl;
  times = λ e. named_once c.in-add.is e refl;
  moves = λ e. named_once c.in-add.is e refl;
  positions = λ e. named_once c.in-add.is e refl;
  known = rw c.in-add.is (ap is_some (sym c.in-None-edit_arguments_of.is) ∙ side_known (found_of c.args.matches.now) c.edit_arguments_of.result c.edit_arguments_of.ensures.known);
}

pub returns-in-Some-edit_arguments_of-2 : goal.returns-in-Some-edit_arguments_of-2
returns-in-Some-edit_arguments_of-2 c = record {
  show = λ e. absurd (c.in-back.not-show e);
  pictures = λ rotated e given. absurd (c.in-back.not-pictures e);
  record_is = λ e. absurd (c.in-back.not-record e);
  follow = λ e. absurd (c.in-back.not-follow e);
  watch = λ e. absurd (c.in-back.not-watch e);
  recover = λ e. absurd (c.in-back.not-recover e);
  add = λ e. absurd (c.in-back.not-add e);
  back = λ e. (c.in-Some-edit_arguments_of-2.back, refl, if_some_at (WantsEdit (codes "to") (rows_of (found_of c.args.matches.now))) c.edit_arguments_of-in-back.result c.in-Some-edit_arguments_of-2.back c.in-Some-edit_arguments_of-2.is c.edit_arguments_of-in-back.ensures.wants);
  instead = λ e. named_once c.in-back.is e refl;
  live = λ e. named_once c.in-back.is e refl;
  check = λ e. named_once c.in-back.is e refl;
  times = λ e. named_once c.in-back.is e refl;
  moves = λ e. named_once c.in-back.is e refl;
  positions = λ e. named_once c.in-back.is e refl;
  known = rw c.in-back.is (ap is_some (sym c.in-Some-edit_arguments_of-2.is) ∙ side_known (found_of c.args.matches.now) c.edit_arguments_of-in-back.result c.edit_arguments_of-in-back.ensures.known);
}

pub returns-in-Some-edit_arguments_of-3 : goal.returns-in-Some-edit_arguments_of-3
returns-in-Some-edit_arguments_of-3 c = record {
  show = λ e. absurd (c.in-instead.not-show e);
  pictures = λ rotated e given. absurd (c.in-instead.not-pictures e);
  record_is = λ e. absurd (c.in-instead.not-record e);
  follow = λ e. absurd (c.in-instead.not-follow e);
  watch = λ e. absurd (c.in-instead.not-watch e);
  recover = λ e. absurd (c.in-instead.not-recover e);
  add = λ e. absurd (c.in-instead.not-add e);
  back = λ e. absurd (c.in-instead.not-back e);
  instead = λ e. (c.in-Some-edit_arguments_of-3.instead, refl, if_some_at (WantsEdit (codes "line") (rows_of (found_of c.args.matches.now))) c.edit_arguments_of-in-instead.result c.in-Some-edit_arguments_of-3.instead c.in-Some-edit_arguments_of-3.is c.edit_arguments_of-in-instead.ensures.wants);
  live = λ e. named_once c.in-instead.is e refl;
  check = λ e. named_once c.in-instead.is e refl;
  times = λ e. named_once c.in-instead.is e refl;
  moves = λ e. named_once c.in-instead.is e refl;
  positions = λ e. named_once c.in-instead.is e refl;
  known = rw c.in-instead.is (ap is_some (sym c.in-Some-edit_arguments_of-3.is) ∙ side_known (found_of c.args.matches.now) c.edit_arguments_of-in-instead.result c.edit_arguments_of-in-instead.ensures.known);
}

pub returns-in-None-edit_arguments_of-2 : goal.returns-in-None-edit_arguments_of-2
returns-in-None-edit_arguments_of-2 c = record {
  show = λ e. absurd (c.in-back.not-show e);
  pictures = λ rotated e given. absurd (c.in-back.not-pictures e);
  record_is = λ e. absurd (c.in-back.not-record e);
  follow = λ e. absurd (c.in-back.not-follow e);
  watch = λ e. absurd (c.in-back.not-watch e);
  recover = λ e. absurd (c.in-back.not-recover e);
  add = λ e. absurd (c.in-back.not-add e);
  back = λ e. tt;
  instead = λ e. named_once c.in-back.is e refl;
  live = λ e. named_once c.in-back.is e refl;
  check = λ e. named_once c.in-back.is e refl;
  times = λ e. named_once c.in-back.is e refl;
  moves = λ e. named_once c.in-back.is e refl;
  positions = λ e. named_once c.in-back.is e refl;
  known = rw c.in-back.is (ap is_some (sym c.in-None-edit_arguments_of-2.is) ∙ side_known (found_of c.args.matches.now) c.edit_arguments_of-in-back.result c.edit_arguments_of-in-back.ensures.known);
}

pub returns-in-None-edit_arguments_of-3 : goal.returns-in-None-edit_arguments_of-3
returns-in-None-edit_arguments_of-3 c = record {
  show = λ e. absurd (c.in-instead.not-show e);
  pictures = λ rotated e given. absurd (c.in-instead.not-pictures e);
  record_is = λ e. absurd (c.in-instead.not-record e);
  follow = λ e. absurd (c.in-instead.not-follow e);
  watch = λ e. absurd (c.in-instead.not-watch e);
  recover = λ e. absurd (c.in-instead.not-recover e);
  add = λ e. absurd (c.in-instead.not-add e);
  back = λ e. absurd (c.in-instead.not-back e);
  instead = λ e. tt;
  live = λ e. named_once c.in-instead.is e refl;
  check = λ e. named_once c.in-instead.is e refl;
  times = λ e. named_once c.in-instead.is e refl;
  moves = λ e. named_once c.in-instead.is e refl;
  positions = λ e. named_once c.in-instead.is e refl;
  known = rw c.in-instead.is (ap is_some (sym c.in-None-edit_arguments_of-3.is) ∙ side_known (found_of c.args.matches.now) c.edit_arguments_of-in-instead.result c.edit_arguments_of-in-instead.ensures.known);
}

pub returns-in-Some-live_arguments_of : goal.returns-in-Some-live_arguments_of
returns-in-Some-live_arguments_of c = record {
  show = λ e. absurd (c.in-live.not-show e);
  pictures = λ rotated e given. absurd (c.in-live.not-pictures e);
  record_is = λ e. absurd (c.in-live.not-record e);
  follow = λ e. absurd (c.in-live.not-follow e);
  watch = λ e. absurd (c.in-live.not-watch e);
  recover = λ e. absurd (c.in-live.not-recover e);
  add = λ e. absurd (c.in-live.not-add e);
  back = λ e. absurd (c.in-live.not-back e);
  instead = λ e. absurd (c.in-live.not-instead e);
  live = λ e. (c.in-Some-live_arguments_of.live, refl, if_some_at (WantsLive (rows_of (found_of c.args.matches.now))) c.live_arguments_of.result c.in-Some-live_arguments_of.live c.in-Some-live_arguments_of.is c.live_arguments_of.ensures.wants);
  check = λ e. named_once c.in-live.is e refl;
  times = λ e. named_once c.in-live.is e refl;
  moves = λ e. named_once c.in-live.is e refl;
  positions = λ e. named_once c.in-live.is e refl;
  known = rw c.in-live.is (ap is_some (sym c.in-Some-live_arguments_of.is) ∙ side_known (found_of c.args.matches.now) c.live_arguments_of.result c.live_arguments_of.ensures.known);
}

pub returns-in-None-live_arguments_of : goal.returns-in-None-live_arguments_of
returns-in-None-live_arguments_of c = record {
  show = λ e. absurd (c.in-live.not-show e);
  pictures = λ rotated e given. absurd (c.in-live.not-pictures e);
  record_is = λ e. absurd (c.in-live.not-record e);
  follow = λ e. absurd (c.in-live.not-follow e);
  watch = λ e. absurd (c.in-live.not-watch e);
  recover = λ e. absurd (c.in-live.not-recover e);
  add = λ e. absurd (c.in-live.not-add e);
  back = λ e. absurd (c.in-live.not-back e);
  instead = λ e. absurd (c.in-live.not-instead e);
  live = λ e. tt;
  check = λ e. named_once c.in-live.is e refl;
  times = λ e. named_once c.in-live.is e refl;
  moves = λ e. named_once c.in-live.is e refl;
  positions = λ e. named_once c.in-live.is e refl;
  known = rw c.in-live.is (ap is_some (sym c.in-None-live_arguments_of.is) ∙ side_known (found_of c.args.matches.now) c.live_arguments_of.result c.live_arguments_of.ensures.known);
}
