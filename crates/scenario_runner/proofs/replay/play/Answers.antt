use Rattle.std.proofs.Common.{Err, inr, refl, ap, ◌∙◌, arith}
use Rattle.std.proofs.lemmas.Result.{err_from_is_err_and}
use Rattle.scenario_runner.proofs.Ready.{behind_section, ready_at_first}
use Rattle.scenario_runner.proofs.Telling.{behind_broken, end_lacks, first_lacks, first_unread, grown, opened_more, opens, play_breaks}
use Rattle.scenario_runner.proofs.Telling.{play_ends, play_stops, section_ends, section_halts, split_all, started, unread_behind}
use Rattle.run_status.proofs.Writing.{moved, started_written}
use Rattle.scenario_runner.proofs.replay.play.Goals as goal

pub loop-reader-init : goal.loop-reader-init
loop-reader-init g c =
    let reader = c.make-reader.ensures in
    let session = c.requires in record {
      plays = (
        _,
        started_written _ _,
        started _ _ _ _ reader.held reader.taken reader.limit reader.fault session.follows session.lines (rw session.text at c.in_ok-push_str.ensures.bytes),
      );
      behind = first_unread _ _ _ reader.held reader.taken reader.limit reader.fault;
      same = refl;
      ready = ready_at_first c.args.session.now session.follows;
      reads = omega arith;
      writes = omega arith;
    }

pub returns-in_err-advance-clause-plays : goal.returns-in_err-advance-clause-plays
returns-in_err-advance-clause-plays g c =
    let plays = c.loop-reader.invariant.plays in
    let w = moved _ _ _ _ _ _ plays.1 c.in_ok-put_before_read.ensures.moved in
    let stopped = c.in_err-advance.ensures.advances _ _ w.gone (split_all _ _ _ _ w _ _ _ _ plays.2) in
    let err = err_from_is_err_and c.from_residual-in_err-advance.result c.from_residual-in_err-advance.ensures.1 in
    play_stops _ _ _ _ c.advance.new.reader c.advance.new.session _ _ _ w c.in_err-advance.field-0.0 _ (err.1 ∙ ap Err err.2) stopped

pub loop-reader-preserved-in-Line : goal.loop-reader-preserved-in-Line
loop-reader-preserved-in-Line g c =
    let plays = c.loop-reader.invariant.plays in
    let w = moved _ _ _ _ _ _ plays.1 c.in_ok-put_before_read.ensures.moved in
    let goes = rw c.in-Line.is at (c.in_ok-advance.ensures.advances _ _ w.gone (split_all _ _ _ _ w _ _ _ _ plays.2)) in record {
      plays = (_, grown _ _ _ _ _ w, goes);
      behind = inr (opens _ _ _ _ _ _ _ _ _ _ plays.1 plays.2 c.in_ok-put_before_read.ensures.moved c.in_ok-put_before_read.ensures.all c.loop-reader.invariant.behind);
      same = c.in_ok-advance.ensures.same ∙ c.loop-reader.invariant.same;
      ready = c.in_ok-advance.ensures.ready;
      reads = omega (arith, c.loop-reader.invariant.reads, c.advance.ensures.later);
      writes = omega (arith, c.loop-reader.invariant.writes, c.put_before_read.ensures.cause.later);
    }

pub play_section-requires-clause-sound : goal.play_section-requires-clause-sound
play_section-requires-clause-sound g c =
    let plays = c.loop-reader.invariant.plays in
    let w = moved _ _ _ _ _ _ plays.1 c.in_ok-put_before_read.ensures.moved in
    (rw c.in-Section.is at (c.in_ok-advance.ensures.advances _ _ w.gone (split_all _ _ _ _ w _ _ _ _ plays.2))).sound

pub play_section-requires-clause-most : goal.play_section-requires-clause-most
play_section-requires-clause-most g c =
    let plays = c.loop-reader.invariant.plays in
    let w = moved _ _ _ _ _ _ plays.1 c.in_ok-put_before_read.ensures.moved in
    (rw c.in-Section.is at (c.in_ok-advance.ensures.advances _ _ w.gone (split_all _ _ _ _ w _ _ _ _ plays.2))).most

pub play_section-requires-clause-behind : goal.play_section-requires-clause-behind
play_section-requires-clause-behind g c =
    let plays = c.loop-reader.invariant.plays in
    let w = moved _ _ _ _ _ _ plays.1 c.in_ok-put_before_read.ensures.moved in
    let at = rw c.in-Section.is at (c.in_ok-advance.ensures.advances _ _ w.gone (split_all _ _ _ _ w _ _ _ _ plays.2)) in
    behind_section at.scenario c.advance.new.session c.in-Section.length at.follows

pub returns-in_err-last-in-Section-clause-plays : goal.returns-in_err-last-in-Section-clause-plays
returns-in_err-last-in-Section-clause-plays g c =
    let plays = c.loop-reader.invariant.plays in
    let w = moved _ _ _ _ _ _ plays.1 c.in_ok-put_before_read.ensures.moved in
    let at = rw c.in-Section.is at (c.in_ok-advance.ensures.advances _ _ w.gone (split_all _ _ _ _ w _ _ _ _ plays.2)) in
    let err = err_from_is_err_and c.from_residual-in_err-last-in-Section.result c.from_residual-in_err-last-in-Section.ensures.1 in
    section_halts _ _ _ _ c.play_section.new.reader c.play_section.new.session _ _ c.in_err-last-in-Section.field-0.0 _ (err.1 ∙ ap Err err.2)
    (c.in_err-last-in-Section.ensures.plays _ _ _ (grown _ _ _ _ _ w) at)

pub returns-in-Some-clause-plays : goal.returns-in-Some-clause-plays
returns-in-Some-clause-plays g c =
    let plays = c.loop-reader.invariant.plays in
    let w = moved _ _ _ _ _ _ plays.1 c.in_ok-put_before_read.ensures.moved in
    let at = rw c.in-Section.is at (c.in_ok-advance.ensures.advances _ _ w.gone (split_all _ _ _ _ w _ _ _ _ plays.2)) in
    let ends = rw c.in-Some.is at (c.in_ok-last-in-Section.ensures.plays _ _ _ (grown _ _ _ _ _ w) at) in
    section_ends _ _ _ _ c.play_section.new.reader _ _ _ _ _ c.in_ok-end-in-Section.ensures.reader c.in_ok-end-in-Section.ensures.world c.in_ok-end-in-Section.ensures.voice ends
    c.in_ok-end-in-Section.ensures.ok

pub loop-reader-preserved : goal.loop-reader-preserved
loop-reader-preserved g c =
    let plays = c.loop-reader.invariant.plays in
    let w = moved _ _ _ _ _ _ plays.1 c.in_ok-put_before_read.ensures.moved in
    let at = rw c.in-Section.is at (c.in_ok-advance.ensures.advances _ _ w.gone (split_all _ _ _ _ w _ _ _ _ plays.2)) in record {
      plays = rw c.in_default.is at (c.in_ok-last-in-Section.ensures.plays _ _ _ (grown _ _ _ _ _ w) at);
      behind =
          inr (opened_more _ _ _
          (opens _ _ _ _ _ _ _ _ _ _ plays.1 plays.2 c.in_ok-put_before_read.ensures.moved c.in_ok-put_before_read.ensures.all c.loop-reader.invariant.behind)
          c.play_section.ensures.grows);
      same = c.in_ok-last-in-Section.ensures.same ∙ c.in_ok-advance.ensures.same ∙ c.loop-reader.invariant.same;
      ready = c.in_ok-last-in-Section.ensures.ready;
      reads = omega (arith, c.loop-reader.invariant.reads, c.advance.ensures.later, c.play_section.ensures.later);
      writes = omega (arith, c.loop-reader.invariant.writes, c.put_before_read.ensures.cause.later, c.play_section.ensures.later_sink);
    }

pub returns-in-End-clause-plays : goal.returns-in-End-clause-plays
returns-in-End-clause-plays g c =
    let plays = c.loop-reader.invariant.plays in
    let w = moved _ _ _ _ _ _ plays.1 c.in_ok-put_before_read.ensures.moved in
    let ended = rw c.in-End.is at (c.in_ok-advance.ensures.advances _ _ w.gone (split_all _ _ _ _ w _ _ _ _ plays.2)) in
    play_ends _ _ _ _ _ _ _ _ _ _ w _ c.in_ok-end-in-End.ensures.reader c.in_ok-end-in-End.ensures.world c.in_ok-end-in-End.ensures.voice ended c.in_ok-end-in-End.ensures.ok

pub returns-in_err-push_str-clause-plays : goal.returns-in_err-push_str-clause-plays
returns-in_err-push_str-clause-plays g c =
    let err = err_from_is_err_and c.from_residual.result c.from_residual.ensures.1 in
    first_lacks _ _ _ _ _ (c.in_err-push_str.ensures.bytes ∙ c.requires.text) (err.1 ∙ ap Err err.2)

pub returns-in_err-push_str-clause-behind : goal.returns-in_err-push_str-clause-behind
returns-in_err-push_str-clause-behind g c =
    unread_behind _ _

pub returns-in_err-put_before_read-clause-plays : goal.returns-in_err-put_before_read-clause-plays
returns-in_err-put_before_read-clause-plays g c =
    let plays = c.loop-reader.invariant.plays in
    let err = err_from_is_err_and c.from_residual-in_err-put_before_read.result c.from_residual-in_err-put_before_read.ensures.1 in
    play_breaks _ _ _ _ _ _ _ _ _ _ _ _ plays.1 plays.2 c.in_err-put_before_read.ensures.breaks (err.1 ∙ ap Err err.2)

pub returns-in_err-put_before_read-clause-behind : goal.returns-in_err-put_before_read-clause-behind
returns-in_err-put_before_read-clause-behind g c =
    behind_broken _ _ _ _ _ c.loop-reader.reader _ c.in_err-put_before_read.ensures.breaks c.loop-reader.invariant.behind

pub returns-in_err-advance-clause-behind : goal.returns-in_err-advance-clause-behind
returns-in_err-advance-clause-behind g c =
    let plays = c.loop-reader.invariant.plays in
    let opened = opens _ _ _ _ _ _ _ _ _ _ plays.1 plays.2 c.in_ok-put_before_read.ensures.moved c.in_ok-put_before_read.ensures.all c.loop-reader.invariant.behind in
    inr opened

pub returns-in_err-last-in-Section-clause-behind : goal.returns-in_err-last-in-Section-clause-behind
returns-in_err-last-in-Section-clause-behind g c =
    let plays = c.loop-reader.invariant.plays in
    let opened = opens _ _ _ _ _ _ _ _ _ _ plays.1 plays.2 c.in_ok-put_before_read.ensures.moved c.in_ok-put_before_read.ensures.all c.loop-reader.invariant.behind in
    inr (opened_more _ _ _ opened c.play_section.ensures.grows)

pub returns-in_err-end-in-Section-clause-plays : goal.returns-in_err-end-in-Section-clause-plays
returns-in_err-end-in-Section-clause-plays g c =
    let plays = c.loop-reader.invariant.plays in
    let w = moved _ _ _ _ _ _ plays.1 c.in_ok-put_before_read.ensures.moved in
    let at = rw c.in-Section.is at (c.in_ok-advance.ensures.advances _ _ w.gone (split_all _ _ _ _ w _ _ _ _ plays.2)) in
    let ends = rw c.in-Some.is at (c.in_ok-last-in-Section.ensures.plays _ _ _ (grown _ _ _ _ _ w) at) in
    let err = err_from_is_err_and c.from_residual-in_err-end-in-Section.result c.from_residual-in_err-end-in-Section.ensures.1 in
    end_lacks _ _ _ _ _ _ _ _ _ _ _ ends.1 ends.2 c.in_err-end-in-Section.ensures.err (err.1 ∙ ap Err err.2)

pub returns-in_err-end-in-Section-clause-behind : goal.returns-in_err-end-in-Section-clause-behind
returns-in_err-end-in-Section-clause-behind g c =
    let plays = c.loop-reader.invariant.plays in
    let opened = opens _ _ _ _ _ _ _ _ _ _ plays.1 plays.2 c.in_ok-put_before_read.ensures.moved c.in_ok-put_before_read.ensures.all c.loop-reader.invariant.behind in
    inr (opened_more _ _ _ opened c.play_section.ensures.grows)

pub returns-in-Some-clause-behind : goal.returns-in-Some-clause-behind
returns-in-Some-clause-behind g c =
    let plays = c.loop-reader.invariant.plays in
    let opened = opens _ _ _ _ _ _ _ _ _ _ plays.1 plays.2 c.in_ok-put_before_read.ensures.moved c.in_ok-put_before_read.ensures.all c.loop-reader.invariant.behind in
    inr (opened_more _ _ _ opened c.play_section.ensures.grows)

pub returns-in_err-end-in-End-clause-plays : goal.returns-in_err-end-in-End-clause-plays
returns-in_err-end-in-End-clause-plays g c =
    let plays = c.loop-reader.invariant.plays in
    let w = moved _ _ _ _ _ _ plays.1 c.in_ok-put_before_read.ensures.moved in
    let ended = rw c.in-End.is at (c.in_ok-advance.ensures.advances _ _ w.gone (split_all _ _ _ _ w _ _ _ _ plays.2)) in
    let err = err_from_is_err_and c.from_residual-in_err-end-in-End.result c.from_residual-in_err-end-in-End.ensures.1 in
    end_lacks _ _ _ _ _ _ _ _ _ _ _ (grown _ _ _ _ _ w) ended c.in_err-end-in-End.ensures.err (err.1 ∙ ap Err err.2)

pub returns-in_err-end-in-End-clause-behind : goal.returns-in_err-end-in-End-clause-behind
returns-in_err-end-in-End-clause-behind g c =
    let plays = c.loop-reader.invariant.plays in
    let opened = opens _ _ _ _ _ _ _ _ _ _ plays.1 plays.2 c.in_ok-put_before_read.ensures.moved c.in_ok-put_before_read.ensures.all c.loop-reader.invariant.behind in
    inr opened

pub returns-in-End-clause-behind : goal.returns-in-End-clause-behind
returns-in-End-clause-behind g c =
    let plays = c.loop-reader.invariant.plays in
    let opened = opens _ _ _ _ _ _ _ _ _ _ plays.1 plays.2 c.in_ok-put_before_read.ensures.moved c.in_ok-put_before_read.ensures.all c.loop-reader.invariant.behind in
    inr opened
