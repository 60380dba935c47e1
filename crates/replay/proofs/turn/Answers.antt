-- What is answered is printed, and where it leaves room only a line is left that is not finished, after which more is read.
use Rattle.std.proofs.Common.{refl, inr, sym, ◌∙◌, false, true, arith}
use borrow.Author.Tests.{lt-ltb, le-ltb}
use Rattle.replay.proofs.Left.{stays, refilled}
use Rattle.replay.proofs.turn.Goals as goal

pub returns-in-Err : goal.returns-in-Err
returns-in-Err c =
    let answer = c.answer-written.ensures in
    (answer.left.0, omega (arith, answer.left.1), stays answer.lines answer.left.2 false false refl refl)

pub returns-then-full : goal.returns-then-full
returns-then-full c =
    let answer = c.answer-written.ensures in
    let full = lt-ltb _ _ c.if-full.true in
    (answer.left.0, omega (arith, answer.left.1), stays answer.lines answer.left.2 false true (rw full refl) (rw full refl))

pub returns-then-session : goal.returns-then-session
returns-then-session c =
    let answer = c.answer-written.ensures in
    let room = le-ltb _ _ c.if-full.false in
    let ended = sym answer.left.2 ∙ c.if-session.true in
    (answer.left.0, omega (arith, answer.left.1), stays answer.lines answer.left.2 true true (rw (room, ended) refl) (rw room refl))

pub returns : goal.returns
returns c =
    let answer = c.answer-written.ensures in
    let refill = c.refill.ensures in (
      omega (arith, refill.1),
      refill.2,
      record {
        text = answer.lines.text;
        state-after = refill.0 ∙ answer.lines.state-after;
        left = inr (record {
          is_printed = refill.5;
          not_full = sym answer.lines.full ∙ le-ltb _ _ c.if-full.false;
          not_ended = sym answer.left.2 ∙ c.if-session.false;
          refilled = rw refill.1 (refilled _ _ _ _ _ _ answer.lines.left refill.6);
          end_known = refill.3;
          not_done = refill.4;
        });
      },
    )
