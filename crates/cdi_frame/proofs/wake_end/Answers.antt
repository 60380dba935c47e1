-- The wake bytes are those before the first other one, of the bytes within the limit.
use Rattle.std.proofs.Common.{rules, ◌≡◌, ◌≢◌, ◌-◌, length, take, drop, length-drop, ap, arith}
use Rattle.std.proofs.Math.Seq.{take_all}
use borrow.Author.Tests.{tests}
use Rattle.std.proofs.lemmas.Iterator.{YieldsList-from_slice, IsFirst-from_position}
use Rattle.cdi_frame.specs.Layout.{wake}
use Rattle.cdi_frame.proofs.Wakes.{wakes-taken, wakes_first}
use Rattle.cdi_frame.proofs.wake_end.Goals as goal

pub returns : goal.returns
returns c =
    let s = drop 1 c.args.block.now in
    let all : take (length c.args.block.now - 1) s ≡ s = take_all _ s (omega (arith, length-drop 1 c.args.block.now)) in
    let taken = take c.min.result s in
    let first = wakes_first taken _ (IsFirst-from_position _ _ _ (λ x. x ≢ wake) (λ x. x ≡ wake) c.position.ensures.ran (YieldsList-from_slice taken cc) (λ x q k. search (rules, tests)) (λ x q k. search (rules, tests))) in
    let count = wakes-taken c.args.wake_limit c.min.result s (omega (arith, c.min.ensures, ap length all)) in
    cc
