-- The line that is found is decided on, answered and stored as the definitions have it, and at the end nothing is left to be answered.
use Rattle.std.proofs.Common.{◌≡◌, ◌-◌, ◌≤◌, length, take, drop, sym, ap, ◌∙◌, ⊎_elim, arith, rules}
use Rattle.hex_text.specs.Hex.{hex_line}
use Rattle.refusal.specs.Numbers.{answer}
use Rattle.cdi_valid.specs.Valid.{is_valid}
use Rattle.cdi_module.proofs.Decided.{nothing_stored_for}
use Rattle.replay_text.specs.Replay.{line_state}
use Rattle.replay_text.proofs.Valid.{line-lengths, line-valid}
use Rattle.replay_lines.specs.Progress.{line_decision, decision_of}
use Rattle.replay_lines.proofs.Decided.{state_of, line-text, line-stored}
use Rattle.replay_lines.proofs.Read.{next-read}
use Rattle.replay_lines.proofs.Answering.{length-kept, at-start, answered-line, no_room, no_line, all-answered}
use Rattle.replay_lines.proofs.replay_lines.Goals.{in-Some+then-stores, in_default, in_default-via-in-None-1, in_default-via-in-Some+else-stores}
use Rattle.replay_lines.proofs.replay_lines.Goals as goal

pub loop-block-init : goal.loop-block-init
loop-block-init c =
    record {
      output_kept = omega arith;
      block_kept = omega arith;
      inside = omega arith;
      so_far = at-start _ _ _;
      lengths = rw c.array_lengths-state.ensures.0 c.array_lengths-state.ensures.1.0;
      valid_kept = c.is_valid-valid.ensures;
    }

pub loop-block-preserved : goal.loop-block-preserved
loop-block-preserved c =
    let loop = c.loop-block.invariant in
    let current = c.loop-block.current in
    let decided = c.decide_line-decided.result in
    let read = c.read_line_at-read.ensures in
    let found = next-read c.args.input.now _ _ c.loop-block.start _ _ loop.inside loop.block_kept (omega arith) read.0 read.1 read.2 in
    let line = hex_line (take (c.read_line_at-read.result.end - c.loop-block.start) (drop c.loop-block.start c.args.input.now)) in
    let is : decision_of decided ≡ line_decision (is_valid current) line = rw (found.told, loop.valid_kept) at c.decide_line-decided.ensures in
    let stored : c.match-decided.current ≡ state_of current decided =
    elim c.match-decided.branch [
      | in-Some+then-stores w ↦ w.current-is ∙ w.store.ensures ∙ sym (ap (state_of current) w.in-Some.is)
      | in_default w ↦ w.current-is ∙
          elim w.in_default.branch [
            | in_default-via-in-None-1 w' ↦ search rules
            | in_default-via-in-Some+else-stores w' ↦ sym (nothing_stored_for current (answer w'.in-Some.decided) (sym w'.if-stores.ensures)) ∙ sym (ap (state_of current) w'.in-Some.is)
          ]
    ] in
    let next : c.match-decided.current ≡ line_state current line = stored ∙ line-stored current decided line is in
    let text = rw (line-text current decided line is) at c.answer_line-printed.ensures in
    record {
      output_kept = length-kept c.loop-block.output c.answer_line-printed.new.out c.loop-block.used (omega arith) c.answer_line-printed.auto.out ∙ loop.output_kept;
      block_kept = omega arith;
      inside = omega arith;
      so_far = answered-line c.args.input.now c.loop-block.start c.read_line_at-read.result.end found.found _ current _ c.args.output.now c.loop-block.output _ c.loop-block.used _
          loop.output_kept loop.so_far c.if-read-input.false c.if-room-lt-PRINTED_MAX.false next text;
      lengths = rw next (line-lengths current line loop.lengths);
      valid_kept = loop.valid_kept ∙ sym (line-valid current line loop.lengths) ∙ ap is_valid (sym next);
    }

pub returns-then-read-input : goal.returns-then-read-input
returns-then-read-input c =
    let loop = c.loop-block.invariant in
    let read = c.read_line_at-read.ensures in
    let found = next-read c.args.input.now _ _ c.loop-block.start _ _ loop.inside loop.block_kept (omega arith) read.0 read.1 read.2 in
    let so_far = rw c.array_lengths-state.ensures.0 at loop.so_far in
    all-answered c.args.state c.loop-block.current c.args.input.now c.args.output.now c.loop-block.output c.loop-block.start c.loop-block.used loop.output_kept so_far
    (⊎_elim
    (λ (outside : length c.args.input.now ≤ c.read_line_at-read.result.end).
    no_line c.loop-block.current c.args.input.now c.loop-block.start c.read_line_at-read.result.end (length c.args.output.now - c.loop-block.used) found.found outside)
    (λ short. no_room c.loop-block.current c.args.input.now c.loop-block.start (length c.args.output.now - c.loop-block.used) (omega arith))
    c.then-read-input.either)
