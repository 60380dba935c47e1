-- An input that comes in pieces prints what it prints as a whole: the whole lines of a piece come first, and what is kept of the
-- unfinished line behind them is enough.
-- Assumes nothing.
use Prim.Native.Nat.{ℕ}
use mathlib.Core.Path.{◌≡◌, refl, sym, ap, ◌∙◌}
use mathlib.Core.Bool.{false}
use mathlib.Core.List.{List, [], ◌∷◌, ◌++◌, append-nil, append_assoc}
use Rattle.hex_text.specs.Hex.{hex_line}
use Rattle.response_text.specs.Text.{printed}
use Rattle.cdi_state.specs.declared.ModuleState.{ModuleState}
use Rattle.cdi_state.specs.State.{factory_state}
use Rattle.replay_text.specs.Replay.{lines, line_text, line_state, lines_text, lines_state, replayed_from, replayed}
use Rattle.replay_text.specs.Answered.{has_line_feed, whole_part, unfinished}
use Rattle.replay_text.specs.Session.{kept_max, kept_of, session, joined}
use Rattle.replay_text.proofs.Lines.{whole_and_unfinished, unfinished-has-none, whole-lines-first}
use Rattle.replay_text.proofs.Laws.{last_line_lem, none-taken, kept-enough}

-- the text of some lines and others behind them
text-append : (s : ModuleState) (ls more : List (List ℕ)) → lines_text s (ls ++ more) ≡ lines_text s ls ++ lines_text (lines_state s ls) more
unfolding lines_text lines_state
text-append s [] more = refl
text-append s (l ∷ ls) more =
    let text = printed (line_text s (hex_line l)) in
    ap (λ (t : List ℕ). text ++ t) (text-append (line_state s (hex_line l)) ls more) ∙ sym (append_assoc text _ _)

-- the whole lines of some characters come first, whatever follows
whole-text-first : (s : ModuleState) (chars more : List ℕ)
    → replayed_from s (chars ++ more) ≡ lines_text s (lines (whole_part chars)) ++ replayed_from (lines_state s (lines (whole_part chars))) (unfinished chars ++ more)
whole-text-first s chars more =
    ap (λ (l : List ℕ). replayed_from s (l ++ more)) (sym (whole_and_unfinished chars))
    ∙ rw (append_assoc (whole_part chars) (unfinished chars) more, whole-lines-first chars (unfinished chars ++ more))
    (text-append s (lines (whole_part chars)) (lines (unfinished chars ++ more)))

-- from any state on, and behind what was kept of a line
pub session-text : (s : ModuleState) (kept : List ℕ) (inputs : List (List ℕ)) → has_line_feed kept ≡ false
    → session s kept inputs ≡ replayed_from s (kept ++ joined inputs)
unfolding session joined
session-text s kept [] none = (last_line_lem s kept none).0 ∙ ap (replayed_from s) (sym (append-nil kept))
session-text s kept (piece ∷ inputs) none =
    let chars = kept ++ piece in
    let after = lines_state s (lines (whole_part chars)) in
    let rest = unfinished chars in
    let left = unfinished-has-none chars in
    ap (λ (t : List ℕ). lines_text s (lines (whole_part chars)) ++ t)
    (session-text after (kept_of rest) inputs (none-taken kept_max rest left) ∙ sym (kept-enough after rest (joined inputs) left).0)
    ∙ sym (whole-text-first s chars (joined inputs))
    ∙ ap (replayed_from s) (append_assoc kept piece (joined inputs))

-- however the input comes in pieces, the text is that of the whole input
pub in_pieces : (inputs : List (List ℕ)) → session factory_state [] inputs ≡ replayed (joined inputs)
in_pieces inputs = session-text factory_state [] inputs refl
