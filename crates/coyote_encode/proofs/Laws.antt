-- What is written is read as that, and what is read, written again, is the same block.
-- Assumes nothing.
use Prim.Native.Nat.{ℕ, ◌≤◌}
use mathlib.Core.Path.{◌≡◌, sym, ap}
use mathlib.Core.Bool.{true}
use mathlib.Core.List.{List}
use native.Mathlib.Omega.{arith}
use borrow.Author.Tests.{ltb-false, le-ltb}
use lib.Dec.{ltb}
use lib.ListN.{length}
use Rattle.logic.proofs.Written.{written-front}
use Rattle.refusal.specs.Refusal.{accepted}
use Rattle.refusal.proofs.Results.{else_refused, then-refused}
use Rattle.coyote_packet.specs.Layout.{Message, message_bytes, is_accepted}
use Rattle.coyote_packet.specs.Read.{message_in}
use Rattle.coyote_packet.proofs.ReadBack.{read_back}
use Rattle.coyote_packet.proofs.Accepted.{accepted_laid_out}
use Rattle.coyote_encode.specs.Encode.{encode}
use Rattle.coyote_encode.specs.Laws.{WrittenIsRead, ReadIsWritten}

-- the tests that an accepted call has passed, and what it gives
pub passed : (m : Message) (room : ℕ) (bytes : List ℕ) → encode m room ≡ accepted bytes → (is_accepted m ≡ true) × (length bytes ≤ room) × (message_bytes m ≡ bytes)
unfolding encode
passed m room bytes e =
    let a = else_refused (is_accepted m) _ _ bytes e in
    let b = then-refused (ltb room (length (message_bytes m))) _ _ bytes a.1 in
    let same : message_bytes m ≡ bytes = cc in
    (a.0, omega (arith, ltb-false room (length (message_bytes m)) b.0, ap length same), same)

pub written_is_read : WrittenIsRead
written_is_read m buffer bytes e =
    let p = passed m (length buffer) bytes e in
    rw (e, written-front buffer bytes, ← p.2) (read_back m p.0)

pub read_is_written : ReadIsWritten
unfolding encode
read_is_written block p room bytes e h =
    let l = accepted_laid_out block p bytes e in
    simp (l.message-accepted, le-ltb room (length (message_bytes (message_in block p))) (omega (arith, ap length l.packet_is))) (ap accepted (sym l.packet_is))
