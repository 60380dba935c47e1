-- `put_packet` meets its contract: three bytes are stored, the data are copied after them, and the sum of what is there and the last byte are
-- stored after these.
use Rattle.std.proofs.Common.{◌≡◌, ℕ, ◌+◌, ◌-◌, List, [], ◌∷◌, length, take, set, refl, ap, ◌∙◌, arith}
use lib.Seq.{sets}
use Rattle.logic.specs.Written.{written, Writes}
use Rattle.logic.proofs.Written.{stores, with_part, written-front}
use Rattle.byte_copy.proofs.Copied.{copied_behind}
use Rattle.checksum.specs.Checksum.{sum_from}
use Rattle.checksum.proofs.Laws.{summed-written}
use Rattle.freestar_packet.specs.Layout.{start, end, overhead, start_of_data, front, sum_start, packet_bytes}
use Rattle.freestar_packet.proofs.Frame.{packet_length_lem}
use Rattle.freestar_encode.proofs.put_packet.Goals as goal

pub returns : goal.returns
unfolding packet_bytes
returns c =
    let a = c.args in
    let s = a.packet.now in
    let bytes = a.content.now in
    let f = front a.kind bytes in
    let head = start ∷ (overhead + length bytes) ∷ a.kind ∷ [] in
    let n = start_of_data + c.copy-sum_at.result in
    let copied : Writes f s (with_part start_of_data (sets s 0 head) c.copy-sum_at.new.out) n =
    copied_behind bytes (record { size = refl; over = stores s head (omega arith) }) (omega arith) c.copy-sum_at.ensures
    in
    let upto : n - 0 ≡ length f = omega (arith, copied.size) in
    let sum : c.sum_from-sum.result ≡ sum_from sum_start f =
    c.sum_from-sum.ensures ∙
    ap (λ (l : List ℕ). sum_from sum_start (take (n - 0) l)) copied.over ∙
    ap (λ (k : ℕ). sum_from sum_start (take k (written s f))) upto ∙
    ap (sum_from sum_start) (written-front s f)
    in
    record {
      size = omega (arith, copied.size, packet_length_lem a.kind bytes);
      over =
          ap (λ (l : List ℕ). set (set l n c.sum_from-sum.result) (n + 1) end) copied.over ∙
          ap (λ (x : ℕ). set (set (written s f) n x) (n + 1) end) sum ∙
          ap (λ (k : ℕ). set (set (written s f) k (sum_from sum_start f)) (k + 1) end) copied.size ∙
          summed-written sum_start end s f (omega arith);
    }
