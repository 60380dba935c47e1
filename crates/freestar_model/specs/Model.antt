-- Document 02, Ask 11: what the reference model decides on a message, what the message gives the cells that it stores in, and its answer. The
-- packets, their types and the PAN ID's limit are those of the crate below.
use Rattle.std.specs.Prelude.{ℕ, ◌+◌, Bool, true, false, cond, ◌&&◌, List, [], ltb, length}
use Rattle.sequence.specs.Model.{Model}
use Rattle.refusal.specs.Refusal.{Result, accepted, refused, frame_buffer_short, packet_content, pan_id_over}
use Rattle.freestar_packet.specs.declared.Message.{Message}
use Rattle.freestar_packet.specs.Layout.{answer_to, requests, fits_in, overhead, packet_bytes, pan_id_fits, pan_id_holds}
use Rattle.freestar_packet.specs.Read.{data_in, read_frame}
use Rattle.freestar_model.specs.Cells.{Cell, pan_id_cell, is_in, Action, action_of, read_by, stored_by, total, joined, cut}

-- a step: a block, and how many bytes the response buffer has
pub record Delivery : Type 0 where
  pub block : List ℕ
  pub room : ℕ

abbrev pub delivery : (block : List ℕ) (room : ℕ) → Delivery
delivery b n = record { block = b; room = n }

pub data Decision : Type 0 where
  refuse : ℕ → Decision
  execute : (type : ℕ) (bytes : List ℕ) → Action → Decision

-- 13 by the length of this answer
abbrev pub decide_room : (room type : ℕ) (bytes : List ℕ) → Action → Decision
decide_room room type bytes a = cond (ltb room (overhead + total (read_by a))) (refuse frame_buffer_short) (execute type bytes a)

-- 27 for a type that the host does not send, or other data; 28 for a PAN ID "in message or record"; 13. Given is whether the record's fits
abbrev pub decide_message : (fits : Bool) (room type : ℕ) (bytes : List ℕ) → Decision
decide_message fits room type bytes =
    cond (fits_in requests type (length bytes))
    (cond (pan_id_holds type bytes && fits) (decide_room room type bytes (action_of type)) (refuse pan_id_over))
    (refuse packet_content)

-- 24, 25, 26 come before these
abbrev pub decide_frame : (fits : Bool) → Delivery → Result Message → Decision
decide_frame fits x (accepted m) = decide_message fits x.room m.kind (data_in x.block)
decide_frame fits x (refused n) = refuse n

abbrev pub decide_given : (fits : Bool) → Delivery → Decision
decide_given fits x = decide_frame fits x (read_frame x.block)

unfoldable pub decide : (Cell → List ℕ) → Delivery → Decision
decide s x = decide_given (pan_id_fits (s pan_id_cell)) x

abbrev pub is_accepted : Decision → Bool
is_accepted (refuse n) = false
is_accepted (execute type bytes a) = true

abbrev pub reads : Decision → Cell → Bool
reads (refuse n) c = false
reads (execute type bytes a) c = is_in (read_by a) c

abbrev pub stores : Decision → Cell → Bool
stores (refuse n) c = false
stores (execute type bytes a) c = is_in (stored_by a) c

-- what a cell that is stored in is given: its part of the data
abbrev pub given : Decision → Cell → List ℕ
given (refuse n) c = []
given (execute type bytes a) c = cut (stored_by a) bytes c

-- the answer: the packet of the cells that are read, or the number of the refusal
abbrev pub answered : (Cell → List ℕ) → Decision → Result (List ℕ)
answered s (refuse n) = refused n
answered s (execute type bytes a) = accepted (packet_bytes (answer_to type) (joined s (read_by a)))

abbrev pub model : Model
model = record {
  Cell = Cell;
  Value = List ℕ;
  Step = Delivery;
  Decision = Decision;
  StepResult = Result (List ℕ);
  decide = decide;
  is_accepted = is_accepted;
  result = λ s x. answered s (decide s x);
  gives = λ s x c. given (decide s x) c;
  reads = reads;
  stores = stores;
}
