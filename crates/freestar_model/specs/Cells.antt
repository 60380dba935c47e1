-- Document 02, Ask 11, "a small record of PAN ID (14 bits), addresses and channel": the cells, what messages do to them, and the table of
-- which cells each reads and stores in.
use Rattle.std.specs.Prelude.{ℕ, ◌+◌, Bool, cond, List, [], ◌∷◌, ◌++◌, eqb, take, drop}
use Rattle.logic.specs.Lists.{any}
use Rattle.freestar_packet.specs.Layout.{set_pan_id, query_pan_id, set_address, query_address, set_channel, query_channel}

pub data Cell : Type 0 where
  pan_id_cell : Cell
  long_address_cell : Cell
  short_address_cell : Cell
  channel : Cell

-- how many bytes each holds, as 004 has them
abbrev pub size : Cell → ℕ
size pan_id_cell = 2
size long_address_cell = 8
size short_address_cell = 2
size channel = 1

abbrev pub number : Cell → ℕ
number pan_id_cell = 0
number long_address_cell = 1
number short_address_cell = 2
number channel = 3

abbrev pub is_in : List Cell → Cell → Bool
is_in cells c = any (λ d. eqb (number c) (number d)) cells

-- what 004's messages are about: the PAN ID, the transceiver's address and the RF channel
pub data Setting : Type 0 where
  network : Setting
  address : Setting
  frequency : Setting

-- the cells of each, in the order of the bytes in a message: the long address and then the short one
abbrev pub cells_of : Setting → List Cell
cells_of network = pan_id_cell ∷ []
cells_of address = long_address_cell ∷ short_address_cell ∷ []
cells_of frequency = channel ∷ []

-- what a message does
pub data Action : Type 0 where
  set : Setting → Action
  query : Setting → Action
  reset : Action

-- of the messages that the host sends, the last is the reset
abbrev pub action_of : (type : ℕ) → Action
action_of type =
    cond (eqb type set_pan_id) (set network)
    (cond (eqb type query_pan_id) (query network)
    (cond (eqb type set_address) (set address)
    (cond (eqb type query_address) (query address)
    (cond (eqb type set_channel) (set frequency)
    (cond (eqb type query_channel) (query frequency) reset)))))

-- the table: a query reads its cells, a set stores in its cells, and "a reset leaves" them all
abbrev pub read_by : Action → List Cell
read_by (set x) = []
read_by (query x) = cells_of x
read_by reset = []

abbrev pub stored_by : Action → List Cell
stored_by (set x) = cells_of x
stored_by (query x) = []
stored_by reset = []

-- how many bytes cells hold together, and what they hold, one after the other
abbrev pub total : List Cell → ℕ
total [] = 0
total (c ∷ cells) = size c + total cells

abbrev pub joined : (Cell → List ℕ) → List Cell → List ℕ
joined s [] = []
joined s (c ∷ cells) = s c ++ joined s cells

-- what one of some cells is given by bytes that are all of them, one after the other
abbrev pub cut : List Cell → List ℕ → Cell → List ℕ
cut [] bytes x = []
cut (c ∷ cells) bytes x = cond (eqb (number x) (number c)) (take (size c) bytes) (cut cells (drop (size c) bytes) x)
