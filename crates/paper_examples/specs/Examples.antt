-- Document 01, "Examples": the proved set, the first two cases of each line but the one on item 16. A block is run on the factory state,
-- or after other blocks.
use Rattle.std.specs.Prelude.{ℕ, ◌≡◌, List, [], ◌∷◌, map, ℤ, pos, length, replicate}
use Rattle.logic.specs.Written.{written}
use Rattle.sequence.specs.Machine.{run}
use Rattle.refusal.specs.Refusal.{none}
use Rattle.analog.specs.Analog.{result, readout_of, percent_of}
use Rattle.cdi_command.specs.Payload.{response_buffer_min}
use Rattle.cdi_state.specs.State.{factory_state}
use Rattle.cdi_model.specs.Step.{Step, request, command, StepResult, responded}
use Rattle.cdi_model.specs.Model.{model}
use Rattle.cdi_module.specs.Module.{result_of}
use Rattle.cdi_module.specs.Machine.{machine}

-- what a block gets: a response, or a refusal by document 01's own number
pub data Expected : Type 0 where
  response : List ℕ → Expected
  refusal : ℕ → Expected

-- some examples give the percent too
pub data Percent : Type 0 where
  percent : ℕ → Percent
  untold : Percent

pub data Example : Type 0 where
  on_block : (before : List (List ℕ)) (block : List ℕ) → Expected → Example
  on_readings : (readings : List ℕ) (offset : ℤ) (readout : ℕ) → Percent → Example

-- a response buffer, filled so that what is written and what is left can be told
abbrev pub buffer : List ℕ
buffer = replicate response_buffer_min 0xAA

abbrev pub as_result : Expected → StepResult
as_result (response bytes) = responded none (length bytes) (written buffer bytes)
as_result (refusal n) = responded n 0 buffer

abbrev pub as_step : List ℕ → Step
as_step block = command (request block buffer)

abbrev pub PercentHolds : ℕ → Percent → Type 0
PercentHolds readout (percent p) = percent_of readout ≡ p
PercentHolds readout untold = Unit {0}

-- an example holds where the module's result is the expected one, in every byte of the response buffer
abbrev pub Holds : Example → Type 0
Holds (on_block before block expected) =
    result_of (run model machine factory_state (map as_step before)) (as_step block) ≡ as_result expected
Holds (on_readings readings offset readout p) = (readout_of readings offset ≡ result none readout) × PercentHolds readout p

abbrev pub AllHold : List Example → Type 0
AllHold [] = Unit {0}
AllHold (x ∷ xs) = Holds x × AllHold xs

abbrev pub examples : List Example
examples =
    on_block [] (0x80 ∷ 0x55 ∷ 0x82 ∷ 0x01 ∷ 0x15 ∷ []) (response (0x80 ∷ 0x55 ∷ 0x83 ∷ 0xC1 ∷ 0x15 ∷ 0x00 ∷ [])) ∷
    on_block [] (0x80 ∷ 0xFF ∷ 0xFF ∷ 0x55 ∷ 0x82 ∷ 0x01 ∷ 0x15 ∷ []) (response (0x80 ∷ 0x55 ∷ 0x83 ∷ 0xC1 ∷ 0x15 ∷ 0x00 ∷ [])) ∷
    on_block [] (0x80 ∷ 0x55 ∷ 0x83 ∷ 0x04 ∷ 0x15 ∷ 0x06 ∷ []) (response (0x80 ∷ 0x55 ∷ 0x85 ∷ 0xC0 ∷ 0x00 ∷ 0x04 ∷ 0x15 ∷ 0x06 ∷ [])) ∷
    on_block ((0x80 ∷ 0x55 ∷ 0x83 ∷ 0x04 ∷ 0x15 ∷ 0x06 ∷ []) ∷ []) (0x80 ∷ 0x55 ∷ 0x82 ∷ 0x03 ∷ 0x15 ∷ [])
    (response (0x80 ∷ 0x55 ∷ 0x83 ∷ 0xC2 ∷ 0x15 ∷ 0x06 ∷ [])) ∷
    on_block [] (0x80 ∷ 0x55 ∷ 0x83 ∷ 0x02 ∷ 0x15 ∷ 0x07 ∷ []) (refusal 12) ∷
    on_block [] (0x80 ∷ 0x55 ∷ 0x82 ∷ 0x03 ∷ 0x25 ∷ []) (refusal 10) ∷
    on_block [] (0x80 ∷ 0x55 ∷ 0x83 ∷ 0x02 ∷ 0x13 ∷ 0xEC ∷ []) (response (0x80 ∷ 0x55 ∷ 0x85 ∷ 0xC0 ∷ 0x00 ∷ 0x02 ∷ 0x13 ∷ 0xEC ∷ [])) ∷
    on_block [] (0x80 ∷ 0x55 ∷ 0x83 ∷ 0x02 ∷ 0x13 ∷ 0xEB ∷ []) (refusal 12) ∷
    on_block [] (0x80 ∷ 0x55 ∷ 0x81 ∷ 0x82 ∷ []) (response (0x80 ∷ 0x55 ∷ 0x83 ∷ 0xC0 ∷ 0x00 ∷ 0x82 ∷ [])) ∷
    on_block [] (0x80 ∷ 0x55 ∷ 0x81 ∷ 0x01 ∷ []) (refusal 8) ∷
    on_block [] (0x80 ∷ 0x55 ∷ 0x88 ∷ 0x04 ∷ 0x18 ∷ 0x27 ∷ 0x01 ∷ 0x02 ∷ 0x03 ∷ 0x04 ∷ 0x05 ∷ [])
    (response (0x80 ∷ 0x55 ∷ 0x8A ∷ 0xC0 ∷ 0x00 ∷ 0x04 ∷ 0x18 ∷ 0x27 ∷ 0x01 ∷ 0x02 ∷ 0x03 ∷ 0x04 ∷ 0x05 ∷ [])) ∷
    on_block [] (0x80 ∷ 0x55 ∷ 0x88 ∷ 0x04 ∷ 0x18 ∷ 0x28 ∷ 0x01 ∷ 0x02 ∷ 0x03 ∷ 0x04 ∷ 0x05 ∷ []) (refusal 11) ∷
    on_block [] [] (refusal 3) ∷
    on_block [] (0x80 ∷ []) (refusal 3) ∷
    on_readings (3563 ∷ 3564 ∷ []) (pos 0) 57016 (percent 87) ∷
    on_readings (4095 ∷ []) (pos 15) 65535 untold ∷
    []
