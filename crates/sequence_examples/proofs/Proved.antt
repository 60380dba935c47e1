-- The sentences hold: what they need of the model is computed, and the sequence theorem gives the rest.
-- Assumes nothing.
use mathlib.Core.Path.{◌≡◌, refl}
use lib.ListN.{length}
use Rattle.logic.specs.Lists.{all_below}
use Rattle.logic.specs.Written.{written}
use Rattle.sequence.specs.Model.{after, results as modelResults, last_or}
use Rattle.sequence.specs.Machine.{run, given}
use Rattle.sequence_examples.proofs.Computed.{some_stores}
use Rattle.cdi_frame.specs.Frame.{wakes, length_at, read_frame}
use Rattle.cdi_item.specs.Items.{items, item_in, item_of}
use Rattle.cdi_item.specs.Values.{accepted_value}
use Rattle.cdi_command.specs.Command.{select, command_on, parse_item, is_served, is_head_length_right, parse_payload, validate_payload}
use Rattle.cdi_state.specs.State.{factory_state, ArrayLengths}
use Rattle.cdi_valid.specs.Valid as Valid
use Rattle.cdi_store.specs.Store.{setting_stored}
use Rattle.cdi_value.specs.Value.{setting_value, plain_value}
use Rattle.cdi_model.specs.Action.{action_of}
use Rattle.cdi_model.specs.Table.{reads, stores}
use Rattle.cdi_model.specs.Tight.{every_cell}
use Rattle.cdi_model.specs.Apart.{are_apart}
use Rattle.cdi_model.specs.Values.{up_to_zero}
use Rattle.cdi_model.specs.Model.{is_valid, decide, decide_payload, decide_block, gives, value_read, response_payload, result_of}
use Rattle.cdi_module.specs.Machine.{cells}
use Rattle.cdi_module.specs.Module as Module
use Rattle.cdi_module.proofs.Factory.{factory_lengths}
use Rattle.cdi_module.proofs.Theorem.{sequence_theorem}
use Rattle.sequence_examples.specs.Table.{factory_sentences, used_state, used_sentences, invalid_state, invalid_sentences, Sentences}
use Rattle.sequence_examples.proofs.Drawn.{AllComputed, all-drawn}

pub sentence_counts : (length factory_sentences ≡ 22) × (length used_sentences ≡ 5) × (length invalid_sentences ≡ 4)
sentence_counts = (refl, refl, refl)

computed : AllComputed factory_state factory_sentences × AllComputed used_state used_sentences × AllComputed invalid_state invalid_sentences
unfolding all_below written after modelResults last_or run given some_stores wakes length_at read_frame items item_in item_of accepted_value
    select command_on parse_item is_served is_head_length_right parse_payload validate_payload Valid.is_valid setting_stored setting_value plain_value
    action_of reads stores every_cell are_apart up_to_zero is_valid decide decide_payload decide_block gives value_read response_payload result_of
    cells Module.command_in Module.decide Module.step Module.result_of
computed = (
  ((refl, refl), ((refl, refl), ((refl, refl), ((refl, refl, refl), ((refl, refl, refl), ((refl, refl, refl, refl), ((refl, refl), ((refl, refl), ((refl, refl), ((refl, refl), ((refl, refl), ((refl, refl), ((refl, refl), ((refl, refl), ((refl, refl), ((refl, refl), ((refl, refl), ((refl, refl), ((refl, refl), ((refl, refl), ((λ c. refl, refl), ((λ c. refl, refl), tt)))))))))))))))))))))),
  ((refl, refl), ((refl, refl), ((refl, refl), ((refl, refl), ((refl, refl), tt))))),
  ((refl, refl), ((refl, refl), ((λ c. refl, refl), ((refl, refl), tt)))),
)

lengths_used : ArrayLengths used_state
unfolding setting_stored
lengths_used = record { stored_inputs = refl; working_inputs = refl; slot_count_lem = refl }

lengths-invalid : ArrayLengths invalid_state
unfolding setting_stored
lengths-invalid = record { stored_inputs = refl; working_inputs = refl; slot_count_lem = refl }

pub sentences_hold : Sentences
sentences_hold = (
  all-drawn sequence_theorem factory_state factory_lengths factory_sentences computed.0,
  all-drawn sequence_theorem used_state lengths_used used_sentences computed.1,
  all-drawn sequence_theorem invalid_state lengths-invalid invalid_sentences computed.2,
)
