-- Examples of runs, which show that the premises of the run theorem can be met.
use Rattle.std.specs.Prelude.{ℕ, ◌-◌, ◌≤◌, ◌≡◌, Bool, true, false, List, [], ◌∷◌, ◌++◌, ltb, length, take, drop}
use Rattle.logic.specs.Lists.{all}
use Rattle.cdi_state.specs.declared.ModuleState.{ModuleState}
use Rattle.cdi_state.specs.State.{factory_state}
use Rattle.replay_text.specs.Answered.{printed_max}
use Rattle.replay_text.specs.Session.{joined}
use Rattle.replay_text.specs.Theorem.{model_replayed}
use Rattle.replay.specs.Program.{buffer_size}
use Rattle.replay.specs.Run.{Stops, run_reads, run_text}

-- Document 01, "Examples": the five lines of the replay program's input, as bytes,
--     80 55 82 01 15
--     80 55 83 02 15 03
--     80 55 83 02 15 07
--     80 55 82 01 15
--     80 55 82 03 25
abbrev pub example_input : List ℕ
example_input =
    56 ∷ 48 ∷ 32 ∷ 53 ∷ 53 ∷ 32 ∷ 56 ∷ 50 ∷ 32 ∷ 48 ∷ 49 ∷ 32 ∷ 49 ∷ 53 ∷ 10 ∷
    56 ∷ 48 ∷ 32 ∷ 53 ∷ 53 ∷ 32 ∷ 56 ∷ 51 ∷ 32 ∷ 48 ∷ 50 ∷ 32 ∷ 49 ∷ 53 ∷ 32 ∷ 48 ∷ 51 ∷ 10 ∷
    56 ∷ 48 ∷ 32 ∷ 53 ∷ 53 ∷ 32 ∷ 56 ∷ 51 ∷ 32 ∷ 48 ∷ 50 ∷ 32 ∷ 49 ∷ 53 ∷ 32 ∷ 48 ∷ 55 ∷ 10 ∷
    56 ∷ 48 ∷ 32 ∷ 53 ∷ 53 ∷ 32 ∷ 56 ∷ 50 ∷ 32 ∷ 48 ∷ 49 ∷ 32 ∷ 49 ∷ 53 ∷ 10 ∷
    56 ∷ 48 ∷ 32 ∷ 53 ∷ 53 ∷ 32 ∷ 56 ∷ 50 ∷ 32 ∷ 48 ∷ 51 ∷ 32 ∷ 50 ∷ 53 ∷ 10 ∷ []

-- and what it prints for them
--     80 55 83 C1 15 00
--     80 55 85 C0 00 02 15 03
--     refused 12
--     80 55 83 C1 15 03
--     refused 10
abbrev pub example_text : List ℕ
example_text =
    56 ∷ 48 ∷ 32 ∷ 53 ∷ 53 ∷ 32 ∷ 56 ∷ 51 ∷ 32 ∷ 67 ∷ 49 ∷ 32 ∷ 49 ∷ 53 ∷ 32 ∷ 48 ∷ 48 ∷ 10 ∷
    56 ∷ 48 ∷ 32 ∷ 53 ∷ 53 ∷ 32 ∷ 56 ∷ 53 ∷ 32 ∷ 67 ∷ 48 ∷ 32 ∷ 48 ∷ 48 ∷ 32 ∷ 48 ∷ 50 ∷ 32 ∷ 49 ∷ 53 ∷ 32 ∷ 48 ∷ 51 ∷ 10 ∷
    114 ∷ 101 ∷ 102 ∷ 117 ∷ 115 ∷ 101 ∷ 100 ∷ 32 ∷ 49 ∷ 50 ∷ 10 ∷
    56 ∷ 48 ∷ 32 ∷ 53 ∷ 53 ∷ 32 ∷ 56 ∷ 51 ∷ 32 ∷ 67 ∷ 49 ∷ 32 ∷ 49 ∷ 53 ∷ 32 ∷ 48 ∷ 51 ∷ 10 ∷
    114 ∷ 101 ∷ 102 ∷ 117 ∷ 115 ∷ 101 ∷ 100 ∷ 32 ∷ 49 ∷ 48 ∷ 10 ∷ []

-- a line that is not hex, and what is printed for it
abbrev pub space_line : List ℕ
space_line = 32 ∷ 10 ∷ []

abbrev pub not_hex_line : List ℕ
not_hex_line = 110 ∷ 111 ∷ 116 ∷ 32 ∷ 104 ∷ 101 ∷ 120 ∷ 10 ∷ []

-- there is a run that ends with all done, reads these parts, one in each turn, and prints this text
pub data Prints : (reads : List (List ℕ)) (text : List ℕ) → Type 0 where
  prints : {output rest text : List ℕ} {after : ModuleState} {endedAfter : Bool} {count : ℕ} {reads : List (List ℕ)}
      (run : Stops output after rest endedAfter true true count false) → run_reads run ≡ reads → run_text run ≡ text → Prints reads text

pub record Witnesses : Type 0 where
  -- every log whose text leaves room for one more line in the output buffer, read in any parts and then to its end, has a run that prints
  -- the model's text
  pub short_logs : (parts : List (List ℕ)) → all (λ part. ltb 0 (length part)) parts ≡ true → length (model_replayed (joined parts)) ≤ buffer_size - printed_max
      → Prints (parts ++ [] ∷ []) (model_replayed (joined parts))
  -- the empty log prints nothing
  pub empty : Prints ([] ∷ []) []
  -- document 01's five lines, read at once, print its text
  pub at_once : Prints (example_input ∷ [] ∷ []) example_text
  -- and so they do if they are read in two parts, the first of which ends within the second line
  pub in_two_parts : Prints (take 20 example_input ∷ drop 20 example_input ∷ [] ∷ []) example_text
  -- two runs that read the same input, in whatever parts, print the same text
  pub same_text : {reads others : List (List ℕ)} {text other : List ℕ} → Prints reads text → Prints others other → joined reads ≡ joined others → text ≡ other
  -- the loop can end for each of the other reasons: the first read fails, the text of a line can't be printed, or such lines use up the
  -- turns
  pub read_fails : Stops [] factory_state [] false false true 0 true
  pub print_fails : Stops not_hex_line factory_state [] false false false 0 false
  pub turns_used : Stops not_hex_line factory_state space_line false false true 2 false
