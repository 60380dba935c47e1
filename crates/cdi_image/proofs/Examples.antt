-- Save and Load on document 01's own numbers, by computation: what each image, and each state and buffer, is refused with.
-- Assumes nothing.
use Prim.Native.Nat.{ℕ}
use mathlib.Core.Path.{◌≡◌, refl}
use mathlib.Core.List.{List, [], ◌∷◌, ◌++◌, map, flat_map}
use lib.ListN.{set, drop, replicate}
use Rattle.refusal.specs.Refusal.{refusal_of}
use Rattle.cdi_item.specs.Values.{accepted_value}
use Rattle.cdi_state.specs.declared.ModuleState.{ModuleState}
use Rattle.cdi_state.specs.State.{factory_state}
use Rattle.cdi_valid.specs.Valid.{is_valid}
use Rattle.cdi_image.specs.Image.{contents_of, image_of, saved, slots_in, stored_in, loaded}

-- the image of the factory state
abbrev factory_image : List ℕ
factory_image =
    0x53 ∷ 0x57 ∷ 0x42 ∷ 0x00 ∷ 0x01 ∷ replicate 28 0x00 ++ 0x00 ∷ 0x00 ∷ 0x00 ∷ 0x06 ∷ 0x00 ∷ 0xFF ∷ 0x01 ∷ 0x00 ∷ 0x00 ∷ 0x00 ∷ 0xFF ∷ 0x01 ∷ 0x00 ∷ 0x00 ∷ 0x00 ∷
    replicate 201 0x00

pub factory_image_lem : image_of factory_state.stored ≡ factory_image
unfolding contents_of flat_map
factory_image_lem = refl

-- it with another byte at a place
abbrev having : (place byte : ℕ) → List ℕ
having place byte = set factory_image place byte

-- the factory state with other flags
abbrev flagged : ℕ → ModuleState
flagged flags = record {
  stored = factory_state.stored;
  working = factory_state.working;
  live = record {
    lines = factory_state.live.lines;
    rssi = factory_state.live.rssi;
    ladj = factory_state.live.ladj;
    events = factory_state.live.events;
    flags = flags;
    hardware = factory_state.live.hardware;
  };
}

-- an image, and what a Load of it is refused with, on a state that is not valid
abbrev loads : List (List ℕ × ℕ)
loads =
    (factory_image, 0) ∷
    -- the length, before all else
    ([], 17) ∷ (drop 1 factory_image, 17) ∷ (0x53 ∷ factory_image, 17) ∷
    -- the mark, before the version and the contents
    (having 0 0x54, 18) ∷ (having 1 0x56, 18) ∷ (having 2 0x00, 18) ∷ (replicate 249 0x00, 18) ∷
    -- the version, before the contents
    (having 3 0x01, 19) ∷ (having 4 0x00, 19) ∷ (having 4 0x02, 19) ∷ (set (having 4 0x02) 35 0x0B, 19) ∷
    -- the contents: a name without 00, then items 13 to 16 and the slots past what they accept
    (0x53 ∷ 0x57 ∷ 0x42 ∷ 0x00 ∷ 0x01 ∷ replicate 17 0x41 ++ drop 22 factory_image, 2) ∷
    (having 35 0x0B, 2) ∷ (having 36 0x20, 2) ∷ (having 37 0x07, 2) ∷ (having 38 0x08, 2) ∷ (having 39 0x11, 2) ∷ (having 40 0x02, 2) ∷
    (having 43 0x03, 2) ∷ (having 44 0x00, 2) ∷ (having 45 0x02, 2) ∷ (having 52 0x01, 2) ∷ (having 247 0x01, 2) ∷
    -- and at the ends of what they accept
    (having 5 0x41, 0) ∷ (having 22 0xFF, 0) ∷ (having 28 0xFF, 0) ∷ (having 32 0xFF, 0) ∷ (having 33 0xFF, 0) ∷ (having 34 0xFF, 0) ∷
    (having 35 0xEC, 0) ∷ (having 36 0x1F, 0) ∷ (having 37 0x06, 0) ∷ (having 38 0x04, 0) ∷ (having 39 0x10, 0) ∷ (having 40 0x01, 0) ∷
    (having 41 0x80, 0) ∷ (having 47 0xFF, 0) ∷ (having 48 0x01, 0) ∷ (having 243 0xFF, 0) ∷ (having 248 0xFF, 0) ∷ []

pub loads_hold : map (λ (r : List ℕ × ℕ). refusal_of (loaded (flagged 0x80) r.0)) loads ≡ map (λ (r : List ℕ × ℕ). r.1) loads
unfolding loaded stored_in slots_in accepted_value
loads_hold = refl

-- flags, a buffer's length, and what a Save is refused with
abbrev saves : List (ℕ × (ℕ × ℕ))
saves =
    (0x00, (249, 0)) ∷ (0x34, (249, 0)) ∷
    (0x00, (0, 17)) ∷ (0x00, (248, 17)) ∷ (0x00, (250, 17)) ∷ (0x80, (248, 17)) ∷
    (0x05, (249, 2)) ∷ (0x08, (249, 2)) ∷ (0x40, (249, 2)) ∷ (0x80, (249, 2)) ∷ []

pub saves_hold : map (λ (r : ℕ × (ℕ × ℕ)). refusal_of (saved (flagged r.0) r.1.0)) saves ≡ map (λ (r : ℕ × (ℕ × ℕ)). r.1.1) saves
unfolding saved is_valid accepted_value
saves_hold = refl
