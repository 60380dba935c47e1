-- The parts, each put behind the one before, are the contents.
use Rattle.std.proofs.Common.{ℕ, ◌≡◌, List, [], ◌∷◌, ◌++◌, refl, subst, append_assoc, set}
use mathlib.Core.List.{flat_map}
use Rattle.cdi_state.specs.declared.Stored.{Stored}
use Rattle.cdi_state.specs.State.{input_bytes, slot_bytes, input_at}
use Rattle.cdi_image.specs.Image.{settings11_to15, contents_of}
use Rattle.cdi_image.specs.Put.{Put}
use Rattle.cdi_image.proofs.Puts.{put-behind}
use Rattle.cdi_image.proofs.write.write_contents.Goals as goal

-- the parts as they are written
abbrev identity : Stored → List ℕ
identity t = t.name ++ t.firmware ++ t.serial ++ t.address

abbrev settings : Stored → List ℕ
settings t = settings11_to15 t.settings ++ input_bytes (input_at t.settings 1) ++ input_bytes (input_at t.settings 2)

in_parts : (t : Stored) → identity t ++ settings t ++ flat_map slot_bytes t.slots ++ t.settings.interrupt_mask ∷ [] ≡ contents_of t
unfolding contents_of
in_parts t = simp append_assoc

pub returns : goal.returns
returns c =
    let q = c.args.stored.now in
    let s = c.args.contents.now in
    let t = c.write_slots.new.contents in
    let last = q.settings.interrupt_mask in
    let mask : Put t 243 (last ∷ []) 244 (set t 243 last) = record { ends = refl; stored = refl } in
    subst (λ (p : List ℕ). Put s 0 p 244 (set t 243 last)) (in_parts q)
    (put-behind (put-behind (put-behind c.write_identity.ensures c.write_settings.ensures) c.write_slots.ensures) mask)
