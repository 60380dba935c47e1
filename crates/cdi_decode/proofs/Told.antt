-- An answer of the source is determined by what it says was read. C is told the fields of that.
-- Assumes nothing.
use Rattle.std.specs.Prelude.{ℕ, ◌≡◌, Ok, Err, refl}
use Rattle.std.specs.Prelude as std
use Rattle.std.proofs.Common.{ap, ◌∙◌}
use Rattle.refusal.specs.Refusal.{Result, accepted, refused, none}
use Rattle.refusal.proofs.Determined.{answer_determined}
use Rattle.cdi_frame.specs.declared.Span.{Span}
use Rattle.cdi_decode.specs.declared.Decoded.{Decoded}
use Rattle.cdi_decode.specs.declared.ResponseError.{ResponseError}
use Rattle.cdi_decode.specs.declared.ResponseError.TheVariants.{Refused, NoSuchResponse}
use Rattle.cdi_decode.specs.Decode.{Reading, response, no_response, located, answered, reading_fields, refused_fields, decoded_fields, decoded_from}

abbrev span : ℕ → ℕ → Span
span start length = record { start = start; length = length }

same_span : (a b : Span) → a.start ≡ b.start → a.length ≡ b.length → a ≡ b
same_span a b s l = ap (λ (n : ℕ). span n a.length) s ∙ ap (span b.start) l

pub answered_determined : (r s : std.Result Span ResponseError) → answered r ≡ answered s → r ≡ s
answered_determined (Ok a) (Ok b) h = ap Ok (same_span a b (cc) (cc))
answered_determined (Ok a) (Err (Refused f)) h = cc
answered_determined (Ok a) (Err (NoSuchResponse q)) h = cc
answered_determined (Err (Refused e)) (Ok b) h = cc
answered_determined (Err (Refused e)) (Err (Refused f)) h = cc (answer_determined {A = Reading} (Err e) (Err f) h)
answered_determined (Err (Refused e)) (Err (NoSuchResponse q)) h = cc
answered_determined (Err (NoSuchResponse p)) (Ok b) h = cc
answered_determined (Err (NoSuchResponse p)) (Err (Refused f)) h = cc
answered_determined (Err (NoSuchResponse p)) (Err (NoSuchResponse q)) h = cc

-- the fields of what was read of a block
abbrev told : Result Reading → Decoded
told (accepted (response start length)) = record { refusal = none; place = 0; start = start; length = length }
told (accepted (no_response place)) = reading_fields (no_response place)
told (refused n) = refused_fields n

told-answered : (r : std.Result Span ResponseError) → decoded_from r ≡ told (answered r)
told-answered (Ok a) = refl
told-answered (Err (Refused e)) = refl
told-answered (Err (NoSuchResponse p)) = refl

told-located : (s : Result Reading) → told (located s) ≡ decoded_fields s
told-located (accepted (response start length)) = refl
told-located (accepted (no_response place)) = refl
told-located (refused n) = refl

pub fields_told : (r : std.Result Span ResponseError) (s : Result Reading) → answered r ≡ located s → decoded_from r ≡ decoded_fields s
fields_told r s e = rw (told-answered r, e) (told-located s)
