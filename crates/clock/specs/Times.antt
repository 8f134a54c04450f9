-- RULES 8.9 to 8.11: the times that the calls of a run show.
use Rattle.std.specs.Prelude.{◌≡◌, Bool, true, false, not, ◌&&◌, List, [], ◌∷◌, ◌++◌, map, ℕ, ◌+◌, ◌*◌, ◌<◌, eqb, Float}
use Rattle.std.specs.Float.{inf, binary64}
use Rattle.std.specs.Float.Ieee.Positive.{num, den}
use Rattle.bits.specs.Programs.{run, when◌then◌else◌}
use Rattle.header.specs.State.{zero_float}
use Rattle.header.specs.Sequences.{rest, rate_of}
use Rattle.picture_state.specs.declared.types.{Matrices.Matrices, Sizes.Sizes}
use Rattle.playback.specs.declared.outcome.{Shown.Shown, Outcome.Outcome}
use Rattle.playback.specs.declared.outcome.Outcome.TheVariants.{Picture, Refused}
use Rattle.playback.specs.declared.state.State.{State}
use Rattle.playback.specs.State.{has_reference_frame}
use Rattle.playback.specs.Display.{time_of, is_reference}
use Rattle.playback.specs.Steps.{DecodingState}
use Rattle.playback.specs.Cases.{Outputs, b-picture, reference-picture, flushed-picture}
use Rattle.decoder.specs.declared.record.Decoder.{Decoder}
use Rattle.decoder.specs.declared.answers.DecodeResult.{DecodeResult}
use Rattle.decoder.specs.Record.{position}
use Rattle.demands.specs.Checks.{with_size}
use Rattle.clock.specs.Nearest.{Nearest}

-- ---- the rule

-- RULES 8.9: the time of the picture number k, counted from 0: 0.0, then k ÷ rate
unfoldable pub time_at : Float → ℕ → Float
time_at rate k = when eqb k 0 then zero_float else time_of k rate

-- RULES 8.9, 8.11: the times of pictures, of each of which is said whether it is flushed. k pictures came before, flushes not counted, the last with the time t
unfoldable pub times_from : Float → ℕ → Float → List Bool → List Float
times_from rate k t [] = []
times_from rate k t (flushed ∷ fs) =
    when flushed then t ∷ times_from rate k t fs else time_at rate k ∷ times_from rate (k + 1) (time_at rate k) fs

-- RULES 8.10: how many of them are counted
unfoldable pub counted_in : List Bool → ℕ
counted_in [] = 0
counted_in (flushed ∷ fs) = when flushed then counted_in fs else counted_in fs + 1

-- P holds of the number and the time of each picture that is counted, k being counted before
unfoldable pub EachCounted : (ℕ → Float → Type 0) → ℕ → List Bool → List Float → Type 0
EachCounted P k [] [] = Unit {0}
EachCounted P k [] (t ∷ ts) = ⊥
EachCounted P k (flushed ∷ fs) [] = ⊥
EachCounted P k (true ∷ fs) (t ∷ ts) = EachCounted P k fs ts
EachCounted P k (false ∷ fs) (t ∷ ts) = P k t × EachCounted P (k + 1) fs ts

-- RULES 8.9: t is the double nearest to k ÷ rate, as one rounding of the exact quotient gives it
abbrev pub IsNearestTime : Float → ℕ → Float → Type 0
IsNearestTime rate k t = Nearest binary64 t (k * den rate) (num rate)

-- RULES 8.9: but for the first picture it is +∞
abbrev pub IsInfinite : ℕ → Float → Type 0
IsInfinite k t = 0 < k → t ≡ inf false

-- ---- what the calls show

-- RULES 8.8: of a hand-out of a turn: is it the flush?
abbrev pub is_flush_output : {s : List ℕ} {z : Sizes} {m : Matrices} {x : DecodingState} {i : Shown} {y : DecodingState} → Outputs s z m x i y → Bool
is_flush_output (b-picture r e b) = false
is_flush_output (reference-picture r e b h) = false
is_flush_output (flushed-picture r u) = true

-- the same by the state x that a hand-out leaves (`flush-is`): a flush alone leaves nothing held behind an I or P picture
abbrev pub is_flushed : State → Bool
is_flushed x = not (has_reference_frame x) && is_reference x

-- the time of the picture that a call hands out, and whether it is flushed
abbrev pub time_by : Outcome → List Float
time_by (Picture p) = p.time ∷ []
time_by (Refused n) = []

abbrev pub flush_by : Outcome → Decoder → List Bool
flush_by (Picture p) x = is_flushed x.state ∷ []
flush_by (Refused n) x = []

unfoldable pub times_shown : List DecodeResult → List Float
times_shown [] = []
times_shown (r ∷ rs) = time_by r.outcome ++ times_shown rs

unfoldable pub flushes : List DecodeResult → List Bool
flushes [] = []
flushes (r ∷ rs) = flush_by r.outcome r.decoder ++ flushes rs

-- ---- the rate

-- RULES O.3, 2.9: by the code in the header that an opening or a call reads which is given the record d
abbrev pub rate_read : List ℕ → Decoder → Float
rate_read s d = rate_of (run rest s (position (with_size s d))).value.picture_rate

-- RULES 8.1: of the first header that is accepted: the first of these records that has one was left by the opening or call that was given the record before
-- it. The first was given d; 0.0 where none has a header
unfoldable pub accepted_rate : List ℕ → Decoder → List Decoder → Float
accepted_rate s d [] = zero_float
accepted_rate s d (x ∷ xs) = when x.sequence.has_sequence_header then rate_read s d else accepted_rate s x xs

-- the records that the calls left
abbrev pub records_left : List DecodeResult → List Decoder
records_left = map (λ (r : DecodeResult). r.decoder)
