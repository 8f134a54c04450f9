-- The ways through the definitions of the calls, one for each answer.
use mathlib.Core.Path.{◌≡◌, sym, ◌∙◌}
use mathlib.Core.Bool.{true, false, false≢true, and-false}
use mathlib.Core.List.{List}
use Prim.Native.Nat.{ℕ, ◌≤◌, ◌<◌}
use borrow.Author.Tests.{le-leb, lt-leb}
use lib.Ieee.{Float}
use lib.ListN.{length}
use Rattle.decoder.specs.declared.record.Decoder.{Decoder}
use Rattle.decoder.specs.declared.answers.{Opening.Opening, Converted.Converted}
use Rattle.playback.specs.declared.outcome.Outcome.{Outcome}
use Rattle.decoder.specs.Record.{call_result}
use Rattle.decoder.specs.Opening.{opening}
use Rattle.decoder.specs.Decode.{decode}
use Rattle.decoder.specs.Conversion as Conversion
use Rattle.memory.specs.Memory.{Memory, over, written, record_of, has_room, is_record}
use Rattle.decoder.specs.Answers.{result, number, decode_answer, opening_error_code, conversion_error_code}
use Rattle.mpeg1.specs.Calls.{host_result, HostOutput, host_output, picture_numbers, picture_count, host_open, RefinesDecode, host_decode, converts}
use Rattle.mpeg1.specs.Calls.{host_convert, HostDecodes}
use Rattle.bits.specs.Bounds.{longest_stream}

-- ---- opening

module _ (s l : List ℕ) (x : Memory) where
  pub opens-2 : has_room x ≡ false → host_result 2 l x ≡ host_open s l x
  unfolding host_open
  opens-2 e = rw e

  pub opens : {a : Opening} {d : Decoder} {r : ℕ} {store : List ℕ} {z : Memory} → has_room x ≡ true → call_result a d store ≡ opening s l
      → r ≡ opening_error_code a → z ≡ written d x → host_result r store z ≡ host_open s l x
  unfolding host_open
  opens h e o p = rw (h, ← e, o, p)

-- ---- the hand-out

-- what is left and shown of an answer
abbrev pub told : Outcome → List ℕ → Memory → List ℕ → Float → HostOutput
told a store z k t = elim (decode_answer a) [
  | result p ↦ host_output (host_result 0 store z) (over (picture_numbers p) k) p.time
  | number n ↦ host_output (host_result n store z) k t
]

module _ (s l : List ℕ) (x : Memory) (k : List ℕ) (time : Float) where
  pub decodes-1 : longest_stream < length s → host_output (host_result 1 l x) k time ≡ host_decode s l x k time
  unfolding host_decode
  decodes-1 h = rw (lt-leb (length s) longest_stream h)

  module _ (h : length s ≤ longest_stream) where
    pub decodes-2 : is_record x ≡ false → host_output (host_result 2 l x) k time ≡ host_decode s l x k time
    unfolding host_decode
    decodes-2 e = rw (le-leb (length s) longest_stream h, e)

    -- no room for a picture's numbers
    pub decodes-short : length k < picture_count → host_output (host_result 2 l x) k time ≡ host_decode s l x k time
    unfolding host_decode
    decodes-short p = rw (le-leb (length s) longest_stream h, lt-leb picture_count (length k) p, and-false (is_record x))

    -- the same as a contract, for a search
    pub decodes_short : length k < picture_count → HostDecodes s l x k time (host_output (host_result 2 l x) k time)
    decodes_short p = record { left = decodes-short p; held = λ i h q. absurd (false≢true (sym (lt-leb picture_count (length k) p) ∙ q)) }

    pub decodes : {a : Outcome} {store : List ℕ} {z : Memory} → is_record x ≡ true → picture_count ≤ length k
        → RefinesDecode a store z (decode (record_of x) s l) x → told a store z k time ≡ host_decode s l x k time
    unfolding host_decode
    decodes i p o = rw (le-leb (length s) longest_stream h, i, le-leb picture_count (length k) p, o.answered, o.stored, o.wrote)

-- ---- the conversion

module _ (l : List ℕ) (x : Memory) (k : ℕ) (a : List ℕ) (w h : ℕ) where
  pub converts-2 : is_record x ≡ false → converts 2 a ≡ host_convert l x k a w h
  unfolding host_convert
  converts-2 e = rw e

  pub converts_record : {y : Converted} {area : List ℕ} {r : ℕ} → is_record x ≡ true → Conversion.area y area ≡ Conversion.converted (record_of x) l k a w h
      → r ≡ conversion_error_code y → converts r area ≡ host_convert l x k a w h
  unfolding host_convert
  converts_record i e o = rw (i, ← e, o)
