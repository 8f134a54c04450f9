-- ISO/IEC 11172-2 from the picture down, in the standard's names: here macroblock(), slice() and picture(), 2.4.2.5 to 2.4.2.7 with 2.4.3.4 to 2.4.3.6. Where a
-- stream breaks a rule that a decoder relies on, a run ends with `forbidden`. Written without the page; docs/STANDARD.md says what is not literal.
pub mod Prelude
pub mod State
pub mod Prediction
pub mod Block
unfoldable pub use Prelude.*
unfoldable pub use State.*
unfoldable pub use Prediction.*
unfoldable pub use Block.*
use Rattle.std.specs.Prelude.{Bool, true, false, not, ◌&&◌, ◌||◌, List, ℕ, ◌+◌, ◌-◌, ◌*◌, eqb, leb, ℤ, pos, negsuc, nat_abs, ◌+ℤ◌, ◌-ℤ◌}
use Rattle.codes.specs.Codes.{macroblock_address_increment, code_block_pattern}
use Rattle.picture_state.specs.{declared.types.Stores.Stores, declared.types.Sizes.Sizes}
use Rattle.macroblock_head.specs.Heads.{macroblock_type}
use Rattle.slice.specs.Slices.{extra}

-- 2.4.2.7: macroblock_stuffing, macroblock_escape (each adds 33), macroblock_address_increment (Table B.1)
unfoldable pub increment : Prog (Result Forbidden ℕ)
increment = do
  while 11 0b00000001111 (λ x. x) 0
  escapes ← while 11 0b00000001000 (λ x. x + 33) 0
  code ← lift macroblock_address_increment
  shall (leb 1 code && leb code 33)
  pure (escapes + code)

-- 2.4.3.5, 2.4.3.6: quantizer_scale, of which 0 is forbidden
abbrev pub quantizer_scale : Prog (Result Forbidden ℕ)
quantizer_scale = do
  scale ← lift (bits 5)
  shall (not (eqb scale 0))
  pure scale

-- Table B.3: coded_block_pattern, of which none is 0, which what is no code is read as
abbrev pub coded_block_pattern : Prog (Result Forbidden ℕ)
coded_block_pattern = do
  cbp ← lift code_block_pattern
  shall (not (eqb cbp 0))
  pure cbp

-- 2.4.2.7: from macroblock_type on, at the address n behind the last one, which was of the type `last`
unfoldable pub coded_macroblock : Coding → Bool → ℕ → ℕ → Variables → List ℕ → Prog (Result Forbidden Variables)
coded_macroblock g first n last v l = do
  let address = v.previous_macroblock_address +ℤ pos n
  t ← lift (macroblock_type g.context.picture_type)
  shall (in_table g.context.picture_type t)
  scale ← when macroblock_quant t then quantizer_scale else pure v.quantizer_scale
  for ← for_vector g t (for_start g first last v)
  back ← back_vector g t (back_start g first last v)
  p ← from_result (when macroblock_intra t then ok l else predicted g t (nat_abs address) for back l)
  cbp ← when macroblock_pattern t then coded_block_pattern else pure 0
  b ← blocks g (macroblock_intra t) (no_intra_just_before address v) cbp scale (nat_abs address) (record { past = v.past; pels = p })
  pure (record {
    previous_macroblock_address = address;
    past_intra_address = when macroblock_intra t then address else v.past_intra_address;
    quantizer_scale = scale;
    macroblock_type = t;
    past = b.past;
    for_prev = for;
    back_prev = back;
    pels = b.pels;
  })

-- 2.4.3.6: macroblock_address = previous_macroblock_address + macroblock_address_increment, in the picture; the macroblocks between are skipped
unfoldable pub macroblock : Coding → Bool → Variables → Prog (Result Forbidden Variables)
macroblock g first v = do
  n ← increment
  let address = v.previous_macroblock_address +ℤ pos n
  shall (le_z (pos 0) address && lt_z address (pos g.context.sizes.mb_size))
  l ← from_result (skipped g first n v)
  coded_macroblock g first n (last_type g first n v) v l

-- between two macroblocks: is the next one the first?
pub record SliceLoopState : Type 0 where
  pub first : Bool
  pub variables : Variables

-- behind the last macroblock of the picture there is no other
abbrev pub is_more : Coding → Variables → Bool
is_more g v = lt_z (v.previous_macroblock_address +ℤ pos 1) (pos g.context.sizes.mb_size)

-- 2.4.2.6: do macroblock() while (nextbits() != '000 0000 0000 0000 0000 0000')
unfoldable pub after_macroblock : Coding → Result Forbidden Variables → Prog (Step SliceLoopState (Result Forbidden Variables))
after_macroblock g (error e) = done (finish (error e))
after_macroblock g (ok v) = peek_bits 23 λ h x.
    when not h then done (finish forbidden)
    else when eqb x 0 then done (finish (ok v))
    else when is_more g v then done (continue (record { first = false; variables = v })) else done (finish forbidden)

unfoldable pub slice_step : Coding → SliceLoopState → Prog (Step SliceLoopState (Result Forbidden Variables))
slice_step g x = bind (macroblock g x.first x.variables) (after_macroblock g)

-- 2.4.3.6: previous_macroblock_address = (slice_vertical_position - 1) * mb_width - 1. 2.4.4.1: past_intra_address = -2. What else stands is not used
abbrev pub slice_start : Coding → ℕ → ℕ → List ℕ → Variables
slice_start g position q l = record {
  previous_macroblock_address = pos ((position - 1) * g.context.sizes.mb_width) -ℤ pos 1;
  past_intra_address = negsuc 1;
  quantizer_scale = q;
  macroblock_type = 0;
  past = pasts (pos 1024) (pos 1024) (pos 1024);
  for_prev = zero-vector;
  back_prev = zero-vector;
  pels = l;
}

-- 2.4.2.6: quantizer_scale, extra_information_slice, macroblocks
unfoldable pub slice : Coding → ℕ → List ℕ → Prog (Result Forbidden Variables)
slice g position l = do
  q ← quantizer_scale
  lift extra
  loop stream_fuel (slice_step g) forbidden (record { first = true; variables = slice_start g position q l })

-- 2.4.2.5, 2.4.3.4: full_pel_.._vector, .._f_code; .._r_size = .._f_code - 1, and 0 is forbidden
unfoldable pub direction : Prog (Result Forbidden Direction)
direction = do
  full ← field 1
  code ← field 3
  shall (not (eqb code 0))
  pure (record { full_pel_vector = not (eqb full 0); r_size = code - 1 })

-- picture_coding_type, and what the header says of the two directions; one of which it says nothing is not used
pub record Header : Type 0 where
  pub picture_coding_type : ℕ
  pub forward : Direction
  pub backward : Direction

-- 2.4.3.4: picture_coding_type is I, P or B; extra_bit_picture is 0, since extra_information_picture is reserved, and next_start_code() passes it over
unfoldable pub header : Direction → Direction → Prog (Result Forbidden Header)
header f b = do
  temporal ← field 10
  type ← field 3
  delay ← field 16
  shall (eqb type 1 || eqb type 2 || eqb type 3)
  forward ← when eqb type 1 then pure f else direction
  backward ← when eqb type 3 then direction else pure b
  extra ← nextbits 1
  shall (eqb extra 0)
  pure (record { picture_coding_type = type; forward = forward; backward = backward })

-- has a slice begun?
pub record SlicesLoopState : Type 0 where
  pub begun : Bool
  pub pels : List ℕ

-- 2.4.2.5: do slice() while a slice start code follows, which one does until the last macroblock is reached (2.4.3.5)
unfoldable pub after_slice : Coding → Result Forbidden Variables → Prog (Step SlicesLoopState (Result Forbidden (List ℕ)))
after_slice g (error e) = done (finish (error e))
after_slice g (ok v) = when is_more g v then done (continue (record { begun = true; pels = v.pels })) else done (finish (ok v.pels))

-- 2.4.2.5: next_start_code(), then a slice (01 to AF); before the first one extension data (B5) and user data (B2), which end at the next start code
unfoldable pub slices_step : Coding → SlicesLoopState → Prog (Step SlicesLoopState (Result Forbidden (List ℕ)))
slices_step g x = bind next_start_code λ c.
    when le_z (pos 1) c && le_z c (pos 0xaf) then bind (slice g (nat_abs c) x.pels) (after_slice g)
    else when (eq_z c (pos 0xb2) || eq_z c (pos 0xb5))
    && not x.begun then done (continue (record { begun = false; pels = x.pels })) else done (finish forbidden)

unfoldable pub slices : Coding → List ℕ → Prog (Result Forbidden (List ℕ))
slices g l = loop stream_fuel (slices_step g) forbidden (record { begun = false; pels = l })

-- 2.4.4: the store `bwd` has the last I or P picture decoded, `fwd` the one before it. A P picture is predicted from the last, a B picture from both
abbrev pub references : ℕ → Stores → Stores
references type t = when eqb type 3 then t else record { cur = t.cur; fwd = t.bwd; bwd = t.bwd }

-- 2.4.4: an I or P picture becomes the last, and the store of the one before is free
abbrev pub roles_after : ℕ → Stores → Stores
roles_after type t = when eqb type 3 then t else record { cur = t.fwd; fwd = t.bwd; bwd = t.cur }

pub record Decoded : Type 0 where
  pub header : Header
  pub stores : Stores
  pub pels : List ℕ

-- 2.4.2.5: header and slices; f and b stand for a direction of which the header says nothing
unfoldable pub picture : Rules → Sizes → Matrices → Stores → Direction → Direction → List ℕ → Prog (Result Forbidden Decoded)
picture r z m t f b l = do
  h ← header f b
  let type = h.picture_coding_type
  let g : Context = record { picture_type = type; sizes = z; stores = references type t }
  x ← slices (record { context = g; matrices = m; forward = h.forward; backward = h.backward; rules = r }) l
  pure (record { header = h; stores = roles_after type t; pels = x })
