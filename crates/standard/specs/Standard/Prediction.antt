-- 2.4.4.2 to 2.4.4.4: vectors, prediction, skipped macroblocks. The forward reference is the store `fwd`, the backward one `bwd`, the picture itself `cur`.
use Rattle.laws.specs.Stores.{store_rows}
use Rattle.motion.specs.Standard.{standard_vector}
use Rattle.prediction.specs.{declared.position.Macroblock.Macroblock, declared.position.BlockPosition.BlockPosition, declared.planes.Plane.Plane}
use Rattle.prediction.specs.declared.planes.Plane.TheVariants.{Y, Cr, Cb}
use Rattle.prediction.specs.Predict.{block_position_of, width, height, bytes, address, in_halves}
use Rattle.prediction.specs.{Planes.block_size, Planes.macroblocks, Standard.whole_samples, Standard.half_sample, Standard.chrominance, Standard.pel}
use Rattle.prediction.specs.{Standard.interpolated}
use Rattle.std.specs.Prelude.{Bool, true, false, not, ◌&&◌, ◌||◌, List, ℕ, zero, suc, ◌+◌, ◌-◌, ◌*◌, eqb, ltb, leb, ℤ, pos, nat_abs, ◌+ℤ◌, get_or}
use Rattle.standard.specs.Standard.Prelude.{le_z, mid_of, put_mid, Prog, when◌then◌else◌, macroblock_at, plane_start, Result, ok, and_then, pure, ◌>>=◌, ◌>>◌}
use Rattle.standard.specs.Standard.Prelude.{Forbidden, forbidden, table_code}
use Rattle.standard.specs.Standard.State.{Vector, zero-vector, Direction, Coding, Variables}
use Rattle.standard.specs.Standard.State.{macroblock_motion_forward, macroblock_motion_backward, macroblock_intra}

-- recon_.._for_prev is 0 for the first macroblock of a slice. 2.4.4.2 (P): and where the last one, of the type t, had no vector, being skipped or without
-- macroblock_motion_forward. 2.4.4.3 (B): and where the last one was intra
abbrev pub for_start : Coding → Bool → ℕ → Variables → Vector
for_start g first t v =
    when first || (when eqb g.context.picture_type 2 then not (macroblock_motion_forward t) else macroblock_intra t) then zero-vector else v.for_prev

-- 2.4.4.3 (B): the same of recon_.._back_prev; other pictures have no backward vectors
abbrev pub back_start : Coding → Bool → ℕ → Variables → Vector
back_start g first t v = when first || not (eqb g.context.picture_type 3) || macroblock_intra t then zero-vector else v.back_prev

-- Table B.4: no motion code begins with 0000 0010 or less
abbrev pub is_motion_code : ℕ → Bool
is_motion_code x = leb 0b0000_0011 x

-- 2.4.2.7, 2.4.4.2: motion_horizontal_.., then motion_vertical_.., each with its residual
unfoldable pub vector : Direction → Vector → Prog (Result Forbidden Vector)
vector d prev = do
  right ← table_code 8 is_motion_code (standard_vector d.r_size prev.right)
  down ← table_code 8 is_motion_code (standard_vector d.r_size prev.down)
  pure (record { right = right; down = down })

-- 2.4.4.2: without data the vector is 0 in a P picture. 2.4.4.3: in a B picture it is the one before
unfoldable pub for_vector : Coding → ℕ → Vector → Prog (Result Forbidden Vector)
for_vector g t prev =
    when macroblock_motion_forward t then vector g.forward prev else when eqb g.context.picture_type 2 then pure zero-vector else pure prev

unfoldable pub back_vector : Coding → ℕ → Vector → Prog (Result Forbidden Vector)
back_vector g t prev = when macroblock_motion_backward t then vector g.backward prev else pure prev

-- the n samples at `from`, moved by a component in half samples, are among the first `size`
abbrev pub inside : ℕ → ℕ → ℤ → ℕ → Bool
inside from n recon size =
    le_z (pos 0) (pos from +ℤ whole_samples recon) && le_z (pos from +ℤ whole_samples recon +ℤ pos n +ℤ half_sample recon) (pos size)

-- 2.4.3.6: no reference outside the picture, which has at most 256 macroblocks a side
abbrev pub in_picture : BlockPosition → ℤ → ℤ → Bool
in_picture p right down =
    ltb p.row p.down && ltb p.column p.across && leb p.across 256 && leb p.down 256
    && inside (p.row * p.size) p.size down (height p) && inside (p.column * p.size) p.size right (width p)

-- pel[i][j] of a block of the plane d, from the plane s; 2.4.4.3: or the average of what is there and this
abbrev pub pels : BlockPosition → List ℕ → List ℕ → ℤ → ℤ → Bool → List ℕ
pels p s d right down average =
    store_rows d (address p) (width p) p.size (λ i j.
    let x = pel s (width p) right down (p.row * p.size + i) (p.column * p.size + j) in
    when average then interpolated (get_or d (address p + i * width p + j) 0) x else x) p.size

-- one plane of the picture, from that of the store number k
unfoldable pub predicted_plane : Coding → Macroblock → ℕ → Bool → Plane → ℤ → ℤ → List ℕ → Result Forbidden (List ℕ)
predicted_plane g m k average q right down l =
    let p = block_position_of m (block_size q) in
    let from = plane_start k q (macroblocks m) in
    let to = plane_start g.context.stores.cur q (macroblocks m) in
    when in_picture p right down then ok (put_mid to (bytes p) l (pels p (mid_of from (bytes p) l) (mid_of to (bytes p) l) right down average)) else forbidden

-- from one reference: a full-pel vector is doubled, and for Cr and Cb the vector is halved
unfoldable pub predicted_from : Coding → ℕ → ℕ → Direction → Vector → Bool → List ℕ → Result Forbidden (List ℕ)
predicted_from g address k d x average l =
    let m = macroblock_at g.context.sizes.mb_width g.context.sizes.mb_height address in
    let right = in_halves d.full_pel_vector x.right in
    let down = in_halves d.full_pel_vector x.down in
    and_then (predicted_plane g m k average Y right down l) λ l.
    and_then (predicted_plane g m k average Cr (chrominance right) (chrominance down) l)
    (predicted_plane g m k average Cb (chrominance right) (chrominance down))

-- 2.4.4.3 (B): by macroblock_motion_forward and macroblock_motion_backward. 2.4.4.2 (P): forward, by the vector 0 where there is none
unfoldable pub predicted : Coding → ℕ → ℕ → Vector → Vector → List ℕ → Result Forbidden (List ℕ)
predicted g t address for back l =
    let forward = predicted_from g address g.context.stores.fwd g.forward for false l in
    let backward = predicted_from g address g.context.stores.bwd g.backward back in
    when not (eqb g.context.picture_type 3) then forward
    else when macroblock_motion_forward t && macroblock_motion_backward t then and_then forward (backward true)
    else when macroblock_motion_forward t then forward
    else when macroblock_motion_backward t then backward false l else forbidden

-- 2.4.4.4: n macroblocks from this address on, all of the type t and with these vectors
unfoldable pub skipped_from : Coding → ℕ → Vector → Vector → ℕ → ℕ → List ℕ → Result Forbidden (List ℕ)
skipped_from g t for back address zero l = ok l
skipped_from g t for back address (suc n) l = and_then (predicted g t address for back l) (skipped_from g t for back (address + 1) n)

-- 2.4.4.4: the pels with n - 1 macroblocks skipped. P: by the vector 0. B: type and vectors are those of the macroblock before. None is skipped before
-- the first macroblock of a slice, where an increment says where the slice begins (2.4.3.6), in an I picture, or in a B picture behind an intra macroblock
unfoldable pub skipped : Coding → Bool → ℕ → Variables → Result Forbidden (List ℕ)
skipped g first n v =
    let from = nat_abs (v.previous_macroblock_address +ℤ pos 1) in
    let t = v.macroblock_type in
    when first || ltb n 2 then ok v.pels
    else when eqb g.context.picture_type 2 then skipped_from g 0 zero-vector zero-vector from (n - 1) v.pels
    else when eqb g.context.picture_type 3 && not (macroblock_intra t) then skipped_from g t v.for_prev v.back_prev from (n - 1) v.pels
    else forbidden

-- 2.4.4.4: macroblock_type of the last macroblock decoded: in a P picture a skipped one has no flag
abbrev pub last_type : Coding → Bool → ℕ → Variables → ℕ
last_type g first n v = when not first && ltb 1 n && eqb g.context.picture_type 2 then 0 else v.macroblock_type
