-- Each clamp gives the byte of the rule.
use Rattle.std.proofs.Common.{◌≡◌, ℕ, ◌<◌, ℤ, pos, List, [], ◌∷◌, ◌+ℤ◌, ◌-ℤ◌, ◌*ℤ◌, ap, ◌∙◌, arith}
use lib.Signed.{shr_z}
use mir.Syntax.{w32}
use Rattle.laws.specs.Signed.{clamp255}
use Rattle.laws.proofs.Exprs.{Exp, var, cst, ◌⊹◌, ◌∸◌, ◌×̇◌, shr, Input, signed, need, value}
use Rattle.argb.specs.Pixel.{luma, red, green, blue, argb}
use Rattle.argb.proofs.pixel.pixel.Goals as goal

-- the expressions of the code, over Y, Cr and Cb
abbrev yy : Exp
yy = shr 16 ((var 0 ∸ cst 16) ×̇ cst 76309)

abbrev r : Exp
r = yy ⊹ shr 16 ((var 1 ∸ cst 128) ×̇ cst 104597)

abbrev g : Exp
g = yy ∸ shr 16 ((var 2 ∸ cst 128) ×̇ cst 25674 ⊹ (var 1 ∸ cst 128) ×̇ cst 53278)

abbrev b : Exp
b = yy ⊹ shr 16 ((var 2 ∸ cst 128) ×̇ cst 132201)

-- the three bytes, as `from` gives them
abbrev byte : {z : ℤ} {n : ℕ} → z ≡ pos n → n < 256 → Input w32
byte {z} {n} e h = signed w32 z 255 (rw e (omega arith))

module _ {y cr cb : ℤ} {i j k : ℕ} (e : y ≡ pos i) (f : cr ≡ pos j) (g : cb ≡ pos k) where
  abbrev bytes : i < 256 → j < 256 → k < 256 → List (Input w32)
  bytes h l m = byte e h ∷ byte f l ∷ byte g m ∷ []

  abbrev luma_at : ℤ
  luma_at = shr_z ((y -ℤ pos 16) *ℤ pos 76309) 65536

  red_is : clamp255 (luma_at +ℤ shr_z ((cr -ℤ pos 128) *ℤ pos 104597) 65536) ≡ red i j
  unfolding red luma
  red_is = rw (e, f)

  green_is : clamp255 (luma_at -ℤ shr_z ((cb -ℤ pos 128) *ℤ pos 25674 +ℤ (cr -ℤ pos 128) *ℤ pos 53278) 65536) ≡ green i j k
  unfolding green luma
  green_is = rw (e, f, g)

  blue_is : clamp255 (luma_at +ℤ shr_z ((cb -ℤ pos 128) *ℤ pos 132201) 65536) ≡ blue i k
  unfolding blue luma
  blue_is = rw (e, g)

pub overflow_sub-g : goal.overflow_sub-g
overflow_sub-g c = need (bytes c.from.ensures c.from-cr.ensures c.from-cb.ensures (omega arith) (omega arith) (omega arith)) g tt

pub overflow_add-b : goal.overflow_add-b
overflow_add-b c = need (bytes c.from.ensures c.from-cr.ensures c.from-cb.ensures (omega arith) (omega arith) (omega arith)) b tt

pub returns : goal.returns
unfolding argb
returns c =
    let a = c.args in
    let y = c.from.ensures in
    let cr = c.from-cr.ensures in
    let cb = c.from-cb.ensures in
    let inputs = bytes y cr cb (omega arith) (omega arith) (omega arith) in
    let rr : c.clamp_u8.result ≡ red a.y a.cr = c.clamp_u8.ensures ∙ ap clamp255 (value inputs r tt) ∙ red_is y cr cb in
    let gg : c.clamp_u8-2.result ≡ green a.y a.cr a.cb = c.clamp_u8-2.ensures ∙ ap clamp255 (value inputs g tt) ∙ green_is y cr cb in
    let bb : c.clamp_u8-3.result ≡ blue a.y a.cb = c.clamp_u8-3.ensures ∙ ap clamp255 (value inputs b tt) ∙ blue_is y cr cb in
    omega arith
