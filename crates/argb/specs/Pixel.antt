-- A sample as a pixel of 32 bits (RULES 9.3). `shr_z z 65536` is z >> 16, which rounds down.
use Rattle.std.specs.Prelude.{ℕ, ◌+◌, ◌*◌, ℤ, pos, ◌+ℤ◌, ◌-ℤ◌, ◌*ℤ◌}
use Rattle.std.specs.Int.Signed.{shr_z}
use Rattle.laws.specs.Signed.{clamp255}

-- RULES 9.3: l, of Y
unfoldable pub luma : ℕ → ℤ
luma y = shr_z ((pos y -ℤ pos 16) *ℤ pos 76309) 65536

-- RULES 9.3: R, of Y and Cr
unfoldable pub red : ℕ → ℕ → ℕ
red y cr = clamp255 (luma y +ℤ shr_z ((pos cr -ℤ pos 128) *ℤ pos 104597) 65536)

-- RULES 9.3: G, of Y, Cr and Cb
unfoldable pub green : ℕ → ℕ → ℕ → ℕ
green y cr cb = clamp255 (luma y -ℤ shr_z ((pos cb -ℤ pos 128) *ℤ pos 25674 +ℤ (pos cr -ℤ pos 128) *ℤ pos 53278) 65536)

-- RULES 9.3: B, of Y and Cb
unfoldable pub blue : ℕ → ℕ → ℕ
blue y cb = clamp255 (luma y +ℤ shr_z ((pos cb -ℤ pos 128) *ℤ pos 132201) 65536)

-- RULES 9.3: the pixel of Y, Cr and Cb: FF, R, G and B, a byte each
unfoldable pub argb : ℕ → ℕ → ℕ → ℕ
argb y cr cb = 4278190080 + red y cr * 65536 + green y cr cb * 256 + blue y cb
