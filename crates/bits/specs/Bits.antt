-- A stream is a list of bytes, and a place in it a count of bits from its beginning. What stands at a place: the value of a string of bits,
-- the next byte boundary, a run of equal bytes, the first start code.
use Rattle.std.specs.Prelude.{ℕ, zero, suc, ◌+◌, ◌-◌, ◌*◌, ◌/◌, ◌%◌, ◌^◌, List, [], Bool, cond, ◌&&◌, length, get_or, take, drop, leb, eqb}
use Rattle.std.specs.Prelude.{◌≤◌, ℤ, pos, negsuc, Option, Some, None, unwrap_or}

-- RULES 1.1: the bit k of s, counted from the highest bit of the first byte; 0 past the end
unfoldable pub bit_at : List ℕ → ℕ → ℕ
bit_at s k = get_or s (k / 8) 0 / 2 ^ (7 - k % 8) % 2

-- RULES 1.5 (11172-2: uimsbf): the number that the n bits from a on make, the highest first
unfoldable pub bits_at : List ℕ → ℕ → ℕ → ℕ
bits_at s a zero = 0
bits_at s a (suc n) = bits_at s a n * 2 + bit_at s (a + n)

-- RULES 1.3: n bits are left at the place a; past the end, where the difference is 0, only 0 bits are
abbrev pub has : List ℕ → ℕ → ℕ → Bool
has s a n = leb n (length s * 8 - a)

-- RULES 1.5: what a read of n bits at a gives: their value, or 0 where fewer are left
unfoldable pub read_at : List ℕ → ℕ → ℕ → ℕ
read_at s a n = cond (has s a n) (bits_at s a n) 0

-- RULES 1.5, 1.6: where a read or a skip of n bits at a ends: n bits on, or at a where fewer are left
unfoldable pub after_read : List ℕ → ℕ → ℕ → ℕ
after_read s a n = cond (has s a n) (a + n) a

-- RULES 1.7: the byte at which the next byte boundary from the place a on lies
abbrev pub boundary : ℕ → ℕ
boundary a = (a + 7) / 8

-- RULES 1.8: how many bytes in a row from the byte b on equal v, of the n that are looked at
unfoldable pub equal_bytes : List ℕ → ℕ → ℕ → ℕ → ℕ
equal_bytes s v b zero = 0
equal_bytes s v b (suc n) = cond (eqb (get_or s b 0) v) (suc (equal_bytes s v (b + 1) n)) 0

-- RULES 1.9 (11172-2, 2.4.2.1): the bytes 00 00 01, with which a start code begins, stand at the byte b
unfoldable pub code_prefix : List ℕ → ℕ → Bool
code_prefix s b = eqb (get_or s b 0) 0 && eqb (get_or s (b + 1) 0) 0 && eqb (get_or s (b + 2) 0) 1

-- what a search for a start code finds: its last byte, or -1, and the place where the search ends
pub record Found : Type 0 where
  pub code : ℤ
  pub at : ℕ

-- the first of n bytes, from b on, at which a start code begins: its last byte, and the place behind it; else -1, and the place behind the n bytes
unfoldable pub code_from : List ℕ → ℕ → ℕ → Found
code_from s b zero = record { code = negsuc 0; at = b * 8 }
code_from s b (suc n) = cond (code_prefix s b) (record { code = pos (get_or s (b + 3) 0); at = (b + 4) * 8 }) (code_from s (b + 1) n)

-- RULES 1.9, 1.10: the first start code from the next byte boundary on. It begins at a byte that has four more behind it
unfoldable pub found : List ℕ → ℕ → Found
found s a = code_from s (boundary a) (length s - 4 - boundary a)

-- RULES 1.15: n bytes from the byte of the place a on lie inside
abbrev pub has_bytes : List ℕ → ℕ → ℕ → Bool
has_bytes s a n = leb (a / 8 + n) (length s)

-- RULES 1.15: those bytes, or none
abbrev pub part_at : List ℕ → ℕ → ℕ → Option (List ℕ)
part_at s a n = cond (has_bytes s a n) (Some (take n (drop (a / 8) s))) None

-- a part that begins with the byte b ends within the first n bytes
abbrev pub Within : Option (List ℕ) → ℕ → ℕ → Type 0
Within (Some bytes) b n = b + length bytes ≤ n
Within None b n = Unit {0}

-- the bytes of a part
abbrev pub bytes_of : Option (List ℕ) → List ℕ
bytes_of part = unwrap_or part []
