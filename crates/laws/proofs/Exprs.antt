-- Straight-line signed code by reflection, at a width w. `Exp` is an expression over numbered inputs. `eval` is its number, `stored` the bits of the
-- local that the machine sets to it, `term` what the machine reads of that local, `raw` the result of its last operation before it is stored, `bound`
-- a numeral that |eval| keeps to, and `ok` computes that no step leaves the width. One proof: where `ok`, the machine's term is the number.
use mathlib.Core.Path.{◌≡◌, refl, sym, ap, ap₂, ◌∙◌}
use mathlib.Core.Bool.{Bool, ◌&&◌}
use mathlib.Core.List.{List, [], ◌∷◌}
use Prim.Native.Nat.{ℕ, zero, suc, ◌+◌, ◌*◌, ◌-◌, ◌/◌, ◌%◌, ◌^◌, ◌≤◌, zero-le}
use native.Mathlib.Omega.{arith}
use lib.Dec.{T, ltb}
use lib.IntN.{ℤ, pos, neg_ℤ, nat_abs, ◌+ℤ◌, ◌-ℤ◌, ◌*ℤ◌}
use lib.Signed.{shr_z, lt_z}
use mir.Facts.{and_yes}
use mir.Syntax.{Width}
use mir.Val.{SFits, bits, hbits, to_z, of_z}
use Rattle.laws.proofs.Nums.{Num, num, Held, read, fits, minus, shift-right, shift-left, ◌⊞◌, ◌⊟◌, ◌⊠◌}

infixl 6 ◌⊹◌ ◌∸◌
infixl 7 ◌×̇◌
pub data Exp : Type 0 where
  var : ℕ → Exp
  con : ℤ → Exp
  ◌⊹◌ ◌∸◌ ◌×̇◌ : Exp → Exp → Exp
  neg : Exp → Exp
  shr shl : ℕ → Exp → Exp

-- a constant that is not negative
abbrev pub cst : ℕ → Exp
cst k = con (pos k)

-- an input: the bits that the machine has for it, which are those of its number, and a bound
pub record Input (w : Width) : Type 0 where
  pub bits : ℕ
  pub number : ℤ
  pub most : ℕ
  pub held : Held w bits number most

-- any local; a signed parameter, element or result of a call; an unsigned number that was cast
abbrev pub local : (w : Width) (b : ℕ) (z : ℤ) (B : ℕ) → Held w b z B → Input w
local w b z B h = record { bits = b; number = z; most = B; held = h }

abbrev pub signed : (w : Width) (z : ℤ) (B : ℕ) → nat_abs z ≤ B → Input w
signed w z B h = local w (of_z w z) z B (record { is = refl; bound = h })

abbrev pub natural : (w : Width) (n B : ℕ) → n ≤ B → Input w
natural w n B h = local w n (pos n) B (record { is = refl; bound = h })

abbrev pub input : {w : Width} → List (Input w) → ℕ → Input w
input {w} [] i = natural w 0 0 zero-le
input (x ∷ xs) zero = x
input (x ∷ xs) (suc i) = input xs i

module _ {w : Width} (ρ : List (Input w)) where
  abbrev pub eval : Exp → ℤ
  eval (var i) = (input ρ i).number
  eval (con z) = z
  eval (a ⊹ b) = eval a +ℤ eval b
  eval (a ∸ b) = eval a -ℤ eval b
  eval (a ×̇ b) = eval a *ℤ eval b
  eval (neg a) = neg_ℤ (eval a)
  eval (shr k a) = shr_z (eval a) (2 ^ k)
  eval (shl k a) = eval a *ℤ pos (2 ^ k)

  abbrev pub stored : Exp → ℕ
  stored (var i) = (input ρ i).bits
  stored (con z) = of_z w z
  stored (a ⊹ b) = of_z w (to_z w (stored a) +ℤ to_z w (stored b))
  stored (a ∸ b) = of_z w (to_z w (stored a) -ℤ to_z w (stored b))
  stored (a ×̇ b) = of_z w (to_z w (stored a) *ℤ to_z w (stored b))
  stored (neg a) = of_z w (pos 0 -ℤ to_z w (stored a))
  stored (shr k a) = of_z w (shr_z (to_z w (stored a)) (2 ^ k))
  stored (shl k a) = stored a * 2 ^ k % 2 ^ bits w

  abbrev pub term : Exp → ℤ
  term e = to_z w (stored e)

  abbrev pub raw : Exp → ℤ
  raw (var i) = to_z w (input ρ i).bits
  raw (con z) = z
  raw (a ⊹ b) = term a +ℤ term b
  raw (a ∸ b) = term a -ℤ term b
  raw (a ×̇ b) = term a *ℤ term b
  raw (neg a) = pos 0 -ℤ term a
  raw (shr k a) = shr_z (term a) (2 ^ k)
  raw (shl k a) = to_z w (stored a * 2 ^ k % 2 ^ bits w)

  abbrev pub bound : Exp → ℕ
  bound (var i) = (input ρ i).most
  bound (con z) = nat_abs z
  bound (a ⊹ b) = bound a + bound b
  bound (a ∸ b) = bound a + bound b
  bound (a ×̇ b) = bound a * bound b
  bound (neg a) = bound a
  bound (shr k a) = (bound a + (2 ^ k - 1)) / 2 ^ k
  bound (shl k a) = bound a * 2 ^ k

  abbrev pub inside : Exp → Bool
  inside e = ltb (bound e) (2 ^ hbits w)

  abbrev pub ok : Exp → Bool
  ok (var i) = inside (var i)
  ok (con z) = inside (con z)
  ok (a ⊹ b) = ok a && ok b && inside (a ⊹ b)
  ok (a ∸ b) = ok a && ok b && inside (a ∸ b)
  ok (a ×̇ b) = ok a && ok b && inside (a ×̇ b)
  ok (neg a) = ok a && inside (neg a)
  ok (shr k a) = ok a && inside (shr k a)
  ok (shl k a) = ok a && inside (shl k a)

  -- ---- the machine computes the number

  record Sound (e : Exp) : Type 0 where
    result : Num (raw e) (eval e) (bound e)
    held : Held w (stored e) (eval e) (bound e)
    small : T (inside e)

  -- what a later step reads
  got : {e : Exp} → Sound e → Num (term e) (eval e) (bound e)
  got x = read x.held x.small

  -- a result that is stored as it is
  op : (e : Exp) → Num (raw e) (eval e) (bound e) → T (inside e) → stored e ≡ of_z w (raw e) → Sound e
  op e x t p = record { result = x; held = record { is = p ∙ ap (of_z w) x.is; bound = x.bound }; small = t }

  one : (a e : Exp) → T (ok a && inside e) → T (ok a) × T (inside e)
  one a e t = and_yes (ok a) (inside e) t

  two : (a b e : Exp) → T (ok a && ok b && inside e) → T (ok a) × T (ok b) × T (inside e)
  two a b e t =
      let x = and_yes (ok a && ok b) (inside e) t in
      let y = and_yes (ok a) (ok b) x.0 in
      (y.0, y.1, x.1)

  sound : (e : Exp) → T (ok e) → Sound e
  sound (var i) t = record { result = read (input ρ i).held t; held = (input ρ i).held; small = t }
  sound (con z) t = op (con z) (num (omega arith)) t refl
  sound (a ⊹ b) t = let k = two a b (a ⊹ b) t in op (a ⊹ b) (got (sound a k.0) ⊞ got (sound b k.1)) k.2 refl
  sound (a ∸ b) t = let k = two a b (a ∸ b) t in op (a ∸ b) (got (sound a k.0) ⊟ got (sound b k.1)) k.2 refl
  sound (a ×̇ b) t = let k = two a b (a ×̇ b) t in op (a ×̇ b) (got (sound a k.0) ⊠ got (sound b k.1)) k.2 refl
  sound (neg a) t = let k = one a (neg a) t in op (neg a) (minus (got (sound a k.0))) k.1 refl
  sound (shr j a) t = let k = one a (shr j a) t in op (shr j a) (shift-right j (got (sound a k.0))) k.1 refl
  sound (shl j a) t =
      let k = one a (shl j a) t in
      let h = shift-left j (sound a k.0).held k.1 in
      record { result = read h k.1; held = h; small = k.1 }

  -- the need of an operation
  pub need : (e : Exp) → T (ok e) → SFits w (raw e)
  need e t = fits w (sound e t).result (sound e t).small

  -- what a local then holds: its term, and the size of its number
  pub num_of : (e : Exp) → T (ok e) → Num (term e) (eval e) (bound e)
  num_of e t = got (sound e t)

  pub value : (e : Exp) → T (ok e) → term e ≡ eval e
  value e t = (num_of e t).is

  pub within : (e : Exp) → T (ok e) → nat_abs (eval e) ≤ bound e
  within e t = (sound e t).held.bound

  pub eval-fits : (e : Exp) → T (ok e) → SFits w (eval e)
  eval-fits e t = fits w (num (within e t)) (sound e t).small

  -- what a test of two locals gives, the test of their numbers gives
  pub test : (d e : Exp) → T (ok d) → T (ok e) → {b : Bool} → lt_z (term d) (term e) ≡ b → lt_z (eval d) (eval e) ≡ b
  test d e t u g = sym (ap₂ lt_z (value d t) (value e u)) ∙ g
