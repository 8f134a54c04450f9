-- Beginnings of code words: as sequences of bits, and as a test. Assumes nothing.
use mathlib.Core.Path.{◌≡◌, ap, sym, subst, ◌∙◌}
use mathlib.Core.Bool.{Bool, ◌&&◌}
use Prim.Native.Nat.{ℕ, zero, suc, ◌+◌, ◌-◌, ◌*◌, ◌/◌, ◌^◌, ◌≤◌, ◌<◌}
use native.Mathlib.Decide.{dec_lt}
use native.Mathlib.Nat.{pow-suc, div-one, div-div-eq-div-mul, mul-div-mul_right, mul_assoc, div-eq_of_lt, sub_self, mul-one}
use native.Mathlib.Omega.{arith}
use lib.Dec.{T, leb, eqb, leb→le, le→leb, eqb→eq, eqb_refl}
use lib.Pow.{pow_pos, pow-add}
use mir.Facts.{and_yes, yes_and}
use Rattle.codes.specs.Standard.{Code, Begins}
use Rattle.codes.proofs.Follow.{Bits}

module _ {A : Type 0} where
  -- Begins as a test
  abbrev pub begins : ℕ → ℕ → Code A → Bool
  begins n w c = leb n c.bits && eqb (c.word / 2 ^ (c.bits - n)) w

  module _ (n w : ℕ) (c : Code A) where
    pub begins-yes : T (begins n w c) → Begins c n w
    begins-yes t =
        let u = and_yes (leb n c.bits) (eqb (c.word / 2 ^ (c.bits - n)) w) t in
        record { long = leb→le n c.bits u.0; front = eqb→eq (c.word / 2 ^ (c.bits - n)) w u.1 }

    pub yes-begins : Begins c n w → T (begins n w c)
    yes-begins b =
        yes_and (leb n c.bits) (eqb (c.word / 2 ^ (c.bits - n)) w) (le→leb n c.bits b.long)
        (subst (λ (v : ℕ). T (eqb v w)) (sym b.front) (eqb_refl w))

  -- a code word begins with itself, and with no other word of its length
  pub begins-whole : (c : Code A) {w : ℕ} → w ≡ c.word → Begins c c.bits w
  begins-whole c e = record { long = omega arith; front = rw (sub_self, div-one) (sym e) }

  pub whole-begins : (c : Code A) {n w : ℕ} → Begins c n w → c.bits ≡ n → w ≡ c.word
  whole-begins c {n} {w} b e = let z : c.bits - n ≡ 0 = omega arith in sym (rw z at b.front) ∙ div-one c.word

  -- what begins with n bits of a sequence begins with fewer of them
  module _ {f : ℕ → ℕ} (bits : Bits f) (c : Code A) where
    one_less : (n : ℕ) → Begins c (suc n) (f (suc n)) → Begins c n (f n)
    one_less n b =
        let e : c.bits - n ≡ suc (c.bits - suc n) = omega (arith, b.long) in
        record {
          long = omega (arith, b.long);
          front = rw (e, pow-suc, ← div-div-eq-div-mul) (ap (λ (w : ℕ). w / 2) b.front ∙ bits.more n);
        }

    pub begins-less : (n m : ℕ) → m ≤ n → Begins c n (f n) → Begins c m (f m)
    begins-less zero m h b = let e : 0 ≡ m = omega arith in subst (λ (k : ℕ). Begins c k (f k)) e b
    begins-less (suc n) m h b = go (dec_lt m (suc n)) (λ k. begins-less n m k (one_less n b))
      where
        go : Dec (m < suc n) → (m ≤ n → Begins c m (f m)) → Begins c m (f m)
        go (yes k) r = r (omega arith)
        go (no k) r = let e : suc n ≡ m = omega arith in subst (λ (j : ℕ). Begins c j (f j)) e b

  -- a code word as a sequence, with zeros behind it
  abbrev pub padded : Code A → ℕ → ℕ
  padded c n = c.word * 2 ^ n / 2 ^ c.bits

  module _ (c : Code A) where
    pub padded-bits : c.word < 2 ^ c.bits → Bits (padded c)
    padded-bits h =
        record {
          empty = rw mul-one (div-eq_of_lt h);
          more = λ n. rw (div-div-eq-div-mul, pow-suc, ← mul_assoc) (mul-div-mul_right (c.word * 2 ^ n) (2 ^ c.bits) (omega arith));
        }

    pub padded-front : {n w : ℕ} → Begins c n w → padded c n ≡ w
    padded-front {n} b =
        let e : c.bits ≡ c.bits - n + n = omega (arith, b.long) in
        ap (λ (k : ℕ). c.word * 2 ^ n / 2 ^ k) e
        ∙ ap (λ (k : ℕ). c.word * 2 ^ n / k) (pow-add 2 (c.bits - n) n)
        ∙ mul-div-mul_right c.word (2 ^ (c.bits - n)) (pow_pos n)
        ∙ b.front
