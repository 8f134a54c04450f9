-- Locality and shift: a run that is served all its bits gives the same value on any stream that holds the same bytes, at any byte.
-- Assumes nothing.
use mathlib.Core.Path.{◌≡◌, refl, ap, sym, ◌∙◌}
use mathlib.Core.Bool.{Bool, true, false, cond, not, ◌||◌, true≢false}
use mathlib.Core.List.{List, ◌++◌}
use Prim.Native.Nat.{ℕ, zero, suc, max, ◌+◌, ◌-◌, ◌*◌, ◌/◌, ◌%◌, ◌≤◌, ◌<◌}
use native.Mathlib.Omega.{arith}
use native.Mathlib.Nat.{add_assoc, zero-add}
use lib.ListN.{length, get_or, length-append}
use lib.Seq.{get_or-append-add}
use borrow.Author.Tests.{leb-true}
use Rattle.bits.specs.Bits.{Found, bit_at, bits_at, has, read_at, after_read, code_prefix, code_from, found, boundary}
use Rattle.bits.specs.Programs.{Prog, done, read, skip, peek_bits, seek_start_code, RunResult, run, any_read_refused}
use Rattle.bits.proofs.Programs.{next_le, served-has, served-next, served-got}
use Rattle.bits.proofs.Start.{is_code, found-on, code_from-past}

-- where a search for a start code has looked: one byte behind the code, or past the end where it found none
abbrev pub saw : List ℕ → Found → ℕ
saw s f = cond (is_code f.code) (f.at + 8) (length s * 8 + 8)

-- the furthest place that a run looks at, by a read, a skip, a peek or a search
unfoldable pub far : {A : Type 0} → Prog A → List ℕ → ℕ → ℕ
far (done x) s a = a
far (read n k) s a = far (k (read_at s a n)) s (after_read s a n)
far (skip n p) s a = far p s (after_read s a n)
far (peek_bits n k) s a = max (a + n) (far (k (has s a n) (read_at s a n)) s a)
far (seek_start_code k) s a = max (saw s (found s a)) (far (k (found s a).code) s (found s a).at)

far-on : {A : Type 0} (p : Prog A) (s : List ℕ) (a : ℕ) → a ≤ far p s a
unfolding far
far-on (done x) s a = omega arith
far-on (read n k) s a = omega (arith, next_le s a n, far-on (k (read_at s a n)) s (after_read s a n))
far-on (skip n p) s a = omega (arith, next_le s a n, far-on p s (after_read s a n))
far-on (peek_bits n k) s a = omega (arith, far-on (k (has s a n) (read_at s a n)) s a)
far-on (seek_start_code k) s a = omega (arith, found-on s a, far-on (k (found s a).code) s (found s a).at)

-- the m bytes of s from x on are those of t from y on, and both have them
pub record Alike (s : List ℕ) (x : ℕ) (t : List ℕ) (y m : ℕ) : Type 0 where
  pub bytes : (i : ℕ) → i < m → get_or s (x + i) 0 ≡ get_or t (y + i) 0
  pub left : x + m ≤ length s
  pub right : y + m ≤ length t

-- the same value, and both ended as far from there
pub record Moved {A : Type 0} (o : RunResult A) (x : ℕ) (u : RunResult A) (y : ℕ) : Type 0 where
  pub value : u.value ≡ o.value
  pub at : u.at + x * 8 ≡ o.at + y * 8

served : (x y : Bool) → (not x || y) ≡ false → (x ≡ true) × (y ≡ false)
served true y e = (refl, e)
served false y e = absurd (true≢false e)

-- a start code found at the same distance
abbrev SameCode : Found → ℕ → Found → ℕ → Type 0
SameCode f x g y = (g.code ≡ f.code) × (g.at + x * 8 ≡ f.at + y * 8)

-- by cases of the search: here, or further on
same_by : (x y z : ℕ) (u : Bool) (here on here' on' : Found) → SameCode here x here' y
    → (is_code on.code ≡ true → on.at + 8 ≤ z → SameCode on x on' y)
    → is_code (cond u here on).code ≡ true → (cond u here on).at + 8 ≤ z
    → SameCode (cond u here on) x (cond u here' on') y
same_by x y z true here on here' on' h r f l = h
same_by x y z false here on here' on' h r f l = r f l

saw-code : (s : List ℕ) (f : Found) (z : ℕ) → saw s f ≤ z → z ≤ length s * 8 → (is_code f.code ≡ true) × (f.at + 8 ≤ z)
saw-code s f z = go (is_code f.code)
  where
    go : (b : Bool) → cond b (f.at + 8) (length s * 8 + 8) ≤ z → z ≤ length s * 8 → (b ≡ true) × (f.at + 8 ≤ z)
    go true h l = (refl, h)
    go false h l = let z : ⊥ = omega arith in absurd z

module _ (s : List ℕ) (x : ℕ) (t : List ℕ) (y m : ℕ) (w : Alike s x t y m) where
  bit-alike : (j : ℕ) → j < m * 8 → bit_at s (x * 8 + j) ≡ bit_at t (y * 8 + j)
  unfolding bit_at
  bit-alike j h =
      let p : (x * 8 + j) / 8 ≡ x + j / 8 = omega arith in
      let q : (y * 8 + j) / 8 ≡ y + j / 8 = omega arith in
      let u : (x * 8 + j) % 8 ≡ j % 8 = omega arith in
      let v : (y * 8 + j) % 8 ≡ j % 8 = omega arith in
      rw (p, q, u, v, w.bytes (j / 8) (omega arith))

  bits-alike : (o n : ℕ) → o + n ≤ m * 8 → bits_at s (x * 8 + o) n ≡ bits_at t (y * 8 + o) n
  unfolding bits_at
  bits-alike o zero h = refl
  bits-alike o (suc n) h = rw (add_assoc, add_assoc (y * 8) o n) (omega (arith, bits-alike o n (omega arith), bit-alike (o + n) (omega arith)))

  got-alike : (o n : ℕ) → o + n ≤ m * 8 → read_at t (y * 8 + o) n ≡ read_at s (x * 8 + o) n
  got-alike o n h = served-got t (y * 8 + o) n (omega arith) ∙ sym (bits-alike o n h) ∙ sym (served-got s (x * 8 + o) n (omega arith))

  has-alike : (o n : ℕ) → o + n ≤ m * 8 → has t (y * 8 + o) n ≡ has s (x * 8 + o) n
  has-alike o n h = served-has t (y * 8 + o) n (omega arith) ∙ sym (served-has s (x * 8 + o) n (omega arith))

  byte-alike : (b c : ℕ) → x ≤ b → c + x ≡ b + y → b < x + m → get_or t c 0 ≡ get_or s b 0
  byte-alike b c h e l =
      let p : b ≡ x + (b - x) = omega arith in
      let q : c ≡ y + (b - x) = omega arith in
      ap (λ (k : ℕ). get_or t k 0) q ∙ sym (w.bytes (b - x) (omega arith)) ∙ sym (ap (λ (k : ℕ). get_or s k 0) p)

  search-moved : (n k b c : ℕ) → x ≤ b → c + x ≡ b + y → k ≡ length t - 4 - c
      → is_code (code_from s b n).code ≡ true → (code_from s b n).at + 8 ≤ (x + m) * 8
      → SameCode (code_from s b n) x (code_from t c k) y
  unfolding code_from code_prefix
  search-moved zero k b c h e ek f l = absurd (true≢false (sym f))
  search-moved (suc n) zero b c h e ek f l = let z : ⊥ = omega (arith, code_from-past s b (suc n) f) in absurd z
  search-moved (suc n) (suc k) b c h e ek f l =
      let past = code_from-past s b (suc n) f in
      let b0 : get_or t c 0 ≡ get_or s b 0 = byte-alike b c h e (omega arith) in
      let b1 : get_or t (c + 1) 0 ≡ get_or s (b + 1) 0 = byte-alike (b + 1) (c + 1) (omega arith) (omega arith) (omega arith) in
      let b2 : get_or t (c + 2) 0 ≡ get_or s (b + 2) 0 = byte-alike (b + 2) (c + 2) (omega arith) (omega arith) (omega arith) in
      let b3 : get_or t (c + 3) 0 ≡ get_or s (b + 3) 0 = byte-alike (b + 3) (c + 3) (omega arith) (omega arith) (omega arith) in
      rw (b0, b1, b2, b3)
      (same_by x y ((x + m) * 8) (code_prefix s b) _ _ _ _ (refl, omega arith)
      (search-moved n k (b + 1) (c + 1) (omega arith) (omega arith) (omega arith)) f l)

  -- a read or a skip that has its bits and ends inside
  served-at : (o n : ℕ) → has s (x * 8 + o) n ≡ true → after_read s (x * 8 + o) n ≤ length s * 8 → after_read s (x * 8 + o) n ≡ x * 8 + (o + n)
  served-at o n h l =
      served-next s (x * 8 + o) n (omega (arith, leb-true n (length s * 8 - (x * 8 + o)) h, next_le s (x * 8 + o) n)) ∙ add_assoc (x * 8) o n

  -- at the same distance o from x and from y
  pub moved : {A : Type 0} (p : Prog A) (o : ℕ) → any_read_refused p s (x * 8 + o) ≡ false → far p s (x * 8 + o) ≤ (x + m) * 8
      → Moved (run p s (x * 8 + o)) x (run p t (y * 8 + o)) y
  unfolding run any_read_refused far found
  moved (done v) o sh f = record { value = refl; at = omega arith }
  moved (read n k) o sh f =
      let v = served (has s (x * 8 + o) n) _ sh in
      let to = far-on (k (read_at s (x * 8 + o) n)) s (after_read s (x * 8 + o) n) in
      let ns : after_read s (x * 8 + o) n ≡ x * 8 + (o + n) = served-at o n v.0 (omega arith) in
      let l : o + n ≤ m * 8 = omega (arith, rw ns at f, rw ns at to) in
      rw (ns, served-next t (y * 8 + o) n (omega arith) ∙ add_assoc (y * 8) o n, got-alike o n l)
      (moved (k (read_at s (x * 8 + o) n)) (o + n) (rw ns at v.1) (rw ns at f))
  moved (skip n p) o sh f =
      let v = served (has s (x * 8 + o) n) _ sh in
      let to = far-on p s (after_read s (x * 8 + o) n) in
      let ns : after_read s (x * 8 + o) n ≡ x * 8 + (o + n) = served-at o n v.0 (omega arith) in
      let l : o + n ≤ m * 8 = omega (arith, rw ns at f, rw ns at to) in
      rw (ns, served-next t (y * 8 + o) n (omega arith) ∙ add_assoc (y * 8) o n)
      (moved p (o + n) (rw ns at v.1) (rw ns at f))
  moved (peek_bits n k) o sh f =
      rw (has-alike o n (omega arith), got-alike o n (omega arith)) (moved (k (has s (x * 8 + o) n) (read_at s (x * 8 + o) n)) o sh (omega arith))
  moved (seek_start_code k) o sh f =
      let hit = saw-code s (found s (x * 8 + o)) ((x + m) * 8) (omega arith) (omega arith) in
      let sm = search-moved (length s - 4 - boundary (x * 8 + o)) (length t - 4 - boundary (y * 8 + o)) (boundary (x * 8 + o)) (boundary (y * 8 + o))
      (omega arith) (omega arith) refl hit.0 hit.1 in
      let q = (found s (x * 8 + o)).at - x * 8 in
      let es : (found s (x * 8 + o)).at ≡ x * 8 + q = omega (arith, found-on s (x * 8 + o)) in
      let et : (found t (y * 8 + o)).at ≡ y * 8 + q = omega (arith, found-on s (x * 8 + o), sm.1) in
      let fr : far (k (found s (x * 8 + o)).code) s (found s (x * 8 + o)).at ≤ (x + m) * 8 = omega arith in
      rw (sm.0, es, et) (moved (k (found s (x * 8 + o)).code) q (rw es at sh) (rw es at fr))

-- a stream behind another: what a run of it gives, the joined one gives
pub in_right : (s t : List ℕ) → Alike t 0 (s ++ t) (length s) (length t)
in_right s t =
    record {
      bytes = λ i h. rw zero-add (sym (get_or-append-add s t i 0));
      left = omega arith;
      right = simp length-append (omega arith);
    }

-- a run on t that is served gives the same on s ++ t, as many bits further on
pub joined : {A : Type 0} (s t : List ℕ) (p : Prog A) (o : ℕ) → any_read_refused p t o ≡ false → far p t o ≤ length t * 8
    → run p (s ++ t) (length s * 8 + o) ≡ record { value = (run p t o).value; at = length s * 8 + (run p t o).at }
joined s t p o sh f =
    let z : 0 * 8 + o ≡ o = omega arith in
    let r = moved t 0 (s ++ t) (length s) (length t) (in_right s t) p o (rw z sh) (rw z (omega arith)) in
    let r' : Moved (run p t o) 0 (run p (s ++ t) (length s * 8 + o)) (length s) = rw z at r in
    λ i. record { value = r'.value i; at = at-is r'.at i }
  where
    at-is : (run p (s ++ t) (length s * 8 + o)).at + 0 * 8 ≡ (run p t o).at + length s * 8
        → (run p (s ++ t) (length s * 8 + o)).at ≡ length s * 8 + (run p t o).at
    at-is h = omega arith
