-- Laws of a list of fields, whatever it is.
use mathlib.Core.Bool.{Bool, true, false, false≢true, and-false}
use mathlib.Core.List.{List, [], ◌∷◌, ◌++◌, append_assoc, map}
use mathlib.Core.Path.{◌≡◌, refl, sym, ap, ap₂, ◌∙◌}
use Prim.Native.Nat.{ℕ, zero, suc, ◌+◌, ◌≤◌, ◌<◌}
use native.Mathlib.Omega.{arith}
use borrow.Author.Tests.{le-leb, lt-leb, leb-true}
use lib.Dec.{leb}
use lib.ListN.{length, get_or, take, drop, length-append}
use lib.Seq.{drop_at, take_at, get_or-take, length-take-le}
use Rattle.std.proofs.Common.{MatchBool}
use Rattle.std.proofs.lemmas.List.{length-map}
use Rattle.std.proofs.lemmas.Slice.Zip.{length-zip, get_or-zip}
use Rattle.std.specs.List.{AllWithin, HoldsAt, zip}
use Rattle.decoder.specs.declared.record.Decoder.{Decoder}
use Rattle.decoder.specs.Record.{position}
use Rattle.laws.proofs.Tests.{both}
use Rattle.memory.specs.Fields.{Number, flag, word32, size, Entry, fields, flag_number, value, most, fits, elements, count}
use Rattle.memory.specs.Fields.{TypedNumbers, Sized, TypedEntries, number, flag_of}
use Rattle.memory.specs.Memory.{over, within, in_range}

-- ---- a flag

pub flag-back : (x : Bool) → flag_of (flag_number x) ≡ x
flag-back true = refl
flag-back false = refl

flag_is : (x : Bool) → leb (flag_number x) 1 ≡ true
flag_is true = refl
flag_is false = refl

flag_forth : (x : ℕ) → leb x 1 ≡ true → flag_number (flag_of x) ≡ x
flag_forth zero e = refl
flag_forth (suc zero) e = refl
flag_forth (suc (suc x)) e = absurd (omega (arith, leb-true (suc (suc x)) 1 e))

-- ---- numbers and their bounds

-- the most that each number may be
abbrev pub bounds : List Number → List ℕ
bounds fs = map most fs

-- a record's own numbers, whatever lies behind them
pub within-own : (d : Decoder) (t : List ℕ) (fs : List Number) → TypedNumbers fs d → within fs (map (value d) fs ++ t) ≡ true
unfolding within
within-own d t [] f = refl
within-own d t (flag g ∷ fs) f = rw (flag_is (g d)) (within-own d t fs f)
within-own d t (word32 g ∷ fs) f = rw (le-leb (g d) 4294967295 f.0) (within-own d t fs f.1)
within-own d t (size g ∷ fs) f = within-own d t fs f

-- a number of 64 bits is in the range of its field, or it is not
fits-is : (f : Number) (x : ℕ) → x ≤ most f → fits f x ≡ true
fits-is (flag f) x h = le-leb x 1 h
fits-is (word32 f) x h = le-leb x 4294967295 h
fits-is (size f) x h = refl

fits_not : (f : Number) (x : ℕ) → x ≤ 18446744073709551615 → most f < x → fits f x ≡ false
fits_not (flag f) x w h = lt-leb x 1 h
fits_not (word32 f) x w h = lt-leb x 4294967295 h
fits_not (size f) x w h = absurd (omega arith)

-- the number at the place k; behind the last one each is a value
within-at : (fs : List Number) (n : List ℕ) → within fs n ≡ true → (k : ℕ) → fits (get_or fs k (size position)) (get_or n k 0) ≡ true
unfolding within
within-at [] n e k = refl
within-at (f ∷ fs) [] e k = absurd (false≢true e)
within-at (f ∷ fs) (x ∷ n) e zero = (both (fits f x) (within fs n) e).0
within-at (f ∷ fs) (x ∷ n) e (suc k) = within-at fs n (both (fits f x) (within fs n) e).1 k

-- a flag that is read is written back as the number that it was
pub flag_at : (n : List ℕ) → in_range n ≡ true → (k : ℕ) {f : Decoder → Bool} → get_or fields.numbers k (size position) ≡ flag f
    → flag_number (flag_of (number n k)) ≡ number n k
flag_at n e k p = flag_forth (number n k) (rw p at (within-at fields.numbers n e k))

-- a number of 32 bits
pub short-at : (n : List ℕ) → in_range n ≡ true → (k : ℕ) {f : Decoder → ℕ} → get_or fields.numbers k (size position) ≡ word32 f → number n k ≤ 4294967295
short-at n e k p = leb-true (number n k) 4294967295 (rw p at (within-at fields.numbers n e k))

pub within_all : (fs : List Number) (n : List ℕ) → length fs ≤ length n → ((k : ℕ) → k < length fs → get_or n k 0 ≤ get_or (bounds fs) k 0)
    → within fs n ≡ true
unfolding within
within_all [] n h f = refl
within_all (g ∷ fs) [] h f = absurd (omega arith)
within_all (g ∷ fs) (x ∷ n) h f = rw (fits-is g x (f 0 (omega arith))) (within_all fs n (omega arith) (λ k p. f (suc k) (omega arith)))

pub within_not : (fs : List Number) (n : List ℕ) (k : ℕ) → k < length fs → get_or n k 0 ≤ 18446744073709551615 → get_or (bounds fs) k 0 < get_or n k 0
    → within fs n ≡ false
unfolding within
within_not [] n k h w p = absurd (omega arith)
within_not (g ∷ fs) [] k h w p = refl
within_not (g ∷ fs) (x ∷ n) zero h w p = rw (fits_not g x w p)
within_not (g ∷ fs) (x ∷ n) (suc k) h w p = rw (within_not fs n k (omega arith) w p) (and-false (fits g x))

-- the answer of `all` over the numbers ns of a memory n and their bounds
pub within_zipped : (fs : List Number) (n ns : List ℕ) (r : Bool) → length fs ≤ length n → ns ≡ take (length fs) n
    → ((k : ℕ) → get_or n k 0 ≤ 18446744073709551615)
    → MatchBool r (AllWithin (λ p. p.0 ≤ p.1) (zip ns (bounds fs)) 0 (length (zip ns (bounds fs))))
    ((k : ℕ) × (k < length (zip ns (bounds fs))) × HoldsAt (λ p. p.1 < p.0) (zip ns (bounds fs)) k) → r ≡ within fs n
within_zipped fs n ns true h e w a =
    let long : length ns ≡ length fs = ap length e ∙ length-take-le (length fs) n h in
    sym (within_all fs n h (λ k l. rw (
      get_or-zip ns (bounds fs) k (0, 0) (omega arith) (omega (arith, length-map fs most)),
      e,
      get_or-take (length fs) n k 0 l,
    ) at
    (a k (0, 0) (omega arith) (omega (arith, length-zip ns (bounds fs), length-map fs most)))))
within_zipped fs n ns false h e w a =
    let long : length ns ≡ length fs = ap length e ∙ length-take-le (length fs) n h in
    let l : a.0 < length fs = omega (arith, a.1, length-zip ns (bounds fs), length-map fs most) in
    sym (within_not fs n a.0 l (w a.0)
    (rw (get_or-zip ns (bounds fs) a.0 (0, 0) (omega arith) (omega (arith, length-map fs most)), e, get_or-take (length fs) n a.0 0 l) at (a.2 (0, 0))))

-- ---- elements

pub elements-long : {A : Type 0} (es : List (Entry A)) (d : Decoder) → TypedEntries es d → length (elements es d) ≡ count es
elements-long [] d f = refl
elements-long (e ∷ es) d f = length-append (e.get d) (elements es d) ∙ ap₂ ◌+◌ f.0.is (elements-long es d f.1)

pub one : {A : Type 0} {x : A} → Sized (x ∷ []) 1
one = record { is = refl }

module _ {A : Type 0} {x : List A} {k : ℕ} (e : Sized x k) (y t : List A) where
  -- an entry of k elements, and what lies behind it
  pub entry-back : take k (x ++ y ++ t) ≡ x
  entry-back = rw (append_assoc x y t) (take_at x (y ++ t) k e.is)

  pub entry_past : drop k (x ++ y ++ t) ≡ y ++ t
  entry_past = rw (append_assoc x y t) (drop_at x (y ++ t) k e.is)

-- a part that is written is as long as the part
pub over-long : {A : Type 0} (x l : List A) (k : ℕ) → length x ≡ k → leb k (length (over x l)) ≡ true
over-long x l k e = le-leb k (length (over x l)) (omega (arith, length-append x (drop (length x) l)))
