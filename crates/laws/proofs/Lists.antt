-- Parts of a list that are taken and put back (`mid_of a k xs`, `put_mid a k xs ys`), and the stores of specs/Stores.antt: one more, their length, what
-- stands inside and outside of them, and a row so far as the invariant of a loop.
use mathlib.Core.Path.{◌≡◌, refl, sym, ap, ap₂, ◌∙◌, subst}
use mathlib.Core.List.{List, [], ◌∷◌, ◌++◌, append_assoc}
use mathlib.Core.Logic.{◌⊎◌, inl, inr, ⊎_elim}
use Prim.Native.Nat.{ℕ, zero, suc, ◌+◌, ◌*◌, ◌-◌, ◌≤◌, ◌<◌}
use native.Mathlib.Decide.{dec_lt}
use native.Mathlib.Nat.{mul-le-mul_right, add-zero, add-suc, zero-add, suc-add}
use native.Mathlib.Numerals.{add-one}
use native.Mathlib.Omega.{arith}
use borrow.Rule.Slice.PartMut.{put_mid, mid_of, post_of}
use lib.ListN.{length, get_or, set, take, drop, length-set, length-append, length-drop, get_or-append}
use lib.Seq.{length-take-le, get_or-take, get_or-drop, get_or-append-add, get_or-set_same, get_or-set_other, set-append_left}
use Rattle.laws.specs.Stores.{store_row, store_rows}

-- ---- the places of rows

-- rows up to the last one end where that one does
pub last_row : (at dw b n L : ℕ) → at + (n - 1) * dw + b ≤ L → (y : ℕ) → y < n → at + y * dw + b ≤ L
last_row at dw b n L h y q = let r : y ≤ n - 1 = omega arith in omega (arith, mul-le-mul_right dw r)

-- rows that are no longer than the step from one to the next lie one after the other
apart : (at dw b : ℕ) → b ≤ dw → (y z : ℕ) → y < z → at + y * dw + b ≤ at + z * dw
apart at dw b h y z q = omega (arith, mul-le-mul_right dw q)

module _ {A : Type 0} where
  -- ---- a part

  pub length_mid : (a k : ℕ) (xs : List A) → a + k ≤ length xs → length (mid_of a k xs) ≡ k
  length_mid a k xs h = length-take-le k (drop a xs) (omega (arith, length-drop a xs))

  -- the list xs with ys in the place of its k elements from a on
  module _ (a k : ℕ) (xs ys : List A) where
    pub put_in : (j : ℕ) (d : A) → a ≤ length xs → j < length ys → get_or (put_mid a k xs ys) (a + j) d ≡ get_or ys j d
    put_in j d h l =
        ap (λ (n : ℕ). get_or (put_mid a k xs ys) (n + j) d) (sym (length-take-le a xs h))
        ∙ get_or-append-add (take a xs) (ys ++ post_of a k xs) j d
        ∙ get_or-append ys (post_of a k xs) d j l

    pub put-before : (j : ℕ) (d : A) → a ≤ length xs → j < a → get_or (put_mid a k xs ys) j d ≡ get_or xs j d
    put-before j d h l =
        get_or-append (take a xs) (ys ++ post_of a k xs) d j (omega (arith, length-take-le a xs h)) ∙ get_or-take a xs j d l

    pub put-after : (j : ℕ) (d : A) → a + k ≤ length xs → length ys ≡ k → a + k ≤ j → get_or (put_mid a k xs ys) j d ≡ get_or xs j d
    put-after j d h e l =
        let n : length (take a xs ++ ys) ≡ a + k = length-append (take a xs) ys ∙ omega (arith, length-take-le a xs (omega arith)) in
        let i : a + k + (j - (a + k)) ≡ j = omega arith in
        ap (λ (z : List A). get_or z j d) (sym (append_assoc (take a xs) ys (post_of a k xs)))
        ∙ ap (λ (m : ℕ). get_or (take a xs ++ ys ++ post_of a k xs) m d) (sym i ∙ ap (λ (m : ℕ). m + (j - (a + k))) (sym n))
        ∙ get_or-append-add (take a xs ++ ys) (post_of a k xs) (j - (a + k)) d
        ∙ get_or-drop k (drop a xs) (j - (a + k)) d
        ∙ get_or-drop a xs (k + (j - (a + k))) d
        ∙ ap (λ (m : ℕ). get_or xs m d) (omega arith)

  -- what stands in a part
  pub mid_at : (a k : ℕ) (xs : List A) (j : ℕ) (d : A) → j < k → get_or (mid_of a k xs) j d ≡ get_or xs (a + j) d
  mid_at a k xs j d h = get_or-take k (drop a xs) j d h ∙ get_or-drop a xs j d

  set-right : (p r : List A) (j : ℕ) (v : A) → set (p ++ r) (length p + j) v ≡ p ++ set r j v
  set-right [] r j v = ap (λ (n : ℕ). set r n v) (zero-add j)
  set-right (x ∷ p) r j v = ap (λ (n : ℕ). set (x ∷ (p ++ r)) n v) (suc-add (length p) j) ∙ ap (λ (z : List A). x ∷ z) (set-right p r j v)

  -- a store into a part is one into the whole
  set-put : (a k : ℕ) (xs ys : List A) (j : ℕ) (v : A) → a ≤ length xs → j < length ys
      → set (put_mid a k xs ys) (a + j) v ≡ put_mid a k xs (set ys j v)
  set-put a k xs ys j v h l =
      ap (λ (n : ℕ). set (put_mid a k xs ys) (n + j) v) (sym (length-take-le a xs h))
      ∙ set-right (take a xs) (ys ++ post_of a k xs) j v
      ∙ ap (λ (z : List A). take a xs ++ z) (set-append_left ys (post_of a k xs) j v l)

  -- ---- a row of stores

  -- the loop's turn: the row so far, and the next element
  pub row_on : (l : List A) (at : ℕ) (f : ℕ → A) (i : ℕ) {now : List A} {v : A} → now ≡ store_row l at f i → v ≡ f i
      → set now (at + i) v ≡ store_row l at f (i + 1)
  unfolding store_row
  row_on l at f i {now} {v} e p =
      ap (λ (z : List A). set z (at + i) v) e
      ∙ ap (λ (x : A). set (store_row l at f i) (at + i) x) p
      ∙ ap (store_row l at f) (sym (add-one i))

  pub length-row : (l : List A) (at : ℕ) (f : ℕ → A) (n : ℕ) → length (store_row l at f n) ≡ length l
  unfolding store_row
  length-row l at f zero = refl
  length-row l at f (suc n) = length-set (store_row l at f n) (at + n) (f n) ∙ length-row l at f n

  -- the same values
  pub row-alike : (l : List A) (at : ℕ) (f g : ℕ → A) (n : ℕ) → ((i : ℕ) → i < n → f i ≡ g i) → store_row l at f n ≡ store_row l at g n
  unfolding store_row
  row-alike l at f g zero h = refl
  row-alike l at f g (suc n) h =
      ap (λ (z : List A). set z (at + n) (f n)) (row-alike l at f g n (λ i q. h i (omega arith)))
      ∙ ap (λ (x : A). set (store_row l at g n) (at + n) x) (h n (omega arith))

  -- a row that goes on at the place where another ends
  pub row_join : (l : List A) (at : ℕ) (f g : ℕ → A) (n k m : ℕ) → k ≡ at + n → ((i : ℕ) → i < m → g i ≡ f (n + i))
      → store_row (store_row l at f n) k g m ≡ store_row l at f (n + m)
  unfolding store_row
  row_join l at f g n k zero e h = ap (store_row l at f) (sym (add-zero n))
  row_join l at f g n k (suc m) e h =
      ap (λ (z : List A). set z (k + m) (g m)) (row_join l at f g n k m e (λ i q. h i (omega arith)))
      ∙ ap₂ (set (store_row l at f (n + m))) (omega arith) (h m (omega arith))
      ∙ ap (store_row l at f) (sym (add-suc n m))

  pub row_out : (l : List A) (at : ℕ) (f : ℕ → A) (n k : ℕ) (d : A) → (k < at) ⊎ (at + n ≤ k) → get_or (store_row l at f n) k d ≡ get_or l k d
  unfolding store_row
  row_out l at f zero k d h = refl
  row_out l at f (suc n) k d h =
      get_or-set_other (store_row l at f n) (at + n) k (f n) d (λ e. ⊎_elim (λ q. omega arith) (λ q. omega arith) h)
      ∙ row_out l at f n k d (⊎_elim (λ q. inl q) (λ q. inr (omega arith)) h)

  pub row_in : (l : List A) (at : ℕ) (f : ℕ → A) (n i k : ℕ) (d : A) → at + n ≤ length l → i < n → k ≡ at + i
      → get_or (store_row l at f n) k d ≡ f i
  unfolding store_row
  row_in l at f zero i k d h q e = absurd (omega arith)
  row_in l at f (suc n) i k d h q e = go (dec_lt i n) (λ g. row_in l at f n i k d (omega arith) g e)
    where
      go : Dec (i < n) → (i < n → get_or (store_row l at f n) k d ≡ f i) → get_or (set (store_row l at f n) (at + n) (f n)) k d ≡ f i
      go (yes g) before = get_or-set_other (store_row l at f n) (at + n) k (f n) d (λ r. omega arith) ∙ before g
      go (no g) before =
          let s : i ≡ n = omega arith in
          ap (λ (m : ℕ). get_or (set (store_row l at f n) (at + n) (f n)) m d) (e ∙ ap (λ (m : ℕ). at + m) s)
          ∙ get_or-set_same (store_row l at f n) (at + n) (f n) d (omega (arith, length-row l at f n))
          ∙ ap f (sym s)

  -- ---- rows of stores

  pub rows_on : (l : List A) (at dw b : ℕ) (f : ℕ → ℕ → A) (y : ℕ) {before now : List A} → before ≡ store_rows l at dw b f y
      → now ≡ store_row before (at + y * dw) (f y) b → now ≡ store_rows l at dw b f (y + 1)
  unfolding store_rows
  rows_on l at dw b f y e p = p ∙ ap (λ (z : List A). store_row z (at + y * dw) (f y) b) e ∙ ap (store_rows l at dw b f) (sym (add-one y))

  pub length-rows : (l : List A) (at dw b : ℕ) (f : ℕ → ℕ → A) (n : ℕ) → length (store_rows l at dw b f n) ≡ length l
  unfolding store_rows
  length-rows l at dw b f zero = refl
  length-rows l at dw b f (suc n) = length-row (store_rows l at dw b f n) (at + n * dw) (f n) b ∙ length-rows l at dw b f n

  pub rows_alike : (l : List A) (at dw b : ℕ) (f g : ℕ → ℕ → A) (n : ℕ) → ((y x : ℕ) → y < n → x < b → f y x ≡ g y x)
      → store_rows l at dw b f n ≡ store_rows l at dw b g n
  unfolding store_rows
  rows_alike l at dw b f g zero h = refl
  rows_alike l at dw b f g (suc n) h =
      ap (λ (z : List A). store_row z (at + n * dw) (f n) b) (rows_alike l at dw b f g n (λ y x q. h y x (omega arith)))
      ∙ row-alike (store_rows l at dw b g n) (at + n * dw) (f n) (g n) b (λ x q. h n x (omega arith) q)

  -- a place in none of the rows is as it was
  pub rows_out : (l : List A) (at dw b : ℕ) (f : ℕ → ℕ → A) (n k : ℕ) (d : A)
      → ((y : ℕ) → y < n → (k < at + y * dw) ⊎ (at + y * dw + b ≤ k))
      → get_or (store_rows l at dw b f n) k d ≡ get_or l k d
  unfolding store_rows
  rows_out l at dw b f zero k d h = refl
  rows_out l at dw b f (suc n) k d h =
      row_out (store_rows l at dw b f n) (at + n * dw) (f n) b k d (h n (omega arith)) ∙ rows_out l at dw b f n k d (λ y q. h y (omega arith))

  -- a place from row y on is as it was before that row
  pub rows-fresh : (l : List A) (at dw b : ℕ) (f : ℕ → ℕ → A) (y k : ℕ) (d : A) → b ≤ dw → at + y * dw ≤ k
      → get_or (store_rows l at dw b f y) k d ≡ get_or l k d
  rows-fresh l at dw b f y k d h q = rows_out l at dw b f y k d (λ z r. inr (omega (arith, apart at dw b h z y r)))

  rows_at : (l : List A) (at dw b : ℕ) (f : ℕ → ℕ → A) (n y x k : ℕ) (d : A) → b ≤ dw
      → ((z : ℕ) → z < n → at + z * dw + b ≤ length l) → y < n → x < b
      → k ≡ at + y * dw + x → get_or (store_rows l at dw b f n) k d ≡ f y x
  unfolding store_rows
  rows_at l at dw b f zero y x k d h fit q r e = absurd (omega arith)
  rows_at l at dw b f (suc n) y x k d h fit q r e = go (dec_lt y n) (λ g. rows_at l at dw b f n y x k d h (λ z p. fit z (omega arith)) g r e)
    where
      m : List A
      m = store_rows l at dw b f n

      go : Dec (y < n) → (y < n → get_or m k d ≡ f y x) → get_or (store_row m (at + n * dw) (f n) b) k d ≡ f y x
      go (yes g) before = row_out m (at + n * dw) (f n) b k d (inl (omega (arith, apart at dw b h y n g))) ∙ before g
      go (no g) before =
          let s : y ≡ n = omega arith in
          row_in m (at + n * dw) (f n) b x k d (omega (arith, length-rows l at dw b f n, fit n (omega arith))) r (e ∙ ap (λ (z : ℕ). at + z * dw + x) s)
          ∙ ap (λ (z : ℕ). f z x) (sym s)

  -- rows stored into a part are rows stored into the whole
  row_put : (a k : ℕ) (xs ys : List A) (at : ℕ) (f : ℕ → A) (n : ℕ) → a ≤ length xs → at + n ≤ length ys
      → store_row (put_mid a k xs ys) (a + at) f n ≡ put_mid a k xs (store_row ys at f n)
  unfolding store_row
  row_put a k xs ys at f zero h l = refl
  row_put a k xs ys at f (suc n) h l =
      let e : a + at + n ≡ a + (at + n) = omega arith in
      ap (λ (z : List A). set z (a + at + n) (f n)) (row_put a k xs ys at f n h (omega arith))
      ∙ ap (λ (m : ℕ). set (put_mid a k xs (store_row ys at f n)) m (f n)) e
      ∙ set-put a k xs (store_row ys at f n) (at + n) (f n) h (omega (arith, length-row ys at f n))

  pub rows-put : (a k : ℕ) (xs ys : List A) (at dw b : ℕ) (f : ℕ → ℕ → A) (n : ℕ) → a ≤ length xs
      → ((y : ℕ) → y < n → at + y * dw + b ≤ length ys)
      → store_rows (put_mid a k xs ys) (a + at) dw b f n ≡ put_mid a k xs (store_rows ys at dw b f n)
  unfolding store_rows
  rows-put a k xs ys at dw b f zero h l = refl
  rows-put a k xs ys at dw b f (suc n) h l =
      let e : a + at + n * dw ≡ a + (at + n * dw) = omega arith in
      ap (λ (z : List A). store_row z (a + at + n * dw) (f n) b) (rows-put a k xs ys at dw b f n h (λ y q. l y (omega arith)))
      ∙ ap (λ (m : ℕ). store_row (put_mid a k xs (store_rows ys at dw b f n)) m (f n) b) e
      ∙ row_put a k xs (store_rows ys at dw b f n) (at + n * dw) (f n) b h (omega (arith, l n (omega arith), length-rows ys at dw b f n))

  pub rows_in : (l : List A) (at dw b : ℕ) (f : ℕ → ℕ → A) (n y x k : ℕ) (d : A) → b ≤ dw → at + (n - 1) * dw + b ≤ length l → y < n
      → x < b
      → k ≡ at + y * dw + x → get_or (store_rows l at dw b f n) k d ≡ f y x
  rows_in l at dw b f n y x k d h fit = rows_at l at dw b f n y x k d h (last_row at dw b n (length l) fit)

-- ---- a row so far

-- x of the n values f 0, f 1 .. are stored from the place at on
pub record Stored {A : Type 0} (l : List A) (at : ℕ) (f : ℕ → A) (n : ℕ) (now : List A) (x : ℕ) : Type 0 where
  pub most : x ≤ n
  pub long : length now ≡ length l
  pub is : now ≡ store_row l at f x

module _ {A : Type 0} {l : List A} {at : ℕ} {f : ℕ → A} {n : ℕ} where
  pub none-stored : Stored l at f n l 0
  unfolding store_row
  none-stored = record { most = omega arith; long = refl; is = refl }

  -- the loop's turn
  pub stored_on : {now : List A} {x : ℕ} {v : A} → Stored l at f n now x → x < n → v ≡ f x → Stored l at f n (set now (at + x) v) (x + 1)
  stored_on {now} {x} {v} r h e = record { most = omega arith; long = length-set now (at + x) v ∙ r.long; is = row_on l at f x r.is e }

  pub all-stored : {now : List A} {x : ℕ} → Stored l at f n now x → n ≤ x → now ≡ store_row l at f n
  all-stored {now} {x} r h = let e : x ≡ n = omega arith in r.is ∙ ap (store_row l at f) e

-- the same from the first place on
pub stored-first : {A : Type 0} {l : List A} {f : ℕ → A} {n : ℕ} {now : List A} {x : ℕ} {v : A} → Stored l 0 f n now x → x < n → v ≡ f x
    → Stored l 0 f n (set now x v) (x + 1)
stored-first {A} {l} {f} {n} {now} {x} {v} r h e = subst (λ (i : ℕ). Stored l 0 f n (set now i v) (x + 1)) (zero-add x) (stored_on r h e)
