-- A test of a code table against a list of printed codes, and what it shows of a walk along any sequence of bits. The test goes through the tree that the
-- table makes, and takes along the codes that begin with the bits on the way: so it looks at each code once for each of its bits. Assumes nothing.
use mathlib.Core.Path.{◌≡◌, refl, ap, sym, subst, ◌∙◌}
use mathlib.Core.Bool.{Bool, true, false, cond, true≢false, ◌&&◌}
use mathlib.Core.List.Memᴰ
use mathlib.Core.List.{List, [], ◌∷◌}
use mathlib.Core.Logic.{◌⊎◌, inl, inr, ⊎_elim}
use Prim.Native.Nat.{ℕ, zero, suc, ◌+◌, ◌*◌, ◌%◌, ◌^◌, ◌≤◌, ◌<◌}
use native.Mathlib.Nat.{sub-zero, div-eq_of_lt}
use native.Mathlib.Omega.{arith}
use borrow.Author.Tests.{leb-true}
use lib.Dec.{T, eqb, ltb, eqb→eq, ltb→lt}
use lib.ListN.{length, get_or}
use lib.IntN.{ℤ, pos, negsuc, nat_abs}
use lib.Signed.{le_z, non_neg}
use mir.Facts.{and_yes}
use Rattle.codes.specs.Standard.{Code, ◌∈◌, Begins, IsCodePrefix}
use Rattle.codes.proofs.Follow.{Bits, End, follow, follow-bits}
use Rattle.codes.proofs.Begins.{begins, begins-yes, yes-begins, begins-whole, whole-begins, begins-less}

-- ---- lists of codes

module _ {A : Type 0} where
  -- every code passes the test p
  abbrev pub all : (Code A → Bool) → List (Code A) → Bool
  all p [] = true
  all p (c ∷ cs) = p c && all p cs

  all_pass : (p : Code A → Bool) (cs : List (Code A)) → T (all p cs) → (o : Code A) → o ∈ cs → T (p o)
  all_pass p [] t o m = absurd (Memᴰ.not-nil m)
  all_pass p (c ∷ cs) t o m =
      let u = and_yes (p c) (all p cs) t in
      ⊎_elim (λ (e : o ≡ c). subst (λ (x : Code A). T (p x)) (sym e) u.0) (λ r. all_pass p cs u.1 o r) (Memᴰ.cases_cons m)

  -- no word has more digits than its length says
  abbrev pub narrow : List (Code A) → Bool
  narrow = all (λ c. ltb c.word (2 ^ c.bits))

  pub narrow-word : (cs : List (Code A)) → T (narrow cs) → (o : Code A) → o ∈ cs → o.word < 2 ^ o.bits
  narrow-word cs t o m = ltb→lt o.word (2 ^ o.bits) (all_pass (λ c. ltb c.word (2 ^ c.bits)) cs t o m)

  -- there is a code, and every code is longer than n bits
  abbrev pub longer : ℕ → List (Code A) → Bool
  longer n [] = false
  longer n (c ∷ cs) = all (λ o. ltb n o.bits) (c ∷ cs)

  longer-all : (n : ℕ) (cs : List (Code A)) → T (longer n cs) → (o : Code A) → o ∈ cs → n < o.bits
  longer-all n [] t o m = absurd t
  longer-all n (c ∷ cs) t o m = ltb→lt n o.bits (all_pass (λ o. ltb n o.bits) (c ∷ cs) t o m)

  longer-some : (n : ℕ) (cs : List (Code A)) {w : ℕ} → T (longer n cs) → ((o : Code A) → o ∈ cs → Begins o n w) → IsCodePrefix cs n w
  longer-some n [] t b = absurd t
  longer-some n (c ∷ cs) t b = record { some = c; printed = Memᴰ.head refl; begins = b c (Memᴰ.head refl) }

  -- the codes that begin with the n bits w
  abbrev pub keep : ℕ → ℕ → List (Code A) → List (Code A)
  keep n w [] = []
  keep n w (c ∷ cs) = let rest = keep n w cs in cond (begins n w c) (c ∷ rest) rest

  kept : (n w : ℕ) (cs : List (Code A)) (o : Code A) → o ∈ keep n w cs → (o ∈ cs) × Begins o n w
  kept n w [] o m = absurd (Memᴰ.not-nil m)
  kept n w (c ∷ cs) o m = go (begins n w c) refl m (kept n w cs o)
    where
      go : (t : Bool) → begins n w c ≡ t → o ∈ cond t (c ∷ keep n w cs) (keep n w cs) → (o ∈ keep n w cs → (o ∈ cs) × Begins o n w)
          → (o ∈ c ∷ cs) × Begins o n w
      go true e m r =
          ⊎_elim
          (λ (q : o ≡ c). (Memᴰ.head q, subst (λ (x : Code A). Begins x n w) (sym q) (begins-yes n w c (subst T (sym e) tt))))
          (λ l. (Memᴰ.tail (r l).0, (r l).1))
          (Memᴰ.cases_cons m)
      go false e m r = (Memᴰ.tail (r m).0, (r m).1)

  keeps : (n w : ℕ) (cs : List (Code A)) (o : Code A) → o ∈ cs → Begins o n w → o ∈ keep n w cs
  keeps n w [] o m b = absurd (Memᴰ.not-nil m)
  keeps n w (c ∷ cs) o m b = go (begins n w c) refl (Memᴰ.cases_cons m) (λ l. keeps n w cs o l b)
    where
      go : (t : Bool) → begins n w c ≡ t → (o ≡ c) ⊎ (o ∈ cs) → (o ∈ cs → o ∈ keep n w cs)
          → o ∈ cond t (c ∷ keep n w cs) (keep n w cs)
      go true e (inl q) r = Memᴰ.head q
      go true e (inr l) r = Memᴰ.tail (r l)
      go false e (inl q) r = absurd (subst T e (yes-begins n w c (subst (λ (x : Code A). Begins x n w) q b)))
      go false e (inr l) r = r l

-- ---- how a walk along f that ends with e stands to the codes

module _ {A : Type 0} (ix : List ℤ) (vs : List A) (d : A) where
  -- it ends at an entry with index 0: the only code that f begins with leads there
  pub record Valid (f : ℕ → ℕ) (cs : List (Code A)) (e : End) : Type 0 where
    pub code : Code A
    pub printed : code ∈ cs
    pub index : get_or ix e.position (pos 0) ≡ pos 0
    pub value : code.value ≡ get_or vs e.position d
    pub bits : code.bits ≡ e.bits
    pub word : f e.bits ≡ code.word
    pub single : (o : Code A) → o ∈ cs → f o.bits ≡ o.word → o ≡ code

  -- it ends at any other: no code is possible after the last of the bits taken, and one is before
  pub record Invalid (f : ℕ → ℕ) (cs : List (Code A)) (e : End) : Type 0 where
    pub before : ℕ
    pub bits : e.bits ≡ suc before
    pub index : get_or ix e.position (pos 0) ≡ pos 0 → ⊥
    pub value : get_or vs e.position d ≡ d
    pub possible : IsCodePrefix cs before (f before)
    pub impossible : IsCodePrefix cs (suc before) (f (suc before)) → ⊥
    pub no_code : (o : Code A) → o ∈ cs → f o.bits ≡ o.word → ⊥

  abbrev pub Fits : (ℕ → ℕ) → List (Code A) → End → Type 0
  Fits f cs e = Valid f cs e ⊎ Invalid f cs e

  -- what a walk along zeros gives
  abbrev pub zeros : A
  zeros = get_or vs (follow ix (λ n. 0) (length ix) 0 0).position d

-- ---- the test

module _ {A : Type 0} (eq : A → A → Bool) (ix : List ℤ) (vs : List A) (d : A) where
  -- at an entry that ends the walk, with value v and index z: cs are the codes that begin with the n bits which led there. Index 0 is the end of exactly
  -- one code, whose value is v; a negative index is the end of none, and v is d
  abbrev pub ends : A → ℤ → ℕ → List (Code A) → Bool
  ends v (pos m) n [] = false
  ends v (pos m) n (c ∷ []) = eqb c.bits n && eq c.value v
  ends v (pos m) n (c ∷ e ∷ cs) = false
  ends v (negsuc m) n [] = eq v d
  ends v (negsuc m) n (c ∷ cs) = false

  -- at any entry, which the n bits w led to; t says whether it ends the walk, and `rest` is the test of a pair of entries further on
  abbrev pub fork : Bool → (ℕ → ℕ → ℕ → List (Code A) → Bool) → A → ℤ → ℕ → ℕ → List (Code A) → Bool
  fork true rest v z n w cs = ends v z n cs
  fork false rest v z n w cs = longer n cs && rest (nat_abs z) n w cs

  abbrev pub side : (ℕ → ℕ → ℕ → List (Code A) → Bool) → ℕ → ℕ → ℕ → List (Code A) → Bool
  side rest k n w cs = fork (le_z (get_or ix k (pos 0)) (pos 0)) rest (get_or vs k d) (get_or ix k (pos 0)) n w (keep n w cs)

  -- at the pair of entries `at`, which the n bits w led to
  abbrev pub tree : ℕ → ℕ → ℕ → ℕ → List (Code A) → Bool
  tree zero at n w cs = false
  tree (suc fuel) at n w cs = side (tree fuel) (at + 0) (suc n) (w * 2 + 0) cs && side (tree fuel) (at + 1) (suc n) (w * 2 + 1) cs

  -- from the root on
  abbrev pub matches : List (Code A) → Bool
  matches codes = longer 0 codes && tree (length ix) 0 0 0 codes

  -- the whole test: of the printed words, of the tree, and of the walk from the end of the stream on
  abbrev pub passes : A → List (Code A) → Bool
  passes idle codes = narrow codes && (matches codes && eq (zeros ix vs d) idle)

  -- ---- what it shows

  module _ (eq_yes : (x y : A) → T (eq x y) → x ≡ y) {f : ℕ → ℕ} (bits : Bits f) where
    -- cs are the codes that begin with the first n bits of f; all are longer
    record Inner (n : ℕ) (cs : List (Code A)) : Type 0 where
      long : (o : Code A) → o ∈ cs → n < o.bits
      some : IsCodePrefix cs n (f n)

    inner_of : (n : ℕ) (cs : List (Code A)) → T (longer n cs) → ((o : Code A) → o ∈ cs → Begins o n (f n)) → Inner n cs
    inner_of n cs t b = record { long = longer-all n cs t; some = longer-some n cs t b }

    -- one bit more
    module _ (n : ℕ) (cs : List (Code A)) (inner : Inner n cs) where
      abbrev next : List (Code A)
      next = keep (suc n) (f (suc n)) cs

      -- a code that f begins with, or that begins with more bits of f, is among those that are left
      stays : (m : ℕ) → n < m → (o : Code A) → o ∈ cs → Begins o m (f m) → o ∈ next
      stays m h o l b = keeps (suc n) (f (suc n)) cs o l (begins-less bits o m (suc n) h b)

      stands : (o : Code A) → o ∈ cs → f o.bits ≡ o.word → o ∈ next
      stands o l e = stays o.bits (inner.long o l) o l (begins-whole o e)

      -- the walk ends there
      ended : (k : ℕ) (z : ℤ) → get_or ix k (pos 0) ≡ z → le_z z (pos 0) ≡ true → (ds : List (Code A)) → next ≡ ds
          → T (ends (get_or vs k d) z (suc n) ds)
          → Fits ix vs d f cs (record { position = k; bits = suc n })
      ended k (pos m) i h [] q t = absurd t
      ended k (pos m) i h (c ∷ []) q t =
          let u = and_yes (eqb c.bits (suc n)) (eq c.value (get_or vs k d)) t in
          let b = eqb→eq c.bits (suc n) u.0 in
          let w = kept (suc n) (f (suc n)) cs c (subst (λ (x : List (Code A)). c ∈ x) (sym q) (Memᴰ.head refl)) in
          let none : m ≡ 0 = omega (arith, leb-true m 0 h) in
          inl
          record {
            code = c;
            printed = w.0;
            index = i ∙ ap pos none;
            value = eq_yes c.value (get_or vs k d) u.1;
            bits = b;
            word = whole-begins c w.1 b;
            single = λ o l e. Memᴰ.eq_of_singleton (subst (λ (x : List (Code A)). o ∈ x) q (stands o l e));
          }
      ended k (pos m) i h (c ∷ e ∷ ds) q t = absurd t
      ended k (negsuc m) i h [] q t =
          inr
          record {
            before = n;
            bits = refl;
            index = λ e. true≢false (ap non_neg (sym e ∙ i));
            value = eq_yes (get_or vs k d) d t;
            possible = inner.some;
            impossible =
                λ p. Memᴰ.not-nil (subst (λ (x : List (Code A)). p.some ∈ x) q (keeps (suc n) (f (suc n)) cs p.some p.printed p.begins));
            no_code = λ o l e. Memᴰ.not-nil (subst (λ (x : List (Code A)). o ∈ x) q (stands o l e));
          }
      ended k (negsuc m) i h (c ∷ ds) q t = absurd t

      -- the walk goes on
      went : (e : End) → suc n ≤ e.bits → Fits ix vs d f next e → Fits ix vs d f cs e
      went e h (inl v) =
          inl
          record {
            code = v.code;
            printed = (kept (suc n) (f (suc n)) cs v.code v.printed).0;
            index = v.index;
            value = v.value;
            bits = v.bits;
            word = v.word;
            single = λ o l s. v.single o (stands o l s) s;
          }
      went e h (inr v) =
          let p = v.possible in
          inr
          record {
            before = v.before;
            bits = v.bits;
            index = v.index;
            value = v.value;
            possible = record { some = p.some; printed = (kept (suc n) (f (suc n)) cs p.some p.printed).0; begins = p.begins };
            impossible =
                λ q. v.impossible
                record {
                  some = q.some;
                  printed = stays (suc v.before) (omega (arith, v.bits)) q.some q.printed q.begins;
                  begins = q.begins;
                };
            no_code = λ o l s. v.no_code o (stands o l s) s;
          }

    -- the side of the pair that a bit chooses
    chosen : (g : ℕ → Bool) (b : ℕ) → b < 2 → T (g 0) → T (g 1) → T (g b)
    chosen g zero h t u = t
    chosen g (suc zero) h t u = u
    chosen g (suc (suc b)) h t u = let z : ⊥ = omega arith in absurd z

    holds : (fuel at n : ℕ) (cs : List (Code A)) → Inner n cs → T (tree fuel at n (f n) cs) → Fits ix vs d f cs (follow ix f fuel at n)
    holds zero at n cs inner t = absurd t
    holds (suc fuel) at n cs inner t = go (le_z z (pos 0)) refl sided (holds fuel (nat_abs z) (suc n) ds)
      where
        k : ℕ
        k = at + f (suc n) % 2

        z : ℤ
        z = get_or ix k (pos 0)

        ds : List (Code A)
        ds = keep (suc n) (f (suc n)) cs

        sided : T (side (tree fuel) k (suc n) (f (suc n)) cs)
        sided =
            let u = and_yes (side (tree fuel) (at + 0) (suc n) (f n * 2 + 0) cs) (side (tree fuel) (at + 1) (suc n) (f n * 2 + 1) cs) t in
            let e : f n * 2 + f (suc n) % 2 ≡ f (suc n) = omega (arith, bits.more n) in
            subst (λ (w : ℕ). T (side (tree fuel) k (suc n) w cs)) e
            (chosen (λ b. side (tree fuel) (at + b) (suc n) (f n * 2 + b) cs) (f (suc n) % 2) (omega arith) u.0 u.1)

        rest : End
        rest = follow ix f fuel (nat_abs z) (suc n)

        go : (t : Bool) → le_z z (pos 0) ≡ t → T (fork t (tree fuel) (get_or vs k d) z (suc n) (f (suc n)) ds)
            → (Inner (suc n) ds → T (tree fuel (nat_abs z) (suc n) (f (suc n)) ds) → Fits ix vs d f ds rest)
            → Fits ix vs d f cs (cond t (record { position = k; bits = suc n }) rest)
        go true h t r = ended n cs inner k z refl h ds refl t
        go false h t r =
            let u = and_yes (longer (suc n) ds) (tree fuel (nat_abs z) (suc n) (f (suc n)) ds) t in
            let i = inner_of (suc n) ds u.0 (λ o l. (kept (suc n) (f (suc n)) cs o l).1) in
            went n cs inner rest (follow-bits ix f fuel (nat_abs z) (suc n)) (r i u.1)

    pub fits : (codes : List (Code A)) → T (narrow codes) → T (matches codes) → Fits ix vs d f codes (follow ix f (length ix) 0 0)
    fits codes s t =
        let u = and_yes (longer 0 codes) (tree (length ix) 0 0 0 codes) t in
        holds (length ix) 0 0 codes (inner_of 0 codes u.0 starts) (subst (λ (w : ℕ). T (tree (length ix) 0 0 w codes)) (sym bits.empty) u.1)
      where
        starts : (o : Code A) → o ∈ codes → Begins o 0 (f 0)
        starts o l = record { long = omega arith; front = rw sub-zero (div-eq_of_lt (narrow-word codes s o l) ∙ sym bits.empty) }
