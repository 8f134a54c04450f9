-- What the walk does with eight bits that are there is what `walk_byte` says of them: one law for every table that keeps the rule. Assumes nothing.
use mathlib.Core.Path.{◌≡◌, refl, ap, sym, subst, ◌∙◌}
use mathlib.Core.Bool.{Bool, true, false, cond, not, ◌||◌}
use mathlib.Core.List.{List, [], ◌∷◌}
use Prim.Native.Nat.{ℕ, zero, suc, ◌+◌, ◌-◌, ◌*◌, ◌/◌, ◌%◌, ◌^◌, ◌≤◌, ◌<◌}
use native.Mathlib.Nat.{add-zero, add_assoc}
use native.Mathlib.Omega.{arith}
use lib.ListN.{length, get_or}
use lib.IntN.{ℤ, pos, nat_abs}
use lib.Signed.{le_z}
use Rattle.laws.specs.Loops.{Step, continue, finish}
use Rattle.bits.specs.Bits.{bit_at, bits_at, has, read_at, after_read}
use Rattle.bits.specs.Programs.{Prog, RunResult, done, run, any_read_refused, bind, continue_with, loop}
use Rattle.bits.proofs.Bits.{bit_lt, bits_mid}
use Rattle.bits.proofs.Gives.{got_lt}
use Rattle.bits.proofs.Programs.{run_bind, short-bind, served-has, served-got, served-next}
use Rattle.codes.specs.ByteLookup.{ByteWalk, ends, unfinished, walked_from, walk_byte, lookup_entry, looked_up}
use Rattle.codes.specs.TableRule.{ValidIndices}
use Rattle.codes.specs.Walk.{walk_step, walk_from, walk, vlc}
use Rattle.codes.proofs.Entries.{above}

-- p from the place a on does what q does from the place b on: value, end, and whether bits were refused
pub record Same {A : Type 0} (s : List ℕ) (p : Prog A) (a : ℕ) (q : Prog A) (b : ℕ) : Type 0 where
  pub runs : run p s a ≡ run q s b
  pub shorts : any_read_refused p s a ≡ any_read_refused q s b

same-on : {A : Type 0} {s : List ℕ} {p q r : Prog A} {a b c : ℕ} → Same s p a q b → Same s q b r c → Same s p a r c
same-on x y = record { runs = x.runs ∙ y.runs; shorts = x.shorts ∙ y.shorts }

same-both : {A B : Type 0} {s : List ℕ} {p q : Prog A} {a b : ℕ} (f : A → Prog B) → Same s p a q b → Same s (bind p f) a (bind q f) b
same-both {A} {s = s} {p} {q} {a} {b} f x =
    record {
      runs = run_bind p f s a ∙ ap (λ (o : RunResult A). run (f o.value) s o.at) x.runs ∙ sym (run_bind q f s b);
      shorts = short-bind p f s a ∙ (λ i. x.shorts i || any_read_refused (f (x.runs i).value) s (x.runs i).at) ∙ sym (short-bind q f s b);
    }

same-bind : {A B : Type 0} {s : List ℕ} {p : Prog A} {a b : ℕ} {k : A} (f : A → Prog B) → Same s p a (done k) b → Same s (bind p f) a (f k) b
unfolding bind
same-bind f x = same-both f x

-- ---- a bit of a stream, and of the byte that eight bits make

bit-of_byte : (x j : ℕ) → j < 8 → bit_at (x ∷ []) j ≡ x / 2 ^ (7 - j) % 2
unfolding bit_at
bit-of_byte x j h =
    let d : j / 8 ≡ 0 = omega arith in
    let m : j % 8 ≡ j = omega arith in
    rw (d, m)

bits-one : (s : List ℕ) (a : ℕ) → bits_at s a 1 ≡ bit_at s a
unfolding bits_at
bits-one s a = rw add-zero (omega arith)

bit-same : (s : List ℕ) (a j : ℕ) → j < 8 → bit_at (bits_at s a 8 ∷ []) j ≡ bit_at s (a + j)
bit-same s a j h =
    let e : 8 ≡ j + 1 + (7 - j) = omega arith in
    bit-of_byte (bits_at s a 8) j h ∙ ap (λ (n : ℕ). bits_at s a n / 2 ^ (7 - j) % 2) e ∙ bits_mid s a j 1 (7 - j) ∙ bits-one s (a + j)

-- ---- a turn of the walk

or_false : (b : Bool) → (b || false) ≡ b
or_false true = refl
or_false false = refl

choice-runs : {A : Type 0} (x y : A) (s : List ℕ) (e : ℕ) (t : Bool) → run (cond t (done x) (done y)) s e ≡ record { value = cond t x y; at = e }
unfolding run
choice-runs x y s e true = refl
choice-runs x y s e false = refl

choice-shorts : {A : Type 0} (x y : A) (s : List ℕ) (e : ℕ) (t : Bool) → any_read_refused (cond t (done x) (done y)) s e ≡ false
unfolding any_read_refused
choice-shorts x y s e true = refl
choice-shorts x y s e false = refl

module _ (ix : List ℤ) where
  -- where an entry leads
  abbrev step : ℕ → Step ℕ ℕ
  step k = cond (le_z (get_or ix k (pos 0)) (pos 0)) (finish k) (continue (nat_abs (get_or ix k (pos 0))))

  step-runs : (at : ℕ) (s : List ℕ) (c : ℕ) → run (walk_step ix at) s c ≡ record { value = step (at + read_at s c 1); at = after_read s c 1 }
  unfolding run walk_step bind
  step-runs at s c = choice-runs _ _ s _ (le_z (get_or ix (at + read_at s c 1) (pos 0)) (pos 0))

  step-shorts : (at : ℕ) (s : List ℕ) (c : ℕ) → any_read_refused (walk_step ix at) s c ≡ not (has s c 1)
  unfolding any_read_refused walk_step bind
  step-shorts at s c =
      ap (λ (b : Bool). not (has s c 1) || b) (choice-shorts _ _ s (after_read s c 1) (le_z (get_or ix (at + read_at s c 1) (pos 0)) (pos 0)))
      ∙ or_false (not (has s c 1))

  -- at a bit that is there
  module _ (at : ℕ) (s : List ℕ) (c : ℕ) (h : c + 1 ≤ length s * 8) where
    bit-runs : run (walk_step ix at) s c ≡ record { value = step (at + bit_at s c); at = c + 1 }
    bit-runs = step-runs at s c ∙ λ i. record { value = step (at + (served-got s c 1 h ∙ bits-one s c) i); at = served-next s c 1 h i }

    bit-shorts : any_read_refused (walk_step ix at) s c ≡ false
    bit-shorts = step-shorts at s c ∙ ap not (served-has s c 1 h)

  -- a loop of turns, one turn on
  module _ (n at : ℕ) (s : List ℕ) (c : ℕ) where
    loop-runs : run (loop (suc n) (walk_step ix) 0 at) s c
        ≡ run (continue_with (loop n (walk_step ix) 0) (run (walk_step ix at) s c).value) s (run (walk_step ix at) s c).at
    unfolding loop
    loop-runs = run_bind (walk_step ix at) (continue_with (loop n (walk_step ix) 0)) s c

    loop-shorts : any_read_refused (loop (suc n) (walk_step ix) 0 at) s c
        ≡ (any_read_refused (walk_step ix at) s c
        || any_read_refused (continue_with (loop n (walk_step ix) 0) (run (walk_step ix at) s c).value) s (run (walk_step ix at) s c).at)
    unfolding loop
    loop-shorts = short-bind (walk_step ix at) (continue_with (loop n (walk_step ix) 0)) s c

    loop-bit : c + 1 ≤ length s * 8
        → Same s (loop (suc n) (walk_step ix) 0 at) c (continue_with (loop n (walk_step ix) 0) (step (at + bit_at s c))) (c + 1)
    loop-bit h =
        let o = bit-runs at s c h in
        record {
          runs = loop-runs ∙ ap (λ (w : RunResult (Step ℕ ℕ)). run (continue_with (loop n (walk_step ix) 0) w.value) s w.at) o;
          shorts = loop-shorts
              ∙ ap (λ (b : Bool). b
              || any_read_refused (continue_with (loop n (walk_step ix) 0) (run (walk_step ix at) s c).value) s (run (walk_step ix at) s c).at)
              (bit-shorts at s c h)
              ∙ ap (λ (w : RunResult (Step ℕ ℕ)). any_read_refused (continue_with (loop n (walk_step ix) 0) w.value) s w.at) o;
        }

  -- ---- the rest of a walk

  -- an entry of the pair `at` that leads on leads further, and to a pair that is inside
  module _ (g : ValidIndices ix) where
    on : (at b : ℕ) → at + 1 < length ix → b < 2 → le_z (get_or ix (at + b) (pos 0)) (pos 0) ≡ false
        → (at < nat_abs (get_or ix (at + b) (pos 0))) × (nat_abs (get_or ix (at + b) (pos 0)) + 1 < length ix)
    on at b h l e =
        let z = get_or ix (at + b) (pos 0) in
        let u = above z e in
        let r = g.rule (at + b) (nat_abs z) (omega arith) u.0 u.1 in
        (omega (arith, r.1), r.2)

    -- fuel beyond what a walk from `at` on can need changes nothing
    enough : (s : List ℕ) (n m at c : ℕ) → at + 1 < length ix → length ix - 1 - at < n → length ix - 1 - at < m
        → Same s (loop n (walk_step ix) 0 at) c (loop m (walk_step ix) 0 at) c
    enough s zero m at c h k l = let no : ⊥ = omega arith in absurd no
    enough s (suc n) zero at c h k l = let no : ⊥ = omega arith in absurd no
    enough s (suc n) (suc m) at c h k l =
        let both : RunResult (Step ℕ ℕ) → Type 0 = λ w.
        Same s (continue_with (loop n (walk_step ix) 0) w.value) w.at (continue_with (loop m (walk_step ix) 0) w.value) w.at in
        let rest = subst both (sym (step-runs at s c)) (go (le_z z (pos 0)) refl (λ i p q. enough s n m i (after_read s c 1) p (omega arith) (omega arith))) in
        record {
          runs = loop-runs n at s c ∙ rest.runs ∙ sym (loop-runs m at s c);
          shorts = loop-shorts n at s c ∙ ap (λ (t : Bool). any_read_refused (walk_step ix at) s c || t) rest.shorts ∙ sym (loop-shorts m at s c);
        }
      where
        e : ℕ
        e = at + read_at s c 1

        z : ℤ
        z = get_or ix e (pos 0)

        go : (t : Bool) → le_z z (pos 0) ≡ t
            → ((i : ℕ) → i + 1 < length ix → at < i → Same s (loop n (walk_step ix) 0 i) (after_read s c 1) (loop m (walk_step ix) 0 i) (after_read s c 1))
            → Same s (continue_with (loop n (walk_step ix) 0) (cond t (finish e) (continue (nat_abs z)))) (after_read s c 1)
            (continue_with (loop m (walk_step ix) 0) (cond t (finish e) (continue (nat_abs z)))) (after_read s c 1)
        go true f r = record { runs = refl; shorts = refl }
        go false f r =
            let u = on at (read_at s c 1) h (got_lt s c 1) f in
            r (nat_abs z) u.1 u.0

    -- ---- the law

    -- what `walk_byte` says of the eight bits at a, when the walk has come with j of them to the pair `at`, and has fuel left
    module _ (s : List ℕ) (a : ℕ) where
      abbrev Says : ℕ → ℕ → ℕ → ByteWalk → Type 0
      Says fuel at j (ends k n) = Same s (loop fuel (walk_step ix) 0 at) (a + j) (done k) (a + n) × (j < n) × (n ≤ 8)
      Says fuel at j (unfinished i) = (i + 1 < length ix) × Same s (loop fuel (walk_step ix) 0 at) (a + j) (walk_from ix i) (a + 8)

      module _ (there : a + 8 ≤ length s * 8) where
        -- the turns of `walk_byte` are those of the walk
        abbrev onward : ℕ → ℕ → Step ℕ ℕ → ByteWalk
        onward n j t = elim t [ continue i ↦ walked_from ix (bits_at s a 8) n i j | finish k ↦ ends k j ]

        led-step : (n at j : ℕ) → j < 8 → walked_from ix (bits_at s a 8) (suc n) at j ≡ onward n (j + 1) (step (at + bit_at s (a + j)))
        unfolding walked_from
        led-step n at j h =
            let o = bit-runs at (bits_at s a 8 ∷ []) j (omega arith) in
            ap (λ (w : RunResult (Step ℕ ℕ)). onward n w.at w.value) o ∙ ap (λ (b : ℕ). onward n (j + 1) (step (at + b))) (bit-same s a j h)

        -- a turn before it
        widen : (fuel at j i : ℕ) (e : ByteWalk) → Same s (loop (suc fuel) (walk_step ix) 0 at) (a + j) (loop fuel (walk_step ix) 0 i) (a + (j + 1))
            → Says fuel i (j + 1) e → Says (suc fuel) at j e
        widen fuel at j i (ends k n) w q = (same-on w q.0, omega (arith, q.1), q.2)
        widen fuel at j i (unfinished m) w q = (q.0, same-on w q.1)

        says : (n at j fuel : ℕ) → j + n ≡ 8 → at + 1 < length ix → length ix - 1 - at < fuel → Says fuel at j (walked_from ix (bits_at s a 8) n at j)
        unfolding walked_from
        says n at j zero e h k = let no : ⊥ = omega arith in absurd no
        says zero at j (suc fuel) e h k =
            let eight : a + j ≡ a + 8 = omega arith in (
              h,
              subst (λ (c : ℕ). Same s (loop (suc fuel) (walk_step ix) 0 at) (a + j) (walk_from ix at) c) eight
                  (enough s (suc fuel) (length ix) at (a + j) h k (omega arith)),
            )
        says (suc n) at j (suc fuel) e h k =
            subst (Says (suc fuel) at j) (sym (led-step n at j (omega arith)))
            (go (le_z z (pos 0)) refl (λ i p q. says n i (j + 1) fuel (omega arith) p (omega arith)))
          where
            m : ℕ
            m = at + bit_at s (a + j)

            z : ℤ
            z = get_or ix m (pos 0)

            stepped : (t : Bool) → le_z z (pos 0) ≡ t
                → Same s (loop (suc fuel) (walk_step ix) 0 at) (a + j) (continue_with (loop fuel (walk_step ix) 0) (cond t (finish m) (continue (nat_abs z))))
                (a + (j + 1))
            stepped t f = rw (← f, ← add_assoc) (loop-bit fuel at s (a + j) (omega arith))

            go : (t : Bool) → le_z z (pos 0) ≡ t
                → ((i : ℕ) → i + 1 < length ix → at < i → Says fuel i (j + 1) (walked_from ix (bits_at s a 8) n i (j + 1)))
                → Says (suc fuel) at j (onward n (j + 1) (cond t (finish m) (continue (nat_abs z))))
            go true f r = (stepped true f, omega arith, omega arith)
            go false f r =
                let u = on at (bit_at s (a + j)) h (bit_lt s (a + j)) f in
                widen fuel at j (nat_abs z) (walked_from ix (bits_at s a 8) n (nat_abs z) (j + 1)) (stepped false f) (r (nat_abs z) u.1 u.0)

        -- the eight bits end the walk: at this entry, after so many bits, and none was refused
        pub led-ends : (k n : ℕ) → walk_byte ix (bits_at s a 8) ≡ ends k n → Same s (walk ix) a (done k) (a + n) × (0 < n) × (n ≤ 8)
        unfolding walk_byte walk
        led-ends k n e = rw add-zero at (subst (Says (length ix) 0 0) e (says 8 0 0 (length ix) refl g.two (omega (arith, g.two))))

        -- or lead further: the rest is the walk from this pair on, behind the eight
        pub led-further : (i : ℕ) → walk_byte ix (bits_at s a 8) ≡ unfinished i → (i + 1 < length ix) × Same s (walk ix) a (walk_from ix i) (a + 8)
        unfolding walk_byte walk
        led-further i e = rw add-zero at (subst (Says (length ix) 0 0) e (says 8 0 0 (length ix) refl g.two (omega (arith, g.two))))

        -- ---- an entry of the table

        module _ (vs : List ℕ) where
          -- value, place and mark are those that the entry says
          pub look-agrees : 0 < looked_up ix vs (bits_at s a 8)
              → Same s (vlc ix vs 0) a (done (looked_up ix vs (bits_at s a 8) / 16)) (a + looked_up ix vs (bits_at s a 8) % 16)
          unfolding looked_up vlc
          look-agrees h = go (walk_byte ix (bits_at s a 8)) refl h
            where
              go : (e : ByteWalk) → walk_byte ix (bits_at s a 8) ≡ e → 0 < lookup_entry vs e
                  → Same s (bind (walk ix) (λ k. done (get_or vs k 0))) a (done (lookup_entry vs e / 16)) (a + lookup_entry vs e % 16)
              go (ends k n) q p =
                  let w = led-ends k n q in
                  let value : (16 * get_or vs k 0 + n) / 16 ≡ get_or vs k 0 = omega (arith, w.2) in
                  let bits : (16 * get_or vs k 0 + n) % 16 ≡ n = omega (arith, w.2) in
                  rw (value, bits) (same-bind (λ k. done (get_or vs k 0)) w.0)
              go (unfinished i) q p = let no : ⊥ = omega arith in absurd no

          -- a longer code is read on from the pair to which its eight bits lead
          pub look-further : (i : ℕ) → walk_byte ix (bits_at s a 8) ≡ unfinished i
              → Same s (vlc ix vs 0) a (bind (walk_from ix i) (λ k. done (get_or vs k 0))) (a + 8)
          unfolding vlc
          look-further i q = same-both (λ k. done (get_or vs k 0)) (led-further i q).1
