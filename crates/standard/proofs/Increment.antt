-- 2.4.2.7: the address increment. Assumes RULES Q1.
use mathlib.Core.Path.{◌≡◌, refl, sym, ap, ◌∙◌}
use mathlib.Core.Bool.{Bool, true, false, cond, ◌&&◌}
use mathlib.Core.List.{List, [], ◌∷◌, Memᴰ}
use Prim.Native.Nat.{ℕ, zero, suc, ◌+◌, ◌-◌, ◌*◌, ◌≤◌, ◌<◌}
use native.Mathlib.Omega.{arith}
use borrow.Author.Tests.{leb-true, eqb-true, ne_eqb}
use lib.Dec.{eqb, leb}
use lib.ListN.{length, get_or}
use Rattle.laws.specs.Loops.{Step, continue, finish}
use Rattle.laws.proofs.Tests.{both}
use Rattle.bits.specs.Bounds.{longest_stream}
use Rattle.bits.specs.Bits.{has, read_at}
use Rattle.bits.specs.Programs.{Prog, RunResult, done, skip, run, bind, loop, continue_with, stream_fuel}
use Rattle.bits.proofs.Programs.{run_bind, next-has}
use Rattle.bits.proofs.Rules.{loop_suc}
use Rattle.codes.specs.Codes.{macroblock_address_increment}
use Rattle.codes.specs.Standard.{code, macroblock_address_increment_codes}
use Rattle.codes.proofs.Standard.{agrees-macroblock-address-increment}
use Rattle.picture_state.specs.Result.{Result, ok, if_ok, bind_result, lift, pure}
use Rattle.picture_state.specs.Stop.{Stop}
use Rattle.macroblock_head.specs.Increments as O
use Rattle.standard.specs.Standard as S
use Rattle.standard.specs.Standard.Prelude.{Forbidden}
use Rattle.macroblock_head.proofs.Fuel.{increment-fuel}
use Rattle.standard.proofs.Agreement.{Meets, Agree, a-by, a-same}
use Rattle.picture_state.proofs.Runs.{run_lift}

mem-at : {A : Type 0} (d : A) (xs : List A) (k : ℕ) → k < length xs → Memᴰ (get_or xs k d) xs
mem-at d [] k h = let z : ⊥ = omega arith in absurd z
mem-at d (x ∷ xs) zero h = Memᴰ.head refl
mem-at d (x ∷ xs) (suc k) h = Memᴰ.tail (mem-at d xs k (omega arith))

-- ---- the two codes of 11 bits

module _ (s : List ℕ) (a : ℕ) (h : has s a 11 ≡ true) where
  eleven : (word value k : ℕ) → Memᴰ (code 11 word value) macroblock_address_increment_codes → read_at s a 11 ≡ word → run macroblock_address_increment s a
      ≡ record { value = value; at = a + 11 }
  unfolding macroblock_address_increment read_at
  eleven word value k m e =
      let r = agrees-macroblock-address-increment.reads (code 11 word value) m s a (rw h at e) in
      r.is ∙ ap (λ (i : ℕ). record { value = value; at = i }) (omega (arith, leb-true 11 (length s * 8 - a) h))

  stuffing : read_at s a 11 ≡ 15 → run macroblock_address_increment s a ≡ record { value = 34; at = a + 11 }
  unfolding macroblock_address_increment_codes
  stuffing e = eleven 15 34 33 (mem-at (code 0 0 0) macroblock_address_increment_codes 33 (omega arith)) e

  escape : read_at s a 11 ≡ 8 → run macroblock_address_increment s a ≡ record { value = 35; at = a + 11 }
  unfolding macroblock_address_increment_codes
  escape e = eleven 8 35 34 (mem-at (code 0 0 0) macroblock_address_increment_codes 34 (omega arith)) e

  -- our turn there
  drops : (x : ℕ) → x ≡ 0 → read_at s a 11 ≡ 15 → run (O.increment_step x) s a ≡ record { value = continue x; at = a + 11 }
  unfolding O.increment_step run
  drops x z e = run_bind macroblock_address_increment _ s a ∙ rw (stuffing e, z)

  adds : (x : ℕ) → read_at s a 11 ≡ 8 → run (O.increment_step x) s a ≡ record { value = continue (x + 33); at = a + 11 }
  unfolding O.increment_step run
  adds x e = run_bind macroblock_address_increment _ s a ∙ rw (escape e)

-- ---- the two loops

module _ (s : List ℕ) where
  bind-bind : {A B C : Type 0} (p : Prog A) (k : A → Prog (Result Forbidden B)) (f : B → Prog (Result Forbidden C)) (a : ℕ)
      → run (bind_result (bind p k) f) s a ≡ run (bind_result (k (run p s a).value) f) s (run p s a).at
  unfolding bind_result
  bind-bind p k f a =
      run_bind (bind p k) (if_ok f) s a ∙ ap (λ (o : RunResult (Result Forbidden _)). run (if_ok f o.value) s o.at) (run_bind p k s a)
      ∙ sym (run_bind (k (run p s a).value) (if_ok f) s (run p s a).at)

  abbrev ours : ℕ → ℕ → Prog (Result Stop ℕ)
  ours n x = lift (loop n O.increment_step 0 x)

  on-by : (n m x y a e : ℕ) → n ≡ suc m → run (O.increment_step x) s a ≡ record { value = continue y; at = e } → run (ours n x) s a ≡ run (ours m y) s e
  unfolding lift
  on-by n m x y a e h r =
      run_bind (loop n O.increment_step 0 x) _ s a
      ∙ ap (λ (o : RunResult ℕ). run (done (ok o.value)) s o.at) (loop_suc n m O.increment_step 0 x s a h
      ∙ ap (λ (o : RunResult (Step ℕ ℕ)). run (continue_with (loop m O.increment_step 0) o.value) s o.at) r)
      ∙ sym (run_bind (loop m O.increment_step 0 y) _ s e)

  end_by : (n m x v a e : ℕ) → n ≡ suc m → run (O.increment_step x) s a ≡ record { value = finish v; at = e } → run (ours n x) s a
      ≡ record { value = ok v; at = e }
  unfolding lift run
  end_by n m x v a e h r =
      run_bind (loop n O.increment_step 0 x) _ s a
      ∙ ap (λ (o : RunResult ℕ). run (done (ok o.value)) s o.at) (loop_suc n m O.increment_step 0 x s a h
      ∙ ap (λ (o : RunResult (Step ℕ ℕ)). run (continue_with (loop m O.increment_step 0) o.value) s o.at) r)

  module _ (word : ℕ) (f : ℕ → ℕ) where
    -- the standard's turn by what it looks at
    abbrev their : ℕ → Prog (Step ℕ (Result Forbidden ℕ))
    their = S.while_step 11 word f

    abbrev looked : Bool → Bool → ℕ → Prog (Step ℕ (Result Forbidden ℕ))
    looked h t x = cond h (cond t (skip 11 (done (continue (f x)))) (done (finish (ok x)))) (done (finish S.forbidden))

    their-on : (x a : ℕ) → has s a 11 ≡ true → eqb (read_at s a 11) word ≡ true → run (their x) s a ≡ record { value = continue (f x); at = a + 11 }
    unfolding S.while_step run
    their-on x a h e =
        ap (λ (h : Bool). run (looked h (eqb (read_at s a 11) word) x) s a) h ∙ ap (λ (t : Bool). run (looked true t x) s a) e
        ∙ ap (λ (i : ℕ). record { value = continue (f x); at = i }) (next-has s a 11 h)

    their_off : (x a : ℕ) → has s a 11 ≡ true → eqb (read_at s a 11) word ≡ false → run (their x) s a ≡ record { value = finish (ok x); at = a }
    unfolding S.while_step run
    their_off x a h e = ap (λ (h : Bool). run (looked h (eqb (read_at s a 11) word) x) s a) h ∙ ap (λ (t : Bool). run (looked true t x) s a) e

    their-none : (x a : ℕ) → has s a 11 ≡ false → run (their x) s a ≡ record { value = finish S.forbidden; at = a }
    unfolding S.while_step run
    their-none x a h = ap (λ (h : Bool). run (looked h (eqb (read_at s a 11) word) x) s a) h

    rest : {C : Type 0} → (ℕ → Prog (Result Forbidden C)) → (n : ℕ) → RunResult (Step ℕ (Result Forbidden ℕ)) → RunResult (Result Forbidden C)
    rest F n o = run (bind_result (continue_with (loop n their S.forbidden) o.value) F) s o.at

  module _ {C : Type 0} {R : C → ℕ → Type 0} (word : ℕ) (f : ℕ → ℕ) (P : ℕ → Type 0) (kept : (x : ℕ) → P x → P (f x))
      (turns : (x a : ℕ) → P x → has s a 11 ≡ true → read_at s a 11 ≡ word → run (O.increment_step x) s a ≡ record { value = continue (f x); at = a + 11 })
      (F : ℕ → Prog (Result Forbidden C)) where
    whiles : (n m x a : ℕ) → n ≤ m → P x → ((y e i : ℕ) → P y → m ≤ i + n → Agree R s e (F y) (ours i y))
        → Agree R s a (bind_result (loop n (their word f) S.forbidden x) F) (ours m x)
    unfolding loop bind_result if_ok bind run rest
    whiles zero m x a l p k = record { is = tt }
    whiles (suc n) m x a l p k = go (has s a 11) refl (eqb (read_at s a 11) word) refl (λ m y e l q k. whiles n m y e l q k)
      where
        first : run (bind_result (loop (suc n) (their word f) S.forbidden x) F) s a ≡ rest word f F n (run (their word f x) s a)
        first = bind-bind (their word f x) (continue_with (loop n (their word f) S.forbidden)) F a

        go : (h : Bool) → has s a 11 ≡ h → (t : Bool) → eqb (read_at s a 11) word ≡ t
            → ((m y e : ℕ) → n ≤ m → P y → ((y e i : ℕ) → P y → m ≤ i + n → Agree R s e (F y) (ours i y))
            → Agree R s e (bind_result (loop n (their word f) S.forbidden y) F) (ours m y))
            → Agree R s a (bind_result (loop (suc n) (their word f) S.forbidden x) F) (ours m x)
        go true h true t more =
            a-by _ _ (first ∙ ap (rest word f F n) (their-on word f x a h t))
            (on-by m (m - 1) x (f x) a (a + 11) (omega arith) (turns x a p h (eqb-true _ _ t)))
            (more (m - 1) (f x) (a + 11) (omega arith) (kept x p) (λ y e i q j. k y e i q (omega arith))).is
        go true h false t more = a-by _ _ (first ∙ ap (rest word f F n) (their_off word f x a h t)) refl (k x a m p (omega arith)).is
        go false h t e more = a-by _ _ (first ∙ ap (rest word f F n) (their-none word f x a h)) refl tt

-- ---- the increment

-- a code from 1 to 33
small : (n : ℕ) → (leb 1 n && leb n 33) ≡ true → (eqb n 34 ≡ false) × (eqb n 35 ≡ false) × (1 ≤ n)
small n e =
    let b = both (leb 1 n) (leb n 33) e in
    let h = leb-true 1 n b.0 in
    let l = leb-true n 33 b.1 in
    (ne_eqb n 34 (λ z. omega arith), ne_eqb n 35 (λ z. omega arith), h)

-- what both have read
pub record Increment (n m : ℕ) : Type 0 where
  pub same : n ≡ m
  pub some : 1 ≤ n

module _ (s : List ℕ) where
  stops : (x a : ℕ) → (leb 1 (run macroblock_address_increment s a).value && leb (run macroblock_address_increment s a).value 33) ≡ true
      → run (O.increment_step x) s a ≡
      record { value = finish (x + (run macroblock_address_increment s a).value); at = (run macroblock_address_increment s a).at }
  unfolding O.increment_step run
  stops x a h = let n = small (run macroblock_address_increment s a).value h in run_bind macroblock_address_increment _ s a ∙ rw (n.0, n.1)

  abbrev final : ℕ → Prog (Result Forbidden ℕ)
  final x = bind_result (lift macroblock_address_increment) (λ c. bind_result (S.shall (leb 1 c && leb c 33)) (λ u. pure (x + c)))

  ended : (x c e : ℕ) (b : Bool) → RunResult (Result Forbidden ℕ)
  ended x c e b = run (bind_result (S.shall b) (λ u. pure (x + c))) s e

  last_code : (m x a : ℕ) → 1 ≤ m → Agree Increment s a (final x) (ours s m x)
  unfolding bind_result if_ok bind run ended
  last_code m x a l =
      let c = (run macroblock_address_increment s a).value in
      a-by _ _ (run_lift macroblock_address_increment _ s a) refl (go (leb 1 c && leb c 33) refl)
    where
      go : (b : Bool) → (leb 1 (run macroblock_address_increment s a).value && leb (run macroblock_address_increment s a).value 33) ≡ b
          → Meets Increment (ended x (run macroblock_address_increment s a).value (run macroblock_address_increment s a).at b).value
          (ended x (run macroblock_address_increment s a).value (run macroblock_address_increment s a).at b).at (run (ours s m x) s a).value
          (run (ours s m x) s a).at
      go true h =
          let c = (run macroblock_address_increment s a).value in
          rw (end_by s m (m - 1) x (x + c) a (run macroblock_address_increment s a).at (omega arith) (stops x a h))
          (refl, record { same = refl; some = omega (arith, (small c h).2) })
      go false h = tt

  both-loops : (m a : ℕ) → 2 * stream_fuel < m → Agree Increment s a S.increment (ours s m 0)
  unfolding S.increment S.while
  both-loops m a l =
      whiles s 15 (λ x. x) (λ x. x ≡ 0) (λ x z. z) (λ x a z h e. drops s a h x z e) _ stream_fuel m 0 a (omega arith) refl (λ y e i z j.
      rw z (whiles s 8 (λ x. x + 33) (λ x. Unit {0}) (λ x u. tt) (λ x a u h e. adds s a h x e) final stream_fuel i 0 e (omega arith) tt
      (λ y e k u h. last_code k y e (omega arith))))

  plains : (p q : Prog ℕ) (a : ℕ) → run p s a ≡ run q s a → ◌≡◌ {A = RunResult (Result Stop ℕ)} (run (lift p) s a) (run (lift q) s a)
  unfolding lift
  plains p q a e = run_bind p _ s a ∙ ap (λ (o : RunResult ℕ). run (done (ok o.value)) s o.at) e ∙ sym (run_bind q _ s a)

  pub increment-agrees : length s ≤ longest_stream → (a : ℕ) → Agree Increment s a S.increment (lift O.increment)
  increment-agrees l a = a-same (plains _ _ a (increment-fuel s l (3 * stream_fuel) (omega arith) 0 a)) (both-loops (3 * stream_fuel) a (omega arith))
