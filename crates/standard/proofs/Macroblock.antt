-- 2.4.2.7: a macroblock. Assumes RULES Q1.
use mathlib.Core.Path.{◌≡◌, refl, sym, ap, ◌∙◌, subst}
use mathlib.Core.Bool.{Bool, true, false, cond, not, ◌&&◌, ◌||◌, false≢true}
use mathlib.Core.List.{List}
use Prim.Native.Nat.{ℕ, ◌≤◌}
use native.Mathlib.Omega.{arith}
use lib.Dec.{eqb}
use lib.IntN.{ℤ, pos, nat_abs, ◌+ℤ◌}
use lib.ListN.{length}
use lib.Signed.{lt_z, le_z}
use Rattle.laws.proofs.Tests.{both}
use Rattle.laws.proofs.Ints.{v, lit, ◌⊕◌, ◌⊖◌, le_yes, yes_le, yes_lt, no_lt, no_le, lt_yes}
use Rattle.bits.specs.Bounds.{longest_stream}
use Rattle.bits.specs.Programs.{Prog, done, run, bind}
use Rattle.bits.proofs.Programs.{run_bind}
use Rattle.codes.specs.Codes.{code_block_pattern}
use Rattle.picture_state.specs.declared.types.{Context.Context, Matrices.Matrices, Slice.Slice}
use Rattle.picture_state.specs.State.{SliceState, slice_state, fresh_block}
use Rattle.bits.proofs.Programs.{run_bind}
use Rattle.picture_state.specs.Result.{Result, ok, error, if_ok, bind_result, lift, from_result, pure}
use Rattle.picture_state.specs.Stop.{Stop}
use Rattle.macroblock_head.specs.Heads as H
use Rattle.picture_state.specs.Flags.{flag}
use Rattle.macroblock_head.specs.Heads.{macroblock_type}
use Rattle.macroblock_head.specs.Predictions as P
use Rattle.blocks.specs.Blocks as O
use Rattle.macroblock.specs.Macroblocks as M
use Rattle.standard.specs.Standard as S
use Rattle.standard.specs.Standard.Prelude.{Forbidden}
use Rattle.picture_state.proofs.Runs.{run_lift}
use Rattle.standard.proofs.Agreement.{Agree, a-by, a-pure, a-step, a-lift, a-bind, a-shall, a-after}
use Rattle.standard.proofs.Related.{In, Own, own, slice_of, eights, past_start, for_next, back_next, Related, Rule, coding}
use Rattle.standard.proofs.Increment.{increment-agrees}
use Rattle.standard.proofs.Heads.{zero_in, their, reset, inter-head, intra-head}
use Rattle.standard.proofs.Skips.{Ready, predicted_meets, first-ready, later-ready}
use Rattle.standard.proofs.Blocks.{left_six, intra-blocks, inter-blocks}
use Rattle.standard.proofs.Types.{intra-alone, no-backward}

pattern-agrees : (s : List ℕ) (a : ℕ) → Agree ◌≡◌ s a S.coded_block_pattern (lift code_block_pattern)
unfolding lift
pattern-agrees s a =
    let c = (run code_block_pattern s a).value in
    a-by _ _ (run_lift code_block_pattern (λ c. bind_result (S.shall (not (eqb c 0))) (λ u. pure c)) s a) (run_bind code_block_pattern (λ v. done (ok v)) s a)
    (a-shall {Q = ◌≡◌} (not (eqb c 0)) (λ u. pure c) (λ z. a-pure refl)).is

either : {X : Type 0} (b : Bool) → (b ≡ true → X) → (b ≡ false → X) → X
either true p q = p refl
either false p q = q refl

-- the relation from its parts
related : (g : S.Coding) (x : S.Variables) (w : SliceState) (o : Own) (f b : S.Vector) → for_next g false x ≡ f → back_next g false x ≡ b
    → In g.forward f → In g.backward b → w ≡ slice_state (slice_of g x.previous_macroblock_address x.quantizer_scale f b o) fresh_block x.pels
    → o.for_set ≡ flag x.macroblock_type 8 → o.back_set ≡ flag x.macroblock_type 4
    → past_start (x.previous_macroblock_address +ℤ pos 1) x ≡ eights o → le_z x.past_intra_address x.previous_macroblock_address ≡ true
    → Related g false x w
related g x w o f b p q i j e s t d h =
    record {
      o = o;
      is = rw (p, q) e;
      for = rw p i;
      back = rw q j;
      flags = λ y z. (s, t);
      past = d;
      order = h;
      start = λ z. absurd (false≢true z);
    }

module _ (rule : Rule) (g : Context) (m : Matrices) (df db : S.Direction) (s : List ℕ) (first : Bool) (n : ℕ) (x : S.Variables) (l : List ℕ) (t : ℕ) where
  abbrev G : S.Coding
  G = coding rule g m df db

  abbrev A : ℤ
  A = x.previous_macroblock_address +ℤ pos n

  -- the standard's variables behind the macroblock
  abbrev after : Bool → ℕ → S.Vector → S.Vector → S.Blocks → S.Variables
  after intra q for back b = record {
    previous_macroblock_address = A;
    past_intra_address = cond intra A x.past_intra_address;
    quantizer_scale = q;
    macroblock_type = t;
    past = b.past;
    for_prev = for;
    back_prev = back;
    pels = b.pels;
  }

  -- the steps behind the vectors
  abbrev their_rest : Bool → Bool → ℕ → S.Vector → S.Vector → Prog (Result Forbidden S.Variables)
  their_rest intra pattern q for back =
      bind_result (from_result (cond intra (ok l) (S.predicted G t (nat_abs A) for back l))) (λ p.
      bind_result (cond pattern S.coded_block_pattern (pure 0)) (λ cbp.
      bind_result (S.blocks G intra (S.no_intra_just_before A x) cbp q (nat_abs A) (record { past = x.past; pels = p }))
      (λ b. pure (after intra q for back b))))

  abbrev ours_rest : Bool → Bool → Slice → Prog (Result Stop SliceState)
  ours_rest intra pattern y =
      bind_result (from_result (cond intra (ok l) (P.predict g (nat_abs y.macroblock_address) y l))) (λ l.
      bind_result (lift (cond pattern (code_block_pattern) (cond intra (done 63) (done 0)))) (λ c. O.blocks g m intra c (slice_state y fresh_block l)))

  -- 2.4.4.1: behind an intra macroblock the pasts are kept for the next address
  intra-rest : (q : ℕ) (f b : S.Vector) (a : ℕ) (y cb cr : ℤ) → flag t 1 ≡ true → flag t 8 ≡ false → past_start A x ≡ eights (own (flag t 8) (flag t 4) y cb cr)
      → Agree (Related G false) s a (their_rest true false q f b)
      (ours_rest true false (slice_of G A q S.zero-vector S.zero-vector (own (flag t 8) (flag t 4) y cb cr)))
  unfolding bind_result if_ok bind lift
  intra-rest q f b a y cb cr h1 h8 p =
      a-after (after true q f b)
      (intra-blocks rule g m df db A q S.zero-vector S.zero-vector s (S.no_intra_just_before A x) (flag t 8) (flag t 4) 0 _ _ a
      (record { y = y; cb = cb; cr = cr; is = refl; past = left_six (S.no_intra_just_before A x) x.past ∙ p })) (λ z w r.
      related G (after true q f b z) w (own (flag t 8) (flag t 4) r.y r.cb r.cr) S.zero-vector S.zero-vector (for-0 (eqb g.picture_type 2))
      (rw h1 (back-0 (eqb g.picture_type 3))) (zero_in df) (zero_in db) r.is refl refl
      (rw (no_lt (lit 1) (v A ⊕ lit 1 ⊖ v A) (omega arith)) r.past) (yes_le (v A) (v A) (omega arith)))
    where
      for-0 : (p2 : Bool) → cond (cond p2 (not (flag t 8)) (flag t 1)) S.zero-vector f ≡ S.zero-vector
      for-0 true = rw h8
      for-0 false = rw h1

      back-0 : (p3 : Bool) → cond (not p3 || true) S.zero-vector b ≡ S.zero-vector
      back-0 true = refl
      back-0 false = refl

  -- behind any other they are not used again, and ours are 128
  inter-rest : (q : ℕ) (f b : S.Vector) (a : ℕ) → flag t 1 ≡ false → In df f → In db b
      → (flag t 8 ≡ false → eqb g.picture_type 2 ≡ true → f ≡ S.zero-vector)
      → (eqb g.picture_type 3 ≡ false → b ≡ S.zero-vector) → le_z x.past_intra_address x.previous_macroblock_address ≡ true → 1 ≤ n
      → Agree (Related G false) s a (their_rest false (flag t 2) q f b) (ours_rest false (flag t 2) (slice_of G A q f b (reset t)))
  unfolding lift bind
  inter-rest q f b a h1 i j kf kb order some =
      a-bind _ _ (a-step _ _ (predicted_meets G A q f b (reset t) t (nat_abs A) l (λ e. (refl, refl)))) (λ p p' e same.
      subst (λ (p' : List ℕ). Agree (Related G false) s e (after_prediction p) (our_pattern p')) same (
      a-bind _ _ (patterns (flag t 2) e) (λ cbp c e z.
      subst (λ (c : ℕ). Agree (Related G false) s e (their_blocks p cbp) (our_blocks p c)) z (
      a-after (after false q f b)
      (inter-blocks rule g m df db A q f b s (S.no_intra_just_before A x) (reset t) x.past cbp _ _ e (record { is = refl; past = refl })) (λ z w r.
      related G (after false q f b z) w (reset t) f b (for-is (eqb g.picture_type 2) kf (flag t 8) refl) (back_is (eqb g.picture_type 3) refl)
      i j r.is refl refl
      (rw (yes_lt (lit 1) (v x.previous_macroblock_address ⊕ lit n ⊕ lit 1 ⊖ v x.past_intra_address)
      (omega (arith, le_yes (v x.past_intra_address) (v x.previous_macroblock_address) order))) refl)
      (yes_le (v x.past_intra_address) (v x.previous_macroblock_address ⊕ lit n)
      (omega (arith, le_yes (v x.past_intra_address) (v x.previous_macroblock_address) order))))))))
    where
      their_blocks : List ℕ → ℕ → Prog (Result Forbidden S.Variables)
      their_blocks p cbp = bind_result (S.blocks G false (S.no_intra_just_before A x) cbp q (nat_abs A) (record { past = x.past; pels = p }))
          (λ b'. pure (after false q f b b'))

      after_prediction : List ℕ → Prog (Result Forbidden S.Variables)
      after_prediction p = bind_result (cond (flag t 2) S.coded_block_pattern (pure 0)) (their_blocks p)

      our_blocks : List ℕ → ℕ → Prog (Result Stop SliceState)
      our_blocks p c = O.blocks g m false c (slice_state (slice_of G A q f b (reset t)) fresh_block p)

      our_pattern : List ℕ → Prog (Result Stop SliceState)
      our_pattern p = bind_result (lift (cond (flag t 2) (code_block_pattern) (done 0))) (our_blocks p)

      patterns : (b : Bool) (e : ℕ) → Agree ◌≡◌ s e (cond b S.coded_block_pattern (pure 0)) (lift (cond b (code_block_pattern) (done 0)))
      patterns true e = pattern-agrees s e
      patterns false e = a-pure refl

      for-is : (p2 : Bool) → (flag t 8 ≡ false → p2 ≡ true → f ≡ S.zero-vector) → (h8 : Bool) → flag t 8 ≡ h8
          → cond (cond p2 (not (flag t 8)) (flag t 1)) S.zero-vector f ≡ f
      for-is true k true e = rw e
      for-is true k false e = rw e (sym (k e refl))
      for-is false k h8 e = rw h1

      back_is : (p3 : Bool) → eqb g.picture_type 3 ≡ p3 → cond (not p3 || flag t 1) S.zero-vector b ≡ b
      back_is true e = rw h1
      back_is false e = sym (kb e)

-- ---- from the type on

module _ (rule : Rule) (g : Context) (m : Matrices) (df db : S.Direction) (s : List ℕ) where
  abbrev C : S.Coding
  C = coding rule g m df db

  start-0 : (first : Bool) (u : ℕ) (x : S.Variables) → eqb g.picture_type 3 ≡ false → S.back_start C first u x ≡ S.zero-vector
  start-0 true u x e = refl
  start-0 false u x e = rw e

  coded-agrees : (first : Bool) (n u : ℕ) (x : S.Variables) (l : List ℕ) (w : SliceState) (a : ℕ) → Ready C first n u x l w
      → Agree (Related C false) s a (S.coded_macroblock C first n u x l) (M.body g m w)
  unfolding S.coded_macroblock M.body M.predict_unless_intra H.pattern
  coded-agrees first n u x l w a r =
      let p = macroblock_type g.picture_type in
      let t = (run p s a).value in
      let e = (run p s a).at in
      let A = x.previous_macroblock_address +ℤ pos n in
      let f = S.for_start C first u x in
      let b = S.back_start C first u x in
      let o = r.o in
      let F : ℕ → S.Vector → S.Vector → Prog (Result Forbidden S.Variables) = their_rest rule g m df db s first n x l t (flag t 1) (flag t 2) in
      let K : Slice → Prog (Result Stop SliceState) = ours_rest rule g m df db s first n x l t (flag t 1) (flag t 2) in
      let intra : S.in_table g.picture_type t ≡ true → flag t 1 ≡ true
      → Agree (Related C false) s e (their C t x.quantizer_scale f b F)
      (bind_result (lift (H.head g.picture_type t (slice_of C A x.quantizer_scale f b o))) K) = λ tab h.
      let q = intra-alone g.picture_type t tab h in
      intra-head C A x.quantizer_scale f b o t r.for r.back F K h q.0 q.1 (λ q' f' e.
      let y = slice_of C A q' S.zero-vector S.zero-vector (own (flag t 8) (flag t 4) o.y o.cb o.cr) in
      subst (λ (z : Bool). Agree (Related C false) s e (their_rest rule g m df db s first n x l t z (flag t 2) q' f' b)
      (ours_rest rule g m df db s first n x l t z (flag t 2) y)) (sym h) (
      subst (λ (z : Bool). Agree (Related C false) s e (their_rest rule g m df db s first n x l t true z q' f' b)
      (ours_rest rule g m df db s first n x l t true z y)) (sym q.2) (
      intra-rest rule g m df db s first n x l t q' f' b e o.y o.cb o.cr h q.0 r.past))) e in
      let inter : S.in_table g.picture_type t ≡ true → flag t 1 ≡ false
      → Agree (Related C false) s e (their C t x.quantizer_scale f b F)
      (bind_result (lift (H.head g.picture_type t (slice_of C A x.quantizer_scale f b o))) K) = λ tab h.
      inter-head C A x.quantizer_scale f b o t r.for r.back F K h (λ q' f' b' e i j kf kb.
      let y = slice_of C A q' f' b' (reset t) in
      subst (λ (z : Bool). Agree (Related C false) s e (their_rest rule g m df db s first n x l t z (flag t 2) q' f' b')
      (ours_rest rule g m df db s first n x l t z (flag t 2) y)) (sym h) (
      inter-rest rule g m df db s first n x l t q' f' b' e h i j kf (λ z. kb (no-backward g.picture_type t tab z) ∙ start-0 first u x z) r.order
      r.some)) e in
      subst (λ (w : SliceState). Agree (Related C false) s a (S.coded_macroblock C first n u x l) (M.body g m w)) (sym r.is) (
      a-lift p p _ _ refl (a-shall _ _ (λ tab. either (flag t 1) (intra tab) (inter tab))))

  -- ---- the whole

  abbrev inside : ℤ → Bool
  inside A = le_z (pos 0) A && lt_z A (pos g.sizes.mb_size)

  -- an address in the picture
  not-below : (A : ℤ) → inside A ≡ true → lt_z A (pos 0) ≡ false
  not-below A h = no_lt (v A) (lit 0) (omega (arith, le_yes (lit 0) (v A) (both (le_z (pos 0) A) _ h).0))

  not-above : (A : ℤ) → inside A ≡ true → le_z (pos g.sizes.mb_size) A ≡ false
  not-above A h = no_le (lit g.sizes.mb_size) (v A) (omega (arith, lt_yes (v A) (lit g.sizes.mb_size) (both (le_z (pos 0) A) _ h).1))

  address_is : (first : Bool) (x : S.Variables) (w : SliceState) → Related C first x w → w.slice.macroblock_address ≡ x.previous_macroblock_address
  address_is first x w r = ap (λ (w : SliceState). w.slice.macroblock_address) r.is

  begins : (x : S.Variables) (w : SliceState) → Related C true x w → (n : ℕ) → 1 ≤ n → (e : ℕ) → inside (x.previous_macroblock_address +ℤ pos n) ≡ true
      → Agree (Related C false) s e (bind_result (from_result (S.skipped C true n x)) (S.coded_macroblock C true n (S.last_type C true n x) x))
      (M.first_macroblock g m n w)
  unfolding S.skipped bind_result if_ok bind M.first_macroblock
  begins x w r n some e h =
      let low : lt_z (w.slice.macroblock_address +ℤ pos n) (pos 0) ≡ false = ap (λ (z : ℤ). lt_z (z +ℤ pos n) (pos 0)) (address_is true x w r)
      ∙ not-below (x.previous_macroblock_address +ℤ pos n) h in
      let high : le_z (pos g.sizes.mb_size) (w.slice.macroblock_address +ℤ pos n)
      ≡ false = ap (λ (z : ℤ). le_z (pos g.sizes.mb_size) (z +ℤ pos n)) (address_is true x w r)
      ∙ not-above (x.previous_macroblock_address +ℤ pos n) h in
      rw (low, high)
      (coded-agrees true n (S.last_type C true n x) x x.pels (M.address_plus n w) e (first-ready C x w n some r))

  goes_on : (x : S.Variables) (w : SliceState) → Related C false x w → (n : ℕ) → 1 ≤ n → (e : ℕ) → inside (x.previous_macroblock_address +ℤ pos n) ≡ true
      → Agree (Related C false) s e (bind_result (from_result (S.skipped C false n x)) (S.coded_macroblock C false n (S.last_type C false n x) x))
      (M.later_macroblock g m n w)
  unfolding M.later_macroblock
  goes_on x w r n some e h =
      let high : le_z (pos g.sizes.mb_size) (w.slice.macroblock_address +ℤ pos n)
      ≡ false = ap (λ (z : ℤ). le_z (pos g.sizes.mb_size) (z +ℤ pos n)) (address_is false x w r)
      ∙ not-above (x.previous_macroblock_address +ℤ pos n) h in
      rw high
      (a-bind _ _ (a-step _ _ (later-ready C x w n some r)) (λ l y e k. coded-agrees false n (S.last_type C false n x) x l y e k))

  -- 2.4.2.7, 2.4.4: the standard's macroblock() and ours
  pub macroblock-agrees : length s ≤ longest_stream → (first : Bool) (x : S.Variables) (w : SliceState) (a : ℕ) → Related C first x w
      → Agree (Related C false) s a (S.macroblock C first x) (M.macroblock g m first w)
  unfolding S.macroblock M.macroblock
  macroblock-agrees l first x w a r =
      a-bind _ _ (increment-agrees s l a) (λ n k e i.
      subst (λ (k : ℕ). Agree (Related C false) s e (counted first x n) (cond first (M.first_macroblock g m k w) (M.later_macroblock g m k w))) i.same (
      a-shall _ _ (λ h. go first x w r n i.some e h)))
    where
      counted : Bool → S.Variables → ℕ → Prog (Result Forbidden S.Variables)
      counted first x n =
          bind_result (S.shall (le_z (pos 0) (x.previous_macroblock_address +ℤ pos n) && lt_z (x.previous_macroblock_address +ℤ pos n)
          (pos g.sizes.mb_size))) (λ z.
          bind_result (from_result (S.skipped C first n x)) (S.coded_macroblock C first n (S.last_type C first n x) x))

      go : (first : Bool) (x : S.Variables) (w : SliceState) → Related C first x w → (n : ℕ) → 1 ≤ n → (e : ℕ)
          → (le_z (pos 0) (x.previous_macroblock_address +ℤ pos n) && lt_z (x.previous_macroblock_address +ℤ pos n) (pos g.sizes.mb_size)) ≡ true
          → Agree (Related C false) s e (bind_result (from_result (S.skipped C first n x)) (S.coded_macroblock C first n (S.last_type C first n x) x))
          (cond first (M.first_macroblock g m n w) (M.later_macroblock g m n w))
      go true x w r n some e h = begins x w r n some e h
      go false x w r n some e h = goes_on x w r n some e h
