-- 2.4.4.2 to 2.4.4.4: predictions, and skipped macroblocks with what they reset. Assumes nothing.
use mathlib.Core.Path.{◌≡◌, refl, sym, ap, ◌∙◌, subst}
use mathlib.Core.Bool.{Bool, true, false, cond, not, ◌&&◌, false≢true}
use mathlib.Core.List.{List, []}
use Prim.Native.Nat.{ℕ, zero, suc, ◌+◌, ◌-◌, ◌≤◌}
use native.Mathlib.Omega.{arith}
use borrow.Author.Tests.{eqb-true, ltb-true, ltb-false, le-ltb, lt-ltb}
use lib.Dec.{eqb, ltb}
use lib.IntN.{ℤ, pos, nat_abs, ◌+ℤ◌}
use lib.Signed.{lt_z, le_z}
use Rattle.laws.proofs.Tests.{both}
use Rattle.laws.proofs.Ints.{v, lit, ◌⊕◌, ◌⊖◌, le_yes, lt_yes, yes_lt}
use Rattle.picture_state.specs.State.{SliceState, slice_state, fresh_block}
use Rattle.picture_state.specs.Result.{Result, ok, error, and_then}
use Rattle.picture_state.specs.Stop.{Stop}
use Rattle.macroblock_head.specs.Predictions as P
use Rattle.macroblock.specs.Macroblocks as M
use Rattle.picture_state.specs.Flags.{flag}
use Rattle.standard.specs.Standard as S
use Rattle.standard.specs.Standard.Prelude.{Forbidden}
use Rattle.standard.proofs.Agreement.{ResultMeets}
use Rattle.standard.proofs.Related.{In, motion_of, Own, own, slice_of, eights, past_start, for_next, back_next, Related}
use Rattle.standard.proofs.Heads.{zero_in}
use Rattle.standard.proofs.Predictions.{also_meets, from_meets}

-- ---- predictions

module _ (g : S.Coding) (A : ℤ) (q : ℕ) (for back : S.Vector) (o : Own) (t address : ℕ) (l : List ℕ) where
  pub predicted_meets : (eqb g.context.picture_type 3 ≡ true → (o.for_set ≡ flag t 8) × (o.back_set ≡ flag t 4))
      → ResultMeets ◌≡◌ (S.predicted g t address for back l) (P.predict g.context address (slice_of g A q for back o) l)
  unfolding S.predicted P.predict P.predict_both and_then
  predicted_meets e = go (eqb g.context.picture_type 3) e
    where
      X : Result Forbidden (List ℕ)
      X = S.predicted_from g address g.context.stores.fwd g.forward for false l

      X' : Result Stop (List ℕ)
      X' = P.predict_from g.context address g.context.stores.fwd (motion_of g.forward o.for_set for) false l

      Y : List ℕ → Result Forbidden (List ℕ)
      Y = S.predicted_from g address g.context.stores.bwd g.backward back true

      Y' : List ℕ → Result Stop (List ℕ)
      Y' = P.predict_from g.context address g.context.stores.bwd (motion_of g.backward o.back_set back) true

      Z : Result Forbidden (List ℕ)
      Z = S.predicted_from g address g.context.stores.bwd g.backward back false l

      Z' : Result Stop (List ℕ)
      Z' = P.predict_from g.context address g.context.stores.bwd (motion_of g.backward o.back_set back) false l

      idle : (w : Result Forbidden (List ℕ)) (u : Result Stop (List ℕ)) → ResultMeets ◌≡◌ w u → ResultMeets ◌≡◌ w (and_then u (λ l. ok l))
      idle (ok x) (ok y) h = h
      idle (ok x) (error d) h = h
      idle (error d) u h = tt

      flags : (F B : Bool)
          → ResultMeets ◌≡◌ (cond (F && B) (and_then X Y) (cond F X (cond B Z S.forbidden))) (cond F (and_then X' (λ l. cond B (Y' l) (ok l))) Z')
      flags true true =
          also_meets ◌≡◌ X X' Y Y' (from_meets g address g.context.stores.fwd g.forward o.for_set for false l)
          (λ x y h. subst (λ (y : List ℕ). ResultMeets ◌≡◌ (Y x) (Y' y)) h
          (from_meets g address g.context.stores.bwd g.backward o.back_set back true x))
      flags true false = idle X X' (from_meets g address g.context.stores.fwd g.forward o.for_set for false l)
      flags false true = from_meets g address g.context.stores.bwd g.backward o.back_set back false l
      flags false false = tt

      go : (b : Bool) → (b ≡ true → (o.for_set ≡ flag t 8) × (o.back_set ≡ flag t 4))
          → ResultMeets ◌≡◌ (cond (not b) X (cond (flag t 8 && flag t 4) (and_then X Y) (cond (flag t 8) X (cond (flag t 4) Z S.forbidden))))
          (cond (b && o.for_set) (and_then X' (λ l. cond o.back_set (Y' l) (ok l))) (cond b Z' X'))
      go true e =
          subst (λ (F : Bool). ResultMeets ◌≡◌ (cond (flag t 8 && flag t 4) (and_then X Y) (cond (flag t 8) X (cond (flag t 4) Z S.forbidden)))
          (cond F (and_then X' (λ l. cond o.back_set (Y' l) (ok l))) Z')) (sym (e refl).0)
          (subst (λ (B : Bool). ResultMeets ◌≡◌ (cond (flag t 8 && flag t 4) (and_then X Y) (cond (flag t 8) X (cond (flag t 4) Z S.forbidden)))
          (cond (flag t 8) (and_then X' (λ l. cond B (Y' l) (ok l))) Z')) (sym (e refl).1)
          (flags (flag t 8) (flag t 4)))
      go false e = from_meets g address g.context.stores.fwd g.forward o.for_set for false l

module _ (g : S.Coding) (A : ℤ) (q : ℕ) (for back : S.Vector) (o : Own) (t : ℕ) (e : eqb g.context.picture_type 3 ≡ true
    → (o.for_set ≡ flag t 8) × (o.back_set ≡ flag t 4)) where
  skipped_meets : (address n : ℕ) (l : List ℕ)
      → ResultMeets ◌≡◌ (S.skipped_from g t for back address n l) (P.predict_skipped g.context (slice_of g A q for back o) address n l)
  unfolding S.skipped_from P.predict_skipped
  skipped_meets address zero l = refl
  skipped_meets address (suc n) l =
      also_meets ◌≡◌ (S.predicted g t address for back l) _ _ _ (predicted_meets g A q for back o t address l e)
      (λ x y h. subst (λ (y : List ℕ). ResultMeets ◌≡◌ (S.skipped_from g t for back (address + 1) n x)
      (P.predict_skipped g.context (slice_of g A q for back o) (address + 1) n y)) h (skipped_meets (address + 1) n x))

-- ---- before the type is read: address, vectors and predictors as the macroblock behind one of the type t will use them

pub record Ready (g : S.Coding) (first : Bool) (n t : ℕ) (x : S.Variables) (l : List ℕ) (w : SliceState) : Type 0 where
  pub o : Own
  pub is : w ≡ slice_state (slice_of g (x.previous_macroblock_address +ℤ pos n) x.quantizer_scale (S.for_start g first t x) (S.back_start g first t x) o)
      fresh_block l
  pub for : In g.forward (S.for_start g first t x)
  pub back : In g.backward (S.back_start g first t x)
  pub past : past_start (x.previous_macroblock_address +ℤ pos n) x ≡ eights o
  pub order : le_z x.past_intra_address x.previous_macroblock_address ≡ true
  pub some : 1 ≤ n

-- 2.4.4.1: behind a skipped macroblock, and in the first macroblock of a slice, the pasts are 128 * 8
far-by : (first : Bool) (x : S.Variables) (n : ℕ) → cond first lt_z le_z x.past_intra_address x.previous_macroblock_address ≡ true
    → cond first 1 2 ≤ n → S.no_intra_just_before (x.previous_macroblock_address +ℤ pos n) x ≡ true
far-by true x n h l =
    yes_lt (lit 1) (v x.previous_macroblock_address ⊕ lit n ⊖ v x.past_intra_address) (omega (arith, lt_yes (v x.past_intra_address) (v _) h))
far-by false x n h l =
    yes_lt (lit 1) (v x.previous_macroblock_address ⊕ lit n ⊖ v x.past_intra_address) (omega (arith, le_yes (v x.past_intra_address) (v _) h))

right_meets : {A B D : Type 0} {R : A → B → Type 0} (Q : A → D → Type 0) (w : Result Forbidden A) (u : Result Stop B) (k : B → Result Stop D)
    → ResultMeets R w u
    → ((x : A) (y : B) → R x y → ResultMeets Q (ok x) (k y)) → ResultMeets Q w (and_then u k)
unfolding and_then
right_meets Q (ok x) (ok y) k h m = m x y h
right_meets Q (ok x) (error d) k h m = absurd h
right_meets Q (error d) u k h m = tt

not_true : (b : Bool) → not b ≡ true → b ≡ false
not_true true e = absurd (false≢true e)
not_true false e = refl

abbrev ours : S.Coding → S.Variables → Own → SliceState
ours g x o = slice_state (slice_of g x.previous_macroblock_address x.quantizer_scale (for_next g false x) (back_next g false x) o) fresh_block x.pels

abbrev dcs : Own → Own
dcs o = own o.for_set o.back_set (pos 128) (pos 128) (pos 128)

module _ (g : S.Coding) (x : S.Variables) (w : SliceState) (n : ℕ) (some : 1 ≤ n) where
  -- the first macroblock of a slice
  pub first-ready : Related g true x w → Ready g true n (S.last_type g true n x) x x.pels (M.address_plus n w)
  first-ready r =
      record {
        o = r.o;
        is = ap (M.address_plus n) r.is;
        for = r.for;
        back = r.back;
        past = rw (far-by true x n (r.start refl) some) (rw (far-by true x 1 (r.start refl) (omega arith)) at r.past);
        order = r.order;
        some = some;
      }

  abbrev from : ℕ
  from = nat_abs (x.previous_macroblock_address +ℤ pos 1)

  -- our state at this address, where a macroblock has been skipped
  abbrev skipped_to : ℤ → S.Vector → S.Vector → Own → List ℕ → SliceState
  skipped_to A f b o l = slice_state (slice_of g A x.quantizer_scale f b (dcs o)) fresh_block l

  abbrev Goal : SliceState → Type 0
  Goal w = ResultMeets (Ready g false n (S.last_type g false n x) x) (S.skipped g false n x) (M.advance g.context n w)

  module _ (r : Related g false x w) where
    -- none is skipped
    next-ready : 1 ≡ n → Goal (ours g x r.o)
    unfolding S.skipped M.advance
    next-ready e =
        subst (λ (n : ℕ). ResultMeets (Ready g false n (S.last_type g false n x) x) (S.skipped g false n x) (M.advance g.context n (ours g x r.o))) e
        (record { o = r.o; is = refl; for = r.for; back = r.back; past = r.past; order = r.order; some = omega arith })

    module _ (h : 2 ≤ n) where
      -- skipped macroblocks of the type t with the vectors f and b, from which the next one starts as if behind a macroblock of the type u
      skips-ready : (t u : ℕ) (f b : S.Vector) → (eqb g.context.picture_type 3 ≡ true → (r.o.for_set ≡ flag t 8) × (r.o.back_set ≡ flag t 4))
          → S.for_start g false u x ≡ f → S.back_start g false u x ≡ b → In g.forward f → In g.backward b
          → ResultMeets (Ready g false n u x) (S.skipped_from g t f b from (n - 1) x.pels)
          (and_then (P.predict_skipped g.context (skipped_to x.previous_macroblock_address f b r.o []).slice from (n - 1) x.pels)
          (λ l. ok (skipped_to (x.previous_macroblock_address +ℤ pos n) f b r.o l)))
      skips-ready t u f b k ef eb i j =
          right_meets (Ready g false n u x) (S.skipped_from g t f b from (n - 1) x.pels) _ _
          (skipped_meets g x.previous_macroblock_address x.quantizer_scale f b (dcs r.o) t k from (n - 1) x.pels) (λ l m e. record {
            o = dcs r.o;
            is = rw (ef, eb) (ap (skipped_to (x.previous_macroblock_address +ℤ pos n) f b r.o) (sym e));
            for = rw ef i;
            back = rw eb j;
            past = rw (far-by false x n r.order h);
            order = r.order;
            some = some;
          })

      -- in a P picture
      p-ready : eqb g.context.picture_type 2 ≡ true → Goal (ours g x r.o)
      unfolding S.skipped M.advance M.skip_reset
      p-ready p =
          let b : eqb g.context.picture_type 3 ≡ false = ap (λ (k : ℕ). eqb k 3) (eqb-true g.context.picture_type 2 p) in
          rw (le-ltb n 2 h, lt-ltb 1 n h, p, b)
          (skips-ready 0 0 S.zero-vector S.zero-vector (λ e. absurd (false≢true (sym b ∙ e))) (rw p refl) (rw b refl) (zero_in g.forward)
          (zero_in g.backward))

      -- in a B picture
      b-ready : eqb g.context.picture_type 2 ≡ false → Goal (ours g x r.o)
      unfolding S.skipped M.advance M.skip_reset
      b-ready p = go (eqb g.context.picture_type 3 && not (flag x.macroblock_type 1)) refl
        where
          t : ℕ
          t = x.macroblock_type

          go : (y : Bool) → (eqb g.context.picture_type 3 && not (flag t 1)) ≡ y → Goal (ours g x r.o)
          go true e =
              let c = both (eqb g.context.picture_type 3) (not (flag t 1)) e in
              let i : flag t 1 ≡ false = not_true _ c.1 in
              let kept : Bool → S.Vector = λ z. cond z S.zero-vector x.for_prev in
              let f : for_next g false x ≡ x.for_prev = ap (λ (z : Bool). kept (cond z (not (flag t 8)) (flag t 1))) p ∙ ap kept i in
              let b : back_next g false x ≡ x.back_prev = rw (c.0, i) in
              let skips = skips-ready t t x.for_prev x.back_prev (λ e. r.flags e refl) f b (rw f at r.for) (rw b at r.back) in
              rw (le-ltb n 2 h, lt-ltb 1 n h, p, c.0, i) skips
          go false e = rw (le-ltb n 2 h, p, e) tt

    pub later-ready : Goal w
    later-ready = subst Goal (sym r.is) (go (ltb n 2) refl (eqb g.context.picture_type 2) refl)
      where
        go : (t : Bool) → ltb n 2 ≡ t → (p : Bool) → eqb g.context.picture_type 2 ≡ p → Goal (ours g x r.o)
        go true e p q = next-ready (omega (arith, ltb-true n 2 e))
        go false e true q = p-ready (ltb-false n 2 e) q
        go false e false q = b-ready (ltb-false n 2 e) q
