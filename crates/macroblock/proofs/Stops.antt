-- RULES Q8, Q9: a macroblock ends a call exactly where its prediction, a skipped one before it or one of its blocks does. Assumes nothing.
use mathlib.Core.Path.{◌≡◌, refl, sym, ap, ◌∙◌}
use mathlib.Core.Bool.{Bool, true, false, cond}
use mathlib.Core.List.{List}
use mathlib.Core.Logic.{⊎_elim}
use Prim.Native.Nat.{ℕ, ◌-◌}
use lib.Dec.{ltb}
use lib.IntN.{pos, nat_abs, ◌+ℤ◌}
use lib.Signed.{le_z}
use Rattle.bits.specs.Programs.{Prog, RunResult, done, run}
use Rattle.picture_state.specs.declared.types.{Context.Context, Matrices.Matrices, Slice.Slice}
use Rattle.picture_state.specs.State.{SliceState, slice_state}
use Rattle.picture_state.specs.Result.{Result, ok, error, and_then, if_ok, bind_result, lift, from_result}
use Rattle.picture_state.specs.Stop.{Stop}
use Rattle.picture_state.specs.Flags.{is_intra}
use Rattle.picture_state.proofs.Results.{error-is_not-ok, error_injective}
use Rattle.picture_state.proofs.Runs.{run_lift, run-result}
use Rattle.macroblock_head.specs.Increments.{increment}
use Rattle.macroblock_head.specs.Heads.{macroblock_type, head, pattern}
use Rattle.macroblock_head.specs.Predictions.{predict, predict_skipped}
use Rattle.macroblock_head.specs.Stops.{PredictionStop, SkippedStop}
use Rattle.macroblock_head.proofs.Stops.{predict-stopped, skipped-stopped, then-error}
use Rattle.blocks.specs.Blocks.{blocks}
use Rattle.blocks.proofs.Stops.{blocks-stopped, blocks-stops}
use Rattle.macroblock.specs.Macroblocks.{address_plus, is_outside, skip_reset, advance, predict_unless_intra, body, first_macroblock, later_macroblock}
use Rattle.macroblock.specs.Macroblocks.{macroblock}
use Rattle.macroblock.specs.Stops.{type_at, head_at, pattern_at, BodyStop, in_prediction, in_blocks, MacroblockStop, first_body, in-skipped, later-body}

abbrev value_of : {A : Type 0} → RunResult A → A
value_of o = o.value

-- ---- the predictions

module _ (g : Context) {e : Stop} where
  -- RULES 7.14, Q9: a macroblock whose prediction stops is not intra
  pub unless-stopped : (t : ℕ) (x : Slice) (l : List ℕ) → predict_unless_intra g t x l ≡ error e
      → (is_intra t ≡ false) × PredictionStop g (nat_abs x.macroblock_address) x l e
  unfolding predict_unless_intra
  unless-stopped t x l = go (is_intra t)
    where
      go : (b : Bool) → cond b (ok l) (predict g (nat_abs x.macroblock_address) x l) ≡ error e
          → (b ≡ false) × PredictionStop g (nat_abs x.macroblock_address) x l e
      go true h = absurd (error-is_not-ok (sym h))
      go false h = (refl, predict-stopped g x (nat_abs x.macroblock_address) l h)

  -- RULES 7.11, Q9: where those that are skipped stop
  pub advance-stopped : (n : ℕ) (w : SliceState) → advance g n w ≡ error e
      → SkippedStop g (skip_reset g w.slice) (nat_abs (w.slice.macroblock_address +ℤ pos 1)) (n - 1) w.store e
  unfolding advance
  advance-stopped n w = go (ltb n 2)
    where
      skipped : Result Stop (List ℕ)
      skipped = predict_skipped g (skip_reset g w.slice) (nat_abs (w.slice.macroblock_address +ℤ pos 1)) (n - 1) w.store

      go : (b : Bool)
          → cond b (ok (address_plus 1 w)) (and_then skipped (λ l. ok (address_plus n (slice_state (skip_reset g w.slice) w.block_data l)))) ≡ error e
          → SkippedStop g (skip_reset g w.slice) (nat_abs (w.slice.macroblock_address +ℤ pos 1)) (n - 1) w.store e
      go true h = absurd (error-is_not-ok (sym h))
      go false h =
          skipped-stopped g (skip_reset g w.slice) (nat_abs (w.slice.macroblock_address +ℤ pos 1)) (n - 1) w.store
          (⊎_elim (λ k. k) (λ k. absurd (error-is_not-ok (sym k.2))) (then-error skipped _ h))

-- ---- the body

module _ (g : Context) (m : Matrices) (w : SliceState) (s : List ℕ) (a : ℕ) where
  abbrev predicted : Result Stop (List ℕ)
  predicted = predict_unless_intra g (type_at g w s a).value (head_at g w s a).value w.store

  abbrev rest : List ℕ → Prog (Result Stop SliceState)
  rest l =
      bind_result (lift (pattern (type_at g w s a).value))
      (λ c. blocks g m (is_intra (type_at g w s a).value) c (slice_state (head_at g w s a).value w.block_data l))

  body_run : (run (body g m w) s a).value ≡ (run (if_ok rest predicted) s (head_at g w s a).at).value
  unfolding body
  body_run =
      ap value_of
      (run_lift (macroblock_type g.picture_type) _ s a
      ∙ run_lift (head g.picture_type (type_at g w s a).value w.slice) _ s (type_at g w s a).at
      ∙ run-result predicted rest s (head_at g w s a).at)

  rest-run : (l : List ℕ) → (run (rest l) s (head_at g w s a).at).value
      ≡ (run (blocks g m (is_intra (type_at g w s a).value) (pattern_at g w s a).value (slice_state (head_at g w s a).value w.block_data l)) s
      (pattern_at g w s a).at).value
  rest-run l = ap value_of (run_lift (pattern (type_at g w s a).value) _ s (head_at g w s a).at)

  pub body-stopped : {e : Stop} → (run (body g m w) s a).value ≡ error e → BodyStop g m w s a e
  unfolding if_ok run
  body-stopped {e} h = go predicted refl (sym body_run ∙ h)
    where
      go : (v : Result Stop (List ℕ)) → predicted ≡ v → (run (if_ok rest v) s (head_at g w s a).at).value ≡ error e → BodyStop g m w s a e
      go (ok l) q k = in_blocks q (blocks-stopped g m _ _ _ s _ (sym (rest-run l) ∙ k))
      go (error d) q k = in_prediction (q ∙ ap error (error_injective k))

  pub body-stops : {e : Stop} → BodyStop g m w s a e → (run (body g m w) s a).value ≡ error e
  unfolding if_ok run
  body-stops (in_prediction q) = body_run ∙ ap (λ (v : Result Stop (List ℕ)). (run (if_ok rest v) s (head_at g w s a).at).value) q
  body-stops (in_blocks {l} q k) =
      body_run ∙ ap (λ (v : Result Stop (List ℕ)). (run (if_ok rest v) s (head_at g w s a).at).value) q ∙ rest-run l ∙ blocks-stops g m _ _ _ s _ k

-- ---- the macroblock

module _ (g : Context) (m : Matrices) (w : SliceState) (s : List ℕ) (a : ℕ) where
  abbrev n : ℕ
  n = (run increment s a).value

  abbrev b : ℕ
  b = (run increment s a).at

  macroblock-run : (first : Bool)
      → (run (macroblock g m first w) s a).value ≡ (run (cond first (first_macroblock g m n w) (later_macroblock g m n w)) s b).value
  unfolding macroblock
  macroblock-run first = ap value_of (run_lift increment _ s a)

  first-stopped : {e : Stop} → (run (first_macroblock g m n w) s b).value ≡ error e → MacroblockStop g m w s a e true
  unfolding first_macroblock run
  first-stopped {e} = go (is_outside g (address_plus n w)) refl
    where
      go : (t : Bool) → is_outside g (address_plus n w) ≡ t → (run (cond t (done (ok (address_plus n w))) (body g m (address_plus n w))) s b).value ≡ error e
          → MacroblockStop g m w s a e true
      go true q h = absurd (error-is_not-ok (sym h))
      go false q h = first_body q (body-stopped g m (address_plus n w) s b h)

  -- behind those that are skipped
  abbrev advanced : Result Stop SliceState → RunResult (Result Stop SliceState)
  advanced v = run (if_ok (body g m) v) s b

  later-stopped : {e : Stop} → (run (later_macroblock g m n w) s b).value ≡ error e → MacroblockStop g m w s a e false
  unfolding later_macroblock if_ok run
  later-stopped {e} = go (le_z (pos g.sizes.mb_size) (w.slice.macroblock_address +ℤ pos n)) refl
    where
      on : le_z (pos g.sizes.mb_size) (w.slice.macroblock_address +ℤ pos n) ≡ false → (v : Result Stop SliceState) → advance g n w ≡ v
          → (advanced v).value ≡ error e → MacroblockStop g m w s a e false
      on q (ok x) r h = later-body q r (body-stopped g m x s b h)
      on q (error d) r h = in-skipped q (r ∙ ap error (error_injective h))

      go : (t : Bool) → le_z (pos g.sizes.mb_size) (w.slice.macroblock_address +ℤ pos n) ≡ t
          → (run (cond t (done (ok w)) (bind_result (from_result (advance g n w)) (body g m))) s b).value ≡ error e → MacroblockStop g m w s a e false
      go true q h = absurd (error-is_not-ok (sym h))
      go false q h = on q (advance g n w) refl (sym (ap value_of (run-result (advance g n w) (body g m) s b)) ∙ h)

  -- RULES Q8, Q9
  pub macroblock-stopped : {e : Stop} (first : Bool) → (run (macroblock g m first w) s a).value ≡ error e → MacroblockStop g m w s a e first
  macroblock-stopped true h = first-stopped (sym (macroblock-run true) ∙ h)
  macroblock-stopped false h = later-stopped (sym (macroblock-run false) ∙ h)

  later-run : le_z (pos g.sizes.mb_size) (w.slice.macroblock_address +ℤ pos n) ≡ false
      → (run (later_macroblock g m n w) s b).value ≡ (advanced (advance g n w)).value
  unfolding later_macroblock
  later-run q =
      ap (λ (t : Bool). (run (cond t (done (ok w)) (bind_result (from_result (advance g n w)) (body g m))) s b).value) q
      ∙ ap value_of (run-result (advance g n w) (body g m) s b)

  pub macroblock-stops : {e : Stop} (first : Bool) → MacroblockStop g m w s a e first → (run (macroblock g m first w) s a).value ≡ error e
  unfolding first_macroblock if_ok run
  macroblock-stops _ (first_body q k) =
      macroblock-run true ∙ ap (λ (t : Bool). (run (cond t (done (ok (address_plus n w))) (body g m (address_plus n w))) s b).value) q
      ∙ body-stops g m (address_plus n w) s b k
  macroblock-stops _ (in-skipped q r) = macroblock-run false ∙ later-run q ∙ ap (λ (v : Result Stop SliceState). (advanced v).value) r
  macroblock-stops _ (later-body {x} q r k) =
      macroblock-run false ∙ later-run q ∙ ap (λ (v : Result Stop SliceState). (advanced v).value) r ∙ body-stops g m x s b k
